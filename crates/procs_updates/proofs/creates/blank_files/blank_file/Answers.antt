use Rattle.std.proofs.Common.{sym, subst}
use Rattle.nfs_spec.specs.Procedures.Create.{no_bytes}
use Rattle.procs_updates.proofs.CreatesLemmas.BlankFiles.{blank_is_fresh}
use Rattle.procs_updates.specs.Creates.Making.{IsFresh}
use Rattle.procs_updates.proofs.creates.blank_files.blank_file.Goals as goal

pub returns : goal.returns
returns c = λ target.
    subst (λ h. IsFresh c.args.ctx.now h target c.args.mode c.args.verifier no_bytes) (sym c.blank_inode_attributes.ensures)
    (blank_is_fresh c.args.ctx.now target c.args.mode c.args.verifier)

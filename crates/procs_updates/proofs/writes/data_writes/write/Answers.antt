use Rattle.std.proofs.Common.{◌∙◌}
use Rattle.nfs_spec.specs.Procedures.Write.{write}
use Rattle.procs_updates.proofs.WritesLemmas.Acted.{acted, not_found}
use Rattle.procs_updates.proofs.WritesLemmas.SoundHeads.{sound_inode_attributes}
use Rattle.procs_updates.proofs.WritesLemmas.Touched.{touched_sound}
use Rattle.procs_updates.proofs.writes.data_writes.write.Goals as goal

pub returns-in-Err-clause-ok : goal.returns-in-Err-clause-ok
returns-in-Err-clause-ok g c = λ world tree stands good now.
    let is = (rw c.in-Err.is at c.in_ok-status.ensures.ok) world tree stands in (
      tree,
      not_found tree c.args.handle.now.bytes _ c.in-Err.status c.unfound.result.outcome c.unfound.result.file is
          c.unfound.ensures.outcome c.unfound.ensures.file,
      stands,
    )

pub returns-in_ok-done-in-Ok-clause-ok : goal.returns-in_ok-done-in-Ok-clause-ok
returns-in_ok-done-in-Ok-clause-ok g c = λ world tree stands good now.
    let named = (rw c.in-Ok.is at c.in_ok-status.ensures.ok) world tree stands in
    let file = c.in-Ok.file in
    let body = named.0 in
    let at = named.2 in
    let done = c.in_ok-done-in-Ok.ensures.ok world tree body stands at
    (touched_sound tree.geometry.inodes c.args.ctx.now.moment file now.moment
    (sound_inode_attributes tree file body good at.there at.fits)) in
    acted tree c.args.handle.now.bytes
    (write tree c.args.ctx.now c.args.offset c.args.count c.args.stability c.args.text.now) file body named.1
    (g.F.Files.stands c.write_in.new.files world) c.changed.result.outcome c.in_ok-done-in-Ok.done.inode_attributes
    c.changed.result.file at.fits
    (record {
      answered = c.changed.ensures.outcome ∙ done.answered;
      leads = done.leads;
      number_is = done.number_is;
      body = done.body;
      there = done.there;
    })
    c.changed.ensures.file

-- What CREATE makes, where its tests are passed.
use Rattle.std.proofs.Common.{◌≡◌, ℕ, ◌*◌, ◌≤◌, ap, refl, List, Option, None}
use Rattle.base.specs.declared.TheConstants.{BLOCK_BYTES, MODE_BITS}
use Rattle.nfs_types.specs.Fits.{NewAttributesFit}
use Rattle.nfs_types.specs.declared.attributes.FileKind.TheVariants as kinds
use Rattle.nfs_types.specs.declared.attributes.NewAttributes.{NewAttributes}
use Rattle.nfs_types.specs.declared.ctx.Ctx.{Ctx}
use Rattle.nfs_types.specs.declared.verifier.Verifier.{Verifier}
use Rattle.nfs_spec.specs.Model.Node.{Node}
use Rattle.nfs_spec.specs.Model.Sound.{SoundVerifier}
use Rattle.nfs_spec.specs.Model.Tree.{Tree}
use Rattle.nfs_spec.proofs.ProceduresLemmas.TreeChanges.{Placed}
use Rattle.nfs_spec.specs.Procedures.Create.{no_bytes}
use Rattle.nfs_spec.specs.Procedures.Fresh.{nothing_given}
use Rattle.nfs_spec.specs.Procedures.Places.{named_file}
use Rattle.nfs_types.specs.Fits.{AreBytes}
use Rattle.procs_updates.proofs.CreatesLemmas.Added.{no_blocks}
use Rattle.procs_updates.proofs.CreatesLemmas.Refused.{no_bytes_sound}
use Rattle.procs_updates.specs.Creates.Making.{CanMake, IsFresh, IsNewName, blank_inode_attributes}

pub blank_is_fresh : (ctx : Ctx) (target : List ℕ) (mode : ℕ) (verifier : Option Verifier)
    → IsFresh ctx (blank_inode_attributes ctx kinds.Regular mode verifier 1) target mode verifier no_bytes
blank_is_fresh ctx target mode verifier = record {
  is = refl;
  fits = record {
    kind = refl;
    size = refl;
    used = ap (λ n. BLOCK_BYTES * n) no_blocks;
    parent = refl;
  };
  first = refl;
}

pub nothing_fits : NewAttributesFit nothing_given
nothing_fits = record { mode = tt; uid = tt; gid = tt; size = tt; atime = tt; mtime = tt }

pub can_make_file : (tree : Tree) (at : ℕ) (directory : Node) (name : List ℕ) (wanted : NewAttributes) (mode : ℕ)
    (verifier : Option Verifier) → IsNewName tree directory name → NewAttributesFit wanted → mode ≤ MODE_BITS
    → SoundVerifier no_bytes verifier → CanMake tree at directory name wanted mode verifier no_bytes
can_make_file tree at directory name wanted mode verifier new fits bits sound = record {
  directory_is = new.directory_is;
  lawful = new.lawful;
  short = new.short;
  not_own = new.not_own;
  absent = new.absent;
  bytes = new.bytes;
  wanted_fits = fits;
  mode_bits = bits;
  empty = refl;
  parent = λ no_dir. cc;
  not_full = λ no_dir. cc;
  verifier_fits = sound;
  body_sound = no_bytes_sound;
}

pub new_name : (tree : Tree) (directory : Node) (name : List ℕ) → Placed directory name
    → named_file tree directory name ≡ None → AreBytes name → IsNewName tree directory name
new_name tree directory name placed absent bytes = record {
  directory_is = placed.directory_is;
  lawful = placed.lawful;
  short = placed.short;
  not_own = placed.not_own;
  absent = absent;
  bytes = bytes;
}

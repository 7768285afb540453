-- A file that passed the tests of both places.
use Rattle.std.specs.Prelude.{◌≡◌, Some, None}
use Rattle.nfs_types.specs.Fits.{AreBytes}
use Rattle.nfs_types.specs.declared.ctx.Ctx.{Ctx}
use Rattle.nfs_spec.specs.Model.Node.{Body}
use Rattle.nfs_spec.specs.Model.Sound.{Sound, SoundCtx}
use Rattle.nfs_spec.specs.Model.Tree.{Tree}
use Rattle.nfs_spec.specs.Procedures.Rename.{Dentry, file_in, places_refusal}
use Rattle.procs_files.specs.declared.inode_attributes.InodeAttributes.{InodeAttributes}
use Rattle.procs_files.specs.Heads.{IsFileIn, node_of}

-- In a sound tree the first place names this file, and no test of both places refuses it.
pub record CanRename (tree : Tree) (ctx : Ctx) (source target : Dentry) (file : InodeAttributes) (inside : Body) : Type 0 where
  pub sound : Sound tree
  pub now : SoundCtx ctx
  pub tested : places_refusal tree ctx.credential source target ≡ None
  pub found : file_in tree source ≡ Some (file.number, node_of file inside)
  pub there : IsFileIn tree file inside
  pub bytes : AreBytes target.name

-- A sound inode of a directory, or of a link, has no double indirect block.
use Rattle.std.proofs.Common.{◌≡◌, ◌≤◌, subst, true, nat_eq}
use Rattle.base.specs.declared.TheConstants.{FIRST_DOUBLE_INDEX}
use Rattle.layout.specs.declared.geometry.Geometry.{Geometry}
use Rattle.layout.specs.declared.inode.Inode.{Inode}
use Rattle.layout.specs.declared.inode.InodeKind.{InodeKind}
use Rattle.layout.specs.declared.inode.InodeKind.TheVariants.{Directory, Link}
use Rattle.layout.specs.Decode.{span_of}
use Rattle.layout.specs.InodeForm.{SoundInode, is_sound_inode, is_sound_kind}
use Rattle.image_read.proofs.LawsLemmas.SoundKinds.{few_spanned, no_double_of_directory, no_double_of_link}

module _ (g : Geometry) (inode : Inode) (sound : SoundInode g inode) where
  good : is_sound_kind g inode.kind inode ≡ true
  unfolding is_sound_inode
  good = sound.good

  good_as : (kind : InodeKind) → inode.kind ≡ kind → is_sound_kind g kind inode ≡ true
  good_as kind is = subst (λ k. is_sound_kind g k inode ≡ true) is good

  pub no_double_in_directory : inode.kind ≡ Directory → nat_eq inode.double 0 ≡ true
  no_double_in_directory is = no_double_of_directory g inode (good_as Directory is)

  pub no_double_in_link : inode.kind ≡ Link → nat_eq inode.double 0 ≡ true
  no_double_in_link is = no_double_of_link g inode (good_as Link is)

  pub few_in_directory : inode.kind ≡ Directory → span_of inode ≤ FIRST_DOUBLE_INDEX
  few_in_directory is = few_spanned g inode (good_as Directory is)

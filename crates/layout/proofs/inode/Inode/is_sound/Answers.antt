use Rattle.layout.specs.InodeForm.{is_sound_inode}
use Rattle.layout.proofs.inode.Inode.is_sound.Goals as goal

pub returns : goal.returns
unfolding is_sound_inode
returns c = c.is_sound_kind.ensures

use Rattle.layout.proofs.Spelled.{read_back}
use Rattle.layout.proofs.spellings.a_written_inode_is_read.Goals as goal

pub returns : goal.returns
returns c = λ g inode sound. read_back inode sound.fits g sound.good

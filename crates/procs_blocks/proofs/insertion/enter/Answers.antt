use Rattle.std.proofs.Common.{refl}
use Rattle.procs_files.specs.Heads.{dirent_of}
use Rattle.procs_blocks.proofs.insertion.enter.Goals as goal

pub returns-in-Ok-clause-ok : goal.returns-in-Ok-clause-ok
returns-in-Ok-clause-ok c = λ blocks tree node write_set was fits sound can has_space. (
  c.entered_inode_attributes-next.ensures c.args.name.now (dirent_of c.args.dirent) node.body fits can.directory refl,
  c.in-Ok.ensures.ok blocks tree node write_set was fits sound can has_space,
)

-- The tree that a fresh image has.
use Rattle.std.specs.Prelude.{None}
use Rattle.std.specs.FinMap.{empty, insert}
use Rattle.base.specs.declared.TheConstants.{ROOT, ROOT_MODE}
use Rattle.nfs_types.specs.declared.ctx.Moment.{Moment}
use Rattle.nfs_spec.specs.Model.Node.{Node, Directory}
use Rattle.nfs_spec.specs.Model.Tree.{Geometry, Tree}

-- an empty directory that is its own parent, made at the moment by no transaction
abbrev pub format_root : Moment → Node
format_root moment = record {
  mode = ROOT_MODE;
  uid = 0;
  gid = 0;
  nlink = 2;
  atime = moment;
  mtime = moment;
  ctime = moment;
  stamp = record { boot = 0; transaction = 0 };
  verifier = None;
  body = Directory empty 0 ROOT;
}

-- the root alone
abbrev pub format_tree : Geometry → Moment → Tree
format_tree geometry moment = record { geometry = geometry; nodes = insert empty ROOT (format_root moment) }

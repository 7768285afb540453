-- Files as they are for the server, whatever they lie in.
use Rattle.std.specs.Prelude.{ℕ, List, Option}
use Rattle.std.specs.Cmp.Lexicographic.{slice_cmp}
use Rattle.std.specs.Ordering.{nat_cmp}
use Rattle.std.specs.FinMap.{FinMap}
use Rattle.std.specs.FinSet.{FinSet}
use Rattle.nfs_types.specs.declared.ctx.Moment.{Moment}
use Rattle.nfs_types.specs.declared.handle.Stamp.{Stamp}
use Rattle.nfs_types.specs.declared.verifier.Verifier.{Verifier}

-- what a name in a directory leads to: a file's number, and the slot of the directory in which the name lies
pub record DirentValue : Type 0 where
  pub number : ℕ
  pub slot : ℕ

-- the entries of a directory under their names
abbrev pub Entries : Type 0
Entries = FinMap (slice_cmp nat_cmp) DirentValue

-- What is in a file: of a regular one its bytes, and the indexes at which it has a block; of a directory its
-- entries, how many blocks it spans, and the directory that names it; of a link its target.
pub data Body : Type 0 where
  Regular : List ℕ → FinSet nat_cmp → Body
  Directory : Entries → ℕ → ℕ → Body
  Link : List ℕ → Body

-- A file with its attributes (RFC 1813, section 2.6), the stamp of its handle, and the verifier that an
-- exclusive CREATE gave it (section 3.3.8).
pub record Node : Type 0 where
  pub mode : ℕ
  pub uid : ℕ
  pub gid : ℕ
  pub nlink : ℕ
  pub atime : Moment
  pub mtime : Moment
  pub ctime : Moment
  pub stamp : Stamp
  pub verifier : Option Verifier
  pub body : Body

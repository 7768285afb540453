-- Which file a handle names. A handle is a number in 4 bytes and a stamp in twice 8 (RFC 1813, section 2.6,
-- leaves its form to the server).
use Rattle.std.specs.Prelude.{ℕ, Bool, cond, ◌&&◌, List, length, take, drop, nat_eq, nat_lt, Option, Some}
use Rattle.std.specs.Prelude.{None, Result, Ok, Err}
use Rattle.std.specs.Int.{w32, w64, from_be_bytes}
use Rattle.base.specs.declared.TheConstants.{HANDLE_BYTES}
use Rattle.nfs_types.specs.declared.handle.Stamp.{Stamp}
use Rattle.nfs_types.specs.declared.status.Status.{Status}
use Rattle.nfs_types.specs.declared.status.Status.TheVariants as status
use Rattle.nfs_spec.specs.Model.Node.{Node}
use Rattle.nfs_spec.specs.Model.Tree.{Tree, node_at}

-- the number that a handle begins with
abbrev pub number_in : List ℕ → ℕ
number_in handle = from_be_bytes w32 (take 4 handle)

-- the stamp behind it
abbrev pub stamp_in : List ℕ → Stamp
stamp_in handle = record {
  boot = from_be_bytes w64 (take 8 (drop 4 handle));
  transaction = from_be_bytes w64 (drop 12 handle);
}

-- two stamps are one
abbrev pub same_stamp : Stamp → Stamp → Bool
same_stamp a b = nat_eq a.boot b.boot && nat_eq a.transaction b.transaction

-- a number that a file may have: not 0, and below the inodes
abbrev pub is_number : Tree → ℕ → Bool
is_number tree number = nat_lt 0 number && nat_lt number tree.geometry.inodes

-- a file is named only by the stamp that it was made with
abbrev pub stamped : ℕ → Stamp → Option Node → Result (ℕ × Node) Status
stamped number stamp None = Err status.Stale
stamped number stamp (Some node) = cond (same_stamp stamp node.stamp) (Ok (number, node)) (Err status.Stale)

-- The file that a handle names, with its number. What can't be a handle of this server is BADHANDLE; one that
-- names no file, or an earlier file of the number, is STALE (RFC 1813, section 2.6).
abbrev pub find_file : Tree → List ℕ → Result (ℕ × Node) Status
find_file tree handle =
    cond (nat_eq (length handle) HANDLE_BYTES && is_number tree (number_in handle))
    (stamped (number_in handle) (stamp_in handle) (node_at tree (number_in handle))) (Err status.BadHandle)

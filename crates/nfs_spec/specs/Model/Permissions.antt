-- What a caller may do with a file (RFC 1813, sections 2.6 and 4.4).
use Rattle.std.specs.Prelude.{ℕ, ◌*◌, Bool, cond, not, ◌||◌, nat_eq, bit_and}
use Rattle.std.specs.List.{list_any}
use Rattle.base.specs.declared.TheConstants.{WRITE_RIGHT, GROUP_CLASS, OWNER_CLASS}
use Rattle.nfs_types.specs.declared.ctx.Credential.{Credential}
use Rattle.nfs_spec.specs.Model.Node.{Node}

abbrev pub is_superuser : Credential → Bool
is_superuser caller = nat_eq caller.uid 0

-- a group is the caller's own if it is that of the credential or among its further ones
abbrev pub is_own_group : Credential → ℕ → Bool
is_own_group caller gid = nat_eq caller.gid gid || list_any (λ own. nat_eq own gid) caller.gids

-- the one class whose bits count: the owner's, else the group's, else that of others
abbrev pub class_of : Credential → Node → ℕ
class_of caller node = cond (nat_eq caller.uid node.uid) OWNER_CLASS
    (cond (is_own_group caller node.gid) GROUP_CLASS 1)

-- whether the caller has the right: uid 0 has each
abbrev pub has_right : ℕ → Credential → Node → Bool
has_right right caller node =
    is_superuser caller || not (nat_eq (bit_and node.mode (right * class_of caller node)) 0)

-- uid 0, or the file's owner
abbrev pub acts_as_owner : Credential → Node → Bool
acts_as_owner caller node = is_superuser caller || nat_eq caller.uid node.uid

-- Of a regular file: its owner may write it and set its size whatever its mode says, so that a file that was
-- made and opened can be written (RFC 1813, section 4.4).
abbrev pub may_write_file : Credential → Node → Bool
may_write_file caller node = has_right WRITE_RIGHT caller node || nat_eq caller.uid node.uid

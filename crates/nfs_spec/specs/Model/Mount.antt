-- MOUNT (RFC 1813, section 5.2). What is exported is the root alone, under the path `/`.
use Rattle.std.specs.Prelude.{ℕ, Bool, List, [], ◌∷◌, Result, Ok, Err, length, get_or, ◌==◌, ◌&&◌}
use Rattle.std.specs.Prelude.{if◌then◌else◌}
use Rattle.base.specs.declared.TheConstants.{ROOT}
use Rattle.nfs_types.specs.declared.mount.MountCall.{MountCall}
use Rattle.nfs_types.specs.declared.mount.MountCall.TheVariants as call
use Rattle.nfs_types.specs.declared.mount.Mounted.{Mounted}
use Rattle.nfs_types.specs.declared.mount.MountReply.{MountReply}
use Rattle.nfs_types.specs.declared.mount.MountReply.TheVariants as reply
use Rattle.nfs_types.specs.declared.status.Status.{Status}
use Rattle.nfs_types.specs.declared.status.Status.TheVariants as status
use Rattle.nfs_types.specs.Handle.{handle_bytes}

-- just the one byte `/`
abbrev pub is_root_path : List ℕ → Bool
is_root_path path = length path == 1 && get_or path 0 0 == 47

-- the root's handle, and the one flavor of credentials that names a caller, AUTH_SYS
abbrev pub root_mounted : Mounted
root_mounted = record {
  root = record { bytes = handle_bytes ROOT (record { boot = 0; transaction = 0 }) };
  flavors = 1 ∷ [];
}

abbrev pub mounted_at : List ℕ → Result Mounted Status
mounted_at path = if is_root_path path then Ok root_mounted else Err status.NoEnt

-- The reply to a call of MOUNT, a function of the call alone: nothing is kept of who has mounted.
abbrev pub mount_reply : MountCall → MountReply
mount_reply call.Null = reply.Null
mount_reply (call.Mount path) = reply.Mount (mounted_at path)
mount_reply (call.Unmount path) = reply.Unmount

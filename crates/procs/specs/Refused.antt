-- When the layout refuses what a call's first handle names, or something that was read for the call.
use Rattle.std.specs.Prelude.{◌≡◌, ◌≢◌, ℕ, ◌<◌, ◌⊎◌, false, List, [], Option, Some, None, Ok, Err, length}
use Rattle.std.specs.List.{list_all}
use Rattle.base.specs.declared.TheConstants.{BLOCK_BYTES, HANDLE_BYTES, INDIRECT_INDEXES}
use Rattle.nfs_types.specs.CallFacts.{facts}
use Rattle.nfs_types.specs.declared.call.Call.{Call}
use Rattle.nfs_types.specs.declared.handle.Handle.{Handle}
use Rattle.nfs_types.specs.declared.status.Status.TheVariants.{Io}
use Rattle.disk.specs.Crash.{Image}
use Rattle.layout.specs.declared.fault.LayoutFault.TheVariants.{Range}
use Rattle.layout.specs.declared.geometry.Geometry.{Geometry}
use Rattle.layout.specs.declared.inode.Inode.{Inode}
use Rattle.layout.specs.Decode.{inode_at}
use Rattle.layout.specs.Fields.{numbers_at}
use Rattle.layout.specs.InodeForm.{is_data_block_or_none}
use Rattle.nfs_spec.specs.Model.Find.{number_in, stamp_in}
use Rattle.nfs_spec.specs.Model.Refused.{refused}
use Rattle.procs.specs.declared.next.Plan.{Plan}
use Rattle.procs.specs.declared.next.Plan.TheVariants as plan
use Rattle.inode.specs.declared.snap.Snap.{Snap}
use Rattle.procs.specs.Outcome.{Outcome}
use Rattle.inode.specs.Read.{Saw}
use Rattle.procs_inspection.specs.Refused.{IsRefused}

-- the inode has an indirect block, and this names what is no data block
pub record NamesNoData (g : Geometry) (blocks : Image) (inode : Inode) : Type 0 where
  pub some : inode.indirect ≢ 0
  pub whole : length (blocks inode.indirect) ≡ BLOCK_BYTES
  pub refused : list_all (is_data_block_or_none g) (numbers_at INDIRECT_INDEXES 0 (blocks inode.indirect))
      ≡ false

-- In these blocks the layout refuses the inode that a handle names, or the indirect block of the handle's file.
pub record IsRefusedFile (g : Geometry) (blocks : Image) (handle : List ℕ) : Type 0 where
  pub long : length handle ≡ HANDLE_BYTES
  pub some : number_in handle ≢ 0
  pub within : number_in handle < g.inodes
  pub why : (inode_at g blocks (number_in handle) ≡ Err Range)
      ⊎ ((inode : Inode) × (inode_at g blocks (number_in handle) ≡ Ok (Some inode))
      × (inode.stamp ≡ stamp_in handle) × NamesNoData g blocks inode)

-- so it is for a handle, if there is one
abbrev pub IsRefusedBy : Geometry → Image → Option Handle → Type 0
IsRefusedBy g blocks (Some handle) = IsRefusedFile g blocks handle.bytes
IsRefusedBy g blocks None = ⊥

-- the handle of a call that is looked at first, if it has one
abbrev pub first_handle : Call → Option Handle
first_handle asked = (facts asked).handle

-- in these blocks the layout refuses the file of a call's first handle
abbrev pub IsRefusedIn : Geometry → Image → Call → Type 0
IsRefusedIn g blocks asked = IsRefusedBy g blocks (first_handle asked)

-- no blocks that have what was read are refused
abbrev pub NoneRefused : Snap → List ℕ → Type 0
NoneRefused snap handle = (blocks : Image) → Saw blocks snap → IsRefusedFile snap.geometry blocks handle → ⊥

abbrev pub NoneRefusedIn : Snap → Call → Type 0
NoneRefusedIn snap call = (blocks : Image) → Saw blocks snap → IsRefusedIn snap.geometry blocks call → ⊥

-- in these blocks the layout refuses nothing that was read
abbrev pub NoneRead : Snap → Type 0
NoneRead snap = (blocks : Image) → Saw blocks snap → IsRefused snap blocks → ⊥

-- Where the layout refuses the file of a call's first handle, or any object that was read for the call, in blocks
-- that have what was read, a plan ends in IO, with nothing told and nothing written.
abbrev pub IsIoWhereRefused : Call → Snap → Plan → Type 0
IsIoWhereRefused call snap (plan.Done done) = (blocks : Image) → Saw blocks snap
    → IsRefusedIn snap.geometry blocks call ⊎ IsRefused snap blocks
    → (done.reply ≡ refused Io call) × (done.written ≡ [])
IsIoWhereRefused call snap (plan.Need addr mode) = Unit {0}
IsIoWhereRefused call snap (plan.Claim block) = Unit {0}
IsIoWhereRefused call snap (plan.NoMemory error) = Unit {0}

-- a plan is done with this
abbrev pub IsDoneWith : Outcome → Plan → Type 0
IsDoneWith outcome (plan.Done done) = done ≡ outcome
IsDoneWith outcome (plan.Need addr mode) = ⊥
IsDoneWith outcome (plan.Claim block) = ⊥
IsDoneWith outcome (plan.NoMemory error) = ⊥

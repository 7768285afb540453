-- The inode: what the disk has of a file in 128 bytes.
use Rattle.std.specs.Prelude.{◌≡◌, ℕ, ◌+◌, ◌<◌, ◌^◌, ◌/◌, ◌%◌, length, IfSome, Bool, true, cond, not}
use Rattle.std.specs.Prelude.{◌&&◌}
use Rattle.std.specs.Prelude.{◌||◌, List, ◌++◌, nat_eq, nat_le, nat_lt, take, drop, min, Option, Some, None}
use Rattle.std.specs.Prelude.{is_none, replicate}
use Rattle.std.specs.Prelude.{Result, Ok, Err}
use Rattle.std.specs.List.{list_all, AllByRecursion}
use Rattle.base.specs.declared.TheConstants.{BLOCK_BYTES, DIRECT_INDEXES, LARGEST_DIRECTORY, LARGEST_FILE}
use Rattle.base.specs.declared.TheConstants.{MODE_BITS}
use Rattle.base.specs.declared.TheConstants.{INODE_BYTES, MOST_LINKS, NANOSECONDS, TARGET_BYTES}
use Rattle.nfs_types.specs.declared.ctx.Moment.{Moment}
use Rattle.nfs_types.specs.declared.verifier.TheConstants.{VERIFIER_BYTES}
use Rattle.nfs_types.specs.declared.verifier.Verifier.{Verifier}
use Rattle.nfs_types.specs.Fits.{VerifierFits}
use Rattle.layout.specs.declared.fault.LayoutFault.{LayoutFault}
use Rattle.layout.specs.declared.fault.LayoutFault.TheVariants.{Range}
use Rattle.layout.specs.declared.geometry.Geometry.{Geometry}
use Rattle.layout.specs.declared.inode.Inode.{Inode}
use Rattle.layout.specs.declared.inode.InodeKind.{InodeKind}
use Rattle.layout.specs.declared.inode.InodeKind.TheVariants.{Regular, Directory, Link}
use Rattle.layout.specs.declared.inode_fields.TheConstants.{KIND_AT, MODE_AT, UID_AT, GID_AT, NLINK_AT}
use Rattle.layout.specs.declared.inode_fields.TheConstants.{GAP_AT, SIZE_AT, ATIME_AT, MTIME_AT, CTIME_AT}
use Rattle.layout.specs.declared.inode_fields.TheConstants.{BOOT_AT, TRANSACTION_AT, PARENT_AT, FLAGS_AT}
use Rattle.layout.specs.declared.inode_fields.TheConstants.{VERIFIER_AT, DIRECT_AT, INDIRECT_AT, DOUBLE_AT}
use Rattle.layout.specs.Fields.{four_at, eight_at, numbers_at, four_bytes, eight_bytes, number_bytes}
use Rattle.layout.specs.Fields.{is_zeros}
use Rattle.layout.specs.Places.{is_data}
use Rattle.layout.specs.Version.{has_double}

-- the kind of a number, as RFC 1813 numbers them in section 2.6
abbrev pub kind_of_number : ℕ → Option InodeKind
kind_of_number number =
    cond (nat_eq number 1) (Some Regular)
    (cond (nat_eq number 2) (Some Directory)
    (cond (nat_eq number 5) (Some Link) None))

abbrev pub number_of_kind : InodeKind → ℕ
number_of_kind Regular = 1
number_of_kind Directory = 2
number_of_kind Link = 5

-- a time: seconds, then nanoseconds
abbrev pub time_at : ℕ → ℕ → List ℕ → Moment
time_at offset behind bytes = record { seconds = four_at offset bytes; nanoseconds = four_at behind bytes }

-- a verifier is the bytes from its offset on, as they are
abbrev pub verifier_at : ℕ → List ℕ → Verifier
verifier_at offset bytes = record { bytes = take VERIFIER_BYTES (drop offset bytes) }

-- whether a file has a create verifier stands apart from the verifier
abbrev pub verifier_of : ℕ → Verifier → Option Verifier
verifier_of flags verifier = cond (nat_eq flags 1) (Some verifier) None

-- the fields of an inode, each at its offset in the bytes
unfoldable pub fields_of : InodeKind → List ℕ → Inode
fields_of kind bytes = record {
  kind = kind;
  mode = four_at MODE_AT bytes;
  uid = four_at UID_AT bytes;
  gid = four_at GID_AT bytes;
  nlink = four_at NLINK_AT bytes;
  size = eight_at SIZE_AT bytes;
  atime = time_at ATIME_AT (ATIME_AT + 4) bytes;
  mtime = time_at MTIME_AT (MTIME_AT + 4) bytes;
  ctime = time_at CTIME_AT (CTIME_AT + 4) bytes;
  stamp = record { boot = eight_at BOOT_AT bytes; transaction = eight_at TRANSACTION_AT bytes };
  parent = four_at PARENT_AT bytes;
  verifier = verifier_of (four_at FLAGS_AT bytes) (verifier_at VERIFIER_AT bytes);
  direct = numbers_at DIRECT_INDEXES DIRECT_AT bytes;
  indirect = four_at INDIRECT_AT bytes;
  double = four_at DOUBLE_AT bytes;
}

-- what no field has is zero
abbrev pub rest_is_zero : List ℕ → Bool
rest_is_zero bytes =
    nat_eq (four_at GAP_AT bytes) 0
    && (nat_eq (four_at FLAGS_AT bytes) 1 || nat_eq (four_at FLAGS_AT bytes) 0
    && nat_eq (eight_at VERIFIER_AT bytes) 0)

-- no block, or a data block
abbrev pub is_data_block_or_none : Geometry → ℕ → Bool
is_data_block_or_none g number = nat_eq number 0 || is_data g number

abbrev pub is_time : Moment → Bool
is_time time = nat_lt time.nanoseconds NANOSECONDS

-- the first numbers are those of blocks, and the others of none
abbrev pub names_first : ℕ → List ℕ → Bool
names_first count numbers =
    list_all (λ number. not (nat_eq number 0)) (take count numbers)
    && list_all (λ number. nat_eq number 0) (drop count numbers)

-- what each file's inode satisfies
abbrev pub is_sound_file : Inode → Bool
is_sound_file inode =
    nat_le inode.mode MODE_BITS && nat_le 1 inode.nlink && nat_le inode.nlink MOST_LINKS
    && is_time inode.atime && is_time inode.mtime && is_time inode.ctime

-- each block that it names is a data block, and it has a double indirect block only in a version that has them
abbrev pub is_sound_map : Geometry → Inode → Bool
is_sound_map g inode =
    list_all (is_data_block_or_none g) inode.direct
    && is_data_block_or_none g inode.indirect && is_data_block_or_none g inode.double
    && (nat_eq inode.double 0 || has_double g.version)

-- a regular file has any blocks, up to the size of the largest
abbrev pub is_sound_regular : Inode → Bool
is_sound_regular inode = nat_le inode.size LARGEST_FILE && nat_eq inode.parent 0

-- a directory has two links at least, each block that it spans and no other, and no create verifier
abbrev pub is_sound_directory : Geometry → Inode → Bool
is_sound_directory g inode =
    nat_le 2 inode.nlink && nat_le inode.size LARGEST_DIRECTORY && nat_eq (inode.size % BLOCK_BYTES) 0
    && nat_lt 0 inode.parent && nat_lt inode.parent g.inodes
    && names_first (min (inode.size / BLOCK_BYTES) DIRECT_INDEXES) inode.direct
    && (cond (nat_lt DIRECT_INDEXES (inode.size / BLOCK_BYTES)) (not (nat_eq inode.indirect 0))
    (nat_eq inode.indirect 0))
    && nat_eq inode.double 0 && is_none inode.verifier

-- a link has one block, with its target, and no create verifier
abbrev pub is_sound_link : Inode → Bool
is_sound_link inode =
    nat_le 1 inode.size && nat_le inode.size TARGET_BYTES && nat_eq inode.parent 0
    && names_first 1 inode.direct && nat_eq inode.indirect 0 && nat_eq inode.double 0
    && is_none inode.verifier

-- an inode of a kind that shows nothing wrong by itself
abbrev pub is_sound_kind : Geometry → InodeKind → Inode → Bool
is_sound_kind g Regular inode = is_sound_file inode && is_sound_map g inode
    && is_sound_regular inode
is_sound_kind g Directory inode =
    is_sound_file inode && is_sound_map g inode && is_sound_directory g inode
is_sound_kind g Link inode = is_sound_file inode && is_sound_map g inode
    && is_sound_link inode

unfoldable pub is_sound_inode : Geometry → Inode → Bool
is_sound_inode g inode = is_sound_kind g inode.kind inode

abbrev pub inode_of_kind : Geometry → Option InodeKind → List ℕ → Result (Option Inode) LayoutFault
inode_of_kind g None bytes = Err Range
inode_of_kind g (Some kind) bytes =
    cond (rest_is_zero bytes && is_sound_inode g (fields_of kind bytes))
    (Ok (Some (fields_of kind bytes))) (Err Range)

-- The inode that 128 bytes are in an image of this geometry, by the reading of its version; a free one is
-- nothing but zeros.
unfoldable pub read_inode : Geometry → List ℕ → Result (Option Inode) LayoutFault
read_inode g bytes =
    cond (is_zeros bytes) (Ok None)
    (inode_of_kind g (kind_of_number (four_at KIND_AT bytes)) bytes)

abbrev pub time_bytes : Moment → List ℕ
time_bytes time = four_bytes time.seconds ++ four_bytes time.nanoseconds

-- the flags and the verifier behind them
abbrev pub verifier_bytes : Option Verifier → List ℕ
verifier_bytes None = four_bytes 0 ++ eight_bytes 0
verifier_bytes (Some verifier) = four_bytes 1 ++ verifier.bytes

-- the parts of an inode's bytes, in their order
unfoldable pub header_bytes : Inode → List ℕ
header_bytes inode =
    four_bytes (number_of_kind inode.kind) ++ four_bytes inode.mode ++ four_bytes inode.uid
    ++ four_bytes inode.gid ++ four_bytes inode.nlink ++ four_bytes 0

unfoldable pub middle_bytes : Inode → List ℕ
middle_bytes inode =
    eight_bytes inode.size ++ time_bytes inode.atime ++ time_bytes inode.mtime ++ time_bytes inode.ctime
    ++ eight_bytes inode.stamp.boot ++ eight_bytes inode.stamp.transaction

unfoldable pub tail_bytes : Inode → List ℕ
tail_bytes inode =
    four_bytes inode.parent ++ verifier_bytes inode.verifier ++ number_bytes inode.direct
    ++ four_bytes inode.indirect ++ four_bytes inode.double

-- the bytes that an inode gets
abbrev pub inode_bytes : Inode → List ℕ
inode_bytes inode = header_bytes inode ++ middle_bytes inode ++ tail_bytes inode

abbrev pub FitsMoment : Moment → Type 0
FitsMoment time = (time.seconds < 2 ^ 32) × (time.nanoseconds < 2 ^ 32)

-- each field has room in its bytes
pub record FitsInode (inode : Inode) : Type 0 where
  pub mode : inode.mode < 2 ^ 32
  pub uid : inode.uid < 2 ^ 32
  pub gid : inode.gid < 2 ^ 32
  pub nlink : inode.nlink < 2 ^ 32
  pub size : inode.size < 2 ^ 64
  pub atime : FitsMoment inode.atime
  pub mtime : FitsMoment inode.mtime
  pub ctime : FitsMoment inode.ctime
  pub boot : inode.stamp.boot < 2 ^ 64
  pub transaction : inode.stamp.transaction < 2 ^ 64
  pub parent : inode.parent < 2 ^ 32
  pub verifier : IfSome inode.verifier VerifierFits
  pub count : length inode.direct ≡ DIRECT_INDEXES
  pub direct : AllByRecursion (λ number. number < 2 ^ 32) inode.direct
  pub indirect : inode.indirect < 2 ^ 32
  pub double : inode.double < 2 ^ 32

-- its fields have room, and it shows nothing wrong by itself in an image of this geometry
pub record SoundInode (g : Geometry) (inode : Inode) : Type 0 where
  pub fits : FitsInode inode
  pub good : is_sound_inode g inode ≡ true

-- these are the bytes of this inode
pub record IsInode (g : Geometry) (bytes : List ℕ) (inode : Inode) : Type 0 where
  pub spelled : bytes ≡ inode_bytes inode
  pub sound : SoundInode g inode

-- what 128 bytes of the table are: zeros where the inode is free, and else the bytes of a file's inode
abbrev pub IsInTable : Geometry → List ℕ → Option Inode → Type 0
IsInTable g bytes None = bytes ≡ replicate INODE_BYTES 0
IsInTable g bytes (Some inode) = IsInode g bytes inode

-- What a reading of a file asks for.
use Rattle.std.specs.Prelude.{◌≡◌, ℕ, ◌-◌, ◌*◌, ◌/◌, ◌%◌, ◌<◌, ◌≤◌, List, get_or, replicate}
use Rattle.base.specs.declared.TheConstants.{BLOCK_BYTES, DIRECT_INDEXES, FIRST_DOUBLE_INDEX, INDIRECT_INDEXES}
use Rattle.objects.specs.declared.addr.Addr.{Addr}
use Rattle.layout.specs.declared.inode.Inode.{Inode}
use Rattle.layout.specs.Fields.{numbers_at}
use Rattle.objects.specs.Object.{ObjectBytes}
use Rattle.inode.specs.declared.snap.Snap.{Snap}
use Rattle.inode.specs.declared.suspend.Suspend.{Suspend}
use Rattle.inode.specs.declared.suspend.Suspend.TheVariants as suspend
use Rattle.inode.specs.Read.{WasRead}

-- a reading stops for an object of which this holds, or for what the layout refuses
abbrev pub IsSuspendFor : (Addr → Type 0) → Suspend → Type 0
IsSuspendFor P (suspend.Need addr mode) = P addr
IsSuspendFor P (suspend.Claim block) = ⊥
IsSuspendFor P suspend.Io = Unit {0}
IsSuspendFor P (suspend.NoMemory error) = ⊥

-- the same of a reading that takes memory: or for want of that
abbrev pub MaySuspendFor : (Addr → Type 0) → Suspend → Type 0
MaySuspendFor P (suspend.Need addr mode) = P addr
MaySuspendFor P (suspend.Claim block) = ⊥
MaySuspendFor P suspend.Io = Unit {0}
MaySuspendFor P (suspend.NoMemory error) = Unit {0}

-- the address is that of the whole block of a number
pub record IsBlockAddr (number : ℕ) (addr : Addr) : Type 0 where
  pub block : addr.block.0 ≡ number
  pub offset : addr.offset ≡ 0
  pub len : addr.len ≡ BLOCK_BYTES

-- these bytes were read as the whole block of a number
pub record WasReadBlock (objects : List ObjectBytes) (number : ℕ) (bytes : List ℕ) : Type 0 where
  pub addr : Addr
  pub at : IsBlockAddr number addr
  pub read : WasRead objects addr bytes

-- the number at an index of a pointer block as it was read, 0 where there is none
pub data IsPointerNumber (objects : List ObjectBytes) (pointer index number : ℕ) : Type 0 where
  none : pointer ≡ 0 → number ≡ 0 → IsPointerNumber objects pointer index number
  named : (bytes : List ℕ) → WasReadBlock objects pointer bytes
      → number ≡ get_or (numbers_at INDIRECT_INDEXES 0 bytes) index 0 → IsPointerNumber objects pointer index number

-- the numbers in a pointer block as it was read, zeros where there is none
pub data ArePointerNumbers (objects : List ObjectBytes) (pointer : ℕ) (numbers : List ℕ) : Type 0 where
  zeros : pointer ≡ 0 → numbers ≡ replicate INDIRECT_INDEXES 0 → ArePointerNumbers objects pointer numbers
  spelled : (bytes : List ℕ) → WasReadBlock objects pointer bytes → numbers ≡ numbers_at INDIRECT_INDEXES 0 bytes
      → ArePointerNumbers objects pointer numbers

-- the number of the inner block that reaches an index of a file, as the double indirect block was read, 0 where there is
-- none
abbrev pub IsInnerFor : List ObjectBytes → Inode → ℕ → ℕ → Type 0
IsInnerFor objects inode index inner =
    IsPointerNumber objects inode.double ((index - FIRST_DOUBLE_INDEX) / INDIRECT_INDEXES) inner

-- the number at an index of a file: as the inode names it, or its indirect block as it was read, or the inner block
-- that reaches the index, as it was read
pub data IsNumberAt (objects : List ObjectBytes) (inode : Inode) (index number : ℕ) : Type 0 where
  direct : index < DIRECT_INDEXES → number ≡ get_or inode.direct index 0 → IsNumberAt objects inode index number
  indirect_part : DIRECT_INDEXES ≤ index → index < FIRST_DOUBLE_INDEX
      → IsPointerNumber objects inode.indirect (index - DIRECT_INDEXES) number → IsNumberAt objects inode index number
  doubled : FIRST_DOUBLE_INDEX ≤ index → (inner : ℕ) → IsInnerFor objects inode index inner
      → IsPointerNumber objects inner ((index - FIRST_DOUBLE_INDEX) % INDIRECT_INDEXES) number
      → IsNumberAt objects inode index number

-- the address is that of a pointer block by which the number at an index is found: of the indirect block, or of the
-- double indirect block, or, once that was read, of the inner block that it names
pub data IsPointerFor (objects : List ObjectBytes) (inode : Inode) (index : ℕ) (addr : Addr) : Type 0 where
  indirect : DIRECT_INDEXES ≤ index → index < FIRST_DOUBLE_INDEX → IsBlockAddr inode.indirect addr
      → IsPointerFor objects inode index addr
  double : FIRST_DOUBLE_INDEX ≤ index → IsBlockAddr inode.double addr → IsPointerFor objects inode index addr
  inner : FIRST_DOUBLE_INDEX ≤ index → (number : ℕ) → IsInnerFor objects inode index number → IsBlockAddr number addr
      → IsPointerFor objects inode index addr

-- the address is that of a double indirect block, or of an inner block that it names, as it was read
pub data IsOfDouble (objects : List ObjectBytes) (double : ℕ) (addr : Addr) : Type 0 where
  itself : IsBlockAddr double addr → IsOfDouble objects double addr
  below : (index_within number : ℕ) → index_within < INDIRECT_INDEXES → IsPointerNumber objects double index_within number
      → IsBlockAddr number addr → IsOfDouble objects double addr

-- the address is that of a pointer block of a file
pub data IsPointerOf (objects : List ObjectBytes) (inode : Inode) (addr : Addr) : Type 0 where
  of_indirect : IsBlockAddr inode.indirect addr → IsPointerOf objects inode addr
  of_double : IsOfDouble objects inode.double addr → IsPointerOf objects inode addr

-- the address is that of the block at an index of a file, or of a pointer block by which its number is found
pub data IsNeededAt (snap : Snap) (inode : Inode) (index : ℕ) (addr : Addr) : Type 0 where
  pointer : IsPointerFor snap.objects.items inode index addr → IsNeededAt snap inode index addr
  mapped : (number : ℕ) → IsNumberAt snap.objects.items inode index number → IsBlockAddr number addr
      → IsNeededAt snap inode index addr

-- the same, of an index with bytes that lie from one place of a file on and before another
pub record IsNeededBetween (snap : Snap) (inode : Inode) (start end : ℕ) (addr : Addr) : Type 0 where
  pub index : ℕ
  pub from : start / BLOCK_BYTES ≤ index
  pub before : index * BLOCK_BYTES < end
  pub needed : IsNeededAt snap inode index addr

-- the block at an index of a file was read
pub record IsReadAt (snap : Snap) (inode : Inode) (index : ℕ) : Type 0 where
  pub number : ℕ
  pub at : IsNumberAt snap.objects.items inode index number
  pub bytes : List ℕ
  pub read : WasReadBlock snap.objects.items number bytes

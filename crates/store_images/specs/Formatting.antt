-- What comes of making an image.
use Rattle.std.specs.Prelude.{◌≡◌, ℕ, ◌+◌, ◌-◌, ◌≤◌, ◌<◌, Bool, false, ◌&&◌, nat_lt, List, [], ◌∷◌, ◌++◌}
use Rattle.std.specs.Prelude.{Result, Ok, Err, replicate}
use Rattle.base.specs.declared.TheConstants.{BLOCK_BYTES, FIRST_HOME_BLOCK, LOG_HEADER_BLOCK, START_BLOCK}
use Rattle.base.specs.declared.TheConstants.{SUPER_BLOCK}
use Rattle.nfs_types.specs.declared.ctx.Moment.{Moment}
use Rattle.disk.specs.Device.{Content, Device, current}
use Rattle.layout.specs.declared.geometry.Geometry.{Geometry}
use Rattle.layout.specs.declared.version.FormatVersion.TheVariants.{Second}
use Rattle.layout.specs.Fresh.{fresh}
use Rattle.layout.specs.Geometry.{IsLawful, IsLawfulCount, IsLawfulSize, data_at}
use Rattle.store_promise.specs.Openings.{AtEachStop, HasFailedToFormat, IsFormatted, IsLater}
use Rattle.store_promise.specs.Openings.{IsLeftByFormat}
use Rattle.store_images.specs.declared.formatter.FormatFault.{FormatFault}
use Rattle.store_images.specs.declared.formatter.FormatFault.TheVariants as fault

-- the block has a slot of the log
abbrev pub is_slot : ℕ → Bool
is_slot number = nat_lt LOG_HEADER_BLOCK number && nat_lt number START_BLOCK

-- a crash leaves what a fresh image has, in each block but the log's slots and those of data
abbrev pub IsMade : Device → Geometry → Moment → Type 0
IsMade device g moment = (number : ℕ) → number < data_at g.blocks g.inodes → is_slot number ≡ false
    → current device number ≡ fresh g moment number ∷ []

-- so it is of each block behind the first
abbrev pub IsMadeBehind : Device → Geometry → Moment → Type 0
IsMadeBehind device g moment = (number : ℕ) → SUPER_BLOCK < number → number < data_at g.blocks g.inodes
    → is_slot number ≡ false → current device number ≡ fresh g moment number ∷ []

-- the newest of the contents that a crash may leave
abbrev pub IsNewest : Device → ℕ → Content → Type 0
IsNewest device number content = (earlier : List Content) × (current device number ≡ earlier ++ content ∷ [])

-- the image's blocks from the first behind the log up to one were written, and no other block was
pub record HasWrittenUpTo (old : Device) (g : Geometry) (moment : Moment) (end : ℕ)
    (new : Device) : Type 0 where
  pub size : new.size ≡ old.size
  pub written : (number : ℕ) → FIRST_HOME_BLOCK ≤ number → number < end
      → IsNewest new number (fresh g moment number)
  pub before : (number : ℕ) → number < FIRST_HOME_BLOCK → current new number ≡ current old number
  pub behind : (number : ℕ) → end ≤ number → current new number ≡ current old number
  pub uncertain : (number : ℕ) → new.uncertain number ≡ old.uncertain number

-- the device went on, and left the super block what it was
pub record LeavesSuper (old new : Device) : Type 0 where
  pub past : IsLater old new
  pub super : (clock : ℕ) → old.clock ≤ clock → clock ≤ new.clock
      → new.contents clock SUPER_BLOCK ≡ current old SUPER_BLOCK

-- A device was to be made an image with so many inodes at a moment, this was answered, and it was left so. The image is
-- of the newest version of the format.
abbrev pub HasFormatted : Device → ℕ → Moment → Result ℕ FormatFault → Device → Type 0
HasFormatted old inodes moment (Ok count) new = (g : Geometry) × (g.blocks ≡ old.size) × (g.inodes ≡ inodes)
    × (count ≡ old.size - data_at old.size inodes) × (new.size ≡ old.size)
    × (new.failures ≡ old.failures) × IsMade new g moment × (g.version ≡ Second)
HasFormatted old inodes moment (Err fault.Size) new = (¬ IsLawfulSize old.size) × (new ≡ old)
HasFormatted old inodes moment (Err fault.Inodes) new =
    IsLawfulSize old.size × (¬ IsLawfulCount old.size inodes) × (new ≡ old)
HasFormatted old inodes moment (Err fault.Device) new =
    IsLawful old.size inodes × (new.size ≡ old.size) × (new.failures ≡ old.failures + 1)
HasFormatted old inodes moment (Err (fault.NoMemory error)) new = IsLawful old.size inodes × (new ≡ old)

-- the first block is blank, whenever a crash comes
abbrev pub IsBlank : Device → Type 0
IsBlank device = current device SUPER_BLOCK ≡ replicate BLOCK_BYTES 0 ∷ []

-- the past of a format, and what each stop of it leaves
pub record Stops (before now : Device) (g : Geometry) (moment : Moment) : Type 0 where
  pub past : IsLater before now
  pub stops : AtEachStop before now (λ at image. IsLeftByFormat before g moment image)

-- What each stop of it leaves: the old image, one that has no super block, or the new one, of the newest version.
abbrev pub LeavesByFormat : Device → ℕ → Moment → Result ℕ FormatFault → Device → Type 0
LeavesByFormat old inodes moment (Ok count) new = (g : Geometry) × (g.blocks ≡ old.size) × (g.inodes ≡ inodes)
    × IsFormatted old new g moment × (g.version ≡ Second)
LeavesByFormat old inodes moment (Err fault.Device) new = (g : Geometry) × (g.blocks ≡ old.size)
    × (g.inodes ≡ inodes) × HasFailedToFormat old new g moment × (g.version ≡ Second)
LeavesByFormat old inodes moment (Err fault.Size) new = new ≡ old
LeavesByFormat old inodes moment (Err fault.Inodes) new = new ≡ old
LeavesByFormat old inodes moment (Err (fault.NoMemory error)) new = new ≡ old

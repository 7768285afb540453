-- What a crash leaves, by a choice, and bytes that are changed behind it.
use Rattle.std.specs.Prelude.{◌≡◌, ℕ, ◌+◌, List, [], ◌∷◌, ◌++◌, replicate, map, length, take, drop, slice_set}
use Rattle.disk.specs.Choice.{chosen}
use Rattle.disk.specs.Crash.{IsAtRest, IsCrashImage}
use Rattle.disk.specs.Memory.{blocks_of, image_of, memory_device}
use Rattle.disk.specs.declared.mem_disk.MemDisk.{MemDisk}
use Rattle.sim_words.specs.declared.command.Choice.{Choice}
use Rattle.sim_words.specs.declared.command.Choice.TheVariants.{Old, New, Each}

-- The index of the content of each block that has several: past the contents it is the last, and where the numbers
-- end it is the first. No more blocks have several than there are.
abbrev pub digits_of : ℕ → Choice → List ℕ
digits_of blocks Old = []
digits_of blocks New = replicate blocks 4294967295
digits_of blocks (Each digits) = digits

-- of each block the content that is chosen, on a device at rest
pub record IsLeft (choice : Choice) (disk left : MemDisk) : Type 0 where
  pub chosen : blocks_of left
      ≡ map (λ content. content ∷ []) (chosen (digits_of (length (blocks_of disk)) choice) (blocks_of disk))
  pub image : IsCrashImage (memory_device disk) (memory_device disk).clock (image_of left)
  pub rest : IsAtRest (memory_device left)

-- a content with other bytes from an offset on
abbrev pub with_bytes : ℕ → List ℕ → List ℕ → List ℕ
with_bytes offset bytes content = take offset content ++ bytes ++ drop (offset + length bytes) content

-- so it is of one block
abbrev pub IsPoked : ℕ → ℕ → List ℕ → MemDisk → MemDisk → Type 0
IsPoked block offset bytes disk poked =
    blocks_of poked ≡ slice_set (blocks_of disk) block (with_bytes offset bytes (image_of disk block) ∷ [])

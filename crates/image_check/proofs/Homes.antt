-- The homes of an image have what the image has, wherever bitmaps lie, and are blocks.
use Rattle.std.proofs.Common.{◌≡◌, ℕ, ◌+◌, ◌*◌, ◌/◌, ◌%◌, ◌^◌, ◌<◌, ◌≤◌, ap, ◌∙◌, Bool, true, false, cond, ◌&&◌, length}
use Rattle.std.proofs.Common.{replicate, get_or, nat_eq, nat_le, nat_lt, arith}
use Rattle.std.proofs.lemmas.Bool.{lt-ltb}
use Rattle.base.specs.declared.TheConstants.{BITS_PER_BLOCK, BLOCK_BYTES, FIRST_HOME_BLOCK}
use Rattle.disk.specs.Crash.{Image}
use Rattle.nfs_types.specs.Fits.{AreBytes}
use Rattle.layout.specs.declared.geometry.Geometry.{Geometry}
use Rattle.layout.specs.Geometry.{data_at}
use Rattle.layout.specs.Homes.{homes_of, is_home}
use Rattle.layout.specs.Parts.{bit_at, bits_of}
use Rattle.layout.specs.Places.{is_data}
use Rattle.layout.proofs.FreshBytes.{zero_block}
use Rattle.layout.proofs.FreshHomes.{home_is}
use Rattle.inode.proofs.AllTests.{all_two, is_less}
use Rattle.image_check.specs.Searched.{AreBlocksOf}

-- a data block is one of the image's
pub in_blocks : (g : Geometry) (number : ℕ) → is_data g number ≡ true → number < g.blocks
in_blocks g number is =
    is_less number g.blocks (all_two (nat_le (data_at g.blocks g.inodes) number) (nat_lt number g.blocks) is).1

module _ (g : Geometry) (image : Image) where
  abbrev home : Image
  home = homes_of g.blocks image

  pub bit_same : (first count number : ℕ) → number < BITS_PER_BLOCK * count → FIRST_HOME_BLOCK ≤ first
      → first + count ≤ g.blocks → bits_of home first count number ≡ bit_at image first number
  unfolding bit_at
  bit_same first count number less from to =
      ap (λ b. b && bit_at home first number) (lt-ltb number (BITS_PER_BLOCK * count) less)
      ∙ ap (λ bytes. nat_eq (get_or bytes (number % BITS_PER_BLOCK / 8) 0 / 2 ^ (number % 8) % 2) 1)
      (home_is g.blocks (first + number / BITS_PER_BLOCK) image (omega (arith, from)) (omega (arith, less, to)))

  pub blocks_are : AreBlocksOf g.blocks image → AreBlocksOf g.blocks home
  blocks_are are number less = by_test (is_home g.blocks number)
    where
      by_test : (b : Bool) → (length (cond b (image number) (replicate BLOCK_BYTES 0)) ≡ BLOCK_BYTES)
          × AreBytes (cond b (image number) (replicate BLOCK_BYTES 0))
      by_test true = are number less
      by_test false = (zero_block.long, zero_block.each.are)

-- The homes of an image stand apart from its other blocks: where they are fresh, so are they alone.
use Rattle.std.proofs.Common.{◌≡◌, ℕ, ◌+◌, ◌<◌, ◌≤◌, ap, ◌∙◌, refl, arith}
use Rattle.std.proofs.Common.{Bool, true, false, cond, ◌&&◌, length, replicate, nat_le, nat_lt, List}
use Rattle.std.proofs.lemmas.Bool.Decides.{nat_tests}
use Rattle.base.specs.declared.TheConstants.{BLOCK_BYTES, FIRST_HOME_BLOCK}
use Rattle.disk.specs.Crash.{Image}
use Rattle.nfs_types.specs.declared.ctx.Moment.{Moment}
use Rattle.nfs_types.specs.Fits.{AreBytes}
use Rattle.layout.specs.declared.geometry.Geometry.{Geometry}
use Rattle.layout.specs.Fresh.{HasFreshHomes}
use Rattle.layout.specs.Geometry.{IsLawful, inode_bitmap_at, table_at}
use Rattle.layout.specs.Homes.{homes_of, is_home}
use Rattle.layout.proofs.FreshBytes.{zero_block}

all_two : (a b : Bool) → (a && b) ≡ true → (a ≡ true) × (b ≡ true)
all_two true true h = (refl, refl)
all_two true false h = cc
all_two false b h = cc

home_test : (from below : Bool) → from ≡ true → below ≡ true → (from && below) ≡ true
home_test true true f b = refl
home_test true false f b = cc
home_test false below f b = cc

pub home_is : (size number : ℕ) (image : Image) → FIRST_HOME_BLOCK ≤ number → number < size
    → homes_of size image number ≡ image number
home_is size number image home less =
    ap (λ b. cond b (image number) (replicate BLOCK_BYTES 0))
    (home_test (nat_le FIRST_HOME_BLOCK number) (nat_lt number size) (grind (arith, nat_tests))
    (grind (arith, nat_tests)))

block_of : (is : Bool) (block : List ℕ) → (is ≡ true → (length block ≡ BLOCK_BYTES) × AreBytes block)
    → (length (cond is block (replicate BLOCK_BYTES 0)) ≡ BLOCK_BYTES)
    × AreBytes (cond is block (replicate BLOCK_BYTES 0))
block_of true block are = are refl
block_of false block are = (zero_block.long, zero_block.each.are)

both : (size number : ℕ) → is_home size number ≡ true → (FIRST_HOME_BLOCK ≤ number) × (number < size)
both size number is =
    let tests = all_two (nat_le FIRST_HOME_BLOCK number) (nat_lt number size) is in
    let from = tests.0 in
    let below = tests.1 in (grind (arith, nat_tests), grind (arith, nat_tests))

module _ (g : Geometry) (moment : Moment) (image : Image) (lawful : IsLawful g.blocks g.inodes)
    (fresh : HasFreshHomes g moment image) where
  abbrev homes : Image
  homes = homes_of g.blocks image

  pub are_blocks : (number : ℕ) → (length (homes number) ≡ BLOCK_BYTES) × AreBytes (homes number)
  are_blocks number = block_of (is_home g.blocks number) (image number)
      (λ is. let at = both g.blocks number is in fresh.bytes number at.0 at.1)

  pub of_homes : HasFreshHomes g moment homes
  of_homes = record {
    bytes = λ number home less. are_blocks number;
    blocks = λ k less. home_is g.blocks (FIRST_HOME_BLOCK + k) image (omega arith)
        (omega (arith, less, lawful.1.3)) ∙ fresh.blocks k less;
    inodes = λ k less. home_is g.blocks (inode_bitmap_at g.blocks + k) image (omega arith)
        (omega (arith, less, lawful.1.3)) ∙ fresh.inodes k less;
    root = home_is g.blocks (table_at g.blocks g.inodes) image (omega arith) (omega (arith, lawful.1.3))
        ∙ fresh.root;
    free = λ k some less. home_is g.blocks (table_at g.blocks g.inodes + k) image (omega arith)
        (omega (arith, less, lawful.1.3)) ∙ fresh.free k some less;
  }

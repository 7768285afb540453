-- Whether the bitmaps mark what is in use, by the bits of the image and by the parts of its homes.
use Rattle.std.proofs.Common.{◌≡◌, ℕ, ◌+◌, ◌<◌, ◌≤◌, inl, inr, sym, ap, ◌∙◌, refl, Bool, true, false, ◌||◌, List}
use Rattle.std.proofs.Common.{length, get_or}
use Rattle.std.proofs.Common.{is_some, nat_eq, nat_le, Option, Some, None, Ok, arith}
use Rattle.std.proofs.lemmas.Bool.{cases_lt, le-leb}
use Rattle.base.specs.declared.TheConstants.{FIRST_HOME_BLOCK}
use Rattle.disk.specs.Crash.{Image}
use Rattle.layout.specs.declared.geometry.Geometry.{Geometry}
use Rattle.layout.specs.declared.inode.Inode.{Inode}
use Rattle.layout.specs.Geometry.{bitmap_blocks, inode_bitmap_at}
use Rattle.layout.specs.Homes.{homes_of}
use Rattle.layout.specs.Owners.{IsMarked, is_marked_inode, is_used, owned}
use Rattle.layout.specs.Parts.{Parts, parts_of, table_of}
use Rattle.image_read.specs.ImageCounts.Tally.{IsOwned, Owned}
use Rattle.image_read.proofs.LawsLemmas.Marks.{bits_of_marked, marked_by}
use Rattle.image_read.specs.Parts.Marks.{AreMarked, is_inode_mark}
use Rattle.image_check.proofs.Homes.{bit_same}

past : (a b c : Bool) → b ≡ true → (a || b) ≡ (a || b || c)
past true b c e = refl
past false true c e = refl
past false false c e = cc

used_is : (o : Option Inode) → is_used (Ok o) ≡ is_some o
used_is (Some inode) = refl
used_is None = refl

module _ (g : Geometry) (image : Image) (table : List (Option Inode)) (is_preserved : Owned)
    (long : length table ≡ g.inodes)
    (are : (number : ℕ) → number < g.inodes
    → table_of g (homes_of g.blocks image) number ≡ Ok (get_or table number None))
    (is : IsOwned (owned g (parts_of g (homes_of g.blocks image))) is_preserved) (size : length is_preserved.has ≡ g.blocks) where
  abbrev parts : Parts
  parts = parts_of g (homes_of g.blocks image)

  mark_is : (number : ℕ) → is_inode_mark table number ≡ is_marked_inode g parts number
  mark_is number =
      ap (λ k. nat_eq number 0 || nat_le k number || is_some (get_or table number None)) long
      ∙ elim (cases_lt number g.inodes) [
        | inl less ↦
            ap (λ b. nat_eq number 0 || nat_le g.inodes number || b)
            (sym (ap is_used (are number less) ∙ used_is (get_or table number None)))
        | inr more ↦
            sym (past (nat_eq number 0) (nat_le g.inodes number) (is_some (get_or table number None))
            (le-leb g.inodes number more))
            ∙ past (nat_eq number 0) (nat_le g.inodes number) (is_used (parts.table number))
            (le-leb g.inodes number more)
      ]

  space_for_blocks : FIRST_HOME_BLOCK + bitmap_blocks g.blocks ≤ g.blocks
  space_for_blocks = let has_space = g.lawful.1.3 in omega (arith, has_space)

  space_for_inodes : inode_bitmap_at g.blocks + bitmap_blocks g.inodes ≤ g.blocks
  space_for_inodes = let has_space = g.lawful.1.3 in omega (arith, has_space)

  pub is_marked : is_preserved.shared ≡ false → AreMarked g image is_preserved table → IsMarked g parts
  is_marked once marked =
      marked_by g parts is_preserved is size once
      (λ number less. bit_same g image FIRST_HOME_BLOCK (bitmap_blocks g.blocks) number less (omega arith) space_for_blocks
      ∙ marked.blocks number less)
      (λ number less. bit_same g image (inode_bitmap_at g.blocks) (bitmap_blocks g.inodes) number less (omega arith)
      space_for_inodes ∙ marked.inodes number less ∙ mark_is number)

  pub are_marked : IsMarked g parts → AreMarked g image is_preserved table
  are_marked marked = record {
    blocks = λ number less.
        sym (bit_same g image FIRST_HOME_BLOCK (bitmap_blocks g.blocks) number less (omega arith) space_for_blocks)
        ∙ bits_of_marked g parts is_preserved is size marked number less;
    inodes = λ number less.
        sym (bit_same g image (inode_bitmap_at g.blocks) (bitmap_blocks g.inodes) number less (omega arith) space_for_inodes)
        ∙ marked.inodes_marked number less ∙ sym (mark_is number);
  }

-- What is kept of the owners decides whether no block has two, and whether the bitmap marks them.
use Rattle.std.proofs.Common.{◌≡◌, ℕ, ◌*◌, ◌<◌, inl, inr, sym, ap, ◌∙◌, refl, Bool, true, false, ◌||◌, get_or, length}
use Rattle.std.proofs.Common.{nat_lt, nat_le, arith}
use Rattle.std.proofs.lemmas.Bool.{cases_lt, le-leb}
use Rattle.base.specs.declared.TheConstants.{BITS_PER_BLOCK}
use Rattle.layout.specs.declared.geometry.Geometry.{Geometry}
use Rattle.layout.specs.Geometry.{bitmap_blocks, data_at}
use Rattle.layout.specs.Owners.{IsMarked, is_marked_block, is_marked_inode, owned}
use Rattle.layout.specs.Parts.{Parts}
use Rattle.image_read.specs.ImageCounts.Tally.{IsOwned, Owned}

module _ (g : Geometry) (parts : Parts) (is_preserved : Owned) (is : IsOwned (owned g parts) is_preserved)
    (size : length is_preserved.has ≡ g.blocks) where
  -- the bit that a block should have, by what is kept
  abbrev pub wanted : ℕ → Bool
  wanted number = nat_lt number (data_at g.blocks g.inodes) || nat_le g.blocks number || get_or is_preserved.has number false

  past : (a b c : Bool) → b ≡ true → (a || b) ≡ (a || b || c)
  past true b c e = refl
  past false true c e = refl
  past false false c e = cc

  same : (number : ℕ) → wanted number ≡ is_marked_block g parts number
  same number = elim (cases_lt number g.blocks) [
    | inl less ↦ ap (λ b. nat_lt number (data_at g.blocks g.inodes) || nat_le g.blocks number || b)
        (is.has number (omega (arith, less, size)))
    | inr more ↦
        sym (past (nat_lt number (data_at g.blocks g.inodes)) (nat_le g.blocks number) (get_or is_preserved.has number false)
        (le-leb g.blocks number more))
        ∙ past (nat_lt number (data_at g.blocks g.inodes)) (nat_le g.blocks number) _ (le-leb g.blocks number more)
  ]

  pub marked_by : is_preserved.shared ≡ false
      → ((number : ℕ) → number < BITS_PER_BLOCK * bitmap_blocks g.blocks → parts.block_bits number ≡ wanted number)
      → ((number : ℕ) → number < BITS_PER_BLOCK * bitmap_blocks g.inodes
      → parts.inode_bits number ≡ is_marked_inode g parts number)
      → IsMarked g parts
  marked_by once bits inodes = record {
    once = is.once once;
    blocks_marked = λ number less. bits number less ∙ same number;
    inodes_marked = inodes;
  }

  pub bits_of_marked : IsMarked g parts → (number : ℕ) → number < BITS_PER_BLOCK * bitmap_blocks g.blocks
      → parts.block_bits number ≡ wanted number
  bits_of_marked marked number less = marked.blocks_marked number less ∙ sym (same number)

  pub not_shared : IsMarked g parts → is_preserved.shared ≡ true → ⊥
  not_shared marked shared =
      let two = is.twice shared in
      let some = two.1 in
      let one = marked.once two.0 in
      omega (arith, some, one)

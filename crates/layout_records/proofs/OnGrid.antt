-- The test of addresses says which are those of objects.
use Rattle.std.proofs.Common.{◌≡◌, ℕ, suc, ◌+◌, ◌-◌, ◌*◌, ◌/◌, ◌%◌, ◌<◌, ◌≤◌, sym, ap, ◌∙◌, refl, Bool, true, false, cond, ◌&&◌}
use Rattle.std.proofs.Common.{nat_eq, nat_le, nat_lt, inl, inr, arith}
use Rattle.std.proofs.lemmas.Bool.{cases_eq, eq-eqb, eqb-true}
use Rattle.std.proofs.lemmas.Bool.Decides.{leb_tells, nat_tests}
use Rattle.base.specs.declared.TheConstants.{BLOCK_BYTES, FIRST_HOME_BLOCK, INODES_PER_BLOCK, INODE_BYTES}
use Rattle.objects.specs.declared.addr.Addr.{Addr}
use Rattle.layout.specs.declared.geometry.Geometry.{Geometry}
use Rattle.layout.specs.declared.grid.TheConstants.{PIECE_BYTES}
use Rattle.layout.specs.Geometry.{data_at, table_at}
use Rattle.layout.specs.Objects.{IsObject, inode, bits, whole}
use Rattle.layout.specs.Places.{is_data}
use Rattle.layout_records.specs.OnGrid.{is_inode, is_on_grid, is_piece}

both : (a b : Bool) → (a && b) ≡ true → (a ≡ true) × (b ≡ true)
both true b is = (refl, is)
both false b is = cc

and_true : (a b : Bool) → a ≡ true → b ≡ true → (a && b) ≡ true
and_true true b one two = two
and_true false b one two = cc

at_most : (x y : ℕ) → nat_le x y ≡ true → x ≤ y
at_most x y is = elim (leb_tells x y) [
  | inl past ↦ past.1
  | inr not ↦ (let no : true ≡ false = sym is ∙ not.0 in cc)
]

tests_at_most : (x y : ℕ) → x ≤ y → nat_le x y ≡ true
tests_at_most x y less = grind (arith, nat_tests)

module _ (g : Geometry) (addr : Addr) where
  bits_are : addr.len ≡ PIECE_BYTES → is_piece g addr.block.0 addr.offset ≡ true → IsObject g addr
  bits_are len is =
      let first = both (nat_le FIRST_HOME_BLOCK addr.block.0 && nat_lt addr.block.0 (table_at g.blocks g.inodes))
      (nat_eq (addr.offset % PIECE_BYTES) 0) is in
      let ends = both (nat_le FIRST_HOME_BLOCK addr.block.0) (nat_lt addr.block.0 (table_at g.blocks g.inodes))
      first.0 in
      let whole = eqb-true (addr.offset % PIECE_BYTES) 0 first.1 in
      let within = addr.within in
      bits (addr.offset / PIECE_BYTES) (omega (arith, within, len)) (at_most FIRST_HOME_BLOCK addr.block.0 ends.0)
      (at_most (suc addr.block.0) (table_at g.blocks g.inodes) ends.1) (omega (arith, whole)) len

  inode_is : is_inode g addr.block.0 addr.offset addr.len ≡ true → IsObject g addr
  inode_is is =
      let one = both (nat_eq addr.len INODE_BYTES && nat_le (table_at g.blocks g.inodes) addr.block.0
      && nat_lt addr.block.0 (data_at g.blocks g.inodes)) (nat_eq (addr.offset % INODE_BYTES) 0) is in
      let two = both (nat_eq addr.len INODE_BYTES && nat_le (table_at g.blocks g.inodes) addr.block.0)
      (nat_lt addr.block.0 (data_at g.blocks g.inodes)) one.0 in
      let three = both (nat_eq addr.len INODE_BYTES) (nat_le (table_at g.blocks g.inodes) addr.block.0) two.0 in
      let len = eqb-true addr.len INODE_BYTES three.0 in
      let from = at_most (table_at g.blocks g.inodes) addr.block.0 three.1 in
      let to = at_most (suc addr.block.0) (data_at g.blocks g.inodes) two.1 in
      let part = eqb-true (addr.offset % INODE_BYTES) 0 one.1 in
      let within = addr.within in
      let rules = g.lawful.1.2 in
      found (table_at g.blocks g.inodes) (addr.block.0 - table_at g.blocks g.inodes) (addr.offset / INODE_BYTES)
      (omega (arith, from)) (omega (arith, part)) (omega (arith, within, len)) (omega (arith, from, to, rules)) len refl
    where
      found : (table row index_within : ℕ) → addr.block.0 ≡ table + row → addr.offset ≡ INODE_BYTES * index_within
          → index_within < INODES_PER_BLOCK → row * INODES_PER_BLOCK + index_within < g.inodes → addr.len ≡ INODE_BYTES
          → table ≡ table_at g.blocks g.inodes → IsObject g addr
      found table row index_within block offset few less len is = inode (row * INODES_PER_BLOCK + index_within) less
          (block ∙ (omega (arith, few, is))) (offset ∙ (omega (arith, few))) len

  pub is_object : is_on_grid g addr ≡ true → IsObject g addr
  is_object is = elim (cases_eq addr.len BLOCK_BYTES) [
    | inl len ↦ (let within = addr.within in
        whole (ap (λ b. cond b (is_data g addr.block.0)
        (cond (nat_eq addr.len PIECE_BYTES) (is_piece g addr.block.0 addr.offset) (is_inode g addr.block.0 addr.offset addr.len)))
        (sym (eq-eqb addr.len BLOCK_BYTES len)) ∙ is) (omega (arith, within, len)) len)
    | inr not ↦ (elim (cases_eq addr.len PIECE_BYTES) [
      | inl len ↦ bits_are len (ap (λ b. cond b (is_piece g addr.block.0 addr.offset) (is_inode g addr.block.0 addr.offset addr.len))
          (sym (eq-eqb addr.len PIECE_BYTES len)) ∙ past not ∙ is)
      | inr other ↦ inode_is (ap (λ b. cond b (is_piece g addr.block.0 addr.offset) (is_inode g addr.block.0 addr.offset addr.len))
          (sym (differs addr.len PIECE_BYTES other)) ∙ past not ∙ is)
    ])
  ]
    where
      differs : (a b : ℕ) → (a ≡ b → ⊥) → nat_eq a b ≡ false
      differs a b not = grind (arith, nat_tests)

      past : (addr.len ≡ BLOCK_BYTES → ⊥) → cond (nat_eq addr.len PIECE_BYTES) (is_piece g addr.block.0 addr.offset) (is_inode g addr.block.0 addr.offset addr.len)
          ≡ is_on_grid g addr
      past not = ap (λ b. cond b (is_data g addr.block.0)
          (cond (nat_eq addr.len PIECE_BYTES) (is_piece g addr.block.0 addr.offset) (is_inode g addr.block.0 addr.offset addr.len)))
          (sym (differs addr.len BLOCK_BYTES not))

  of_len : (len : ℕ) → addr.len ≡ len
      → is_on_grid g addr ≡ cond (nat_eq len BLOCK_BYTES) (is_data g addr.block.0)
      (cond (nat_eq len PIECE_BYTES) (is_piece g addr.block.0 addr.offset) (is_inode g addr.block.0 addr.offset addr.len))
  of_len len is = ap (λ n. cond (nat_eq n BLOCK_BYTES) (is_data g addr.block.0)
      (cond (nat_eq n PIECE_BYTES) (is_piece g addr.block.0 addr.offset) (is_inode g addr.block.0 addr.offset addr.len))) is

  pub on_grid : IsObject g addr → is_on_grid g addr ≡ true
  on_grid (whole is offset len) = of_len BLOCK_BYTES len ∙ is
  on_grid (bits piece few from to offset len) =
      of_len PIECE_BYTES len
      ∙ and_true (nat_le FIRST_HOME_BLOCK addr.block.0 && nat_lt addr.block.0 (table_at g.blocks g.inodes))
      (nat_eq (addr.offset % PIECE_BYTES) 0)
      (and_true (nat_le FIRST_HOME_BLOCK addr.block.0) (nat_lt addr.block.0 (table_at g.blocks g.inodes))
      (tests_at_most FIRST_HOME_BLOCK addr.block.0 from)
      (tests_at_most (suc addr.block.0) (table_at g.blocks g.inodes) to))
      (eq-eqb (addr.offset % PIECE_BYTES) 0 (omega (arith, offset)))
  on_grid (inode number less block offset len) =
      let rules = g.lawful.1.2 in
      of_len INODE_BYTES len
      ∙ and_true (nat_eq addr.len INODE_BYTES && nat_le (table_at g.blocks g.inodes) addr.block.0
      && nat_lt addr.block.0 (data_at g.blocks g.inodes)) (nat_eq (addr.offset % INODE_BYTES) 0)
      (and_true (nat_eq addr.len INODE_BYTES && nat_le (table_at g.blocks g.inodes) addr.block.0)
      (nat_lt addr.block.0 (data_at g.blocks g.inodes))
      (and_true (nat_eq addr.len INODE_BYTES) (nat_le (table_at g.blocks g.inodes) addr.block.0)
      (eq-eqb addr.len INODE_BYTES len)
      (tests_at_most (table_at g.blocks g.inodes) addr.block.0 (omega (arith, block))))
      (tests_at_most (suc addr.block.0) (data_at g.blocks g.inodes) (omega (arith, block, less, rules))))
      (eq-eqb (addr.offset % INODE_BYTES) 0 (omega (arith, offset)))

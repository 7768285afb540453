-- What the writing of an inode makes of the parts: its place in the table is the inode, and nothing else
-- changes.
use Rattle.std.proofs.Common.{◌≡◌, ℕ, suc, ◌+◌, ◌*◌, ◌/◌, ◌%◌, ◌<◌, ◌≤◌, inl, inr, sym, ap, ◌∙◌, refl, subst}
use Rattle.std.proofs.Common.{Bool, true, false, cond, ◌&&◌, if◌then◌else◌, nat_eq, nat_lt, List, length}
use Rattle.std.proofs.Common.{take, drop, get_or, replicate, Option, Ok, Err, ◌^◌, arith}
use Rattle.std.proofs.lemmas.Bool.{lt-ltb, eq-eqb, cases_eq, cases_lt}
use Rattle.std.proofs.lemmas.Bool.Decides.{leb_tells, eqb_tells}
use Rattle.base.specs.declared.TheConstants.{BITS_PER_BLOCK, BLOCK_BYTES, FIRST_HOME_BLOCK}
use Rattle.base.specs.declared.TheConstants.{INODES_PER_BLOCK, INODE_BYTES}
use Rattle.disk.specs.Crash.{Image}
use Rattle.layout.specs.declared.fault.LayoutFault.TheVariants.{Range}
use Rattle.layout.specs.declared.geometry.Geometry.{Geometry}
use Rattle.layout.specs.declared.inode.Inode.{Inode}
use Rattle.layout.specs.Decode.{inode_at}
use Rattle.layout.specs.InodeForm.{read_inode}
use Rattle.objects.specs.Spliced.{spliced}
use Rattle.layout.specs.Parts.{parts_of, put, table_of, bits_of, bit_at, with_bytes}
use Rattle.objects.proofs.Splices.{there, ahead, behind}
use Rattle.layout.specs.Geometry.{bitmap_blocks, inode_bitmap_at, data_at}
use Rattle.layout.specs.Places.{is_data, inode_block, inode_offset}

pub not_same : (a b : ℕ) → (a ≡ b → ⊥) → nat_eq a b ≡ false
not_same a b not = elim (eqb_tells a b) [ inl is ↦ absurd (not is.1) | inr isnt ↦ isnt.0 ]

module _ (blocks : Image) (at offset : ℕ) (bytes : List ℕ) where
  -- another block stays
  pub elsewhere : (block : ℕ) → (block ≡ at → ⊥) → with_bytes blocks at offset bytes block ≡ blocks block
  elsewhere block not =
      ap (λ b. if b then spliced (blocks block) offset bytes else blocks block) (not_same block at not)

  pub here : with_bytes blocks at offset bytes at ≡ spliced (blocks at) offset bytes
  here = ap (λ b. if b then spliced (blocks at) offset bytes else blocks at) (eq-eqb at at refl)

  -- a bitmap that the block isn't of stays
  pub same_bits : (first count : ℕ) → (at < first)
      → bits_of (with_bytes blocks at offset bytes) first count ≡ bits_of blocks first count
  unfolding bit_at
  same_bits first count less = λ i bit.
      nat_lt bit (BITS_PER_BLOCK * count)
      && nat_eq (get_or (elsewhere (first + bit / BITS_PER_BLOCK) (λ is. omega (arith, less, is)) i)
      (bit % BITS_PER_BLOCK / 8) 0 / 2 ^ (bit % 8) % 2) 1

  one_bit : (first count bit : ℕ) → first + count ≤ at → (in_it : Bool)
      → nat_lt bit (BITS_PER_BLOCK * count) ≡ in_it
      → (in_it && bit_at (with_bytes blocks at offset bytes) first bit) ≡ (in_it && bit_at blocks first bit)
  unfolding bit_at
  one_bit first count bit less false past = refl
  one_bit first count bit less true is =
      let low : bit < BITS_PER_BLOCK * count =
      elim (cases_lt bit (BITS_PER_BLOCK * count)) [
        | inl low ↦ low
        | inr high ↦ absurd (clash bit (BITS_PER_BLOCK * count) high is)
      ] in
      ap (λ content. nat_eq (get_or content (bit % BITS_PER_BLOCK / 8) 0 / 2 ^ (bit % 8) % 2) 1)
      (elsewhere (first + bit / BITS_PER_BLOCK) (λ same. omega (arith, less, low, same)))
    where
      clash : (a b : ℕ) → b ≤ a → nat_lt a b ≡ true → ⊥
      clash a b high is =
          elim (leb_tells (suc a) b) [
            | inl less ↦ omega (arith, less.1, high)
            | inr not ↦ (let no : true ≡ false = sym is ∙ not.0 in cc)
          ]

  pub same_bits_below : (first count : ℕ) → first + count ≤ at
      → bits_of (with_bytes blocks at offset bytes) first count ≡ bits_of blocks first count
  same_bits_below first count less =
      λ i bit. one_bit first count bit less (nat_lt bit (BITS_PER_BLOCK * count)) refl i

-- the part of a block that is an inode
abbrev pub part_of : Image → ℕ → ℕ → List ℕ
part_of blocks block number = take INODE_BYTES (drop (inode_offset number) (blocks block))

module _ (g : Geometry) (blocks : Image) (n : ℕ) (bytes : List ℕ) (one : Option Inode)
    (whole : g.inodes % INODES_PER_BLOCK ≡ 0) (less : n < g.inodes)
    (long : length (blocks (inode_block g n)) ≡ BLOCK_BYTES)
    (size : length bytes ≡ INODE_BYTES)
    (reads : read_inode g bytes ≡ Ok one) where
  abbrev at : ℕ
  at = inode_block g n

  abbrev written : Image
  written = with_bytes blocks at (inode_offset n) bytes

  has_space : inode_offset n + length bytes ≤ length (blocks at)
  has_space = omega (arith, long, size)

  itself : inode_at g written n ≡ Ok one
  unfolding inode_at
  itself =
      ap (λ content. read_inode g (take INODE_BYTES (drop (inode_offset n) content)))
      (here blocks at (inode_offset n) bytes)
      ∙ ap (λ k. read_inode g
      (take k (drop (inode_offset n) (spliced (blocks at) (inode_offset n) bytes)))) (sym size)
      ∙ ap (read_inode g) (there (blocks at) bytes (inode_offset n) has_space)
      ∙ reads

  -- another inode of the same block
  unaffected : (m : ℕ) → (m ≡ n → ⊥) → inode_block g m ≡ at
      → part_of written at m ≡ part_of blocks at m
  unaffected m not same =
      ap (λ content. take INODE_BYTES (drop (inode_offset m) content)) (here blocks at (inode_offset n) bytes)
      ∙ (elim (cases_lt (m % INODES_PER_BLOCK) (n % INODES_PER_BLOCK)) [
        | inl low ↦ ahead (blocks at) bytes (inode_offset n) has_space (inode_offset m) INODE_BYTES
            (omega (arith, low))
        | inr high ↦ (elim (cases_eq (m % INODES_PER_BLOCK) (n % INODES_PER_BLOCK)) [
          | inl equal ↦ absurd (not (omega (arith, same, equal)))
          | inr other ↦ behind (blocks at) bytes (inode_offset n) has_space (inode_offset m) INODE_BYTES
              (apart (m % INODES_PER_BLOCK) (n % INODES_PER_BLOCK) high other size)
        ])
      ])
    where
      apart : (a b : ℕ) → b ≤ a → (a ≡ b → ⊥) → {k : ℕ} → k ≡ INODE_BYTES
          → INODE_BYTES * b + k ≤ INODE_BYTES * a
      apart a b high other e =
          elim (cases_lt b a) [
            | inl more ↦ omega (arith, more, e)
            | inr less ↦ absurd (other (omega (arith, high, less)))
          ]

  others : (m : ℕ) → (m ≡ n → ⊥) → inode_at g written m ≡ inode_at g blocks m
  unfolding inode_at
  others m not = elim (cases_eq (inode_block g m) at) [
    | inl same ↦
        ap (λ block. read_inode g (part_of written block m)) same
        ∙ ap (read_inode g) (unaffected m not same)
        ∙ ap (λ block. read_inode g (part_of blocks block m)) (sym same)
    | inr other ↦ ap
        (λ content. read_inode g (take INODE_BYTES (drop (inode_offset m) content)))
        (elsewhere blocks at (inode_offset n) bytes (inode_block g m) other)
  ]

  table : (m : ℕ) → table_of g written m ≡ put (table_of g blocks) n (Ok one) m
  table m = elim (cases_eq m n) [
    | inl is ↦
        subst (λ k. table_of g written k ≡ put (table_of g blocks) n (Ok one) k) (sym is)
        (ap (λ b. cond b (inode_at g written n) (Err Range)) (lt-ltb n g.inodes less) ∙ itself
        ∙ sym (ap (λ b. cond b (Ok one) (table_of g blocks n)) (eq-eqb n n refl)))
    | inr not ↦
        ap (λ read. cond (nat_lt m g.inodes) read (Err Range)) (others m not)
        ∙ sym (ap (λ b. cond b (Ok one) (table_of g blocks m)) (not_same m n not))
  ]

  -- no data block is of the table
  one_block : (block : ℕ) (lies : Bool) → is_data g block ≡ lies
      → cond lies (written block) (replicate BLOCK_BYTES 0)
      ≡ cond lies (blocks block) (replicate BLOCK_BYTES 0)
  one_block block false isnt = refl
  one_block block true is = elsewhere blocks at (inode_offset n) bytes block (λ same.
      elim (leb_tells (data_at g.blocks g.inodes) block) [
        | inl past ↦ omega (arith, past.1, same, whole, less)
        | inr not ↦ (let no : true ≡ false = sym is ∙ ap (λ b. b && nat_lt block g.blocks) not.0 in cc)
      ])

  -- the parts of the blocks with the inode written
  pub parts_written : parts_of g written
      ≡ record (parts_of g blocks) { table = put (table_of g blocks) n (Ok one) }
  parts_written = λ i. record {
    table = λ m. table m i;
    content = λ block. one_block block (is_data g block) refl i;
    block_bits = same_bits_below blocks at (inode_offset n) bytes FIRST_HOME_BLOCK (bitmap_blocks g.blocks)
        (omega arith) i;
    inode_bits = same_bits_below blocks at (inode_offset n) bytes (inode_bitmap_at g.blocks)
        (bitmap_blocks g.inodes) (omega arith) i;
  }

-- The bytes of an image that was just made.
use Rattle.std.proofs.Common.{◌≡◌, ℕ, zero, suc, ◌+◌, ◌-◌, ◌*◌, ◌<◌, ◌≤◌, inl, inr, Bool, true, false, cond}
use Rattle.std.proofs.Common.{List, [], ◌∷◌, ◌++◌, length, replicate, get_or, nat_eq, nat_lt, refl, sym, ap}
use Rattle.std.proofs.Common.{◌∙◌, subst, arith, length-append}
use Rattle.std.specs.Int.{byte_at, bytes_low_first}
use Rattle.std.proofs.lemmas.Bool.{lt-ltb, eq-eqb, cases_lt}
use Rattle.std.proofs.lemmas.Bool.Decides.{leb_tells, eqb_tells}
use Rattle.std.proofs.lemmas.List.{get_or_append_left, get_or-append-add, get_or_past, length-replicate}
use Rattle.std.proofs.lemmas.List.FromFn.{get_or-map-range_with_len, length-map-range_with_len}
use Rattle.base.specs.declared.TheConstants.{BITS_PER_BLOCK, BLOCK_BYTES, FIRST_HOME_BLOCK, INODE_BYTES}
use Rattle.base.specs.declared.TheConstants.{ROOT, ROOT_MODE, SUPER_BLOCK}
use Rattle.nfs_types.specs.declared.ctx.Moment.{Moment}
use Rattle.nfs_types.specs.Fits.{AreBytes}
use Rattle.layout.specs.declared.geometry.Geometry.{Geometry}
use Rattle.layout.specs.declared.super_block.Super.{Super}
use Rattle.layout.specs.Fields.{four_bytes, eight_bytes, number_bytes}
use Rattle.layout.specs.Fresh.{IsFresh, fresh, bit, byte_of, bitmap_block, is_outside, root_inode, root_block}
use Rattle.layout.specs.InodeForm.{inode_bytes, header_bytes, middle_bytes, tail_bytes}
use Rattle.layout.specs.Geometry.{bitmap_blocks, inode_bitmap_at, table_at, data_at}
use Rattle.layout.specs.SuperForm.{MAGIC_BYTES, super_header, super_bytes}
use Rattle.layout.specs.Version.{number_of_version}

-- each item is a byte
pub record IsBytes (bytes : List ℕ) : Type 0 where
  pub are : AreBytes bytes

pub join : {xs ys : List ℕ} → IsBytes xs → IsBytes ys → IsBytes (xs ++ ys)
join {xs} {ys} a b = record {
  are = λ index. elim (cases_lt index (length xs)) [
    | inl less ↦ subst (λ n. n < 256) (sym (get_or_append_left xs ys 0 index less)) (a.are index)
    | inr more ↦
        let there : index ≡ length xs + (index - length xs) = omega (arith, more) in
        subst (λ n. n < 256) (sym (ap (λ k. get_or (xs ++ ys) k 0) there
        ∙ get_or-append-add xs ys (index - length xs) 0)) (b.are (index - length xs))
  ];
}

nothing : IsBytes []
nothing = record { are = λ index. omega arith }

cons-at : (byte : ℕ) (bytes : List ℕ) → byte < 256 → AreBytes bytes → (index : ℕ)
    → get_or (byte ∷ bytes) index 0 < 256
cons-at byte bytes small others zero = small
cons-at byte bytes small others (suc index) = others index

cons : {bytes : List ℕ} (byte : ℕ) → byte < 256 → IsBytes bytes → IsBytes (byte ∷ bytes)
cons {bytes} byte small others = record { are = cons-at byte bytes small others.are }

zeros : (count : ℕ) → IsBytes (replicate count 0)
zeros zero = nothing
zeros (suc count) = cons 0 (omega arith) (zeros count)

small_byte : (i n : ℕ) → byte_at i n < 256
small_byte zero n = omega arith
small_byte (suc i) n = omega arith

low : (i k n : ℕ) → IsBytes (bytes_low_first i k n)
low i zero n = nothing
low i (suc k) n = cons (byte_at i n) (small_byte i n) (low (suc i) k n)

pub four : (n : ℕ) → IsBytes (four_bytes n)
unfolding four_bytes
four n = low 0 4 n

pub eight : (n : ℕ) → IsBytes (eight_bytes n)
unfolding eight_bytes
eight n = low 0 8 n

pub fours : (numbers : List ℕ) → IsBytes (number_bytes numbers)
fours [] = nothing
fours (n ∷ numbers) = join (four n) (fours numbers)

-- ---- the blocks

pub record IsBlock (bytes : List ℕ) : Type 0 where
  pub long : length bytes ≡ BLOCK_BYTES
  pub each : IsBytes bytes

pub zero_block : IsBlock (replicate BLOCK_BYTES 0)
zero_block = record { long = length-replicate {A = ℕ} BLOCK_BYTES 0; each = zeros BLOCK_BYTES }

magic : IsBytes MAGIC_BYTES
magic = cons 78 (omega arith)
    (cons 70 (omega arith)
    (cons 83 (omega arith)
    (cons 74 (omega arith)
    (cons 82 (omega arith) (cons 78 (omega arith) (cons 76 (omega arith) (cons 49 (omega arith) nothing)))))))

super_block : (s : Super) → IsBlock (super_bytes s)
unfolding super_header four_bytes eight_bytes
super_block s = record {
  long = length-append (super_header s) (replicate (BLOCK_BYTES - 32) 0)
      ∙ ap (λ n. 32 + n) (length-replicate {A = ℕ} (BLOCK_BYTES - 32) 0);
  each = join (join
      (join (join (join
      (join magic (four (number_of_version s.geometry.version)))
      (four s.geometry.blocks)) (four s.geometry.inodes)) (four 0))
      (eight s.boot)) (zeros (BLOCK_BYTES - 32));
}

module _ (moment : Moment) where
  abbrev inode : List ℕ
  inode = inode_bytes (root_inode moment)

  inode_are : IsBytes inode
  unfolding header_bytes middle_bytes tail_bytes
  inode_are = join (join
      (join (join (join (join (join (four 2) (four ROOT_MODE)) (four 0)) (four 0)) (four 2)) (four 0))
      (join (join (join (join (join (eight 0) (join (four moment.seconds) (four moment.nanoseconds)))
      (join (four moment.seconds) (four moment.nanoseconds)))
      (join (four moment.seconds) (four moment.nanoseconds))) (eight 0)) (eight 0)))
      (join (join (join (join (four ROOT) (join (four 0) (eight 0))) (fours (replicate 8 0))) (four 0))
      (four 0))

  inode-length : length inode ≡ INODE_BYTES
  unfolding header_bytes middle_bytes tail_bytes four_bytes eight_bytes
  inode-length = refl

  the_root_block : IsBlock (root_block moment)
  the_root_block = record {
    long =
        length-append (replicate {A = ℕ} INODE_BYTES 0) (inode
        ++ replicate (BLOCK_BYTES - INODE_BYTES - INODE_BYTES) 0)
        ∙ (let a = length-replicate {A = ℕ} INODE_BYTES 0 in
        let b = length-append inode (replicate (BLOCK_BYTES - INODE_BYTES - INODE_BYTES) 0) in
        let c = length-replicate {A = ℕ} (BLOCK_BYTES - INODE_BYTES - INODE_BYTES) 0 in
        let d = inode-length in
        omega (arith, a, b, c, d));
    each = join (zeros INODE_BYTES) (join inode_are (zeros (BLOCK_BYTES - INODE_BYTES - INODE_BYTES)));
  }

small : (b : Bool) → bit b ≤ 1
small true = omega arith
small false = omega arith

small_bits : (marked : ℕ → Bool) (n : ℕ) → byte_of marked n < 256
small_bits marked n =
    omega (
      arith,
      small (marked n),
      small (marked (n + 1)),
      small (marked (n + 2)),
      small (marked (n + 3)),
      small (marked (n + 4)),
      small (marked (n + 5)),
      small (marked (n + 6)),
      small (marked (n + 7)),
    )

module _ (marked : ℕ → Bool) (first : ℕ) where
  block-length : length (bitmap_block marked first) ≡ BLOCK_BYTES
  unfolding bitmap_block
  block-length = length-map-range_with_len (λ offset. byte_of marked (first + 8 * offset)) 0 BLOCK_BYTES

  block-at : (index : ℕ) → index < BLOCK_BYTES
      → get_or (bitmap_block marked first) index 0 ≡ byte_of marked (first + 8 * index)
  unfolding bitmap_block
  block-at index less =
      get_or-map-range_with_len (λ offset. byte_of marked (first + 8 * offset)) 0 BLOCK_BYTES index index 0
      less (omega arith)

  bitmap : IsBlock (bitmap_block marked first)
  bitmap = record {
    long = block-length;
    each = record {
      are = λ index. elim (cases_lt index BLOCK_BYTES) [
        | inl less ↦ let is = block-at index less in let s = small_bits marked (first + 8 * index) in
            omega (arith, is, s)
        | inr more ↦ let n = block-length in let is =
            get_or_past (bitmap_block marked first) index 0 (omega (arith, more, n)) in omega (arith, is)
      ];
    };
  }

either : (b : Bool) (x y : List ℕ) → IsBlock x → IsBlock y → IsBlock (cond b x y)
either true x y a b = a
either false x y a b = b

not_below : (a b : ℕ) → b ≤ a → nat_lt a b ≡ false
not_below a b less = elim (leb_tells (suc a) b) [ inl is ↦ absurd (omega (arith, is.1)) | inr isnt ↦ isnt.0 ]

not_same : (a b : ℕ) → b < a → nat_eq a b ≡ false
not_same a b less = elim (eqb_tells a b) [ inl is ↦ absurd (omega (arith, is.1, less)) | inr isnt ↦ isnt.0 ]

module _ (g : Geometry) (moment : Moment) where
  -- the tests that choose a block, from the first on
  abbrev last : ℕ → List ℕ
  last number =
      cond (nat_eq number (table_at g.blocks g.inodes)) (root_block moment) (replicate BLOCK_BYTES 0)

  abbrev later : ℕ → List ℕ
  later number =
      cond (nat_lt number (table_at g.blocks g.inodes))
      (bitmap_block (is_outside (ROOT + 1) g.inodes) (BITS_PER_BLOCK * (number - inode_bitmap_at g.blocks)))
      (last number)

  abbrev mapped : ℕ → List ℕ
  mapped number =
      cond (nat_lt number (inode_bitmap_at g.blocks))
      (bitmap_block (is_outside (data_at g.blocks g.inodes) g.blocks)
      (BITS_PER_BLOCK * (number - FIRST_HOME_BLOCK))) (later number)

  last_block : (number : ℕ) → IsBlock (last number)
  last_block number =
      either (nat_eq number (table_at g.blocks g.inodes)) (root_block moment) (replicate BLOCK_BYTES 0)
      (the_root_block moment) zero_block

  later_block : (number : ℕ) → IsBlock (later number)
  later_block number =
      either (nat_lt number (table_at g.blocks g.inodes))
      (bitmap_block (is_outside (ROOT + 1) g.inodes)
      (BITS_PER_BLOCK * (number - inode_bitmap_at g.blocks))) (last number)
      (bitmap (is_outside (ROOT + 1) g.inodes) (BITS_PER_BLOCK * (number - inode_bitmap_at g.blocks)))
      (last_block number)

  mapped_block : (number : ℕ) → IsBlock (mapped number)
  mapped_block number =
      either (nat_lt number (inode_bitmap_at g.blocks))
      (bitmap_block (is_outside (data_at g.blocks g.inodes) g.blocks)
      (BITS_PER_BLOCK * (number - FIRST_HOME_BLOCK))) (later number)
      (bitmap (is_outside (data_at g.blocks g.inodes) g.blocks)
      (BITS_PER_BLOCK * (number - FIRST_HOME_BLOCK))) (later_block number)

  each_block : (number : ℕ) → IsBlock (fresh g moment number)
  unfolding fresh
  each_block number =
      either (nat_eq number SUPER_BLOCK) (super_bytes (record { geometry = g; boot = 0 }))
      (cond (nat_lt number FIRST_HOME_BLOCK) (replicate BLOCK_BYTES 0) (mapped number))
      (super_block (record { geometry = g; boot = 0 }))
      (either (nat_lt number FIRST_HOME_BLOCK) (replicate BLOCK_BYTES 0) (mapped number) zero_block
      (mapped_block number))

  at_home : (number : ℕ) → FIRST_HOME_BLOCK ≤ number → fresh g moment number ≡ mapped number
  unfolding fresh
  at_home number home =
      λ i. cond (not_same number SUPER_BLOCK (omega (arith, home)) i)
      (super_bytes (record { geometry = g; boot = 0 }))
      (cond (not_below number FIRST_HOME_BLOCK home i) (replicate BLOCK_BYTES 0) (mapped number))

  past_blocks : (number : ℕ) → inode_bitmap_at g.blocks ≤ number → fresh g moment number ≡ later number
  past_blocks number past =
      at_home number (omega (arith, past))
      ∙ ap (λ b. cond b
      (bitmap_block (is_outside (data_at g.blocks g.inodes) g.blocks)
      (BITS_PER_BLOCK * (number - FIRST_HOME_BLOCK))) (later number))
      (not_below number (inode_bitmap_at g.blocks) past)

  past_inodes : (number : ℕ) → table_at g.blocks g.inodes ≤ number → fresh g moment number ≡ last number
  past_inodes number past =
      past_blocks number (omega (arith, past))
      ∙ ap (λ b. cond b
      (bitmap_block (is_outside (ROOT + 1) g.inodes) (BITS_PER_BLOCK * (number - inode_bitmap_at g.blocks)))
      (last number)) (not_below number (table_at g.blocks g.inodes) past)

  in_blocks : (k : ℕ) → k < bitmap_blocks g.blocks
      → fresh g moment (FIRST_HOME_BLOCK + k)
      ≡ bitmap_block (is_outside (data_at g.blocks g.inodes) g.blocks) (BITS_PER_BLOCK * k)
  in_blocks k less =
      let back : FIRST_HOME_BLOCK + k - FIRST_HOME_BLOCK ≡ k = omega arith in
      at_home (FIRST_HOME_BLOCK + k) (omega arith)
      ∙ (λ i. cond (lt-ltb (FIRST_HOME_BLOCK + k) (inode_bitmap_at g.blocks) (omega (arith, less)) i)
      (bitmap_block (is_outside (data_at g.blocks g.inodes) g.blocks) (BITS_PER_BLOCK * back i))
      (later (FIRST_HOME_BLOCK + k)))

  in_inodes : (k : ℕ) → k < bitmap_blocks g.inodes
      → fresh g moment (inode_bitmap_at g.blocks + k)
      ≡ bitmap_block (is_outside (ROOT + 1) g.inodes) (BITS_PER_BLOCK * k)
  in_inodes k less =
      let back : inode_bitmap_at g.blocks + k - inode_bitmap_at g.blocks ≡ k = omega arith in
      past_blocks (inode_bitmap_at g.blocks + k) (omega arith)
      ∙ (λ i. cond (lt-ltb (inode_bitmap_at g.blocks + k) (table_at g.blocks g.inodes) (omega (arith, less))
      i) (bitmap_block (is_outside (ROOT + 1) g.inodes) (BITS_PER_BLOCK * back i))
      (last (inode_bitmap_at g.blocks + k)))

  in_table : fresh g moment (table_at g.blocks g.inodes) ≡ root_block moment
  in_table =
      past_inodes (table_at g.blocks g.inodes) (omega arith)
      ∙ ap (λ b. cond b (root_block moment) (replicate BLOCK_BYTES 0))
      (eq-eqb (table_at g.blocks g.inodes) (table_at g.blocks g.inodes) refl)

  in_free : (k : ℕ) → 0 < k → fresh g moment (table_at g.blocks g.inodes + k) ≡ replicate BLOCK_BYTES 0
  in_free k some =
      past_inodes (table_at g.blocks g.inodes + k) (omega arith)
      ∙ ap (λ b. cond b (root_block moment) (replicate BLOCK_BYTES 0))
      (not_same (table_at g.blocks g.inodes + k) (table_at g.blocks g.inodes) (omega (arith, some)))

  pub is_fresh : IsFresh g moment (fresh g moment)
  unfolding fresh
  is_fresh = record {
    super = refl;
    header = refl;
    start = refl;
    homes = record {
      bytes = λ number home less. let block = each_block number in (block.long, block.each.are);
      blocks = in_blocks;
      inodes = in_inodes;
      root = in_table;
      free = λ k some less. in_free k some;
    };
  }

-- A clear bit of a piece is one of its bitmap, and the number of an inode that is clear is that of no file.
use Rattle.std.proofs.Common.{◌≡◌, ℕ, ◌+◌, ◌-◌, ◌*◌, ◌/◌, ◌%◌, ◌^◌, ◌<◌, ◌≤◌, inl, inr, sym, ap, ◌∙◌, refl}
use Rattle.std.proofs.Common.{arith, Bool, true, false, ◌||◌, ◌&&◌, nat_eq, nat_le, drop}
use Rattle.std.proofs.Common.{get_or, Option, Some, None, Result, Ok, Err}
use Rattle.std.proofs.lemmas.Bool.{cases_lt, eq-eqb, leb-false, lt-ltb, ne_eqb}
use Rattle.std.proofs.lemmas.Bool.Decides.{nat_tests}
use Rattle.std.proofs.lemmas.List.{get_or-drop, get_or-take}
use Rattle.base.specs.declared.TheConstants.{BITS_PER_BLOCK}
use Rattle.disk.specs.Crash.{Image}
use Rattle.nfs_spec.specs.Model.Tree.{Tree, node_at}
use Rattle.nfs_spec.specs.Model.Tree as model
use Rattle.nfs_spec.specs.Procedures.Fresh.{IsNewNumber, IsUnused}
use Rattle.layout.specs.declared.fault.LayoutFault.{LayoutFault}
use Rattle.layout.specs.declared.geometry.Geometry.{Geometry}
use Rattle.layout.specs.declared.grid.TheConstants.{PIECE_BITS, PIECE_BYTES, PIECES_PER_BLOCK}
use Rattle.layout.specs.declared.inode.Inode.{Inode}
use Rattle.layout.specs.Decode.{file_of}
use Rattle.layout.specs.Geometry.{bitmap_blocks, inode_bitmap_at}
use Rattle.layout.specs.Holds.{Holds}
use Rattle.layout.specs.Owners.{is_marked_inode, is_used}
use Rattle.layout.specs.Parts.{Parts, bit_at, parts_of}
use Rattle.bitmap.specs.Bits.{IsClearBetween, IsClearIn, IsClearOf}
use Rattle.layout_records.specs.Bits.{bit_in}
use Rattle.layout_records.specs.Bits.{piece_in}

pub in_piece : (blocks : Image) (first piece bit : ℕ) → bit < PIECE_BITS
    → bit_in (piece_in blocks first piece) bit ≡ bit_at blocks first (PIECE_BITS * piece + bit)
unfolding bit_at
in_piece blocks first piece bit less =
    let content = blocks (first + piece / PIECES_PER_BLOCK) in
    let block : piece / PIECES_PER_BLOCK ≡ (PIECE_BITS * piece + bit) / BITS_PER_BLOCK = omega (arith, less) in
    let byte : PIECE_BYTES * (piece % PIECES_PER_BLOCK) + bit / 8 ≡ (PIECE_BITS * piece + bit) % BITS_PER_BLOCK / 8 = omega (arith, less) in
    let rest : bit % 8 ≡ (PIECE_BITS * piece + bit) % 8 = omega arith in
    ap (λ v. nat_eq (v / 2 ^ (bit % 8) % 2) 1)
    (get_or-take PIECE_BYTES (drop (PIECE_BYTES * (piece % PIECES_PER_BLOCK)) content) (bit / 8) 0 (omega (arith, less))
    ∙ get_or-drop (PIECE_BYTES * (piece % PIECES_PER_BLOCK)) content (bit / 8) 0)
    ∙ (λ i. nat_eq (get_or (blocks (first + block i)) (byte i) 0 / 2 ^ rest i % 2) 1)

-- all bits are set up to a piece, and in it
pub more_set : (blocks : Image) (first from piece : ℕ)
    → ((bit : ℕ) → PIECE_BITS * from ≤ bit → bit < PIECE_BITS * piece → bit_at blocks first bit ≡ true)
    → IsClearIn (piece_in blocks first piece) None
    → (bit : ℕ) → PIECE_BITS * from ≤ bit → bit < PIECE_BITS * (piece + 1) → bit_at blocks first bit ≡ true
more_set blocks first from piece before none bit high less = elim (cases_lt bit (PIECE_BITS * piece)) [
  | inl low ↦ before bit high low
  | inr past ↦
      let split : PIECE_BITS * piece + (bit - PIECE_BITS * piece) ≡ bit = omega (arith, past) in
      ap (bit_at blocks first) (sym split)
      ∙ sym (in_piece blocks first piece (bit - PIECE_BITS * piece) (omega (arith, less, past)))
      ∙ none (bit - PIECE_BITS * piece) (omega (arith, less, past))
]

pub found_clear : (blocks : Image) (first from end piece bit : ℕ) → from ≤ piece → piece < end
    → IsClearIn (piece_in blocks first piece) (Some bit)
    → IsClearBetween blocks first from end (Some (PIECE_BITS * piece + bit))
found_clear blocks first from end piece bit low less clear = (
  omega (arith, low),
  let few = clear.0 in omega (arith, few, less),
  sym (in_piece blocks first piece bit clear.0) ∙ clear.1,
)

-- a clear bit of some pieces is one of the bitmap
pub one_of : (blocks : Image) (first count from end bit : ℕ) → end ≤ PIECES_PER_BLOCK * count
    → IsClearBetween blocks first from end (Some bit) → IsClearOf blocks first count (Some bit)
one_of blocks first count from end bit fits clear = (let less = clear.1 in omega (arith, less, fits), clear.2)

-- where none is clear from a piece on, what is found before it is found in all
pub in_two : (blocks : Image) (first count start : ℕ) → start ≤ PIECES_PER_BLOCK * count
    → IsClearBetween blocks first start (PIECES_PER_BLOCK * count) None → (found : Option ℕ)
    → IsClearBetween blocks first 0 start found → IsClearOf blocks first count found
in_two blocks first count start fits behind (Some bit) before = one_of blocks first count 0 start bit fits before
in_two blocks first count start fits behind None before = λ bit less. elim (cases_lt bit (PIECE_BITS * start)) [
  | inl low ↦ before bit (omega arith) low
  | inr past ↦ behind bit past (omega (arith, less))
]

-- ---- numbers

none_of : (a b c : Bool) → (a || b || c) ≡ false → (a ≡ false) × (b ≡ false) × (c ≡ false)
none_of true b c e = cc
none_of false true c e = cc
none_of false false true e = cc
none_of false false false e = (refl, refl, refl)

no_file : (inodes : ℕ) (content : Image) (read : Result (Option Inode) LayoutFault) → is_used read ≡ false
    → file_of inodes content read ≡ None
no_file inodes content (Ok (Some inode)) e = cc
no_file inodes content (Ok None) e = refl
no_file inodes content (Err fault) e = refl

not_used : (inodes : ℕ) (content : Image) (read : Result (Option Inode) LayoutFault)
    → file_of inodes content read ≡ None → is_used read ≡ false
not_used inodes content (Ok (Some inode)) e = cc
not_used inodes content (Ok None) e = refl
not_used inodes content (Err fault) e = refl

past_zero : (n : ℕ) → nat_eq n 0 ≡ false → 0 < n
past_zero n e = elim (cases_lt 0 n) [
  | inl some ↦ some
  | inr none ↦ (let clash : true ≡ false = sym (eq-eqb n 0 (omega (arith, none))) ∙ e in cc)
]

module _ (g : Geometry) (blocks : Image) (tree : Tree) (holds : Holds g blocks tree) where
  abbrev parts : Parts
  parts = parts_of g blocks

  abbrev bits : ℕ
  bits = BITS_PER_BLOCK * bitmap_blocks g.inodes

  inodes_are : tree.geometry.inodes ≡ g.inodes
  inodes_are = ap (λ (one : model.Geometry). one.inodes) holds.parts.geometry

  marked_as : (n : ℕ) → n < bits → bit_at blocks (inode_bitmap_at g.blocks) n ≡ is_marked_inode g parts n
  marked_as n less =
      ap (λ b. b && bit_at blocks (inode_bitmap_at g.blocks) n) (sym (lt-ltb n bits less))
      ∙ holds.parts.marked.inodes_marked n less

  unused : (n : ℕ) → n < bits → bit_at blocks (inode_bitmap_at g.blocks) n ≡ false → IsUnused tree n
  unused n less clear =
      let none = none_of (nat_eq n 0) (nat_le g.inodes n) (is_used (parts.table n))
      (sym (marked_as n less) ∙ clear) in
      record {
        least = past_zero n none.0;
        most = let low = leb-false g.inodes n none.1 in omega (arith, low, inodes_are);
        free = holds.parts.has.files n ∙ no_file g.inodes parts.content (parts.table n) none.2;
      }

  pub is_new : (found : Option ℕ)
      → IsClearOf blocks (inode_bitmap_at g.blocks) (bitmap_blocks g.inodes) found → IsNewNumber tree found
  is_new (Some n) clear = unused n clear.0 clear.1
  is_new None none = λ n is.
      let most = is.most in
      let least = is.least in
      let low : n < bits = omega (arith, most, inodes_are) in
      let free : is_used (parts.table n) ≡ false =
      not_used g.inodes parts.content (parts.table n) (sym (holds.parts.has.files n) ∙ is.free) in
      let zero : nat_eq n 0 ≡ false = ne_eqb n 0 (λ same. omega (arith, least, same)) in
      let high : nat_le g.inodes n ≡ false = not_past g.inodes n (omega (arith, most, inodes_are)) in
      let mark : is_marked_inode g parts n ≡ false = λ i. zero i || high i || free i in
      let clash : true ≡ false = sym (none n low) ∙ marked_as n low ∙ mark in cc
    where
      not_past : (a b : ℕ) → b < a → nat_le a b ≡ false
      not_past a b less = grind (arith, nat_tests)

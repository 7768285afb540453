-- The objects of an image lie behind the log, are one or apart, and begin in pieces of an inode's bytes of their own.
use Rattle.std.proofs.Common.{rules, ◌≡◌, ℕ, ◌+◌, ◌*◌, ◌/◌, ◌%◌, ◌<◌, ◌≤◌, ◌⊎◌, inl, inr, sym, ap, ◌∙◌, subst}
use Rattle.std.proofs.Common.{arith, refl, suc, true, false, nat_le, nat_lt, Bool, ◌&&◌}
use Rattle.std.proofs.Math.Bridge.{le_prop}
use Rattle.std.proofs.lemmas.Bool.{cases_lt}
use Rattle.std.proofs.lemmas.Bool.Decides.{leb_tells}
use Rattle.base.specs.declared.TheConstants.{BLOCK_BYTES, FIRST_HOME_BLOCK, INODES_PER_BLOCK, INODE_BYTES}
use Rattle.disk.specs.declared.block.BlockNo.{BlockNo}
use Rattle.objects.specs.Addr.{Overlap}
use Rattle.objects.specs.declared.addr.Addr.{Addr}
use Rattle.layout.specs.declared.geometry.Geometry.{Geometry}
use Rattle.layout.specs.declared.grid.TheConstants.{PIECE_BYTES}
use Rattle.layout.specs.Geometry.{data_at}
use Rattle.layout.specs.Places.{is_data}
use Rattle.layout.specs.Objects.{IsObject, inode, bits, whole}

-- ---- where they lie

both : (a b : Bool) → (a && b) ≡ true → (a ≡ true) × (b ≡ true)
both true b is = (refl, is)
both false b is = cc

le_of : (x y : ℕ) → nat_le x y ≡ true → x ≤ y
le_of x y is = elim (leb_tells x y) [
  | inl past ↦ past.1
  | inr not ↦ (let no : true ≡ false = sym is ∙ not.0 in cc)
]

pub data_within : (g : Geometry) (number : ℕ) → is_data g number ≡ true
    → (data_at g.blocks g.inodes ≤ number) × (number < g.blocks)
data_within g number is =
    let parts = both (nat_le (data_at g.blocks g.inodes) number) (nat_lt number g.blocks) is in
    (le_of (data_at g.blocks g.inodes) number parts.0, le_of (suc number) g.blocks parts.1)

pub at_home : (g : Geometry) (addr : Addr) → IsObject g addr
    → (FIRST_HOME_BLOCK ≤ addr.block.0) × (addr.block.0 < g.blocks)
at_home g addr (inode number less at offset len) =
    let rules = g.lawful.1 in
    (omega (arith, at), omega (arith, at, less, rules.2, rules.3))
at_home g addr (bits piece few from below offset len) =
    let rules = g.lawful.1 in (from, omega (arith, below, rules.3))
at_home g addr (whole is offset len) =
    let lies = data_within g addr.block.0 is in let past = lies.0 in (omega (arith, past), lies.1)

-- ---- one or apart

-- addresses of the same numbers are one
abbrev addr_of : (block offset len : ℕ) → 0 < len → offset + len ≤ BLOCK_BYTES → Addr
addr_of block offset len some within = record {
  block = record { 0 = block };
  offset = offset;
  len = len;
  some = some;
  within = within;
}

pub one_addr : (a b : Addr) → a.block.0 ≡ b.block.0 → a.offset ≡ b.offset → a.len ≡ b.len → a ≡ b
one_addr a b block offset len =
    subst (λ (n : ℕ). a ≡ addr_of n b.offset b.len b.some b.within) block
    (subst (λ (n : ℕ). (within : n + b.len ≤ BLOCK_BYTES) → a ≡ addr_of a.block.0 n b.len b.some within) offset
    (subst (λ (n : ℕ). (some : 0 < n) (within : a.offset + n ≤ BLOCK_BYTES)
    → a ≡ addr_of a.block.0 a.offset n some within) len
    (λ some within. λ i. addr_of a.block.0 a.offset a.len (le_prop a.some some i)
    (le_prop a.within within i)) b.some) b.within)

three : (x y : ℕ) → (x ≡ y) ⊎ ((x < y) ⊎ (y < x))
three x y = elim (cases_lt x y) [
  | inl less ↦ inr (inl less)
  | inr high ↦ (elim (cases_lt y x) [ inl more ↦ inr (inr more) | inr low ↦ inl (omega (arith, high, low)) ])
]

ends : (size x y from to len : ℕ) → from ≡ size * x → to ≡ size * y → len ≡ size → x < y → from + len ≤ to
ends size x y from to len at there long less =
    let more = mul-le size (x + 1) y (omega (arith, less)) in
    let by_one : size * (x + 1) ≡ size * x + size = mul-suc size x in
    omega (arith, at, there, long, more, by_one)
  where
    mul-suc : (size x : ℕ) → size * (x + 1) ≡ size * x + size
    mul-suc size x = search (rules, arith)

    mul-le : (size x y : ℕ) → x ≤ y → size * x ≤ size * y
    mul-le size x y less = search (rules, arith)

module _ (g : Geometry) (a b : Addr) (same : a.block.0 ≡ b.block.0) where
  abbrev pub AreApart : Type 0
  AreApart = ((a.offset ≡ b.offset) × (a.len ≡ b.len))
      ⊎ ((a.offset + a.len ≤ b.offset) ⊎ (b.offset + b.len ≤ a.offset))

  spaced : (size x y : ℕ) → a.offset ≡ size * x → b.offset ≡ size * y → a.len ≡ size → b.len ≡ size → AreApart
  spaced size x y at there len long = elim (three x y) [
    | inl is ↦ inl (at ∙ ap (λ k. size * k) is ∙ sym there, len ∙ sym long)
    | inr differ ↦ inr (elim differ [
      | inl less ↦ inl (ends size x y a.offset b.offset a.len at there len less)
      | inr more ↦ inr (ends size y x b.offset a.offset b.len there at long more)
    ])
  ]

  pub apart : IsObject g a → IsObject g b → AreApart
  apart (inode n low at offset len) (inode m less there from long) =
      spaced INODE_BYTES (n % INODES_PER_BLOCK) (m % INODES_PER_BLOCK) offset from len long
  apart (inode n low at offset len) (bits k few behind below from long) = absurd (omega (arith, at, below, same))
  apart (inode n low at offset len) (whole is from long) =
      let past = (data_within g b.block.0 is).0 in
      let rules = g.lawful.1 in
      absurd (omega (arith, at, past, same, low, rules.2))
  apart (bits k few behind below offset len) (inode n low at from long) = absurd (omega (arith, at, below, same))
  apart (bits k few behind below offset len) (bits j less past under from long) = spaced PIECE_BYTES k j offset from len long
  apart (bits k few behind below offset len) (whole is from long) =
      let past = (data_within g b.block.0 is).0 in absurd (omega (arith, below, past, same))
  apart (whole is offset len) (inode n low at from long) =
      let past = (data_within g a.block.0 is).0 in
      let rules = g.lawful.1 in
      absurd (omega (arith, at, past, same, low, rules.2))
  apart (whole is offset len) (bits k few behind below from long) =
      let past = (data_within g a.block.0 is).0 in absurd (omega (arith, below, past, same))
  apart (whole is offset len) (whole also from long) = inl (offset ∙ sym from, len ∙ sym long)

pub one_or_apart : (g : Geometry) (a b : Addr) → IsObject g a → IsObject g b → Overlap a b → a ≡ b
one_or_apart g a b one other over =
    let same : a.block.0 ≡ b.block.0 = ap (λ (k : BlockNo). k.0) over.0 in
    elim (apart g a b same one other) [
      | inl is ↦ one_addr a b same is.0 is.1
      | inr differ ↦ (elim differ [
        | inl ahead ↦ (let x = over.2 in absurd (omega (arith, x, ahead)))
        | inr behind ↦ (let x = over.1 in absurd (omega (arith, x, behind)))
      ])
    ]

-- ---- where they begin

-- the piece with which an object begins, where blocks are cut into pieces of as many bytes as an inode has
abbrev pub key_of : Addr → ℕ
key_of addr = INODES_PER_BLOCK * addr.block.0 + addr.offset / INODE_BYTES

at_least : (g : Geometry) (addr : Addr) → IsObject g addr → INODE_BYTES ≤ addr.len
at_least g addr (inode number less at offset len) = omega (arith, len)
at_least g addr (bits piece few from below offset len) = omega (arith, len)
at_least g addr (whole is offset len) = omega (arith, len)

pub key_below : (g : Geometry) (addr : Addr) → IsObject g addr → key_of addr < INODES_PER_BLOCK * g.blocks
key_below g addr is =
    let low = (at_home g addr is).1 in let within = addr.within in let some = addr.some in
    omega (arith, low, within, some)

pub one_key : (g : Geometry) (a b : Addr) → IsObject g a → IsObject g b → key_of a ≡ key_of b → a ≡ b
one_key g a b one other same =
    let a_in = a.within in let a_some = a.some in let b_in = b.within in let b_some = b.some in
    let block : a.block.0 ≡ b.block.0 = omega (arith, same, a_in, a_some, b_in, b_some) in
    let cell : a.offset / INODE_BYTES ≡ b.offset / INODE_BYTES = omega (arith, same, block) in
    let a_long = at_least g a one in let b_long = at_least g b other in
    elim (apart g a b block one other) [
      | inl is ↦ one_addr a b block is.0 is.1
      | inr differ ↦ (elim differ [
        | inl ahead ↦ absurd (omega (arith, cell, ahead, a_long))
        | inr behind ↦ absurd (omega (arith, cell, behind, b_long))
      ])
    ]

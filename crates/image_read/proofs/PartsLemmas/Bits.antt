-- The bits of a bitmap, block by block.
use Rattle.std.proofs.Common.{◌≡◌, ℕ, ◌+◌, ◌-◌, ◌*◌, ◌/◌, ◌%◌, ◌^◌, ◌<◌, inl, inr, sym, ap, ◌∙◌, refl, subst, Bool, false, List}
use Rattle.std.proofs.Common.{[], ◌∷◌, ◌++◌, length, length-append, get_or, nat_eq, arith}
use Rattle.std.proofs.lemmas.Bool.{cases_lt}
use Rattle.std.proofs.lemmas.List.{get_or-append-add, get_or_append_left}
use Rattle.base.specs.declared.TheConstants.{BITS_PER_BLOCK}
use Rattle.disk.specs.Crash.{Image}
use Rattle.layout.specs.Parts.{bit_at}
use Rattle.image_read.specs.Parts.Marks.{HasBits, bit_in}

-- a block has these bits from a place on
abbrev pub HasBitsFrom : List ℕ → List Bool → ℕ → Type 0
HasBitsFrom block marks from =
    (bit : ℕ) → bit < BITS_PER_BLOCK → bit_in block bit ≡ get_or marks (from + bit) false

module _ (image : Image) (first : ℕ) (marks : List Bool) where
  pub no_bits : HasBits image first 0 marks
  no_bits number less = absurd (omega (arith, less))

  -- a bit is that of its place in its block
  there : (index bit : ℕ) → bit < BITS_PER_BLOCK
      → bit_at image first (BITS_PER_BLOCK * index + bit) ≡ bit_in (image (first + index)) bit
  unfolding bit_at
  there index bit less =
      let number : ℕ = BITS_PER_BLOCK * index + bit in
      let block : (BITS_PER_BLOCK * index + bit) / BITS_PER_BLOCK ≡ index = omega (arith, less) in
      let byte : (BITS_PER_BLOCK * index + bit) % BITS_PER_BLOCK / 8 ≡ bit / 8 = omega (arith, less) in
      let index_within : (BITS_PER_BLOCK * index + bit) % 8 ≡ bit % 8 = omega arith in
      ap (λ n. nat_eq (get_or (image (first + n)) (number % BITS_PER_BLOCK / 8) 0 / 2 ^ (number % 8) % 2) 1) block
      ∙ ap (λ n. nat_eq (get_or (image (first + index)) n 0 / 2 ^ (number % 8) % 2) 1) byte
      ∙ ap (λ n. nat_eq (get_or (image (first + index)) (bit / 8) 0 / 2 ^ n % 2) 1) index_within

  module _ (index : ℕ) (block : List ℕ) (is : block ≡ image (first + index)) where
    there_too : (bit : ℕ) → bit < BITS_PER_BLOCK
        → bit_at image first (BITS_PER_BLOCK * index + bit) ≡ bit_in block bit
    there_too bit less = there index bit less ∙ ap (λ b. bit_in b bit) (sym is)

    pub more_bits : HasBits image first index marks → HasBitsFrom block marks (BITS_PER_BLOCK * index)
        → HasBits image first (index + 1) marks
    more_bits before here number less = elim (cases_lt number (BITS_PER_BLOCK * index)) [
      | inl sooner ↦ before number sooner
      | inr past ↦
          let bit : ℕ = number - BITS_PER_BLOCK * index in
          let within : bit < BITS_PER_BLOCK = omega (arith, less, past) in
          let at : BITS_PER_BLOCK * index + bit ≡ number = omega (arith, past) in
          subst (λ n. bit_at image first n ≡ get_or marks n false) at (there_too bit within ∙ here bit within)
    ]

    pub bits_here : (count : ℕ) → index < count → HasBits image first count marks
        → HasBitsFrom block marks (BITS_PER_BLOCK * index)
    bits_here count less all bit within =
        sym (there_too bit within) ∙ all (BITS_PER_BLOCK * index + bit) (omega (arith, less, within))

-- ---- lists of marks

-- the first of these marks, so many
pub record AreMarks (mark : ℕ → Bool) (count : ℕ) (marks : List Bool) : Type 0 where
  pub long : length marks ≡ count
  pub each : (number : ℕ) → number < count → get_or marks number false ≡ mark number

module _ (mark : ℕ → Bool) where
  pub no_marks : AreMarks mark 0 []
  no_marks = record { long = refl; each = λ number less. absurd (omega (arith, less)) }

  pub more_marks : (count : ℕ) (marks : List Bool) (one : Bool) → AreMarks mark count marks → one ≡ mark count
      → AreMarks mark (count + 1) (marks ++ one ∷ [])
  more_marks count marks one before is =
      let long = before.long in
      let all = length-append marks (one ∷ []) in
      record {
        long = omega (arith, long, all);
        each = λ number less. elim (cases_lt number count) [
          | inl sooner ↦
              get_or_append_left marks (one ∷ []) false number (omega (arith, sooner, long)) ∙ before.each number sooner
          | inr past ↦
              let at : number ≡ count = omega (arith, less, past) in
              let end : number ≡ length marks + 0 = omega (arith, at, long) in
              ap (λ n. get_or (marks ++ one ∷ []) n false) end ∙ get_or-append-add marks (one ∷ []) 0 false ∙ is
              ∙ ap mark (sym at)
        ];
      }

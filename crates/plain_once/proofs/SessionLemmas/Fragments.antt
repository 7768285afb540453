-- Fragments that are read one behind another.
use Rattle.std.proofs.Common.{◌≡◌, ℕ, ◌-◌, ◌≤◌, Bool, true, false, List, [], ◌∷◌, ◌++◌, length, take}
use Rattle.std.proofs.Common.{ap, sym, ◌∙◌, append_assoc, arith}
use Rattle.std.proofs.lemmas.Grind.{common_steps}
use Rattle.std.proofs.lemmas.List.{flat_map_more}
use Rattle.base.specs.declared.TheConstants.{RECORD_BYTES}
use Rattle.plain_once.specs.Session.Records.{Begins, IsRecord, fragment, fragments, joined, mark}
use Rattle.xdr.specs.Items.{word}

-- a mark, and the bytes that it announces, are a fragment
pub one_fragment : (now rest new part : List ℕ) (last : Bool) (number count : ℕ)
    → now ≡ word number ++ rest → word number ≡ mark last count → rest ≡ part ++ new
    → length part ≡ count → now ≡ fragment last part ++ new
one_fragment now rest new part last number count marked is behind counted =
    marked ∙ ap (λ (l : List ℕ). l ++ rest) (is ∙ ap (λ n. mark last n) (sym counted))
    ∙ ap (λ (l : List ℕ). mark last (length part) ++ l) behind
    ∙ sym (append_assoc (mark last (length part)) part new)

-- one part more
pub joined_more : (parts : List (List ℕ)) (part : List ℕ)
    → joined parts ++ part ≡ joined (parts ++ part ∷ [])
joined_more parts part = flat_map_more (λ (p : List ℕ). p) [] parts part

pub begins_more : (stream now new part : List ℕ) (parts : List (List ℕ)) (last : Bool)
    → Begins stream parts now → now ≡ fragment last part ++ new → last ≡ false
    → length (joined parts ++ part) ≤ RECORD_BYTES → Begins stream (parts ++ part ∷ []) new
begins_more stream now new part parts last begins is inner fits = record {
  cut = begins.cut
      ∙ ap (λ (l : List ℕ). fragments parts ++ l) (is ∙ ap (λ (b : Bool). fragment b part ++ new) inner)
      ∙ sym (append_assoc (fragments parts) (fragment false part) new)
      ∙ ap (λ (l : List ℕ). l ++ new) (flat_map_more (fragment false) [] parts part);
  bounded = rw (← joined_more parts part) fits;
}

-- a front of a list, by what stands behind it
pub leading_of : (whole leading behind : List ℕ) (taken : ℕ) → whole ≡ leading ++ behind
    → taken ≡ length whole - length behind → take taken whole ≡ leading
leading_of whole leading behind taken is counted = grind (arith, common_steps)

-- the last fragment makes a record
pub whole_record : (stream now new part content : List ℕ) (parts : List (List ℕ)) (last : Bool) (taken : ℕ)
    → Begins stream parts now → now ≡ fragment last part ++ new → last ≡ true
    → content ≡ joined parts ++ part → length content ≤ RECORD_BYTES → taken ≡ length stream - length new
    → (taken ≤ length stream) × IsRecord (take taken stream) content
whole_record stream now new part content parts last taken begins is ends held fits counted =
    let leading : stream ≡ (fragments parts ++ fragment true part) ++ new =
    begins.cut
    ∙ ap (λ (l : List ℕ). fragments parts ++ l) (is ∙ ap (λ (b : Bool). fragment b part ++ new) ends)
    ∙ sym (append_assoc (fragments parts) (fragment true part) new) in (
      omega arith,
      record {
        parts = parts;
        last = part;
        begins = record {
          cut = leading_of stream (fragments parts ++ fragment true part) new taken leading counted;
          bounded = begins.bounded;
        };
        is = held;
        bounded = fits;
      },
    )

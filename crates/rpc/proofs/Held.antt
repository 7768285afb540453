-- How many bytes of a record that isn't whole are content: the bytes tell it, and fragments of no bytes add
-- nothing.
use Rattle.std.proofs.Common.{◌≡◌, ℕ, ◌+◌, ◌^◌, ◌<◌, ◌≤◌, Bool, false, List, [], ◌∷◌, ◌++◌}
use Rattle.std.proofs.Common.{length, sym, ap, ◌∙◌, append_assoc, arith}
use Rattle.std.specs.Prelude.{flat_map}
use Rattle.base.specs.declared.TheConstants.{RECORD_BYTES}
use Rattle.rpc.specs.Records.{mark, fragment, joined, IsPart, held_of}
use Rattle.rpc.specs.Records.IsPart.{BeforeMark, InFragment}
use Rattle.rpc.proofs.RecordLaws.{cons_parts, cons_length, has_mark, has_a_mark, strip, too_few, marks_alike}

both_before : (ps qs : List (List ℕ)) (s t : List ℕ) → length (joined ps) < 2 ^ 31 → length (joined qs) < 2 ^ 31
    → length s < 4 → length t < 4
    → flat_map (fragment false) ps ++ s ≡ flat_map (fragment false) qs ++ t
    → length (joined ps) + length s ≡ length (joined qs) + length t
both_before [] [] s t small fits few less e = omega (arith, ap length e)
both_before [] (q ∷ qs) s t small fits few less e =
    absurd (omega (
      arith,
      few,
      ap length e,
      ap length (cons_parts q qs t),
      has_mark false q (flat_map (fragment false) qs ++ t),
    ))
both_before (p ∷ ps) [] s t small fits few less e =
    absurd (omega (
      arith,
      less,
      ap length e,
      ap length (cons_parts p ps s),
      has_mark false p (flat_map (fragment false) ps ++ s),
    ))
both_before (p ∷ ps) (q ∷ qs) s t small fits few less e =
    let f = strip p q ps qs s t (omega (arith, small, cons_length p ps))
    (omega (arith, fits, cons_length q qs)) e in
    let r = both_before ps qs s t (omega (arith, small, cons_length p ps))
    (omega (arith, fits, cons_length q qs))
    few less f.1 in
    omega (arith, r, ap length f.0, cons_length p ps, cons_length q qs)

-- bytes end before a mark, or inside a fragment
apart : (ps qs : List (List ℕ)) (s : List ℕ) (l : Bool) (n : ℕ) (t : List ℕ) → length (joined ps) < 2 ^ 31
    → length (joined qs) + n < 2 ^ 31 → length s < 4 → length t < n
    → flat_map (fragment false) ps ++ s ≡ flat_map (fragment false) qs ++ (mark l n ++ t) → ⊥
apart [] [] s l n t small fits few less e = omega (arith, few, ap length e, has_a_mark l n t)
apart [] (q ∷ qs) s l n t small fits few less e =
    omega (
      arith,
      few,
      ap length e,
      ap length (cons_parts q qs (mark l n ++ t)),
      has_mark false q (flat_map (fragment false) qs ++ (mark l n ++ t)),
    )
apart (p ∷ ps) [] s l n t small fits few less e =
    too_few l false n t p (flat_map (fragment false) ps ++ s) (omega (arith, fits))
    (omega (arith, small, cons_length p ps)) less (sym e ∙ cons_parts p ps s)
apart (p ∷ ps) (q ∷ qs) s l n t small fits few less e =
    apart ps qs s l n t (omega (arith, small, cons_length p ps))
    (omega (arith, fits, cons_length q qs)) few less
    (strip p q ps qs s (mark l n ++ t) (omega (arith, small, cons_length p ps))
    (omega (arith, fits, cons_length q qs)) e).1

both_inside : (ps qs : List (List ℕ)) (l k : Bool) (m n : ℕ) (s t : List ℕ)
    → length (joined ps) + m < 2 ^ 31 → length (joined qs) + n < 2 ^ 31 → length s < m → length t < n
    → flat_map (fragment false) ps ++ (mark l m ++ s) ≡ flat_map (fragment false) qs ++ (mark k n ++ t)
    → length (joined ps) + length s ≡ length (joined qs) + length t
both_inside [] [] l k m n s t small fits few less e =
    omega (arith, ap length (marks_alike l k m n s t (omega (arith, small)) (omega (arith, fits)) e).2)
both_inside [] (q ∷ qs) l k m n s t small fits few less e =
    absurd (too_few l false m s q (flat_map (fragment false) qs ++ (mark k n ++ t)) (omega (arith, small))
    (omega (arith, fits, cons_length q qs)) few (e ∙ cons_parts q qs (mark k n ++ t)))
both_inside (p ∷ ps) [] l k m n s t small fits few less e =
    absurd (too_few k false n t p (flat_map (fragment false) ps ++ (mark l m ++ s)) (omega (arith, fits))
    (omega (arith, small, cons_length p ps)) less (sym e ∙ cons_parts p ps (mark l m ++ s)))
both_inside (p ∷ ps) (q ∷ qs) l k m n s t small fits few less e =
    let f = strip p q ps qs (mark l m ++ s) (mark k n ++ t) (omega (arith, small, cons_length p ps))
    (omega (arith, fits, cons_length q qs)) e in
    let r = both_inside ps qs l k m n s t (omega (arith, small, cons_length p ps))
    (omega (arith, fits, cons_length q qs)) few less f.1 in
    omega (arith, r, ap length f.0, cons_length p ps, cons_length q qs)

grouped : (rest : List ℕ) (ps : List (List ℕ)) (l : Bool) (n : ℕ) (s : List ℕ)
    → rest ≡ flat_map (fragment false) ps ++ mark l n ++ s
    → rest ≡ flat_map (fragment false) ps ++ (mark l n ++ s)
grouped rest ps l n s e = e ∙ append_assoc (flat_map (fragment false) ps) (mark l n) s

-- the bytes tell how many are content
pub one_count : (rest : List ℕ) (part other : IsPart rest) → held_of part ≡ held_of other
unfolding held_of
one_count rest (BeforeMark ps s small few e) (BeforeMark qs t fits less d) =
    both_before ps qs s t (omega (arith, small)) (omega (arith, fits)) few less (sym e ∙ d)
one_count rest (BeforeMark ps s small few e) (InFragment qs l n t fits less d) =
    absurd (apart ps qs s l n t (omega (arith, small)) (omega (arith, fits)) few less
    (sym e ∙ grouped rest qs l n t d))
one_count rest (InFragment ps l n s small few e) (BeforeMark qs t fits less d) =
    absurd (apart qs ps t l n s (omega (arith, fits)) (omega (arith, small)) less few
    (sym d ∙ grouped rest ps l n s e))
one_count rest (InFragment ps l m s small few e) (InFragment qs k n t fits less d) =
    both_inside ps qs l k m n s t (omega (arith, small)) (omega (arith, fits)) few less
    (sym (grouped rest ps l m s e) ∙ grouped rest qs k n t d)

-- a fragment of no bytes stands before it
behind : (rest : List ℕ) (part : IsPart rest) → (more : IsPart (fragment false [] ++ rest))
    × (held_of more ≡ held_of part)
unfolding held_of
behind rest (BeforeMark ps s small few e) = (
  BeforeMark ([] ∷ ps) s (omega (arith, small, cons_length [] ps)) few
      (ap (λ (t : List ℕ). fragment false [] ++ t) e ∙ sym (cons_parts [] ps s)),
  omega (arith, cons_length [] ps),
)
behind rest (InFragment ps l n s small few e) = (
  InFragment ([] ∷ ps) l n s (omega (arith, small, cons_length [] ps)) few
      (ap (λ (t : List ℕ). fragment false [] ++ t) (grouped rest ps l n s e)
      ∙ sym (cons_parts [] ps (mark l n ++ s))
      ∙ sym (append_assoc (flat_map (fragment false) ([] ∷ ps)) (mark l n) s)),
  omega (arith, cons_length [] ps),
)

pub not_held : (rest : List ℕ) (part : IsPart rest) (more : IsPart (fragment false [] ++ rest))
    → held_of more ≡ held_of part
not_held rest part more =
    let b = behind rest part in
    one_count (fragment false [] ++ rest) more b.0 ∙ b.1

-- what is held fits a record and a mark that isn't whole
pub few_held : (rest : List ℕ) (part : IsPart rest) → held_of part ≤ RECORD_BYTES + 3
unfolding held_of
few_held rest (BeforeMark ps s small few e) = omega (arith, small, few)
few_held rest (InFragment ps l n s small few e) = omega (arith, small, few)

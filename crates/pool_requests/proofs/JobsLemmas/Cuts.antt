-- One more piece of a stream, and one more record.
use Rattle.std.proofs.Common.{◌≡◌, ℕ, List, [], ◌∷◌, ◌++◌, sym, ap, subst, subst₂, ◌∙◌}
use Rattle.std.specs.Prelude.{flat_map, map}
use Rattle.std.proofs.lemmas.List.{flat_map_more, map-append}
use Rattle.rpc.specs.Records.{CutsOff, IsRecord}
use Rattle.rpc.proofs.CutsOff.{cut_feed, cut_next}

-- one more piece came
pub fed : {P : Type 0} (f : P × Unit {0} → List ℕ) (came later : List (P × Unit {0})) (one : P × Unit {0})
    (given : List (List ℕ)) (left new piece : List ℕ) → CutsOff (flat_map f came) given left
    → later ≡ came ++ one ∷ [] → new ≡ left ++ piece → f one ≡ piece → CutsOff (flat_map f later) given new
fed {P} f came later one given left new piece was later_is new_is one_is =
    let all : flat_map f later ≡ flat_map f came ++ piece =
    ap (flat_map f) later_is ∙ sym (flat_map_more f [] came one) ∙ ap (λ (p : List ℕ). flat_map f came ++ p) one_is in
    subst₂ (λ (r l : List ℕ). CutsOff r given l) (sym all) (sym new_is) (cut_feed (flat_map f came) left piece given was)

-- one more record was given
pub gave : (came : List ℕ) (given later : List (List ℕ × Unit {0})) (message left new : List ℕ)
    → CutsOff came (map (λ one. one.0) given) left → later ≡ given ++ (message, tt) ∷ []
    → (text : List ℕ) × IsRecord text message × (left ≡ text ++ new) → CutsOff came (map (λ one. one.0) later) new
gave came given later message left new was later_is cut =
    let first : List ℕ × Unit {0} → List ℕ = λ one. one.0 in
    let all : map first later ≡ map first given ++ message ∷ [] =
    ap (map first) later_is ∙ map-append first given ((message, tt) ∷ []) in
    subst (λ (l : List (List ℕ)). CutsOff came l new) (sym all)
    (cut_next came left cut.0 message new (map first given) was cut.2 cut.1)

-- Names that a file may be given.
use Rattle.std.proofs.Common.{◌≡◌, ℕ, suc, sym, ap, ◌∙◌, refl, subst, Bool, true, false, not, ◌&&◌, ◌||◌}
use Rattle.std.proofs.Common.{List, [], ◌∷◌, length, nat_eq, Contains, arith}
use Rattle.std.specs.List.{list_all, list_any}
use Rattle.std.proofs.lemmas.Bool.{eqb-true, ne_eqb}
use Rattle.std.proofs.lemmas.Bool.Decides.{nat_tests}
use Rattle.std.proofs.lemmas.List.Folds.{list_any_at}
use Rattle.nfs_types.specs.Fits.{AreBytes}
use Rattle.nfs_spec.specs.Model.Sound.{DOT, SLASH, SoundName}
use Rattle.layout.proofs.Respelled.{all_three, all_two}
use Rattle.nfs_spec.specs.Procedures.FirstTests.{is_long, is_no_name}
use Rattle.nfs_spec.specs.Procedures.Places.{is_dots, is_itself, is_own_name, is_parent}
use Rattle.nfs_spec.proofs.ProceduresLemmas.Tests.{neither}
use Rattle.image_contents.specs.Names.Names.{is_name}

negated : (b : Bool) → not b ≡ true → b ≡ false
negated true e = cc
negated false e = refl

none_contained : (p : ℕ → Bool) (xs : List ℕ) (x : ℕ) → list_any p xs ≡ false → p x ≡ true → Contains xs x → ⊥
none_contained p xs x none passes there =
    let yes : list_any p xs ≡ true = list_any_at p xs there.0 x there.1 (ap p there.2 ∙ passes) in
    let never : true ≡ false = sym yes ∙ none in cc

pub sound : (name : List ℕ) → is_name name ≡ true → AreBytes name → SoundName name
sound name is bytes =
    let three = all_three (not (is_no_name name)) (not (is_long name)) (not (is_own_name name)) is in
    let lawful = neither (nat_eq (length name) 0) _ (negated (is_no_name name) three.0) in
    let own = neither (is_itself name) (is_parent name) (negated (is_own_name name) three.2) in
    let some = lawful.0 in
    let short = negated (is_long name) three.1 in
    record {
      bytes = bytes;
      some = grind (arith, nat_tests, some);
      short = grind (arith, nat_tests, short);
      no_slash = none_contained (λ byte. nat_eq byte SLASH || nat_eq byte 0) name SLASH lawful.1 refl;
      no_zero = none_contained (λ byte. nat_eq byte SLASH || nat_eq byte 0) name 0 lawful.1 refl;
      not_itself = λ one. let never : true ≡ false = sym (ap is_itself one) ∙ own.0 in cc;
      not_parent = λ one. let never : true ≡ false = sym (ap is_parent one) ∙ own.1 in cc;
    }

-- ---- and back

none_passes : (p : ℕ → Bool) (xs : List ℕ) → ((x : ℕ) → p x ≡ true → Contains xs x → ⊥) → list_any p xs ≡ false
none_passes p [] none = refl
none_passes p (x ∷ xs) none = by_first (p x) refl (none_passes p xs (λ y passes there. none y passes (later y there)))
  where
    later : (y : ℕ) → Contains xs y → Contains (x ∷ xs) y
    later y there = let less = there.1 in (suc there.0, omega (arith, less), there.2)

    by_first : (b : Bool) → p x ≡ b → list_any p xs ≡ false → (b || list_any p xs) ≡ false
    by_first true is rest = absurd (none x is (0, omega arith, refl))
    by_first false is rest = rest

one_byte : (name : List ℕ) (byte : ℕ) → list_all (λ b. nat_eq b byte) name ≡ true → length name ≡ 1 → name ≡ byte ∷ []
one_byte [] byte all long = absurd (omega (arith, long))
one_byte (x ∷ []) byte all long =
    ap (λ b. b ∷ []) (eqb-true x byte (all_two (nat_eq x byte) true all).0)
one_byte (x ∷ y ∷ xs) byte all long = absurd (omega (arith, long))

two_bytes : (name : List ℕ) (byte : ℕ) → list_all (λ b. nat_eq b byte) name ≡ true → length name ≡ 2
    → name ≡ byte ∷ byte ∷ []
two_bytes [] byte all long = absurd (omega (arith, long))
two_bytes (x ∷ xs) byte all long =
    let both = all_two (nat_eq x byte) (list_all (λ b. nat_eq b byte) xs) all in
    λ i. eqb-true x byte both.0 i ∷ one_byte xs byte both.1 (omega (arith, long)) i

not_dots : (count : ℕ) (name : List ℕ) → (length name ≡ count → list_all (λ b. nat_eq b DOT) name ≡ true → ⊥)
    → is_dots count name ≡ false
not_dots count name none = by_test (is_dots count name) refl
  where
    by_test : (b : Bool) → is_dots count name ≡ b → b ≡ false
    by_test true e =
        let both = all_two (nat_eq (length name) count) (list_all (λ b. nat_eq b DOT) name) e in
        absurd (none (eqb-true (length name) count both.0) both.1)
    by_test false e = refl

pub lawful : (name : List ℕ) → SoundName name → is_name name ≡ true
lawful name sound =
    let some = sound.some in
    let short = sound.short in
    let none : nat_eq (length name) 0 ≡ false = ne_eqb (length name) 0 (λ is. omega (arith, some, is)) in
    let other : list_any (λ byte. nat_eq byte SLASH || nat_eq byte 0) name ≡ false =
    none_passes (λ byte. nat_eq byte SLASH || nat_eq byte 0) name (λ byte passes there.
    by_byte byte (nat_eq byte SLASH) refl passes there) in
    let few : is_long name ≡ false = grind (arith, nat_tests, short) in
    let itself : is_itself name ≡ false = not_dots 1 name (λ long all. sound.not_itself (one_byte name DOT all long)) in
    let parent : is_parent name ≡ false =
    not_dots 2 name (λ long all. sound.not_parent (two_bytes name DOT all long)) in
    λ i. not (none i || other i) && not (few i) && not (itself i || parent i)
  where
    by_byte : (byte : ℕ) (slash : Bool) → nat_eq byte SLASH ≡ slash → (slash || nat_eq byte 0) ≡ true
        → Contains name byte → ⊥
    by_byte byte true is passes there = sound.no_slash (subst (Contains name) (eqb-true byte SLASH is) there)
    by_byte byte false is passes there = sound.no_zero (subst (Contains name) (eqb-true byte 0 passes) there)

-- So many numbers, one after another, are read as they are spelled.
use Rattle.std.proofs.Common.{◌≡◌, ℕ, zero, suc, ◌^◌, ◌<◌, List, [], ◌∷◌, ◌++◌, length, Ok, refl, ap, subst}
use Rattle.std.proofs.Common.{◌∙◌, append_assoc}
use Rattle.std.specs.Prelude.{flat_map}
use Rattle.std.specs.Int.{w32}
use Rattle.std.specs.List.{AllByRecursion}
use Rattle.std.proofs.lemmas.List.Concat.{flat_map-cons}
use Rattle.xdr.specs.Items.{word}
use Rattle.xdr.specs.Reading.{◌>>=◌, number_at}
use Rattle.xdr.proofs.Coded.{IsBytes, Takes, Takes-then, bind_ok, ok_is, words}
use Rattle.rpc.specs.Credentials.{numbers_at}

pub numbers_take : (n : ℕ) (bytes : List ℕ) (x : List ℕ × List ℕ) → IsBytes bytes → numbers_at n bytes ≡ Ok x
    → Takes bytes (flat_map word x.0) x.1 × (length x.0 ≡ n) × AllByRecursion (λ m. m < 2 ^ 32) x.0
unfolding numbers_at
numbers_take zero bytes x fits e =
    subst (λ (y : List ℕ × List ℕ). Takes bytes (flat_map word y.0) y.1 × (length y.0 ≡ 0)
    × AllByRecursion (λ m. m < 2 ^ 32) y.0) (ok_is ([], bytes) x e)
    (record { parts = refl; rest_fits = fits }, refl, tt)
numbers_take (suc n) bytes x fits e =
    let a = bind_ok (number_at w32 bytes)
    (λ first. numbers_at n first.1 >>= λ others. Ok (first.0 ∷ others.0, others.1)) x e in
    let b = bind_ok (numbers_at n a.0.1) (λ others. Ok (a.0.0 ∷ others.0, others.1)) x a.2 in
    let first = words.takes bytes a.0.0 a.0.1 fits a.1 in
    let second = numbers_take n a.0.1 b.0 first.0.rest_fits b.1 in
    let both = Takes-then bytes (word a.0.0) a.0.1 (flat_map word b.0.0) b.0.1 first.0 second.0 in
    let made : List ℕ × List ℕ = (a.0.0 ∷ b.0.0, b.0.1) in
    subst (λ (y : List ℕ × List ℕ). Takes bytes (flat_map word y.0) y.1 × (length y.0 ≡ suc n)
    × AllByRecursion (λ m. m < 2 ^ 32) y.0) (ok_is made x b.2) (
      rw flat_map-cons both,
      ap suc second.1,
      (first.1, second.2),
    )

pub numbers_again : (ns : List ℕ) (rest : List ℕ) → AllByRecursion (λ m. m < 2 ^ 32) ns
    → numbers_at (length ns) (flat_map word ns ++ rest) ≡ Ok (ns, rest)
unfolding numbers_at
numbers_again [] rest fits = refl
numbers_again (n ∷ ns) rest fits =
    let regrouped : flat_map word (n ∷ ns) ++ rest ≡ word n ++ (flat_map word ns ++ rest) =
    ap (λ (x : List ℕ). x ++ rest) (flat_map-cons word n ns)
    ∙ append_assoc (word n) (flat_map word ns) rest in
    ap (numbers_at (suc (length ns))) regrouped
    ∙ rw (words.again n (flat_map word ns ++ rest) fits.0, numbers_again ns rest fits.1) refl

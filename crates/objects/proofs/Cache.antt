-- Lemmas on the keys of a cache from which many go, and into which one is put.
use Rattle.std.proofs.Common.{◌≡◌, refl, ap, sym, ◌∙◌, ℕ, zero, suc, ◌-◌, ◌<◌, ◌≤◌, Bool, true, false}
use Rattle.std.proofs.Common.{◌||◌, cond, nat_eq, List, [], ◌∷◌, length, take, Option, Some, None, arith}
use Rattle.std.specs.List.{list_any}
use Rattle.std.specs.Map.{keys_of, lookup_entry, remove_entry}
use Rattle.std.specs.Option.{option_map_or}
use Rattle.std.proofs.lemmas.Bool.{eqb-true}
use Rattle.lru.specs.LruCache.{LruCache, put_entries}
use Rattle.lru.proofs.CallerLemmas.{Contains-lookup_entry}

pub short : {X : Type 0} (n : ℕ) (xs : List X) → length (take n xs) ≤ n
short zero xs = omega arith
short (suc n) [] = omega arith
short (suc n) (x ∷ xs) = let rest = short n xs in omega (arith, rest)

whole : {X : Type 0} (n : ℕ) (xs : List X) → length xs ≤ n → take n xs ≡ xs
whole zero [] le = refl
whole zero (x ∷ xs) le = absurd (omega (arith, le))
whole (suc n) [] le = refl
whole (suc n) (x ∷ xs) le = ap (λ ys. x ∷ ys) (whole n xs (omega (arith, le)))

pub keys_of-take : {V : Type 0} (n : ℕ) (es : List (ℕ × V)) → keys_of (take n es) ≡ take n (keys_of es)
keys_of-take zero es = refl
keys_of-take (suc n) [] = refl
keys_of-take (suc n) (e ∷ es) = ap (λ ks. e.0 ∷ ks) (keys_of-take n es)

module _ {V : Type 0} (k q : ℕ) where
  abbrev has : List (ℕ × V) → Bool
  has es = list_any (nat_eq q) (keys_of es)

  -- who asks for the key itself misses nothing where its entry is removed
  removed : (es : List (ℕ × V)) → (nat_eq q k || has (remove_entry (nat_eq k) es)) ≡ (nat_eq q k || has es)
  removed [] = refl
  removed (e ∷ es) = go (removed es) (nat_eq k e.0) refl
    where
      twice : (t a : Bool) → (t || a) ≡ (t || (t || a))
      twice true a = refl
      twice false a = refl

      behind : (t u a b : Bool) → (t || a) ≡ (t || b) → (t || (u || a)) ≡ (t || (u || b))
      behind true u a b e = refl
      behind false true a b e = refl
      behind false false a b e = e

      go : (nat_eq q k || has (remove_entry (nat_eq k) es)) ≡ (nat_eq q k || has es) → (t : Bool)
          → nat_eq k e.0 ≡ t
          → (nat_eq q k || has (cond t es (e ∷ remove_entry (nat_eq k) es))) ≡ (nat_eq q k || has (e ∷ es))
      go rest true is =
          twice (nat_eq q k) (has es)
          ∙ ap (λ n. nat_eq q k || (nat_eq q n || has es)) (eqb-true k e.0 is)
      go rest false is = behind (nat_eq q k) (nat_eq q e.0) (has (remove_entry (nat_eq k) es)) (has es) rest

-- a key that is put into a cache with room is there besides those that were
pub tracked_put : {X : Type 0} (cache : LruCache ℕ X) (k : ℕ) (v : X) (q : ℕ) → length cache.entries < cache.cap
    → list_any (nat_eq q) (keys_of (put_entries nat_eq cache k v))
    ≡ list_any (nat_eq q) (k ∷ keys_of cache.entries)
tracked_put {X = X} cache k v q has_space = go (lookup_entry (nat_eq k) cache.entries) refl
  where
    go : (found : Option (ℕ × X)) → lookup_entry (nat_eq k) cache.entries ≡ found
        → list_any (nat_eq q) (keys_of (option_map_or (λ e. (e.0, v) ∷ remove_entry (nat_eq k) cache.entries) found
        ((k, v) ∷ take (cache.cap - 1) cache.entries)))
        ≡ list_any (nat_eq q) (k ∷ keys_of cache.entries)
    go None is =
        ap (λ (es : List (ℕ × X)). list_any (nat_eq q) (k ∷ keys_of es))
        (whole (cache.cap - 1) cache.entries (omega (arith, has_space)))
    go (Some e) is =
        let same : e.0 ≡ k = sym (eqb-true k e.0 (Contains-lookup_entry (nat_eq k) cache.entries e is).1) in
        ap (λ n. list_any (nat_eq q) (n ∷ keys_of (remove_entry (nat_eq k) cache.entries))) same
        ∙ removed k q cache.entries

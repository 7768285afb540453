-- What is filled in is the first resident of its block.
use Rattle.std.proofs.Common.{◌≡◌, ◌<◌, ◌≤◌, ℕ, ◌+◌, Bool, true, false, not, cond, if◌then◌else◌, nat_eq}
use Rattle.std.proofs.Common.{nat_lt}
use Rattle.std.proofs.Common.{List}
use Rattle.std.proofs.Common.{[], ◌∷◌, length, Some, None, set, get_or, refl, ap, sym, ◌∙◌, arith, one-add}
use Rattle.std.specs.Prelude.{position}
use Rattle.std.specs.List.{position_or_len}
use Rattle.std.proofs.lemmas.Bool.{ltb-true, ltb-false}
use Rattle.disk.specs.Device.{Content}
use Rattle.disk.specs.declared.block.BlockNo.{BlockNo}
use Rattle.objects.specs.Present.{filled_in}
use Rattle.objects.specs.Present.{filled}
use Rattle.objects.specs.declared.present.Present.{Present}

module _ (block : BlockNo) (content : Content) where
  abbrev pub is_it : Present → Bool
  is_it resident = nat_eq resident.block.0 block.0

  abbrev pub with_content : Present → Present
  with_content resident = record { block = resident.block; content = filled_in resident.content content }

  there : (xs : List Present) (d : Present) → position_or_len is_it xs < length xs
      → set xs (position_or_len is_it xs) (with_content (get_or xs (position_or_len is_it xs) d))
      ≡ filled xs block content
  there [] d lt = absurd (omega (arith, lt))
  there (x ∷ xs) d lt = go (is_it x) (there xs d) lt
    where
      go : (t : Bool)
          → (position_or_len is_it xs < length xs
          → set xs (position_or_len is_it xs) (with_content (get_or xs (position_or_len is_it xs) d))
          ≡ filled xs block content)
          → cond (not t) (1 + position_or_len is_it xs) 0 < length (x ∷ xs)
          → set (x ∷ xs) (cond (not t) (1 + position_or_len is_it xs) 0)
          (with_content (get_or (x ∷ xs) (cond (not t) (1 + position_or_len is_it xs) 0) d))
          ≡ (if t then with_content x ∷ xs else x ∷ filled xs block content)
      go true rest lt = refl
      go false rest lt = rw one-add (ap (λ ys. x ∷ ys) (rest (omega (arith, lt))))

  absent : (xs : List Present) → length xs ≤ position_or_len is_it xs → filled xs block content ≡ xs
  absent [] le = refl
  absent (x ∷ xs) le = go (is_it x) (absent xs) le
    where
      go : (t : Bool) → (length xs ≤ position_or_len is_it xs → filled xs block content ≡ xs)
          → length (x ∷ xs) ≤ cond (not t) (1 + position_or_len is_it xs) 0
          → (if t then with_content x ∷ xs else x ∷ filled xs block content) ≡ x ∷ xs
      go true rest le = absurd (omega (arith, le))
      go false rest le = ap (λ ys. x ∷ ys) (rest (omega (arith, le)))

  -- where no resident is of the block, nothing is filled in
  pub filled_none : (xs : List Present) → None ≡ position is_it xs → xs ≡ filled xs block content
  filled_none xs e = go (nat_lt (position_or_len is_it xs) (length xs)) refl e
    where
      go : (t : Bool) → nat_lt (position_or_len is_it xs) (length xs) ≡ t
          → None ≡ cond t (Some (position_or_len is_it xs)) None → xs ≡ filled xs block content
      go true is e = absurd (cc)
      go false is e = sym (absent xs (ltb-false (position_or_len is_it xs) (length xs) is))

  -- the first that is of it is filled in
  pub filled_at : (xs : List Present) (i : ℕ) (d : Present) → Some i ≡ position is_it xs
      → set xs i (with_content (get_or xs i d)) ≡ filled xs block content
  filled_at xs i d e = go (nat_lt (position_or_len is_it xs) (length xs)) refl e
    where
      go : (t : Bool) → nat_lt (position_or_len is_it xs) (length xs) ≡ t
          → Some i ≡ cond t (Some (position_or_len is_it xs)) None
          → set xs i (with_content (get_or xs i d)) ≡ filled xs block content
      go true is e =
          let same : i ≡ position_or_len is_it xs = cc in
          ap (λ k. set xs k (with_content (get_or xs k d))) same
          ∙ there xs d (ltb-true (position_or_len is_it xs) (length xs) is)
      go false is e = absurd (cc)

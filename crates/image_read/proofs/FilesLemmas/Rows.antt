-- The numbers in inner blocks, one block after another.
use Rattle.std.proofs.Common.{◌≡◌, ℕ, ◌+◌, ◌<◌, refl, ap, ◌∙◌, List, [], ◌∷◌, ◌++◌, length, take, get_or}
use Rattle.std.specs.List.{flat_map}
use Rattle.std.proofs.lemmas.List.{append-nil, take_more}
use Rattle.std.proofs.lemmas.List.Concat.{flat_map-append}
use Rattle.disk.specs.Crash.{Image}
use Rattle.layout.specs.Decode.{doubled_in, numbers_in}

module _ (content : Image) where
  -- those in the first ones
  abbrev pub rows_of : List ℕ → ℕ → List ℕ
  rows_of inner count = flat_map (numbers_in content) (take count inner)

  pub rows_more : (inner : List ℕ) (index_within : ℕ) → index_within < length inner
      → rows_of inner (index_within + 1) ≡ rows_of inner index_within ++ numbers_in content (get_or inner index_within 0)
  rows_more inner index_within less =
      ap (flat_map (numbers_in content)) (take_more inner index_within 0 less)
      ∙ flat_map-append (numbers_in content) (take index_within inner) (get_or inner index_within 0 ∷ [])
      ∙ ap (λ l. rows_of inner index_within ++ l) (append-nil (numbers_in content (get_or inner index_within 0)))

  -- all of them are what a double indirect block reaches
  pub all_rows : (double : ℕ) → flat_map (numbers_in content) (numbers_in content double) ≡ doubled_in content double
  unfolding doubled_in
  all_rows double = refl

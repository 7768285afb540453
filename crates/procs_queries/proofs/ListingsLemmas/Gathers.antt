-- What is given of entries that are gathered one after another.
use Rattle.std.proofs.Common.{◌≡◌, ℕ, ◌-◌, sym, ap, ◌∙◌, refl, Bool, true, false, cond, ◌&&◌, not, nat_le}
use Rattle.std.proofs.Common.{List, [], ◌∷◌, ◌++◌, length, append_assoc}
use Rattle.std.proofs.Math.Dec.{eqb-suc-suc, eqb-zero-suc}
use Rattle.std.proofs.lemmas.List.{append-nil}
use Rattle.nfs_types.specs.declared.entries.ListedItem.{ListedItem}
use Rattle.nfs_spec.specs.Procedures.Listing.{listed_bytes, fitting, is_end}
use Rattle.procs_queries.specs.Listings.Gathered.{Gathered, bytes_with, filled, fitting_two, has_budget, one_more, with_all, with_listed_item}

-- one list and then another
pub with_both : (besides : ℕ) (gathered : Gathered) (one two : List ListedItem)
    → with_all besides gathered (one ++ two) ≡ with_all besides (with_all besides gathered one) two
with_both besides gathered [] two = refl
with_both besides gathered (listed_item ∷ entries) two = with_both besides (one_more besides gathered listed_item) entries two

module _ (besides : ℕ) where
  -- nothing comes behind an entry that had no room
  pub stays_full : (gathered : Gathered) (entries : List ListedItem) → gathered.is_full ≡ true
      → with_all besides gathered entries ≡ gathered
  stays_full gathered [] full = refl
  stays_full gathered (listed_item ∷ entries) full =
      ap (λ g. with_all besides g entries) (same gathered listed_item full) ∙ stays_full gathered entries full
    where
      same : (gathered : Gathered) (listed_item : ListedItem) → gathered.is_full ≡ true
          → one_more besides gathered listed_item ≡ gathered
      same gathered listed_item full =
          ap (λ f. cond f gathered (cond (has_budget besides gathered listed_item) (with_listed_item besides gathered listed_item)
          (filled gathered))) full

  -- an entry comes: this is whether the whole has room for it, and whether its names have
  module _ (gathered : Gathered) (listed_item : ListedItem) (budget names : Bool) (open_ : gathered.is_full ≡ false)
      (in_budget : nat_le (bytes_with besides listed_item) gathered.budget ≡ budget)
      (in_names : nat_le (listed_bytes listed_item) gathered.names_budget ≡ names) where
    more : one_more besides gathered listed_item
        ≡ cond (budget && names) (with_listed_item besides gathered listed_item) (filled gathered)
    more = ap (λ f. cond f gathered (cond (has_budget besides gathered listed_item) (with_listed_item besides gathered listed_item)
        (filled gathered))) open_
        ∙ ap (λ r. cond (r && nat_le (listed_bytes listed_item) gathered.names_budget)
        (with_listed_item besides gathered listed_item) (filled gathered)) in_budget
        ∙ ap (λ n. cond (budget && n) (with_listed_item besides gathered listed_item) (filled gathered)) in_names

    fits : (entries : List ListedItem)
        → fitting_two besides gathered.names_budget gathered.budget (listed_item ∷ entries)
        ≡ fitting listed_bytes gathered.names_budget (cond budget
        (listed_item ∷ fitting (bytes_with besides) (gathered.budget - bytes_with besides listed_item) entries) [])
    fits entries = ap (λ r. fitting listed_bytes gathered.names_budget (cond r
        (listed_item ∷ fitting (bytes_with besides) (gathered.budget - bytes_with besides listed_item) entries) [])) in_budget

    names_fit : (rest : List ListedItem) → fitting listed_bytes gathered.names_budget (listed_item ∷ rest)
        ≡ cond names (listed_item ∷ fitting listed_bytes (gathered.names_budget - listed_bytes listed_item) rest) []
    names_fit rest =
        ap (λ n. cond n (listed_item ∷ fitting listed_bytes (gathered.names_budget - listed_bytes listed_item) rest) []) in_names

  -- what is given is the longest beginning that has room
  pub gives : (gathered : Gathered) (entries : List ListedItem) → gathered.is_full ≡ false
      → (with_all besides gathered entries).given
      ≡ gathered.given ++ fitting_two besides gathered.names_budget gathered.budget entries
  gives gathered [] open_ = sym (append-nil gathered.given)
  gives gathered (listed_item ∷ entries) open_ =
      by_cases (gives (with_listed_item besides gathered listed_item) entries refl)
      (nat_le (bytes_with besides listed_item) gathered.budget)
      (nat_le (listed_bytes listed_item) gathered.names_budget) refl refl
    where
      by_cases : (with_all besides (with_listed_item besides gathered listed_item) entries).given
          ≡ (gathered.given ++ listed_item ∷ []) ++ fitting_two besides (gathered.names_budget - listed_bytes listed_item)
          (gathered.budget - bytes_with besides listed_item) entries
          → (budget names : Bool) → nat_le (bytes_with besides listed_item) gathered.budget ≡ budget
          → nat_le (listed_bytes listed_item) gathered.names_budget ≡ names
          → (with_all besides (one_more besides gathered listed_item) entries).given
          ≡ gathered.given ++ fitting_two besides gathered.names_budget gathered.budget (listed_item ∷ entries)
      by_cases again true true in_budget in_names =
          ap (λ g. (with_all besides g entries).given) (more gathered listed_item true true open_ in_budget in_names)
          ∙ again
          ∙ append_assoc gathered.given (listed_item ∷ []) (fitting_two besides
          (gathered.names_budget - listed_bytes listed_item) (gathered.budget - bytes_with besides listed_item) entries)
          ∙ ap (λ es. gathered.given ++ es) (sym (fits gathered listed_item true true open_ in_budget in_names entries
          ∙ names_fit gathered listed_item true true open_ in_budget in_names
          (fitting (bytes_with besides) (gathered.budget - bytes_with besides listed_item) entries)))
      by_cases again true false in_budget in_names =
          ap (λ g. (with_all besides g entries).given) (more gathered listed_item true false open_ in_budget in_names)
          ∙ ap (λ (g : Gathered). g.given) (stays_full (filled gathered) entries refl)
          ∙ sym (append-nil gathered.given)
          ∙ ap (λ es. gathered.given ++ es) (sym (fits gathered listed_item true false open_ in_budget in_names entries
          ∙ names_fit gathered listed_item true false open_ in_budget in_names
          (fitting (bytes_with besides) (gathered.budget - bytes_with besides listed_item) entries)))
      by_cases again false names in_budget in_names =
          ap (λ g. (with_all besides g entries).given) (more gathered listed_item false names open_ in_budget in_names)
          ∙ ap (λ (g : Gathered). g.given) (stays_full (filled gathered) entries refl)
          ∙ sym (append-nil gathered.given)
          ∙ ap (λ es. gathered.given ++ es) (sym (fits gathered listed_item false names open_ in_budget in_names entries))

  -- it is full where not all is given
  pub fills : (gathered : Gathered) (entries : List ListedItem) → gathered.is_full ≡ false
      → (with_all besides gathered entries).is_full
      ≡ not (is_end entries (fitting_two besides gathered.names_budget gathered.budget entries))
  fills gathered [] open_ = open_
  fills gathered (listed_item ∷ entries) open_ =
      by_cases (fills (with_listed_item besides gathered listed_item) entries refl)
      (nat_le (bytes_with besides listed_item) gathered.budget)
      (nat_le (listed_bytes listed_item) gathered.names_budget) refl refl
    where
      none : (given : List ListedItem) → given ≡ [] → true ≡ not (is_end (listed_item ∷ entries) given)
      none given is = sym (ap not (ap (λ es. is_end (listed_item ∷ entries) es) is ∙ eqb-zero-suc (length entries)))

      by_cases : (with_all besides (with_listed_item besides gathered listed_item) entries).is_full
          ≡ not (is_end entries (fitting_two besides (gathered.names_budget - listed_bytes listed_item)
          (gathered.budget - bytes_with besides listed_item) entries))
          → (budget names : Bool) → nat_le (bytes_with besides listed_item) gathered.budget ≡ budget
          → nat_le (listed_bytes listed_item) gathered.names_budget ≡ names
          → (with_all besides (one_more besides gathered listed_item) entries).is_full
          ≡ not (is_end (listed_item ∷ entries)
          (fitting_two besides gathered.names_budget gathered.budget (listed_item ∷ entries)))
      by_cases again true true in_budget in_names =
          let rest = fitting_two besides (gathered.names_budget - listed_bytes listed_item)
          (gathered.budget - bytes_with besides listed_item) entries in
          ap (λ g. (with_all besides g entries).is_full) (more gathered listed_item true true open_ in_budget in_names)
          ∙ again
          ∙ sym (ap not (eqb-suc-suc (length rest) (length entries)))
          ∙ ap (λ es. not (is_end (listed_item ∷ entries) es))
          (sym (fits gathered listed_item true true open_ in_budget in_names entries
          ∙ names_fit gathered listed_item true true open_ in_budget in_names
          (fitting (bytes_with besides) (gathered.budget - bytes_with besides listed_item) entries)))
      by_cases again true false in_budget in_names =
          ap (λ g. (with_all besides g entries).is_full) (more gathered listed_item true false open_ in_budget in_names)
          ∙ ap (λ (g : Gathered). g.is_full) (stays_full (filled gathered) entries refl)
          ∙ none _ (fits gathered listed_item true false open_ in_budget in_names entries
          ∙ names_fit gathered listed_item true false open_ in_budget in_names
          (fitting (bytes_with besides) (gathered.budget - bytes_with besides listed_item) entries))
      by_cases again false names in_budget in_names =
          ap (λ g. (with_all besides g entries).is_full) (more gathered listed_item false names open_ in_budget in_names)
          ∙ ap (λ (g : Gathered). g.is_full) (stays_full (filled gathered) entries refl)
          ∙ none _ (fits gathered listed_item false names open_ in_budget in_names entries)

-- what has room has it once more
pub fits_again : (bytes : ListedItem → ℕ) (budget : ℕ) (entries : List ListedItem)
    → fitting bytes budget (fitting bytes budget entries) ≡ fitting bytes budget entries
fits_again bytes budget [] = refl
fits_again bytes budget (listed_item ∷ entries) =
    by_cases (fits_again bytes (budget - bytes listed_item) entries) (nat_le (bytes listed_item) budget) refl
  where
    by_cases : fitting bytes (budget - bytes listed_item) (fitting bytes (budget - bytes listed_item) entries)
        ≡ fitting bytes (budget - bytes listed_item) entries
        → (has : Bool) → nat_le (bytes listed_item) budget ≡ has
        → fitting bytes budget (cond (nat_le (bytes listed_item) budget)
        (listed_item ∷ fitting bytes (budget - bytes listed_item) entries) [])
        ≡ cond (nat_le (bytes listed_item) budget) (listed_item ∷ fitting bytes (budget - bytes listed_item) entries) []
    by_cases again true has =
        ap (λ b. fitting bytes budget (cond b (listed_item ∷ fitting bytes (budget - bytes listed_item) entries) [])) has
        ∙ ap (λ b. cond b (listed_item ∷ fitting bytes (budget - bytes listed_item) (fitting bytes (budget - bytes listed_item) entries))
        []) has
        ∙ ap (λ es. listed_item ∷ es) again
        ∙ sym (ap (λ b. cond b (listed_item ∷ fitting bytes (budget - bytes listed_item) entries) []) has)
    by_cases again false has =
        ap (λ b. fitting bytes budget (cond b (listed_item ∷ fitting bytes (budget - bytes listed_item) entries) [])) has
        ∙ sym (ap (λ b. cond b (listed_item ∷ fitting bytes (budget - bytes listed_item) entries) []) has)

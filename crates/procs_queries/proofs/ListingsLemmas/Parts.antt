-- What is listed behind a cookie, in two parts: the directory itself and its parent, and the names in the slots.
use Rattle.std.proofs.Common.{arith, add-one, ◌≡◌, ℕ, ◌+◌, ◌-◌, sym, ap, ◌∙◌, refl, Bool, true, false, cond, nat_eq, nat_le, nat_lt, List, [], ◌∷◌, ◌++◌}
use Rattle.std.proofs.Common.{Option, Some, None}
use Rattle.std.specs.List.{cons_option, filter, filter_map, find}
use Rattle.std.specs.Option.{option_map}
use Rattle.std.proofs.lemmas.Bool.Decides.{nat_tests}
use Rattle.std.proofs.lemmas.List.Elements.{filter-append}
use Rattle.nfs_types.specs.declared.entries.ListedItem.{ListedItem}
use Rattle.nfs_spec.specs.Model.Names.{entries_of, parent_of}
use Rattle.nfs_spec.specs.Model.Node.{Body, DirentValue}
use Rattle.nfs_spec.specs.Procedures.Listing.{listed_behind, listed_in, slots_of}
use Rattle.nfs_spec.specs.declared.procedures.cookies.TheConstants.{FIRST_SLOT_COOKIE, PARENT_COOKIE}
use Rattle.procs_files.specs.declared.dirent.SlotName.{SlotName}
use Rattle.procs_files.specs.declared.inode_attributes.InodeAttributes.{InodeAttributes}
use Rattle.procs_files.specs.Heads.{IsNextName, listed_from, listing_of}
use Rattle.procs_queries.specs.Listings.Dots.{dots_behind, itself, parent}
use Rattle.procs_queries.specs.Listings.Gathered.{Gathered, nothing, one_more, with_all}
use Rattle.procs_queries.proofs.ListingsLemmas.Gathers.{stays_full, with_both}

-- a slot lies behind a cookie by its number
behind : (cookie slot : ℕ) → nat_lt cookie (slot + 3) ≡ nat_le (cookie - 2) slot
behind cookie slot = grind (arith, nat_tests)

module _ (cookie : ℕ) where
  abbrev is_behind : ListedItem → Bool
  is_behind listed_item = nat_lt cookie listed_item.cookie

  -- a slot more, by what lies in it
  module _ (directory : Body) (slot : ℕ) (slots : List ℕ)
      (again : filter is_behind (filter_map (listed_in directory) slots)
      ≡ filter_map (listed_in directory) (filter (λ slot. nat_le (cookie - 2) slot) slots)) where
    abbrev listing : List ℕ × DirentValue → ListedItem
    listing listed_item = record { number = listed_item.1.number; name = listed_item.0; cookie = slot + FIRST_SLOT_COOKIE }

    abbrev later : List ℕ
    later = filter (λ slot. nat_le (cookie - 2) slot) slots

    abbrev named : List ListedItem
    named = filter_map (listed_in directory) later

    empty : listed_in directory slot ≡ None → (b : Bool)
        → named ≡ filter_map (listed_in directory) (cond b (slot ∷ later) later)
    empty is true = sym (ap (λ o. cons_option o named) is)
    empty is false = refl

    taken : (listed_item : ListedItem) → listed_in directory slot ≡ Some listed_item → (b : Bool)
        → cond b (listed_item ∷ named) named ≡ filter_map (listed_in directory) (cond b (slot ∷ later) later)
    taken listed_item is true = sym (ap (λ o. cons_option o named) is)
    taken listed_item is false = refl

    one_slot : (found : Option (List ℕ × DirentValue))
        → find (λ listed_item. nat_eq listed_item.1.slot slot) (entries_of directory) ≡ found
        → filter is_behind (cons_option (listed_in directory slot) (filter_map (listed_in directory) slots))
        ≡ filter_map (listed_in directory) (cond (nat_le (cookie - 2) slot) (slot ∷ later) later)
    one_slot None is =
        ap (λ o. filter is_behind (cons_option o (filter_map (listed_in directory) slots)))
        (ap (option_map listing) is)
        ∙ again
        ∙ empty (ap (option_map listing) is) (nat_le (cookie - 2) slot)
    one_slot (Some listed_item) is =
        ap (λ o. filter is_behind (cons_option o (filter_map (listed_in directory) slots)))
        (ap (option_map listing) is)
        ∙ ap (λ b. cond b (listing listed_item ∷ filter is_behind (filter_map (listed_in directory) slots))
        (filter is_behind (filter_map (listed_in directory) slots))) (behind cookie slot)
        ∙ ap (λ es. cond (nat_le (cookie - 2) slot) (listing listed_item ∷ es) es) again
        ∙ taken (listing listed_item) (ap (option_map listing) is) (nat_le (cookie - 2) slot)

  slots_behind : (directory : Body) (slots : List ℕ)
      → filter is_behind (filter_map (listed_in directory) slots)
      ≡ filter_map (listed_in directory) (filter (λ slot. nat_le (cookie - 2) slot) slots)
  slots_behind directory [] = refl
  slots_behind directory (slot ∷ slots) =
      one_slot directory slot slots (slots_behind directory slots)
      (find (λ listed_item. nat_eq listed_item.1.slot slot) (entries_of directory)) refl

-- what is listed behind a cookie is the part of the two and that of the slots
pub in_parts : (cookie number : ℕ) (directory : Body)
    → listed_behind cookie number directory
    ≡ dots_behind cookie number (parent_of directory) ++ listed_from (cookie - PARENT_COOKIE) directory
in_parts cookie number directory =
    filter-append (is_behind cookie) (itself number ∷ parent (parent_of directory) ∷ [])
    (filter_map (listed_in directory) (slots_of directory))
    ∙ ap (λ es. dots_behind cookie number (parent_of directory) ++ es)
    (slots_behind cookie directory (slots_of directory))

-- ---- entries that are gathered in the order of their cookies

module _ (besides names_budget budget cookie : ℕ) (directory : InodeAttributes) (body : Body) where
  abbrev whole : Gathered
  whole = with_all besides (nothing names_budget budget) (listed_behind cookie directory.number body)

  pub begins : parent_of body ≡ directory.parent → (gathered : Gathered)
      → gathered ≡ with_all besides (nothing names_budget budget)
      (dots_behind cookie directory.number directory.parent)
      → with_all besides gathered (listed_from (cookie - PARENT_COOKIE) body) ≡ whole
  begins above gathered is =
      ap (λ g. with_all besides g (listed_from (cookie - PARENT_COOKIE) body)) is
      ∙ sym (with_both besides (nothing names_budget budget)
      (dots_behind cookie directory.number directory.parent) (listed_from (cookie - PARENT_COOKIE) body))
      ∙ ap (λ p. with_all besides (nothing names_budget budget)
      (dots_behind cookie directory.number p ++ listed_from (cookie - PARENT_COOKIE) body)) (sym above)
      ∙ sym (ap (with_all besides (nothing names_budget budget)) (in_parts cookie directory.number body))

  module _ (from : ℕ) (gathered : Gathered)
      (so_far : with_all besides gathered (listed_from from body) ≡ whole) where
    pub goes_on : (found : SlotName) → IsNextName body from (Some found) → (more : Gathered)
        → more ≡ one_more besides gathered (listing_of found)
        → with_all besides more (listed_from (found.slot + 1) body) ≡ whole
    goes_on found next more is =
        ap (λ g. with_all besides g (listed_from (found.slot + 1) body)) is
        ∙ ap (λ s. with_all besides gathered (listing_of found ∷ listed_from s body)) (add-one found.slot)
        ∙ ap (with_all besides gathered) (sym next)
        ∙ so_far

    pub ends : IsNextName body from None → gathered ≡ whole
    ends none = sym (ap (with_all besides gathered) none) ∙ so_far

    pub ends_full : gathered.is_full ≡ true → gathered ≡ whole
    ends_full full = sym (stays_full besides gathered (listed_from from body) full) ∙ so_far

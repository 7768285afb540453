-- What a directory lists from a slot on, by what its slots are.
use Rattle.std.proofs.Common.{◌≡◌, ℕ, zero, suc, ◌+◌, ◌*◌, ◌<◌, ◌≤◌, inl, inr, sym, ap, ◌∙◌, refl, Bool, true, false}
use Rattle.std.proofs.Common.{cond, List, [], ◌∷◌, filter, length, Option, Some, None, Result, Ok, Err, nat_eq, nat_le, arith}
use Rattle.std.proofs.lemmas.Bool.{cases_lt, le-leb}
use Rattle.std.proofs.lemmas.Bool.Decides.{nat_tests}
use Rattle.std.specs.Cmp.Lexicographic.{nat_list_cmp_total, slice_cmp}
use Rattle.std.specs.FinMap as map
use Rattle.std.specs.List.{cons_option, filter_map, find, range_with_len}
use Rattle.std.specs.Option.{option_map}
use Rattle.std.specs.Ordering.{nat_cmp}
use Rattle.base.specs.declared.TheConstants.{SLOTS_PER_BLOCK}
use Rattle.disk.specs.Crash.{Image}
use Rattle.layout.specs.declared.fault.LayoutFault.{LayoutFault}
use Rattle.layout.specs.declared.geometry.Geometry.{Geometry}
use Rattle.layout.specs.declared.inode.Inode.{Inode}
use Rattle.layout.specs.declared.slot.Slot.{Slot}
use Rattle.layout.specs.Decode.{IsDirectory, directory_in, dirent_in, named_in, span_of}
use Rattle.nfs_spec.specs.Model.Node.{DirentValue}
use Rattle.nfs_types.specs.declared.entries.ListedItem.{ListedItem}
use Rattle.nfs_spec.specs.declared.procedures.cookies.TheConstants.{FIRST_SLOT_COOKIE}
use Rattle.nfs_spec.specs.Procedures.Listing.{listed_in, slots_of}
use Rattle.procs_files.specs.declared.dirent.SlotName.{SlotName}
use Rattle.procs_files.specs.Heads.{listing_of}
use Rattle.dir.specs.Slots.{IsNext, Lying, slot_at}
use Rattle.dir.proofs.Distinct.{entries_once, found_in, found_once}
use Rattle.dir.proofs.FoundIn.{entries}
use Rattle.dir.proofs.Members.{In, at_or_past, found_is, from_range, in_range, none_is, same}

abbrev Lies : Type 0
Lies = List ℕ × DirentValue

exact : map.IsAntisymmetric (slice_cmp nat_cmp)
exact = map.slice_cmp-IsAntisymmetric map.nat_cmp-IsAntisymmetric

same_number : (a b : ℕ) → nat_eq a b ≡ true → a ≡ b
same_number a b e = grind (arith, nat_tests)

itself : (a : ℕ) → nat_eq a a ≡ true
itself a = grind (arith, nat_tests)

-- ---- the entry of a slot

-- what is read in a slot is an entry of it
in_slot : (slot : ℕ) (read : Result (Option Slot) LayoutFault) (dirent : Lies) → dirent_in slot read ≡ Some dirent
    → dirent.1.slot ≡ slot
in_slot slot (Ok None) dirent e = cc
in_slot slot (Ok (Some one)) dirent e = sym (ap (λ (x : Lies). x.1.slot) (same (
  one.name,
  record {
    number = one.number;
    slot = slot;
  },
) dirent e))
in_slot slot (Err fault) dirent e = cc

module _ (lies : Lying) (n : ℕ) (once : map.len (map.from_entries {R = slice_cmp nat_cmp} (entries lies 0 n))
    ≡ length (entries lies 0 n)) where
  abbrev made : map.FinMap (slice_cmp nat_cmp) DirentValue
  made = map.from_entries {R = slice_cmp nat_cmp} (entries lies 0 n)

  abbrev gives : ℕ → Option Lies
  gives slot = dirent_in slot (lies slot)

  -- an entry of the map is that of its slot
  of_its_slot : (dirent : Lies) → In dirent (map.entries made) → gives dirent.1.slot ≡ Some dirent
  of_its_slot dirent is =
      let there : map.find (slice_cmp nat_cmp) dirent.0 (map.entries made) ≡ Some dirent.1 =
      found_once nat_list_cmp_total exact (map.entries made) (entries_once nat_list_cmp_total exact made)
      dirent.0 dirent.1 is in
      let named : map.find (slice_cmp nat_cmp) dirent.0 (entries lies 0 n) ≡ Some dirent.1 =
      sym (map.get-from_entries nat_list_cmp_total (entries lies 0 n) dirent.0) ∙ map.get-entries made dirent.0 ∙ there in
      let at = from_range gives 0 n dirent
      (found_in nat_list_cmp_total exact (entries lies 0 n) dirent.0 dirent.1 named) in
      ap gives (in_slot at.0 (lies at.0) dirent at.3) ∙ at.3

  -- each entry of the map lies in one of these slots
  pub of_few_slots : (dirent : Lies) → In dirent (map.entries made) → dirent.1.slot < n
  of_few_slots dirent is =
      let there : map.find (slice_cmp nat_cmp) dirent.0 (map.entries made) ≡ Some dirent.1 =
      found_once nat_list_cmp_total exact (map.entries made) (entries_once nat_list_cmp_total exact made)
      dirent.0 dirent.1 is in
      let named : map.find (slice_cmp nat_cmp) dirent.0 (entries lies 0 n) ≡ Some dirent.1 =
      sym (map.get-from_entries nat_list_cmp_total (entries lies 0 n) dirent.0) ∙ map.get-entries made dirent.0 ∙ there in
      let at = from_range gives 0 n dirent
      (found_in nat_list_cmp_total exact (entries lies 0 n) dirent.0 dirent.1 named) in
      let here : dirent.1.slot ≡ at.0 = in_slot at.0 (lies at.0) dirent at.3 in
      let less = at.2 in omega (arith, here, less)

  -- the entry of a slot is one of the map's
  of_the_map : (slot : ℕ) (dirent : Lies) → slot < n → gives slot ≡ Some dirent → In dirent (map.entries made)
  of_the_map slot dirent less is =
      let named = found_once nat_list_cmp_total exact (entries lies 0 n) once dirent.0 dirent.1
      (in_range gives 0 n slot dirent (omega arith) (omega (arith, less)) is) in
      found_in nat_list_cmp_total exact (map.entries made) dirent.0 dirent.1
      (sym (map.get-entries made dirent.0)
      ∙ map.get-from_entries nat_list_cmp_total (entries lies 0 n) dirent.0 ∙ named)

  abbrev test : ℕ → Lies → Bool
  test slot dirent = nat_eq dirent.1.slot slot

  pub in_the_slot : (slot : ℕ) → slot < n → find (test slot) (map.entries made) ≡ gives slot
  in_the_slot slot less = by_both (find (test slot) (map.entries made)) (gives slot) refl refl
    where
      by_both : (found given : Option Lies) → find (test slot) (map.entries made) ≡ found → gives slot ≡ given
          → found ≡ given
      by_both None None f g = refl
      by_both None (Some dirent) f g =
          let missed = none_is (test slot) (map.entries made) dirent f (of_the_map slot dirent less g) in
          let here : test slot dirent ≡ true =
          ap (λ k. nat_eq k slot) (in_slot slot (lies slot) dirent g) ∙ itself slot in
          let clash : true ≡ false = sym here ∙ missed in cc
      by_both (Some dirent) given f g =
          let is = found_is (test slot) (map.entries made) dirent f in
          sym (of_its_slot dirent is.0) ∙ ap gives (same_number dirent.1.slot slot is.1) ∙ g

-- ---- the list from a slot on

above : (from a : ℕ) → a < from → nat_le from a ≡ false
above from a less = grind (arith, nat_tests)

module _ (listed : ℕ → Option ListedItem) where
  abbrev pub from_on : ℕ → ℕ → ℕ → List ListedItem
  from_on from a n = filter_map listed (filter (λ slot. nat_le from slot) (range_with_len a n))

  -- slots before the first don't count
  skipped : (from a n : ℕ) → a < from → from_on from a (suc n) ≡ from_on from (a + 1) n
  skipped from a n less = ap (λ b. filter_map listed (cond b (a ∷ filter (λ slot. nat_le from slot)
      (range_with_len (a + 1) n)) (filter (λ slot. nat_le from slot) (range_with_len (a + 1) n)))) (above from a less)

  counted : (from a n : ℕ) → from ≤ a
      → from_on from a (suc n) ≡ cons_option (listed a) (from_on from (a + 1) n)
  counted from a n order = ap (λ b. filter_map listed (cond b (a ∷ filter (λ slot. nat_le from slot)
      (range_with_len (a + 1) n)) (filter (λ slot. nat_le from slot) (range_with_len (a + 1) n)))) (le-leb from a order)

  -- from any slot up to the first it is all
  pub the_same : (from other a n : ℕ) → from ≤ a → other ≤ a → from_on from a n ≡ from_on other a n
  the_same from other a zero one two = refl
  the_same from other a (suc n) one two =
      counted from a n one
      ∙ ap (cons_option (listed a)) (the_same from other (a + 1) n (omega (arith, one)) (omega (arith, two)))
      ∙ sym (counted other a n two)

  pub none_listed : (from a n : ℕ) → ((slot : ℕ) → from ≤ slot → a ≤ slot → slot < a + n → listed slot ≡ None)
      → from_on from a n ≡ []
  none_listed from a zero none = refl
  none_listed from a (suc n) none = elim (cases_lt a from) [
    | inl before ↦ skipped from a n before ∙ none_listed from (a + 1) n (λ slot one two less.
        none slot one (omega (arith, two)) (omega (arith, less)))
    | inr order ↦ counted from a n order
        ∙ ap (λ o. cons_option o (from_on from (a + 1) n)) (none a order (omega arith) (omega arith))
        ∙ none_listed from (a + 1) n (λ slot one two less. none slot one (omega (arith, two)) (omega (arith, less)))
  ]

  pub one_listed : (from a n first : ℕ) (dirent : ListedItem) → from ≤ first → a ≤ first → first < a + n
      → listed first ≡ Some dirent
      → ((slot : ℕ) → from ≤ slot → a ≤ slot → slot < first → listed slot ≡ None)
      → from_on from a n ≡ dirent ∷ from_on (suc first) a n
  one_listed from a zero first dirent low least less is none = absurd (omega (arith, least, less))
  one_listed from a (suc n) first dirent low least less is none = elim (at_or_past a first least) [
    | inl here ↦
        let past : a < suc first = omega (arith, here) in
        counted from a n (omega (arith, here, low))
        ∙ ap (λ o. cons_option o (from_on from (a + 1) n)) (ap listed (sym here) ∙ is)
        ∙ ap (λ l. dirent ∷ l) (the_same from (suc first) (a + 1) n (omega (arith, here, low)) (omega (arith, here)))
        ∙ ap (λ l. dirent ∷ l) (sym (skipped (suc first) a n past))
    | inr more ↦ (
        let rest = one_listed from (a + 1) n first dirent low more (omega (arith, less)) is
        (λ slot one two before. none slot one (omega (arith, two)) before) in
        let later : from_on (suc first) a (suc n) ≡ from_on (suc first) (a + 1) n =
        skipped (suc first) a n (omega (arith, least)) in
        (elim (cases_lt a from) [
          | inl before ↦ skipped from a n before ∙ rest ∙ ap (λ l. dirent ∷ l) (sym later)
          | inr order ↦ counted from a n order
              ∙ ap (λ o. cons_option o (from_on from (a + 1) n)) (none a order (omega arith) (omega (arith, more)))
              ∙ rest ∙ ap (λ l. dirent ∷ l) (sym later)
        ])
        )
  ]

-- ---- of a directory

module _ (g : Geometry) (content : Image) (inode : Inode) (is_directory : IsDirectory g content inode) where
  abbrev lies : Lying
  lies = slot_at g.inodes content inode

  abbrev all : ℕ
  all = SLOTS_PER_BLOCK * span_of inode

  abbrev listed : ℕ → Option ListedItem
  listed slot = listed_in (directory_in g.inodes content inode) slot

  listing_at : (slot : ℕ) → Option Lies → Option ListedItem
  listing_at slot found = option_map (λ dirent. record {
    number = dirent.1.number;
    name = dirent.0;
    cookie = slot + FIRST_SLOT_COOKIE;
  }) found

  in_slots : (slot : ℕ) → slot < all → listed slot ≡ listing_at slot (dirent_in slot (lies slot))
  unfolding named_in listing_at
  in_slots slot less = ap (listing_at slot) (in_the_slot lies all is_directory.once slot less)

  free_slot : (slot : ℕ) → slot < all → lies slot ≡ Ok None → listed slot ≡ None
  unfolding listing_at
  free_slot slot less is = in_slots slot less ∙ ap (λ read. listing_at slot (dirent_in slot read)) is

  used_slot : (named : SlotName) → named.slot < all
      → lies named.slot ≡ Ok (Some (record { number = named.number; name = named.name }))
      → listed named.slot ≡ Some (listing_of named)
  unfolding listing_at
  used_slot named less is =
      in_slots named.slot less ∙ ap (λ read. listing_at named.slot (dirent_in named.slot read)) is

  -- the names from a slot on
  abbrev pub names_from : ℕ → List ListedItem
  names_from from = filter_map listed (filter (λ slot. nat_le from slot)
      (slots_of (directory_in g.inodes content inode)))

  pub no_names : (from : ℕ) → IsNext lies from all None → names_from from ≡ []
  no_names from free = none_listed listed from 0 all (λ slot low least less.
      free_slot slot (omega (arith, less)) (free slot low (omega (arith, less))))

  pub next_names : (from : ℕ) (named : SlotName) → IsNext lies from all (Some named)
      → names_from from ≡ listing_of named ∷ names_from (suc named.slot)
  next_names from named is =
      one_listed listed from 0 all named.slot (listing_of named) is.0 (omega arith)
      (let less = is.1 in omega (arith, less)) (used_slot named is.1 is.2)
      (λ slot low least before. let less = is.1 in free_slot slot (omega (arith, less, before))
      (is.3 slot low before))

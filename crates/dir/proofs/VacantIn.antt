-- The least slot of a directory in which no name lies, by what its slots are.
use Rattle.std.proofs.Common.{◌≡◌, ℕ, zero, suc, ◌+◌, ◌*◌, ◌<◌, ◌≤◌, inl, inr, sym, ap, ◌∙◌, refl, Bool, true, false}
use Rattle.std.proofs.Common.{cond, not, ◌||◌, List, [], ◌∷◌, Option, Some, None, Result, Ok, Err, IsOk, is_some, nat_eq, arith}
use Rattle.std.proofs.Common.{length, replicate}
use Rattle.std.proofs.lemmas.Bool.{cases_lt}
use Rattle.std.proofs.lemmas.Bool.Decides.{nat_tests}
use Rattle.std.specs.FinMap as map
use Rattle.std.specs.List.{find, list_any, range_with_len}
use Rattle.base.specs.declared.TheConstants.{MOST_SPAN, SLOTS_PER_BLOCK}
use Rattle.disk.specs.Crash.{Image}
use Rattle.layout.specs.declared.fault.LayoutFault.{LayoutFault}
use Rattle.layout.specs.declared.fault.LayoutFault.TheVariants.{Range}
use Rattle.layout.specs.declared.geometry.Geometry.{Geometry}
use Rattle.layout.specs.declared.inode.Inode.{Inode}
use Rattle.layout.specs.declared.slot.Slot.{Slot}
use Rattle.layout.specs.declared.slot.TheConstants as slots
use Rattle.layout.specs.Decode.{IsDirectory, directory_in, entries_in, dirent_in, named_in, span_of}
use Rattle.layout.specs.Fields.{four_at, is_zeros}
use Rattle.layout.specs.SlotForm.{is_sound_slot, read_slot, slot_of}
use Rattle.layout.proofs.Respelled.{all_zeros}
use Rattle.layout.proofs.SlotBytes.{free_read}
use Rattle.nfs_spec.specs.Procedures.Places.{is_taken_slot, least_free_slot}
use Rattle.dir.specs.Slots.{Lying, slot_at}
use Rattle.dir.specs.Vacant.{IsFirstFree, NoneFree, is_free}
use Rattle.dir.proofs.Members.{at_or_past, found_is}
use Rattle.dir.proofs.NextIn.{in_the_slot, of_few_slots}
use Rattle.nfs_spec.specs.Model.Node.{DirentValue}

-- ---- the bytes of a slot

not_zeros : (inodes : ℕ) (bytes : List ℕ) (none sound : Bool)
    → is_free (cond none (cond false (Ok None) (Err Range)) (cond sound (Ok (Some (slot_of bytes))) (Err Range)))
    ≡ false
not_zeros inodes bytes true sound = refl
not_zeros inodes bytes false true = refl
not_zeros inodes bytes false false = refl

pub zeros_free : (inodes : ℕ) (bytes : List ℕ) → length bytes ≡ slots.SLOT_BYTES
    → (zeros : Bool) → is_zeros bytes ≡ zeros → is_free (read_slot inodes bytes) ≡ zeros
unfolding read_slot
zeros_free inodes bytes long true is =
    ap (λ b. is_free (read_slot inodes b)) (all_zeros bytes is ∙ ap (λ n. replicate n 0) long)
    ∙ ap is_free (free_read inodes)
zeros_free inodes bytes long false is =
    ap (λ t. is_free (cond (nat_eq (four_at 0 bytes) 0) (cond t (Ok None) (Err Range))
    (cond (is_sound_slot inodes bytes) (Ok (Some (slot_of bytes))) (Err Range)))) is
    ∙ not_zeros inodes bytes (nat_eq (four_at 0 bytes) 0) (is_sound_slot inodes bytes)

-- ---- the first of a range

module _ {A : Type 0} (p : A → Bool) where
  pub any_found : (xs : List A) → list_any p xs ≡ is_some (find p xs)
  any_found [] = refl
  any_found (x ∷ xs) = by_test x xs (any_found xs) (p x)
    where
      by_test : (x : A) (xs : List A) → list_any p xs ≡ is_some (find p xs) → (b : Bool)
          → (b || list_any p xs) ≡ is_some (cond b (Some x) (find p xs))
      by_test x xs rest true = refl
      by_test x xs rest false = rest

module _ (p : ℕ → Bool) where
  skip : (a n : ℕ) → p a ≡ false → find p (range_with_len a (suc n)) ≡ find p (range_with_len (a + 1) n)
  skip a n fails = ap (λ b. cond b (Some a) (find p (range_with_len (a + 1) n))) fails

  pub none_least : (a n : ℕ) → ((k : ℕ) → a ≤ k → k < a + n → p k ≡ false) → find p (range_with_len a n) ≡ None
  none_least a zero all = refl
  none_least a (suc n) all =
      skip a n (all a (omega arith) (omega arith))
      ∙ none_least (a + 1) n (λ k low less. all k (omega (arith, low)) (omega (arith, less)))

  pub one_least : (a n s : ℕ) → a ≤ s → s < a + n → p s ≡ true → ((k : ℕ) → a ≤ k → k < s → p k ≡ false)
      → find p (range_with_len a n) ≡ Some s
  one_least a zero s low less is all = absurd (omega (arith, low, less))
  one_least a (suc n) s low less is all = elim (at_or_past a s low) [
    | inl here ↦ ap (λ b. cond b (Some a) (find p (range_with_len (a + 1) n))) (ap p (sym here) ∙ is)
        ∙ ap Some (sym here)
    | inr more ↦ skip a n (all a (omega arith) (omega (arith, more)))
        ∙ one_least (a + 1) n s more (omega (arith, less)) is (λ k least before. all k (omega (arith, least)) before)
  ]

-- ---- of a directory

free_read_as : (slot : ℕ) (read : Result (Option Slot) LayoutFault) → IsOk read
    → not (is_some (dirent_in slot read)) ≡ is_free read
free_read_as slot (Ok None) ok = refl
free_read_as slot (Ok (Some one)) ok = refl
free_read_as slot (Err fault) ok = let clash : false ≡ true = ok in cc

same_number : (a b : ℕ) → nat_eq a b ≡ true → a ≡ b
same_number a b e = grind (arith, nat_tests)

module _ (g : Geometry) (content : Image) (inode : Inode) (is_directory : IsDirectory g content inode)
    (ok : (slot : ℕ) → slot < SLOTS_PER_BLOCK * span_of inode → IsOk (slot_at g.inodes content inode slot))
    (few : span_of inode ≤ MOST_SPAN) where
  abbrev lies : Lying
  lies = slot_at g.inodes content inode

  abbrev all : ℕ
  all = SLOTS_PER_BLOCK * span_of inode

  abbrev vacant : ℕ → Bool
  vacant slot = not (is_taken_slot (directory_in g.inodes content inode) slot)

  abbrev lies_in : ℕ → List ℕ × DirentValue → Bool
  lies_in slot dirent = nat_eq dirent.1.slot slot

  pub as_read : (slot : ℕ) → slot < all → vacant slot ≡ is_free (lies slot)
  unfolding named_in
  as_read slot less =
      ap not (any_found (lies_in slot) (map.entries (entries_in g.inodes content inode))
      ∙ ap is_some (in_the_slot lies all is_directory.once slot less))
      ∙ free_read_as slot (lies slot) (ok slot less)

  past_all : (slot : ℕ) → all ≤ slot → vacant slot ≡ true
  unfolding named_in
  past_all slot past =
      ap not (any_found (lies_in slot) (map.entries (entries_in g.inodes content inode))
      ∙ ap is_some (by_found (find (lies_in slot) (map.entries (entries_in g.inodes content inode))) refl))
    where
      by_found : (found : Option (List ℕ × DirentValue))
          → find (lies_in slot) (map.entries (entries_in g.inodes content inode)) ≡ found → found ≡ None
      by_found None e = refl
      by_found (Some dirent) e =
          let is = found_is (lies_in slot) (map.entries (entries_in g.inodes content inode)) dirent e in
          let less = of_few_slots lies all is_directory.once dirent is.0 in
          let here = same_number dirent.1.slot slot is.1 in
          absurd (omega (arith, less, here, past))

  none_before : (end : ℕ) → end ≤ all → NoneFree lies 0 end → (k : ℕ) → 0 ≤ k → k < end → vacant k ≡ false
  none_before end fits none k low less = as_read k (omega (arith, fits, less)) ∙ none k low less

  pub least_within : (free : ℕ) → IsFirstFree lies 0 all (Some free)
      → Some free ≡ least_free_slot (directory_in g.inodes content inode)
  least_within free is =
      let less = is.1 in
      sym (one_least vacant 0 (SLOTS_PER_BLOCK * MOST_SPAN) free is.0 (omega (arith, less, few))
      (as_read free less ∙ is.2) (none_before free (omega (arith, less)) is.3))

  pub least_behind : NoneFree lies 0 all → span_of inode < MOST_SPAN
      → Some all ≡ least_free_slot (directory_in g.inodes content inode)
  least_behind none fewer =
      sym (one_least vacant 0 (SLOTS_PER_BLOCK * MOST_SPAN) all (omega arith) (omega (arith, fewer))
      (past_all all (omega arith)) (none_before all (omega arith) none))

  pub no_least : NoneFree lies 0 all → MOST_SPAN ≤ span_of inode
      → None ≡ least_free_slot (directory_in g.inodes content inode)
  no_least none most =
      sym (none_least vacant 0 (SLOTS_PER_BLOCK * MOST_SPAN)
      (λ k low less. none_before all (omega arith) none k low (omega (arith, less, most, few))))

-- ---- block by block

module _ (lies other : Lying) (from end : ℕ)
    (same : (slot : ℕ) → from ≤ slot → slot < end → lies slot ≡ other slot) where
  none_moved : (last : ℕ) → last ≤ end → NoneFree other from last → NoneFree lies from last
  none_moved last fits none slot low less = ap is_free (same slot low (omega (arith, less, fits))) ∙ none slot low less

  pub moved_free : (found : Option ℕ) → IsFirstFree other from end found → IsFirstFree lies from end found
  moved_free None none = none_moved end (omega arith) none
  moved_free (Some free) is = (
    is.0,
    is.1,
    ap is_free (same free is.0 is.1) ∙ is.2,
    none_moved free (let less = is.1 in omega (arith, less)) is.3,
  )

module _ (lies : Lying) (before end : ℕ) where
  pub none_more : NoneFree lies 0 before → NoneFree lies before end → NoneFree lies 0 end
  none_more first rest slot low less =
      elim (cases_lt slot before) [ inl early ↦ first slot low early | inr late ↦ rest slot late less ]

  pub first_more : (all free : ℕ) → end ≤ all → NoneFree lies 0 before → IsFirstFree lies before end (Some free)
      → IsFirstFree lies 0 all (Some free)
  first_more all free fits first is =
      let less = is.1 in (
        omega arith,
        omega (arith, less, fits),
        is.2,
        λ slot low early.
            elim (cases_lt slot before) [ inl sooner ↦ first slot low sooner | inr late ↦ is.3 slot late early ],
      )

-- A directory gets a name or loses one: what it counts, and that it stays sound.
use Rattle.std.proofs.Common.{◌≡◌, ◌≢◌, ℕ, suc, ◌+◌, ◌*◌, ◌/◌, ◌<◌, ◌≤◌, max, sym, ap}
use Rattle.std.proofs.Common.{subst, ◌∙◌, refl, Bool, true, false, cond, not, ◌||◌, List, [], ◌∷◌, length}
use Rattle.std.proofs.Common.{get_or}
use Rattle.std.proofs.Common.{nat_eq, Option, Some, None, Contains, count_by, find, arith}
use Rattle.std.proofs.lemmas.Bool.Decides.{nat_tests}
use Rattle.std.proofs.lemmas.List.Folds.{list_any_at}
use Rattle.std.proofs.lemmas.List.FromFn.{get_or-range_with_len, length-range_with_len}
use Rattle.std.proofs.lemmas.List.Sums.{sum_by-cons}
use Rattle.std.specs.Cmp.Lexicographic.{nat_list_cmp_total, slice_cmp}
use Rattle.std.specs.FinMap.{IsAntisymmetric, get, get-insert, get-remove, insert, nat_cmp-IsAntisymmetric}
use Rattle.std.specs.FinMap.{remove}
use Rattle.std.specs.FinMap.{slice_cmp-IsAntisymmetric}
use Rattle.std.specs.List.{list_any, range_with_len}
use Rattle.std.specs.Ordering.{eq_by_cmp, nat_cmp}
use Rattle.base.specs.declared.TheConstants.{MOST_LINKS, MOST_SPAN, SLOTS_PER_BLOCK}
use Rattle.nfs_types.specs.Fits.{AreBytes}
use Rattle.nfs_types.specs.declared.ctx.Moment.{Moment}
use Rattle.nfs_spec.specs.Model.Names.{entries_of, is_directory, parent_of}
use Rattle.nfs_spec.specs.Model.Node.{Node, Body, DirentValue, Entries, Regular, Directory, Link}
use Rattle.nfs_spec.specs.Model.Sound.{SLASH, SoundBody, SoundEntries, SoundName, SoundNode, SoundTime, SoundVerifier}
use Rattle.nfs_spec.proofs.ProceduresLemmas.Tests.{differs, neither, one_or_none}
use Rattle.nfs_spec.proofs.ProceduresLemmas.TreeChanges.{Placed}
use Rattle.nfs_spec.proofs.ProceduresLemmas.Parts.{one_key, part, sum_insert, sum_remove}
use Rattle.nfs_spec.specs.Procedures.Changes.{departed, entered, parent_links, with_dirent, without_dirent}
use Rattle.nfs_spec.specs.Procedures.Places.{dirent_at, is_itself, is_parent, is_taken_slot, least_free_slot}

-- names are keys that the order tells apart
pub names_apart : IsAntisymmetric (slice_cmp nat_cmp)
names_apart = slice_cmp-IsAntisymmetric nat_cmp-IsAntisymmetric

-- what a test counts of the entries of a directory with one name more
pub count_entered : (p : List ℕ × DirentValue → Bool) (name : List ℕ) (dirent : DirentValue) (body : Body)
    → is_directory body ≡ true → dirent_at body name ≡ None
    → count_by p (entries_of (with_dirent name dirent body)) ≡ count_by p (entries_of body) + cond (p
    (name, dirent)) 1 0
count_entered p name dirent (Regular bytes mapped) dir absent = cc
count_entered p name dirent (Directory named span parent) dir absent =
    let f : List ℕ × DirentValue → ℕ = λ e. cond (p e) 1 0 in
    let sum = sum_insert nat_list_cmp_total names_apart f named name dirent in
    let none = ap (part f name) absent in
    omega (arith, sum, none)
count_entered p name dirent (Link target) dir absent = cc

-- and with one name less
pub count_departed : (p : List ℕ × DirentValue → Bool) (name : List ℕ) (dirent : DirentValue) (body : Body)
    → dirent_at body name ≡ Some dirent
    → count_by p (entries_of (without_dirent name body)) + cond (p (name, dirent)) 1 0
    ≡ count_by p (entries_of body)
count_departed p name dirent (Regular bytes mapped) is = cc
count_departed p name dirent (Directory named span parent) is =
    let f : List ℕ × DirentValue → ℕ = λ e. cond (p e) 1 0 in
    let sum = sum_remove nat_list_cmp_total names_apart f named name in
    let one = ap (part f name) is in
    omega (arith, sum, one)
count_departed p name dirent (Link target) is = cc

-- a name that leads somewhere lies in a directory
pub named_in : (body : Body) (name : List ℕ) (dirent : DirentValue) → dirent_at body name ≡ Some dirent
    → is_directory body ≡ true
named_in (Regular bytes mapped) name dirent is = cc
named_in (Directory named span parent) name dirent is = refl
named_in (Link target) name dirent is = cc

pub same_kind_entered : (name : List ℕ) (dirent : DirentValue) (body : Body)
    → is_directory (with_dirent name dirent body) ≡ is_directory body
same_kind_entered name dirent (Regular bytes mapped) = refl
same_kind_entered name dirent (Directory named span parent) = refl
same_kind_entered name dirent (Link target) = refl

pub same_kind_departed : (name : List ℕ) (body : Body) → is_directory (without_dirent name body)
    ≡ is_directory body
same_kind_departed name (Regular bytes mapped) = refl
same_kind_departed name (Directory named span parent) = refl
same_kind_departed name (Link target) = refl

pub same_parent_entered : (name : List ℕ) (dirent : DirentValue) (body : Body)
    → parent_of (with_dirent name dirent body) ≡ parent_of body
same_parent_entered name dirent (Regular bytes mapped) = refl
same_parent_entered name dirent (Directory named span parent) = refl
same_parent_entered name dirent (Link target) = refl

pub same_parent_departed : (name : List ℕ) (body : Body) → parent_of (without_dirent name body) ≡ parent_of body
same_parent_departed name (Regular bytes mapped) = refl
same_parent_departed name (Directory named span parent) = refl
same_parent_departed name (Link target) = refl

-- Names.

-- a list in which no item passes has none that does
none_contained : (p : ℕ → Bool) (xs : List ℕ) (x : ℕ) → list_any p xs ≡ false → p x ≡ true → Contains xs x → ⊥
none_contained p xs x none passes there =
    let yes : list_any p xs ≡ true = list_any_at p xs there.0 x there.1 (ap p there.2 ∙ passes) in
    let never : true ≡ false = sym yes ∙ none in cc

pub sound_name : (directory : Node) (name : List ℕ) → Placed directory name → AreBytes name → SoundName name
sound_name directory name placed bytes =
    let lawful = neither (nat_eq (length name) 0) _ placed.lawful in
    let own = neither (is_itself name) (is_parent name) placed.not_own in
    let some = lawful.0 in
    let short = placed.short in
    record {
      bytes = bytes;
      some = grind (arith, nat_tests, some);
      short = grind (arith, nat_tests, short);
      no_slash = none_contained (λ byte. nat_eq byte SLASH || nat_eq byte 0) name SLASH lawful.1 refl;
      no_zero = none_contained (λ byte. nat_eq byte SLASH || nat_eq byte 0) name 0 lawful.1 refl;
      not_itself = λ is. let never : true ≡ false = sym (ap is_itself is) ∙ own.0 in cc;
      not_parent = λ is. let never : true ≡ false = sym (ap is_parent is) ∙ own.1 in cc;
    }

-- Slots.

-- no name of a directory lies in the slot
abbrev pub FreeSlot : Body → ℕ → Type 0
FreeSlot body slot = (other : List ℕ) (dirent : DirentValue) → dirent_at body other ≡ Some dirent
    → dirent.slot ≢ slot

any_none : {A : Type 0} (p : A → Bool) (xs : List A) → list_any p xs ≡ false → count_by p xs ≡ 0
any_none p [] e = refl
any_none p (x ∷ xs) e =
    let parts = neither (p x) (list_any p xs) e in
    let first : ◌≡◌ {A = ℕ} (cond (p x) 1 0) 0 = ap (λ b. cond b 1 0) parts.0 in
    let rest = any_none p xs parts.1 in
    omega (arith, first, rest, sum_by-cons (λ y. cond (p y) 1 0) x xs)

pub free_slot : (body : Body) (slot : ℕ) → is_taken_slot body slot ≡ false → FreeSlot body slot
free_slot body slot free other dirent is =
    let none = any_none (λ e. nat_eq e.1.slot slot) (entries_of body) free in
    let sum = count_departed (λ e. nat_eq e.1.slot slot) other dirent body is in
    differs _ _ (one_or_none (nat_eq dirent.slot slot) (omega (arith, none, sum)))

-- what is found in a list passes the test
found_by : (p : ℕ → Bool) (xs : List ℕ) (most x : ℕ) → ((index d : ℕ) → index < length xs
    → get_or xs index d < most)
    → find p xs ≡ Some x → (p x ≡ true) × (x < most)
found_by p [] most x small is = cc
found_by p (y ∷ ys) most x small is =
    by (p y) refl (found_by p ys most x (λ index d inside. small (suc index) d (omega (arith, inside)))) is
  where
    by : (b : Bool) → p y ≡ b → (find p ys ≡ Some x → (p x ≡ true) × (x < most))
        → cond b (Some y) (find p ys) ≡ Some x → (p x ≡ true) × (x < most)
    by true passes rest e =
        let same : y ≡ x = cc in (
          ap p (sym same) ∙ passes,
          subst (λ n. n < most) same (small 0 0 (omega arith)),
        )
    by false fails rest e = rest e

not_true : (b : Bool) → not b ≡ true → b ≡ false
not_true true e = cc
not_true false e = refl

-- the least free slot is free, and one that a directory may have
pub least_is_free : (body : Body) (slot : ℕ) → least_free_slot body ≡ Some slot
    → FreeSlot body slot × (slot < SLOTS_PER_BLOCK * MOST_SPAN)
least_is_free body slot is =
    let most = SLOTS_PER_BLOCK * MOST_SPAN in
    let found = found_by (λ s. not (is_taken_slot body s)) (range_with_len 0 most) most slot (λ index d inside.
    let long = length-range_with_len 0 most in
    let at = get_or-range_with_len 0 most index d (omega (arith, long, inside)) in
    omega (arith, at, long, inside)) is in
    (free_slot body slot (not_true (is_taken_slot body slot) found.0), found.1)

-- The directory stays sound.

module _ (named : Entries) (span : ℕ) (name : List ℕ) (new : DirentValue) (good : SoundEntries named span)
    (lawful : SoundName name) (slot : new.slot < SLOTS_PER_BLOCK * MOST_SPAN)
    (free : (other : List ℕ) (dirent : DirentValue) → get named other ≡ Some dirent
    → dirent.slot ≢ new.slot) where
  abbrev wide : ℕ
  wide = max span (suc (new.slot / SLOTS_PER_BLOCK))

  after_insert : (q : List ℕ) → get (insert named name new) q
      ≡ cond (eq_by_cmp (slice_cmp nat_cmp) q name) (Some new) (get named q)
  after_insert q = get-insert nat_list_cmp_total named name new q

  name_by : (q : List ℕ) (b : Bool) (dirent : DirentValue) → eq_by_cmp (slice_cmp nat_cmp) q name ≡ b
      → cond b (Some new) (get named q) ≡ Some dirent → SoundName q
  name_by q true dirent tied is = subst SoundName (sym (one_key names_apart q name tied)) lawful
  name_by q false dirent tied is = good.names q dirent is

  slot_by : (q : List ℕ) (b : Bool) (dirent : DirentValue) → cond b (Some new) (get named q) ≡ Some dirent
      → dirent.slot < SLOTS_PER_BLOCK * wide
  slot_by q true dirent is =
      let same : new ≡ dirent = cc in
      let slots = ap (λ e. e.slot) same in
      omega (arith, slots)
  slot_by q false dirent is = let below = good.slots q dirent is in omega (arith, below)

  distinct_by : (one other : List ℕ) (b c : Bool) (x y : DirentValue)
      → eq_by_cmp (slice_cmp nat_cmp) one name ≡ b → eq_by_cmp (slice_cmp nat_cmp) other name ≡ c
      → cond b (Some new) (get named one) ≡ Some x → cond c (Some new) (get named other) ≡ Some y
      → x.slot ≡ y.slot → one ≡ other
  distinct_by one other true true x y tied too is has same =
      one_key names_apart one name tied ∙ sym (one_key names_apart other name too)
  distinct_by one other true false x y tied too is has same =
      let mine : new ≡ x = cc in
      absurd (free other y has (sym same ∙ ap (λ e. e.slot) (sym mine)))
  distinct_by one other false true x y tied too is has same =
      let mine : new ≡ y = cc in
      absurd (free one x is (same ∙ ap (λ e. e.slot) (sym mine)))
  distinct_by one other false false x y tied too is has same = good.distinct one other x y is has same

  entries_entered : SoundEntries (insert named name new) wide
  entries_entered = record {
    blocks = let blocks = good.blocks in omega (arith, blocks, slot);
    names = λ q dirent is. name_by q (eq_by_cmp (slice_cmp nat_cmp) q name) dirent refl (sym (after_insert q) ∙ is);
    slots = λ q dirent is. slot_by q (eq_by_cmp (slice_cmp nat_cmp) q name) dirent (sym (after_insert q) ∙ is);
    distinct = λ one other x y is has same.
        distinct_by one other (eq_by_cmp (slice_cmp nat_cmp) one name) (eq_by_cmp
        (slice_cmp nat_cmp) other name)
        x y refl refl (sym (after_insert one) ∙ is) (sym (after_insert other) ∙ has) same;
  }

pub body_entered : (name : List ℕ) (new : DirentValue) (body : Body) → SoundBody body → SoundName name
    → new.slot < SLOTS_PER_BLOCK * MOST_SPAN → FreeSlot body new.slot → SoundBody (with_dirent name new body)
body_entered name new (Regular bytes mapped) good lawful slot free = good
body_entered name new (Directory named span parent) good lawful slot free =
    entries_entered named span name new good lawful slot free
body_entered name new (Link target) good lawful slot free = good

-- what is left of a directory was there before
preserved_dirent : (b : Bool) (dirent : DirentValue) (o : Option DirentValue) → cond b None o ≡ Some dirent
    → o ≡ Some dirent
preserved_dirent true dirent o is = cc
preserved_dirent false dirent o is = is

pub dirent_before : (name other : List ℕ) (body : Body) (dirent : DirentValue)
    → dirent_at (without_dirent name body) other ≡ Some dirent → dirent_at body other ≡ Some dirent
dirent_before name other (Regular bytes mapped) dirent is = cc
dirent_before name other (Directory named span parent) dirent is =
    preserved_dirent (eq_by_cmp (slice_cmp nat_cmp) other name) dirent (get named other)
    (sym (get-remove nat_list_cmp_total named name other) ∙ is)
dirent_before name other (Link target) dirent is = cc

pub body_departed : (name : List ℕ) (body : Body) → SoundBody body → SoundBody (without_dirent name body)
body_departed name (Regular bytes mapped) good = good
body_departed name (Directory named span parent) good =
    let before : (other : List ℕ) (dirent : DirentValue) → get (remove named name) other ≡ Some dirent
    → get named other ≡ Some dirent =
    λ other dirent is. dirent_before name other (Directory named span parent) dirent is in
    record {
      blocks = good.blocks;
      names = λ q dirent is. good.names q dirent (before q dirent is);
      slots = λ q dirent is. good.slots q dirent (before q dirent is);
      distinct = λ one other a b is has same. good.distinct one other a b (before one a is)
          (before other b has) same;
    }
body_departed name (Link target) good = good

verifier_entered : (name : List ℕ) (new : DirentValue) (body : Body) (verifier : _)
    → SoundVerifier body verifier
    → SoundVerifier (with_dirent name new body) verifier
verifier_entered name new (Regular bytes mapped) verifier good = good
verifier_entered name new (Directory named span parent) verifier good = good
verifier_entered name new (Link target) verifier good = good

verifier_departed : (name : List ℕ) (body : Body) (verifier : _) → SoundVerifier body verifier
    → SoundVerifier (without_dirent name body) verifier
verifier_departed name (Regular bytes mapped) verifier good = good
verifier_departed name (Directory named span parent) verifier good = good
verifier_departed name (Link target) verifier good = good

pub node_entered : (moment : Moment) (name : List ℕ) (new : DirentValue) (file : Body) (directory : Node)
    → SoundNode directory → SoundTime moment → SoundName name → new.slot < SLOTS_PER_BLOCK * MOST_SPAN
    → FreeSlot directory.body new.slot → directory.nlink + parent_links file ≤ MOST_LINKS
    → SoundNode (entered moment name new file directory)
node_entered moment name new file directory good now lawful slot free few = record {
  mode = good.mode;
  uid = good.uid;
  gid = good.gid;
  nlink = few;
  atime = good.atime;
  mtime = now;
  ctime = now;
  stamp = good.stamp;
  verifier = verifier_entered name new directory.body directory.verifier good.verifier;
  body = body_entered name new directory.body good.body lawful slot free;
}

pub node_departed : (moment : Moment) (name : List ℕ) (file : Body) (directory : Node) → SoundNode directory
    → SoundTime moment → SoundNode (departed moment name file directory)
node_departed moment name file directory good now = record {
  mode = good.mode;
  uid = good.uid;
  gid = good.gid;
  nlink = let few = good.nlink in omega (arith, few);
  atime = good.atime;
  mtime = now;
  ctime = now;
  stamp = good.stamp;
  verifier = verifier_departed name directory.body directory.verifier good.verifier;
  body = body_departed name directory.body good.body;
}

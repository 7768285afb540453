-- The entries of slots of which a free one gets a name: those of before, and this.
use Rattle.std.proofs.Common.{◌≡◌, ℕ, zero, suc, ◌+◌, ◌<◌, ◌≤◌, ◌⊎◌, inl, inr, sym, ap, ◌∙◌, refl, subst, Bool, true}
use Rattle.std.proofs.Common.{false, cond, List, ◌∷◌, nat_eq, Option, Some, None, Result, Ok, Err, arith}
use Rattle.std.specs.Cmp.Lexicographic.{nat_list_cmp_total, slice_cmp}
use Rattle.std.specs.FinMap.{find, from_entries, get, get-from_entries, get-insert, get-remove, insert, remove}
use Rattle.std.specs.FinMap.{same_map}
use Rattle.std.specs.List.{cons_option}
use Rattle.std.specs.Ordering.{eq_by_cmp, nat_cmp}
use Rattle.std.proofs.lemmas.Bool.{eq-eqb}
use Rattle.layout.specs.declared.fault.LayoutFault.{LayoutFault}
use Rattle.layout.specs.declared.slot.Slot.{Slot}
use Rattle.layout.specs.Decode.{dirent_in}
use Rattle.layout.specs.SlotForm.{number_under}
use Rattle.layout.proofs.Written.{not_same}
use Rattle.nfs_spec.specs.Model.Node.{DirentValue, Entries}
use Rattle.dir.specs.Slots.{Lying}
use Rattle.dir.proofs.Distinct.{first_once, itself, tied}
use Rattle.dir.proofs.FoundIn.{entries}
use Rattle.dir.proofs.Members.{at_or_past, none_some}
use Rattle.dir_writes.proofs.Lost.{IsOnce, exact, loses, lost, once_more, removed}
use Rattle.dir_writes.proofs.SlotNames.{alike_entries, relaid}

abbrev Named : Type 0
Named = List ℕ × DirentValue

abbrev seek : List ℕ → List Named → Option DirentValue
seek name es = find (slice_cmp nat_cmp) name es

abbrev is_same : List ℕ → List ℕ → Bool
is_same a b = eq_by_cmp (slice_cmp nat_cmp) a b

-- a name that isn't in a list is not the first one's, and in none of the rest
apart : (name : List ℕ) (x : Named) (rest : List Named) (b : Bool) → is_same name x.0 ≡ b
    → cond b (Some x.1) (seek name rest) ≡ None → (b ≡ false) × (seek name rest ≡ None)
apart name x rest true is none = absurd (none_some x.1 (sym none))
apart name x rest false is none = (refl, none)

turned : (a b : List ℕ) → is_same a b ≡ false → (t : Bool) → is_same b a ≡ t → t ≡ false
turned a b not true is =
    let clash : true ≡ false = sym (itself nat_list_cmp_total a) ∙ ap (is_same a) (sym (tied exact b a is)) ∙ not in cc
turned a b not false is = refl

module _ (lies : Lying) (name : List ℕ) (s number : ℕ) (free : lies s ≡ Ok None) where
  abbrev one : Slot
  one = record { number = number; name = name }

  abbrev dirent : DirentValue
  dirent = record { number = number; slot = s }

  abbrev then : Lying
  then = relaid lies s (Some one)

  abbrev Gains : List Named → List Named → Type 0
  Gains es more = IsOnce more × ((q : List ℕ) → seek q more ≡ cond (is_same q name) (Some dirent) (seek q es))

  past : (a n : ℕ) → s < a → entries then a n ≡ entries lies a n
  past a zero more = refl
  past a (suc n) more = λ i.
      cons_option (dirent_in a (cond (not_same a s (λ same. omega (arith, same, more)) i) (Ok (Some one)) (lies a)))
      (past (a + 1) n (omega (arith, more)) i)

  at_it : (n : ℕ) → IsOnce (entries lies s (suc n)) → seek name (entries lies s (suc n)) ≡ None
      → Gains (entries lies s (suc n)) (entries then s (suc n))
  at_it n once none =
      let rest = entries lies (s + 1) n in
      let all : entries lies s (suc n) ≡ rest = ap (λ r. cons_option (dirent_in s r) rest) free in
      let more : entries then s (suc n) ≡ (name, dirent) ∷ rest =
      (λ i. cons_option (dirent_in s (cond (eq-eqb s s refl i) (Ok (Some one)) (lies s)))
      (past (s + 1) n (omega arith) i)) in
      moved (sym all) (sym more) (
        once_more (name, dirent) rest (subst IsOnce all once) (ap (seek name) (sym all) ∙ none),
        λ q. refl,
      )
    where
      moved : {a b c d : List Named} → a ≡ b → c ≡ d → Gains a c → Gains b d
      moved {a} {b} {c} {d} e f gains = subst (λ x. Gains x d) e (subst (λ x. Gains a x) f gains)

  -- another one is in front
  behind_one : (x : Named) (rest more : List Named) → IsOnce (x ∷ rest) → seek name (x ∷ rest) ≡ None
      → (IsOnce rest → seek name rest ≡ None → Gains rest more) → Gains (x ∷ rest) (x ∷ more)
  behind_one x rest more once none so =
      let both = first_once nat_list_cmp_total exact x rest once in
      let not = apart name x rest (is_same name x.0) refl none in
      let gains = so both.0 not.1 in
      let other = turned name x.0 not.0 (is_same x.0 name) refl in (
        once_more x more gains.0 (gains.1 x.0 ∙ ap (λ t. cond t (Some dirent) (seek x.0 rest)) other ∙ both.1),
        λ q. by_test gains.1 not.0 q (is_same q x.0) refl,
      )
    where
      of_other : is_same name x.0 ≡ false → (q : List ℕ) → is_same q x.0 ≡ true → (t : Bool) → is_same q name ≡ t
          → t ≡ false
      of_other not q is true same =
          let clash : true ≡ false = sym is ∙ ap (λ k. is_same k x.0) (tied exact q name same) ∙ not in cc
      of_other not q is false same = refl

      by_test : ((q : List ℕ) → seek q more ≡ cond (is_same q name) (Some dirent) (seek q rest))
          → is_same name x.0 ≡ false → (q : List ℕ) (b : Bool) → is_same q x.0 ≡ b
          → cond b (Some x.1) (seek q more) ≡ cond (is_same q name) (Some dirent) (cond b (Some x.1) (seek q rest))
      by_test gains not q true is =
          sym (ap (λ t. cond t (Some dirent) (Some x.1)) (of_other not q is (is_same q name) refl))
      by_test gains not q false is = gains q

  pub gains : (a n : ℕ) → a ≤ s → s < a + n → IsOnce (entries lies a n) → seek name (entries lies a n) ≡ None
      → Gains (entries lies a n) (entries then a n)
  gains a zero low less once none = absurd (omega (arith, low, less))
  gains a (suc n) low less once none =
      go a n (λ more. gains (a + 1) n more (omega (arith, less))) once none (at_or_past a s low)
    where
      step : (a n : ℕ) (read : Result (Option Slot) LayoutFault)
          → (IsOnce (entries lies (a + 1) n) → seek name (entries lies (a + 1) n) ≡ None
          → Gains (entries lies (a + 1) n) (entries then (a + 1) n))
          → IsOnce (cons_option (dirent_in a read) (entries lies (a + 1) n))
          → seek name (cons_option (dirent_in a read) (entries lies (a + 1) n)) ≡ None
          → Gains (cons_option (dirent_in a read) (entries lies (a + 1) n))
          (cons_option (dirent_in a read) (entries then (a + 1) n))
      step a n (Ok (Some x)) rest once none =
          behind_one (x.name, record { number = x.number; slot = a }) (entries lies (a + 1) n)
          (entries then (a + 1) n) once none rest
      step a n (Ok None) rest once none = rest once none
      step a n (Err fault) rest once none = rest once none

      go : (a n : ℕ)
          → (a + 1 ≤ s → IsOnce (entries lies (a + 1) n) → seek name (entries lies (a + 1) n) ≡ None
          → Gains (entries lies (a + 1) n) (entries then (a + 1) n))
          → IsOnce (entries lies a (suc n)) → seek name (entries lies a (suc n)) ≡ None → (s ≡ a) ⊎ (a + 1 ≤ s)
          → Gains (entries lies a (suc n)) (entries then a (suc n))
      go a n rest once none (inl here) =
          subst (λ k. Gains (entries lies k (suc n)) (entries then k (suc n))) here
          (at_it n (subst (λ k. IsOnce (entries lies k (suc n))) (sym here) once)
          (ap (λ k. seek name (entries lies k (suc n))) here ∙ none))
      go a n rest once none (inr more) =
          subst (λ read. Gains (entries lies a (suc n))
          (cons_option (dirent_in a read) (entries then (a + 1) n)))
          (sym (ap (λ b. cond b (Ok (Some one)) (lies a)) (not_same a s (λ same. omega (arith, same, more)))))
          (step a n (lies a) (rest more) once none)

  pub entered : (n : ℕ) → s < n → IsOnce (entries lies 0 n) → seek name (entries lies 0 n) ≡ None
      → from_entries {R = slice_cmp nat_cmp} (entries then 0 n)
      ≡ insert (from_entries {R = slice_cmp nat_cmp} (entries lies 0 n)) name dirent
  entered n less once none =
      let gain = gains 0 n (omega arith) (omega (arith, less)) once none in
      same_map nat_list_cmp_total exact (from_entries {R = slice_cmp nat_cmp} (entries then 0 n))
      (insert (from_entries {R = slice_cmp nat_cmp} (entries lies 0 n)) name dirent)
      (λ q. get-from_entries nat_list_cmp_total (entries then 0 n) q ∙ gain.1 q
      ∙ ap (cond (is_same q name) (Some dirent)) (sym (get-from_entries nat_list_cmp_total (entries lies 0 n) q))
      ∙ sym (get-insert nat_list_cmp_total (from_entries {R = slice_cmp nat_cmp} (entries lies 0 n)) name dirent q))

-- ---- a name that is there gets another number

-- a name that was taken out and is put in again
put_again : (m : Entries) (name : List ℕ) (dirent : DirentValue)
    → insert (remove m name) name dirent ≡ insert m name dirent
put_again m name dirent = same_map nat_list_cmp_total exact (insert (remove m name) name dirent) (insert m name dirent)
    (λ q. get-insert nat_list_cmp_total (remove m name) name dirent q ∙ by_test q (is_same q name) refl
    ∙ sym (get-insert nat_list_cmp_total m name dirent q))
  where
    by_test : (q : List ℕ) (t : Bool) → is_same q name ≡ t
        → cond t (Some dirent) (get (remove m name) q) ≡ cond t (Some dirent) (get m q)
    by_test q true e = refl
    by_test q false e = get-remove nat_list_cmp_total m name q ∙ ap (λ t. cond t None (get m q)) e

module _ (lies : Lying) (name : List ℕ) (s number old n : ℕ) (less : s < n)
    (is : number_under name (lies s) ≡ Ok (Some old)) (once : IsOnce (entries lies 0 n)) where
  abbrev without : Lying
  without = lost lies s

  abbrev dirent_then : DirentValue
  dirent_then = record { number = number; slot = s }

  abbrev one_then : Slot
  one_then = record { number = number; name = name }

  free_then : without s ≡ Ok None
  free_then = ap (λ t. cond t (Ok None) (lies s)) (eq-eqb s s refl)

  none_then : seek name (entries without 0 n) ≡ None
  none_then =
      (loses lies name s old is 0 n (omega arith) (omega (arith, less)) once).1 name
      ∙ ap (λ t. cond t None (seek name (entries lies 0 n))) (itself nat_list_cmp_total name)

  once_then : IsOnce (entries without 0 n)
  once_then = (loses lies name s old is 0 n (omega arith) (omega (arith, less)) once).0

  same_slots : (k : ℕ) → relaid without s (Some one_then) k ≡ relaid lies s (Some one_then) k
  same_slots k = by_test (nat_eq k s)
    where
      by_test : (t : Bool) → ◌≡◌ {A = Result (Option Slot) LayoutFault}
          (cond t (Ok (Some one_then)) (cond t (Ok None) (lies k))) (cond t (Ok (Some one_then)) (lies k))
      by_test true = refl
      by_test false = refl

  same_entries : entries (relaid without s (Some one_then)) 0 n ≡ entries (relaid lies s (Some one_then)) 0 n
  same_entries = alike_entries (relaid without s (Some one_then)) (relaid lies s (Some one_then)) 0 n
      (λ k low high. same_slots k)

  pub replaced_once : IsOnce (entries (relaid lies s (Some one_then)) 0 n)
  replaced_once = subst IsOnce same_entries
      (gains without name s number free_then 0 n (omega arith) (omega (arith, less)) once_then none_then).0

  pub replaced : from_entries {R = slice_cmp nat_cmp} (entries (relaid lies s (Some one_then)) 0 n)
      ≡ insert (from_entries {R = slice_cmp nat_cmp} (entries lies 0 n)) name dirent_then
  replaced =
      ap (λ es. from_entries {R = slice_cmp nat_cmp} es) (sym same_entries)
      ∙ entered without name s number free_then n less once_then none_then
      ∙ ap (λ (m : Entries). insert m name dirent_then) (removed lies name s old is n less once)
      ∙ put_again (from_entries {R = slice_cmp nat_cmp} (entries lies 0 n)) name dirent_then

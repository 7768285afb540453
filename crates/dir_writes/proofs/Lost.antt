-- The entries of slots of which one becomes free: those of before, but for its name.
use Rattle.std.proofs.Common.{◌≡◌, ℕ, zero, suc, ◌+◌, ◌<◌, ◌≤◌, ◌⊎◌, inl, inr, sym, ap, ◌∙◌, refl, Bool, true}
use Rattle.std.proofs.Common.{false}
use Rattle.std.proofs.Common.{cond, List, ◌∷◌, length, nat_eq, Option, Some, None, Result, Ok, Err, is_some}
use Rattle.std.proofs.Common.{arith, subst}
use Rattle.std.specs.Cmp.Lexicographic.{nat_list_cmp_total, slice_cmp}
use Rattle.std.specs.FinMap as map
use Rattle.std.specs.FinMap.{contains_key, find, from_entries, get-from_entries, get-remove, len, len-insert}
use Rattle.std.specs.FinMap.{remove, same_map}
use Rattle.std.specs.List.{cons_option}
use Rattle.std.specs.Ordering.{eq_by_cmp, nat_cmp}
use Rattle.std.proofs.lemmas.Bool.{eq-eqb}
use Rattle.layout.specs.declared.fault.LayoutFault.{LayoutFault}
use Rattle.layout.specs.declared.slot.Slot.{Slot}
use Rattle.layout.specs.Decode.{dirent_in}
use Rattle.layout.specs.SlotForm.{number_under}
use Rattle.layout.proofs.Written.{not_same}
use Rattle.nfs_spec.specs.Model.Node.{DirentValue}
use Rattle.dir.specs.Slots.{Lying}
use Rattle.dir.proofs.Distinct.{Once, first_once, some_found, tied}
use Rattle.dir.proofs.FoundIn.{entries}
use Rattle.dir.proofs.Members.{at_or_past, in_range}

abbrev Named : Type 0
Named = List ℕ × DirentValue

pub exact : map.IsAntisymmetric (slice_cmp nat_cmp)
exact = map.slice_cmp-IsAntisymmetric map.nat_cmp-IsAntisymmetric

abbrev pub IsOnce : List Named → Type 0
IsOnce es = Once {R = slice_cmp nat_cmp} nat_list_cmp_total exact es

abbrev seek : List ℕ → List Named → Option DirentValue
seek name es = find (slice_cmp nat_cmp) name es

abbrev is_same : List ℕ → List ℕ → Bool
is_same a b = eq_by_cmp (slice_cmp nat_cmp) a b

abbrev pub lost : Lying → ℕ → Lying
lost lies s k = cond (nat_eq k s) (Ok None) (lies k)

-- a list behind one more that is not in it
pub once_more : (x : Named) (es : List Named) → IsOnce es → seek x.0 es ≡ None → IsOnce (x ∷ es)
once_more x es once none =
    let new : contains_key (from_entries {R = slice_cmp nat_cmp} es) x.0 ≡ false =
    ap is_some (get-from_entries nat_list_cmp_total es x.0 ∙ none) in
    len-insert nat_list_cmp_total (from_entries {R = slice_cmp nat_cmp} es) x.0 x.1
    ∙ ap (λ b. cond b (len (from_entries {R = slice_cmp nat_cmp} es))
    (len (from_entries {R = slice_cmp nat_cmp} es) + 1)) new
    ∙ ap (λ k. k + 1) once ∙ plus (length es)
  where
    plus : (n : ℕ) → n + 1 ≡ suc n
    plus n = omega arith

none_cond : (b : Bool) (o : Option DirentValue) → o ≡ None → cond b None o ≡ None
none_cond true o e = refl
none_cond false o e = e

named_of : (name : List ℕ) (read : Result (Option Slot) LayoutFault) (number : ℕ)
    → number_under name read ≡ Ok (Some number)
    → (one : Slot) × (read ≡ Ok (Some one)) × (is_same name one.name ≡ true)
named_of name (Ok (Some one)) number e = (one, refl, by_test (is_same name one.name) refl e)
  where
    by_test : (b : Bool) → is_same name one.name ≡ b
        → ◌≡◌ {A = Result (Option ℕ) LayoutFault} (Ok (cond b (Some one.number) None)) (Ok (Some number))
        → b ≡ true
    by_test true is e = refl
    by_test false is e = cc
named_of name (Ok None) number e = cc
named_of name (Err fault) number e = cc

-- ---- one slot more

-- the free one: its name is in none of the rest
here_lost : (name : List ℕ) (x : Named) (rest : List Named) → is_same name x.0 ≡ true → IsOnce (x ∷ rest)
    → IsOnce rest × ((q : List ℕ) → seek q rest ≡ cond (is_same q name) None (seek q (x ∷ rest)))
here_lost name x rest same once =
    let both = first_once nat_list_cmp_total exact x rest once in
    let key : name ≡ x.0 = tied exact name x.0 same in (
      both.0,
      λ q. by_test both.1 key q (is_same q name) refl,
    )
  where
    by_test : seek x.0 rest ≡ None → name ≡ x.0 → (q : List ℕ) (b : Bool) → is_same q name ≡ b
        → seek q rest ≡ cond b None (seek q (x ∷ rest))
    by_test none key q true is = ap (λ k. seek k rest) (tied exact q name is ∙ key) ∙ none
    by_test none key q false is =
        sym (ap (λ b. cond b (Some x.1) (seek q rest)) (ap (is_same q) (sym key) ∙ is))

-- another one
other_lost : (name : List ℕ) (x : Named) (rest less : List Named) → IsOnce (x ∷ rest)
    → (seek name rest ≡ None → ⊥)
    → (IsOnce rest → IsOnce less × ((q : List ℕ) → seek q less ≡ cond (is_same q name) None (seek q rest)))
    → IsOnce (x ∷ less)
    × ((q : List ℕ) → seek q (x ∷ less) ≡ cond (is_same q name) None (seek q (x ∷ rest)))
other_lost name x rest less once there so =
    let both = first_once nat_list_cmp_total exact x rest once in
    let then = so both.0 in (
      once_more x less then.0 (then.1 x.0 ∙ none_cond (is_same x.0 name) (seek x.0 rest) both.1),
      λ q. by_test both.1 then.1 q (is_same q x.0) refl,
    )
  where
    apart : seek x.0 rest ≡ None → (q : List ℕ) → is_same q x.0 ≡ true → (b : Bool) → is_same q name ≡ b
        → b ≡ false
    apart none q is true same =
        absurd (there (ap (λ k. seek k rest) (sym (tied exact q name same) ∙ tied exact q x.0 is) ∙ none))
    apart none q is false same = refl

    by_test : seek x.0 rest ≡ None
        → ((q : List ℕ) → seek q less ≡ cond (is_same q name) None (seek q rest))
        → (q : List ℕ) (b : Bool) → is_same q x.0 ≡ b
        → cond b (Some x.1) (seek q less) ≡ cond (is_same q name) None (cond b (Some x.1) (seek q rest))
    by_test none then q true is =
        sym (ap (λ t. cond t None (Some x.1)) (apart none q is (is_same q name) refl))
    by_test none then q false is = then q

-- ---- all slots

module _ (lies : Lying) (name : List ℕ) (s number : ℕ) (is : number_under name (lies s) ≡ Ok (Some number)) where
  abbrev slot_dirent : ℕ → Option Named
  slot_dirent index = dirent_in index (lies index)

  past : (a n : ℕ) → s < a → entries (lost lies s) a n ≡ entries lies a n
  past a zero more = refl
  past a (suc n) more = λ i.
      cons_option (dirent_in a (cond (not_same a s (λ same. omega (arith, same, more)) i) (Ok None) (lies a)))
      (past (a + 1) n (omega (arith, more)) i)

  there : (a n : ℕ) → a ≤ s → s < a + n → seek name (entries lies a n) ≡ None → ⊥
  there a n low less none =
      let one = named_of name (lies s) number is in
      let dirent : slot_dirent s ≡ Some (one.0.name, record { number = one.0.number; slot = s }) =
      ap (dirent_in s) one.1 in
      some_found nat_list_cmp_total exact (entries lies a n) one.0.name
      (record { number = one.0.number; slot = s })
      (in_range slot_dirent a n s (one.0.name, record { number = one.0.number; slot = s }) low less dirent)
      (ap (λ k. seek k (entries lies a n)) (sym (tied exact name one.0.name one.2)) ∙ none)

  abbrev pub Loses : List Named → List Named → Type 0
  Loses es less = IsOnce less × ((q : List ℕ) → seek q less ≡ cond (is_same q name) None (seek q es))

  at_it : (n : ℕ) → IsOnce (entries lies s (suc n)) → Loses (entries lies s (suc n)) (entries (lost lies s) s (suc n))
  at_it n once =
      let one = named_of name (lies s) number is in
      let rest = entries lies (s + 1) n in
      let first : Named = (one.0.name, record { number = one.0.number; slot = s }) in
      let all : entries lies s (suc n) ≡ first ∷ rest = ap (λ r. cons_option (dirent_in s r) rest) one.1 in
      let less : entries (lost lies s) s (suc n) ≡ rest =
      (λ i. cons_option (dirent_in s (cond (eq-eqb s s refl i) (Ok None) (lies s)))
      (past (s + 1) n (omega arith) i)) in
      let lose = here_lost name first rest one.2 (moved all once) in
      moved_loses (sym all) (sym less) lose
    where
      moved : {a b : List Named} → a ≡ b → IsOnce a → IsOnce b
      moved e once = subst IsOnce e once

      moved_loses : {a b c d : List Named} → a ≡ b → c ≡ d → Loses a c → Loses b d
      moved_loses {a} {b} {c} {d} e f loses = subst (λ x. Loses x d) e (subst (λ x. Loses a x) f loses)

  pub loses : (a n : ℕ) → a ≤ s → s < a + n → IsOnce (entries lies a n)
      → Loses (entries lies a n) (entries (lost lies s) a n)
  loses a zero low less once = absurd (omega (arith, low, less))
  loses a (suc n) low less once =
      go a n (λ more. loses (a + 1) n more (omega (arith, less))) less once (at_or_past a s low)
    where
      step : (a n : ℕ) (read : Result (Option Slot) LayoutFault)
          → (IsOnce (entries lies (a + 1) n) → Loses (entries lies (a + 1) n) (entries (lost lies s) (a + 1) n))
          → (seek name (entries lies (a + 1) n) ≡ None → ⊥)
          → IsOnce (cons_option (dirent_in a read) (entries lies (a + 1) n))
          → Loses (cons_option (dirent_in a read) (entries lies (a + 1) n))
          (cons_option (dirent_in a read) (entries (lost lies s) (a + 1) n))
      step a n (Ok (Some one)) rest some once =
          other_lost name (one.name, record { number = one.number; slot = a }) (entries lies (a + 1) n)
          (entries (lost lies s) (a + 1) n) once some rest
      step a n (Ok None) rest some once = rest once
      step a n (Err fault) rest some once = rest once

      go : (a n : ℕ)
          → (a + 1 ≤ s → IsOnce (entries lies (a + 1) n)
          → Loses (entries lies (a + 1) n) (entries (lost lies s) (a + 1) n))
          → s < a + suc n → IsOnce (entries lies a (suc n)) → (s ≡ a) ⊎ (a + 1 ≤ s)
          → Loses (entries lies a (suc n)) (entries (lost lies s) a (suc n))
      go a n rest less once (inl here) =
          subst (λ k. Loses (entries lies k (suc n)) (entries (lost lies s) k (suc n))) here
          (at_it n (subst (λ k. IsOnce (entries lies k (suc n))) (sym here) once))
      go a n rest less once (inr more) =
          subst (λ read. Loses (entries lies a (suc n))
          (cons_option (dirent_in a read) (entries (lost lies s) (a + 1) n)))
          (sym (ap (λ b. cond b (Ok None) (lies a)) (not_same a s (λ same. omega (arith, same, more)))))
          (step a n (lies a) (rest more) (there (a + 1) n more (omega (arith, less))) once)

  pub removed : (n : ℕ) → s < n → IsOnce (entries lies 0 n)
      → from_entries {R = slice_cmp nat_cmp} (entries (lost lies s) 0 n)
      ≡ remove (from_entries {R = slice_cmp nat_cmp} (entries lies 0 n)) name
  removed n less once =
      let lose = loses 0 n (omega arith) (omega (arith, less)) once in
      same_map nat_list_cmp_total exact (from_entries {R = slice_cmp nat_cmp} (entries (lost lies s) 0 n))
      (remove (from_entries {R = slice_cmp nat_cmp} (entries lies 0 n)) name)
      (λ q. get-from_entries nat_list_cmp_total (entries (lost lies s) 0 n) q ∙ lose.1 q
      ∙ ap (cond (is_same q name) None) (sym (get-from_entries nat_list_cmp_total (entries lies 0 n) q))
      ∙ sym (get-remove nat_list_cmp_total (from_entries {R = slice_cmp nat_cmp} (entries lies 0 n)) name q))

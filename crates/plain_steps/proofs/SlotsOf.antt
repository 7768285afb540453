-- What lies in a slot of a directory.
use Rattle.std.proofs.Common.{◌≡◌, ℕ, zero, suc, ◌+◌, ◌<◌, sym, ap, ◌∙◌, refl, Bool, true, false, cond}
use Rattle.std.proofs.Common.{List, [], ◌∷◌, length, get_or, map, position, nat_eq, Option, Some, None}
use Rattle.std.proofs.Common.{arith}
use Rattle.std.proofs.lemmas.Iterator.Adapters.{position_from-zero}
use Rattle.std.proofs.lemmas.List.Quantifiers.{position-Some}
use Rattle.std.specs.List.{find, position_from}
use Rattle.nfs_spec.specs.Model.Node.{DirentValue}
use Rattle.plain_tree.specs.Tree.Named.{plain_dirent_of}
use Rattle.plain_tree.specs.declared.tree.plain_names.PlainDirent.{PlainDirent}

taken : (b : Bool) (x : List ℕ × DirentValue) (o : Option (List ℕ × DirentValue)) → b ≡ true
    → cond b (Some x) o ≡ Some x
taken true x o e = refl
taken false x o e = cc

skipped : (b : Bool) (x : List ℕ × DirentValue) (o : Option (List ℕ × DirentValue)) → b ≡ false
    → cond b (Some x) o ≡ o
skipped true x o e = cc
skipped false x o e = refl

module _ (slot : ℕ) where
  abbrev pub lies : List ℕ × DirentValue → Bool
  lies dirent = nat_eq dirent.1.slot slot

  found_at : (xs : List PlainDirent) (index : ℕ) (dirent : PlainDirent) → index < length xs
      → get_or xs index dirent ≡ dirent → nat_eq dirent.slot slot ≡ true
      → ((k : ℕ) → k < index → nat_eq (get_or xs k dirent).slot slot ≡ false)
      → find lies (map plain_dirent_of xs) ≡ Some (plain_dirent_of dirent)
  found_at [] index dirent inside here is first = absurd (omega arith)
  found_at (x ∷ xs) zero dirent inside here is first =
      taken (nat_eq x.slot slot) (plain_dirent_of x) (find lies (map plain_dirent_of xs)) (ap (λ (m : PlainDirent). nat_eq
      m.slot slot) here ∙ is)
      ∙ ap (λ m. Some (plain_dirent_of m)) here
  found_at (x ∷ xs) (suc index) dirent inside here is first =
      skipped (nat_eq x.slot slot) (plain_dirent_of x) (find lies (map plain_dirent_of xs)) (first 0 (omega arith))
      ∙ found_at xs index dirent (omega arith) here is (λ k below. first (suc k) (omega arith))

  neither : (b : Bool) (i : ℕ) (o : Option ℕ) → cond b (Some i) o ≡ None → (b ≡ false) × (o ≡ None)
  neither true i o e = cc
  neither false i o e = (refl, e)

  none_from : (xs : List PlainDirent) (i : ℕ) → position_from (λ e. nat_eq e.slot slot) i xs ≡ None
      → find lies (map plain_dirent_of xs) ≡ None
  none_from [] i none = refl
  none_from (x ∷ xs) i none =
      let both = neither (nat_eq x.slot slot) i (position_from (λ (e : PlainDirent). nat_eq e.slot slot) (i
      + 1) xs) none in
      skipped (nat_eq x.slot slot) (plain_dirent_of x) (find lies (map plain_dirent_of xs)) both.0
      ∙ none_from xs (i + 1) both.1

  -- the entry that lies in the slot
  pub found_slot : (xs : List PlainDirent) (index : ℕ) (dirent : PlainDirent)
      → position (λ e. nat_eq e.slot slot) xs ≡ Some index → dirent ≡ get_or xs index dirent
      → find lies (map plain_dirent_of xs) ≡ Some (plain_dirent_of dirent)
  found_slot xs index dirent is here =
      let at = position-Some (λ (e : PlainDirent). nat_eq e.slot slot) xs index dirent is in
      found_at xs index dirent at.0 (sym here) (ap (λ (m : PlainDirent). nat_eq m.slot slot) here ∙ at.1) at.2

  pub no_slot : (xs : List PlainDirent) → position (λ e. nat_eq e.slot slot) xs ≡ None
      → find lies (map plain_dirent_of xs) ≡ None
  no_slot xs none = none_from xs 0 (sym (position_from-zero (λ (e : PlainDirent). nat_eq e.slot slot) xs)
      ∙ none)

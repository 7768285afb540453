-- What a sorted list of entries shows of the map that it stands for.
use Rattle.std.proofs.Common.{◌≡◌, ℕ, zero, suc, ◌+◌, ◌<◌, sym, ap, subst, ◌∙◌, refl, Bool, true, false, cond}
use Rattle.std.proofs.Common.{not, T, List, [], ◌∷◌, ◌++◌, length, get_or, set, filter, map, position}
use Rattle.std.proofs.Common.{Option, Some, None, arith}
use Rattle.std.proofs.lemmas.Iterator.Adapters.{position_from-zero}
use Rattle.std.proofs.lemmas.List.Quantifiers.{position-Some}
use Rattle.std.specs.Cmp.{eq_by_cmp_equiv}
use Rattle.std.specs.Cmp.Lexicographic.{nat_list_cmp_total, slice_cmp}
use Rattle.std.specs.FinMap as finmap
use Rattle.std.specs.FinMap.{put}
use Rattle.std.specs.FinMap.Entries.{by_order, is_sorted-put, where_key, is_sorted-where_key, find-where_key}
use Rattle.std.specs.List.{insert, position_from}
use Rattle.std.specs.Ordering.{eq_by_cmp, is_eq, is_le, nat_cmp}
use Rattle.std.specs.declared.cmp.Ordering.{Ordering}
use Rattle.std.specs.declared.cmp.Ordering.TheVariants.{Less, Equal, Greater}
use Rattle.nfs_spec.specs.Model.Node.{DirentValue}
use Rattle.plain_tree.specs.Tree.Named.{are_sorted, plain_dirent_of, named_by, slot_and_number}
use Rattle.plain_tree.specs.declared.tree.plain_names.PlainDirent.{PlainDirent}

abbrev pub order : List ℕ → List ℕ → Ordering
order = slice_cmp nat_cmp

abbrev pub eq : List ℕ → List ℕ → Bool
eq q name = eq_by_cmp order q name

pub antisymmetric : finmap.IsAntisymmetric order
antisymmetric = finmap.slice_cmp-IsAntisymmetric finmap.nat_cmp-IsAntisymmetric

pub entries_named : (xs : List PlainDirent) → T (are_sorted xs) → finmap.entries (named_by xs) ≡ map plain_dirent_of xs
entries_named xs sorted = finmap.entries-from_sorted order (map plain_dirent_of xs) sorted

skipped : (b : Bool) (v : DirentValue) (o : Option DirentValue) → b ≡ false → cond b (Some v) o ≡ o
skipped true v o e = cc
skipped false v o e = refl

taken : (b : Bool) (v : DirentValue) (o : Option DirentValue) → b ≡ true → cond b (Some v) o ≡ Some v
taken true v o e = refl
taken false v o e = cc

find_at : (xs : List PlainDirent) (index : ℕ) (q : List ℕ) (e : PlainDirent) → index < length xs
    → eq q (get_or xs index e).name ≡ true
    → ((k : ℕ) → k < index → eq q (get_or xs k e).name ≡ false)
    → finmap.find order q (map plain_dirent_of xs) ≡ Some (slot_and_number (get_or xs index e))
find_at [] index q e inside here first = absurd (omega arith)
find_at (x ∷ xs) zero q e inside here first =
    taken (eq q x.name) (slot_and_number x) (finmap.find order q (map plain_dirent_of xs)) here
find_at (x ∷ xs) (suc index) q e inside here first =
    skipped (eq q x.name) (slot_and_number x) (finmap.find order q (map plain_dirent_of xs)) (first 0 (omega arith))
    ∙ find_at xs index q e (omega arith) here (λ k below. first (suc k) (omega arith))

neither : (b : Bool) (i : ℕ) (o : Option ℕ) → cond b (Some i) o ≡ None → (b ≡ false) × (o ≡ None)
neither true i o e = cc
neither false i o e = (refl, e)

find_none : (xs : List PlainDirent) (q : List ℕ) (i : ℕ) → position_from (λ e. eq q e.name) i xs ≡ None
    → finmap.find order q (map plain_dirent_of xs) ≡ None
find_none [] q i none = refl
find_none (x ∷ xs) q i none =
    let both = neither (eq q x.name) i (position_from (λ e. eq q e.name) (i + 1) xs) none in
    skipped (eq q x.name) (slot_and_number x) (finmap.find order q (map plain_dirent_of xs)) both.0
    ∙ find_none xs q (i + 1) both.1

-- a name that stands nowhere leads to nothing
pub absent : (xs : List PlainDirent) (q : List ℕ) → T (are_sorted xs) → position (λ e. eq q e.name) xs ≡ None
    → finmap.get (named_by xs) q ≡ None
absent xs q sorted none =
    finmap.get-from_sorted order (map plain_dirent_of xs) q sorted
    ∙ find_none xs q 0 (sym (position_from-zero (λ e. eq q e.name) xs) ∙ none)

-- the entry of a name is what it leads to
pub leads : (xs : List PlainDirent) (q : List ℕ) (index : ℕ) (e : PlainDirent) → T (are_sorted xs)
    → position (λ x. eq q x.name) xs ≡ Some index → e ≡ get_or xs index e
    → finmap.get (named_by xs) q ≡ Some (slot_and_number e)
leads xs q index e sorted is here =
    let at = position-Some (λ x. eq q x.name) xs index e is in
    finmap.get-from_sorted order (map plain_dirent_of xs) q sorted
    ∙ find_at xs index q e at.0 at.1 at.2
    ∙ ap (λ x. Some (slot_and_number x)) (sym here)

-- an entry in a list of entries, before the one at an index or in its place
abbrev pub placed : Bool → List PlainDirent → ℕ → PlainDirent → List PlainDirent
placed same xs index new = cond same (set xs index new) (insert xs index new)

put_first : (x new : PlainDirent) (xs : List PlainDirent) (r : Ordering) → order new.name x.name ≡ r
    → is_le r ≡ true
    → by_order r (plain_dirent_of new ∷ plain_dirent_of x ∷ map plain_dirent_of xs) ((x.name, slot_and_number new) ∷ map plain_dirent_of xs)
    (plain_dirent_of x ∷ put order new.name (slot_and_number new) (map plain_dirent_of xs))
    ≡ map plain_dirent_of (placed (is_eq r) (x ∷ xs) 0 new)
put_first x new xs Less is low = refl
put_first x new xs Equal is low =
    ap (λ name. (name, slot_and_number new) ∷ map plain_dirent_of xs) (sym (antisymmetric new.name x.name is))
put_first x new xs Greater is low = cc

put_later : (r : Ordering) (a b c d : List (List ℕ × DirentValue)) → is_le r ≡ false → c ≡ d
    → by_order r a b c ≡ d
put_later Less a b c d high e = cc
put_later Equal a b c d high e = cc
put_later Greater a b c d high e = e

placed_later : (same : Bool) (x new : PlainDirent) (xs : List PlainDirent) (index : ℕ)
    → plain_dirent_of x ∷ map plain_dirent_of (placed same xs index new) ≡ map plain_dirent_of (placed same (x ∷ xs) (suc index) new)
placed_later true x new xs index = refl
placed_later false x new xs index = refl

put_at : (xs : List PlainDirent) (index : ℕ) (new d : PlainDirent) → index < length xs
    → is_le (order new.name (get_or xs index d).name) ≡ true
    → ((k : ℕ) → k < index → is_le (order new.name (get_or xs k d).name) ≡ false)
    → put order new.name (slot_and_number new) (map plain_dirent_of xs)
    ≡ map plain_dirent_of (placed (eq new.name (get_or xs index d).name) xs index new)
put_at [] index new d inside low first = absurd (omega arith)
put_at (x ∷ xs) zero new d inside low first = put_first x new xs (order new.name x.name) refl low
put_at (x ∷ xs) (suc index) new d inside low first =
    put_later (order new.name x.name) _ _ _ _ (first 0 (omega arith))
    (ap (λ es. plain_dirent_of x ∷ es) (put_at xs index new d (omega arith) low
    (λ k below. first (suc k) (omega arith)))
    ∙ placed_later (eq new.name (get_or xs index d).name) x new xs index)

-- an entry goes before the first one whose name isn't below its own, or in its place where the names are one
pub put_placed : (xs : List PlainDirent) (index : ℕ) (new found : PlainDirent) (same : Bool)
    → position (λ e. is_le (order new.name e.name)) xs ≡ Some index → found ≡ get_or xs index found
    → same ≡ eq new.name found.name
    → map plain_dirent_of (placed same xs index new) ≡ put order new.name (slot_and_number new) (map plain_dirent_of xs)
put_placed xs index new found same is here same_is =
    let at = position-Some (λ e. is_le (order new.name e.name)) xs index found is in
    ap (λ b. map plain_dirent_of (placed b xs index new)) (same_is ∙ ap (λ e. eq new.name e.name) here)
    ∙ sym (put_at xs index new found at.0 at.1 at.2)

put_behind : (xs : List PlainDirent) (new : PlainDirent) (i : ℕ)
    → position_from (λ e. is_le (order new.name e.name)) i xs ≡ None
    → put order new.name (slot_and_number new) (map plain_dirent_of xs) ≡ map plain_dirent_of (xs ++ new ∷ [])
put_behind [] new i none = refl
put_behind (x ∷ xs) new i none =
    let both = neither (is_le (order new.name x.name)) i
    (position_from (λ e. is_le (order new.name e.name)) (i + 1) xs) none in
    put_later (order new.name x.name) _ _ _ _ both.0
    (ap (λ es. plain_dirent_of x ∷ es) (put_behind xs new (i + 1) both.1))

-- an entry goes behind all others where their names are below its own
pub put_last : (xs : List PlainDirent) (new : PlainDirent)
    → position (λ e. is_le (order new.name e.name)) xs ≡ None
    → map plain_dirent_of (xs ++ new ∷ []) ≡ put order new.name (slot_and_number new) (map plain_dirent_of xs)
put_last xs new none =
    sym (put_behind xs new 0 (sym (position_from-zero (λ e. is_le (order new.name e.name)) xs) ∙ none))

module _ (xs ys : List PlainDirent) (q : List ℕ) (v : DirentValue) (sorted : T (are_sorted xs))
    (is : map plain_dirent_of ys ≡ put order q v (map plain_dirent_of xs)) where
  pub sorted_put : T (are_sorted ys)
  sorted_put =
      subst (λ es. T (finmap.is_sorted order es)) (sym is)
      (is_sorted-put order nat_list_cmp_total q v (map plain_dirent_of xs) sorted)

  pub named_put : named_by ys ≡ finmap.insert (named_by xs) q v
  named_put =
      finmap.same_entries_map (named_by ys) (finmap.insert (named_by xs) q v)
      (entries_named ys sorted_put ∙ is ∙ ap (put order q v) (sym (entries_named xs sorted))
      ∙ sym (finmap.entries-insert nat_list_cmp_total (named_by xs) q v))

-- the entries of other names
abbrev pub others : List ℕ → List PlainDirent → List PlainDirent
others q xs = filter (λ e. not (eq q e.name)) xs

where_one : (b : Bool) (x : PlainDirent) (xs : List PlainDirent)
    → map plain_dirent_of (cond b (x ∷ xs) xs) ≡ cond b (plain_dirent_of x ∷ map plain_dirent_of xs) (map plain_dirent_of xs)
where_one true x xs = refl
where_one false x xs = refl

where_others : (q : List ℕ) (xs : List PlainDirent)
    → map plain_dirent_of (others q xs) ≡ where_key order (λ name. not (eq q name)) (map plain_dirent_of xs)
where_others q [] = refl
where_others q (x ∷ xs) =
    where_one (not (eq q x.name)) x (others q xs)
    ∙ ap (λ es. cond (not (eq q x.name)) (plain_dirent_of x ∷ es) es) (where_others q xs)

pub sorted_others : (q : List ℕ) (xs : List PlainDirent) → T (are_sorted xs) → T (are_sorted (others q xs))
sorted_others q xs sorted =
    subst (λ es. T (finmap.is_sorted order es)) (sym (where_others q xs))
    (is_sorted-where_key order (λ name. not (eq q name)) (map plain_dirent_of xs) sorted)

turned : (b : Bool) (o : Option DirentValue) → cond (not b) o None ≡ cond b None o
turned true o = refl
turned false o = refl

pub named_others : (q : List ℕ) (xs : List PlainDirent) → T (are_sorted xs)
    → named_by (others q xs) ≡ finmap.remove (named_by xs) q
named_others q xs sorted =
    finmap.same_map nat_list_cmp_total antisymmetric (named_by (others q xs)) (finmap.remove (named_by xs) q)
    (λ p. finmap.get-from_sorted order (map plain_dirent_of (others q xs)) p (sorted_others q xs sorted)
    ∙ ap (finmap.find order p) (where_others q xs)
    ∙ find-where_key order (λ name. not (eq q name)) p
    (λ x tied. ap (λ name. not (eq q name)) (sym (antisymmetric p x tied))) (map plain_dirent_of xs)
    ∙ turned (eq q p) (finmap.find order p (map plain_dirent_of xs))
    ∙ (λ i. cond ((eq_by_cmp_equiv nat_list_cmp_total).symm q p i) None
    (sym (finmap.get-from_sorted order (map plain_dirent_of xs) p sorted) i))
    ∙ sym (finmap.get-remove nat_list_cmp_total (named_by xs) q p))

pub no_names : named_by [] ≡ finmap.empty
no_names =
    finmap.same_map nat_list_cmp_total antisymmetric (named_by []) finmap.empty (λ q.
    finmap.get-from_sorted order [] q tt ∙ sym (finmap.get-empty order q))

-- Lists of files with one change, and the trees that they stand for.
use Rattle.std.proofs.Common.{rules, ◌≡◌, ℕ, sym, ap, ◌∙◌, refl, Bool, true, false, cond, not, List, []}
use Rattle.std.proofs.Common.{◌∷◌, ◌++◌, filter, map, nat_eq, Option, Some, None}
use Rattle.std.specs.Cmp.{nat_cmp_total, unsigned_tied}
use Rattle.std.specs.FinMap as finmap
use Rattle.std.specs.FinMap.Entries.{where_key, find-where_key}
use Rattle.std.specs.Ordering.{eq_by_cmp, nat_cmp}
use Rattle.nfs_spec.proofs.ModelLemmas.Sets.{itself}
use Rattle.nfs_spec.specs.Model.Node.{Node}
use Rattle.plain_tree.specs.Tree.Plain.{node_of, numbered}
use Rattle.plain_tree.specs.declared.tree.tree.NumberedNode.{NumberedNode}
use Rattle.plain_steps.specs.Numbered.{files_of}

abbrev eq : ℕ → ℕ → Bool
eq q k = eq_by_cmp nat_cmp q k

-- the files of other numbers
abbrev pub others : ℕ → List NumberedNode → List NumberedNode
others q xs = filter (λ file. not (nat_eq q file.number)) xs

where_one : (b : Bool) (x : NumberedNode) (xs : List NumberedNode)
    → map numbered (cond b (x ∷ xs) xs) ≡ cond b (numbered x ∷ map numbered xs) (map numbered xs)
where_one true x xs = refl
where_one false x xs = refl

where_others : (q : ℕ) (xs : List NumberedNode)
    → map numbered (others q xs) ≡ where_key nat_cmp (λ k. not (nat_eq q k)) (map numbered xs)
where_others q [] = refl
where_others q (x ∷ xs) =
    where_one (not (nat_eq q x.number)) x (others q xs)
    ∙ ap (λ es. cond (not (nat_eq q x.number)) (numbered x ∷ es) es) (where_others q xs)

turned : (b : Bool) (o : Option Node) → cond (not b) o None ≡ cond b None o
turned true o = refl
turned false o = refl

symmetric : (a b : ℕ) → nat_eq a b ≡ nat_eq b a
symmetric a b = search rules

pub files_without : (q : ℕ) (xs : List NumberedNode) → files_of (others q xs) ≡ finmap.remove (files_of xs) q
files_without q xs =
    finmap.same_map nat_cmp_total finmap.nat_cmp-IsAntisymmetric _ _ (λ p.
    finmap.get-from_entries nat_cmp_total (map numbered (others q xs)) p
    ∙ ap (finmap.find nat_cmp p) (where_others q xs)
    ∙ find-where_key nat_cmp (λ k. not (nat_eq q k)) p
    (λ x tied. ap (λ k. not (nat_eq q k)) (sym (finmap.nat_cmp-IsAntisymmetric p x tied))) (map numbered xs)
    ∙ turned (nat_eq q p) (finmap.find nat_cmp p (map numbered xs))
    ∙ (λ i. cond ((symmetric q p ∙ sym (unsigned_tied p q)) i) None
    (sym (finmap.get-from_entries nat_cmp_total (map numbered xs) p) i))
    ∙ sym (finmap.get-remove nat_cmp_total (files_of xs) q p))

map_pushed : (xs : List NumberedNode) (x : NumberedNode)
    → map numbered (xs ++ x ∷ []) ≡ map numbered xs ++ numbered x ∷ []
map_pushed [] x = refl
map_pushed (y ∷ xs) x = ap (λ es. numbered y ∷ es) (map_pushed xs x)

over : (b : Bool) (v : Node) (o : Option Node) → cond b (Some v) (cond b None o) ≡ cond b (Some v) o
over true v o = refl
over false v o = refl

insert_removed : (m : finmap.FinMap nat_cmp Node) (q : ℕ) (v : Node)
    → finmap.insert (finmap.remove m q) q v ≡ finmap.insert m q v
insert_removed m q v =
    finmap.same_map nat_cmp_total finmap.nat_cmp-IsAntisymmetric _ _ (λ p.
    finmap.get-insert nat_cmp_total (finmap.remove m q) q v p
    ∙ ap (cond (eq p q) (Some v)) (finmap.get-remove nat_cmp_total m q p)
    ∙ over (eq p q) v (finmap.get m p)
    ∙ sym (finmap.get-insert nat_cmp_total m q v p))

gone : (b : Bool) (o : Option Node) → b ≡ true → cond b None o ≡ None
gone true o e = refl
gone false o e = cc

-- a file behind files of which none has its number any more
pub files_with : (m : finmap.FinMap nat_cmp Node) (xs : List NumberedNode) (x : NumberedNode)
    → files_of xs ≡ finmap.remove m x.number
    → files_of (xs ++ x ∷ []) ≡ finmap.insert m x.number (node_of x.node)
files_with m xs x is =
    let none : finmap.find nat_cmp x.number (map numbered xs) ≡ None =
    sym (finmap.get-from_entries nat_cmp_total (map numbered xs) x.number)
    ∙ ap (λ f. finmap.get f x.number) is ∙ finmap.get-remove nat_cmp_total m x.number x.number
    ∙ gone (eq x.number x.number) (finmap.get m x.number) (itself x.number) in
    ap finmap.from_entries (map_pushed xs x)
    ∙ finmap.from_entries_push nat_cmp_total finmap.nat_cmp-IsAntisymmetric (map numbered xs) x.number
    (node_of x.node) none
    ∙ ap (λ f. finmap.insert f x.number (node_of x.node)) is
    ∙ insert_removed m x.number (node_of x.node)

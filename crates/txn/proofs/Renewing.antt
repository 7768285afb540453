-- Lemmas: the blocks in memory with the contents of a group.
use Rattle.std.proofs.Common.{◌≡◌, ◌∙◌, ◌++◌, ◌∷◌, [], Bool, true, false, if◌then◌else◌, List, map}
use Rattle.std.proofs.Common.{Option, Some, None, nat_eq, ℕ, refl, ap, sym, All, arith}
use Rattle.std.proofs.lemmas.Bool.Decides.{nat_tests}
use Rattle.std.proofs.lemmas.List.Elements.{All-head, All-tail}
use Rattle.disk.specs.Device.{Content}
use Rattle.disk.specs.declared.block.BlockNo.{BlockNo}
use Rattle.objects.specs.Present.{renewed, renewed_content, renewed_resident}
use Rattle.objects.specs.declared.present.Present.{Present}
use Rattle.circ.specs.Log.Effects.{newest_in}
use Rattle.circ.specs.Log.Log.{or_else}
use Rattle.txn_law.specs.Commit.{refreshed_content}
use Rattle.txn.specs.Refreshed.{renewed_each}

pub map_equal : {X Y : Type 0} (f g : X → Y) (xs : List X) → All (λ x. f x ≡ g x) xs → map f xs ≡ map g xs
map_equal f g [] h = refl
map_equal f g (x ∷ xs) h =
    ap (λ y. y ∷ map f xs) (All-head (λ x. f x ≡ g x) x xs h)
    ∙ ap (λ ys. g x ∷ ys) (map_equal f g xs (All-tail (λ x. f x ≡ g x) x xs h))

map_map : {X Y Z : Type 0} (f : Y → Z) (g : X → Y) (xs : List X) → map f (map g xs) ≡ map (λ x. f (g x)) xs
map_map f g [] = refl
map_map f g (x ∷ xs) = ap (λ ys. f (g x) ∷ ys) (map_map f g xs)

map_self : {X : Type 0} (xs : List X) → map (λ x. x) xs ≡ xs
map_self [] = refl
map_self (x ∷ xs) = ap (λ ys. x ∷ ys) (map_self xs)

turned : (a b : ℕ) → nat_eq a b ≡ nat_eq b a
turned a b = grind (arith, nat_tests)

-- one block more
pub one_more : (present : List Present) (group : List (BlockNo × Content)) (block : BlockNo) (content : Content)
    → renewed_each present (group ++ (block, content) ∷ []) ≡ renewed (renewed_each present group) block content
one_more present [] block content = refl
one_more present (change ∷ later) block content = one_more (renewed present change.0 change.1) later block content

-- one of them with the contents of a group
renewed_by : List (BlockNo × Content) → Present → Present
renewed_by [] resident = resident
renewed_by (change ∷ later) resident = renewed_by later (renewed_resident change.0 change.1 resident)

each_by : (group : List (BlockNo × Content)) (present : List Present)
    → renewed_each present group ≡ map (renewed_by group) present
unfolding renewed_by
each_by [] present = sym (map_self present)
each_by (change ∷ later) present =
    each_by later (renewed present change.0 change.1)
    ∙ map_map (renewed_by later) (renewed_resident change.0 change.1) present

-- a resident with what it has of the newest content in the group
abbrev pub with_newest : List (BlockNo × Content) → Present → Present
with_newest group resident = record {
  block = resident.block;
  content = refreshed_content resident.content (newest_in group resident.block.0);
}

pub refreshed_none : (there : Option Content) → there ≡ refreshed_content there None
refreshed_none None = refl
refreshed_none (Some content) = refl

-- a content, and then a newer one where there is one
then_newer : (t : Bool) (there newer : Option Content) (content : Content)
    → refreshed_content (if t then renewed_content there content else there) newer
    ≡ refreshed_content there (or_else newer (if t then Some content else None))
then_newer true None newer content = refl
then_newer true (Some old) None content = refl
then_newer true (Some old) (Some new) content = refl
then_newer false None newer content = refl
then_newer false (Some old) None content = refl
then_newer false (Some old) (Some new) content = refl

by_newest : (group : List (BlockNo × Content)) (resident : Present)
    → renewed_by group resident ≡ with_newest group resident
unfolding renewed_by
by_newest [] resident =
    ap (λ (content : Option Content). record { block = resident.block; content = content })
    (refreshed_none resident.content)
by_newest (change ∷ later) resident =
    by_newest later (renewed_resident change.0 change.1 resident)
    ∙ ap (λ (content : Option Content). record { block = resident.block; content = content })
    (then_newer (nat_eq resident.block.0 change.0.0) resident.content (newest_in later resident.block.0) change.1
    ∙ ap (λ (t : Bool). refreshed_content resident.content
    (or_else (newest_in later resident.block.0) (if t then Some change.1 else None)))
    (turned resident.block.0 change.0.0))

-- each of them with what it has of the newest content in the group
pub each_newest : (group : List (BlockNo × Content)) (present : List Present)
    → renewed_each present group ≡ map (with_newest group) present
each_newest group present = each_by group present ∙ ap (λ f. map f present) (λ i resident. by_newest group resident i)

-- What was claimed stays so, and is few blocks.
use Rattle.std.proofs.Common.{◌≡◌, ℕ, zero, suc, ◌<◌, ◌≤◌, sym, ap, ◌∙◌, refl, List, [], ◌∷◌, ◌++◌, arith, All}
use Rattle.std.proofs.Common.{true, false, ◌||◌, nat_eq, Some, inl, inr, length, map, slice_get, take}
use Rattle.std.proofs.Common.{subst}
use Rattle.std.specs.List.{AllByRecursion, IsDistinct, list_any}
use Rattle.std.proofs.lemmas.Bool.Decides.{eqb_tells, nat_tests}
use Rattle.std.proofs.lemmas.List.Elements.{All-head, All-nil, All-push, All-tail}
use Rattle.std.proofs.lemmas.Map.Keys.{IsDistinct-cons, IsDistinct-from_apart}
use Rattle.std.proofs.lemmas.Map.Steps.{length-le_from_distinct_below}
use Rattle.disk.specs.declared.block.BlockNo.{BlockNo}
use Rattle.objects.specs.declared.addr.Addr.{Addr}
use Rattle.layout.specs.declared.geometry.Geometry.{Geometry}
use Rattle.layout.specs.Objects.{whole}
use Rattle.layout.specs.Places.{is_data}
use Rattle.layout.proofs.OnGrid.{data_within}
use Rattle.txn.specs.LockAnswers.{IsWhole}
use Rattle.inode.specs.Snap.{is_claimed}
use Rattle.procs.specs.Asks.{Asks, Claims, WereClaimedOnce}
use Rattle.procs.specs.MostAsked.{most_claimed}
use Rattle.procs.proofs.FewAsked.{neither, one_more}

-- ---- one more that is claimed

pub none_claimed : (g : Geometry) → WereClaimedOnce g []
none_claimed g = record { asked = All-nil (Claims g); once = λ index block is. cc }

pub one_claimed_once : (g : Geometry) (claims : List BlockNo) (block : BlockNo) → WereClaimedOnce g claims
    → Claims g block → is_claimed block claims ≡ false → WereClaimedOnce g (claims ++ block ∷ [])
one_claimed_once g claims block were asks new = record {
  asked = All-push (Claims g) claims block were.asked asks;
  once = one_more (λ before one. is_claimed one before ≡ false) claims block were.once new;
}

-- a block that may be claimed is an object as a whole
pub claimed_object : (g : Geometry) (block : BlockNo) (addr : Addr) → Claims g block → IsWhole block addr
    → Asks g addr
claimed_object g block addr claims is =
    whole (ap (λ (b : BlockNo). is_data g b.0) is.0 ∙ claims) is.1 is.2

-- ---- few are claimed

turned : (a b : ℕ) → nat_eq a b ≡ false → nat_eq b a ≡ false
turned a b differ = grind (arith, nat_tests)

abbrev numbers_of : List BlockNo → List ℕ
numbers_of claims = map (λ (block : BlockNo). block.0) claims

others : (first : BlockNo) (claims : List BlockNo)
    → ((index : ℕ) (block : BlockNo) → slice_get claims index ≡ Some block → nat_eq block.0 first.0 ≡ false)
    → AllByRecursion (λ y. nat_eq first.0 y ≡ false) (numbers_of claims)
others first [] new = tt
others first (block ∷ claims) new =
    (turned block.0 first.0 (new zero block refl), others first claims (λ index. new (suc index)))

distinct : (claims : List BlockNo) → ((index : ℕ) (block : BlockNo) → slice_get claims index ≡ Some block
    → is_claimed block (take index claims) ≡ false) → IsDistinct nat_eq (numbers_of claims)
distinct [] once = IsDistinct-from_apart nat_eq [] (λ i j d less low. absurd (omega (arith, low)))
distinct (first ∷ claims) once =
    let apart : (index : ℕ) (block : BlockNo) → slice_get claims index ≡ Some block
    → (nat_eq block.0 first.0 ≡ false) × (is_claimed block (take index claims) ≡ false) =
    λ index block is. neither (nat_eq block.0 first.0) (is_claimed block (take index claims))
    (once (suc index) block is) in
    IsDistinct-cons nat_eq first.0 (numbers_of claims)
    (others first claims (λ index block is. (apart index block is).0))
    (distinct claims (λ index block is. (apart index block is).1))

count : (claims : List BlockNo) → length (numbers_of claims) ≡ length claims
count [] = refl
count (block ∷ claims) = ap suc (count claims)

module _ (g : Geometry) where
  all_below : (claims : List BlockNo) → All (Claims g) claims → (q : ℕ)
      → list_any (nat_eq q) (numbers_of claims) ≡ true → q < g.blocks
  all_below [] were q there = cc
  all_below (block ∷ claims) were q there = elim (eqb_tells q block.0) [
    | inl is ↦ (let low = (data_within g block.0 (All-head (Claims g) block claims were)).1 in
        let same = is.1 in omega (arith, low, same))
    | inr not ↦ all_below claims (All-tail (Claims g) block claims were) q
        (ap (λ b. b || list_any (nat_eq q) (numbers_of claims)) (sym not.0) ∙ there)
  ]

  pub few_claimed : (claims : List BlockNo) → WereClaimedOnce g claims → length claims ≤ most_claimed g.blocks
  few_claimed claims were =
      subst (λ n. n ≤ g.blocks) (count claims)
      (length-le_from_distinct_below (numbers_of claims) g.blocks (distinct claims were.once)
      (all_below claims were.asked))

-- What lies among objects after one was laid in its place.
use Rattle.std.proofs.Common.{◌≡◌, ◌⊎◌, inl, inr, sym, ◌∙◌, refl, Bool, true, false, cond, not}
use Rattle.std.proofs.Common.{◌||◌, ◌&&◌, List, [], ◌∷◌, ◌++◌, filter, nat_eq, Contains}
use Rattle.std.proofs.lemmas.Bool.{eqb-true}
use Rattle.std.proofs.lemmas.List.Elements.{All-contains, All-contains_itself, All-filter}
use Rattle.std.proofs.lemmas.List.Elements.{Contains-push_cases}
use Rattle.std.proofs.lemmas.List.Elements.{filter_passes}
use Rattle.objects.specs.declared.addr.Addr.{Addr}
use Rattle.objects.specs.Object.{ObjectBytes}
use Rattle.inode.specs.Snap.{is_seen, same_addr}
use Rattle.inode.proofs.AllTests.{all_three}
use Rattle.inode.specs.WriteSets.Upserted.{upserted}

abbrev other_than : ObjectBytes → ObjectBytes → Bool
other_than object other = not (same_addr other.addr object.addr)

-- the object itself, or one that was there and has another address
pub upserted_cases : (objects : List ObjectBytes) (object one : ObjectBytes) → Contains (upserted objects object) one
    → (one ≡ object) ⊎ (Contains objects one × (same_addr one.addr object.addr ≡ false))
upserted_cases objects object one has =
    elim (Contains-push_cases (filter (other_than object) objects) object one has) [
      | inl kept ↦ inr (
        All-contains (Contains objects) (filter (other_than object) objects) one
            (All-filter (other_than object) (Contains objects) objects (All-contains_itself objects)) kept,
        passes (same_addr one.addr object.addr)
            (All-contains (λ other. other_than object other ≡ true) (filter (other_than object) objects) one
            (filter_passes (other_than object) objects) kept),
      )
      | inr is ↦ inl (sym is)
    ]
  where
    passes : (b : Bool) → not b ≡ true → b ≡ false
    passes true e = cc
    passes false e = refl

-- ---- what was seen is seen still

same_all : (a b c : Addr) → same_addr a b ≡ true → same_addr b c ≡ true → same_addr a c ≡ true
same_all a b c one two =
    let ab = all_three (nat_eq a.block.0 b.block.0) (nat_eq a.offset b.offset) (nat_eq a.len b.len) one in
    let bc = all_three (nat_eq b.block.0 c.block.0) (nat_eq b.offset c.offset) (nat_eq b.len c.len) two in
    let block = eqb-true a.block.0 b.block.0 ab.0 in
    let offset = eqb-true a.offset b.offset ab.1 in
    let len = eqb-true a.len b.len ab.2 in
    (λ i. nat_eq (block i) c.block.0 && nat_eq (offset i) c.offset && nat_eq (len i) c.len) ∙ two

or_false : (a b : Bool) → (a || b) ≡ false → (a ≡ false) × (b ≡ false)
or_false true b e = cc
or_false false b e = (refl, e)

either_false : (a b : Bool) → a ≡ false → b ≡ false → (a || b) ≡ false
either_false a b one two = (λ i. one i || two i)

pub seen_upserted : (addr : Addr) (objects : List ObjectBytes) (object : ObjectBytes)
    → is_seen addr (upserted objects object) ≡ false → is_seen addr objects ≡ false
seen_upserted addr [] object none = refl
seen_upserted addr (first ∷ objects) object none =
    by_test (seen_upserted addr objects object) (same_addr first.addr object.addr) refl none
  where
    last_none : (others : List ObjectBytes) → is_seen addr (others ++ object ∷ []) ≡ false
        → same_addr addr object.addr ≡ false
    last_none [] e = (or_false (same_addr addr object.addr) false e).0
    last_none (o ∷ others) e =
        last_none others (or_false (same_addr addr o.addr) (is_seen addr (others ++ object ∷ [])) e).1

    not_first : same_addr first.addr object.addr ≡ true → same_addr addr object.addr ≡ false → (t : Bool)
        → same_addr addr first.addr ≡ t → t ≡ false
    not_first same last true is =
        let clash : true ≡ false = sym (same_all addr first.addr object.addr is same) ∙ last in cc
    not_first same last false is = refl

    by_test : (is_seen addr (upserted objects object) ≡ false → is_seen addr objects ≡ false)
        → (b : Bool) → same_addr first.addr object.addr ≡ b
        → is_seen addr (cond (not b) (first ∷ filter (other_than object) objects)
        (filter (other_than object) objects) ++ object ∷ []) ≡ false
        → (same_addr addr first.addr || is_seen addr objects) ≡ false
    by_test rest true same e =
        either_false (same_addr addr first.addr) (is_seen addr objects)
        (not_first same (last_none (filter (other_than object) objects) e) (same_addr addr first.addr) refl)
        (rest e)
    by_test rest false same e =
        let both = or_false (same_addr addr first.addr) (is_seen addr (upserted objects object)) e in
        either_false (same_addr addr first.addr) (is_seen addr objects) both.0 (rest both.1)

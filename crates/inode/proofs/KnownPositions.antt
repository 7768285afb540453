-- Lemmas: what is under a key once a position was noted, and which object stands there.
use Rattle.std.proofs.Common.{◌≡◌, ◌∙◌, ◌+◌, ◌*◌, ◌/◌, ◌%◌, ◌<◌, ◌⊎◌, inl, inr, refl, sym, ap, subst, ℕ, Bool, true, false}
use Rattle.std.proofs.Common.{◌||◌, List, [], ◌∷◌, ◌++◌, length, get_or, set, take, nat_eq, arith, None, map, Result, Ok, Err, OnOk}
use Rattle.std.specs.List.{list_any}
use Rattle.std.proofs.lemmas.Nat.{mod_below}
use Rattle.std.proofs.lemmas.Bool.{cases_eq, eq-eqb, eqb-true}
use Rattle.std.proofs.lemmas.List.{get_or-map, length-map, map-set, get_or_push, get_or-set_other, get_or-set_same, get_or-take, length-set, length-take-le, length_push, get_or_default}
use Rattle.std.proofs.lemmas.List.Folds.{Any-from_list_any, list_any-append, list_any_at, list_any_more}
use Rattle.base.specs.declared.TheConstants.{INODE_BYTES}
use Rattle.objects.specs.declared.addr.Addr.{Addr}
use Rattle.objects.specs.Object.{ObjectBytes}
use Rattle.inode.specs.Indexed.{AreKnown, IsIndexed, under, is_under, key_of}
use Rattle.inode.specs.Snap.{is_seen, same_addr}
use Rattle.inode.proofs.AllTests.{all_three}

-- ---- a position is noted

-- the positions with one more under a key
abbrev pub tracked : ℕ → ℕ → List (List ℕ) → List (List ℕ)
tracked position key positions = set positions (key % length positions) (under key positions ++ position ∷ [])

in_last : (position : ℕ) (xs : List ℕ) → list_any (nat_eq position) (xs ++ position ∷ []) ≡ true
in_last position xs =
    list_any_at (nat_eq position) (xs ++ position ∷ []) (length xs) position (omega (arith, length_push xs position))
    (ap (λ (v : ℕ). nat_eq position v) (get_or_push xs position position (length xs) refl) ∙ eq-eqb position position refl)

kept : (p : ℕ → Bool) (xs : List ℕ) (y : ℕ) → list_any p xs ≡ true → list_any p (xs ++ y ∷ []) ≡ true
kept p xs y is = list_any-append p xs (y ∷ []) ∙ ap (λ (b : Bool). b || list_any p (y ∷ [])) is

-- there are as many buckets as before
same_bucket : (position key other : ℕ) (positions : List (List ℕ))
    → under other (tracked position key positions) ≡ get_or (tracked position key positions) (other % length positions) []
same_bucket position key other positions =
    ap (λ (n : ℕ). get_or (tracked position key positions) (other % n) [])
    (length-set positions (key % length positions) (under key positions ++ position ∷ []))

pub there : (position key : ℕ) (positions : List (List ℕ)) → key % length positions < length positions
    → is_under position key (tracked position key positions) ≡ true
there position key positions less =
    ap (λ (xs : List ℕ). list_any (nat_eq position) xs)
    (same_bucket position key key positions
    ∙ get_or-set_same positions (key % length positions) (under key positions ++ position ∷ []) [] less)
    ∙ in_last position (under key positions)

pub stays : (position key other at : ℕ) (positions : List (List ℕ)) → key % length positions < length positions
    → is_under at other positions ≡ true → is_under at other (tracked position key positions) ≡ true
stays position key other at positions less is = by (cases_eq (other % length positions) (key % length positions))
  where
    by : (other % length positions ≡ key % length positions) ⊎ (other % length positions ≡ key % length positions → ⊥)
        → is_under at other (tracked position key positions) ≡ true
    by (inl same) =
        ap (λ (xs : List ℕ). list_any (nat_eq at) xs)
        (same_bucket position key other positions ∙ ap (λ (n : ℕ). get_or (tracked position key positions) n []) same
        ∙ get_or-set_same positions (key % length positions) (under key positions ++ position ∷ []) [] less)
        ∙ kept (nat_eq at) (under key positions) position
        (subst (λ (n : ℕ). list_any (nat_eq at) (get_or positions n []) ≡ true) same is)
    by (inr differs) =
        ap (λ (xs : List ℕ). list_any (nat_eq at) xs)
        (same_bucket position key other positions ∙ get_or-set_other positions (key % length positions) (other % length positions) (under key positions ++ position ∷ []) [] differs)
        ∙ is

-- the bucket of a key is one of those that there are
pub low_bucket : {X : Type 0} (key count : ℕ) (bs : List X) (f : X → List ℕ) (positions : List (List ℕ)) → map f bs ≡ positions
    → count ≡ length bs → 0 < count → (key % count < length bs) × (key % length positions < length positions)
low_bucket key count bs f positions view is some = record {
  0 = subst (λ (n : ℕ). key % count < n) is (mod_below key count some);
  1 = subst (λ (n : ℕ). key % n < n) (is ∙ sym (length-map bs f) ∙ ap (λ (ps : List (List ℕ)). length ps) view)
      (mod_below key count some);
}

pub now_tracked : {X : Type 0} (f : X → List ℕ) (bs : List X) (positions : List (List ℕ)) (key count position : ℕ) (had now : X)
    → map f bs ≡ positions → count ≡ length bs → key % count < length bs → had ≡ get_or bs (key % count) had
    → f now ≡ f had ++ position ∷ [] → map f (set bs (key % count) now) ≡ tracked position key positions
now_tracked f bs positions key count position had now view of less was is =
    map-set f bs (key % count) now
    ∙ ap (λ (xs : List ℕ). set (map f bs) (key % count) xs)
    (is ∙ ap (λ (xs : List ℕ). xs ++ position ∷ []) (ap f was ∙ sym (get_or-map f bs (key % count) had [] less)))
    ∙ ap (λ (n : ℕ). set (map f bs) (key % n) (get_or (map f bs) (key % n) [] ++ position ∷ [])) (of ∙ sym (length-map bs f))
    ∙ ap (λ (ps : List (List ℕ)). tracked position key ps) view

pub ok_then : {A E P Q : Type 0} (r : Result A E) → (P → Q) → OnOk r P → OnOk r Q
ok_then (Ok a) f h = f h
ok_then (Err e) f h = tt

pub ok_both : {A E P Q S : Type 0} (r : Result A E) → (P → Q → S) → OnOk r P → OnOk r Q → OnOk r S
ok_both (Ok a) f h k = f h k
ok_both (Err e) f h k = tt

-- ---- the objects of a list

-- no index says nothing
pub none_indexed : (objects : List ObjectBytes) → IsIndexed None objects
none_indexed objects = record { all = λ positions is. cc }

-- the next object's position is known too
pub one_more : (before after : List (List ℕ)) (objects : List ObjectBytes) (at : ℕ) (d : ObjectBytes)
    → at < length objects → AreKnown before (take at objects)
    → ((other position : ℕ) → is_under position other before ≡ true → is_under position other after ≡ true)
    → is_under at (key_of (get_or objects at d).addr) after ≡ true → AreKnown after (take (at + 1) objects)
one_more before after objects at d less known stay is = λ position e low.
    by position e (omega (arith, low, length-take-le (at + 1) objects (omega (arith, less)))) (cases_eq position at)
  where
    same_item : (position : ℕ) (e : ObjectBytes) → position < at + 1
        → get_or (take (at + 1) objects) position e ≡ get_or objects position e
    same_item position e low = get_or-take (at + 1) objects position e low

    lower : (position : ℕ) → position < at + 1 → (position ≡ at → ⊥) → position < at
    lower position low differs = omega (arith, low, differs)

    by : (position : ℕ) (e : ObjectBytes) → position < at + 1 → (position ≡ at) ⊎ (position ≡ at → ⊥)
        → is_under position (key_of (get_or (take (at + 1) objects) position e).addr) after ≡ true
    by position e low (inl same) =
        ap (λ (o : ObjectBytes). is_under position (key_of o.addr) after) (same_item position e low)
        ∙ subst (λ (n : ℕ). is_under n (key_of (get_or objects n e).addr) after ≡ true) (sym same)
        (ap (λ (o : ObjectBytes). is_under at (key_of o.addr) after) (get_or_default objects at e d less) ∙ is)
    by position e low (inr differs) =
        let less_at : position < at = lower position low differs in
        ap (λ (o : ObjectBytes). is_under position (key_of o.addr) after)
        (same_item position e low ∙ sym (get_or-take at objects position e less_at))
        ∙ stay (key_of (get_or (take at objects) position e).addr) position
        (known position e (omega (arith, less_at, length-take-le at objects (omega (arith, less)))))

-- ---- an object that is looked for

-- one more position was looked at
pub grown : (Q : ℕ → Type 0) (xs : List ℕ) (i d : ℕ) → i < length xs
    → ((at : ℕ) → list_any (nat_eq at) (take i xs) ≡ true → Q at) → Q (get_or xs i d)
    → (at : ℕ) → list_any (nat_eq at) (take (i + 1) xs) ≡ true → Q at
grown Q xs i d less had one at is =
    by (list_any (nat_eq at) (take i xs)) refl (sym (list_any_more (nat_eq at) xs i d less) ∙ is)
  where
    by : (b : Bool) → list_any (nat_eq at) (take i xs) ≡ b
        → (list_any (nat_eq at) (take i xs) || nat_eq at (get_or xs i d)) ≡ true → Q at
    by true seen or = had at seen
    by false seen or =
        subst Q (sym (eqb-true at (get_or xs i d)
        (ap (λ (b : Bool). b || nat_eq at (get_or xs i d)) (sym seen) ∙ or))) one

same_key : (a b : Addr) → same_addr a b ≡ true → key_of a ≡ key_of b
same_key a b same =
    let all = all_three (nat_eq a.block.0 b.block.0) (nat_eq a.offset b.offset) (nat_eq a.len b.len) same in
    let block = eqb-true a.block.0 b.block.0 all.0 in
    let offset = eqb-true a.offset b.offset all.1 in
    λ i. block i * 33 + offset i / INODE_BYTES

-- where no position under its key has an object of the address, none was read
pub not_there : (positions : List (List ℕ)) (objects : List ObjectBytes) (addr : Addr) → AreKnown positions objects
    → ((at : ℕ) → is_under at (key_of addr) positions ≡ true → at < length objects
    → (d : ObjectBytes) → same_addr addr (get_or objects at d).addr ≡ false)
    → is_seen addr objects ≡ false
not_there positions objects addr known none = by (is_seen addr objects) refl
  where
    by : (b : Bool) → is_seen addr objects ≡ b → is_seen addr objects ≡ false
    by false is = is
    by true is =
        let found = Any-from_list_any (λ (object : ObjectBytes). same_addr addr object.addr) objects is in
        let at : ℕ = found.0 in
        let object : ObjectBytes = found.1 in
        let same : same_addr addr object.addr ≡ true = found.4 in
        let key : key_of (get_or objects at object).addr ≡ key_of addr =
        ap (λ (o : ObjectBytes). key_of o.addr) found.3 ∙ sym (same_key addr object.addr same) in
        let misses : same_addr addr object.addr ≡ false =
        ap (λ (o : ObjectBytes). same_addr addr o.addr) (sym found.3)
        ∙ none at (subst (λ (n : ℕ). is_under at n positions ≡ true) key (known at object found.2)) found.2 object in
        cc

-- What was asked for stays so, and is little.
use Rattle.std.proofs.Common.{◌≡◌, ℕ, zero, suc, ◌*◌, ◌<◌, ◌≤◌, sym, ap, ◌∙◌, refl, List, [], ◌∷◌, ◌++◌, arith, All}
use Rattle.std.proofs.Common.{Bool, true, false, ◌&&◌, ◌||◌, nat_eq, Option, Some, Result, Ok, inl, inr}
use Rattle.std.proofs.Common.{◌+◌, if◌then◌else◌, length, map, slice_get, take, subst}
use Rattle.std.proofs.lemmas.List.Folds.{list_any-append}
use Rattle.std.specs.List.{AllByRecursion, IsDistinct, list_any}
use Rattle.std.proofs.lemmas.Bool.Decides.{eqb_tells, nat_tests}
use Rattle.std.proofs.lemmas.List.Elements.{All-head, All-nil, All-push, All-tail}
use Rattle.std.proofs.lemmas.Map.Keys.{IsDistinct-cons, IsDistinct-from_apart}
use Rattle.std.proofs.lemmas.Map.Steps.{length-le_from_distinct_below}
use Rattle.objects.specs.declared.addr.Addr.{Addr}
use Rattle.objects.specs.declared.mode.Mode.{Mode}
use Rattle.objects.specs.declared.mode.Mode.TheVariants as modes
use Rattle.layout.specs.declared.fault.LayoutFault.{LayoutFault}
use Rattle.layout.specs.declared.geometry.Geometry.{Geometry}
use Rattle.layout.specs.declared.inode.Inode.{Inode}
use Rattle.layout.proofs.OnGrid.{key_below, key_of, one_key}
use Rattle.txn.specs.Object.{ObjectBytes}
use Rattle.inode.specs.Snap.{is_among, is_had, is_seen, same_addr, with_mode, with_read}
use Rattle.inode.proofs.HadExclusive.{itself, one_addr}
use Rattle.procs.specs.Asks.{Asks, WereAskedOnce}
use Rattle.procs.specs.MostAsked.{most_asked, times_asked}

pub some_same : (a b : Inode) → ◌≡◌ {A = Result (Option Inode) LayoutFault} (Ok (Some a)) (Ok (Some b)) → a ≡ b
some_same a b same = cc

-- ---- one more that is read

-- what each object is, by those before it, it is in a longer list, if the last one is so
pub one_more : {X : Type 0} (P : List X → X → Type 0) (objects : List X) (last : X)
    → ((index : ℕ) (object : X) → slice_get objects index ≡ Some object
    → P (take index objects) object)
    → P objects last
    → (index : ℕ) (object : X) → slice_get (objects ++ last ∷ []) index ≡ Some object
    → P (take index (objects ++ last ∷ [])) object
one_more P [] last all holds zero object is =
    let same : last ≡ object = cc in subst (P []) same holds
one_more P [] last all holds (suc index) object is = cc
one_more P (first ∷ objects) last all holds zero object is = all zero object is
one_more P (first ∷ objects) last all holds (suc index) object is =
    one_more (λ before. P (first ∷ before)) objects last (λ k. all (suc k)) holds index object is

abbrev IsAskedAt : Geometry → ObjectBytes → Type 0
IsAskedAt g object = Asks g object.addr

pub none_read : (g : Geometry) → WereAskedOnce g []
none_read g = record { asked = All-nil (IsAskedAt g); once = λ index object is. cc }

pub one_asked_once : (g : Geometry) (objects : List ObjectBytes) (object : ObjectBytes)
    → WereAskedOnce g objects → Asks g object.addr → is_seen object.addr objects ≡ false
    → WereAskedOnce g (objects ++ object ∷ [])
one_asked_once g objects object were asks new = record {
  asked = All-push (IsAskedAt g) objects object were.asked asks;
  once = one_more (λ before one. is_seen one.addr before ≡ false) objects object were.once new;
}

-- so it is of one that is read, whether it was read before or not
pub read_once : (g : Geometry) (objects : List ObjectBytes) (addr : Addr) (bytes : List ℕ) → WereAskedOnce g objects
    → Asks g addr → WereAskedOnce g (with_read addr bytes objects)
read_once g objects addr bytes were asks = by (is_seen addr objects) refl
  where
    one : ObjectBytes
    one = record { addr = addr; bytes = bytes }

    by : (seen : Bool) → is_seen addr objects ≡ seen
        → WereAskedOnce g (if seen then objects else objects ++ one ∷ [])
    by true is = were
    by false is = one_asked_once g objects one were asks is

-- ---- few are asked for

pub neither : (a b : Bool) → (a || b) ≡ false → (a ≡ false) × (b ≡ false)
neither false false none = (refl, refl)
neither true b none = cc
neither false true none = cc

equal : (a b : ℕ) → a ≡ b → nat_eq a b ≡ true
equal a b same = grind (arith, nat_tests)

is_same : (a b : Addr) → a ≡ b → same_addr a b ≡ true
is_same a b same = ap (λ (c : Addr). same_addr a c) (sym same) ∙ itself
  where
    itself : same_addr a a ≡ true
    itself = λ i. equal a.block.0 a.block.0 refl i && equal a.offset a.offset refl i && equal a.len a.len refl i

abbrev keys_of : List ObjectBytes → List ℕ
keys_of objects = map (λ (object : ObjectBytes). key_of object.addr) objects

module _ (g : Geometry) where
  -- two addresses begin in pieces of their own
  other_key : (a b : Addr) → Asks g a → Asks g b → same_addr b a ≡ false → nat_eq (key_of a) (key_of b) ≡ false
  other_key a b one other new = elim (eqb_tells (key_of a) (key_of b)) [
    | inl same ↦ absurd (let clash : true ≡ false =
        sym (is_same b a (sym (one_key g a b one other same.1))) ∙ new in cc)
    | inr not ↦ not.0
  ]

  -- so each object begins in another than the first
  others : (first : ObjectBytes) (objects : List ObjectBytes) → Asks g first.addr → All (IsAskedAt g) objects
      → ((index : ℕ) (object : ObjectBytes) → slice_get objects index ≡ Some object
      → same_addr object.addr first.addr ≡ false)
      → AllByRecursion (λ y. nat_eq (key_of first.addr) y ≡ false) (keys_of objects)
  others first [] asks were new = tt
  others first (object ∷ objects) asks were new = (
    other_key first.addr object.addr asks (All-head (IsAskedAt g) object objects were) (new zero object refl),
    others first objects asks (All-tail (IsAskedAt g) object objects were) (λ index. new (suc index)),
  )

  distinct : (objects : List ObjectBytes) → All (IsAskedAt g) objects
      → ((index : ℕ) (object : ObjectBytes) → slice_get objects index ≡ Some object
      → is_seen object.addr (take index objects) ≡ false)
      → IsDistinct nat_eq (keys_of objects)
  distinct [] were once = IsDistinct-from_apart nat_eq [] (λ i j d less low. absurd (omega (arith, low)))
  distinct (first ∷ objects) were once =
      let apart : (index : ℕ) (object : ObjectBytes) → slice_get objects index ≡ Some object
      → (same_addr object.addr first.addr ≡ false) × (is_seen object.addr (take index objects) ≡ false) =
      λ index object is. neither (same_addr object.addr first.addr) (is_seen object.addr (take index objects))
      (once (suc index) object is) in
      IsDistinct-cons nat_eq (key_of first.addr) (keys_of objects)
      (others first objects (All-head (IsAskedAt g) first objects were)
      (All-tail (IsAskedAt g) first objects were) (λ index object is. (apart index object is).0))
      (distinct objects (All-tail (IsAskedAt g) first objects were) (λ index object is. (apart index object is).1))

  all_below : (objects : List ObjectBytes) → All (IsAskedAt g) objects → (q : ℕ)
      → list_any (nat_eq q) (keys_of objects) ≡ true → q < 32 * g.blocks
  all_below [] were q there = cc
  all_below (object ∷ objects) were q there = elim (eqb_tells q (key_of object.addr)) [
    | inl is ↦ (let low = key_below g object.addr (All-head (IsAskedAt g) object objects were) in
        let same = is.1 in omega (arith, low, same))
    | inr not ↦ all_below objects (All-tail (IsAskedAt g) object objects were) q
        (ap (λ b. b || list_any (nat_eq q) (keys_of objects)) (sym not.0) ∙ there)
  ]

  count : (objects : List ObjectBytes) → length (keys_of objects) ≡ length objects
  count [] = refl
  count (object ∷ objects) = ap suc (count objects)

  pub few : (objects : List ObjectBytes) → WereAskedOnce g objects → length objects ≤ most_asked g.blocks
  few objects were =
      subst (λ n. n ≤ 32 * g.blocks) (count objects)
      (length-le_from_distinct_below (keys_of objects) (32 * g.blocks) (distinct objects were.asked were.once)
      (all_below objects were.asked))

  -- each at most twice
  twice : (objects : List ObjectBytes) (exclusives : List Addr) → times_asked objects exclusives ≤ 2 * length objects
  twice [] exclusives = omega arith
  twice (object ∷ objects) exclusives = by (is_among object.addr exclusives) (twice objects exclusives)
    where
      by : (t : Bool) → times_asked objects exclusives ≤ 2 * length objects
          → (if t then 2 else 1) + times_asked objects exclusives ≤ 2 * suc (length objects)
      by true rest = omega (arith, rest)
      by false rest = omega (arith, rest)

  pub few_times : (objects : List ObjectBytes) (exclusives : List Addr) → WereAskedOnce g objects
      → times_asked objects exclusives ≤ 2 * most_asked g.blocks
  few_times objects exclusives were =
      let most = few objects were in
      let times = twice objects exclusives in omega (arith, most, times)

-- ---- each time counts

among_more : (a addr : Addr) (exclusives : List Addr)
    → is_among a (exclusives ++ addr ∷ []) ≡ (is_among a exclusives || (same_addr a addr || false))
among_more a addr exclusives = list_any-append (λ (other : Addr). same_addr a other) exclusives (addr ∷ [])

-- one that is among more addresses counts no less
no_less : (a addr : Addr) (exclusives : List Addr)
    → (if is_among a exclusives then 2 else 1) ≤ (if is_among a (exclusives ++ addr ∷ []) then 2 else 1)
no_less a addr exclusives =
    subst (λ (b : Bool). (if is_among a exclusives then 2 else 1) ≤ (if b then 2 else 1)) (sym (among_more a addr exclusives))
    (by (is_among a exclusives) (same_addr a addr))
  where
    by : (was here : Bool) → (if was then 2 else 1) ≤ (if was || (here || false) then 2 else 1)
    by true here = omega arith
    by false true = omega arith
    by false false = omega arith

as_often : (addr : Addr) (exclusives : List Addr) (objects : List ObjectBytes)
    → times_asked objects exclusives ≤ times_asked objects (exclusives ++ addr ∷ [])
as_often addr exclusives [] = omega arith
as_often addr exclusives (object ∷ objects) =
    let first = no_less object.addr addr exclusives in
    let rest = as_often addr exclusives objects in
    sums _ _ _ _ first rest
  where
    sums : (a b c d : ℕ) → a ≤ b → c ≤ d → a + c ≤ b + d
    sums a b c d one two = omega (arith, one, two)

-- an object that was read, and is asked for alone now
once_more : (addr : Addr) (exclusives : List Addr) (objects : List ObjectBytes) → is_seen addr objects ≡ true
    → is_among addr exclusives ≡ false
    → times_asked objects exclusives < times_asked objects (exclusives ++ addr ∷ [])
once_more addr exclusives [] none new = cc
once_more addr exclusives (object ∷ objects) some new =
    by (same_addr addr object.addr) refl some (once_more addr exclusives objects)
  where
    by : (t : Bool) → same_addr addr object.addr ≡ t → (t || is_seen addr objects) ≡ true
        → (is_seen addr objects ≡ true → is_among addr exclusives ≡ false
        → times_asked objects exclusives < times_asked objects (exclusives ++ addr ∷ []))
        → times_asked (object ∷ objects) exclusives < times_asked (object ∷ objects) (exclusives ++ addr ∷ [])
    by true same some rest =
        let same_one = one_addr addr object.addr same in
        let was : is_among object.addr exclusives ≡ false =
        ap (λ (a : Addr). is_among a exclusives) (sym same_one) ∙ new in
        let now : is_among object.addr (exclusives ++ addr ∷ []) ≡ true =
        ap (λ (a : Addr). is_among a (exclusives ++ addr ∷ [])) (sym same_one) ∙ among_more addr addr exclusives
        ∙ at_last (is_among addr exclusives) (same_addr addr addr) (itself addr) in
        more (is_among object.addr exclusives) (is_among object.addr (exclusives ++ addr ∷ [])) _ _ was now
        (as_often addr exclusives objects)
      where
        at_last : (a b : Bool) → b ≡ true → (a || (b || false)) ≡ true
        at_last true b is = refl
        at_last false true is = refl
        at_last false false is = cc

        more : (a b : Bool) (c d : ℕ) → a ≡ false → b ≡ true → c ≤ d
            → (if a then 2 else 1) + c < (if b then 2 else 1) + d
        more false true c d a_is b_is less = omega (arith, less)
        more true b c d a_is b_is less = cc
        more false false c d a_is b_is less = cc
    by false other some rest =
        let first = no_less object.addr addr exclusives in
        let later = rest some new in less _ _ _ _ first later
      where
        less : (a b c d : ℕ) → a ≤ b → c < d → a + c < b + d
        less a b c d one two = omega (arith, one, two)

times_more : (objects : List ObjectBytes) (one : ObjectBytes) (exclusives : List Addr)
    → times_asked objects exclusives < times_asked (objects ++ one ∷ []) exclusives
times_more [] one exclusives = by (is_among one.addr exclusives)
  where
    by : (t : Bool) → 0 < (if t then 2 else 1) + 0
    by true = omega arith
    by false = omega arith
times_more (object ∷ objects) one exclusives = less _ _ _ (times_more objects one exclusives)
  where
    less : (a c d : ℕ) → c < d → a + c < a + d
    less a c d two = omega (arith, two)

pub asked_more : (addr : Addr) (mode : Mode) (bytes : List ℕ) (objects : List ObjectBytes) (exclusives : List Addr)
    → is_had addr mode objects exclusives ≡ false
    → times_asked objects exclusives < times_asked (with_read addr bytes objects) (with_mode addr mode exclusives)
asked_more addr modes.Shared bytes objects exclusives none =
    subst (λ (b : Bool). times_asked objects exclusives < times_asked (if b then objects
    else objects ++ record { addr = addr; bytes = bytes } ∷ []) exclusives) (sym none)
    (times_more objects (record { addr = addr; bytes = bytes }) exclusives)
asked_more addr modes.Exclusive bytes objects exclusives none = by (is_seen addr objects) refl none
  where
    one : ObjectBytes
    one = record { addr = addr; bytes = bytes }

    by : (t : Bool) → is_seen addr objects ≡ t → (t && is_among addr exclusives) ≡ false
        → times_asked objects exclusives
        < times_asked (if t then objects else objects ++ one ∷ []) (exclusives ++ addr ∷ [])
    by true is none = once_more addr exclusives objects is none
    by false is none =
        let first = as_often addr exclusives objects in
        let later = times_more objects one (exclusives ++ addr ∷ []) in together _ _ _ first later
      where
        together : (a b c : ℕ) → a ≤ b → b < c → a < c
        together a b c first later = omega (arith, first, later)

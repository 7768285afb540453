-- What was asked for alone, and what is had in a mode.
use Rattle.std.proofs.Common.{◌≡◌, refl, sym, ap, ◌∙◌, subst, ℕ, Bool, true, false, ◌||◌, ◌&&◌, if◌then◌else◌}
use Rattle.std.proofs.Common.{◌⊎◌, inl, inr, List, [], ◌∷◌, ◌++◌, nat_eq, arith}
use Rattle.std.specs.Prelude.{Contains}
use Rattle.std.proofs.lemmas.List.Folds.{list_any-append, list_any_at}
use Rattle.std.proofs.lemmas.Bool.Decides.{nat_tests}
use Rattle.objects.specs.declared.addr.Addr.{Addr}
use Rattle.objects.specs.declared.mode.Mode.{Mode}
use Rattle.objects.specs.declared.mode.Mode.TheVariants as modes
use Rattle.objects.specs.Object.{ObjectBytes}
use Rattle.layout.proofs.OnGrid as grid
use Rattle.inode.proofs.AllTests.{all_three, same_number}
use Rattle.inode.specs.Snap.{AreSeen, is_among, is_had, is_seen, same_addr, with_mode, with_read}

pub none_exclusive : AreSeen [] []
none_exclusive = record { all = λ addr is. cc }

pub same_seen : (exclusives later_exclusives : List Addr) (objects later : List ObjectBytes) → later_exclusives ≡ exclusives
    → later ≡ objects → AreSeen exclusives objects → AreSeen later_exclusives later
same_seen exclusives later_exclusives objects later same_exclusives same is =
    subst (λ (xs : List Addr). AreSeen xs later) (sym same_exclusives) (subst (AreSeen exclusives) (sym same) is)

-- what wasn't read isn't had in any mode
pub unseen_unhad : (addr : Addr) (mode : Mode) (objects : List ObjectBytes) (exclusives : List Addr)
    → is_seen addr objects ≡ false → is_had addr mode objects exclusives ≡ false
unseen_unhad addr modes.Shared objects exclusives none = none
unseen_unhad addr modes.Exclusive objects exclusives none = ap (λ (b : Bool). b && is_among addr exclusives) none

-- ---- one address

equal : (a b : ℕ) → a ≡ b → nat_eq a b ≡ true
equal a b same = grind (arith, nat_tests)

-- addresses that are one are equal
pub one_addr : (a b : Addr) → same_addr a b ≡ true → a ≡ b
one_addr a b is =
    let all = all_three (nat_eq a.block.0 b.block.0) (nat_eq a.offset b.offset) (nat_eq a.len b.len) is in
    grid.one_addr a b (same_number a.block.0 b.block.0 all.0) (same_number a.offset b.offset all.1)
    (same_number a.len b.len all.2)

pub itself : (a : Addr) → same_addr a a ≡ true
itself a = λ i. equal a.block.0 a.block.0 refl i && equal a.offset a.offset refl i && equal a.len a.len refl i

-- an address is that of an object that was read
pub seen_by : (addr : Addr) (object : ObjectBytes) (objects : List ObjectBytes) → Contains objects object
    → same_addr addr object.addr ≡ true → is_seen addr objects ≡ true
seen_by addr object objects there is =
    list_any_at (λ (one : ObjectBytes). same_addr addr one.addr) objects there.0 object there.1
    (ap (λ (one : ObjectBytes). same_addr addr one.addr) there.2 ∙ is)

-- ---- one more was read

or_right : (a b : Bool) → b ≡ true → (a || b) ≡ true
or_right true b is = refl
or_right false b is = is

or_left : (a b : Bool) → a ≡ true → (a || b) ≡ true
or_left true b is = refl
or_left false b is = cc

abbrev of : Addr → ObjectBytes → Bool
of addr object = same_addr addr object.addr

-- what was read stays so
pub still_seen : (a addr : Addr) (bytes : List ℕ) (objects : List ObjectBytes) → is_seen a objects ≡ true
    → is_seen a (with_read addr bytes objects) ≡ true
still_seen a addr bytes objects is = by (is_seen addr objects)
  where
    one : ObjectBytes
    one = record { addr = addr; bytes = bytes }

    by : (seen : Bool) → is_seen a (if seen then objects else objects ++ one ∷ []) ≡ true
    by true = is
    by false = list_any-append (of a) objects (one ∷ []) ∙ or_left (is_seen a objects) (is_seen a (one ∷ [])) is

-- and so is this one
pub now_seen : (addr : Addr) (bytes : List ℕ) (objects : List ObjectBytes)
    → is_seen addr (with_read addr bytes objects) ≡ true
now_seen addr bytes objects = by (is_seen addr objects) refl
  where
    one : ObjectBytes
    one = record { addr = addr; bytes = bytes }

    by : (seen : Bool) → is_seen addr objects ≡ seen
        → is_seen addr (if seen then objects else objects ++ one ∷ []) ≡ true
    by true is = is
    by false is = list_any-append (of addr) objects (one ∷ [])
        ∙ or_right (is_seen addr objects) (is_seen addr (one ∷ []))
        (or_left (same_addr addr addr) false (itself addr))

-- what is among them with one more that was asked for in a mode was among them, or is this one
pub among_cases : (a addr : Addr) (mode : Mode) (exclusives : List Addr) → is_among a (with_mode addr mode exclusives) ≡ true
    → (is_among a exclusives ≡ true) ⊎ (a ≡ addr)
among_cases a addr modes.Shared exclusives is = inl is
among_cases a addr modes.Exclusive exclusives is =
    by (is_among a exclusives) (same_addr a addr) refl refl
    (sym (list_any-append (λ (other : Addr). same_addr a other) exclusives (addr ∷ [])) ∙ is)
  where
    by : (was here : Bool) → is_among a exclusives ≡ was → same_addr a addr ≡ here → (was || (here || false)) ≡ true
        → (is_among a exclusives ≡ true) ⊎ (a ≡ addr)
    by true here was_is here_is is = inl was_is
    by false true was_is here_is is = inr (one_addr a addr here_is)
    by false false was_is here_is is = cc

pub seen_with : (addr : Addr) (mode : Mode) (bytes : List ℕ) (exclusives : List Addr) (objects : List ObjectBytes)
    → AreSeen exclusives objects → AreSeen (with_mode addr mode exclusives) (with_read addr bytes objects)
seen_with addr mode bytes exclusives objects were = record {
  all = λ a is. elim (among_cases a addr mode exclusives is) [
    | inl before ↦ still_seen a addr bytes objects (were.all a before)
    | inr here ↦ subst (λ (b : Addr). is_seen b (with_read addr bytes objects) ≡ true) (sym here)
        (now_seen addr bytes objects)
  ];
}

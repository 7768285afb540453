-- The objects that were read as they are told: each in the mode in which it was asked for.
use Rattle.std.proofs.Common.{◌≡◌, ◌∙◌, refl, sym, ap, subst, ℕ, Bool, true, false, ◌||◌, ◌&&◌, not, if◌then◌else◌}
use Rattle.std.proofs.Common.{Option, Some, None, List, [], ◌∷◌, ◌++◌}
use Rattle.std.specs.Prelude.{map}
use Rattle.std.specs.List.{list_any}
use Rattle.std.proofs.lemmas.List.{map-append}
use Rattle.std.proofs.lemmas.List.Folds.{list_any-append}
use Rattle.objects.specs.Mode.{covers, upgraded}
use Rattle.objects.specs.declared.addr.Addr.{Addr}
use Rattle.objects.specs.declared.mode.Mode.{Mode}
use Rattle.objects.specs.declared.mode.Mode.TheVariants as modes
use Rattle.txn.specs.Object.{ObjectBytes}
use Rattle.inode.specs.Snap.{AreSeen, is_among, is_had, is_seen, same_addr, with_mode, with_read}
use Rattle.inode.proofs.HadExclusive.{itself, one_addr}
use Rattle.procs.specs.declared.planner.Planner.{Planner}
use Rattle.store_promise.specs.Progress as run_progress
use Rattle.store_promise.specs.Schedule.{is_held}
use Rattle.store_workers.specs.Seen.{Seen, mode_in, seen_in, seen_of}
use Rattle.store_workers.specs.Stages.{held_in, taken_as}

-- ---- what a planner has read

some_seen : (a b : Seen) → ◌≡◌ {A = Option Seen} (Some a) (Some b) → a ≡ b
some_seen a b same = ap (λ (o : Option Seen). elim o [ None ↦ a | Some one ↦ one ]) same

no_seen : (a : Seen) → ◌≡◌ {A = Option Seen} None (Some a) → ⊥
no_seen a same = cc

-- what it was asked for alone was read
pub are_seen : (planner : Option Planner) (seen : Seen) → seen_in planner ≡ Some seen
    → AreSeen seen.exclusives seen.objects
are_seen None seen is = absurd (no_seen seen is)
are_seen (Some planner) seen is =
    subst (λ (s : Seen). AreSeen s.exclusives s.objects) (some_seen (seen_of planner.snap) seen is) planner.exclusives

-- ---- an object as it is told

abbrev pub as_object_read : List Addr → ObjectBytes → run_progress.Taken
as_object_read exclusives object = taken_as (mode_in exclusives object.addr) object.addr

back : (a b : Addr) → same_addr a b ≡ true → same_addr b a ≡ true
back a b same = subst (λ (c : Addr). same_addr c a ≡ true) (one_addr a b same) (itself a)

other_way : (a b : Addr) (t : Bool) → same_addr a b ≡ t → same_addr b a ≡ t
other_way a b true same = back a b same
other_way a b false other = by (same_addr b a) refl
  where
    by : (t : Bool) → same_addr b a ≡ t → same_addr b a ≡ false
    by false is = is
    by true is = absurd (let clash : true ≡ false = sym (back b a is) ∙ other in cc)

-- whether it is among them with one more
among_more : (a addr : Addr) (exclusives : List Addr)
    → is_among a (exclusives ++ addr ∷ []) ≡ (is_among a exclusives || (same_addr a addr || false))
among_more a addr exclusives = list_any-append (λ (other : Addr). same_addr a other) exclusives (addr ∷ [])

or_true : (a b : Bool) → b ≡ true → (a || (b || false)) ≡ true
or_true true b is = refl
or_true false true is = refl
or_true false false is = cc

or_false : (a b : Bool) → b ≡ false → (a || (b || false)) ≡ a
or_false true b is = refl
or_false false false is = refl
or_false false true is = cc

mode_of : (t : Bool) → t ≡ true → (if t then modes.Exclusive else modes.Shared) ≡ modes.Exclusive
mode_of true is = refl
mode_of false is = cc

-- an object is told in the mode that it is raised to
upgraded_as : (addr : Addr) (mode : Mode) (exclusives : List Addr) (o : ObjectBytes)
    → as_object_read (with_mode addr mode exclusives) o ≡ run_progress.upgraded_object_read (taken_as mode addr) (as_object_read exclusives o)
upgraded_as addr modes.Shared exclusives o = by (same_addr addr o.addr)
  where
    by : (t : Bool) → as_object_read exclusives o ≡ (if t then as_object_read exclusives o else as_object_read exclusives o)
    by true = refl
    by false = refl
upgraded_as addr modes.Exclusive exclusives o = by (same_addr addr o.addr) refl
  where
    by : (t : Bool) → same_addr addr o.addr ≡ t
        → as_object_read (exclusives ++ addr ∷ []) o ≡ (if t then taken_as modes.Exclusive o.addr else as_object_read exclusives o)
    by true same = ap (λ (m : Mode). taken_as m o.addr) (mode_of (is_among o.addr (exclusives ++ addr ∷ []))
        (among_more o.addr addr exclusives
        ∙ or_true (is_among o.addr exclusives) (same_addr o.addr addr) (other_way addr o.addr true same)))
    by false other = ap (λ (t : Bool). taken_as (if t then modes.Exclusive else modes.Shared) o.addr)
        (among_more o.addr addr exclusives
        ∙ or_false (is_among o.addr exclusives) (same_addr o.addr addr) (other_way addr o.addr false other))

-- ---- all of them

in_read_set_is_seen : (addr : Addr) (exclusives : List Addr) (objects : List ObjectBytes)
    → run_progress.is_in_read_set addr (map (as_object_read exclusives) objects) ≡ is_seen addr objects
in_read_set_is_seen addr exclusives [] = refl
in_read_set_is_seen addr exclusives (o ∷ os) = ap (λ (b : Bool). same_addr addr o.addr || b) (in_read_set_is_seen addr exclusives os)

all_upgraded : (addr : Addr) (mode : Mode) (exclusives : List Addr) (objects : List ObjectBytes)
    → map (as_object_read (with_mode addr mode exclusives)) objects
    ≡ map (run_progress.upgraded_object_read (taken_as mode addr)) (map (as_object_read exclusives) objects)
all_upgraded addr mode exclusives [] = refl
all_upgraded addr mode exclusives (o ∷ os) = λ i. upgraded_as addr mode exclusives o i ∷ all_upgraded addr mode exclusives os i

neither : (a b : Bool) → (a || b) ≡ false → (a ≡ false) × (b ≡ false)
neither false false none = (refl, refl)
neither true b none = cc
neither false true none = cc

none_upgraded : (addr : Addr) (mode : Mode) (exclusives : List Addr) (objects : List ObjectBytes)
    → is_seen addr objects ≡ false
    → map (as_object_read (with_mode addr mode exclusives)) objects ≡ map (as_object_read exclusives) objects
none_upgraded addr mode exclusives [] none = refl
none_upgraded addr mode exclusives (o ∷ os) none =
    let both = neither (same_addr addr o.addr) (is_seen addr os) none in
    λ i. (upgraded_as addr mode exclusives o
    ∙ ap (λ (t : Bool). if t then record (as_object_read exclusives o) { mode = upgraded (as_object_read exclusives o).mode mode }
    else as_object_read exclusives o) both.0) i
    ∷ none_upgraded addr mode exclusives os both.1 i

-- one that wasn't read is told in the mode in which it is asked for
new_as : (addr : Addr) (mode : Mode) (bytes : List ℕ) (exclusives : List Addr) (objects : List ObjectBytes)
    → AreSeen exclusives objects → is_seen addr objects ≡ false
    → as_object_read (with_mode addr mode exclusives) (record { addr = addr; bytes = bytes }) ≡ taken_as mode addr
new_as addr modes.Shared bytes exclusives objects are none = by (is_among addr exclusives) refl
  where
    by : (t : Bool) → is_among addr exclusives ≡ t
        → taken_as (if t then modes.Exclusive else modes.Shared) addr ≡ taken_as modes.Shared addr
    by false is = refl
    by true is = absurd (let clash : true ≡ false = sym (are.all addr is) ∙ none in cc)
new_as addr modes.Exclusive bytes exclusives objects are none =
    ap (λ (m : Mode). taken_as m addr) (mode_of (is_among addr (exclusives ++ addr ∷ []))
    (among_more addr addr exclusives ∙ or_true (is_among addr exclusives) (same_addr addr addr) (itself addr)))

-- what is read in a mode is told in this mode
pub read_set_with_is : (addr : Addr) (mode : Mode) (bytes : List ℕ) (exclusives : List Addr) (objects : List ObjectBytes)
    → AreSeen exclusives objects
    → map (as_object_read (with_mode addr mode exclusives)) (with_read addr bytes objects)
    ≡ run_progress.read_set_with (taken_as mode addr) (map (as_object_read exclusives) objects)
read_set_with_is addr mode bytes exclusives objects are =
    by (is_seen addr objects) refl
    ∙ ap (λ (t : Bool). if t then map (run_progress.upgraded_object_read (taken_as mode addr)) (map (as_object_read exclusives) objects)
    else map (as_object_read exclusives) objects ++ taken_as mode addr ∷ []) (sym (in_read_set_is_seen addr exclusives objects))
  where
    one : ObjectBytes
    one = record { addr = addr; bytes = bytes }

    by : (t : Bool) → is_seen addr objects ≡ t
        → map (as_object_read (with_mode addr mode exclusives)) (if t then objects else objects ++ one ∷ [])
        ≡ (if t then map (run_progress.upgraded_object_read (taken_as mode addr)) (map (as_object_read exclusives) objects)
        else map (as_object_read exclusives) objects ++ taken_as mode addr ∷ [])
    by true is = all_upgraded addr mode exclusives objects
    by false is =
        map-append (as_object_read (with_mode addr mode exclusives)) objects (one ∷ [])
        ∙ (λ i. none_upgraded addr mode exclusives objects is i
        ++ new_as addr mode bytes exclusives objects are is i ∷ [])

-- ---- what is held of them in a mode

covers_shared : (t : Bool) → covers (if t then modes.Exclusive else modes.Shared) modes.Shared ≡ true
covers_shared true = refl
covers_shared false = refl

covers_exclusive : (t : Bool) → covers (if t then modes.Exclusive else modes.Shared) modes.Exclusive ≡ t
covers_exclusive true = refl
covers_exclusive false = refl

pub held_as : (addr : Addr) (mode : Mode) (exclusives : List Addr) (objects : List ObjectBytes)
    → is_held addr mode (map (as_object_read exclusives) objects) ≡ is_had addr mode objects exclusives
held_as addr modes.Shared exclusives [] = refl
held_as addr modes.Shared exclusives (o ∷ os) =
    λ i. one (same_addr addr o.addr) i || held_as addr modes.Shared exclusives os i
  where
    one : (t : Bool) → (t && covers (mode_in exclusives o.addr) modes.Shared) ≡ t
    one true = covers_shared (is_among o.addr exclusives)
    one false = refl
held_as addr modes.Exclusive exclusives [] = refl
held_as addr modes.Exclusive exclusives (o ∷ os) =
    (λ i. one (same_addr addr o.addr) refl i || held_as addr modes.Exclusive exclusives os i)
    ∙ either (same_addr addr o.addr) (is_seen addr os) (is_among addr exclusives)
  where
    one : (t : Bool) → same_addr addr o.addr ≡ t
        → (t && covers (mode_in exclusives o.addr) modes.Exclusive) ≡ (t && is_among addr exclusives)
    one true same = covers_exclusive (is_among o.addr exclusives)
        ∙ ap (λ (a : Addr). is_among a exclusives) (sym (one_addr addr o.addr same))
    one false other = refl

    either : (a b c : Bool) → ((a && c) || (b && c)) ≡ ((a || b) && c)
    either true true true = refl
    either true false true = refl
    either false b c = refl
    either true true false = refl
    either true false false = refl

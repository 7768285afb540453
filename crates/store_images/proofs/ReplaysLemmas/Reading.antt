-- What a plan reads and writes of an image in whose log is nothing.
use Rattle.std.proofs.Common.{◌≡◌, ◌∙◌, refl, sym, ap, subst, ℕ, ◌+◌, ◌-◌, ◌<◌, ◌≤◌, ◌||◌, ◌&&◌, inl, inr, arith, Bool, true, false}
use Rattle.std.proofs.Common.{if◌then◌else◌, nat_eq, List, [], ◌∷◌, ◌++◌, All}
use Rattle.std.specs.List.{Contains}
use Rattle.std.proofs.lemmas.Bool.Decides.{nat_tests}
use Rattle.std.proofs.lemmas.List.Elements.{All-head, All-tail, All-weaker, Contains-push_cases}
use Rattle.disk.specs.Crash.{Image}
use Rattle.disk.specs.Device.{Content, Device}
use Rattle.disk.specs.declared.block.BlockNo.{BlockNo}
use Rattle.layout.specs.declared.geometry.Geometry.{Geometry}
use Rattle.layout.specs.Homes.{homes_of}
use Rattle.layout.specs.Places.{is_data}
use Rattle.layout.proofs.FreshHomes.{home_is}
use Rattle.objects.specs.declared.addr.Addr.{Addr}
use Rattle.objects.specs.declared.mode.Mode.{Mode}
use Rattle.objects.specs.Object.{ObjectBytes}
use Rattle.objects.specs.Spliced.{extracted}
use Rattle.txn_law.specs.Window.{IsAsRead, part}
use Rattle.circ.specs.Log.Log.{IsHomeOn}
use Rattle.circ.specs.Log.Recovery.{HasOnlyRead, image_of}
use Rattle.inode.specs.Read.{AreAsRead, Saw}
use Rattle.inode.specs.Snap.{MayWrite, is_among, is_claimed, is_had, is_seen, same_addr, with_read}
use Rattle.inode.specs.declared.snap.Snap.{Snap}
use Rattle.procs.specs.Asks.{Asks, Claims, IsWritable, WereAskedOnce, WereClaimedOnce}
use Rattle.procs.specs.Finished.{EndsFrom}
use Rattle.procs.specs.Outcome.{Outcome}
use Rattle.procs.specs.MostAsked.{times_asked}
use Rattle.procs.proofs.FewAsked.{asked_more, read_once}
use Rattle.procs.proofs.FewClaimed.{claimed_object}
use Rattle.store_images.specs.Replays.AtHome.{HasAdded}
use Rattle.store_images.proofs.ReplaysLemmas.AtHome.{image_same}

-- ---- what was read

-- one object more was read
module _ (size : ℕ) (image : Image) (old new : Snap) (addr : Addr) (mode : Mode) (content : Content)
    (added : HasAdded addr mode old new) where
  abbrev one : ObjectBytes
  one = record { addr = addr; bytes = added.bytes }

  as_read : IsHomeOn size addr.block → content ≡ image addr.block.0
      → added.bytes ≡ extracted content addr.offset addr.len → IsAsRead (homes_of size image) one
  as_read home came bytes =
      ap (λ (c : Content). part c addr) (home_is size addr.block.0 image home.0 home.1 ∙ sym came) ∙ sym bytes

  pub saw_more : IsHomeOn size addr.block → content ≡ image addr.block.0
      → added.bytes ≡ extracted content addr.offset addr.len
      → Saw (homes_of size image) old → Saw (homes_of size image) new
  saw_more home came bytes saw object there =
      by (is_seen addr old.objects.items) (subst (λ (xs : List ObjectBytes). Contains xs object) added.objects there)
    where
      by : (seen : Bool) → Contains (if seen then old.objects.items else old.objects.items ++ one ∷ []) object
          → IsAsRead (homes_of size image) object
      by true before = saw object before
      by false more = elim (Contains-push_cases old.objects.items one object more) [
        | inl before ↦ saw object before
        | inr here ↦ subst (IsAsRead (homes_of size image)) here (as_read home came bytes)
      ]

-- so it is in all that was read, since nothing has changed
pub saw_then : (size : ℕ) (first mid : Device) (old reserved_snap new : Snap) → size ≡ first.size → HasOnlyRead first mid
    → reserved_snap.objects.items ≡ old.objects.items
    → (Saw (homes_of mid.size (image_of mid)) reserved_snap → Saw (homes_of mid.size (image_of mid)) new)
    → Saw (homes_of size (image_of first)) old → Saw (homes_of size (image_of first)) new
saw_then size first mid old reserved_snap new size_is reads objects more saw =
    let same : homes_of size (image_of first) ≡ homes_of mid.size (image_of mid) =
    ap (λ n. homes_of n (image_of first)) (size_is ∙ sym reads.size)
    ∙ ap (λ (image : Image). homes_of mid.size image) (sym (image_same first mid reads)) in
    subst (λ blocks. Saw blocks new) (sym same)
    (more (subst (λ (xs : List ObjectBytes). AreAsRead (homes_of mid.size (image_of mid)) xs) (sym objects)
    (subst (λ blocks. Saw blocks old) same saw)))

-- ---- each round leaves less to be asked for

-- all that was read was asked for
pub read_more : (g : Geometry) (old reserved_snap new : Snap) (addr : Addr) (mode : Mode) → reserved_snap.geometry ≡ g
    → reserved_snap.objects.items ≡ old.objects.items → HasAdded addr mode reserved_snap new → WereAskedOnce g old.objects.items
    → Asks reserved_snap.geometry addr → WereAskedOnce g new.objects.items
read_more g old reserved_snap new addr mode geometry objects added were asks =
    subst (λ (xs : List ObjectBytes). WereAskedOnce g xs) (sym added.objects)
    (read_once g reserved_snap.objects.items addr added.bytes
    (subst (λ (xs : List ObjectBytes). WereAskedOnce g xs) (sym objects) were)
    (subst (λ (h : Geometry). Asks h addr) geometry asks))

-- what is asked for then was asked for less often before
pub more_often : (old reserved_snap new : Snap) (addr : Addr) (mode : Mode) → reserved_snap.objects.items ≡ old.objects.items
    → reserved_snap.exclusives.items ≡ old.exclusives.items → HasAdded addr mode reserved_snap new
    → is_had addr mode reserved_snap.objects.items reserved_snap.exclusives.items ≡ false
    → times_asked old.objects.items old.exclusives.items < times_asked new.objects.items new.exclusives.items
more_often old reserved_snap new addr mode objects exclusives added unhad =
    subst (λ (xs : List ObjectBytes). times_asked xs old.exclusives.items < times_asked new.objects.items new.exclusives.items) objects
    (subst (λ (xs : List Addr). times_asked reserved_snap.objects.items xs < times_asked new.objects.items new.exclusives.items) exclusives
    (subst (λ (xs : List ObjectBytes). times_asked reserved_snap.objects.items reserved_snap.exclusives.items < times_asked xs new.exclusives.items)
    (sym added.objects) (subst (λ (xs : List Addr). times_asked reserved_snap.objects.items reserved_snap.exclusives.items
    < times_asked (with_read addr added.bytes reserved_snap.objects.items) xs) (sym added.exclusives)
    (asked_more addr mode added.bytes reserved_snap.objects.items reserved_snap.exclusives.items unhad))))

pub less_left : (asked claimed objects claims more_objects more_claims : ℕ)
    → objects + claims < more_objects + more_claims → more_objects ≤ asked → more_claims ≤ claimed
    → asked + claimed - (more_objects + more_claims) < asked + claimed - (objects + claims)
less_left asked claimed objects claims more_objects more_claims more few few_claims = omega arith

-- ---- what is written lies at home

same_number : (a b : ℕ) → nat_eq a b ≡ true → a ≡ b
same_number a b is = grind (arith, nat_tests)

first_of : (a b : Bool) → (a && b) ≡ true → a ≡ true
first_of true b both = refl
first_of false b both = cc

both_first : (a b c : Bool) → (a && b && c) ≡ true → a ≡ true
both_first a b c all = first_of a b (first_of (a && b) c all)

module _ (g : Geometry) (lie : (addr : Addr) → Asks g addr → IsHomeOn g.blocks addr.block) where
  seen_home : (addr : Addr) (objects : List ObjectBytes)
      → All (λ (object : ObjectBytes). Asks g object.addr) objects → is_seen addr objects ≡ true
      → IsHomeOn g.blocks addr.block
  seen_home addr [] all none = cc
  seen_home addr (x ∷ xs) all some =
      go (seen_home addr xs (All-tail (λ (object : ObjectBytes). Asks g object.addr) x xs all))
      (same_addr addr x.addr) refl some
    where
      go : (is_seen addr xs ≡ true → IsHomeOn g.blocks addr.block) → (t : Bool) → same_addr addr x.addr ≡ t
          → (t || is_seen addr xs) ≡ true → IsHomeOn g.blocks addr.block
      go rest true same some =
          let at = same_number addr.block.0 x.addr.block.0 (both_first (nat_eq addr.block.0 x.addr.block.0)
          (nat_eq addr.offset x.addr.offset) (nat_eq addr.len x.addr.len) same) in
          let home = lie x.addr (All-head (λ (object : ObjectBytes). Asks g object.addr) x xs all) in
          let from = home.0 in
          let below = home.1 in (omega (arith, at, from), omega (arith, at, below))
      go rest false same some = rest some

  claimed_data : (block : BlockNo) (claims : List BlockNo) → All (Claims g) claims → is_claimed block claims ≡ true
      → Claims g block
  claimed_data block [] all none = cc
  claimed_data block (c ∷ cs) all some =
      go (claimed_data block cs (All-tail (Claims g) c cs all)) (nat_eq block.0 c.0) refl some
    where
      go : (is_claimed block cs ≡ true → Claims g block) → (t : Bool) → nat_eq block.0 c.0 ≡ t
          → (t || is_claimed block cs) ≡ true → Claims g block
      go rest true same some =
          ap (λ n. is_data g n) (same_number block.0 c.0 same) ∙ All-head (Claims g) c cs all
      go rest false same some = rest some

  pub written_home : (snap : Snap) (done : Outcome) → WereAskedOnce g snap.objects.items
      → WereClaimedOnce g snap.claims.items → EndsFrom snap done
      → All (λ (object : ObjectBytes). IsHomeOn g.blocks object.addr.block) done.written
  written_home snap done read claimed ends =
      All-weaker (IsWritable snap) (λ (object : ObjectBytes). IsHomeOn g.blocks object.addr.block)
      (λ object may. by object.addr may) done.written ends.writable
    where
      by : (addr : Addr) → MayWrite snap addr → IsHomeOn g.blocks addr.block
      by addr (inl had) = seen_home addr snap.objects.items read.asked
          (first_of (is_seen addr snap.objects.items) (is_among addr snap.exclusives.items) had)
      by addr (inr whole) = lie addr (claimed_object g addr.block addr
          (claimed_data addr.block snap.claims.items claimed.asked whole.0) whole.1)

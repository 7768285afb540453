-- A recovery that is stopped again and again.
use Rattle.std.proofs.Common.{◌≡◌, inl, inr, sym, subst, ℕ, zero, suc, ◌+◌, ◌<◌, ◌≤◌, arith}
use Rattle.std.proofs.Common.{List, slice_get, Some}
use Rattle.std.specs.List.{Contains}
use Rattle.base.specs.declared.TheConstants.{SUPER_BLOCK}
use Rattle.disk.specs.Crash.{Image, IsAtRest, IsCrashImage}
use Rattle.disk.specs.Device.{Device}
use Rattle.nfs_spec.specs.Model.Tree.{Tree}
use Rattle.nfs_spec.proofs.LivesLemmas.Order.{one_before, one_there}
use Rattle.store_promise.specs.GoodImage.{IsGoodImage}
use Rattle.store_promise.specs.Openings.{IsBootOf}
use Rattle.store_law.proofs.LivesLemmas.OneImage.{one_boot, one_content}
use Rattle.store_law.specs.Lives.Life.{LeavesImage}
use Rattle.store_law.specs.Lives.Recovering.{AreStopped, Holds, IsStopped, StaysGood, StoppedOpening}

-- the device holds a good image, whose boot number has risen by so many at most
pub record HoldsRisen (d : Device) (tree : Tree) (first most : ℕ) : Type 0 where
  pub boot : ℕ
  pub least : first ≤ boot
  pub risen : boot ≤ first + most
  pub holds : Holds d tree boot

risen_of : (size first most boot now : ℕ) (tree : Tree) (image : Image) → first ≤ boot → boot ≤ first + most
    → IsBootOf boot now → IsGoodImage size image tree now → StaysGood size first (most + 1) tree image
risen_of size first most boot now tree image least risen is good = elim is [
  | inl same ↦ record {
    boot = now;
    least = omega (arith, least, same);
    risen = omega (arith, risen, same);
    good = good;
  }
  | inr more ↦ record {
    boot = now;
    least = omega (arith, least, more);
    risen = omega (arith, risen, more);
    good = good;
  }
]

stays : (o : StoppedOpening) (tree : Tree) (first most clock : ℕ) (image : Image) → IsStopped o
    → HoldsRisen o.before tree first most → o.before.clock ≤ clock → clock ≤ o.later.clock
    → IsCrashImage o.later clock image → StaysGood o.later.size first (most + 1) tree image
stays o tree first most clock image is held from to there =
    let kept = is.preserves tree held.boot held.holds clock image from to there in
    risen_of o.later.size first most held.boot kept.boot tree image held.least held.risen kept.boot_is kept.good

-- the image that a stop left, in a device that holds it, and nothing else
goes_on : (later next : Device) (crash first most : ℕ) (tree : Tree) → IsAtRest next
    → (l : LeavesImage later crash next)
    → ((image : Image) → IsCrashImage later crash image → StaysGood later.size first most tree image)
    → HoldsRisen next tree first most
goes_on later next crash first most tree rest l each =
    let mine = each l.image l.left in record {
      boot = mine.boot;
      least = mine.least;
      risen = mine.risen;
      holds = λ image held.
          let same = one_content next rest image l.image held l.found in
          let left : IsCrashImage later crash image =
          λ block inside.
          let here : block < next.size = subst (λ n. block < n) (sym l.size) inside in
          subst (λ c. Contains (later.contents crash block) c) (sym (same block here)) (l.left block inside) in
          let its = each image left in
          let some : 0 < next.size = some_blocks later.size image tree its.boot its.good next.size l.size in
          let boots : its.boot ≡ mine.boot =
          one_boot later.size later.size its.boot mine.boot image l.image tree tree its.good mine.good
          (same SUPER_BLOCK some) in
          subst (λ n. IsGoodImage n image tree mine.boot) (sym l.size)
          (subst (λ b. IsGoodImage later.size image tree b) boots its.good);
    }
  where
    -- a good image has blocks
    some_blocks : (size : ℕ) (image : Image) (tree : Tree) (boot : ℕ) → IsGoodImage size image tree boot
        → (other : ℕ) → other ≡ size → 0 < other
    some_blocks size image tree boot good other same =
        let blocks = good.is_super.blocks in
        let least = good.is_super.sizes.lawful.0.0 in
        let is = good.size_is in
        omega (arith, blocks, least, is, same)

pub held_at : (openings : List StoppedOpening) (begun : StoppedOpening) (first : ℕ) (tree : Tree)
    → AreStopped openings → slice_get openings 0 ≡ Some begun → Holds begun.before tree first
    → (at : ℕ) (o : StoppedOpening) → slice_get openings at ≡ Some o → HoldsRisen o.before tree first at
held_at openings begun first tree are there holds zero o is =
    let same : begun ≡ o = one_there openings 0 begun o there is in record {
      boot = first;
      least = omega arith;
      risen = omega arith;
      holds = subst (λ b. Holds b.before tree first) same holds;
    }
held_at openings begun first tree are there holds (suc at) o is =
    let before = one_before openings at o is in
    let b = before.0 in
    let stopped = are.each at b before.1 in
    let held = held_at openings begun first tree are there holds at b before.1 in
    let on : HoldsRisen o.before tree first (at + 1) =
    goes_on b.later o.before b.crash first (at + 1) tree (are.each (suc at) o is).rest
    (are.left at b o before.1 is)
    (λ image left. stays b tree first at b.crash image stopped held stopped.begun stopped.ended left) in
    subst (HoldsRisen o.before tree first) (omega arith) on

pub stopped_again : (openings : List StoppedOpening) (begun o : StoppedOpening) (at clock first : ℕ) (tree : Tree)
    (image : Image) → AreStopped openings → slice_get openings 0 ≡ Some begun → Holds begun.before tree first
    → slice_get openings at ≡ Some o → o.before.clock ≤ clock → clock ≤ o.later.clock
    → IsCrashImage o.later clock image → StaysGood o.later.size first (at + 1) tree image
stopped_again openings begun o at clock first tree image are there holds is from to left =
    stays o tree first at clock image (are.each at o is)
    (held_at openings begun first tree are there holds at o is) from to left

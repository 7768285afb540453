-- A device that went on: its past is what it was.
use Rattle.std.proofs.Common.{arith, ◌∙◌, refl}
use Rattle.disk.specs.Device.{Device, OneLater}
use Rattle.disk.proofs.Failures.{counts_none, counts_one, counts_then}
use Rattle.circ.specs.Log.Recovery.{HasOnlyRead}
use Rattle.store_promise.specs.Openings.{IsLater}

-- by no call,
pub past_none : (device : Device) → IsLater device device
past_none device = record {
  size = refl;
  clock = omega arith;
  past = λ clock block below. refl;
  failed = λ call below. refl;
  lost = λ call below. refl;
  counted = counts_none device;
}

-- by one,
pub past_one : (old new : Device) → OneLater old new → IsLater old new
past_one old new later = record {
  size = later.size;
  clock = (let clock = later.clock in omega (arith, clock));
  past = later.past;
  failed = later.failed;
  lost = later.lost;
  counted = counts_one old new later;
}

-- by some that only read,
pub read_later : (before later : Device) → HasOnlyRead before later → IsLater before later
read_later before later reads = record {
  size = reads.size;
  clock = reads.clock;
  past = reads.past;
  failed = reads.failed;
  lost = reads.lost;
  counted = reads.counted;
}

-- and by some and then some more
pub past_more : (before middle later : Device) → IsLater before middle → IsLater middle later
    → IsLater before later
past_more before middle later one other =
    let first = one.clock in
    let second = other.clock in record {
      size = other.size ∙ one.size;
      clock = omega (arith, first, second);
      past = λ clock block within. other.past clock block (omega (arith, within, first))
          ∙ one.past clock block within;
      failed = λ call within. other.failed call (omega (arith, within, first)) ∙ one.failed call within;
      lost = λ call within. other.lost call (omega (arith, within, first)) ∙ one.lost call within;
      counted = counts_then before middle later first second other.failed one.counted other.counted;
    }

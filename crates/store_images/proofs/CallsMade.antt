-- How many device calls a settling makes.
use Rattle.std.proofs.Common.{arith, ◌≡◌, refl, sym, subst, ◌+◌, ◌≤◌, Bool, true, false, if◌then◌else◌}
use Rattle.disk.specs.Device.{Device}
use Rattle.txn_law.specs.Core.{CoreState}
use Rattle.circ.specs.Log.Log.{Log}
use Rattle.store_images.specs.Settling.{HasCalled, SpendsCalls, calls_left, most_calls}

-- each call is one of those that are left
pub spends_one : (old new : Log) (before after : Device) → HasCalled old before new after
    → after.clock ≡ before.clock + 1 → SpendsCalls before old after new
spends_one old new before after called clock = record {
  few = subst (λ b. after.clock + most_calls new ≤ before.clock + (if b then 0 else calls_left old + 1))
      (sym called.sound) (by new.broken refl);
}
  where
    by : (b : Bool) → new.broken ≡ b
        → after.clock + (if b then 0 else calls_left new + 1) ≤ before.clock + (calls_left old + 1)
    by true is = omega (arith, clock)
    by false is = let less = called.nearer is in omega (arith, clock, less)

pub spends_none : (core after : CoreState) (before later : Device) → after ≡ core → later ≡ before
    → SpendsCalls before core.log later after.log
spends_none core after before later same at =
    subst (λ (d : Device). SpendsCalls before core.log d after.log) (sym at)
    (subst (λ (c : CoreState). SpendsCalls before core.log before c.log) (sym same)
    (record { few = omega arith }))

pub spends_along : (before mid later : Device) (old log new : Log) → SpendsCalls before old mid log
    → SpendsCalls mid log later new → SpendsCalls before old later new
spends_along before mid later old log new one two =
    record { few = let a = one.few in let b = two.few in omega (arith, a, b) }

-- so many were made
pub made_few : (before later : Device) (old new : Log) → SpendsCalls before old later new
    → later.clock ≤ before.clock + most_calls old
made_few before later old new spends = let few = spends.few in omega (arith, few)

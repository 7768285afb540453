-- One device call of a side, from its taking to its giving back, by the side.
use Rattle.std.proofs.Common.{◌≡◌, ℕ, ◌+◌, ap, refl, sym, subst, ◌∙◌, arith, List, Bool, false}
use Rattle.disk.specs.Crash.{Image}
use Rattle.disk.specs.Device.{Device, OneLater}
use Rattle.disk.specs.declared.block.Side.{Side}
use Rattle.disk.specs.declared.block.Side.TheVariants as sides
use Rattle.objects.specs.Object.{ObjectBytes}
use Rattle.txn_law.specs.Core.{CoreState, with_inst_call, with_log_call}
use Rattle.wal.specs.Sides.{call_is_made}
use Rattle.circ.specs.Log.Calls.{idle}
use Rattle.circ.specs.Log.Installer.{is_inst_out}
use Rattle.circ.specs.Log.Io.{Io, IsCallWithin}
use Rattle.circ.specs.Log.Log.{IsLawful, Log}
use Rattle.circ.specs.Log.Logger.{is_log_out}
use Rattle.circ.specs.Log.Effects.{HasGoneOn}
use Rattle.circ.proofs.LogLemmas.Effects.{seen_inst_done, seen_inst_out, seen_log_done, seen_log_out}
use Rattle.wal_calls.proofs.CallersLemmas.Made.{made_later}
use Rattle.wal_calls.specs.Callers.Making.{IsAnswered}
use Rattle.wal_calls.specs.Callers.OneCall.{MakesOne}
use Rattle.wal_calls.specs.Callers.Steps.{InstGoesOut, LogComesBack, LogGoesOut, comes_back, goes_out}
use Rattle.store_promise.specs.Running.{PreservesPlaces, PreservesTransactions, at_rest}
use Rattle.store_promise.proofs.OpenSteps.{HasSameChanges, inst_out_same, log_given_same, log_out_same}
use Rattle.store_images.specs.Further.{IsFurther}
use Rattle.store_images.specs.Counts.{SameFrame}
use Rattle.store_images.specs.LogCallState.{store_state_with}
use Rattle.store_images.specs.Settling.{HasCalled, IsQuiet, IsTurnOf, SameNumbers}
use Rattle.store_images.proofs.CallsEnd.{EndsSo, inst_ends, log_ends}
use Rattle.store_images.proofs.CallsLeft.{inst_called, log_called}
use Rattle.store_images.proofs.LogSteps.{only_log, log_places, still_loaded}
use Rattle.store_images.proofs.SettlingCalls.{Nears, inst_nears, log_nears}
use Rattle.store_images.proofs.StillOpen.{preserved_then}

-- ---- what transactions have, and what the places have

log_goes : (old new : CoreState) (io : Io) → LogGoesOut old io new
    → new ≡ record (with_log_call old) { log = new.log }
log_goes old new io goes = goes.core
    ∙ ap (λ (log : Log). record (with_log_call old) { log = log }) (sym (ap (λ (core : CoreState). core.log) goes.core))

inst_goes : (old new : CoreState) (io : Io) → InstGoesOut old io new
    → new ≡ record (with_inst_call old) { log = new.log }
inst_goes old new io goes = goes.core
    ∙ ap (λ (log : Log). record (with_inst_call old) { log = log }) (sym (ap (λ (core : CoreState). core.log) goes.core))

pub out_preserved : (of : Side) (old new : CoreState) (io : Io) → goes_out of old io new → PreservesTransactions old new
out_preserved sides.Log old new io goes =
    only_log old new (old.log_calls + 1) old.inst_calls (log_goes old new io goes) goes.reads
out_preserved sides.Home old new io goes =
    only_log old new old.log_calls (old.inst_calls + 1) (inst_goes old new io goes) goes.reads

pub back_preserved : (of : Side) (old new : CoreState) (io : Io) (ok : Bool) → comes_back of old io ok new
    → PreservesTransactions old new
back_preserved sides.Log old new io ok back = only_log old new old.log_calls old.inst_calls back.core back.reads
back_preserved sides.Home old new io ok back = record {
  inodes = ap (λ (core : CoreState). core.inodes) back.core;
  begun = ap (λ (core : CoreState). core.begun) back.core;
  refused = ap (λ (core : CoreState). core.refused) back.core;
  out = ap (λ (core : CoreState). core.out) back.core;
  taken = back.leaves.holds;
  fetches = back.leaves.fetches;
  reads = back.reads;
  loaded = still_loaded old new back.leaves;
}

pub out_placed : (of : Side) (base : Image) (old new : CoreState) (io : Io) → goes_out of old io new
    → PreservesPlaces base old base new
out_placed sides.Log base old new io goes =
    log_places base old new (old.log_calls + 1) old.inst_calls (log_goes old new io goes)
    (subst (HasSameChanges old.log) (sym (ap (λ (core : CoreState). core.log) goes.core)) (log_out_same old.log))
out_placed sides.Home base old new io goes =
    log_places base old new old.log_calls (old.inst_calls + 1) (inst_goes old new io goes)
    (subst (HasSameChanges old.log) (sym (ap (λ (core : CoreState). core.log) goes.core)) (inst_out_same old.log))

pub back_placed : (base : Image) (old new : CoreState) (io : Io) (ok : Bool) → LogComesBack old io ok new
    → PreservesPlaces base old base new
back_placed base old new io ok back = log_places base old new old.log_calls old.inst_calls back.core
    (subst (HasSameChanges old.log) (sym back.log) (log_given_same old.log (is_log_out old.log io) ok))

-- the same store, where neither side has a call out
pub at_rest_is : (of : Side) (d : Device) (core : CoreState) → store_state_with of d core idle idle ≡ at_rest d core
at_rest_is sides.Log d core = refl
at_rest_is sides.Home d core = refl

-- ---- one call

-- What one call leaves: it was one call of the device, one of those that were left.
pub record HasMadeOne (of : Side) (old new : CoreState) (before after : Device) : Type 0 where
  pub later : OneLater before after
  pub called : HasCalled old.log before new.log after
  pub is_preserved : PreservesTransactions old new
  pub frame : SameFrame old new
  pub further : IsFurther old new
  pub numbers : SameNumbers old new
  pub nears : IsTurnOf of old.log → Nears old.log new.log

module _ (is_plan : ℕ → ℕ → List ObjectBytes → List ObjectBytes → Type 0) (old new : CoreState)
    (before after : Device) where
  abbrev pub One : Side → Type 0
  One of = MakesOne (goes_out of) (call_is_made of) (comes_back of) is_plan old before new after

  within : (of : Side) (one : One of) → IsCallWithin old.log.blocks one.io.call
  within sides.Log one = one.goes.within
  within sides.Home one = one.goes.within

  pub answered : (of : Side) (one : One of) → before.size ≡ old.log.blocks
      → IsAnswered (call_is_made of) before one.io one.ok after
  answered of one size =
      one.made.within (subst (λ (n : ℕ). IsCallWithin n one.io.call) (sym size) (within of one))

  module _ (lawful : IsLawful old.log) where
    called : (of : Side) (one : One of) → IsAnswered (call_is_made of) before one.io one.ok after
        → HasCalled old.log before new.log after
    called sides.Log one is =
        log_called old.log one.mid.log new.log before after one.io is.answer one.ok lawful (sym one.goes.may)
        (ap (λ (core : CoreState). core.log) one.goes.core) one.lawful.log one.goes.next is.ok_is one.back.log
        is.failure is.call
    called sides.Home one is =
        inst_called old.log one.mid.log new.log before after one.io is.answer one.ok lawful (sym one.goes.may)
        (ap (λ (core : CoreState). core.log) one.goes.core) one.lawful.log one.goes.next is.ok_is one.back.log
        is.failure is.call

    goes_on : (of : Side) (one : One of) → HasGoneOn old.log one.mid.log × HasGoneOn one.mid.log new.log
    goes_on sides.Log one = (
      subst (HasGoneOn old.log) (sym (ap (λ (core : CoreState). core.log) one.goes.core)) (seen_log_out old.log),
      subst (HasGoneOn one.mid.log) (sym one.back.log)
          (seen_log_done one.mid.log (is_log_out one.mid.log one.io) one.ok one.lawful.log),
    )
    goes_on sides.Home one = (
      subst (HasGoneOn old.log) (sym (ap (λ (core : CoreState). core.log) one.goes.core)) (seen_inst_out old.log),
      subst (HasGoneOn one.mid.log) (sym one.back.log)
          (seen_inst_done one.mid.log (is_inst_out one.mid.log one.io) one.ok one.lawful.log),
    )

    ends : (of : Side) (one : One of) → IsQuiet old.log → EndsSo old.log new.log
    ends sides.Log one quiet = log_ends old.log one.mid.log new.log one.io one.ok quiet.logging
        (ap (λ (core : CoreState). core.log) one.goes.core) one.goes.next one.back.log
    ends sides.Home one quiet = inst_ends old.log one.mid.log new.log one.io one.ok quiet.installing one.lawful.log
        (ap (λ (core : CoreState). core.log) one.goes.core) one.goes.next one.back.log

    nears : (of : Side) (one : One of) → old.log.log_out ≡ false → IsTurnOf of old.log → Nears old.log new.log
    nears sides.Log one quiet turn = log_nears old.log one.mid.log new.log one.io one.ok lawful (sym one.goes.may)
        (ap (λ (core : CoreState). core.log) one.goes.core) one.lawful.log one.goes.next one.back.log
    nears sides.Home one quiet turn = inst_nears old.log one.mid.log new.log one.io one.ok lawful (sym one.goes.may)
        turn quiet (ap (λ (core : CoreState). core.log) one.goes.core) one.lawful.log one.goes.next one.back.log

    pub made_one : (of : Side) (one : One of) → before.size ≡ old.log.blocks → IsQuiet old.log
        → HasMadeOne of old new before after
    made_one of one size quiet =
        let is = answered of one size in
        let is_preserved = preserved_then old one.mid new (out_preserved of old one.mid one.io one.goes)
        (back_preserved of one.mid new one.io one.ok one.back) in
        let on = goes_on of one in
        let end = ends of one quiet in
        record {
          later = made_later before one.io is.answer after is.call;
          called = called of one is;
          is_preserved = is_preserved;
          frame = record {
            blocks = on.1.blocks ∙ on.0.blocks;
            inodes = is_preserved.inodes;
            log_out = end.log_out;
            inst_out = end.inst_out;
          };
          further = record {
            begun = let same = is_preserved.begun in omega (arith, same);
            refused = let same = is_preserved.refused in omega (arith, same);
            places = let first = on.0.places in let last = on.1.places in omega (arith, first, last);
            positions = let same = end.positions in omega (arith, same);
            settled = let first = on.0.settled in let last = on.1.settled in omega (arith, first, last);
            broken = λ is. on.1.broken (on.0.broken is);
          };
          numbers = record { begun = is_preserved.begun; places = on.1.places ∙ on.0.places };
          nears = nears of one quiet.logging;
        }

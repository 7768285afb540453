-- An event that was taken leaves a run going, with its clock.
use Rattle.std.proofs.Common.{◌≡◌, ◌∙◌, sym, ap, subst, ℕ, ◌+◌, ◌-◌, ◌^◌, ◌<◌, ◌≤◌, arith, min}
use Rattle.std.proofs.Common.{Bool, true, false, if◌then◌else◌, List, [], ◌∷◌, ◌++◌, length, Option, count_by}
use Rattle.std.proofs.lemmas.List.Sums.{count_by-le-length, sum_by_push}
use Rattle.disk.specs.Blocks.{AreBlocks}
use Rattle.disk.specs.Device.{Device}
use Rattle.txn_law.specs.HomeRead.{HasContents}
use Rattle.store_promise.specs.declared.events.Step.{Step}
use Rattle.store_promise.specs.declared.transcript.Run.{Run}
use Rattle.store_promise.specs.FailedCalls.{one_if}
use Rattle.store_promise.specs.Running.{IsMovedBy, StoreState}
use Rattle.store_promise.specs.Transcript.{Transcript, calls_device, transcript_of}
use Rattle.store_law.specs.Runs.Tracing.{clock_now}
use Rattle.store_law.specs.Runs.Run.{Beginning, IsRun}
use Rattle.store_law.proofs.RunsLemmas.Stops.{clock_is}
use Rattle.store.specs.Runs.Going.{AreAtStage, IsGoing, IsRunAt, StoreAndWorkers}
use Rattle.store.specs.Runs.Running.{counted, one_more}
use Rattle.store_workers.specs.Worker.{Fits, GoesWith}
use Rattle.store_workers.specs.declared.workers.Worker.{Worker}
use Rattle.store_workers.specs.declared.workers.parts.State.{State}
use Rattle.txn.specs.Core.{CoreState}

-- the worker goes with the core that it fits
pub goes_with : (worker : Worker) (core : CoreState) → Fits worker core → GoesWith worker.state core
goes_with worker core fits = record {
  sound = record { transaction = worker.transaction; fetch = worker.fetch; ready = worker.ready };
  core_of = fits;
}

pub has_contents : (d : Device) → AreBlocks d → HasContents d
has_contents d blocks block within = blocks.some d.clock block (omega arith) within

-- the clock counts the calls
calls_are : (b : Beginning) (store : StoreState) (workers : List State) (clock : ℕ) (run_record : Run)
    → IsRunAt b (record { store = store; workers = workers; clock = clock }) run_record
    → clock ≡ count_by calls_device run_record.steps.items
calls_are b store workers clock run_record at =
    let moved = at.going.run.moved.calls in
    let is = at.clock in
    omega (arith, moved, is)

pub clock_is_counted : (b : Beginning) (store : StoreState) (workers : List State) (clock : ℕ) (run_record : Run)
    → IsRunAt b (record { store = store; workers = workers; clock = clock }) run_record
    → clock ≡ clock_now (transcript_of run_record)
clock_is_counted b store workers clock run_record at =
    calls_are b store workers clock run_record at ∙ sym (clock_is (transcript_of run_record))

few_calls : (b : Beginning) (store : StoreState) (workers : List State) (clock : ℕ) (run_record : Run)
    → IsRunAt b (record { store = store; workers = workers; clock = clock }) run_record
    → length run_record.steps.items + 1 < 2 ^ 64 → clock + 1 ≤ 2 ^ 64 - 1
few_calls b store workers clock run_record at few =
    let is = calls_are b store workers clock run_record at in
    let within = count_by-le-length calls_device run_record.steps.items in
    omega (arith, is, within, few)

one_more_is : (clock most : ℕ) → clock + 1 ≤ most → min (clock + 1) most ≡ clock + 1
one_more_is clock most few = omega (arith, few)

counted_is : (clock : ℕ) (made : Option Step) → clock + 1 ≤ 2 ^ 64 - 1
    → counted clock made ≡ clock + one_if (calls_device made)
counted_is clock made few = by_call (calls_device made)
  where
    by_call : (calls : Bool) → (if calls then one_more clock else clock) ≡ clock + one_if calls
    by_call true = one_more_is clock (2 ^ 64 - 1) few
    by_call false = omega arith

-- with an event that may be a call of the device
pub taken_on : (b : Beginning) (old new : StoreState) (workers later : List State) (clock next : ℕ)
    (made : Option Step) (before after : Run)
    → IsRunAt b (record { store = old; workers = workers; clock = clock }) before
    → length before.steps.items + 1 < 2 ^ 64 → next ≡ counted clock made → IsMovedBy old.device made new.device
    → IsGoing b new later after → IsRunAt b (record { store = new; workers = later; clock = next }) after
taken_on b old new workers later clock next made before after at few next_is moved going = record {
  going = going;
  clock =
      let was = at.clock in
      let calls = moved.calls in
      let is = next_is ∙ counted_is clock made (few_calls b old workers clock before at few) in
      omega (arith, was, calls, is);
}

-- so it is by the steps that were told
pub read_on : (b : Beginning) (old new : StoreState) (workers later : List State) (clock next : ℕ) (made : Option Step)
    (before after : Run) → IsRunAt b (record { store = old; workers = workers; clock = clock }) before
    → length before.steps.items + 1 < 2 ^ 64 → next ≡ counted clock made
    → after.steps.items ≡ before.steps.items ++ made ∷ []
    → IsGoing b new later after → IsRunAt b (record { store = new; workers = later; clock = next }) after
read_on b old new workers later clock next made before after at few next_is steps going = record {
  going = going;
  clock =
      let was = calls_are b old workers clock before at in
      let calls = going.run.moved.calls in
      let is = next_is ∙ counted_is clock made (few_calls b old workers clock before at few) in
      let count = ap (λ (xs : List (Option Step)). count_by calls_device xs) steps
      ∙ sum_by_push (λ one. one_if (calls_device one)) before.steps.items made in
      omega (arith, was, calls, is, count);
}

-- with one that is none
pub worked_on : (b : Beginning) (old new : StoreState) (workers later : List State) (clock next : ℕ)
    (before after : Run)
    → IsRunAt b (record { store = old; workers = workers; clock = clock }) before → next ≡ clock
    → new.device ≡ old.device → IsGoing b new later after
    → IsRunAt b (record { store = new; workers = later; clock = next }) after
worked_on b old new workers later clock next before after at next_is same going = record {
  going = going;
  clock =
      let was = at.clock in
      let clocks = ap (λ (d : Device). d.clock) same in
      omega (arith, was, clocks, next_is);
}

-- a run that told nothing more is as it was
pub untold : (b : Beginning) (run : StoreAndWorkers) (before after : Run) → transcript_of after ≡ transcript_of before
    → IsRunAt b run before → IsRunAt b run after
untold b run before after same at = record {
  going = record {
    setting = at.going.setting;
    base = at.going.base;
    last = at.going.last;
    run = subst (λ (t : Transcript). IsRun b at.going.setting t at.going.base run.store [] at.going.last)
        (sym same) at.going.run;
    so_far = subst (λ (t : Transcript). AreAtStage b at.going.base run.store.core t run.workers) (sym same)
        at.going.so_far;
  };
  clock = at.clock;
}

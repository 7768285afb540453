-- A call that one thread drives has its store alone.
use Rattle.std.proofs.Common.{◌≡◌, ◌∙◌, refl, sym, ap, subst, Bool, true, false, Option, Some, None, is_ok}
use Rattle.std.proofs.Common.{is_some, []}
use Rattle.std.specs.Prelude.{IsSomeAnd}
use Rattle.disk.specs.Device.{Device}
use Rattle.nfs_types.specs.declared.call.Call.{Call}
use Rattle.nfs_types.specs.declared.ctx.Ctx.{Ctx}
use Rattle.circ.specs.Log.Log.{IsLawful}
use Rattle.txn.specs.Core.{CoreState}
use Rattle.txn.specs.Fetch.{Fetch}
use Rattle.txn.specs.WellFormed.{IsWellFormed}
use Rattle.store_promise.specs.declared.events.Step.{Step}
use Rattle.store.proofs.Driven.{AfterLog, Came, full_plans, full_waits, stepped, waits_unplanned}
use Rattle.store.proofs.LogSpace.{log_space_after}
use Rattle.store_workers.proofs.LoneWorker.{never_deferred}
use Rattle.store_workers.proofs.StaysSingle.{same_taken, stays_single}
use Rattle.store_workers.specs.Single.{IsSingle, LeavesNothing, HasTakenInPlan, StaysSingle, is_full}
use Rattle.store_workers.specs.Knowing.{nothing_known}
use Rattle.store.specs.Driving.{IsUnder, has_log_space, waits_for_log}
use Rattle.store_images.specs.Fetches.{FetchesOnly, PreservesFetches, is_fetch_of}
use Rattle.store_workers.specs.Phases.{has_fetch, has_transaction}
use Rattle.store_workers.specs.Worker.{at_rest, with_call}
use Rattle.store_workers.specs.WorkerReads.{HasReadBlock}
use Rattle.store_workers.specs.WorkerSteps.{GoesOn, HasGivenBack, PreservesReadsOf, WorkerAndCore, worker_and_core}
use Rattle.store_workers.specs.declared.workers.parts.Phase.TheVariants.{Planning, Reading, Read}
use Rattle.store_workers.specs.declared.workers.parts.Phase.TheVariants.{Again}
use Rattle.store_workers.specs.declared.workers.parts.State.{State}

-- a worker that has just taken a call is alone where no fetch is pending
pub starts_single : (state : State) (core : CoreState) (ctx : Ctx) (call : Call)
    → state ≡ with_call ctx call at_rest → core.out ≡ [] → FetchesOnly None core → IsSingle state core
starts_single state core ctx call is out none = subst (λ (s : State). IsSingle s core) (sym is)
    (record { out = out; fetches = none; left = refl; plans = tt })

-- one that begins again has no fetch but its own
pub again_single : (made : Option Step) (mid state : State) (was core : CoreState) → StaysSingle made mid was
    → core.out ≡ was.out → PreservesFetches was core → state ≡ record mid { phase = Again; known = nothing_known }
    → IsSingle state core
again_single made mid state was core stays out preserves is = subst (λ (s : State). IsSingle s core) (sym is) (record {
  out = out ∙ stays.out;
  fetches = λ block. preserves block ∙ stays.fetches block;
  left = refl;
  plans = tt;
})

-- where it goes on, it is alone still, once the log was waited for
pub rest_single : (made : Option Step) (mid : State) (was core : CoreState) → StaysSingle made mid was
    → is_full made ≡ false → core.out ≡ was.out → PreservesFetches was core → (waited : Bool) → (waited ≡ false → core ≡ was)
    → (waited ≡ true → HasTakenInPlan mid.phase mid core) → IsSingle mid core
rest_single made mid was core stays has_space out preserves waited same plans = record {
  out = out ∙ stays.out;
  fetches = λ block. preserves block ∙ stays.fetches block;
  left = stays.left;
  plans = by waited refl;
}
  where
    by : (w : Bool) → waited ≡ w → HasTakenInPlan mid.phase mid core
    by true is = plans is
    by false is = subst (λ (c : CoreState). HasTakenInPlan mid.phase mid c) (sym (same is)) (stays.plans has_space)

-- a read changes nothing of it
pub read_single : (preserves : Type 0) (before after : Device) (mid read : State) (step_seen : Step) (core : CoreState)
    → mid.phase ≡ Reading → HasReadBlock preserves before mid step_seen after read → IsSingle mid core → IsSingle read core
read_single preserves before after mid read step_seen core reading has single_worker =
    subst (λ (s : State). IsSingle s core) (sym has.worker) (record {
      out = single_worker.out;
      fetches = λ block. single_worker.fetches block ∙ ap (λ (o : Option Fetch). is_fetch_of o block) has.io_is;
      left = subst (λ p. LeavesNothing p mid.known) reading single_worker.left;
      plans = same_taken mid now core core refl refl refl (λ job tx seen tx_is of_call. of_call)
          (subst (λ p. HasTakenInPlan p mid core) reading single_worker.plans);
    })
  where
    now : State
    now = record mid {
      phase = Read (is_ok has.answer);
      begun = record mid.begun { io = Some (record { block = has.io.block; content = has.content }) };
    }

-- and what was read is given back with room
pub given_log_space : (ok : Bool) (old new : WorkerAndCore) (made : Option Step) → GoesOn (Read ok) old made new
    → is_full made ≡ false
given_log_space ok old new None has = absurd has
given_log_space ok old new (Some made) has = by ok old.worker.begun.io has
  where
    by : (ok : Bool) (io : Option Fetch) → IsSomeAnd io (λ io. HasGivenBack ok io old made new)
        → is_full (Some made) ≡ false
    by ok None has = absurd has
    by true (Some io) has = ap (λ m. is_full (Some m)) has.made_is
    by false (Some io) has = ap (λ m. is_full (Some m)) has.made_is

pub given_single : (preserves : Type 0) (before after : Device) (mid read : State) (step_seen : Step) (core : CoreState)
    (new : WorkerAndCore) (last : Option Step) → mid.phase ≡ Reading → HasReadBlock preserves before mid step_seen after read
    → IsSingle mid core → IsWellFormed core → is_some read.begun.tx ≡ has_transaction read.phase
    → is_some read.begun.io ≡ has_fetch read.phase → GoesOn read.phase (worker_and_core read core) last new
    → PreservesReadsOf (worker_and_core read core) new → IsSingle new.worker new.core
given_single preserves before after mid read step_seen core new last reading has single_worker well_formed out fetch goes stays =
    let here = read_single preserves before after mid read step_seen core reading has single_worker in
    let then_ = stays_single (worker_and_core read core) new well_formed here.out here.fetches stays read.phase last refl out
    fetch here.plans here.left goes in
    let has_space = given_log_space (is_ok has.answer) (worker_and_core read core) new last
    (subst (λ p. GoesOn p (worker_and_core read core) last new) (ap (λ (s : State). s.phase) has.worker) goes) in
    record { out = then_.out; fetches = then_.fetches; left = then_.left; plans = then_.plans has_space }

-- ---- a round

-- What a step of a worker that is alone comes to, and what the log has after it was waited for.
pub record Round (old : WorkerAndCore) (made : Option Step) (mid : WorkerAndCore) (core : CoreState) : Type 0 where
  pub came : Came old.worker.phase old made mid
  pub stays : StaysSingle made mid.worker mid.core
  pub log : AfterLog (waits_for_log made) mid.core core

pub round : (old mid : WorkerAndCore) (made : Option Step) (core : CoreState)
    → is_some old.worker.begun.tx ≡ has_transaction old.worker.phase
    → is_some old.worker.begun.io ≡ has_fetch old.worker.phase → IsWellFormed old.core
    → IsSingle old.worker old.core → IsUnder old.worker.phase old.core → GoesOn old.worker.phase old made mid
    → PreservesReadsOf old mid → AfterLog (waits_for_log made) mid.core core → Round old made mid core
round old mid made core out fetch well_formed single_worker under goes preserves log = record {
  came = stepped old.worker.phase old mid made under single_worker.plans
      single_worker.left (never_deferred old mid well_formed single_worker.out single_worker.fetches old.worker.phase made fetch single_worker.plans
      single_worker.left goes) goes;
  stays = stays_single old mid well_formed single_worker.out single_worker.fetches preserves old.worker.phase made refl out fetch
      single_worker.plans single_worker.left goes;
  log = log;
}

module _ (old : WorkerAndCore) (made : Option Step) (mid : WorkerAndCore) (core : CoreState) (r : Round old made mid core) where
  pub log_space_then : is_full made ≡ true → IsLawful core.log → has_log_space core.log ≡ true
  log_space_then off lawful =
      log_space_after core.log lawful (r.log.done (full_waits old.worker.phase old made mid refl r.came off))

  pub full_single : is_full made ≡ true → (state : State)
      → (mid.worker.phase ≡ Planning → state ≡ record mid.worker { phase = Again; known = nothing_known }) → IsSingle state core
  full_single off state set = again_single made mid.worker state mid.core core r.stays r.log.out r.log.fetches
      (set (full_plans old.worker.phase old made mid refl r.came off))

  pub goes_single : is_full made ≡ false → IsSingle mid.worker core
  goes_single off = rest_single made mid.worker mid.core core r.stays off r.log.out r.log.fetches
      (waits_for_log made) r.log.same (λ log. waits_unplanned old.worker.phase old made mid refl r.came off
      log mid.worker core)

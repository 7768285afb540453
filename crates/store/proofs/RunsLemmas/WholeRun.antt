-- A whole run: what begins it, what an event that was taken leaves of it, and its promise at the end.
use Rattle.std.proofs.Common.{◌≡◌, ◌∙◌, refl, sym, ap, subst, ℕ, zero, suc, ◌+◌, All, List, [], ◌∷◌, ◌++◌, length, alloc_error}
use Rattle.std.proofs.Common.{Some, None, slice_get, true≢false, nat_eq, inl, arith}
use Rattle.std.specs.List.{list_any}
use Rattle.std.proofs.lemmas.List.Elements.{All-head, All-nil, All-tail}
use Rattle.disk.specs.Blocks.{AreBlocks}
use Rattle.disk.specs.Crash.{Image, IsCrashImage}
use Rattle.disk.specs.Device.{Device}
use Rattle.disk.specs.declared.block.BlockNo.{BlockNo}
use Rattle.layout.specs.Geometry.{IsLawful}
use Rattle.nfs_spec.specs.Model.Tree.{Tree}
use Rattle.txn_law.specs.Core.{CoreState}
use Rattle.txn_law.specs.Fetch.{Fetch}
use Rattle.txn_law.specs.Present.{is_pending, present_of}
use Rattle.objects.specs.declared.present.Present.{Present}
use Rattle.store_promise.specs.declared.events.Event.{Event}
use Rattle.store_promise.specs.declared.transcript.Run.{Run}
use Rattle.store_promise.specs.Headline.{PreservesPromise, MayRun}
use Rattle.store_promise.specs.Openings.{IsRefused, LeavesImages}
use Rattle.store_promise.specs.declared.fault.OpenFault.TheVariants as fault
use Rattle.store_promise.proofs.Later.{past_none}
use Rattle.store_promise.specs.Running.{IsFetchOver, StoreState, at_rest}
use Rattle.store_promise.specs.Schedule.{Schedule, Setting}
use Rattle.store_promise.specs.Transcript.{Transcript, transcript_of}
use Rattle.store_law.specs.Runs.Run.{Beginning, IsRun}
use Rattle.store.specs.Runs.AtWork.{IsAtWork}
use Rattle.store_images.specs.Fetches.{FetchesOnly}
use Rattle.store.specs.Runs.Going.{AreAtStage, HasGone, IsGoing, IsAtStage, LeavesGoing, StoreAndWorkers, begins}
use Rattle.store.specs.Runs.Running.{AreQuiet, IsAtRest, store_state_of, states_of}
use Rattle.store_workers.specs.Unaffected.{IsFetchAt, IsFetchedBy, IsOneOf, ShareCore}
use Rattle.store_workers.specs.Worker as worker
use Rattle.store.specs.declared.runs.runs.run_events.Calls.{Calls}
use Rattle.store_workers.specs.declared.workers.Worker.{Worker}
use Rattle.store_workers.specs.declared.workers.parts.State.{State}
use Rattle.store_images.proofs.Later.{some_image}
use Rattle.store_images.proofs.LogSteps.{none_out}

-- ---- the beginning

abbrev pub fresh_transcript : ℕ → Transcript
fresh_transcript boot = record { boot = boot; history = []; answers = []; steps = [] }

none_fetched : (core : CoreState) → core.present ≡ [] → FetchesOnly None core
none_fetched core none block = ap (λ (present : List Present). is_pending (present_of present block)) none

new_at_work : (core : CoreState) → IsLawful core.log.blocks core.inodes
    → IsAtWork worker.at_rest core
new_at_work core lawful = record {
  with = record {
    sound = record { transaction = refl; fetch = refl; ready = refl };
    core_of = record { out = tt; reads = tt; lawful = lawful };
  };
  plans = tt;
  loads = tt;
  traces = tt;
}

module _ (core : CoreState) (workers : List State) (out : core.out ≡ []) (none : core.present ≡ [])
    (rest : (number : ℕ) (one : State) → IsOneOf workers number one → one ≡ worker.at_rest) where
  no_tx : (number tx : ℕ) (one : State) → IsOneOf workers number one → one.begun.tx ≡ Some tx → ⊥
  no_tx number tx one is has =
      let never : None ≡ Some tx = sym (ap (λ (s : State). s.begun.tx) (rest number one is)) ∙ has in cc

  no_io : (number : ℕ) (block : BlockNo) (one : State) → IsOneOf workers number one
      → IsFetchAt block one.begun.io → ⊥
  no_io number block one is at =
      subst (IsFetchAt block) (ap (λ (s : State). s.begun.io) (rest number one is)) at

  share_first : ShareCore core workers
  share_first = record {
    out = λ tx is. absurd (true≢false (sym is
        ∙ ap (λ (ts : List ℕ). list_any (λ other. nat_eq other tx) ts) out));
    one_owner = λ one other tx a b a_is b_is a_tx b_tx. absurd (no_tx one tx a a_is a_tx);
    begun = λ number tx one is has. absurd (no_tx number tx one is has);
    pending = λ block is. absurd (true≢false (sym is ∙ none_fetched core none block));
    fetched = λ number one is. subst (λ (s : State). IsFetchedBy core s.begun.io) (sym (rest number one is)) tt;
    once = λ one other block a b a_is b_is a_at b_at. absurd (no_io one block a a_is a_at);
  }

module _ (b : Beginning) (o : Setting) (base : Image) (core : CoreState) (workers : List State) (boot : ℕ)
    (calls : Calls) (run_record : Run) (run : IsRun b o (fresh_transcript (b.first + 1)) base
    (at_rest b.opened core) [] b.tree)
    (out : core.out ≡ []) (none : core.present ≡ []) (boot_is : boot ≡ b.first + 1)
    (calls_are : AreQuiet calls) (boot_begun : run_record.boot ≡ boot)
    (empty : (run_record.history.items ≡ []) × (run_record.answers.items ≡ []) × (run_record.steps.items ≡ []))
    (count : length workers ≡ b.workers)
    (rest : (number : ℕ) (one : State) → IsOneOf workers number one → one ≡ worker.at_rest)
    (lawful : IsLawful core.log.blocks core.inodes) where
  transcript_is_fresh : transcript_of run_record ≡ fresh_transcript (b.first + 1)
  transcript_is_fresh = λ i. record {
    boot = (boot_begun ∙ boot_is) i;
    history = empty.0 i;
    answers = empty.1 i;
    steps = empty.2 i;
  }

  first_so : (number : ℕ) (one : State) → IsOneOf workers number one
      → IsAtStage b base core (fresh_transcript (b.first + 1)) number one
  first_so number one is =
      subst (λ (s : State). IsAtStage b base core (fresh_transcript (b.first + 1)) number s) (sym (rest number one is)) (record {
        stands = record { entry = refl; answer = refl; stands = tt };
        at_work = new_at_work core lawful;
        progress = refl;
        fetched = All-nil (IsFetchOver base core);
      })

  quiet_is : store_state_of b.opened core calls ≡ at_rest b.opened core
  quiet_is = λ i. record {
    device = b.opened;
    core = core;
    logging = none_out calls.logger.io calls.logger.made calls_are.0 i;
    installing = none_out calls.installer.io calls.installer.made calls_are.1 i;
  }

  pub first_going : IsGoing b (store_state_of b.opened core calls) workers run_record
  first_going = record {
    setting = o;
    base = base;
    last = b.tree;
    run = subst (λ (side : StoreState). IsRun b o (transcript_of run_record) base side [] b.tree) (sym quiet_is)
        (subst (λ (t : Transcript). IsRun b o t base (at_rest b.opened core) [] b.tree) (sym transcript_is_fresh) run);
    so_far = subst (λ (t : Transcript). AreAtStage b base core t workers) (sym transcript_is_fresh) (record {
      count = count;
      each = first_so;
      share = share_first core workers out none rest;
    });
  }

-- each of those is at rest
pub all_at_rest : (workers : List Worker) → All IsAtRest workers → (number : ℕ) (one : State)
    → IsOneOf (states_of workers) number one → one ≡ worker.at_rest
all_at_rest [] all number one is = cc
all_at_rest (first ∷ later) all zero one is =
    let same : first.state ≡ one = cc in sym same ∙ All-head IsAtRest first later all
all_at_rest (first ∷ later) all (suc number) one is =
    all_at_rest later (All-tail IsAtRest first later all) number one is

-- ---- an event

pub next_is : (yielded rest : List Event) (event : Event)
    → slice_get (yielded ++ event ∷ rest) (length yielded) ≡ Some event
next_is [] rest event = refl
next_is (first ∷ yielded) rest event = next_is yielded rest event

module _ (before : Device) (tree : Tree) (first workers : ℕ) (events : Schedule) where
  pub gone_on : (keeps_model : Type 0) (now : Event) (old new : StoreAndWorkers) (run_record later : Run)
      (yielded rest : List Event)
      → keeps_model → MayRun keeps_model before tree first events → events ≡ yielded ++ now ∷ rest
      → length run_record.steps.items ≡ length yielded → HasGone before tree first workers events old run_record
      → LeavesGoing keeps_model now old run_record new later → HasGone before tree first workers events new later
  gone_on keeps_model now old new run_record later yielded rest preserves may events_are steps_are gone leaves =
      let there : slice_get events (length yielded) ≡ Some now =
      ap (λ (es : Schedule). slice_get es (length yielded)) events_are ∙ next_is yielded rest now in
      record {
        opened = gone.opened;
        at = leaves (begins before gone.opened tree first workers events) preserves (record {
          next = ap (λ (n : ℕ). slice_get events n) steps_are ∙ there;
          sound = may.sound (length yielded) now there;
        }) gone.at;
      }

  -- ---- the end
  pub promise_preserved : (run : StoreAndWorkers) (run_record : Run) → AreBlocks run.store.device
      → HasGone before tree first workers events run run_record
      → ((b : Beginning) (o : Setting) (t : Transcript) (base : Image) (side : StoreState) (fetches : List Fetch)
      (last : Tree) → IsRun b o t base side fetches last → LeavesImages b.before side.device
      → PreservesPromise b.before side.device b.tree b.first b.workers b.events t)
      → PreservesPromise before run.store.device tree first workers events (transcript_of run_record)
  promise_preserved run run_record blocks gone law =
      let going = gone.at.going in
      law (begins before gone.opened tree first workers events) going.setting (transcript_of run_record) going.base
      run.store _ going.last
      going.run (some_image before run.store.device blocks)

-- ---- want of memory before anything was done

pub refused_before : (keeps_model : Type 0) (before : Device) (tree : Tree) (first : ℕ) (events : Schedule)
    → AreBlocks before → MayRun keeps_model before tree first events
    → IsRefused before before tree first (fault.NoMemory alloc_error)
refused_before keeps_model before tree first events blocks may = record {
  past = past_none before;
  left = some_image before before blocks;
  preserves = λ clock image above below crash.
      let now : clock ≡ before.clock = omega (arith, above, below) in record {
        boot = first;
        boot_is = inl refl;
        good = may.good image (subst (λ (n : ℕ). IsCrashImage before n image) now crash);
      };
  because = refl;
}

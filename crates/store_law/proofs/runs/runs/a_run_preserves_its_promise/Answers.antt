-- Each stop was one so far, or is one now; and what was promised to last was told as settled.
use Rattle.std.proofs.Common.{◌≡◌, ◌⊎◌, inl, inr, ℕ, ◌+◌, ◌<◌, ◌≤◌, ap, sym, ◌∙◌, subst, List}
use Rattle.disk.specs.Crash.{Image, IsCrashImage}
use Rattle.nfs_spec.specs.Model.Tree.{Tree}
use Rattle.txn_law.specs.Fetch.{Fetch}
use Rattle.store_promise.specs.Changes.{ChangeTheirOwn}
use Rattle.store_promise.specs.Headline.{IsGeometryOf, LeavesFiles, WasPromised}
use Rattle.store_promise.specs.LogState.{state_settled}
use Rattle.store_promise.specs.OpenSince.{LeavesBlocks}
use Rattle.store_promise.specs.Running.{StoreState}
use Rattle.store_promise.specs.Schedule.{Setting}
use Rattle.store_promise.specs.Transcript.{Transcript, entries_of}
use Rattle.circ.specs.Log.Log.{settled_place}
use Rattle.store_law.specs.Runs.Tracing.{state_now}
use Rattle.store_law.specs.Runs.Past.{LeavesSoFar, WasSettledBy}
use Rattle.store_law.specs.Runs.Run.{Beginning, IsRun}
use Rattle.store_law.proofs.RunsLemmas.Promised.{was_settled}
use Rattle.store_law.proofs.RunsLemmas.Stops.{clock_is, either, left_now}
use Rattle.store_law.proofs.runs.runs.a_run_preserves_its_promise.Goals as goal

module _ (b : Beginning) (o : Setting) (t : Transcript) (base : Image) (store_state : StoreState) (fetches : List Fetch)
    (last : Tree) (run : IsRun b o t base store_state fetches last)
    (settled_is : state_settled (state_now b.events t).log ≡ settled_place store_state.core.log)
    (now : (image : Image) → IsCrashImage store_state.device store_state.device.clock image
    → LeavesBlocks base store_state.core (b.first + 1) b.tree (entries_of t) image)
    (settled_then : (clock place : ℕ) → WasPromised b.events b.opened.clock t clock place
    → WasSettledBy b.events b.opened.clock t clock place) where
  abbrev Left : ℕ → Image → Type 0
  Left clock image = LeavesSoFar b.opened.size b.first b.tree b.events b.opened.clock t o.blocks clock image

  so_far : (clock : ℕ) (image : Image) → b.before.clock ≤ clock → IsCrashImage store_state.device clock image
      → (clock < store_state.device.clock) ⊎ (clock ≡ store_state.device.clock) → Left clock image
  so_far clock image from crash (inl early) = run.past clock image from early crash
  so_far clock image from crash (inr at) =
      subst (λ (n : ℕ). Left n image) (sym at)
      (left_now b o t base store_state fetches last run image
      (now image (subst (λ (n : ℕ). IsCrashImage store_state.device n image) at crash)) settled_is)

  promised : (clock : ℕ) (image : Image) → Left clock image
      → LeavesFiles b.opened.size b.first b.tree b.events b.opened.clock t o.blocks clock image
  promised clock image left = record {
    prefix = record {
      boot = left.prefix.boot;
      boot_is = left.prefix.boot_is;
      left = left.prefix.left;
      good = left.prefix.good;
      count = left.prefix.count;
      few = left.prefix.few;
      prefix = left.prefix.prefix;
      lasts = λ place was. left.prefix.lasts place (settled_then clock place was);
    };
    homes = left.homes;
  }

  pub each_stop : (clock : ℕ) (image : Image) → b.before.clock ≤ clock → clock ≤ store_state.device.clock
      → IsCrashImage store_state.device clock image
      → LeavesFiles store_state.device.size b.first b.tree b.events b.opened.clock t o.blocks clock image
  each_stop clock image from to crash =
      subst (λ (size : ℕ). LeavesFiles size b.first b.tree b.events b.opened.clock t o.blocks clock image)
      (sym run.moved.past.size)
      (promised clock image (so_far clock image from crash (either clock store_state.device.clock to)))

pub returns : goal.returns
returns c = λ b o t base store_state fetches last run left.
    let settled_is = ap (λ log. state_settled log) run.is_run_state.log
    ∙ c.log_state_has_what_is_settled.ensures o.position store_state.core.log store_state.logging store_state.installing
    run.running.since.over.lawful in
    let now : (image : Image) → IsCrashImage store_state.device store_state.device.clock image
    → LeavesBlocks base store_state.core (b.first + 1) b.tree (entries_of t) image =
    λ image crash. c.a_stop_leaves_a_beginning.ensures.blocks base store_state.device store_state.core store_state.logging
    store_state.installing (b.first + 1) b.tree last (entries_of t) image run.running.since crash in
    record {
      opened = b.opened;
      setting = o;
      opens = record {
        is = run.opens;
        geometry = subst (λ (size : ℕ). IsGeometryOf size b.tree o.geometry)
            (sym run.moved.past.size) run.geometry;
        past = run.moved.past;
      };
      calls = record {
        clock = run.moved.calls ∙ ap (λ (n : ℕ). b.opened.clock + n) (sym (clock_is t));
        failures = run.moved.failures;
        failures_match = run.moved.failures_match;
        did = run.did;
      };
      stops = record {
        some = left;
        each = each_stop b o t base store_state fetches last run settled_is now
            (λ clock place was. was_settled o b.workers b.events t b.tree last run.well.taken run.well.history
            run.well.answers run.leads c.no_stable_answer_tells_a_failure.ensures.io b.opened.clock
            clock place was);
      };
      replies = record {
        last = last;
        leads = run.leads;
        boot = run.boot;
        history = run.well.history;
        answers = run.well.answers;
        taken = run.well.taken;
        files = run.files;
        changes = subst (λ (size : ℕ). ChangeTheirOwn size b.events t o.blocks)
            (sym run.moved.past.size) run.changes;
      };
    }

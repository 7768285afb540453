use Rattle.std.proofs.Common.{◌∙◌, ℕ, ◌+◌, ◌++◌, ◌∷◌, List, [], ap, length, subst, sym}
use Rattle.txn_law.specs.Fetch.{Fetch}
use Rattle.store_promise.specs.OpenSince.{file_blocks}
use Rattle.store_promise.specs.Running.{IsFetchOver, IsRunningOver, with_blocks}
use Rattle.std.proofs.lemmas.List.Elements.{All-nil}
use Rattle.store.proofs.RunsLemmas.AtWorkGoes.{none_left, sound_core, takes_place}
use Rattle.store.proofs.RunsLemmas.AtWorkAgrees.{leaves_log_unchanged}
use Rattle.store.specs.Runs.AtWork.{entry_by, fetches_of, with_core}
use Rattle.store_workers.specs.WorkerSteps.{worker_and_core}
use Rattle.store.proofs.runs.at_work.a_worker_leaves_the_run_going.Goals as goal

pub returns-clause-log_unchanged : goal.returns-clause-log_unchanged
returns-clause-log_unchanged c =
    λ o base store worker new boot first last entries made run goes preserves lawful well_formed none.
    let old = worker_and_core worker store.core in
    let log_unchanged = leaves_log_unchanged old new made goes none in
    let sound = sound_core base old new preserves run.fetched run.since.over.files.home lawful well_formed in (
      subst (λ (fetches : List Fetch). IsRunningOver o base (with_core store new.core) fetches boot
          first entries last) (sym (none_left old new made goes))
          (c.a_worker_preserves_the_run_going.ensures.log_unchanged o base store.device store.core new.core store.logging
          store.installing (fetches_of worker) [] boot first last entries run log_unchanged sound
          (All-nil (IsFetchOver base new.core))),
      log_unchanged,
    )

pub returns-clause-committed : goal.returns-clause-committed
returns-clause-committed c =
    λ o base store worker new boot number first last entries made run goes preserves lawful well_formed worker_at has.
    let old = worker_and_core worker store.core in
    let sound = sound_core base old new preserves run.fetched run.since.over.files.home lawful well_formed in
    let taken = takes_place old new boot number entries made goes worker_at has in
    let entry = entry_by number taken.entry in
    let left = c.a_worker_preserves_the_run_going.ensures.commit o base store.device store.core
    new.core store.logging
    store.installing (fetches_of worker) [] boot first last entries taken.tx taken.place taken.plan entry
    run taken.took
    sound taken.tells (All-nil (IsFetchOver base new.core)) in
    record {
      taken = taken;
      next = taken.took.next ∙ ap (λ (n : ℕ). n + 1) (sym run.since.counted);
      left = left.0;
      goes = left.1;
      runs = subst (λ (fetches : List Fetch). IsRunningOver
          (with_blocks o (length entries) (file_blocks base new.core)) base
          (with_core store new.core) fetches boot first (entries ++ entry ∷ []) left.0)
          (sym (none_left old new made goes)) left.2;
      writes = c.a_worker_preserves_the_run_going.ensures.writes o base store.device store.core
          new.core store.logging
          store.installing (fetches_of worker) boot first last entries taken.tx taken.place taken.plan
          run taken.took;
    }

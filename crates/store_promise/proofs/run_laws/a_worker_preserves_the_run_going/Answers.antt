use Rattle.std.proofs.Common.{◌+◌, ◌≤◌, ap, sym, ◌∙◌, subst, arith, length, length-append}
use Rattle.circ.proofs.LogLemmas.Tail.{tail_length}
use Rattle.circ.specs.Log.Log.{blocks_of, new_blocks, tail_blocks}
use Rattle.txn_law.specs.Core.{CoreState}
use Rattle.store_promise.specs.LogStateOf.{StandsAtHome}
use Rattle.store_promise.proofs.OpenCommits.{blocks_now}
use Rattle.store_promise.proofs.OpenSteps.{same_changes}
use Rattle.store_promise.proofs.Places.{placed_on, same_places, stay_placed}
use Rattle.store_promise.proofs.LogStateIs.{stands_after_commit}
use Rattle.store_promise.proofs.run_laws.a_worker_preserves_the_run_going.Goals as goal

pub returns-clause-log_unchanged : goal.returns-clause-log_unchanged
returns-clause-log_unchanged c =
    λ o base d old new logging installing fetches left boot first last entries run log_unchanged sound brought.
    record {
      since = c.a_transaction_leaves_the_store_open.ensures base d old new logging installing boot
          first last entries run.since log_unchanged sound;
      position = subst (λ log. o.position ≤ log.start + length log.changes) (sym log_unchanged.log) run.position;
      blocks = run.blocks ∙ sym (ap (λ log. log.blocks) log_unchanged.log);
      inodes = run.inodes ∙ sym log_unchanged.inodes;
      newest = run.newest;
      stands = subst StandsAtHome (sym log_unchanged.log) run.stands;
      fetched = brought;
      placed = stay_placed o base base old new (same_places base old new
          (record {
            log = same_changes old.log new.log log_unchanged.log;
            inodes = log_unchanged.inodes;
            records = log_unchanged.records;
            boot = log_unchanged.boot;
          })) run.placed;
    }

pub returns-clause-read : goal.returns-clause-read
returns-clause-read c =
    λ o base d later core logging installing fetches read boot first last entries run has brought.
    record {
      since = c.a_read_leaves_the_store_open.ensures base d later core logging installing boot
          first last entries run.since has;
      position = run.position;
      blocks = run.blocks;
      inodes = run.inodes;
      newest = run.newest;
      stands = run.stands;
      fetched = brought;
      placed = run.placed;
    }

pub returns-clause-commit : goal.returns-clause-commit
returns-clause-commit c =
    λ o base d old new logging installing fetches left boot first last entries tx place plan entry
    run took sound tells brought.
    let transition = c.a_commit_leaves_the_store_open.ensures base d old new logging installing boot first
    last entries tx
    place plan entry run.since took sound tells in
    let grown = took.group.grown in (
      transition.0,
      transition.1,
      record {
        since = transition.2;
        position =
            let before = run.position in
            let logged = grown.logged in
            let taken = grown.taken in
            let starts = took.still.start in
            let tail = ap length took.group.seen.tail in
            let more = length-append (tail_blocks old.log) (new_blocks (tail_blocks old.log)
            (blocks_of took.group.group)) in
            let held = tail_length old.log in
            let holds = tail_length new.log in
            let within = run.since.over.lawful.taken_within in
            omega (arith, before, logged, taken, starts, tail, more, held, holds, within);
        blocks = run.blocks ∙ sym took.still.blocks;
        inodes = run.inodes ∙ sym (ap (λ (core : CoreState). core.inodes) took.only);
        newest = run.newest;
        stands = stands_after_commit old.log new.log took.group.group run.since.over.lawful grown
            took.still run.stands;
        fetched = brought;
        placed = placed_on o base d old new logging installing boot first last entries tx place plan
            run.since took run.placed;
      },
    )

pub returns-clause-writes : goal.returns-clause-writes
returns-clause-writes c =
    λ o base d old new logging installing fetches boot first last entries tx place plan run took.
    blocks_now base d old new logging installing boot first last entries tx place plan run.since took

-- What came of a run, by what it answered.
use Rattle.std.proofs.Common.{ℕ, Result, Ok, Err}
use Rattle.std.specs.Prelude.{MatchResult}
use Rattle.disk.specs.Device.{Device}
use Rattle.nfs_spec.specs.Model.Tree.{Tree}
use Rattle.store_promise.specs.declared.fault.OpenFault.{OpenFault}
use Rattle.store_promise.specs.declared.transcript.Run.{Run}
use Rattle.store_promise.specs.Headline.{ComesOfRun, IsPromised, MayRun}
use Rattle.store_promise.specs.Schedule.{Schedule}
use Rattle.store_promise.specs.Transcript.{report_of}
use Rattle.store.specs.Runs.FormattedRun.{answer_of}

pub is_answered : (keeps_model : Type 0) (before later : Device) (tree : Tree) (first workers : ℕ)
    (events : Schedule) (answer : Result Run OpenFault)
    → MatchResult answer
    (λ run_record. IsPromised keeps_model before later tree first workers events (Ok (report_of run_record)))
    (λ fault. IsPromised keeps_model before later tree first workers events (Err fault))
    → MayRun keeps_model before tree first events
    → ComesOfRun before later tree first workers events (answer_of answer)
is_answered keeps_model before later tree first workers events (Ok run_record) promised may = promised may
is_answered keeps_model before later tree first workers events (Err fault) promised may = promised may

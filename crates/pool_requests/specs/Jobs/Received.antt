-- What comes of a record of a connection before any transaction.
use Rattle.std.specs.Prelude.{◌≡◌, ℕ, List, true}
use Rattle.nfs_spec.specs.Model.Calls.{begins_transaction}
use Rattle.session_wire.specs.Judging.{judged}
use Rattle.session_wire.specs.declared.message.Judged.TheVariants as judgement
use Rattle.pool_requests.specs.declared.jobs.received.Received.{Received}
use Rattle.pool_requests.specs.declared.jobs.received.Received.TheVariants as received

-- what a record of a connection is received as
abbrev pub IsReceived : ℕ → ℕ → List ℕ → Received → Type 0
IsReceived key number message received.Closed = judged message ≡ judgement.Closed
IsReceived key number message (received.Answered replied) = (replied.key ≡ key) × (replied.number ≡ number)
    × (replied.message ≡ message)
IsReceived key number message (received.Job job) = (job.key ≡ key) × (job.number ≡ number)
    × (job.message.value ≡ message) × (begins_transaction job.call ≡ true)

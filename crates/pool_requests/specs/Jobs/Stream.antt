-- The stream of a connection, and the records of it that were received.
use Rattle.std.specs.Prelude.{◌≡◌, ℕ, List, [], ◌∷◌, ◌++◌, map}
use Rattle.pool_requests.specs.declared.jobs.received.Received.{Received}
use Rattle.pool_requests.specs.Jobs.Received.{IsReceived}

-- a connection's key and number; what came of its stream; the records that were received, in their order; what is left
pub record CutStream : Type 0 where
  pub key : ℕ
  pub number : ℕ
  pub came : List ℕ
  pub received : List (List ℕ)
  pub left : List ℕ

abbrev pub records_of : List (List ℕ × Unit {0}) → List (List ℕ)
records_of traced = map (λ one. one.0) traced

-- One record more is received, and as this.
pub record ReceivesNext (old : CutStream) (received : Received) (new : CutStream) : Type 0 where
  pub message : List ℕ
  pub is : IsReceived old.key old.number message received
  pub rest : new ≡ record old { received = old.received ++ message ∷ []; left = new.left }

-- what was read so far is fragments that aren't the last one, and the record has what they hold
use Rattle.std.proofs.Common.{◌≡◌, ℕ, ◌+◌, ◌*◌, ◌≤◌, List, length}
use Rattle.plain_once.specs.Session.Records.{Begins, joined}
use Rattle.plain_once.proofs.session.records.first_record.Given as goal

pub record SoFar (stream now content : List ℕ) (taken : ℕ) : Type 0 where
  pub parts : List (List ℕ)
  pub begins : Begins stream parts now
  pub held : content ≡ joined parts
  pub counted : 4 * taken + length now ≤ length stream

abbrev pub invariant-loop-taken : goal.invariant-loop-taken
invariant-loop-taken l = SoFar l.stream l.reader l.record.items l._taken

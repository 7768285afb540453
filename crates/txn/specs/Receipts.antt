-- What a receipt shows.
use Rattle.circ.specs.declared.log.outcomes.Seq.{Seq}

-- what a receipt was given for: the place of a commit, and the change that took it
pub record Given (C : Type 0) : Type 0 where
  pub place : Seq
  pub change : C

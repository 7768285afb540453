use Rattle.std.proofs.lemmas.Slice.Eq.{slice_eq-Decides}
use Rattle.sim_stops.proofs.Lines.{line_decides}
use Rattle.sim_stops.proofs.wanted.is_same.Goals as goal

pub returns : goal.returns
returns c = slice_eq-Decides line_decides _ _ _ c.eq.ensures

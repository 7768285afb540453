use Rattle.plain_once.proofs.SessionLemmas.Pieces.{at_once}
use Rattle.plain_once.proofs.session.session_laws.pieces_come_to_one.Goals as goal

pub returns : goal.returns
returns c = at_once

use Rattle.plain_once.proofs.SessionLemmas.Sound.{fresh, is_preserved}
use Rattle.plain_once.proofs.session.session_laws.sessions_keep_files_sound.Goals as goal

pub returns-clause-fresh : goal.returns-clause-fresh
returns-clause-fresh c = fresh

pub returns-clause-is_preserved : goal.returns-clause-is_preserved
returns-clause-is_preserved c = is_preserved

use Rattle.nfs_spec.proofs.ProceduresLemmas.Stale.{history_stale}
use Rattle.nfs_spec.proofs.procedures.handles.a_stale_handle_stays_stale.Goals as goal

pub returns : goal.returns
returns c tree next entries handle stale none leads = history_stale tree next entries handle stale none leads

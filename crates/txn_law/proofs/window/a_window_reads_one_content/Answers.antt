use Rattle.std.proofs.Common.{sym, ◌∙◌}
use Rattle.txn_law.proofs.window.a_window_reads_one_content.Goals as goal

pub returns : goal.returns
returns c = λ log held place addr one other differ window. differ (sym window.1.follow.0.0
    ∙ window.1.follow.1.0.0)

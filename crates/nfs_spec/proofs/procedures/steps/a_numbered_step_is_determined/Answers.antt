use Rattle.std.proofs.Common.{sym, ap, ◌∙◌}
use Rattle.nfs_spec.proofs.ProceduresLemmas.Answer.{is_answer}
use Rattle.nfs_spec.proofs.procedures.steps.a_numbered_step_is_determined.Goals as goal

pub returns : goal.returns
returns c tree next other ctx new asked reply another one two =
    let same = is_answer tree ctx new asked reply next one
    ∙ sym (is_answer tree ctx new asked another other two) in
    (ap (λ p. p.0) same, ap (λ p. p.1) same)

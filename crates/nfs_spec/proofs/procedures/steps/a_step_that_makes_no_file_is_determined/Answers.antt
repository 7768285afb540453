use Rattle.std.proofs.Common.{sym, ap, ◌∙◌}
use Rattle.nfs_spec.proofs.ProceduresLemmas.Answer.{any_number, is_answer}
use Rattle.nfs_spec.proofs.procedures.steps.a_step_that_makes_no_file_is_determined.Goals as goal

pub returns : goal.returns
returns c tree next other ctx asked reply another none one two =
    let same = is_answer tree ctx one.new asked reply next one.leads
    ∙ any_number tree ctx one.new two.new asked none
    ∙ sym (is_answer tree ctx two.new asked another other two.leads) in
    (ap (λ p. p.0) same, ap (λ p. p.1) same)

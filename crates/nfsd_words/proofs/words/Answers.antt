use Rattle.std.proofs.Common.{◌≡◌, ◌∙◌, List, rules, ap, inl, inr, map, subst, sym, Err}
use Rattle.std.specs.Borrow.{Bor}
use Rattle.clap.specs.Words.{App, HasKind, Text, fault_of, is_simple, is_simple_and_free, subcommand_of}
use Rattle.nfsd_words.specs.Words.{IsAsked}
use Rattle.nfsd_words.proofs.Found.{has_fault}
use Rattle.nfsd_words.proofs.words.Goals as goal

pub returns-in_err-matches-clause-refused : goal.returns-in_err-matches-clause-refused
returns-in_err-matches-clause-refused c =
    let words : List Text = map (λ (word : Bor Text). word.now) c.args.line.now in
    let refused = c.in_err-matches.ensures.kinds (ap is_simple_and_free c.in_ok-command.ensures) in
    let ours = subst (λ (app : App). HasKind (fault_of app words) c.in_err-matches.field-0.0)
    c.in_ok-command.ensures refused in
    let same : c.from_residual-in_err-matches.result ≡ Err c.in_err-matches.field-0.0 = search rules in
    rw same (inl ours)

pub returns-in-Some-clause-asked : goal.returns-in-Some-clause-asked
returns-in-Some-clause-asked c =
    let words : List Text = map (λ (word : Bor Text). word.now) c.args.line.now in
    let built = c.in_ok-command.ensures in
    let lawful = sym (ap (λ (app : App). fault_of app words) built)
    ∙ c.in_ok-matches.ensures.kinds (ap is_simple_and_free built) in
    let found = c.in_ok-matches.ensures.ok.2 (ap is_simple built) in
    let met = found.1 ∙ ap (λ (app : App). subcommand_of app words) built in
    (lawful, subst (λ o. IsAsked o c.in-Some.args) met c.in-Some.ensures.asked)

pub returns-in_err-matches-clause-senseless : goal.returns-in_err-matches-clause-senseless
returns-in_err-matches-clause-senseless c =
    let words : List Text = map (λ (word : Bor Text). word.now) c.args.line.now in
    let refused = c.in_err-matches.ensures.kinds (ap is_simple_and_free c.in_ok-command.ensures) in
    let ours = subst (λ (app : App). HasKind (fault_of app words) c.in_err-matches.field-0.0)
    c.in_ok-command.ensures refused in
    let same : c.from_residual-in_err-matches.result ≡ Err c.in_err-matches.field-0.0 = search rules in
    rw same (elim ours [
      | inl memory ↦ inl memory
      | inr among ↦ inr (λ means. has_fault _ _ among means.1.0)
    ])

use Rattle.std.proofs.Common.{rules, nat_eq, not}
use Rattle.std.proofs.lemmas.Fn.{filter_same}
use Rattle.plain_steps.proofs.tree_files.nodes.retain_others.Goals as goal

pub returns : goal.returns
returns c =
    filter_same _ (λ file. not (nat_eq c.args.number file.number)) _ (λ x b f r. search rules) _ _
    c.retain.ensures.filtered

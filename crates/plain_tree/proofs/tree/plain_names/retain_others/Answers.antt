use Rattle.std.proofs.Common.{rules, not}
use Rattle.std.proofs.lemmas.Fn.{filter_same}
use Rattle.plain_tree.proofs.TreeLemmas.Placed.{eq}
use Rattle.plain_tree.proofs.tree.plain_names.retain_others.Goals as goal

pub returns : goal.returns
returns c =
    filter_same _ (λ dirent. not (eq c.args.name.now dirent.name)) _ (λ x b f r. search rules) _ _
    c.retain.ensures.filtered

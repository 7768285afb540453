use Rattle.std.proofs.Common.{rules, ◌*◌, nat_lt}
use Rattle.std.proofs.lemmas.Fn.{filter_same}
use Rattle.base.specs.declared.TheConstants.{BLOCK_BYTES}
use Rattle.plain_tree.proofs.tree.mapped.retain_below.Goals as goal

pub returns : goal.returns
returns c =
    filter_same _ (λ index. nat_lt (index * BLOCK_BYTES) c.args.size) _ (λ x b f r. search rules) _ _
    c.retain.ensures.filtered

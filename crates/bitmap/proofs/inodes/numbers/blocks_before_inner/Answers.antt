use Rattle.std.proofs.Common.{rules, ap, ◌∙◌, ℕ, List, ◌++◌, filter}
use Rattle.std.proofs.lemmas.Fn.{filter_same}
use Rattle.bitmap.specs.Inodes.Frees.{is_some}
use Rattle.bitmap.proofs.inodes.numbers.blocks_before_inner.Goals as goal

pub returns : goal.returns
returns c =
    filter_same _ is_some _ (λ x b f r. search rules) _ _ c.retain.ensures.filtered
    ∙ ap (filter is_some)
    (c.in_ok-extend_from_slice-3.ensures.items
    ∙ ap (λ (l : List ℕ). l ++ c.args.indirect_part.now)
    (c.in_ok-extend_from_slice-2.ensures.items
    ∙ ap (λ (l : List ℕ). l ++ c.args.inode.now.direct)
    (c.in_ok-extend_from_slice.ensures.items
    ∙ ap (λ (l : List ℕ). l ++ c.args.inner.now) c.in_ok-numbers.ensures.items)))

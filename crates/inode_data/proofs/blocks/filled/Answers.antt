use Rattle.std.proofs.Common.{rules, ◌≡◌, true, cond, sym, ap, ◌∙◌, nat_eq, replicate}
use Rattle.base.specs.declared.TheConstants.{BLOCK_BYTES}
use Rattle.objects.specs.Spliced.{spliced}
use Rattle.layout.specs.Parts.{content_in}
use Rattle.inode_data.proofs.blocks.filled.Goals as goal

pub returns-then-number-eq0-clause-are : goal.returns-then-number-eq0-clause-are
returns-then-number-eq0-clause-are c = λ blocks tree over.
    let none : nat_eq c.args.number 0 ≡ true = (let h = c.if-number-eq0.true in search rules) in
    c.in_ok-begun.ensures
    ∙ ap (λ t. spliced (cond t (replicate BLOCK_BYTES 0)
    (content_in c.args.snap.now.geometry blocks c.args.number)) c.args.from c.args.piece.now) (sym none)

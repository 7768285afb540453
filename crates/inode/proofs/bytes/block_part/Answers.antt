use Rattle.std.proofs.Common.{◌≡◌, ◌+◌, ◌-◌, take, drop, cond, replicate, sym, ap, ◌∙◌, nat_eq, true, rules, arith}
use Rattle.base.specs.declared.TheConstants.{BLOCK_BYTES}
use Rattle.layout.specs.Parts.{content_in}
use Rattle.inode.proofs.bytes.block_part.Goals as goal

pub returns-then-number-eq0-clause-ok : goal.returns-then-number-eq0-clause-ok
returns-then-number-eq0-clause-ok c = λ blocks tree over.
    let none : nat_eq c.args.number 0 ≡ true = (let h = c.if-number-eq0.true in search rules) in
    let all : c.args.from + c.args.len - c.args.from ≡ c.args.len = omega arith in
    c.in_ok-zeros.ensures
    ∙ ap (λ k. take k (drop c.args.from (replicate BLOCK_BYTES 0))) all
    ∙ ap (λ b. take c.args.len (drop c.args.from (cond b (replicate BLOCK_BYTES 0)
    (content_in c.args.snap.now.geometry blocks c.args.number)))) (sym none)

use Rattle.std.proofs.Common.{ℕ, ◌+◌, ◌∙◌, sym, ap, cond, nat_lt}
use Rattle.base.specs.declared.TheConstants.{DIRECT_INDEXES}
use Rattle.dir.proofs.UsedByDirectory.{shown}
use Rattle.dir.proofs.span.used_of_directory.Goals as goal

pub returns-in-Some-clause-some : goal.returns-in-Some-clause-some
returns-in-Some-clause-some c = λ snap blocks tree file is.
    shown snap blocks tree file c.args.inode.now c.with_indirect.result is
    (ap (λ (span : ℕ). span + cond (nat_lt DIRECT_INDEXES span) 1 0) (sym c.in-Some.ensures.some)
    ∙ sym c.with_indirect.ensures)

pub returns-in-None-clause-none : goal.returns-in-None-clause-none
returns-in-None-clause-none c = λ snap blocks tree file is. c.in-None.ensures.none snap blocks tree file is

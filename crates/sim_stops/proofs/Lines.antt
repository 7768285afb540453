-- Lines are the same where their comparison says so.
use Rattle.std.proofs.Common.{◌≡◌, true, rules, subst}
use Rattle.std.specs.Bool.{Decides}
use Rattle.image_contents.specs.declared.lines.line.Line.{Line}
use Rattle.image_contents.specs.contracts.lines.line.LinePartialEq.TheImpl.{eq-value}

whole : (a b : Line) → eq-value.it a b ≡ true → a ≡ b
whole a b same = search rules

back : (a : Line) → eq-value.it a a ≡ true
back a = search rules

pub line_decides : (a b : Line) → Decides (eq-value.it a b) (a ≡ b)
line_decides a b = (whole a b, λ same. subst (λ (other : Line). eq-value.it a other ≡ true) same (back a))

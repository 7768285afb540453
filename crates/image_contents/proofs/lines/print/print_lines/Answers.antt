use Rattle.std.proofs.Common.{arith}
use Rattle.std.proofs.KnownBytes.{Appends-nil}
use Rattle.image_contents.proofs.LinesLemmas.Printed.{all_printed, one_printed}
use Rattle.image_contents.proofs.lines.print.print_lines.Goals as goal

pub lines-init : goal.lines-init
lines-init g c = Appends-nil (g.W.Write.contents c.args.writer.now)

pub lines-preserved : goal.lines-preserved
lines-preserved g c =
    one_printed c.args.lines.now c.lines.index _ (g.W.Write.contents c.args.writer.now)
    (g.W.Write.contents c.lines.writer) (g.W.Write.contents c.print_line.new.writer) c.lines-test.true
    c.lines.invariant c.in_ok-print_line.ensures

pub returns : goal.returns
returns g c =
    all_printed c.args.lines.now c.lines.index (g.W.Write.contents c.args.writer.now)
    (g.W.Write.contents c.lines.writer) (omega (arith, c.lines-test.false)) c.lines.invariant

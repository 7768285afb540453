use Rattle.std.proofs.Common.{take}
use Rattle.std.specs.Io.KnownBytes.{Appends}
use Rattle.image_contents.specs.Lines.Printed.{lines_text}
use Rattle.image_contents.proofs.lines.print.print_lines.Given as goal

abbrev pub invariant-lines : goal.invariant-lines
invariant-lines g l =
    Appends (g.W.Write.contents l.fn.writer) (g.W.Write.contents l.writer) (lines_text (take l.index l.lines))

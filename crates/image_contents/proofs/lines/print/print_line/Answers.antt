use Rattle.std.proofs.Common.{◌≡◌, Some, append_assoc, false}
use Rattle.std.specs.Fmt.{digits, digits_output}
use Rattle.image_contents.specs.Lines.Printed.{line_text}
use Rattle.image_contents.proofs.LinesLemmas.Printed.{printed}
use Rattle.image_contents.proofs.lines.print.print_line.Goals as goal

pub returns : goal.returns
returns g c =
    let mode : digits_output c.in_radix.result ≡ Some (digits 8 false c.args.line.mode) = c.in_radix.ensures in
    let proven = rw (mode, c.word_of.ensures) at c.writeln.ensures.bytes in
    printed c.writeln.result (g.W.Write.contents c.args.writer.now) (g.W.Write.contents c.writeln.new.self)
    (line_text c.args.line) proven (simp append_assoc)

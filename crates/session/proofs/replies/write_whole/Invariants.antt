-- a beginning of the bytes is written, by writes that let it go on
use Rattle.std.proofs.Common.{◌≤◌, length, take}
use Rattle.session.specs.Writing.{output_state_of}
use Rattle.session.proofs.Written.{HasWritten}
use Rattle.session.proofs.replies.write_whole.Given as goal

abbrev pub invariant-writes : goal.invariant-writes
invariant-writes g l = HasWritten l.fn.bytes.items l.done l.counter (output_state_of g.W.Write.contents l.fn.writer) (output_state_of g.W.Write.contents l.writer)

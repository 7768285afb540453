-- the records so far are answered, and each took a byte
use Rattle.std.proofs.Common.{ℕ, ◌+◌, ◌≤◌, List, length}
use Rattle.plain_once.specs.Session.Answering.{Files, files_of}
use Rattle.plain_once.specs.Session.Serving.{AreAnswered}
use Rattle.plain_once.proofs.session.session.answer_all.Given as goal

pub record SoFar (before : Files) (bytes first written left : List ℕ) (after : Files) (count : ℕ)
    : Type 0 where
  pub answered : AreAnswered before bytes first written left after
  pub counted : count + length left ≤ length bytes

abbrev pub invariant-loop-answered : goal.invariant-loop-answered
invariant-loop-answered l = SoFar (files_of l.fn.files) l.fn.unread.items l.fn.replies.items l.replies.items
    l.unread.items (files_of l.files) l._answered

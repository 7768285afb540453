-- An input is attended read by read.
use Rattle.std.proofs.Common.{◌≡◌, ℕ, false, List, [], ◌++◌, Option, Some, None}
use Rattle.std.proofs.Common.{subst, sym, ◌∙◌, ap, append_assoc, refl}
use Rattle.std.proofs.lemmas.List.{append-nil}
use Rattle.std.specs.Io.KnownBytes.{Appends, Consumes}
use Rattle.plain_once.specs.Session.Answering.{Files}
use Rattle.plain_once.specs.Session.Serving.{AreAnswered, IsFed, Session, More}
use Rattle.plain_once.specs.Session.Serving.{None as Nothing}
use Rattle.plain_once.specs.declared.session.session.Connection.TheVariants.{Open}
use Rattle.plain_once.proofs.SessionLemmas.Pieces.{at_once}
use Rattle.plain_once.specs.Attending.{IsAttended}

-- ---- what is known of an input and of an output

both_written : (old middle new : Option (List ℕ)) (bytes more : List ℕ) → Appends old middle bytes
    → Appends middle new more → Appends old new (bytes ++ more)
both_written None middle new bytes more a b = tt
both_written (Some xs) None new bytes more a b = absurd a
both_written (Some xs) (Some ys) None bytes more a b = absurd b
both_written (Some xs) (Some ys) (Some zs) bytes more a b =
    b ∙ ap (λ (l : List ℕ). l ++ more) a ∙ append_assoc xs bytes more

none_written : (old : Option (List ℕ)) → Appends old old []
none_written None = tt
none_written (Some xs) = sym (append-nil xs)

both_read : (old middle new : Option (List ℕ)) (bytes more : List ℕ) → Consumes old middle bytes
    → Consumes middle new more → Consumes old new (bytes ++ more)
both_read None middle new bytes more a b = tt
both_read (Some xs) None new bytes more a b = absurd a
both_read (Some xs) (Some ys) None bytes more a b = absurd b
both_read (Some xs) (Some ys) (Some zs) bytes more a b =
    a ∙ ap (λ (l : List ℕ). bytes ++ l) b ∙ sym (append_assoc bytes more zs)

none_read : (old : Option (List ℕ)) → Consumes old old []
none_read None = tt
none_read (Some xs) = refl

-- ---- replies behind what was written before

behind : {before : Files} {bytes written left : List ℕ} {after : Files} (leading : List ℕ)
    → AreAnswered before bytes [] written left after
    → AreAnswered before bytes leading (leading ++ written) left after
behind {before} {bytes} leading Nothing =
    subst (λ (w : List ℕ). AreAnswered before bytes leading w bytes before) (sym (append-nil leading)) Nothing
behind {before} {bytes} leading
    (More {written = written} {reply = reply} {behind = left} {after = after} answered next) =
    subst (λ (w : List ℕ). AreAnswered before bytes leading w left after) (append_assoc leading written reply)
    (More (behind leading answered) next)

-- ---- before the first read, and behind one

pub begun : (start : Session) (unread first : Option (List ℕ)) → start.is_closed ≡ false
    → IsAttended start start unread unread first first
begun start unread first goes_on = record {
  read = [];
  replies = [];
  consumed = none_read unread;
  answered = subst (λ (b : List ℕ). AreAnswered start.files b [] [] start.unread start.files)
      (sym (append-nil start.unread)) Nothing;
  appended_replies = none_written first;
  goes_on = goes_on;
}

pub fed : (start now next : Session) (unread rest more first written longer : Option (List ℕ))
    (piece replies_added : List ℕ) → IsAttended start now unread rest first written → Consumes rest more piece
    → IsFed now piece [] Open replies_added next → Appends written longer replies_added
    → IsAttended start next unread more first longer
fed start now next unread rest more first written longer piece replies_added so_far consumed is writes = record {
  read = so_far.read ++ piece;
  replies = so_far.replies ++ replies_added;
  consumed = both_read unread rest more so_far.read piece so_far.consumed consumed;
  answered = subst
      (λ (b : List ℕ). AreAnswered start.files b [] (so_far.replies ++ replies_added) next.unread next.files)
      (append_assoc start.unread so_far.read piece)
      (at_once _ _ _ (start.unread ++ so_far.read) piece [] so_far.replies _ now.unread _ so_far.answered
      (behind so_far.replies is.answered));
  appended_replies = both_written first written longer so_far.replies replies_added so_far.appended_replies writes;
  goes_on = is.closed;
}

-- Records that are answered, where more bytes come.
use Rattle.std.proofs.Common.{List, ℕ, ◌++◌, ap, append_assoc, ◌∙◌}
use Rattle.plain_once.specs.Session.Answering.{Files}
use Rattle.plain_once.specs.Session.Serving.{AreAnswered, BeginsAnswered, More, None}

longer : {before after : Files} {bytes reply behind : List ℕ} (piece : List ℕ)
    → BeginsAnswered before bytes reply behind after
    → BeginsAnswered before (bytes ++ piece) reply (behind ++ piece) after
longer {behind = behind} piece begins = record {
  message = begins.message;
  first = record {
    text = begins.first.text;
    cut = ap (λ (l : List ℕ). l ++ piece) begins.first.cut ∙ append_assoc begins.first.text behind piece;
    is = begins.first.is;
  };
  answered = begins.answered;
}

-- what is answered stays so
wider : {before : Files} {bytes first written left : List ℕ} {after : Files} (piece : List ℕ)
    → AreAnswered before bytes first written left after
    → AreAnswered before (bytes ++ piece) first written (left ++ piece) after
wider piece None = None
wider piece (More answered next) = More (wider piece answered) (longer piece next)

-- and further ones behind it
joined : {before : Files} {bytes first written left : List ℕ} {middle : Files} {replies_added last : List ℕ}
    {after : Files} → AreAnswered before bytes first written left middle
    → AreAnswered middle left written replies_added last after
    → AreAnswered before bytes first replies_added last after
joined answered None = answered
joined answered (More more next) = More (joined answered more) next

pub at_once : (before middle after : Files) (bytes piece first written replies_added left last : List ℕ)
    → AreAnswered before bytes first written left middle
    → AreAnswered middle (left ++ piece) written replies_added last after
    → AreAnswered before (bytes ++ piece) first replies_added last after
at_once before middle after bytes piece first written replies_added left last answered more =
    joined (wider piece answered) more

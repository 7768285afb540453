-- The record that the bytes begin with.
use Rattle.std.proofs.Common.{◌≡◌, ℕ, List, drop, take, subst, sym, Option, Some, IfSome, Vec, Global}
use Rattle.std.proofs.lemmas.List.{take-append-drop}
use Rattle.plain_once.specs.Session.Answering.{Closes, Files, IsMessageAnswered}
use Rattle.plain_once.specs.Session.Records.{Cuts, IsRecord}
use Rattle.plain_once.specs.Session.Serving.{BeginsAnswered, BeginsClosing, IsFirst}
use Rattle.plain_once.specs.declared.session.records.Cut.{Cut}
use Rattle.plain_once.specs.declared.session.records.Cut.TheVariants.{Record}

pub first_of : (bytes shown : List ℕ) (cut : Cut) (content : Vec ℕ Global) (taken : ℕ) → shown ≡ bytes
    → Cuts shown cut → cut ≡ Record content taken → IsFirst bytes content.items (drop taken bytes)
first_of bytes shown cut content taken same cuts is =
    let here = subst (λ (c : Cut). Cuts shown c) is cuts in
    let text = subst (λ (b : List ℕ). IsRecord (take taken b) content.items) same here.1 in
    record { text = take taken bytes; cut = sym (take-append-drop taken bytes); is = text }

-- it is answered
pub begins_answered : (bytes message content reply behind : List ℕ) (before after : Files)
    → IsFirst bytes content behind → message ≡ content → IsMessageAnswered before message reply after
    → BeginsAnswered before bytes reply behind after
begins_answered bytes message content reply behind before after first same answered = record {
  message = content;
  first = first;
  answered = subst (λ (m : List ℕ). IsMessageAnswered before m reply after) same answered;
}

-- the connection closes on it
pub begins_closing : (bytes message content behind : List ℕ) → IsFirst bytes content behind
    → message ≡ content → Closes message → BeginsClosing bytes
begins_closing bytes message content behind first same closes = record {
  message = content;
  behind = behind;
  first = first;
  closes = subst (λ (m : List ℕ). Closes m) same closes;
}

-- what it was answered
pub reply_of : (before after : Files) (message : List ℕ) (answer_given : Option (Vec ℕ Global))
    (reply : Vec ℕ Global) → answer_given ≡ Some reply
    → IfSome answer_given (λ it. IsMessageAnswered before message it.items after)
    → IsMessageAnswered before message reply.items after
reply_of before after message answer_given reply is answered =
    subst (λ (o : Option (Vec ℕ Global)). IfSome o (λ it. IsMessageAnswered before message it.items after)) is
    answered

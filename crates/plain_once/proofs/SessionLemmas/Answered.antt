-- Records that are answered one behind another.
use Rattle.std.proofs.Common.{◌≡◌, ℕ, ◌+◌, ◌<◌, ◌^◌, List, ◌++◌, length, subst, sym, ap, arith, refl}
use Rattle.std.proofs.Common.{Option, IfNone, length-append}
use Rattle.std.proofs.Common.{None as Nothing}
use Rattle.plain_once.specs.Session.Answering.{Files}
use Rattle.plain_once.specs.Session.Records.{IsRecord}
use Rattle.plain_once.specs.Session.Serving.{AreAnswered, BeginsAnswered, Fails, IsCutOff, IsFirst, More}
use Rattle.plain_once.specs.declared.session.session.Connection.{Connection}
use Rattle.xdr.specs.Items.{word}

-- a record takes bytes
pub word-length : (number : ℕ) → length (word number) ≡ 4
unfolding word
word-length number = refl

takes_bytes : (text message : List ℕ) → IsRecord text message → 0 < length text
takes_bytes text message is =
    let cut = ap (λ (l : List ℕ). length l) is.begins.cut in
    let mark = word-length (2 ^ 31 + length is.last) in
    omega (arith, cut, mark, length-append {A = ℕ})

-- so what stands behind it is shorter
pub shorter : (bytes message behind : List ℕ) → IsFirst bytes message behind → length behind < length bytes
shorter bytes message behind first =
    let cut = ap (λ (l : List ℕ). length l) first.cut in
    omega (arith, cut, takes_bytes first.text message first.is, length-append {A = ℕ})

-- the next one is answered too
abbrev pub IsNext : Files → List ℕ → List ℕ → List ℕ → List ℕ → Files → Type 0
IsNext middle written left more behind after =
    (reply : List ℕ) × BeginsAnswered middle left reply behind after × (more ≡ written ++ reply)

pub one_more : (before middle after : Files) (bytes first written left more behind : List ℕ)
    (answer_given : Option Connection) → answer_given ≡ Nothing → AreAnswered before bytes first written left middle
    → IfNone answer_given (IsNext middle written left more behind after)
    → AreAnswered before bytes first more behind after × (length behind < length left)
one_more before middle after bytes first written left more behind answer_given is answered next =
    let P : Option Connection → Type 0 = λ o. IfNone o (IsNext middle written left more behind after) in
    let here = subst P is next in
    let answer_given = sym here.2 in (
      subst (λ (m : List ℕ). AreAnswered before bytes first m behind after) answer_given (More answered here.1),
      shorter left here.1.message behind here.1.first,
    )

-- or memory fails there
pub stopped : (before middle after : Files) (bytes first written left more : List ℕ)
    → AreAnswered before bytes first written left middle → more ≡ written → IsCutOff middle left after
    → Fails before bytes first more after
stopped before middle after bytes first written left more answered same cut = record {
  left = left;
  middle = middle;
  answered = subst (λ (m : List ℕ). AreAnswered before bytes first m left middle) (sym same) answered;
  cut = cut;
}

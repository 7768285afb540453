-- The reads of a session: each but the last let it go on.
use Rattle.std.proofs.Common.{◌≡◌, ◌∙◌, refl, sym, ap, subst, ℕ, ◌+◌, ◌<◌, ◌≤◌, arith}
use Rattle.std.proofs.Common.{List, [], ◌∷◌, ◌++◌, length, length-append, Option, Some, None, Result, Ok, Err}
use Rattle.std.proofs.lemmas.List.{append-nil, append_assoc}
use Rattle.std.proofs.lemmas.List.Elements.{All-nil, All-push}
use Rattle.base.specs.declared.TheConstants.{MOST_READS}
use Rattle.session.specs.declared.stream.SessionFault.{SessionFault}
use Rattle.session.specs.declared.stream.SessionFault.TheVariants.{Record, Input, Output, NoMemory, Truncated}
use Rattle.session.specs.declared.stream.SessionFault.TheVariants.{Device}
use Rattle.session.specs.Reading.{AllGoOn, Answers, AreReadsOf, EndsBy, BringsBytes, GoesOn, IsTakenFor, ReadAnswer}
use Rattle.session.specs.Reading.{ReadsTo, to_the_last, too_many}

-- the reads so far, each of which let the session go on
pub record HasRead (old new : Answers) (count : ℕ) : Type 0 where
  pub answers : Answers
  pub more : new ≡ old ++ answers
  pub go_on : AllGoOn answers
  pub counted : length answers ≡ count
  pub few : count ≤ MOST_READS

pub none_read : (old : Answers) → HasRead old old 0
none_read old = record {
  answers = [];
  more = sym (append-nil old);
  go_on = All-nil (λ (answer : ReadAnswer × Unit {0}). GoesOn answer.0);
  counted = refl;
  few = omega arith;
}

module _ (old middle new : Answers) (count : ℕ) (answer : ReadAnswer) (has : HasRead old middle count)
    (traced : new ≡ middle ++ (answer, tt) ∷ []) where
  all : new ≡ old ++ (has.answers ++ (answer, tt) ∷ [])
  all = traced ∙ ap (λ (answers : Answers). answers ++ (answer, tt) ∷ []) has.more
      ∙ append_assoc old has.answers ((answer, tt) ∷ [])

  pub one_more : count < MOST_READS → GoesOn answer → HasRead old new (count + 1)
  one_more less goes = record {
    answers = has.answers ++ (answer, tt) ∷ [];
    more = all;
    go_on = All-push (λ (answer : ReadAnswer × Unit {0}). GoesOn answer.0) has.answers (answer, tt)
        has.go_on goes;
    counted = (let long = length-append has.answers ((answer, tt) ∷ []) in
        let so_far = has.counted in omega (arith, long, so_far));
    few = omega (arith, less);
  }

  pub ended : (result : Result ℕ SessionFault) → EndsBy result answer → ReadsTo result old new
  ended result ends = record {
    answers = has.answers ++ (answer, tt) ∷ [];
    more = all;
    are = to_the_last has.answers answer refl has.go_on ends;
  }

pub at_most : (old new : Answers) (count : ℕ) → HasRead old new count → MOST_READS ≤ count
    → ReadsTo (Err Input) old new
at_most old new count has many = record {
  answers = has.answers;
  more = has.more;
  are = too_many refl has.go_on (let few = has.few in let long = has.counted in
      omega (arith, few, long, many));
}

-- ---- what one read was taken for

pub taken_none : (answer : ReadAnswer) → IsTakenFor answer (Ok None) → GoesOn answer
taken_none (Ok count) taken = absurd taken
taken_none (Err error) taken = taken

pub taken_some : (answer : ReadAnswer) (read : ℕ) → IsTakenFor answer (Ok (Some read)) → answer ≡ Ok read
taken_some (Ok count) read taken = ap (λ (n : ℕ). Ok n) (sym taken)
taken_some (Err error) read taken = absurd taken

pub goes_on : (answer : ReadAnswer) (read : ℕ) → answer ≡ Ok read → 0 < read → GoesOn answer
goes_on answer read is some = subst GoesOn (sym is) some

pub brings : (answer : ReadAnswer) (read : ℕ) → answer ≡ Ok read → 0 < read → BringsBytes answer
brings answer read is some = subst BringsBytes (sym is) some

pub taken_failed : (answer : ReadAnswer) (fault : SessionFault) → IsTakenFor answer (Err fault)
    → EndsBy (Err fault) answer
taken_failed (Ok count) fault taken = absurd taken
taken_failed (Err error) Input taken = taken
taken_failed (Err error) Record taken = absurd taken
taken_failed (Err error) Output taken = absurd taken
taken_failed (Err error) NoMemory taken = absurd taken
taken_failed (Err error) Truncated taken = absurd taken
taken_failed (Err error) Device taken = absurd taken

-- a session that ends while its records are answered
pub stops_by : (fault : SessionFault) (answer : ReadAnswer) → (fault ≡ Input → ⊥) → (fault ≡ Truncated → ⊥)
    → (fault ≡ Device → ⊥) → BringsBytes answer → EndsBy (Err fault) answer
stops_by Input answer input truncated device goes = absurd (input refl)
stops_by Truncated answer input truncated device goes = absurd (truncated refl)
stops_by Device answer input truncated device goes = absurd (device refl)
stops_by Record answer input truncated device goes = goes
stops_by Output answer input truncated device goes = goes
stops_by NoMemory answer input truncated device goes = goes

-- the settling behind the stream failed
pub behind : (count : ℕ) (old new : Answers) → ReadsTo (Ok count) old new → ReadsTo (Err Device) old new
behind count old new reads = record {
  answers = reads.answers;
  more = reads.more;
  are = by_case reads.are;
}
  where
    by_case : AreReadsOf (Ok count) reads.answers → AreReadsOf (Err Device) reads.answers
    by_case (to_the_last before last is go ends) = to_the_last before last is go ends
    by_case (too_many same go long) = cc

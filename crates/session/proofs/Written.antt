-- The writes of an output: each lets it go on, until one fails or all is written.
use Rattle.std.proofs.Common.{◌≡◌, ◌∙◌, refl, sym, ap, subst, ℕ, ◌+◌, ◌-◌, ◌^◌, ◌<◌, ◌≤◌, arith, inl, inr}
use Rattle.std.proofs.Common.{List, [], ◌∷◌, ◌++◌, length, length-append, take, drop, Option, Some, None, Result, Ok, Err}
use Rattle.std.specs.Prelude.{flat_map}
use Rattle.std.specs.Io.KnownBytes.{Appends, Keeps, WriteAppends}
use Rattle.std.proofs.lemmas.List.{append-nil, append_assoc, drop_all, length-drop, take-append-drop, take_all}
use Rattle.std.proofs.lemmas.List.Concat.{flat_map-cons, flat_map-append}
use Rattle.std.proofs.lemmas.List.Elements.{All-nil, All-push}
use Rattle.std.proofs.Math.Seq.{take-add}
use Rattle.session.specs.Writing.{AllWriteOn, Calls, OutputState, Tells, WritesOn, all_written, AreSent, AreCutOff, IsWrite, written_by, taken_of}
use Rattle.session.specs.Writing.{IsFlush, FailsAt, at_fault, too_many, HasRefused, LetsGoOn}
use Rattle.session.proofs.Courses.{none_more, then_more, is_preserved, then_preserved}
use Rattle.std.specs.declared.io.Error.{Error}
use Rattle.session.specs.declared.output.OutputCall.{OutputCall}
use Rattle.session.specs.declared.output.OutputCall.TheVariants.{Write, Flush, Other}

-- so many of these bytes are written so far, by so many writes, each of which let it go on
pub record HasWritten (bytes : List ℕ) (done count : ℕ) (first written : OutputState) : Type 0 where
  pub within : done ≤ length bytes
  pub appended : Appends first.bytes written.bytes (take done bytes)
  pub calls : Calls
  pub more : written.calls ≡ first.calls ++ calls
  pub go_on : AllWriteOn calls
  pub is : all_written calls ≡ take done bytes
  pub counted : length calls ≡ count

begins : (bytes : List ℕ) (first : OutputState) → HasWritten bytes 0 0 first first
begins bytes first = record {
  within = omega arith;
  appended = none_more first.bytes;
  calls = [];
  more = sym (append-nil first.calls);
  go_on = All-nil (λ (one : OutputCall × Unit {0}). WritesOn one.0);
  is = refl;
  counted = refl;
}

one_written : (call : OutputCall) → all_written ((call, tt) ∷ []) ≡ written_by call
one_written call = append-nil (written_by call)

-- nothing is left to be written
pub whole : (bytes : List ℕ) (done : ℕ) → done ≡ length bytes → (take done bytes ≡ bytes) × (drop done bytes ≡ [])
whole bytes done is = (
  take_all done bytes (omega (arith, is)),
  drop_all done bytes (omega (arith, is)),
)

-- a write that was refused appended nothing
took_none : (a b : Option (List ℕ)) (bytes : List ℕ) (answer : Result ℕ Error) → HasRefused answer
    → WriteAppends a b answer bytes → Appends a b []
took_none a b bytes (Ok n) none appended = subst (λ (k : ℕ). Appends a b (take k bytes)) none appended
took_none a b bytes (Err e) refused preserves = is_preserved a b preserves

module _ (bytes : List ℕ) (done count : ℕ) (first written : OutputState) (has : HasWritten bytes done count first written)
  where
    -- the calls were as many as there may be
    pub many : count ≡ 2 ^ 64 - 1 → (part : List ℕ) × (lost : List ℕ) × (bytes ≡ part ++ lost)
        × Tells first part (AreCutOff part lost) written
    many is = (
      take done bytes,
      drop done bytes,
      sym (take-append-drop done bytes),
      record {
        appended = has.appended;
        calls = has.calls;
        more = has.more;
        done = too_many has.go_on has.is (has.counted ∙ is);
      },
    )

    -- one call more
    module _ (now : OutputState) (call : OutputCall) (traced : now.calls ≡ written.calls ++ (call, tt) ∷ []) where
      all : now.calls ≡ first.calls ++ (has.calls ++ (call, tt) ∷ [])
      all = traced ∙ ap (λ (calls : Calls). calls ++ (call, tt) ∷ []) has.more
          ∙ append_assoc first.calls has.calls ((call, tt) ∷ [])

      pub one_more : (taken : ℕ) → WritesOn call → written_by call ≡ take taken (drop done bytes)
          → Appends written.bytes now.bytes (take taken (drop done bytes)) → done + taken ≤ length bytes
          → HasWritten bytes (done + taken) (count + 1) first now
      one_more taken goes by appended within = record {
        within = within;
        appended = subst (Appends first.bytes now.bytes) (sym (take-add done taken bytes))
            (then_more first.bytes written.bytes now.bytes (take done bytes) (take taken (drop done bytes))
            has.appended appended);
        calls = has.calls ++ (call, tt) ∷ [];
        more = all;
        go_on = All-push (λ (one : OutputCall × Unit {0}). WritesOn one.0) has.calls (call, tt) has.go_on goes;
        is = flat_map-append (λ (one : OutputCall × Unit {0}). written_by one.0) has.calls ((call, tt) ∷ [])
            ∙ ap (λ (l : List ℕ). all_written has.calls ++ l) (one_written call ∙ by)
            ∙ ap (λ (l : List ℕ). l ++ take taken (drop done bytes)) has.is
            ∙ sym (take-add done taken bytes);
        counted = (let long = length-append has.calls ((call, tt) ∷ []) in
            let so_far = has.counted in omega (arith, long, so_far));
      }

      -- it failed
      pub fails : FailsAt (drop done bytes) call → Appends written.bytes now.bytes []
          → (part : List ℕ) × (lost : List ℕ) × (bytes ≡ part ++ lost)
          × Tells first part (AreCutOff part lost) now
      fails at none = (
        take done bytes,
        drop done bytes,
        sym (take-append-drop done bytes),
        record {
          appended = subst (Appends first.bytes now.bytes) (append-nil (take done bytes))
              (then_more first.bytes written.bytes now.bytes (take done bytes) [] has.appended none);
          calls = has.calls ++ (call, tt) ∷ [];
          more = all;
          done = at_fault has.calls call refl has.go_on has.is at;
        },
      )

      -- a write was refused
      pub refuses : (answer : Result ℕ Error) → IsWrite call (drop done bytes) answer → HasRefused answer
          → WriteAppends written.bytes now.bytes answer (drop done bytes) → (done ≡ length bytes → ⊥)
          → (part : List ℕ) × (lost : List ℕ) × (bytes ≡ part ++ lost) × Tells first part (AreCutOff part lost) now
      refuses answer is refused appended less =
          fails (inl (some_left, answer, is, refused))
          (took_none written.bytes now.bytes (drop done bytes) answer refused appended)
        where
          some_left : drop done bytes ≡ [] → ⊥
          some_left none = less (let within = has.within in let rest = length-drop done bytes in
              let empty : length (drop done bytes) ≡ 0 = ap (λ (l : List ℕ). length l) none in
              omega (arith, within, rest, empty))

      -- it was a flush, behind all that was to be written
      pub sends : done ≡ length bytes → IsFlush call (Ok tt) → Keeps written.bytes now.bytes
          → Tells first bytes (AreSent bytes) now
      sends is flushed preserves = record {
        appended = subst (Appends first.bytes now.bytes) (whole bytes done is).0
            (then_preserved first.bytes written.bytes now.bytes (take done bytes) has.appended preserves);
        calls = has.calls ++ (call, tt) ∷ [];
        more = all;
        done = record {
          writes = has.calls;
          flush = call;
          are = refl;
          go_on = has.go_on;
          whole = has.is ∙ (whole bytes done is).0;
          flushed = flushed;
        };
      }

-- ---- what one call was

-- how many bytes a write took, where it lets the others go on
pub taken_by : Result ℕ Error → ℕ
taken_by (Ok n) = n
taken_by (Err e) = 0

pub goes_on : (call : OutputCall) (bytes : List ℕ) (answer : Result ℕ Error) → IsWrite call bytes answer → LetsGoOn answer
    → WritesOn call
goes_on (Write buffer from call_result) bytes answer is goes = subst LetsGoOn (sym is.1) goes
goes_on (Flush call_result) bytes answer is goes = absurd is
goes_on (Other call_result) bytes answer is goes = absurd is

pub written_is : (call : OutputCall) (bytes : List ℕ) (answer : Result ℕ Error) → IsWrite call bytes answer
    → written_by call ≡ taken_of answer bytes
written_is (Write buffer from call_result) bytes answer is = cc (is.0, is.1)
written_is (Flush call_result) bytes answer is = absurd is
written_is (Other call_result) bytes answer is = absurd is

-- What is told as settled only grows, along any steps.
use Rattle.std.proofs.Common.{◌≡◌, ℕ, zero, suc, ◌+◌, ◌-◌, ◌<◌, ◌≤◌, refl, ap, arith}
use Rattle.std.proofs.Common.{Bool, true, false, if◌then◌else◌, nat_eq, nat_lt, List, [], ◌∷◌, Option, Some}
use Rattle.std.proofs.Common.{None}
use Rattle.std.proofs.Common.{take, length-append}
use Rattle.circ.specs.Log.Log.{new_blocks}
use Rattle.std.proofs.lemmas.Bool.Decides.{nat_tests}
use Rattle.std.specs.List.{zip}
use Rattle.circ.specs.declared.log.calls.IoCall.{IoCall}
use Rattle.circ.specs.declared.log.calls.IoCall.TheVariants.{Write, Barrier}
use Rattle.disk.specs.declared.block.BlockNo.{BlockNo}
use Rattle.store_promise.specs.declared.events.Committing.TheVariants as committing
use Rattle.store_promise.specs.declared.events.Event.{Event}
use Rattle.store_promise.specs.declared.events.Step.{Step}
use Rattle.store_promise.specs.declared.events.Step.TheVariants as step
use Rattle.store_promise.specs.LogState.{CallState, LogState, idle, log_moved, out, state_settled, state_tail, was_made}
use Rattle.store_promise.specs.LogState.{with_commit, with_inst_behind, with_inst_done, with_inst_given}
use Rattle.store_promise.specs.LogState.{with_inst_taken}
use Rattle.store_promise.specs.LogState.{with_log_done, with_log_given, with_log_taken}
use Rattle.store_promise.specs.Schedule.{Schedule, RunState, at_first, state_after, state_along, state_before}

-- the first commits of the group and of the tail were made, and that of the group no later
pub record IsOrdered (log : LogState) : Type 0 where
  pub taken : 0 < log.taken → log.taken_first ≤ log.places
  pub tail : 0 < state_tail log → log.tail_first ≤ log.places
  pub both : 0 < log.taken → 0 < state_tail log → log.taken_first ≤ log.tail_first

-- what is told as settled, by its parts
abbrev settled_of : ℕ → ℕ → ℕ → ℕ → ℕ → ℕ
settled_of taken taken_first tail tail_first places =
    if nat_lt 0 taken then taken_first - 1 else if nat_lt 0 tail then tail_first - 1 else places

-- a step leaves the first commits in order, and takes no settled place back
pub record Rises (old new : LogState) : Type 0 where
  pub ordered : IsOrdered new
  pub settled : state_settled old ≤ state_settled new

-- one that leaves these parts
record SameParts (old new : LogState) : Type 0 where
  places : new.places ≡ old.places
  taken : new.taken ≡ old.taken
  taken_first : new.taken_first ≡ old.taken_first
  tail : state_tail new ≡ state_tail old
  tail_first : new.tail_first ≡ old.tail_first

same_parts : (old new : LogState) → IsOrdered old → SameParts old new → Rises old new
same_parts old new is same =
    let a = same.places in
    let b = same.taken in
    let c = same.taken_first in
    let d = same.tail in
    let e = same.tail_first in
    record {
      ordered = record {
        taken = λ some. (let f = is.taken (omega (arith, some, b)) in omega (arith, f, a, c));
        tail = λ some. (let f = is.tail (omega (arith, some, d)) in omega (arith, f, a, e));
        both = λ some more. (let f = is.both (omega (arith, some, b)) (omega (arith, more, d)) in
            omega (arith, f, c, e));
      };
      settled = (let f = settled_is in omega (arith, f));
    }
  where
    settled_is : state_settled new ≡ state_settled old
    settled_is = λ i. settled_of (same.taken i) (same.taken_first i) (same.tail i) (same.tail_first i)
        (same.places i)

-- ---- a commit

commit_rises : (log : LogState) (blocks : List BlockNo) → IsOrdered log → Rises log (with_commit log blocks)
commit_rises log blocks is =
    let a = is.taken in
    let b = is.tail in
    let c = is.both in
    let long = length-append log.tail (new_blocks log.tail blocks) in
    record {
      ordered = record {
        taken = λ has. (let f = a has in omega (arith, f));
        tail = λ has. grind (arith, nat_tests, b, has, long);
        both = λ has more. (let f = a has in let g = c has in grind (arith, nat_tests, f, g, has, more, long));
      };
      settled = grind (arith, nat_tests, a, b, c, long);
    }

-- ---- the logger

parts_of : (log new : LogState) → new ≡ record log {
  log_step = new.log_step;
  logged = new.logged;
  installing = new.installing;
  homes = new.homes;
  behind = new.behind;
  broken = new.broken;
  log_call = new.log_call;
  inst_call = new.inst_call;
} → IsOrdered log → Rises log new
parts_of log new same is = same_parts log new is (record {
  places = ap (λ (l : LogState). l.places) same;
  taken = ap (λ (l : LogState). l.taken) same;
  taken_first = ap (λ (l : LogState). l.taken_first) same;
  tail = ap state_tail same;
  tail_first = ap (λ (l : LogState). l.tail_first) same;
})

taken_rises : (log : LogState) (call : IoCall) → IsOrdered log → Rises log (with_log_taken log call)
taken_rises log call is = by_group (nat_lt 0 log.taken) refl
  where
    by_group : (t : Bool) → nat_lt 0 log.taken ≡ t → Rises log (if t then record log { log_call = out call }
        else record log {
          taken = state_tail log;
          taken_first = log.tail_first;
          tail = [];
          tail_first = 0;
          log_call = out call;
        })
    by_group true has = parts_of log (record log { log_call = out call }) refl is
    by_group false none =
        let b = is.tail in
        record {
          ordered = record {
            taken = λ has. b has;
            tail = λ has. absurd (omega (arith, has));
            both = λ has more. absurd (omega (arith, more));
          };
          settled = grind (arith, nat_tests, none, b);
        }

done_rises : (log : LogState) → IsOrdered log → Rises log (with_log_done log)
done_rises log is = by_step (nat_eq log.log_step (log.taken + 2))
  where
    by_step : (t : Bool) → Rises log (if t then record log {
      logged = log.logged + log.taken;
      taken = 0;
      taken_first = 0;
      log_step = 0;
      log_call = idle;
    } else record log { log_step = log.log_step + 1; log_call = idle })
    by_step false = parts_of log (record log { log_step = log.log_step + 1; log_call = idle }) refl is
    by_step true =
        let a = is.taken in
        let b = is.tail in
        let c = is.both in
        record {
          ordered = record {
            taken = λ has. absurd (omega (arith, has));
            tail = λ has. b has;
            both = λ has more. absurd (omega (arith, has));
          };
          settled = grind (arith, nat_tests, a, b, c);
        }

given_rises : (log : LogState) (ok : Bool) → IsOrdered log → Rises log (with_log_given log ok)
given_rises log true is = done_rises log is
given_rises log false is = parts_of log (record log { broken = true; log_call = idle }) refl is

-- ---- the installer

inst_taken_rises : (log : LogState) (call : IoCall) → IsOrdered log → Rises log (with_inst_taken log call)
inst_taken_rises log call is = by_group (nat_lt 0 log.installing)
  where
    by_group : (t : Bool) → Rises log (if t then record log { inst_call = out call }
        else record log { installing = log.logged; inst_call = out call })
    by_group true = parts_of log (record log { inst_call = out call }) refl is
    by_group false = parts_of log (record log { installing = log.logged; inst_call = out call }) refl is

behind_rises : (log : LogState) → IsOrdered log → Rises log (with_inst_behind log)
behind_rises log is = by_step (nat_eq log.behind 2)
  where
    by_step : (t : Bool) → Rises log (if t then record log {
      logged = log.logged - log.installing;
      installing = 0;
      homes = 0;
      behind = 0;
      inst_call = idle;
    } else record log { behind = log.behind + 1; inst_call = idle })
    by_step true = parts_of log (record log {
      logged = log.logged - log.installing;
      installing = 0;
      homes = 0;
      behind = 0;
      inst_call = idle;
    }) refl is
    by_step false = parts_of log (record log { behind = log.behind + 1; inst_call = idle }) refl is

inst_done_rises : (log : LogState) (call : CallState) → IsOrdered log → Rises log (with_inst_done log call)
inst_done_rises log idle is = parts_of log log refl is
inst_done_rises log (out call) is = parts_of log log refl is
inst_done_rises log (was_made (Barrier store_state) ok) is = behind_rises log is
inst_done_rises log (was_made (Write block) ok) is = by_stage (nat_eq log.behind 0)
  where
    by_stage : (t : Bool) → Rises log (if t then record log { homes = log.homes + 1; inst_call = idle }
        else with_inst_behind log)
    by_stage true = parts_of log (record log { homes = log.homes + 1; inst_call = idle }) refl is
    by_stage false = behind_rises log is

inst_given_rises : (log : LogState) (ok : Bool) → IsOrdered log → Rises log (with_inst_given log ok)
inst_given_rises log true is = inst_done_rises log log.inst_call is
inst_given_rises log false is = parts_of log (record log { broken = true; inst_call = idle }) refl is

-- ---- any step

still : (log : LogState) → IsOrdered log → Rises log log
still log is = parts_of log log refl is

moved_rises : (log : LogState) (made : Step) → IsOrdered log → Rises log (log_moved log made)
moved_rises log step.Called is = still log is
moved_rises log step.Replied is = still log is
moved_rises log (step.Begun number) is = still log is
moved_rises log (step.Wanted addr mode answer) is = still log is
moved_rises log (step.Claimed block answer) is = still log is
moved_rises log (step.Fetched block) is = still log is
moved_rises log (step.FetchFailed block) is = still log is
moved_rises log (step.Commit blocks (committing.Committed place)) is = commit_rises log blocks is
moved_rises log (step.Commit blocks committing.Full) is = still log is
moved_rises log (step.Commit blocks committing.Foreign) is = still log is
moved_rises log (step.Commit blocks (committing.NoMemory error)) is = still log is
moved_rises log (step.Commit blocks committing.Broken) is = still log is
moved_rises log (step.Commit blocks committing.Spent) is = still log is
moved_rises log (step.Ended why) is = still log is
moved_rises log (step.Stable seq settled) is = still log is
moved_rises log (step.Read block ok) is = still log is
moved_rises log (step.LogNext call) is = taken_rises log call is
moved_rises log (step.LogIo ok) is = still_made log is
  where
    still_made : (log : LogState) → IsOrdered log → Rises log (log_moved log (step.LogIo ok))
    still_made log is = parts_of log (log_moved log (step.LogIo ok)) refl is
moved_rises log (step.LogDone ok) is = given_rises log ok is
moved_rises log (step.InstNext call) is = inst_taken_rises log call is
moved_rises log (step.InstIo ok) is = parts_of log (log_moved log (step.InstIo ok)) refl is
moved_rises log (step.InstDone ok) is = inst_given_rises log ok is

-- ---- along steps

abbrev RisesRunState : RunState → RunState → Type 0
RisesRunState old new = Rises old.log new.log

after_rises : (run_state : RunState) (now : Event) (made : Option Step) → IsOrdered run_state.log
    → RisesRunState run_state (state_after run_state now made)
after_rises run_state now None is = still run_state.log is
after_rises run_state now (Some made) is = moved_rises run_state.log made is

along_rises : (run_state : RunState) (steps : List (Event × Option Step)) → IsOrdered run_state.log
    → RisesRunState run_state (state_along run_state steps)
along_rises run_state [] is = still run_state.log is
along_rises run_state (first ∷ others) is =
    let now = after_rises run_state first.0 first.1 is in
    let rest = along_rises (state_after run_state first.0 first.1) others now.ordered in
    let a = now.settled in
    let b = rest.settled in
    record { ordered = rest.ordered; settled = omega (arith, a, b) }

-- the later of two moments has all that was settled at the other
prefix_rises : (run_state : RunState) (steps : List (Event × Option Step)) (one other : ℕ) → one ≤ other
    → IsOrdered run_state.log
    → state_settled (state_along run_state (take one steps)).log ≤ state_settled
    (state_along run_state (take other steps)).log
prefix_rises run_state steps zero other early is = (along_rises run_state (take other steps) is).settled
prefix_rises run_state [] (suc one) zero early is = absurd (omega (arith, early))
prefix_rises run_state [] (suc one) (suc other) early is = omega arith
prefix_rises run_state (first ∷ others) (suc one) zero early is = absurd (omega (arith, early))
prefix_rises run_state (first ∷ others) (suc one) (suc other) early is =
    prefix_rises (state_after run_state first.0 first.1) others one other (omega (arith, early))
    (after_rises run_state first.0 first.1 is).ordered

none_yet : IsOrdered at_first.log
none_yet = record {
  taken = λ has. absurd (omega (arith, has));
  tail = λ has. absurd (omega (arith, has));
  both = λ has more. absurd (omega (arith, has));
}

pub settled_state_stays : (events : Schedule) (steps : List (Option Step)) (one other : ℕ) → one ≤ other
    → state_settled (state_before events steps one).log ≤ state_settled (state_before events steps other).log
settled_state_stays events steps one other early =
    prefix_rises at_first (zip events steps) one other early none_yet

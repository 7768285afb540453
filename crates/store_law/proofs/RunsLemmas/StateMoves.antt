-- How a worker moves with an event.
use Rattle.std.proofs.Common.{◌≡◌, ◌⊎◌, inl, inr, ℕ, ap, refl, arith, Bool, true, false}
use Rattle.std.proofs.Common.{if◌then◌else◌, nat_eq, [], Option, Some, None}
use Rattle.std.proofs.lemmas.Bool.Decides.{nat_tests}
use Rattle.store_promise.specs.declared.events.Event.{Event}
use Rattle.store_promise.specs.declared.events.Event.TheVariants as event
use Rattle.store_promise.specs.declared.events.Step.{Step}
use Rattle.store_promise.specs.Progress.{At, Called, Job, Progress, progressed}
use Rattle.store_promise.specs.Schedule.{RunState, state_after}

-- the event is one of its own: of its work, or of its read
abbrev pub IsOwn : ℕ → Event → Type 0
IsOwn worker e = (e ≡ event.Work worker) ⊎ (e ≡ event.Read worker)

-- it stays as it was, or is handed a call, or goes on by a step of its own
pub data Moves (run_state : RunState) (e : Event) (m : Option Step) (worker : ℕ) (next : Progress) : Type 0 where
  stays : next ≡ run_state.workers worker → Moves run_state e m worker next
  called : (job : Job) → next ≡ At job (Called []) → Moves run_state e m worker next
  goes : (one : Step) → m ≡ Some one → IsOwn worker e
      → next ≡ progressed run_state.log.broken one (run_state.workers worker) → Moves run_state e m worker next

module _ (run_state : RunState) (worker number : ℕ) (one : Step) where
  same_number : nat_eq worker number ≡ true → number ≡ worker
  same_number is = grind (arith, nat_tests)

  by_call : (job : Job) (e : Event) (same : Bool)
      → Moves run_state e (Some one) worker (if same then At job (Called []) else run_state.workers worker)
  by_call job e true = called job refl
  by_call job e false = stays refl

  by_own : (e : Event) (same : Bool) → nat_eq worker number ≡ same → (number ≡ worker → IsOwn worker e)
      → Moves run_state e (Some one) worker
      (if same then progressed run_state.log.broken one (run_state.workers number) else run_state.workers worker)
  by_own e true is own =
      let numbers = same_number is in
      goes one refl (own numbers) (ap (λ (n : ℕ). progressed run_state.log.broken one (run_state.workers n)) numbers)
  by_own e false is own = stays refl

pub moves : (run_state : RunState) (e : Event) (m : Option Step) (worker : ℕ)
    → Moves run_state e m worker ((state_after run_state e m).workers worker)
moves run_state e None worker = stays refl
moves run_state (event.Call number credential moment call) (Some one) worker =
    by_call run_state worker number one (record { credential = credential; moment = moment; call = call })
    (event.Call number credential moment call) (nat_eq worker number)
moves run_state (event.Work number) (Some one) worker =
    by_own run_state worker number one (event.Work number) (nat_eq worker number) refl
    (λ same. inl (ap event.Work same))
moves run_state (event.Read number) (Some one) worker =
    by_own run_state worker number one (event.Read number) (nat_eq worker number) refl
    (λ same. inr (ap event.Read same))
moves run_state event.Log (Some one) worker = stays refl
moves run_state event.LogIo (Some one) worker = stays refl
moves run_state event.Install (Some one) worker = stays refl
moves run_state event.InstIo (Some one) worker = stays refl

-- a worker that makes a step goes on by it
pub own_move : (run_state : RunState) (worker : ℕ) (one : Step)
    → (state_after run_state (event.Work worker) (Some one)).workers worker
    ≡ progressed run_state.log.broken one (run_state.workers worker)
own_move run_state worker one =
    let itself : nat_eq worker worker ≡ true = grind (arith, nat_tests) in
    ap (λ (b : Bool). if b then progressed run_state.log.broken one (run_state.workers worker) else run_state.workers
    worker) itself

-- and one whose read is made goes on by that
pub own_read : (run_state : RunState) (worker : ℕ) (one : Step)
    → (state_after run_state (event.Read worker) (Some one)).workers worker
    ≡ progressed run_state.log.broken one (run_state.workers worker)
own_read run_state worker one = own_move run_state worker one

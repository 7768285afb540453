-- Only what begins a transaction brings a number out, and only a commit a place that is waited for.
use Rattle.std.proofs.Common.{◌≡◌, ◌⊎◌, inl, inr, ℕ, ap, sym, ◌∙◌, refl, Bool, true, false, if◌then◌else◌, ◌||◌}
use Rattle.std.proofs.Common.{List, [], ◌∷◌, Option, Some, None, Ok, Err}
use Rattle.disk.specs.declared.block.BlockNo.{BlockNo}
use Rattle.store_promise.specs.declared.events.Committing.{Committing}
use Rattle.store_promise.specs.declared.events.Committing.TheVariants as committing
use Rattle.store_promise.specs.declared.events.Step.{Step}
use Rattle.store_promise.specs.declared.events.Step.TheVariants as step
use Rattle.store_promise.specs.declared.events.LockAnswer.{LockAnswer}
use Rattle.store_promise.specs.declared.events.LockAnswer.TheVariants as lock_answer
use Rattle.store_promise.specs.Progress.{Again, At, Begun, Called, Idle, Job, Planning, Progress, Read, Reading}
use Rattle.store_promise.specs.Progress.{Refused, Stage, Taken, Waiting, after_claimed, after_commit}
use Rattle.store_promise.specs.LockRequests.{is_barred}
use Rattle.store_promise.specs.Progress.{after_planning, lock_request_of, claimed_by, deferred, object_read_by, with_taken}
use Rattle.store_promise.specs.Progress.{after_waiting, after_wanted, going_on, progressed, stage_after}
use Rattle.store_promise.specs.declared.lock_requests.LockRequest.{LockRequest}
use Rattle.store_promise.specs.declared.lock_requests.LockRequest.TheVariants as lock_request
use Rattle.store_law.specs.Runs.Ledger.{number_out, place_waited, stage_number, stage_place}
use Rattle.store_law.proofs.RunsLemmas.EntriesCommits.{commit_of}

abbrev next_number : Option Stage → Option ℕ
next_number None = None
next_number (Some stage) = stage_number stage

abbrev next_place : Option Stage → Option ℕ
next_place None = None
next_place (Some stage) = stage_place stage

-- ---- what was asked for or claimed

-- one that is kept off waits, or begins again
off_number : (begun : Begun) (request : LockRequest) → stage_number (deferred begun request) ≡ Some begun.number
off_number begun request = by (is_barred request begun.taken)
  where
    by : (above : Bool) → stage_number (if above then Again begun (Some request) else Planning begun)
        ≡ Some begun.number
    by true = refl
    by false = refl

off_place : (begun : Begun) (request : LockRequest) → stage_place (deferred begun request) ≡ None
off_place begun request = by (is_barred request begun.taken)
  where
    by : (above : Bool) → stage_place (if above then Again begun (Some request) else Planning begun) ≡ None
    by true = refl
    by false = refl

number_stays : (left : List LockRequest) (begun : Begun) (taken : Taken) → (object_read_by left begun taken).number ≡ begun.number
number_stays [] begun taken = refl
number_stays (next ∷ later) begun taken = refl

by_number : (left : List LockRequest) (begun : Begun) (block : BlockNo)
    → (claimed_by left begun block).number ≡ begun.number
by_number [] begun block = refl
by_number (next ∷ later) begun block = refl

wanted_number : (begun : Begun) (taken : Taken) (answer : LockAnswer)
    → stage_number (after_wanted begun taken answer) ≡ Some begun.number
wanted_number begun taken lock_answer.Held =
    ap (λ (n : ℕ). Some n) (number_stays begun.left (with_taken begun (lock_request_of taken)) taken)
wanted_number begun taken lock_answer.Fetch = refl
wanted_number begun taken lock_answer.Busy = off_number begun (lock_request_of taken)
wanted_number begun taken lock_answer.Loading = off_number begun (lock_request_of taken)
wanted_number begun taken lock_answer.Outside = refl
wanted_number begun taken (lock_answer.NoMemory error) = refl

wanted_place : (begun : Begun) (taken : Taken) (answer : LockAnswer)
    → stage_place (after_wanted begun taken answer) ≡ None
wanted_place begun taken lock_answer.Held = refl
wanted_place begun taken lock_answer.Fetch = refl
wanted_place begun taken lock_answer.Busy = off_place begun (lock_request_of taken)
wanted_place begun taken lock_answer.Loading = off_place begun (lock_request_of taken)
wanted_place begun taken lock_answer.Outside = refl
wanted_place begun taken (lock_answer.NoMemory error) = refl

claimed_number : (begun : Begun) (block : BlockNo) (answer : LockAnswer)
    → stage_number (after_claimed begun block answer) ≡ Some begun.number
claimed_number begun block lock_answer.Held =
    ap (λ (n : ℕ). Some n) (by_number begun.left (with_taken begun (lock_request.Claim block)) block)
claimed_number begun block lock_answer.Fetch = refl
claimed_number begun block lock_answer.Busy = off_number begun (lock_request.Claim block)
claimed_number begun block lock_answer.Loading = off_number begun (lock_request.Claim block)
claimed_number begun block lock_answer.Outside = refl
claimed_number begun block (lock_answer.NoMemory error) = refl

claimed_place : (begun : Begun) (block : BlockNo) (answer : LockAnswer)
    → stage_place (after_claimed begun block answer) ≡ None
claimed_place begun block lock_answer.Held = refl
claimed_place begun block lock_answer.Fetch = refl
claimed_place begun block lock_answer.Busy = off_place begun (lock_request.Claim block)
claimed_place begun block lock_answer.Loading = off_place begun (lock_request.Claim block)
claimed_place begun block lock_answer.Outside = refl
claimed_place begun block (lock_answer.NoMemory error) = refl

-- ---- numbers

module _ (number : ℕ) where
  of_commit : (stable : Bool) (begun : Begun) (answer : Committing)
      → next_number (after_commit stable begun answer) ≡ Some number → Some begun.number ≡ Some number
  of_commit true begun (committing.Committed place) is = cc
  of_commit false begun (committing.Committed place) is = cc
  of_commit stable begun committing.Full is = is
  of_commit stable begun committing.Foreign is = is
  of_commit stable begun (committing.NoMemory error) is = is
  of_commit stable begun committing.Broken is = is
  of_commit stable begun committing.Spent is = is

  of_planning : (stable : Bool) (begun : Begun) (made : Step)
      → next_number (after_planning stable begun made) ≡ Some number → Some begun.number ≡ Some number
  of_planning stable begun (step.Wanted addr mode answer) is =
      sym (wanted_number begun (record { addr = addr; mode = mode }) answer) ∙ is
  of_planning stable begun (step.Claimed block answer) is = sym (claimed_number begun block answer) ∙ is
  of_planning stable begun (step.Commit blocks answer) is = of_commit stable begun answer is
  of_planning stable begun (step.Ended why) is = cc
  of_planning stable begun _ is = is

  none_waiting : (done : Bool) (place : ℕ) → next_number (if done then None else Some (Waiting place)) ≡ None
  none_waiting true place = refl
  none_waiting false place = refl

  of_waiting : (broken : Bool) (place : ℕ) (made : Step) → next_number (after_waiting broken place made) ≡ None
  of_waiting broken place (step.Stable seq settled) = none_waiting (settled || broken) place
  of_waiting broken place _ = refl

  of_called : (known : List LockRequest) (made : Step)
      → next_number (stage_after false false made (Called known)) ≡ Some number
      → made ≡ step.Begun (Ok number)
  of_called known (step.Begun (Ok other)) is = let same : other ≡ number = cc in
      ap (λ (n : ℕ). step.Begun (Ok n)) same
  of_called known (step.Begun (Err why)) is = cc
  of_called known _ is = cc

  of_reading : (begun : Begun) (taken : Taken) (made : Step)
      → next_number (stage_after false false made (Reading begun taken)) ≡ Some begun.number
  of_reading begun taken (step.Read block ok) = refl
  of_reading begun taken _ = refl

  abbrev Begins : Stage → Step → Type 0
  Begins stage made = (known : List LockRequest) × (stage ≡ Called known) × (made ≡ step.Begun (Ok number))

  of_stage : (broken stable : Bool) (made : Step) (stage : Stage)
      → next_number (stage_after broken stable made stage) ≡ Some number
      → (stage_number stage ≡ Some number) ⊎ Begins stage made
  of_stage broken stable made (Called known) is = inr (known, refl, of_called known made is)
  of_stage broken stable made (Planning begun) is = inl (of_planning stable begun made is)
  of_stage broken stable made (Reading begun taken) is = inl (sym (of_reading begun taken made) ∙ is)
  of_stage broken stable made (Read begun taken true) is = inl is
  of_stage broken stable made (Read begun taken false) is = inl is
  of_stage broken stable made (Refused begun why) is = cc
  of_stage broken stable made (Again begun request) is = cc
  of_stage broken stable made (Waiting place) is = let none = of_waiting broken place made in cc

pub data NumberComes (so_far : Progress) (made : Step) (number : ℕ) : Type 0 where
  was_out : number_out so_far ≡ Some number → NumberComes so_far made number
  begins : (job : Job) (known : List LockRequest) → so_far ≡ At job (Called known) → made ≡ step.Begun (Ok number)
      → NumberComes so_far made number

going_number : (job : Job) (next : Option Stage) → number_out (going_on job next) ≡ next_number next
going_number job None = refl
going_number job (Some stage) = refl

pub number_comes : (broken : Bool) (made : Step) (so_far : Progress) (number : ℕ)
    → number_out (progressed broken made so_far) ≡ Some number → NumberComes so_far made number
number_comes broken made Idle number is = was_out is
number_comes broken made (At job stage) number is =
    by_case (of_stage number broken _ made stage (sym (going_number job _) ∙ is))
  where
    by_case : (stage_number stage ≡ Some number) ⊎ Begins number stage made
        → NumberComes (At job stage) made number
    by_case (inl out) = was_out out
    by_case (inr new) = begins job new.0 (ap (At job) new.1) new.2

-- ---- places

module _ (place : ℕ) where
  abbrev Commits : Stage → Step → Type 0
  Commits stage made =
      (begun : Begun) × (blocks : List BlockNo) × (stage ≡ Planning begun) × (made ≡ commit_of blocks place)

  by_commit : (stable : Bool) (begun : Begun) (blocks : List BlockNo) (answer : Committing)
      → next_place (after_commit stable begun answer) ≡ Some place
      → Commits (Planning begun) (step.Commit blocks answer)
  by_commit true begun blocks (committing.Committed seq) is =
      let same : seq.0 ≡ place = cc in
      (begun, blocks, refl, ap (commit_of blocks) same)
  by_commit false begun blocks (committing.Committed seq) is = cc
  by_commit stable begun blocks committing.Full is = cc
  by_commit stable begun blocks committing.Foreign is = cc
  by_commit stable begun blocks (committing.NoMemory error) is = cc
  by_commit stable begun blocks committing.Broken is = cc
  by_commit stable begun blocks committing.Spent is = cc

  by_planning : (stable : Bool) (begun : Begun) (made : Step)
      → next_place (after_planning stable begun made) ≡ Some place → Commits (Planning begun) made
  by_planning stable begun (step.Wanted addr mode answer) is =
      let none = wanted_place begun (record { addr = addr; mode = mode }) answer in cc
  by_planning stable begun (step.Claimed block answer) is = let none = claimed_place begun block answer in cc
  by_planning stable begun (step.Commit blocks answer) is = by_commit stable begun blocks answer is
  by_planning stable begun (step.Ended why) is = cc
  by_planning stable begun _ is = cc

  by_called : (known : List LockRequest) (made : Step) → next_place (stage_after false false made (Called known)) ≡ None
  by_called known (step.Begun (Ok number)) = refl
  by_called known (step.Begun (Err why)) = refl
  by_called known _ = refl

  by_reading : (begun : Begun) (taken : Taken) (made : Step)
      → next_place (stage_after false false made (Reading begun taken)) ≡ None
  by_reading begun taken (step.Read block ok) = refl
  by_reading begun taken _ = refl

  still_waiting : (done : Bool) (at : ℕ) → next_place (if done then None else Some (Waiting at)) ≡ Some place
      → Some at ≡ Some place
  still_waiting true at is = cc
  still_waiting false at is = is

  by_waiting : (broken : Bool) (at : ℕ) (made : Step) → next_place (after_waiting broken at made) ≡ Some place
      → Some at ≡ Some place
  by_waiting broken at (step.Stable seq settled) is = still_waiting (settled || broken) at is
  by_waiting broken at _ is = is

  by_stage : (broken stable : Bool) (made : Step) (stage : Stage)
      → next_place (stage_after broken stable made stage) ≡ Some place
      → (stage_place stage ≡ Some place) ⊎ Commits stage made
  by_stage broken stable made (Called known) is = let none = by_called known made in cc
  by_stage broken stable made (Planning begun) is = inr (by_planning stable begun made is)
  by_stage broken stable made (Reading begun taken) is = let none = by_reading begun taken made in cc
  by_stage broken stable made (Read begun taken true) is = cc
  by_stage broken stable made (Read begun taken false) is = cc
  by_stage broken stable made (Refused begun why) is = cc
  by_stage broken stable made (Again begun request) is = cc
  by_stage broken stable made (Waiting at) is = inl (by_waiting broken at made is)

pub data PlaceComes (so_far : Progress) (made : Step) (place : ℕ) : Type 0 where
  was_waited : place_waited so_far ≡ Some place → PlaceComes so_far made place
  commits : (job : Job) (begun : Begun) (blocks : List BlockNo) → so_far ≡ At job (Planning begun)
      → made ≡ commit_of blocks place → PlaceComes so_far made place

going_place : (job : Job) (next : Option Stage) → place_waited (going_on job next) ≡ next_place next
going_place job None = refl
going_place job (Some stage) = refl

pub place_comes : (broken : Bool) (made : Step) (so_far : Progress) (place : ℕ)
    → place_waited (progressed broken made so_far) ≡ Some place → PlaceComes so_far made place
place_comes broken made Idle place is = was_waited is
place_comes broken made (At job stage) place is =
    by_case (by_stage place broken _ made stage (sym (going_place job _) ∙ is))
  where
    by_case : (stage_place stage ≡ Some place) ⊎ Commits place stage made → PlaceComes (At job stage) made place
    by_case (inl waited) = was_waited waited
    by_case (inr new) = commits job new.0 new.1 (ap (At job) new.2) new.3

-- What is told of a log is what the memory log has.
use Rattle.std.proofs.Common.{◌≡◌, ◌↔◌, ℕ, zero, suc, ◌+◌, ◌-◌, ◌<◌, ◌≤◌, inl, inr, ap, sym, ◌∙◌, refl}
use Rattle.std.proofs.Common.{subst, arith, Bool, true, false, not, if◌then◌else◌, ◌&&◌, ◌||◌, List, [], ◌∷◌}
use Rattle.std.proofs.Common.{length, take, drop, nat_eq, nat_lt, nat_le, is_some, All}
use Rattle.std.proofs.lemmas.List.{drop_all, length-drop, length-take-le}
use Rattle.std.proofs.lemmas.Bool.{cases_lt}
use Rattle.std.proofs.lemmas.Bool.Decides.{nat_tests}
use Rattle.base.specs.declared.TheConstants.{LOG_HEADER_BLOCK, LOG_SLOTS}
use Rattle.disk.specs.Device.{Content}
use Rattle.disk.specs.declared.block.BlockNo.{BlockNo}
use Rattle.disk.specs.declared.block.Side.TheVariants as side
use Rattle.circ.specs.declared.log.calls.IoCall.TheVariants.{Write, Barrier}
use Rattle.circ.specs.declared.log.change.LogChange.{LogChange}
use Rattle.circ.specs.Log.Calls.{Pending}
use Rattle.circ.specs.Log.Calls as pending
use Rattle.circ.specs.Log.Installer.{IsNextInstCall, may_install, next_home, passed_over, with_inst_back}
use Rattle.circ.specs.Log.Installer.{with_inst_out, with_installed}
use Rattle.circ.specs.Log.Io.{Io}
use Rattle.circ.specs.Log.Log.{IsHomeOn, IsLawful, Log, newest_of, place_before, settled_place}
use Rattle.circ.specs.Log.Log.{tail_blocks}
use Rattle.circ.specs.Log.Logger.{IsNextLogCall, group_size, has_group, may_log, slot_block, with_log_back}
use Rattle.circ.specs.Log.Logger.{with_log_out}
use Rattle.circ.specs.Log.Room.{HasPlaces}
use Rattle.circ.proofs.LogLemmas.Tail.{tail_length}
use Rattle.circ.specs.Log.Grows.{GrowsBy}
use Rattle.txn_law.specs.Steps.{StandsStill}
use Rattle.store_promise.specs.LogState.{LogState, state_may_install, state_may_log, state_settled}
use Rattle.store_promise.specs.NextCall.{IsNextOfInstalling, group_begins, state_group, next_log_call}
use Rattle.store_promise.specs.NextCall.{taken_home}
use Rattle.store_promise.specs.Schedule.{HasNumbers, Setting}
use Rattle.store_promise.specs.LogStateOf.{StandsAtHome, first_of, log_state_of, newest_among}
use Rattle.store_promise.proofs.LogStateOf.{all_of, drop_more, home_within, newest_some, newest_within, none_yet}
use Rattle.store_promise.proofs.LogStateOf.{some_more, there}

-- ---- what is settled

settled_by : (xs second : List LogChange) (taken tail places : ℕ) → (taken ≡ 0 → second ≡ xs)
    → tail ≡ length xs - taken → taken ≤ length xs
    → (if nat_lt 0 taken then first_of (take taken xs) - 1 else if nat_lt 0 tail then first_of second - 1
    else places)
    ≡ place_before xs places
settled_by [] second zero tail places same is fits =
    let none : nat_lt 0 tail ≡ false = grind (arith, nat_tests) in
    λ i. if none i then first_of second - 1 else places
settled_by [] second (suc taken) tail places same is fits = absurd (omega (arith, fits))
settled_by (x ∷ xs) second zero tail places same is fits =
    let some : nat_lt 0 tail ≡ true = grind (arith, nat_tests) in
    (λ i. if some i then first_of second - 1 else places) ∙ ap (λ ys. first_of ys - 1) (same refl)
settled_by (x ∷ xs) second (suc taken) tail places same is fits =
    λ i. if some_more taken i then x.place - 1 else if nat_lt 0 tail then first_of second - 1 else places

module _ (position : ℕ) (log : Log) (logging installing : Pending) (lawful : IsLawful log) where
  behind_logged : length (drop log.logged log.changes) ≡ length log.changes - log.logged
  behind_logged = length-drop log.logged log.changes

  pub settled_is : state_settled (log_state_of position log logging installing) ≡ settled_place log
  settled_is =
      let long = behind_logged in
      let within = lawful.taken_within in
      let held = tail_length log in
      settled_by (drop log.logged log.changes) (drop (log.logged + log.taken) log.changes) log.taken
      (length (tail_blocks log)) log.places none_taken (omega (arith, long, within, held))
      (omega (arith, long, within))
    where
      none_taken : log.taken ≡ 0 → drop (log.logged + log.taken) log.changes ≡ drop log.logged log.changes
      none_taken none =
          let same : log.logged + log.taken ≡ log.logged = omega (arith, none) in
          ap (λ n. drop n log.changes) same

-- ---- the logger

and_true : (b : Bool) → (b && true) ≡ b
and_true true = refl
and_true false = refl

group_by : (logged taken all tail : ℕ) → tail ≡ all - (logged + taken) → logged + taken ≤ all
    → (nat_lt 0 taken || (nat_lt 0 tail && nat_le (logged + tail) LOG_SLOTS))
    ≡ (nat_lt 0 taken || (nat_lt logged all && nat_le all LOG_SLOTS))
group_by logged zero all tail is within =
    let some : nat_lt 0 tail ≡ nat_lt logged all = grind (arith, nat_tests) in
    let whole : logged + tail ≡ all = omega (arith, is, within) in
    λ i. some i && nat_le (whole i) LOG_SLOTS
group_by logged (suc taken) all tail is within =
    (λ i. some_more taken i || (nat_lt 0 tail && nat_le (logged + tail) LOG_SLOTS))
    ∙ (λ i. sym (some_more taken) i || (nat_lt logged all && nat_le all LOG_SLOTS))

module _ (position : ℕ) (log : Log) (installing : Pending) (lawful : IsLawful log) where
  abbrev log_state : LogState
  log_state = log_state_of position log pending.idle installing

  pub may_log_is : log.log_out ≡ false → state_may_log log_state ≡ may_log log
  may_log_is free =
      (λ i. not log.broken && (group_by log.logged log.taken (length log.changes) (length (tail_blocks log))
      (tail_length log) lawful.taken_within ∙ sym (and_true (has_group log))) i)
      ∙ (λ i. not log.broken && (has_group log && not (sym free i)))

  group_by_taken : (has : Bool) → nat_lt 0 log.taken ≡ has
      → (if has then log.taken else length (tail_blocks log))
      ≡ (if has then log.taken else length log.changes - log.logged)
  group_by_taken true is = refl
  group_by_taken false is =
      let none : log.taken ≡ 0 = grind (arith, nat_tests) in
      let held = tail_length log in
      omega (arith, none, held)

  group_is : state_group log_state ≡ group_size log
  group_is = group_by_taken (nat_lt 0 log.taken) refl

  last_by : (has : Bool) → nat_lt 0 log.taken ≡ has
      → log.log_step ≤ (if has then log.taken else length log.changes - log.logged) + 2
  last_by true is = lawful.log_step
  last_by false is =
      let none : log.taken ≡ 0 = grind (arith, nat_tests) in
      let first = (lawful.log_idle none).0 in
      omega (arith, first)

  last_step : log.log_step ≤ group_size log + 2
  last_step = last_by (nat_lt 0 log.taken) refl

  fits_by : (has : Bool) → nat_lt 0 log.taken ≡ has
      → log.logged + (if has then log.taken else length log.changes - log.logged) ≤ length log.changes
  fits_by true is = lawful.taken_within
  fits_by false is = let within = lawful.taken_within in omega (arith, within)

  group_fits : log.logged + group_size log ≤ length log.changes
  group_fits = fits_by (nat_lt 0 log.taken) refl

  module _ (io : Io) (from : position ≤ log.start + length log.changes)
      (next : IsNextLogCall (with_log_out log) io) where
    begins : log.start + log.logged ≡ group_begins position log_state
    begins = let within = lawful.taken_within in let held = tail_length log in
        omega (arith, from, within, held)

    -- a block goes to its slot
    to_slot : log.log_step < group_size log → io.call
        ≡ Write (record { 0 = slot_block (group_begins position log_state + log.log_step) })
    to_slot less =
        let fits = group_fits in
        let found = there log.changes (log.logged + log.log_step) (omega (arith, less, fits)) in
        (next.body less found.0 found.1).0
        ∙ ap (λ n. Write (record { 0 = slot_block (n + log.log_step) })) begins

    by_step : (body : Bool) → nat_lt log.log_step (group_size log) ≡ body
        → (header : Bool) → nat_eq log.log_step (group_size log + 1) ≡ header
        → io.call ≡ (if body then Write (record
        { 0 = slot_block (group_begins position log_state + log.log_step) })
        else if header then Write (record { 0 = LOG_HEADER_BLOCK }) else Barrier side.Log)
    by_step true is header so = to_slot (grind (arith, nat_tests))
    by_step false is true so = (next.header (grind (arith, nat_tests))).0
    by_step false is false so = elim (cases_lt (group_size log) log.log_step) [
      | inl past ↦ next.header_barrier (let last = last_step in behind_last past last)
      | inr least ↦ next.body_barrier (at_group least)
    ]
      where
        behind_last : group_size log < log.log_step → log.log_step ≤ group_size log + 2
            → log.log_step ≡ group_size log + 2
        behind_last past last = grind (arith, nat_tests)

        at_group : log.log_step ≤ group_size log → log.log_step ≡ group_size log
        at_group least = grind (arith, nat_tests)

    pub log_call_is : io.call ≡ next_log_call position log_state
    log_call_is =
        by_step (nat_lt log.log_step (group_size log)) refl (nat_eq log.log_step (group_size log + 1)) refl
        ∙ (λ i. if nat_lt log.log_step (sym group_is i)
        then Write (record { 0 = slot_block (group_begins position log_state + log.log_step) })
        else if nat_eq log.log_step (sym group_is i + 1) then Write (record { 0 = LOG_HEADER_BLOCK })
        else Barrier side.Log)

-- ---- the installer

pub may_install_is : (position : ℕ) (log : Log) (logging : Pending) → log.inst_out ≡ false
    → state_may_install (log_state_of position log logging pending.idle) ≡ may_install log
may_install_is position log logging free =
    (λ i. not log.broken && sym (and_true (nat_lt 0 log.installing || nat_lt 0 log.logged)) i)
    ∙ (λ i. not log.broken && ((nat_lt 0 log.installing || nat_lt 0 log.logged) && not (sym free i)))

-- of a log that the installer has taken changes of
module _ (log : Log) (log_state : LogState) (io : Io) (some : 0 < log.installing)
    (fits : log.installing ≤ length log.changes) (last : log.inst_step ≤ log.installing + 2)
    (homes : All (λ (change : LogChange). IsHomeOn log.blocks change.block) log.changes)
    (homes_are : log_state.homes ≡ newest_among (take log.installing log.changes) log.inst_step)
    (behind_is : log_state.behind ≡ log.inst_step - log.installing) (taken_is : taken_home log_state ≡ log.installing)
    (next : IsNextInstCall log io) where
  long : length (take log.installing log.changes) ≡ log.installing
  long = length-take-le log.installing log.changes fits

  home : log.inst_step < log.installing → IsNextOfInstalling log.blocks log_state io.call
  home less =
      let found = there log.changes log.inst_step (omega (arith, less, fits)) in
      let few = newest_within (take log.installing log.changes) log.inst_step in
      subst (IsNextOfInstalling log.blocks log_state) (sym (next.home less found.0 found.1).0)
      (inl (record {
        before = omega (arith, behind_is, less);
        fewer = omega (arith, homes_are, taken_is, few, less);
        home = all_of log.changes log.inst_step found.0 log.blocks found.1 homes;
      }))

  home_barrier : log.inst_step ≡ log.installing → IsNextOfInstalling log.blocks log_state io.call
  home_barrier is =
      let long_is = long in
      let none = newest_some (take log.installing log.changes) (omega (arith, long_is, some)) in
      let same : newest_among (take log.installing log.changes) log.inst_step
      ≡ newest_among (take log.installing log.changes) (length (take log.installing log.changes)) =
      ap (newest_among (take log.installing log.changes)) (is ∙ sym long_is) in
      subst (IsNextOfInstalling log.blocks log_state) (sym (next.home_barrier is))
      (inl (omega (arith, behind_is, is), omega (arith, homes_are, same, none)))

  start : log.inst_step ≡ log.installing + 1 → IsNextOfInstalling log.blocks log_state io.call
  start is =
      subst (IsNextOfInstalling log.blocks log_state) (sym (next.start is).0)
      (inr (record { behind = omega (arith, behind_is, is); start = refl }))

  start_barrier : log.inst_step ≡ log.installing + 2 → IsNextOfInstalling log.blocks log_state io.call
  start_barrier is =
      subst (IsNextOfInstalling log.blocks log_state) (sym (next.start_barrier is))
      (inr (omega (arith, behind_is, is)))

  pub inst_call_at : IsNextOfInstalling log.blocks log_state io.call
  inst_call_at = elim (cases_lt log.inst_step log.installing) [
    | inl less ↦ home less
    | inr past ↦ elim (cases_lt log.installing log.inst_step) [
      | inr least ↦ home_barrier (omega (arith, past, least))
      | inl behind ↦ elim (cases_lt (log.installing + 1) log.inst_step) [
        | inl two ↦ start_barrier (omega (arith, last, two))
        | inr one ↦ start (omega (arith, behind, one))
      ]
    ]
  ]

some_of : (broken : Bool) (installing logged : ℕ) (rest : Bool)
    → (not broken && ((nat_lt 0 installing || nat_lt 0 logged) && rest)) ≡ true
    → nat_lt 0 installing ≡ false → 0 < logged
some_of true installing logged rest may none = cc
some_of false installing logged rest may none = by_logged (nat_lt 0 logged) refl
    ((λ i. (sym none i || nat_lt 0 logged) && rest) ∙ may)
  where
    by_logged : (b : Bool) → nat_lt 0 logged ≡ b → (b && rest) ≡ true → 0 < logged
    by_logged true is so = grind (arith, nat_tests)
    by_logged false is so = cc

module _ (position : ℕ) (log : Log) (io : Io) (logging : Pending) (lawful : IsLawful log)
    (may : may_install log ≡ true) where
  abbrev before : LogState
  before = log_state_of position log logging pending.idle

  fits_all : log.logged ≤ length log.changes
  fits_all = let within = lawful.taken_within in omega (arith, within)

  first_few : next_home log.changes log.logged 0 ≤ log.logged
  first_few = home_within log.changes log.logged 0 fits_all (omega arith)

  by_installing : (has : Bool) → nat_lt 0 log.installing ≡ has
      → IsNextInstCall (if has then record log { inst_out = true } else record log {
        installing = log.logged;
        inst_step = next_home log.changes log.logged 0;
        inst_out = true;
      }) io
      → IsNextOfInstalling log.blocks before io.call
  by_installing true is next =
      let few = lawful.installing in
      let within = lawful.taken_within in
      inst_call_at (record log { inst_out = true }) before io (grind (arith, nat_tests))
      (omega (arith, few, within)) lawful.inst_step lawful.homes refl refl
      (λ i. if is i then log.installing else log.logged) next
  by_installing false is next =
      let none : log.installing ≡ 0 = grind (arith, nat_tests) in
      let idle = (lawful.inst_idle none).0 in
      let few = first_few in
      inst_call_at (record log {
        installing = log.logged;
        inst_step = next_home log.changes log.logged 0;
        inst_out = true;
      }) before io
      (some_of log.broken log.installing log.logged (not log.inst_out) may is) fits_all
      (omega (arith, few)) lawful.homes (sym (none_yet position log io logging lawful none))
      (omega (arith, idle, few)) (λ i. if is i then log.installing else log.logged) next

  pub inst_call_is : IsNextInstCall (with_inst_out log) io → IsNextOfInstalling log.blocks before io.call
  inst_call_is next = by_installing (nat_lt 0 log.installing) refl next

-- ---- where the installer stands

passed_again : (xs : List LogChange) → passed_over (drop (passed_over xs) xs) ≡ 0
passed_again [] = refl
passed_again (x ∷ xs) = by_test (is_some (newest_of xs x.block.0)) refl (passed_again xs)
  where
    by_test : (b : Bool) → is_some (newest_of xs x.block.0) ≡ b → passed_over (drop (passed_over xs) xs) ≡ 0
        → passed_over (drop (if b then 1 + passed_over xs else 0) (x ∷ xs)) ≡ 0
    by_test true is none =
        let one : 1 + passed_over xs ≡ suc (passed_over xs) = omega arith in
        ap (λ n. passed_over (drop n (x ∷ xs))) one ∙ none
    by_test false is none = λ i. if is i then 1 + passed_over xs else 0

next_again : (changes : List LogChange) (count index : ℕ)
    → next_home changes count (next_home changes count index) ≡ next_home changes count index
next_again changes count index =
    let some = take count changes in
    let none : passed_over (drop (index + passed_over (drop index (take count changes)))
    (take count changes)) ≡ 0 =
    ap passed_over (sym (drop_more some index (passed_over (drop index some))))
    ∙ passed_again (drop index some) in
    omega (arith, none)

past_all : (changes : List LogChange) (count index : ℕ) → count ≤ length changes → count ≤ index
    → next_home changes count index ≡ index
past_all changes count index fits past =
    let long = length-take-le count changes fits in
    let none : passed_over (drop index (take count changes)) ≡ 0 =
    ap passed_over (drop_all index (take count changes) (omega (arith, long, past))) in
    omega (arith, none)

pub stands_after_commit : (old new : Log) (group : List (BlockNo × Content)) → IsLawful old
    → GrowsBy old group new → StandsStill old new → StandsAtHome old → StandsAtHome new
stands_after_commit old new group lawful grown still stands =
    let few = lawful.installing in
    (λ j. next_home new.changes (grown.installing j) (still.inst_step j))
    ∙ ap (λ xs. old.inst_step + passed_over (drop old.inst_step xs))
    (grown.leading old.installing (omega (arith, few)))
    ∙ stands ∙ sym still.inst_step

pub stands_logging : (log : Log) (ok : Bool) → StandsAtHome log → StandsAtHome (with_log_back log ok)
stands_logging log false stands = stands
stands_logging log true stands = by_last (nat_eq log.log_step (log.taken + 2))
  where
    by_last : (last : Bool)
        → StandsAtHome (if last then record log {
          logged = log.logged + log.taken;
          taken = 0;
          log_step = 0;
          log_out = false;
        } else record log { log_step = log.log_step + 1; log_out = false })
    by_last true = stands
    by_last false = stands

pub stands_taken : (log : Log) → StandsAtHome log → StandsAtHome (with_inst_out log)
stands_taken log stands = by_test (nat_lt 0 log.installing)
  where
    by_test : (has : Bool)
        → StandsAtHome (if has then record log { inst_out = true } else record log {
          installing = log.logged;
          inst_step = next_home log.changes log.logged 0;
          inst_out = true;
        })
    by_test true = stands
    by_test false = next_again log.changes log.logged 0

pub stands_given_back : (log : Log) (ok : Bool) → IsLawful log → StandsAtHome log
    → StandsAtHome (with_inst_back log ok)
stands_given_back log false lawful stands = stands
stands_given_back log true lawful stands =
    by_test (nat_lt log.inst_step log.installing) refl (nat_lt log.inst_step (log.installing + 2))
  where
    by_test : (home : Bool) → nat_lt log.inst_step log.installing ≡ home → (before_end : Bool)
        → StandsAtHome (if home then record log {
          inst_step = next_home log.changes log.installing (log.inst_step + 1);
          inst_out = false;
        } else if before_end then record log { inst_step = log.inst_step + 1; inst_out = false }
        else with_installed log)
    by_test true is any = next_again log.changes log.installing (log.inst_step + 1)
    by_test false is true =
        let few = lawful.installing in
        let within = lawful.taken_within in
        past_all log.changes log.installing (log.inst_step + 1) (omega (arith, few, within))
        (grind (arith, nat_tests))
    by_test false is false = refl

-- ---- room

pub numbers_are : (o : Setting) (log : Log) (logging installing : Pending) (blocks : List BlockNo)
    → IsLawful log
    → o.position ≤ log.start + length log.changes
    → HasNumbers o (log_state_of o.position log logging installing) blocks ↔ HasPlaces log blocks
numbers_are o log logging installing blocks lawful from =
    let within = lawful.taken_within in (
      λ has. let less = has.positions in record {
        place = has.place;
        positions = omega (arith, less, within, from);
      },
      λ has. let less = has.positions in record {
        place = has.place;
        positions = omega (arith, less, within, from);
      },
    )

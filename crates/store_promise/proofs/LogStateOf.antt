-- What is told of a log moves as the log does.
use Rattle.std.proofs.Common.{◌≡◌, ℕ, zero, suc, ◌+◌, ◌-◌, ◌<◌, ◌≤◌, ◌⊎◌, inl, inr, ap, sym, ◌∙◌, refl, subst}
use Rattle.std.proofs.Common.{arith}
use Rattle.std.proofs.Common.{Bool, true, false, if◌then◌else◌, ◌&&◌, List, [], ◌∷◌, Some, length, take, drop}
use Rattle.std.proofs.Common.{nat_eq, nat_lt, slice_get, Result, is_ok, is_some, All}
use Rattle.std.proofs.lemmas.List.{length-drop, length-map}
use Rattle.std.proofs.Common.{length-append, ◌++◌}
use Rattle.std.proofs.lemmas.List.{drop_all, length-take-le, take_rest}
use Rattle.std.proofs.lemmas.Option.{get_or_from_slice_get, slice_get_within}
use Rattle.std.proofs.lemmas.Bool.{cases_lt}
use Rattle.std.proofs.lemmas.Bool.Decides.{nat_tests}
use Rattle.disk.specs.Device.{Content}
use Rattle.disk.specs.declared.block.BlockNo.{BlockNo}
use Rattle.disk.specs.declared.device.Failed.{Failed}
use Rattle.circ.specs.declared.log.change.LogChange.{LogChange}
use Rattle.circ.specs.Log.Calls.{Pending}
use Rattle.circ.specs.Log.Calls as pending
use Rattle.circ.specs.Log.Io.{Io}
use Rattle.base.specs.declared.TheConstants.{START_BLOCK}
use Rattle.disk.specs.declared.block.Side.TheVariants.{Home}
use Rattle.circ.specs.declared.log.calls.IoCall.TheVariants.{Write, Barrier}
use Rattle.circ.specs.Log.Installer.{IsNextInstCall, next_home, passed_over, with_inst_out, with_inst_back}
use Rattle.circ.specs.Log.Installer.{with_installed}
use Rattle.circ.specs.Log.Log.{IsCommitted, IsHomeOn, IsLawful, Log, newest_of, place_before, tail_count}
use Rattle.circ.specs.Log.Log.{blocks_of, changed_blocks, new_blocks, tail_blocks}
use Rattle.circ.proofs.LogLemmas.Tail.{few_new, tail_length}
use Rattle.circ.specs.Log.Logger.{with_log_back, with_log_out}
use Rattle.circ.specs.Log.Grows.{GrowsBy}
use Rattle.txn_law.specs.Steps.{StandsStill}
use Rattle.std.proofs.lemmas.List.{drop-drop, drop-take}
use Rattle.std.proofs.lemmas.List.Elements.{All-drop, All-head}
use Rattle.store_promise.specs.LogState.{LogState, idle, out, state_tail, was_made, with_commit, with_log_given}
use Rattle.store_promise.specs.LogState.{with_inst_behind, with_inst_done, with_inst_given, with_inst_taken}
use Rattle.store_promise.specs.LogState.{with_log_taken}
use Rattle.store_promise.specs.LogStateOf.{StandsAtHome, call_state_of, first_of, log_state_of, newest_among}

-- ---- a commit

pub some_more : (n : ℕ) → nat_lt 0 (suc n) ≡ true
some_more n = grind (arith, nat_tests)

module _ (position : ℕ) (old new : Log) (group : List (BlockNo × Content)) (lawful : IsLawful old)
    (later : IsLawful new) (grown : GrowsBy old group new) (still : StandsStill old new)
    (tail_is : tail_blocks new ≡ tail_blocks old ++ new_blocks (tail_blocks old) (blocks_of group))
    (from : position ≤ old.start + length old.changes) where
  -- how many blocks more the tail has
  abbrev blocks : ℕ
  blocks = length (new_blocks (tail_blocks old) (blocks_of group))

  longer : tail_count new ≡ tail_count old + blocks
  longer =
      let a = tail_length new in
      let b = tail_length old in
      let c = ap length tail_is in
      let d = length-append (tail_blocks old) (new_blocks (tail_blocks old) (blocks_of group)) in
      omega (arith, a, b, c, d)

  few : blocks ≤ length group
  few =
      let a = few_new (tail_blocks old) (blocks_of group) in
      let b = length-map group (λ (change : BlockNo × Content). change.0) in
      omega (arith, a, b)

  -- where the open tails begin
  abbrev preceding : ℕ
  preceding = old.logged + old.taken

  same_preceding : new.logged + new.taken ≡ preceding
  same_preceding = let a = grown.logged in let b = grown.taken in omega (arith, a, b)

  appended_is : new.start + length new.changes - position ≡ old.start + length old.changes - position + blocks
  appended_is =
      let a = lawful.taken_within in
      let b = later.taken_within in
      let c = same_preceding in
      let d = still.start in
      omega (arith, a, b, c, d, longer, from)

  -- the tails, by what commits made
  made_old : All IsCommitted (drop preceding old.changes)
  made_old = subst (All IsCommitted) (drop-drop old.taken old.logged old.changes)
      (All-drop IsCommitted old.taken (drop old.logged old.changes) lawful.committed)

  made_new : All IsCommitted (drop preceding new.changes)
  made_new = subst (λ (n : ℕ). All IsCommitted (drop n new.changes)) same_preceding
      (subst (All IsCommitted) (drop-drop new.taken new.logged new.changes)
      (All-drop IsCommitted new.taken (drop new.logged new.changes) later.committed))

  sizes : (length (drop preceding old.changes) ≡ tail_count old)
      × (length (drop preceding new.changes) ≡ tail_count old + blocks)
  sizes = (
    length-drop preceding old.changes,
    length-drop preceding new.changes ∙ ap (λ n. length new.changes - n) (sym same_preceding) ∙ longer,
  )

  first_is : first_of (drop preceding new.changes)
      ≡ (if nat_lt 0 (length (tail_blocks old)) then first_of (drop preceding old.changes)
      else if nat_lt 0 blocks then old.places + 1 else 0)
  first_is = by_tails (drop preceding old.changes) (drop preceding new.changes) sizes.0 sizes.1 made_old made_new
      (grown.place preceding (omega arith))
      ∙ ap (λ n. if nat_lt 0 n then first_of (drop preceding old.changes)
      else if nat_lt 0 blocks then old.places + 1 else 0) (sym (tail_length old))
    where
      by_tails : (xs ys : List LogChange) → length xs ≡ tail_count old → length ys ≡ tail_count old + blocks
          → All IsCommitted xs → All IsCommitted ys
          → place_before ys new.places ≡ (if nat_eq (length xs) 0 && nat_eq (length group) 0 then old.places + 1
          else place_before xs old.places)
          → first_of ys ≡ (if nat_lt 0 (tail_count old) then first_of xs else if nat_lt 0 blocks
          then old.places + 1 else 0)
      by_tails [] [] one other made made' place =
          let none : tail_count old ≡ 0 = sym one in
          let nothing : blocks ≡ 0 = omega (arith, one, other) in
          sym (ap (λ n. if nat_lt 0 n then 0 else if nat_lt 0 blocks then old.places + 1 else 0) none
          ∙ ap (λ n. if nat_lt 0 n then old.places + 1 else 0) nothing)
      by_tails [] (y ∷ ys) one other made made' place =
          let none : tail_count old ≡ 0 = sym one in
          let some : 0 < blocks = omega (arith, one, other) in
          let nonempty : nat_eq (length group) 0 ≡ false = grind (arith, nat_tests, few, some) in
          let before : y.place - 1 ≡ old.places = place
          ∙ ap (λ (b : Bool). if b then old.places + 1 else old.places) nonempty in
          let committed : 0 < y.place = All-head IsCommitted y ys made' in
          let is : y.place ≡ old.places + 1 = omega (arith, before, committed) in
          let has : nat_lt 0 blocks ≡ true = grind (arith, nat_tests) in
          is ∙ sym (ap (λ n. if nat_lt 0 n then 0 else if nat_lt 0 blocks then old.places + 1 else 0) none
          ∙ ap (λ (b : Bool). if b then old.places + 1 else 0) has)
      by_tails (x ∷ xs) [] one other made made' place = absurd (omega (arith, one, other))
      by_tails (x ∷ xs) (y ∷ ys) one other made made' place =
          let some : 0 < tail_count old = omega (arith, one) in
          let has : nat_lt 0 (tail_count old) ≡ true = grind (arith, nat_tests) in
          let a : 0 < x.place = All-head IsCommitted x xs made in
          let b : 0 < y.place = All-head IsCommitted y ys made' in
          let more : nat_eq (suc (length xs)) 0 ≡ false = grind (arith, nat_tests) in
          let before : y.place - 1 ≡ x.place - 1 = place
          ∙ ap (λ (t : Bool). if t && nat_eq (length group) 0 then old.places + 1 else x.place - 1) more in
          let is : y.place ≡ x.place = omega (arith, a, b, before) in
          is ∙ sym (ap (λ (t : Bool). if t then x.place else if nat_lt 0 blocks then old.places + 1 else 0) has)

  -- what the logger has taken lies ahead of them
  taken_is : first_of (take old.taken (drop old.logged new.changes)) ≡ first_of
      (take old.taken (drop old.logged old.changes))
  taken_is = ap first_of (sym (drop-take old.logged old.taken new.changes)
      ∙ ap (drop old.logged) (grown.leading preceding (omega arith)) ∙ drop-take old.logged old.taken old.changes)

  -- what the installer has taken is the same
  homes_are : newest_among (take new.installing new.changes) new.inst_step
      ≡ newest_among (take old.installing old.changes) old.inst_step
  homes_are =
      let few = lawful.installing in
      (λ j. newest_among (take (grown.installing j) new.changes) (still.inst_step j))
      ∙ ap (λ (xs : List LogChange). newest_among xs old.inst_step)
      (grown.leading old.installing (omega (arith, few)))

  pub commit_moves_log_state : (logging installing : Pending) → log_state_of position new logging installing
      ≡ with_commit (log_state_of position old logging installing) (blocks_of group)
  commit_moves_log_state logging installing = λ i. record {
    places = grown.places i;
    appended = appended_is i;
    tail = tail_is i;
    tail_first = (ap (λ n. first_of (drop n new.changes)) same_preceding ∙ first_is) i;
    taken = grown.taken i;
    taken_first = (ap (λ (p : ℕ × ℕ). first_of (take p.0 (drop p.1 new.changes)))
        (λ j. (grown.taken j, grown.logged j)) ∙ taken_is) i;
    log_step = still.log_step i;
    logged = grown.logged i;
    installing = grown.installing i;
    homes = homes_are i;
    behind = still.inst_step i - grown.installing i;
    broken = still.broken i;
    log_call = call_state_of logging;
    inst_call = call_state_of installing;
  }

-- ---- the logger

module _ (position : ℕ) (log : Log) (io : Io) (installing : Pending) (lawful : IsLawful log) where
  abbrev log_state : LogState
  log_state = log_state_of position log pending.idle installing

  by_taken : (has : Bool) → nat_lt 0 log.taken ≡ has
      → log_state_of position
      (record log { taken = if has then log.taken else length log.changes - log.logged; log_out = true })
      (pending.out io) installing
      ≡ (if has then record log_state { log_call = out io.call } else record log_state {
        taken = state_tail log_state;
        taken_first = log_state.tail_first;
        tail = [];
        tail_first = 0;
        log_call = out io.call;
      })
  by_taken true is = refl
  by_taken false is =
      let none : log.taken ≡ 0 = grind (arith, nat_tests) in
      let within = lawful.taken_within in
      let size : length log.changes - log.logged ≡ tail_count log = omega (arith, none) in
      let all : length log.changes ≤ log.logged + (length log.changes - log.logged) = omega arith in
      let same : log.logged ≡ log.logged + log.taken = omega (arith, none) in
      λ i. record log_state {
        taken = (size ∙ sym (tail_length log)) i;
        taken_first = (ap first_of (take_rest log.changes log.logged)
            ∙ ap (λ n. first_of (drop n log.changes)) same) i;
        tail = ap changed_blocks (drop_all (log.logged + (length log.changes - log.logged)) log.changes all) i;
        tail_first = ap first_of (drop_all (log.logged + (length log.changes - log.logged)) log.changes all) i;
        log_call = out io.call;
      }

  pub log_taken_moves_state : log_state_of position (with_log_out log) (pending.out io) installing
      ≡ with_log_taken log_state io.call
  log_taken_moves_state = by_taken (nat_lt 0 log.taken) refl

module _ (position : ℕ) (log : Log) (io : Io) (answer : Result Unit Failed) (installing : Pending) where
  abbrev made : LogState
  made = log_state_of position log (pending.was_made io answer) installing

  by_last : (last : Bool)
      → log_state_of position
      (if last then record log { logged = log.logged + log.taken; taken = 0; log_step = 0; log_out = false }
      else record log { log_step = log.log_step + 1; log_out = false }) pending.idle installing
      ≡ (if last then record made {
        logged = made.logged + made.taken;
        taken = 0;
        taken_first = 0;
        log_step = 0;
        log_call = idle;
      } else record made { log_step = made.log_step + 1; log_call = idle })
  by_last true =
      let same : log.logged + log.taken + 0 ≡ log.logged + log.taken = omega arith in
      λ i. record made {
        tail = changed_blocks (drop (same i) log.changes);
        tail_first = first_of (drop (same i) log.changes);
        logged = log.logged + log.taken;
        taken = 0;
        taken_first = 0;
        log_step = 0;
        log_call = idle;
      }
  by_last false = refl

  pub log_given_moves_state : (ok : Bool) → log_state_of position (with_log_back log ok) pending.idle installing
      ≡ with_log_given made ok
  log_given_moves_state true = by_last (nat_eq log.log_step (log.taken + 2))
  log_given_moves_state false = refl

-- ---- the installer

passed_less : (changes : List LogChange) → passed_over changes ≤ length changes
passed_less [] = omega arith
passed_less (change ∷ later) = by_test (is_some (newest_of later change.block.0)) (passed_less later)
  where
    by_test : (b : Bool) → passed_over later ≤ length later
        → (if b then 1 + passed_over later else 0) ≤ suc (length later)
    by_test true less = omega (arith, less)
    by_test false less = omega arith

pub home_within : (changes : List LogChange) (count index : ℕ) → count ≤ length changes → index ≤ count
    → next_home changes count index ≤ count
home_within changes count index fits less =
    let rest : length (drop index (take count changes)) ≡ count - index =
    length-drop index (take count changes) ∙ ap (λ n. n - index) (length-take-le count changes fits) in
    let few = passed_less (drop index (take count changes)) in
    omega (arith, rest, few, less)

pub there : (xs : List LogChange) (k : ℕ) → k < length xs → (x : LogChange) × (slice_get xs k ≡ Some x)
there [] k less = absurd (omega (arith, less))
there (x ∷ xs) zero less = (x, refl)
there (x ∷ xs) (suc k) less = there xs k (omega (arith, less))

differs : (a b : ℕ) → (a < b) ⊎ (b < a) → nat_eq a b ≡ false
differs a b (inl less) = grind (arith, nat_tests)
differs a b (inr more) = grind (arith, nat_tests)

and_false : (a b : Bool) → b ≡ false → (a && b) ≡ false
and_false true b is = is
and_false false b is = refl

pub all_of : (xs : List LogChange) (k : ℕ) (x : LogChange) (blocks : ℕ) → slice_get xs k ≡ Some x
    → All (λ (change : LogChange). IsHomeOn blocks change.block) xs → IsHomeOn blocks x.block
all_of xs k x blocks is all =
    subst (λ (change : LogChange). IsHomeOn blocks change.block) (get_or_from_slice_get xs k x x is)
    (all k x (slice_get_within xs k x is))

installed_appended : (start installing all position rest : ℕ) → rest ≡ all - installing → installing ≤ all
    → start + installing + rest - position ≡ start + all - position
installed_appended start installing all position rest is less = omega (arith, is, less)

none_left : (n : ℕ) → drop {A = LogChange} n [] ≡ []
none_left zero = refl
none_left (suc n) = refl

pub drop_more : (xs : List LogChange) (n m : ℕ) → drop m (drop n xs) ≡ drop (n + m) xs
drop_more [] n m = ap (drop m) (none_left n) ∙ none_left m ∙ sym (none_left (n + m))
drop_more (x ∷ xs) zero m =
    let same : m ≡ 0 + m = omega arith in
    ap (λ n. drop n (x ∷ xs)) same
drop_more (x ∷ xs) (suc n) m =
    let same : suc (n + m) ≡ suc n + m = omega arith in
    drop_more xs n m ∙ ap (λ n. drop n (x ∷ xs)) same

-- ---- how many of the changes are the newest of their block

passes : (xs : List LogChange) → newest_among xs (passed_over xs) ≡ 0
passes [] = refl
passes (x ∷ xs) = by_test (is_some (newest_of xs x.block.0)) refl (passes xs)
  where
    by_test : (b : Bool) → is_some (newest_of xs x.block.0) ≡ b → newest_among xs (passed_over xs) ≡ 0
        → newest_among (x ∷ xs) (if b then 1 + passed_over xs else 0) ≡ 0
    by_test true is none =
        let one : 1 + passed_over xs ≡ suc (passed_over xs) = omega arith in
        ap (newest_among (x ∷ xs)) one
        ∙ (λ i. if is i then newest_among xs (passed_over xs) else 1 + newest_among xs (passed_over xs))
        ∙ none
    by_test false is none = refl

-- those that are passed over aren't
passed_counts : (xs : List LogChange) (k : ℕ)
    → newest_among xs (k + passed_over (drop k xs)) ≡ newest_among xs k
passed_counts xs zero =
    let same : 0 + passed_over xs ≡ passed_over xs = omega arith in
    ap (newest_among xs) same ∙ passes xs
passed_counts [] (suc k) =
    let same : suc k + 0 ≡ suc k = omega arith in
    ap (newest_among []) same
passed_counts (x ∷ xs) (suc k) =
    let same : suc k + passed_over (drop k xs) ≡ suc (k + passed_over (drop k xs)) = omega arith in
    ap (newest_among (x ∷ xs)) same
    ∙ (λ i. if is_some (newest_of xs x.block.0) then passed_counts xs k i else 1 + passed_counts xs k i)

-- one where none is passed over is
newest_counts : (xs : List LogChange) (k : ℕ) → k < length xs → passed_over (drop k xs) ≡ 0
    → newest_among xs (suc k) ≡ newest_among xs k + 1
newest_counts [] k less is = absurd (omega (arith, less))
newest_counts (x ∷ xs) zero less is = by_test (is_some (newest_of xs x.block.0)) refl is
  where
    by_test : (b : Bool) → is_some (newest_of xs x.block.0) ≡ b → (if b then 1 + passed_over xs else 0) ≡ 0
        → (if b then newest_among xs 0 else 1 + newest_among xs 0) ≡ 1
    by_test true so none = absurd (omega (arith, none))
    by_test false so none = refl
newest_counts (x ∷ xs) (suc k) less is =
    by_test (is_some (newest_of xs x.block.0)) (newest_counts xs k (omega (arith, less)) is)
  where
    by_test : (b : Bool) → newest_among xs (suc k) ≡ newest_among xs k + 1
        → (if b then newest_among xs (suc k) else 1 + newest_among xs (suc k))
        ≡ (if b then newest_among xs k else 1 + newest_among xs k) + 1
    by_test true same = same
    by_test false same = omega (arith, same)

-- past the last there is none
past_last : (xs : List LogChange) (k : ℕ) → length xs ≤ k → newest_among xs (suc k) ≡ newest_among xs k
past_last [] zero past = refl
past_last [] (suc k) past = refl
past_last (x ∷ xs) zero past = absurd (omega (arith, past))
past_last (x ∷ xs) (suc k) past =
    λ i. if is_some (newest_of xs x.block.0) then past_last xs k (omega (arith, past)) i
    else 1 + past_last xs k (omega (arith, past)) i

pub newest_within : (xs : List LogChange) (k : ℕ) → newest_among xs k ≤ k
newest_within xs zero = omega arith
newest_within [] (suc k) = omega arith
newest_within (x ∷ xs) (suc k) = by_test (is_some (newest_of xs x.block.0)) (newest_within xs k)
  where
    by_test : (b : Bool) → newest_among xs k ≤ k
        → (if b then newest_among xs k else 1 + newest_among xs k) ≤ suc k
    by_test true less = omega (arith, less)
    by_test false less = omega (arith, less)

-- and where there are changes, the last is
pub newest_some : (xs : List LogChange) → 0 < length xs → 0 < newest_among xs (length xs)
newest_some [] some = absurd (omega (arith, some))
newest_some (x ∷ []) some = omega arith
newest_some (x ∷ y ∷ xs) some =
    by_test (is_some (newest_of (y ∷ xs) x.block.0)) (newest_some (y ∷ xs) (omega arith))
  where
    by_test : (b : Bool) → 0 < newest_among (y ∷ xs) (length (y ∷ xs))
        → 0 < (if b then newest_among (y ∷ xs) (length (y ∷ xs)) else 1 + newest_among (y ∷ xs)
        (length (y ∷ xs)))
    by_test true more = more
    by_test false more = omega arith

module _ (position : ℕ) (log : Log) (io : Io) (logging : Pending) (lawful : IsLawful log) where
  abbrev before : LogState
  before = log_state_of position log logging pending.idle

  fits : log.logged ≤ length log.changes
  fits = let within = lawful.taken_within in omega (arith, within)

  -- the first that it takes is the first that it brings home
  pub none_yet : log.installing ≡ 0 → newest_among (take log.logged log.changes)
      (next_home log.changes log.logged 0)
      ≡ newest_among (take log.installing log.changes) log.inst_step
  none_yet none =
      let idle = (lawful.inst_idle none).0 in
      passed_counts (take log.logged log.changes) 0
      ∙ ap (newest_among (take log.installing log.changes)) (sym idle)

  by_installing : (has : Bool) → nat_lt 0 log.installing ≡ has
      → log_state_of position (if has then record log { inst_out = true } else record log {
        installing = log.logged;
        inst_step = next_home log.changes log.logged 0;
        inst_out = true;
      }) logging (pending.out io)
      ≡ (if has then record before { inst_call = out io.call }
      else record before { installing = before.logged; inst_call = out io.call })
  by_installing true is = refl
  by_installing false is =
      let none : log.installing ≡ 0 = grind (arith, nat_tests) in
      let idle = (lawful.inst_idle none).0 in
      let few = home_within log.changes log.logged 0 fits (omega arith) in
      let same : next_home log.changes log.logged 0 - log.logged ≡ log.inst_step - log.installing =
      omega (arith, idle, few) in
      λ i. record before {
        installing = log.logged;
        homes = none_yet none i;
        behind = same i;
        inst_call = out io.call;
      }

  pub inst_taken_moves_state : log_state_of position (with_inst_out log) logging (pending.out io)
      ≡ with_inst_taken before io.call
  inst_taken_moves_state = by_installing (nat_lt 0 log.installing) refl

module _ (position : ℕ) (log : Log) (io : Io) (answer : Result Unit Failed) (logging : Pending)
    (lawful : IsLawful log) (stands : StandsAtHome log) (is_out : log.inst_out ≡ true)
    (next : IsNextInstCall log io) where
  abbrev given : LogState
  given = log_state_of position log logging (pending.was_made io answer)

  some : 0 < log.installing
  some = by_cases (cases_lt 0 log.installing)
    where
      never : log.installing ≡ 0 → ⊥
      never none = let idle = (lawful.inst_idle none).1 in cc

      by_cases : (0 < log.installing) ⊎ (log.installing ≤ 0) → 0 < log.installing
      by_cases (inl less) = less
      by_cases (inr none) = absurd (never (omega (arith, none)))

  within_changes : log.installing ≤ length log.changes
  within_changes = let a = lawful.installing in let b = lawful.taken_within in omega (arith, a, b)

  abbrev taken_changes : List LogChange
  taken_changes = take log.installing log.changes

  long_taken : length taken_changes ≡ log.installing
  long_taken = length-take-le log.installing log.changes within_changes

  -- a block was brought home
  at_home : log.inst_step < log.installing
      → log_state_of position (record log {
        inst_step = next_home log.changes log.installing (log.inst_step + 1);
        inst_out = false;
      }) logging pending.idle
      ≡ with_inst_done given (was_made io.call (is_ok answer))
  at_home less =
      let found = there log.changes log.inst_step
      (let within = within_changes in omega (arith, less, within)) in
      let call : io.call ≡ Write found.0.block = (next.home less found.0 found.1).0 in
      let few = home_within log.changes log.installing (log.inst_step + 1) within_changes
      (omega (arith, less)) in
      let none : next_home log.changes log.installing (log.inst_step + 1) - log.installing
      ≡ log.inst_step - log.installing = omega (arith, few, less) in
      let first : nat_eq (log.inst_step - log.installing) 0 ≡ true = not_behind less in
      (λ i. record given { homes = one_more less i; behind = none i; inst_call = idle })
      ∙ (λ i. if sym first i then record given { homes = given.homes + 1; inst_call = idle }
      else with_inst_behind given)
      ∙ ap (λ one. with_inst_done given (was_made one (is_ok answer))) (sym call)
    where
      not_behind : log.inst_step < log.installing → nat_eq (log.inst_step - log.installing) 0 ≡ true
      not_behind less =
          let none : log.inst_step - log.installing ≡ 0 = omega (arith, less) in grind (arith, nat_tests)

      one_more : log.inst_step < log.installing
          → newest_among taken_changes (next_home log.changes log.installing (log.inst_step + 1))
          ≡ newest_among taken_changes log.inst_step + 1
      one_more less =
          let long = long_taken in
          let stays : log.inst_step + passed_over (drop log.inst_step taken_changes) ≡ log.inst_step = stands in
          let same : log.inst_step + 1 ≡ suc log.inst_step = omega arith in
          passed_counts taken_changes (log.inst_step + 1) ∙ ap (newest_among taken_changes) same
          ∙ newest_counts taken_changes log.inst_step (omega (arith, long, less)) (omega (arith, stays))

  -- one of the calls behind them was made, and not the last
  one_behind : log.installing ≤ log.inst_step → log.inst_step < log.installing + 2
      → log_state_of position (record log { inst_step = log.inst_step + 1; inst_out = false }) logging pending.idle
      ≡ with_inst_behind given
  one_behind past before_last =
      let long = long_taken in
      let same : log.inst_step + 1 ≡ suc log.inst_step = omega arith in
      let next : log.inst_step + 1 - log.installing ≡ log.inst_step - log.installing + 1 =
      omega (arith, past) in
      let not_last : nat_eq (log.inst_step - log.installing) 2 ≡ false =
      differs (log.inst_step - log.installing) 2 (inl (omega (arith, past, before_last))) in
      (λ i. record given {
        homes = (ap (newest_among taken_changes) same
            ∙ past_last taken_changes log.inst_step (omega (arith, long, past))) i;
        behind = next i;
        inst_call = idle;
      })
      ∙ (λ i. if sym not_last i then record given {
        logged = given.logged - given.installing;
        installing = 0;
        homes = 0;
        behind = 0;
        inst_call = idle;
      } else record given { behind = given.behind + 1; inst_call = idle })

  -- the barrier behind them
  at_barrier : log.inst_step ≡ log.installing
      → log_state_of position (record log { inst_step = log.inst_step + 1; inst_out = false }) logging pending.idle
      ≡ with_inst_done given (was_made io.call (is_ok answer))
  at_barrier is =
      let call : io.call ≡ Barrier Home = next.home_barrier is in
      one_behind (omega (arith, is)) (omega (arith, is))
      ∙ ap (λ one. with_inst_done given (was_made one (is_ok answer))) (sym call)

  -- the raised start was written
  at_start : log.inst_step ≡ log.installing + 1
      → log_state_of position (record log { inst_step = log.inst_step + 1; inst_out = false }) logging pending.idle
      ≡ with_inst_done given (was_made io.call (is_ok answer))
  at_start is =
      let call : io.call ≡ Write (record { 0 = START_BLOCK }) = (next.start is).0 in
      let behind : nat_eq (log.inst_step - log.installing) 0 ≡ false =
      differs (log.inst_step - log.installing) 0 (inr (omega (arith, is))) in
      one_behind (omega (arith, is)) (omega (arith, is))
      ∙ (λ i. if sym behind i then record given { homes = given.homes + 1; inst_call = idle }
      else with_inst_behind given)
      ∙ ap (λ one. with_inst_done given (was_made one (is_ok answer))) (sym call)

  -- and settled: what was brought home leaves the log
  at_end : log.inst_step ≡ log.installing + 2
      → log_state_of position (with_installed log) logging pending.idle
      ≡ with_inst_done given (was_made io.call (is_ok answer))
  at_end is =
      let call : io.call ≡ Barrier Home = next.start_barrier is in
      let within = lawful.taken_within in
      let few = lawful.installing in
      let long : length (drop log.installing log.changes) ≡ length log.changes - log.installing =
      length-drop log.installing log.changes in
      let behind : log.installing + (log.logged - log.installing + log.taken) ≡ log.logged + log.taken =
      omega (arith, few) in
      let settled : log.installing + (log.logged - log.installing) ≡ log.logged = omega (arith, few) in
      (λ i. record given {
        appended = (installed_appended log.start log.installing (length log.changes) position
            (length (drop log.installing log.changes)) long within_changes) i;
        tail = (ap changed_blocks (drop_more log.changes log.installing
            (log.logged - log.installing + log.taken))
            ∙ ap (λ n. changed_blocks (drop n log.changes)) behind) i;
        tail_first = (ap first_of (drop_more log.changes log.installing
            (log.logged - log.installing + log.taken))
            ∙ ap (λ n. first_of (drop n log.changes)) behind) i;
        taken_first = (ap (λ (xs : List LogChange). first_of (take log.taken xs))
            (drop_more log.changes log.installing (log.logged - log.installing))
            ∙ ap (λ n. first_of (take log.taken (drop n log.changes))) settled) i;
        logged = log.logged - log.installing;
        installing = 0;
        homes = 0;
        behind = 0;
        inst_call = idle;
      })
      ∙ (λ i. if sym last i then record given {
        logged = given.logged - given.installing;
        installing = 0;
        homes = 0;
        behind = 0;
        inst_call = idle;
      } else record given { behind = given.behind + 1; inst_call = idle })
      ∙ ap (λ one. with_inst_done given (was_made one (is_ok answer))) (sym call)
    where
      last : nat_eq (log.inst_step - log.installing) 2 ≡ true
      last =
          let two : log.inst_step - log.installing ≡ 2 = omega (arith, is) in grind (arith, nat_tests)

  by_stage : (home : Bool) → nat_lt log.inst_step log.installing ≡ home
      → (before_end : Bool) → nat_lt log.inst_step (log.installing + 2) ≡ before_end
      → log_state_of position (if home then record log {
        inst_step = next_home log.changes log.installing (log.inst_step + 1);
        inst_out = false;
      } else if before_end then record log { inst_step = log.inst_step + 1; inst_out = false }
      else with_installed log) logging pending.idle
      ≡ with_inst_done given (was_made io.call (is_ok answer))
  by_stage true is any so = at_home (grind (arith, nat_tests))
  by_stage false is true so = elim (cases_lt log.installing log.inst_step) [
    | inl past ↦ at_start (step_is log.inst_step log.installing is so past)
    | inr least ↦ at_barrier (step_at log.inst_step log.installing is least)
  ]
    where
      step_is : (step count : ℕ) → nat_lt step count ≡ false → nat_lt step (count + 2) ≡ true → count < step
          → step ≡ count + 1
      step_is step count a b c = grind (arith, nat_tests)

      step_at : (step count : ℕ) → nat_lt step count ≡ false → step ≤ count → step ≡ count
      step_at step count a c = grind (arith, nat_tests)
  by_stage false is false so =
      at_end (last log.inst_step log.installing so lawful.inst_step)
    where
      last : (step count : ℕ) → nat_lt step (count + 2) ≡ false → step ≤ count + 2 → step ≡ count + 2
      last step count a b = grind (arith, nat_tests)

  pub inst_given_moves_state : (ok : Bool) → log_state_of position (with_inst_back log ok) logging pending.idle
      ≡ with_inst_given (log_state_of position log logging (pending.was_made io answer)) ok
  inst_given_moves_state true = by_stage (nat_lt log.inst_step log.installing) refl
      (nat_lt log.inst_step (log.installing + 2)) refl
  inst_given_moves_state false = refl

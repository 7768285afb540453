-- Its log begins at the position that each image tells, and has no changes.
use Rattle.std.proofs.Common.{◌≡◌, ℕ, zero, suc, ◌+◌, ◌-◌, ◌≤◌, ap, sym, ◌∙◌, refl, arith}
use Rattle.std.proofs.Common.{List, [], length, take, drop}
use Rattle.base.specs.declared.TheConstants.{START_BLOCK}
use Rattle.disk.specs.Crash.{Image}
use Rattle.disk.specs.Device.{Device}
use Rattle.nfs_spec.specs.Model.Tree.{Tree}
use Rattle.txn_law.specs.Core.{CoreState}
use Rattle.circ.specs.declared.log.change.LogChange.{LogChange}
use Rattle.circ.specs.Log.Installer.{next_home, passed_over}
use Rattle.circ.specs.Log.Log.{Log, changed_blocks, installed_place, tail_blocks}
use Rattle.store_promise.specs.LogState.{empty_log, idle}
use Rattle.layout.specs.Homes.{homes_of}
use Rattle.txn_law.specs.Window.{Footprint, after_commits, opening}
use Rattle.store_promise.specs.OpenSince.{blocks_after, file_blocks}
use Rattle.store_promise.specs.OpenStore.{IsNewOver}
use Rattle.store_promise.specs.Openings.{IsOpened}
use Rattle.store_promise.specs.Running.{at_rest, store_log_state}
use Rattle.store_promise.specs.LogStateOf.{first_of, newest_among}
use Rattle.store_promise.proofs.run_laws.an_opening_begins_a_run.Goals as goal

take_none : (n : ℕ) → take {A = LogChange} n [] ≡ []
take_none zero = refl
take_none (suc n) = refl

drop_none : (n : ℕ) → drop {A = LogChange} n [] ≡ []
drop_none zero = refl
drop_none (suc n) = refl

none_among : (n : ℕ) → newest_among [] n ≡ 0
none_among zero = refl
none_among (suc n) = refl

module _ (before opened : Device) (base : Image) (core : CoreState) (tree : Tree) (first position : ℕ)
    (opens : IsOpened before opened tree first position) (new : IsNewOver base opened core) where
  abbrev log : Log
  log = core.log

  -- where the log begins
  position_is : log.start ≡ position
  position_is =
      let left = opens.left opened.clock opens.past.clock (omega arith) in
      let size = new.agrees.agrees.size in
      let disk = new.lawful.disk in
      let rests = new.lawful.inst_step in
      let early : log.inst_step ≤ log.installing = (let idle = new.lawful.inst_idle none_installing in
      let step = idle.0 in omega (arith, step)) in
      let behind = new.agrees.agrees.homes.start early (left.0 START_BLOCK)
      (left.1 START_BLOCK (omega (arith, size, disk))) in
      let tells = (opens.empty left.0 left.1).0 in
      omega (arith, behind, tells)
    where
      none_installing : log.installing ≡ 0
      none_installing =
          let a = new.lawful.installing in
          let b = new.lawful.taken_within in
          let c = ap (λ (xs : List LogChange). length xs) new.changes in
          omega (arith, a, b, c)

  long : length log.changes ≡ 0
  long = ap (λ (xs : List LogChange). length xs) new.changes

  none_logged : log.logged ≡ 0
  none_logged = let a = new.lawful.taken_within in let b = long in omega (arith, a, b)

  none_taken : log.taken ≡ 0
  none_taken = let a = new.lawful.taken_within in let b = long in omega (arith, a, b)

  none_installing : log.installing ≡ 0
  none_installing = let a = new.lawful.installing in let b = none_logged in omega (arith, a, b)

  stands : next_home log.changes log.installing log.inst_step ≡ log.inst_step
  stands =
      let none = ap passed_over (ap (λ (xs : List LogChange). drop log.inst_step xs)
      (ap (λ (xs : List LogChange). take log.installing xs) new.changes ∙ take_none log.installing)
      ∙ drop_none log.inst_step) in
      omega (arith, none)

  appended : log.start + length log.changes - position ≡ 0
  appended = let a = position_is in let b = long in omega (arith, a, b)

  tail : tail_blocks log ≡ []
  tail = ap (λ (xs : List LogChange). changed_blocks (drop (log.logged + log.taken) xs)) new.changes
      ∙ ap changed_blocks (drop_none (log.logged + log.taken))

  tail_first : first_of (drop (log.logged + log.taken) log.changes) ≡ 0
  tail_first = ap (λ (xs : List LogChange). first_of (drop (log.logged + log.taken) xs)) new.changes
      ∙ ap first_of (drop_none (log.logged + log.taken))

  taken_first : first_of (take log.taken (drop log.logged log.changes)) ≡ 0
  taken_first = ap (λ (xs : List LogChange). first_of (take log.taken (drop log.logged xs))) new.changes
      ∙ ap (λ (xs : List LogChange). first_of (take log.taken xs)) (drop_none log.logged)
      ∙ ap first_of (take_none log.taken)

  homes : newest_among (take log.installing log.changes) log.inst_step ≡ 0
  homes = ap (λ (xs : List LogChange). newest_among (take log.installing xs) log.inst_step) new.changes
      ∙ ap (λ (xs : List LogChange). newest_among xs log.inst_step) (take_none log.installing)
      ∙ none_among log.inst_step

  log_step : log.log_step ≡ 0
  log_step = (new.lawful.log_idle none_taken).0

  behind : log.inst_step - log.installing ≡ 0
  behind = let step = (new.lawful.inst_idle none_installing).0 in omega (arith, step)

  log_state_is_empty : store_log_state position (at_rest opened core) ≡ empty_log
  log_state_is_empty = λ i. record {
    places = new.places i;
    appended = appended i;
    tail = tail i;
    tail_first = tail_first i;
    taken = none_taken i;
    taken_first = taken_first i;
    log_step = log_step i;
    logged = none_logged i;
    installing = none_installing i;
    homes = homes i;
    behind = behind i;
    broken = new.sound i;
    log_call = idle;
    inst_call = idle;
  }

take_nothing : (count : ℕ) → take {A = Footprint} count [] ≡ []
take_nothing zero = refl
take_nothing (suc count) = refl

-- before the first commit each place has the files' blocks
no_commit : (base : Image) (core : CoreState) → core.records ≡ [] → (count : ℕ)
    → blocks_after base core count ≡ file_blocks base core
no_commit base core none count =
    let homes = homes_of core.log.blocks (opening base core.log) in
    ap (λ (rs : List Footprint). after_commits homes (take count rs)) none
    ∙ ap (λ (rs : List Footprint). after_commits homes rs) (take_nothing count)
    ∙ sym (ap (λ (rs : List Footprint). after_commits homes rs) none)

pub returns-clause-runs : goal.returns-clause-runs
returns-clause-runs c = λ before opened base core tree first o opens new newest blocks inodes files. record {
  since = c.an_opening_leaves_an_open_store.ensures before opened base core tree first o.position opens new;
  position = (let at = position_is before opened base core tree first o.position opens new in
      omega (arith, at));
  blocks = blocks ∙ new.agrees.agrees.size;
  inodes = inodes;
  newest = newest;
  placed = λ count. files (installed_place core.log + count) ∙ sym (no_commit base core new.records count);
  stands = stands before opened base core tree first o.position opens new;
  fetched = λ k fetch less. absurd (omega (arith, less));
}

pub returns-clause-is_run_state : goal.returns-clause-is_run_state
returns-clause-is_run_state c = λ before opened base core tree first o opens new. record {
  log = sym (log_state_is_empty before opened base core tree first o.position opens new);
  begun = sym new.begun;
  refused = sym new.refused;
}

-- Lemmas: what moves the ends of groups alone keeps the window.
use Rattle.std.proofs.Common.{◌≡◌, ℕ, ◌+◌, ◌-◌, ◌<◌, ◌≤◌, ◌⊎◌, inl, inr, Bool, true, false, nat_eq, nat_lt}
use Rattle.std.proofs.Common.{if◌then◌else◌, List, [], ◌∷◌, length, take, drop, All, None, refl, sym, ap}
use Rattle.std.proofs.Common.{subst, ◌∙◌, arith}
use Rattle.std.proofs.lemmas.List.{drop_all, take_all}
use Rattle.std.proofs.lemmas.List.Elements.{All-nil}
use Rattle.disk.specs.Device.{Content}
use Rattle.disk.specs.Crash.{Image}
use Rattle.disk.specs.declared.block.BlockNo.{BlockNo}
use Rattle.circ.specs.declared.log.change.LogChange.{LogChange}
use Rattle.circ.specs.Log.Law.{with_changes, IsAfter, IsBoundary, IsOutside}
use Rattle.circ.specs.Log.Log.{Log, IsLawful, IsCommitted, newest, opened, changes_of, place_before}
use Rattle.circ.specs.Log.Log.{installed_place, settled_place}
use Rattle.circ.specs.Log.Logger.{group_size, with_log_out, with_log_back}
use Rattle.circ.specs.Log.Installer.{next_home, with_inst_out}
use Rattle.circ.specs.Log.Overlay.{content_or, over}
use Rattle.circ.proofs.LogLemmas.Lawful.{length-changes_of}
use Rattle.circ.proofs.LogLemmas.Newest.{place_before-all}
use Rattle.circ.proofs.LogLemmas.Places.{place_before-drop-le, rising-drop}
use Rattle.std.proofs.lemmas.List.{drop-drop}
use Rattle.std.proofs.lemmas.List.Elements.{All-drop}
use Rattle.circ.specs.Log.Grows.{recovered}
use Rattle.txn_law.specs.Window.{Footprint, after_commits}
use Rattle.txn_law.specs.Window.{opening, now_of, GroupEnd, at_first, at_installed, at_logged}
use Rattle.txn_law.specs.Window.{at_taken, at_last, commits_among, AreInLog, ArePinned, IsCurrent}
use Rattle.txn_law.specs.Window.{IsWindowOver}
use Rattle.circ.proofs.LogLemmas.Ends.{recovered-committed, place_le}
use Rattle.txn_law.proofs.Commit.{take_nil}

-- the log with other ends of its groups
abbrev pub moved : Log → ℕ → ℕ → ℕ → Bool → ℕ → ℕ → Bool → Bool → Log
moved log logged taken log_step log_out installing inst_step inst_out broken =
    record log {
      logged = logged;
      taken = taken;
      log_step = log_step;
      log_out = log_out;
      installing = installing;
      inst_step = inst_step;
      inst_out = inst_out;
      broken = broken;
    }

pub window_moved : (base : Image) (log : Log) (commits : List Footprint) (held : List (ℕ × Content))
    (logged taken log_step : ℕ) (log_out : Bool) (installing inst_step : ℕ) (inst_out broken : Bool)
    → ((count : ℕ)
    → GroupEnd (moved log logged taken log_step log_out installing inst_step inst_out broken) count
    → GroupEnd log count)
    → (0 < installing → recovered (drop installing log.changes) ≡ []) → IsWindowOver base log commits held
    → IsWindowOver base (moved log logged taken log_step log_out installing inst_step inst_out broken) commits
    held
window_moved base log commits held logged taken log_step log_out installing inst_step inst_out broken ends
    clean h = record {
      follow = h.follow;
      placed = h.placed;
      all = h.all;
      opened = clean;
      group = λ count end. h.group count (ends count end);
      written = λ count end. h.written count (ends count end);
      memory = h.memory;
      pinned = h.pinned;
    }

pub other_memory : (base : Image) (log : Log) (commits : List Footprint) (held kept : List (ℕ × Content))
    → All (IsCurrent (now_of base log commits)) kept → All (ArePinned kept) commits
    → IsWindowOver base log commits held → IsWindowOver base log commits kept
other_memory base log commits held kept memory pinned h =
    record {
      follow = h.follow;
      placed = h.placed;
      all = h.all;
      opened = h.opened;
      group = h.group;
      written = h.written;
      memory = memory;
      pinned = pinned;
    }

-- steps and flags alone
pub window_stepped : (base : Image) (log : Log) (commits : List Footprint) (held : List (ℕ × Content))
    (log_step : ℕ) (log_out : Bool) (inst_step : ℕ) (inst_out broken : Bool)
    → IsWindowOver base log commits held
    → IsWindowOver base (moved log log.logged log.taken log_step log_out log.installing inst_step inst_out
    broken) commits held
window_stepped base log commits held log_step log_out inst_step inst_out broken h =
    window_moved base log commits held log.logged log.taken log_step log_out log.installing inst_step inst_out
    broken same h.opened h
  where
    same : (count : ℕ)
        → GroupEnd (moved log log.logged log.taken log_step log_out log.installing inst_step inst_out broken)
        count → GroupEnd log count
    same count (at_first e) = at_first e
    same count (at_installed e) = at_installed e
    same count (at_logged e) = at_logged e
    same count (at_taken e) = at_taken e
    same count (at_last e) = at_last e

pub window_log_out : (base : Image) (log : Log) (commits : List Footprint) (held : List (ℕ × Content))
    → IsLawful log → IsWindowOver base log commits held → IsWindowOver base (with_log_out log) commits held
window_log_out base log commits held lawful h =
    window_moved base log commits held log.logged (group_size log) log.log_step true log.installing
    log.inst_step log.inst_out log.broken ends h.opened h
  where
    size : (t : Bool) → (count : ℕ)
        → count ≡ log.logged + (if t then log.taken else length log.changes - log.logged) → GroupEnd log count
    size true count e = at_taken e
    size false count e = at_last (omega (arith, e, lawful.taken_within))

    ends : (count : ℕ) → GroupEnd (with_log_out log) count → GroupEnd log count
    ends count (at_first e) = at_first e
    ends count (at_installed e) = at_installed e
    ends count (at_logged e) = at_logged e
    ends count (at_taken e) = size (nat_lt 0 log.taken) count e
    ends count (at_last e) = at_last e

pub window_log_back : (base : Image) (log : Log) (commits : List Footprint) (held : List (ℕ × Content))
    (ok : Bool) → IsLawful log → IsWindowOver base log commits held
    → IsWindowOver base (with_log_back log ok) commits held
window_log_back base log commits held false lawful h =
    window_stepped base log commits held log.log_step false log.inst_step log.inst_out true h
window_log_back base log commits held true lawful h = go (nat_eq log.log_step (log.taken + 2))
  where
    ends : (count : ℕ)
        → GroupEnd (record log { logged = log.logged + log.taken; taken = 0; log_step = 0; log_out = false })
        count → GroupEnd log count
    ends count (at_first e) = at_first e
    ends count (at_installed e) = at_installed e
    ends count (at_logged e) = at_taken e
    ends count (at_taken e) = at_taken (omega (arith, e))
    ends count (at_last e) = at_last e

    go : (t : Bool) → IsWindowOver base (if t
        then record log { logged = log.logged + log.taken; taken = 0; log_step = 0; log_out = false }
        else record log { log_step = log.log_step + 1; log_out = false }) commits held
    go true = window_moved base log commits held (log.logged + log.taken) 0 0 false log.installing
        log.inst_step log.inst_out log.broken ends h.opened h
    go false = window_stepped base log commits held (log.log_step + 1) false log.inst_step log.inst_out
        log.broken h

pub logged_clean : (log : Log) → IsLawful log → recovered (drop log.logged log.changes) ≡ []
logged_clean log lawful = recovered-committed (drop log.logged log.changes) lawful.committed

pub taken_clean : (log : Log) → IsLawful log → recovered (drop (log.logged + log.taken) log.changes) ≡ []
taken_clean log lawful =
    ap recovered (sym (drop-drop log.taken log.logged log.changes))
    ∙ recovered-committed (drop log.taken (drop log.logged log.changes))
    (All-drop IsCommitted log.taken (drop log.logged log.changes) lawful.committed)

pub window_inst_out : (base : Image) (log : Log) (commits : List Footprint) (held : List (ℕ × Content))
    → IsLawful log → IsWindowOver base log commits held → IsWindowOver base (with_inst_out log) commits held
window_inst_out base log commits held lawful h = go (nat_lt 0 log.installing)
  where
    ends : (count : ℕ)
        → GroupEnd (record log {
          installing = log.logged;
          inst_step = next_home log.changes log.logged 0;
          inst_out = true;
        }) count → GroupEnd log count
    ends count (at_first e) = at_first e
    ends count (at_installed e) = at_logged e
    ends count (at_logged e) = at_logged e
    ends count (at_taken e) = at_taken e
    ends count (at_last e) = at_last e

    go : (t : Bool) → IsWindowOver base (if t
        then record log { inst_out = true }
        else record log {
          installing = log.logged;
          inst_step = next_home log.changes log.logged 0;
          inst_out = true;
        }) commits held
    go true = window_stepped base log commits held log.log_step log.log_out log.inst_step true log.broken h
    go false = window_moved base log commits held log.logged log.taken log.log_step log.log_out log.logged
        (next_home log.changes log.logged 0) true log.broken ends (λ some. logged_clean log lawful) h

-- the log leads to the commits
pub tail_is_now : (base : Image) (log : Log) (commits : List Footprint) (held : List (ℕ × Content))
    (block : ℕ) → IsWindowOver base log commits held
    → with_changes base log.changes block ≡ now_of base log commits block
tail_is_now base log commits held block h =
    let end : ℕ = length log.changes in
    let clean : recovered (drop end log.changes) ≡ [] =
    ap recovered (drop_all end log.changes (omega arith)) in
    let place : place_before (drop end log.changes) log.places ≡ log.places =
    place_before-all log.changes end log.places (omega arith) in
    let n : length commits ≤ commits_among log end = omega (arith, place, h.all) in
    ap (λ xs. with_changes base xs block) (sym (take_all end log.changes (omega arith)))
    ∙ h.group end (at_last refl) clean block
    ∙ ap (λ xs. after_commits (opening base log) xs block) (take_all (commits_among log end) commits n)

pub home_is_current : (base : Image) (log : Log) (commits : List Footprint) (held : List (ℕ × Content))
    (block : ℕ) → newest log block ≡ None → IsWindowOver base log commits held
    → base block ≡ now_of base log commits block
home_is_current base log commits held block none h = sym (ap (λ o. content_or o (base block)) none)
    ∙ tail_is_now base log commits held block h

pub crash_prefix : (base : Image) (log : Log) (commits : List Footprint) (held : List (ℕ × Content))
    (image : Image) → IsLawful log
    → IsWindowOver base log commits held → IsBoundary base log image
    → (k : ℕ) × (settled_place log - installed_place log ≤ k) × (k ≤ length commits)
    × ((block : ℕ) → IsOutside log.blocks block
    → over image block ≡ after_commits (opening base log) (take k commits) block)
crash_prefix base log commits held image lawful h boundary = go boundary.blocks
  where
    few : (count : ℕ) → commits_among log count ≤ length commits
    few count = omega (arith, place_le log.changes log.places count lawful.rising, h.all)

    later : settled_place log ≤ place_before (drop (log.logged + log.taken) log.changes) log.places
    later = subst (λ xs. settled_place log ≤ place_before xs log.places)
        (drop-drop log.taken log.logged log.changes)
        (place_before-drop-le (drop log.logged log.changes) log.places log.taken
        (rising-drop log.changes log.places log.logged lawful.rising))

    go : IsAfter base log log.logged image ⊎ IsAfter base log (log.logged + log.taken) image
        → (k : ℕ) × (settled_place log - installed_place log ≤ k) × (k ≤ length commits)
        × ((block : ℕ) → IsOutside log.blocks block
        → over image block ≡ after_commits (opening base log) (take k commits) block)
    go (inl is) = (
      commits_among log log.logged,
      omega arith,
      few log.logged,
      λ block outside. is block outside
          ∙ h.group log.logged (at_logged refl) (logged_clean log lawful) block,
    )
    go (inr is) = (
      commits_among log (log.logged + log.taken),
      omega (arith, later),
      few (log.logged + log.taken),
      λ block outside. is block outside
          ∙ h.group (log.logged + log.taken) (at_taken refl) (taken_clean log lawful) block,
    )

all_recovered : (group : List (BlockNo × Content)) → recovered (changes_of 0 group) ≡ changes_of 0 group
all_recovered [] = refl
all_recovered (change ∷ group) =
    ap (λ xs. record { place = 0; block = change.0; content = change.1 } ∷ xs) (all_recovered group)

pub opened_window : (base : Image) (blocks start : ℕ) (found : List (BlockNo × Content))
    (held : List (ℕ × Content))
    → All (IsCurrent (with_changes base (opened blocks start found).changes)) held
    → IsWindowOver base (opened blocks start found) [] held
opened_window base blocks start found held memory = record {
  follow = tt;
  placed = tt;
  all = place (changes_of 0 found) found refl;
  opened = λ some. absurd (omega (arith, some));
  group = λ count end clean block. leads count (which count end) clean block
      ∙ sym (ap (λ (xs : List Footprint). after_commits (opening base log) xs block)
      (take_nil (commits_among log count)));
  written = λ count end. subst (λ xs. All (AreInLog (drop count log.changes)) xs)
      (sym (drop_all (commits_among log count) [] (omega arith)))
      (All-nil (AreInLog (drop count log.changes)));
  memory = subst (λ xs. All (IsCurrent (with_changes base xs)) held) (sym (all_recovered found)) memory;
  pinned = All-nil (ArePinned held);
}
  where
    log : Log
    log = opened blocks start found

    size : length log.changes ≡ length found
    size = length-changes_of 0 found

    place : (changes : List LogChange) (group : List (BlockNo × Content)) → changes ≡ changes_of 0 group
        → place_before (changes_of 0 group) 0 + 0 ≡ 0
    place changes [] e = refl
    place changes (x ∷ xs) e = omega arith

    which : (count : ℕ) → GroupEnd log count → (count ≡ 0) ⊎ (length log.changes ≤ count)
    which count (at_first e) = inl e
    which count (at_installed e) = inl e
    which count (at_logged e) = inr (omega (arith, e, size))
    which count (at_taken e) = inr (omega (arith, e, size))
    which count (at_last e) = inr (omega (arith, e))

    leads : (count : ℕ) → (count ≡ 0) ⊎ (length log.changes ≤ count) → recovered (drop count log.changes) ≡ []
        → (block : ℕ) → with_changes base (take count log.changes) block ≡ opening base log block
    leads count (inl e) clean block = ap (λ n. with_changes base (take n log.changes) block) e
        ∙ ap (λ xs. with_changes base xs block) (sym clean ∙ ap (λ n. recovered (drop n log.changes)) e)
    leads count (inr le) clean block =
        ap (λ xs. with_changes base xs block) (take_all count log.changes le ∙ sym (all_recovered found))

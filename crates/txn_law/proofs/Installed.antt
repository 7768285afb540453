-- Lemmas: what the installer does keeps the window.
use Rattle.std.proofs.Common.{◌≡◌, zero, suc, ◌++◌, ℕ, ◌+◌, ◌-◌, ◌<◌, ◌≤◌, Bool, true, false, nat_lt}
use Rattle.std.proofs.Common.{if◌then◌else◌, List, [], take, drop, All, Option, Some, None, refl, sym, ap}
use Rattle.std.proofs.Common.{subst, ◌∙◌, arith}
use Rattle.std.proofs.lemmas.Bool.{ltb-true, ltb-false, le-leb, lt-leb}
use Rattle.std.proofs.lemmas.List.{drop-drop, length-drop, take-append-drop}
use Rattle.std.proofs.lemmas.List.Elements.{All-drop}
use Rattle.std.proofs.Math.Seq.{take-add}
use Rattle.disk.specs.Device.{Content}
use Rattle.disk.specs.Crash.{Image}
use Rattle.circ.specs.declared.log.change.LogChange.{LogChange}
use Rattle.circ.specs.Log.Calls.{home_after}
use Rattle.circ.specs.Log.Law.{with_changes}
use Rattle.circ.specs.Log.Log.{Log, IsLawful, newest_of, or_else, place_before, installed_place}
use Rattle.circ.specs.Log.Installer.{next_home, with_installed, with_inst_back}
use Rattle.circ.specs.Log.Overlay.{content_or}
use Rattle.circ.proofs.LogLemmas.Newest.{newest_of-append}
use Rattle.circ.proofs.LogLemmas.Places.{place_before-drop-le, rising-drop}
use Rattle.circ.specs.Log.Grows.{recovered}
use Rattle.txn_law.specs.Core.{past}
use Rattle.txn_law.specs.Window.{Footprint, Follow, after_commits}
use Rattle.txn_law.specs.Window.{opening, now_of, GroupEnd, at_first, at_installed, at_logged}
use Rattle.txn_law.specs.Window.{at_taken, at_last, ArePlaced, commits_among, LeadsTo, AreInLog}
use Rattle.txn_law.specs.Window.{ArePinned, IsCurrent, IsWindowOver}
use Rattle.circ.proofs.LogLemmas.Ends.{same_image, place_le}
use Rattle.txn_law.proofs.Commits.{after_commits-append, follow-drop, placed-drop, past-drop}
use Rattle.txn_law.proofs.Moves.{window_stepped}

content_or-or_else : (a b : Option Content) (c : Content)
    → content_or (or_else a b) c ≡ content_or a (content_or b c)
content_or-or_else (Some a) b c = refl
content_or-or_else None b c = refl

-- changes over changes
with_changes-with_changes : (base : Image) (xs ys : List LogChange) (block : ℕ)
    → with_changes (with_changes base xs) ys block ≡ with_changes base (xs ++ ys) block
with_changes-with_changes base xs ys block =
    sym (ap (λ o. content_or o (base block)) (newest_of-append xs ys block)
    ∙ content_or-or_else (newest_of ys block) (newest_of xs block) (base block))

-- the window without the changes that are home, and without the commits that are
module _ (base : Image) (log : Log) (commits : List Footprint) (held : List (ℕ × Content))
    (lawful : IsLawful log) (some : 0 < log.installing) (window : IsWindowOver base log commits held) where
  abbrev pub home : Image
  home = with_changes base (take log.installing log.changes)

  abbrev pub place : ℕ
  place = place_before (drop log.installing log.changes) log.places

  abbrev pub n : ℕ
  n = place - installed_place log

  rises : installed_place log ≤ place
  rises = place_before-drop-le log.changes log.places log.installing lawful.rising

  clean : recovered (drop log.installing log.changes) ≡ []
  clean = window.opened some

  from : opening home (with_installed log) ≡ after_commits (opening base log) (take n commits)
  from = same_image (opening home (with_installed log)) (after_commits (opening base log) (take n commits))
      (λ block. ap (λ xs. with_changes home xs block) clean
      ∙ window.group log.installing (at_installed refl) clean block)

  -- an end of the new log is one of the old
  end_of : (count : ℕ) → GroupEnd (with_installed log) count → GroupEnd log (log.installing + count)
  end_of count (at_first e) = at_installed (omega (arith, e))
  end_of count (at_installed e) = at_installed (omega (arith, e))
  end_of count (at_logged e) = at_logged (omega (arith, e, lawful.installing))
  end_of count (at_taken e) = at_taken (omega (arith, e, lawful.installing))
  end_of count (at_last e) =
      at_last (omega (
        arith,
        e,
        length-drop log.installing log.changes,
        lawful.installing,
        lawful.taken_within,
      ))

  dropped : (count : ℕ)
      → drop count (drop log.installing log.changes) ≡ drop (log.installing + count) log.changes
  dropped count = drop-drop count log.installing log.changes

  among : (count : ℕ)
      → commits_among log (log.installing + count) ≡ n + commits_among (with_installed log) count
  among count =
      let e : place_before (drop count (drop log.installing log.changes)) log.places
      ≡ place_before (drop (log.installing + count) log.changes) log.places =
      ap (λ xs. place_before xs log.places) (dropped count) in
      let le : place ≤ place_before (drop count (drop log.installing log.changes)) log.places =
      place_before-drop-le (drop log.installing log.changes) log.places count
      (rising-drop log.changes log.places log.installing lawful.rising) in
      omega (arith, e, le, rises)

  now_same : now_of home (with_installed log) (drop n commits) ≡ now_of base log commits
  now_same = ap (λ b. after_commits b (drop n commits)) from
      ∙ sym (after_commits-append (opening base log) (take n commits) (drop n commits))
      ∙ ap (λ xs. after_commits (opening base log) xs) (take-append-drop n commits)

  leads : (count : ℕ) → GroupEnd (with_installed log) count
      → recovered (drop count (drop log.installing log.changes)) ≡ []
      → LeadsTo home (with_installed log) (drop n commits) count
  leads count end none block =
      let m : ℕ = commits_among (with_installed log) count in
      with_changes-with_changes base (take log.installing log.changes)
      (take count (drop log.installing log.changes)) block
      ∙ ap (λ xs. with_changes base xs block) (sym (take-add log.installing count log.changes))
      ∙ window.group (log.installing + count) (end_of count end) (sym (ap recovered (dropped count))
      ∙ none) block
      ∙ ap (λ k. after_commits (opening base log) (take k commits) block) (among count)
      ∙ ap (λ xs. after_commits (opening base log) xs block) (take-add n m commits)
      ∙ ap (λ (b : Image). b block)
      (after_commits-append (opening base log) (take n commits) (take m (drop n commits)))
      ∙ ap (λ (b : Image). after_commits b (take m (drop n commits)) block) (sym from)

  in_log : (count : ℕ) → GroupEnd (with_installed log) count
      → All (AreInLog (drop count (drop log.installing log.changes)))
      (drop (commits_among (with_installed log) count) (drop n commits))
  in_log count end =
      subst (λ xs. All (AreInLog xs) (drop (commits_among (with_installed log) count) (drop n commits)))
      (sym (dropped count))
      (subst (λ xs. All (AreInLog (drop (log.installing + count) log.changes)) xs)
      (sym (drop-drop (commits_among (with_installed log) count) n commits
      ∙ ap (λ k. drop k commits) (sym (among count))))
      (window.written (log.installing + count) (end_of count end)))

  pub window_installed : IsWindowOver home (with_installed log) (drop n commits) held
  window_installed = record {
    follow = subst (λ b. Follow b (drop n commits)) (sym from)
        (follow-drop (opening base log) commits n window.follow);
    placed = subst (λ (p : ℕ). ArePlaced p (drop n commits)) (omega (arith, rises))
        (placed-drop (installed_place log + 1) commits n window.placed);
    all = omega (
      arith,
      length-drop n commits,
      rises,
      window.all,
      place_le log.changes log.places log.installing lawful.rising,
    );
    opened = λ none. absurd (omega (arith, none));
    group = leads;
    written = in_log;
    memory = subst (λ (b : Image). All (IsCurrent b) held) (sym now_same) window.memory;
    pinned = All-drop (ArePinned held) n commits window.pinned;
  }

  pub past_installed : past place commits ≡ drop n commits
  past_installed = past-drop (installed_place log + 1) place commits window.placed
      ∙ ap (λ k. drop k commits) (omega arith)

some_taken : (count step : ℕ) → (count ≡ 0 → step ≡ 0) → count + 2 ≤ step → 0 < count
some_taken zero step idle le = absurd (let none : step ≡ 0 = idle refl in omega arith)
some_taken (suc count) step idle le = omega arith

pub past_none : (base : Image) (log : Log) (commits : List Footprint) (held : List (ℕ × Content))
    → IsWindowOver base log commits held → past (installed_place log) commits ≡ commits
past_none base log commits held h =
    let zero : (installed_place log + 1) - (installed_place log + 1) ≡ 0 = omega arith in
    past-drop (installed_place log + 1) (installed_place log) commits h.placed ∙ ap (λ k. drop k commits) zero

pub window_inst_back : (base : Image) (log : Log) (commits : List Footprint) (held : List (ℕ × Content))
    (ok : Bool) → IsLawful log → IsWindowOver base log commits held
    → IsWindowOver (home_after base log ok) (with_inst_back log ok)
    (past (installed_place (with_inst_back log ok)) commits) held
window_inst_back base log commits held false lawful h =
    subst (λ cs. IsWindowOver base (record log { inst_out = false; broken = true }) cs held)
    (sym (past_none base log commits held h))
    (window_stepped base log commits held log.log_step log.log_out log.inst_step false true h)
window_inst_back base log commits held true lawful h = outer (nat_lt log.inst_step log.installing) refl
  where
    unchanged : log.inst_step < log.installing + 2 → home_after base log true ≡ base
    unchanged lt =
        ap (λ (t : Bool). if t then with_changes base (take log.installing log.changes)
        else base) (lt-leb (log.installing + 2) log.inst_step lt)

    changed : log.installing + 2 ≤ log.inst_step
        → home_after base log true ≡ with_changes base (take log.installing log.changes)
    changed le = ap (λ (t : Bool). if t then with_changes base (take log.installing log.changes)
        else base) (le-leb (log.installing + 2) log.inst_step le)

    stepped : (step : ℕ) → log.inst_step < log.installing + 2
        → IsWindowOver (home_after base log true) (record log { inst_step = step; inst_out = false })
        (past (installed_place log) commits) held
    stepped step lt =
        subst (λ (b : Image). IsWindowOver b (record log { inst_step = step; inst_out = false })
        (past (installed_place log) commits) held) (sym (unchanged lt))
        (subst (λ cs. IsWindowOver base (record log { inst_step = step; inst_out = false }) cs held)
        (sym (past_none base log commits held h))
        (window_stepped base log commits held log.log_step log.log_out step false log.broken h))

    inner : (t : Bool) → nat_lt log.inst_step (log.installing + 2) ≡ t
        → IsWindowOver (home_after base log true) (if t
        then record log { inst_step = log.inst_step + 1; inst_out = false }
        else with_installed log) (past (installed_place (if t
        then record log { inst_step = log.inst_step + 1; inst_out = false }
        else with_installed log)) commits) held
    inner true e = stepped (log.inst_step + 1) (ltb-true log.inst_step (log.installing + 2) e)
    inner false e =
        let le : log.installing + 2 ≤ log.inst_step = ltb-false log.inst_step (log.installing + 2) e in
        let idle : log.installing ≡ 0 → log.inst_step ≡ 0 = λ e. (lawful.inst_idle e).0 in
        let some : 0 < log.installing = some_taken log.installing log.inst_step idle le in
        subst (λ (b : Image). IsWindowOver b (with_installed log)
        (past (installed_place (with_installed log)) commits) held) (sym (changed le))
        (subst (λ cs. IsWindowOver (with_changes base (take log.installing log.changes)) (with_installed log)
        cs held) (sym (past_installed base log commits held lawful some h))
        (window_installed base log commits held lawful some h))

    outer : (t : Bool) → nat_lt log.inst_step log.installing ≡ t
        → IsWindowOver (home_after base log true) (if t
        then record log {
          inst_step = next_home log.changes log.installing (log.inst_step + 1);
          inst_out = false;
        }
        else if nat_lt log.inst_step (log.installing + 2)
        then record log { inst_step = log.inst_step + 1; inst_out = false }
        else with_installed log) (past (installed_place (if t
        then record log {
          inst_step = next_home log.changes log.installing (log.inst_step + 1);
          inst_out = false;
        }
        else if nat_lt log.inst_step (log.installing + 2)
        then record log { inst_step = log.inst_step + 1; inst_out = false }
        else with_installed log)) commits) held
    outer true e = let lt : log.inst_step < log.installing = ltb-true log.inst_step log.installing e in
        stepped (next_home log.changes log.installing (log.inst_step + 1)) (omega arith)
    outer false e = inner (nat_lt log.inst_step (log.installing + 2)) refl

-- Lemmas: what the memory log does keeps the homes and the start in agreement.
use Rattle.std.proofs.Common.{◌≡◌, ℕ, ◌+◌, ◌<◌, ◌≤◌, ◌⊎◌, inl, inr, Bool, true, false, List, length, take}
use Rattle.std.proofs.Common.{drop, get_or, slice_get, Some, None, refl, sym, ap, subst, ◌∙◌, arith, nat_eq}
use Rattle.std.proofs.Common.{if◌then◌else◌}
use Rattle.std.specs.Prelude.{nat_lt}
use Rattle.std.proofs.lemmas.Bool.{cases_lt, eqb-true, ltb-true, ltb-false, le-leb, lt-leb}
use Rattle.std.proofs.lemmas.List.{take-take, length-take-le, get_or-take}
use Rattle.std.proofs.lemmas.Option.{get_or_from_slice_get}
use Rattle.disk.specs.Device.{Content, Device, current, newest}
use Rattle.disk.specs.Crash.{Image}
use Rattle.circ.specs.declared.log.change.LogChange.{LogChange}
use Rattle.circ.specs.Log.Io.{Io}
use Rattle.circ.specs.Log.Log.{Log, IsLawful, newest_of, or_else}
use Rattle.circ.specs.Log.Installer.{next_home, IsNextInstCall, with_inst_out, with_inst_made, with_installed}
use Rattle.circ.specs.Log.Effects.{brought_home}
use Rattle.circ.specs.Log.Law.{LeavesOnly, IsOutside, IsStartBehind, HomeAgrees, with_changes}
use Rattle.circ.specs.Log.Calls.{HasMadeInstCall, home_after}
use Rattle.circ.proofs.LogLemmas.Lists.{slice_get-take, slice_get-into_take}
use Rattle.circ.proofs.LogLemmas.LogMoves.{with_tail}
use Rattle.circ.proofs.LogLemmas.Newest.{newest_of-drop}
use Rattle.circ.proofs.LogLemmas.NextHome.{next_within, next_preserves, next_newest}
use Rattle.circ.proofs.LogLemmas.Steps.{change_at}

-- what the logger does beside it
abbrev pub aside : Log → ℕ → ℕ → ℕ → Bool → Bool → Bool → Log
aside log logged taken log_step log_out inst_out broken = record log {
  logged = logged;
  taken = taken;
  log_step = log_step;
  log_out = log_out;
  inst_out = inst_out;
  broken = broken;
}

pub homes_aside : (d : Device) (base : Image) (log : Log) (logged taken log_step : ℕ)
    (log_out inst_out broken : Bool)
    → HomeAgrees d base log → HomeAgrees d base (aside log logged taken log_step log_out inst_out broken)
homes_aside d base log logged taken log_step log_out inst_out broken h =
    record {
      chosen = h.chosen;
      home = h.home;
      written = h.written;
      start = h.start;
      brought = h.brought;
      advanced_start = h.advanced_start;
      newest_start = h.newest_start;
    }

pub inst_made_aside : (d : Device) (base : Image) (log : Log) (logged taken log_step : ℕ)
    (log_out inst_out broken : Bool)
    → HasMadeInstCall d base log
    → HasMadeInstCall d base (aside log logged taken log_step log_out inst_out broken)
inst_made_aside d base log logged taken log_step log_out inst_out broken h = record {
  home = h.home;
  home_barrier = h.home_barrier;
  start = h.start;
  start_barrier = h.start_barrier;
}

pub next_inst_aside : (io : Io) (log : Log) (logged taken log_step : ℕ) (log_out inst_out broken : Bool)
    → IsNextInstCall log io → IsNextInstCall (aside log logged taken log_step log_out inst_out broken) io
next_inst_aside io log logged taken log_step log_out inst_out broken h =
    record {
      beginning = h.beginning;
      step = h.step;
      home = h.home;
      home_barrier = h.home_barrier;
      start = h.start;
      start_barrier = h.start_barrier;
    }

-- other changes behind the logger's group
module _ (d : Device) (base : Image) (log : Log) (places : ℕ) (changes : List LogChange) (lawful : IsLawful log)
    (is_preserved : take (log.logged + log.taken) changes ≡ take (log.logged + log.taken) log.changes)
  where
    same : take log.installing log.changes ≡ take log.installing changes
    same =
        let within : log.installing ≤ log.logged + log.taken = omega (arith, lawful.installing) in
        sym (take-take log.installing (log.logged + log.taken) log.changes within)
        ∙ ap (take log.installing) (sym is_preserved)
        ∙ take-take log.installing (log.logged + log.taken) changes within

    leading : (change : LogChange) → log.inst_step < log.installing
        → slice_get changes log.inst_step ≡ Some change → slice_get log.changes log.inst_step ≡ Some change
    leading change lt is =
        slice_get-take log.changes log.installing log.inst_step change
        (ap (λ (xs : List LogChange). slice_get xs log.inst_step) same
        ∙ slice_get-into_take changes log.installing log.inst_step change lt is)

    pub homes_appended : HomeAgrees d base log → HomeAgrees d base (with_tail log places changes)
    homes_appended h = record {
      chosen = λ lt change is. ap (λ xs. newest_of xs change.block.0) (sym same)
          ∙ h.chosen lt change (leading change lt is);
      home = λ before block outside. subst
          (λ (xs : List LogChange). LeavesOnly d block (λ content. (content ≡ base block)
          ⊎ (newest_of xs block ≡ Some content))) same (h.home before block outside);
      written = λ before block outside past content brought.
          h.written before block outside
          (ap (λ (xs : List LogChange). newest_of (drop log.inst_step xs) block) same
          ∙ past) content (ap (λ (xs : List LogChange). newest_of xs block) same ∙ brought);
      start = h.start;
      brought = λ later block outside. subst
          (λ (xs : List LogChange). LeavesOnly d block (λ content. content ≡ with_changes base xs block)) same
          (h.brought later block outside);
      advanced_start = h.advanced_start;
      newest_start = h.newest_start;
    }

    pub inst_made_appended : HasMadeInstCall d base log → HasMadeInstCall d base (with_tail log places changes)
    inst_made_appended h = record {
      home = λ lt change is. h.home lt change (leading change lt is);
      home_barrier =
          λ at block outside. subst
          (λ (xs : List LogChange). LeavesOnly d block (λ content. content ≡ with_changes base xs block)) same
          (h.home_barrier at block outside);
      start = h.start;
      start_barrier = h.start_barrier;
    }

    pub next_inst_appended : (io : Io) → IsNextInstCall log io
        → IsNextInstCall (with_tail log places changes) io
    next_inst_appended io h = record {
      beginning = h.beginning;
      step = h.step;
      home = λ lt change is. h.home lt change (leading change lt is);
      home_barrier = h.home_barrier;
      start = h.start;
      start_barrier = h.start_barrier;
    }

-- the installer takes the logged changes
homes_begun : (d : Device) (base : Image) (log : Log) → IsLawful log → log.installing ≡ 0
    → HomeAgrees d base log
    → HomeAgrees d base (record log {
      installing = log.logged;
      inst_step = next_home log.changes log.logged 0;
      inst_out = true;
    })
homes_begun d base log lawful idle h =
    let first = (lawful.inst_idle idle).0 in
    let within : log.logged ≤ length log.changes = omega (arith, lawful.taken_within) in
    let ready : log.inst_step ≤ log.installing = omega (arith, first) in
    let nothing : (block : ℕ) → brought_home log block ≡ None =
    λ block. ap (λ n. newest_of (take n log.changes) block) idle in
    let bound : next_home log.changes log.logged 0 ≤ log.logged =
    next_within log.changes log.logged 0 within (omega arith) in
    record {
      chosen = λ lt change is. next_newest log.changes log.logged 0 within (omega arith) change lt is;
      home = λ before block outside content there.
          elim (h.home ready block outside content there) as (λ _. (content ≡ base block)
          ⊎ (newest_of (take log.logged log.changes) block ≡ Some content)) [
            | inl old ↦ inl old
            | inr it ↦ absurd (let no : None ≡ Some content = sym (nothing block) ∙ it in cc)
          ];
      written = λ before block outside past content it.
          absurd (let no : None ≡ Some content = sym past
          ∙ next_preserves log.changes log.logged 0 within (omega arith) block ∙ it in cc);
      start = λ before. h.start ready;
      brought = λ later. absurd (omega arith);
      advanced_start = λ later. absurd (omega arith);
      newest_start = λ end. absurd (omega arith);
    }

pub homes_out : (d : Device) (base : Image) (log : Log) → IsLawful log → HomeAgrees d base log
    → HomeAgrees d base (with_inst_out log)
homes_out d base log lawful h = go (nat_lt 0 log.installing) refl
  where
    go : (has : Bool) → nat_lt 0 log.installing ≡ has → HomeAgrees d base (if has
        then record log { inst_out = true }
        else record log {
          installing = log.logged;
          inst_step = next_home log.changes log.logged 0;
          inst_out = true;
        })
    go true e = homes_aside d base log log.logged log.taken log.log_step log.log_out true log.broken h
    go false e = homes_begun d base log lawful (let le : log.installing ≤ 0 = ltb-false 0 log.installing e in
        omega arith) h

-- a block was brought home
one_home : (d : Device) (base : Image) (log : Log) → IsLawful log → log.inst_step < log.installing
    → HomeAgrees d base log → HasMadeInstCall d base log
    → HomeAgrees d base (record log {
      inst_step = next_home log.changes log.installing (log.inst_step + 1);
      inst_out = false;
    })
one_home d base log lawful lt h made =
    let bound : next_home log.changes log.installing (log.inst_step + 1) ≤ log.installing =
    next_within log.changes log.installing (log.inst_step + 1) within (omega arith) in
    record {
      chosen = λ less change is. next_newest log.changes log.installing (log.inst_step + 1) within
          (omega arith) change less is;
      home = λ before. h.home (omega arith);
      written = λ before block outside past content it. written block outside
          (sym (next_preserves log.changes log.installing (log.inst_step + 1) within (omega arith) block)
          ∙ past) content it;
      start = λ before. h.start (omega arith);
      brought = λ later. absurd (omega arith);
      advanced_start = λ later. absurd (omega arith);
      newest_start = λ end. absurd (omega arith);
    }
  where
    within : log.installing ≤ length log.changes
    within = omega (arith, lawful.taken_within, lawful.installing)

    written : (block : ℕ) → IsOutside log.blocks block
        → newest_of (drop (log.inst_step + 1) (take log.installing log.changes)) block ≡ None
        → (content : Content) → brought_home log block ≡ Some content
        → newest (current d block) ≡ content
    written block outside past content it =
        let (change, is, home) = change_at log log.inst_step lawful (omega (arith, within)) in
        go change is (nat_eq change.block.0 block) refl
      where
        go : (change : LogChange) → slice_get log.changes log.inst_step ≡ Some change → (t : Bool)
            → nat_eq change.block.0 block ≡ t → newest (current d block) ≡ content
        go change is true e =
            let same : change.block.0 ≡ block = eqb-true change.block.0 block e in
            let both : Some change.content ≡ Some content = sym (h.chosen lt change is)
            ∙ ap (brought_home log) same ∙ it in
            let one : change.content ≡ content = cc in
            ap (λ n. newest (current d n)) (sym same) ∙ made.home lt change is ∙ one
        go change is false e =
            let n : length (take log.installing log.changes) ≡ log.installing =
            length-take-le log.installing log.changes within in
            let item : get_or (take log.installing log.changes) log.inst_step change ≡ change =
            get_or-take log.installing log.changes log.inst_step change lt
            ∙ get_or_from_slice_get log.changes log.inst_step change change is in
            let step : newest_of (drop log.inst_step (take log.installing log.changes)) block
            ≡ or_else (newest_of (drop (log.inst_step + 1) (take log.installing log.changes)) block)
            (if nat_eq change.block.0 block then Some change.content else None) =
            newest_of-drop (take log.installing log.changes) log.inst_step change block (omega (arith, n))
            item in
            let none : newest_of (drop log.inst_step (take log.installing log.changes)) block ≡ None =
            step ∙ ap (λ (t : Bool). or_else
            (newest_of (drop (log.inst_step + 1) (take log.installing log.changes)) block) (if t
            then Some change.content else None)) e ∙ ap (λ o. or_else o None) past in
            h.written (omega arith) block outside none content it

-- the barrier behind them was made, or the start was written
one_step : (d : Device) (base : Image) (log : Log) → log.installing ≤ log.inst_step
    → log.inst_step < log.installing + 2 → HomeAgrees d base log → HasMadeInstCall d base log
    → HomeAgrees d base (record log { inst_step = log.inst_step + 1; inst_out = false })
one_step d base log low high h made = record {
  chosen = λ lt. absurd (omega arith);
  home = λ before. absurd (omega arith);
  written = λ before. absurd (omega arith);
  start = λ before. absurd (omega arith);
  brought = λ later block outside.
      elim (cases_lt log.installing log.inst_step) as (λ _. LeavesOnly d block (λ content. content
      ≡ with_changes base (take log.installing log.changes) block))
      [ inl past ↦ h.brought past block outside | inr now ↦ made.home_barrier (omega arith) block outside ];
  advanced_start = λ later content there.
      elim (cases_lt log.installing log.inst_step) as (λ _. IsStartBehind log 0 content
      ⊎ IsStartBehind log log.installing content)
      [ inl past ↦ h.advanced_start past content there | inr now ↦ inl (h.start now content there) ];
  newest_start = λ end. made.start (omega arith);
}

-- the raised start is settled: what was brought home is at home
all_home : (d : Device) (base : Image) (log : Log) → log.inst_step ≡ log.installing + 2
    → HomeAgrees d base log → HasMadeInstCall d base log
    → HomeAgrees d (with_changes base (take log.installing log.changes)) (with_installed log)
all_home d base log end h made = record {
  chosen = λ lt. absurd (omega (arith, lt));
  home = λ before block outside content there. inl (h.brought (omega arith) block outside content there);
  written = λ before block outside past content it. absurd (let no : None ≡ Some content = it in cc);
  start = λ before content there. made.start_barrier end content there ∙ (omega arith);
  brought = λ later. absurd (omega (arith, later));
  advanced_start = λ later. absurd (omega (arith, later));
  newest_start = λ other. absurd (omega (arith, other));
}

pub homes_made : (d : Device) (base : Image) (log : Log) → IsLawful log → HomeAgrees d base log
    → HasMadeInstCall d base log → HomeAgrees d (home_after base log true) (with_inst_made log)
homes_made d base log lawful h made = first (nat_lt log.inst_step log.installing) refl
  where
    unchanged : log.inst_step < log.installing + 2 → home_after base log true ≡ base
    unchanged lt =
        ap (λ (t : Bool). if t then with_changes base (take log.installing log.changes)
        else base) (lt-leb (log.installing + 2) log.inst_step lt)

    changed : log.installing + 2 ≤ log.inst_step
        → home_after base log true ≡ with_changes base (take log.installing log.changes)
    changed le = ap (λ (t : Bool). if t then with_changes base (take log.installing log.changes)
        else base) (le-leb (log.installing + 2) log.inst_step le)

    second : log.installing ≤ log.inst_step → (more : Bool) → nat_lt log.inst_step (log.installing + 2) ≡ more
        → HomeAgrees d (home_after base log true) (if more
        then record log { inst_step = log.inst_step + 1; inst_out = false }
        else with_installed log)
    second low true e =
        let lt = ltb-true log.inst_step (log.installing + 2) e in
        subst (λ (b : Image). HomeAgrees d b (record log { inst_step = log.inst_step + 1; inst_out = false }))
        (sym (unchanged lt)) (one_step d base log low lt h made)
    second low false e =
        let le = ltb-false log.inst_step (log.installing + 2) e in
        subst (λ (b : Image). HomeAgrees d b (with_installed log)) (sym (changed le))
        (all_home d base log (omega (arith, le, lawful.inst_step)) h made)

    first : (lower : Bool) → nat_lt log.inst_step log.installing ≡ lower
        → HomeAgrees d (home_after base log true) (if lower
        then record log {
          inst_step = next_home log.changes log.installing (log.inst_step + 1);
          inst_out = false;
        }
        else if nat_lt log.inst_step (log.installing + 2)
        then record log { inst_step = log.inst_step + 1; inst_out = false }
        else with_installed log)
    first true e =
        let lt = ltb-true log.inst_step log.installing e in
        subst (λ (b : Image). HomeAgrees d b
        (record log {
          inst_step = next_home log.changes log.installing (log.inst_step + 1);
          inst_out = false;
        })) (sym (unchanged (omega arith)))
        (one_home d base log lawful lt h made)
    first false e =
        second (ltb-false log.inst_step log.installing e) (nat_lt log.inst_step (log.installing + 2)) refl

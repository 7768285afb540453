-- Lemmas: what the methods do, as the layers above see it.
use Rattle.std.proofs.Common.{◌≡◌, ℕ, ◌+◌, ◌-◌, ◌≤◌, List, length, drop, take, Option, Some}
use Rattle.std.proofs.Common.{None, refl, sym, ap, subst, ◌∙◌, arith, IsNone, IsSome, Bool, true}
use Rattle.std.proofs.Common.{false, nat_eq, nat_lt, if◌then◌else◌}
use Rattle.std.proofs.lemmas.List.{take-append-drop, drop-drop, length-drop}
use Rattle.std.proofs.lemmas.Bool.Decides.{nat_tests}
use Rattle.disk.specs.Device.{Content}
use Rattle.disk.specs.declared.block.BlockNo.{BlockNo}
use Rattle.circ.specs.declared.log.change.LogChange.{LogChange}
use Rattle.circ.specs.Log.Log.{Log, IsLawful, or_else, newest_of, place_before, settled_place}
use Rattle.circ.specs.Log.Room.{with_group}
use Rattle.circ.specs.Log.Logger.{with_log_out, with_log_made, with_log_back}
use Rattle.circ.specs.Log.Installer.{next_home, with_inst_out, with_inst_made, with_inst_back, with_installed}
use Rattle.circ.specs.Log.Effects.{HasAppended, HasGoneOn}
use Rattle.circ.proofs.LogLemmas.Newest.{newest_of-append}
use Rattle.circ.proofs.LogLemmas.Places.{place_before-drop-le, rising-drop}
use Rattle.circ.proofs.LogLemmas.Absorption.{grows, tail_is}

-- what is in the front of a list is in the list
leading_within : (xs : List LogChange) (n : ℕ) (block : ℕ)
    → newest_of xs block ≡ or_else (newest_of (drop n xs) block) (newest_of (take n xs) block)
leading_within xs n block = ap (λ ys. newest_of ys block) (sym (take-append-drop n xs))
    ∙ newest_of-append (take n xs) (drop n xs) block

or_else-again : (a b : Option Content) → or_else a b ≡ or_else (or_else a b) b
or_else-again (Some a) b = refl
or_else-again None (Some b) = refl
or_else-again None None = refl

-- nothing is let go
pub newest-is_preserved : (xs : List LogChange) (n : ℕ) (block : ℕ)
    → newest_of xs block ≡ or_else (newest_of xs block) (newest_of (take n xs) block)
newest-is_preserved xs n block =
    let e = leading_within xs n block in
    rw e (or_else-again (newest_of (drop n xs) block) (newest_of (take n xs) block))

pub seen_append : (log : Log) (group : List (BlockNo × Content)) → IsLawful log
    → HasAppended log group (with_group log group)
seen_append log group h =
    let grown = grows log group h in
    record {
      blocks = refl;
      broken = refl;
      places = refl;
      newest_content = grown.behind 0 (omega arith);
      tail = tail_is log group h;
      settled = grown.place log.logged (omega arith);
      installed = grown.place 0 (omega arith);
    }

-- A step that lets no change go and settles none.
preserves_all : (log : Log) (taken log_step : ℕ) (log_out : Bool) (installing inst_step : ℕ)
    (inst_out broken : Bool)
    → log.taken ≤ taken
    → (log.broken ≡ true → broken ≡ true)
    → HasGoneOn log (record log {
      taken = taken;
      log_step = log_step;
      log_out = log_out;
      installing = installing;
      inst_step = inst_step;
      inst_out = inst_out;
      broken = broken;
    })
preserves_all log taken log_step log_out installing inst_step inst_out broken more stays =
    record {
      blocks = refl;
      places = refl;
      broken = stays;
      tail = omega (arith, more);
      newest_content = newest-is_preserved log.changes log.installing;
      settled = omega arith;
      installed = omega arith;
    }

-- One of the logger alone, or of the installer alone.
log_moves : (log : Log) (taken log_step : ℕ) (log_out broken : Bool) → log.taken ≤ taken
    → (log.broken ≡ true → broken ≡ true)
    → HasGoneOn log (record log { taken = taken; log_step = log_step; log_out = log_out; broken = broken })
log_moves log taken log_step log_out broken more stays =
    preserves_all log taken log_step log_out log.installing log.inst_step log.inst_out broken more stays

inst_moves : (log : Log) (installing inst_step : ℕ) (inst_out broken : Bool)
    → (log.broken ≡ true → broken ≡ true)
    → HasGoneOn log (record log {
      installing = installing;
      inst_step = inst_step;
      inst_out = inst_out;
      broken = broken;
    })
inst_moves log installing inst_step inst_out broken stays =
    preserves_all log log.taken log.log_step log.log_out installing inst_step inst_out broken (omega arith) stays

pub seen_same : (log : Log) → HasGoneOn log log
seen_same log = log_moves log log.taken log.log_step log.log_out log.broken (omega arith) (λ b. b)

group_grows : (taken rest : ℕ) → taken ≤ (if nat_lt 0 taken then taken else rest)
group_grows taken rest = grind (arith, nat_tests)

pub seen_log_out : (log : Log) → HasGoneOn log (with_log_out log)
seen_log_out log =
    let more = group_grows log.taken (length log.changes - log.logged) in
    log_moves log (if nat_lt 0 log.taken then log.taken else length log.changes - log.logged) log.log_step
    true log.broken more (λ b. b)

settled_more : (log : Log) → IsLawful log
    → settled_place log ≤ place_before (drop (log.logged + log.taken) log.changes) log.places
settled_more log h =
    rw (← drop-drop log.taken log.logged log.changes)
    (place_before-drop-le (drop log.logged log.changes) log.places log.taken
    (rising-drop log.changes log.places log.logged h.rising))

pub seen_log_made : (log : Log) → IsLawful log → HasGoneOn log (with_log_made log)
seen_log_made log h =
    elim (nat_eq log.log_step (log.taken + 2)) as (λ last. HasGoneOn log (if last
    then record log { logged = log.logged + log.taken; taken = 0; log_step = 0; log_out = false }
    else record log { log_step = log.log_step + 1; log_out = false })) [
      | true ↦ record {
        blocks = refl;
        places = refl;
        broken = λ b. b;
        tail = omega arith;
        newest_content = newest-is_preserved log.changes log.installing;
        settled = settled_more log h;
        installed = omega arith;
      }
      | false ↦ log_moves log log.taken (log.log_step + 1) false log.broken (omega arith) (λ b. b)
    ]

pub seen_log_back : (log : Log) (ok : Bool) → IsLawful log → HasGoneOn log (with_log_back log ok)
seen_log_back log true h = seen_log_made log h
seen_log_back log false h = log_moves log log.taken log.log_step false true (omega arith) (λ b. refl)

pub seen_log_done : (log : Log) (out ok : Bool) → IsLawful log
    → HasGoneOn log (if out then with_log_back log ok else log)
seen_log_done log true ok h = seen_log_back log ok h
seen_log_done log false ok h = seen_same log

pub seen_inst_out : (log : Log) → HasGoneOn log (with_inst_out log)
seen_inst_out log =
    elim (nat_lt 0 log.installing) as (λ taken. HasGoneOn log (if taken
    then record log { inst_out = true }
    else record log {
      installing = log.logged;
      inst_step = next_home log.changes log.logged 0;
      inst_out = true;
    })) [
      | true ↦ inst_moves log log.installing log.inst_step true log.broken (λ b. b)
      | false ↦ inst_moves log log.logged (next_home log.changes log.logged 0) true log.broken (λ b. b)
    ]

pub seen_installed : (log : Log) → IsLawful log → HasGoneOn log (with_installed log)
seen_installed log h =
    let n : length (drop log.installing log.changes) ≡ length log.changes - log.installing =
    length-drop log.installing log.changes in
    let m : log.installing + (log.logged - log.installing) ≡ log.logged = omega (arith, h.installing) in
    let same : place_before (drop (log.logged - log.installing) (drop log.installing log.changes)) log.places
    ≡ settled_place log =
    ap (λ xs. place_before xs log.places) (drop-drop (log.logged - log.installing) log.installing log.changes
    ∙ ap (λ k. drop k log.changes) m) in
    record {
      blocks = refl;
      places = refl;
      broken = λ b. b;
      tail = omega (arith, n, h.installing);
      newest_content = leading_within log.changes log.installing;
      settled = omega (arith, same);
      installed = place_before-drop-le log.changes log.places log.installing h.rising;
    }

pub seen_inst_made : (log : Log) → IsLawful log → HasGoneOn log (with_inst_made log)
seen_inst_made log h =
    elim (nat_lt log.inst_step log.installing) as (λ home. HasGoneOn log (if home
    then record log { inst_step = next_home log.changes log.installing (log.inst_step + 1); inst_out = false }
    else if nat_lt log.inst_step (log.installing + 2)
    then record log { inst_step = log.inst_step + 1; inst_out = false }
    else with_installed log)) [
      | true ↦ inst_moves log log.installing (next_home log.changes log.installing (log.inst_step + 1)) false
          log.broken (λ b. b)
      | false ↦ elim (nat_lt log.inst_step (log.installing + 2)) as (λ step. HasGoneOn log (if step
          then record log { inst_step = log.inst_step + 1; inst_out = false }
          else with_installed log)) [
            | true ↦ inst_moves log log.installing (log.inst_step + 1) false log.broken (λ b. b)
            | false ↦ seen_installed log h
          ]
    ]

pub seen_inst_back : (log : Log) (ok : Bool) → IsLawful log → HasGoneOn log (with_inst_back log ok)
seen_inst_back log true h = seen_inst_made log h
seen_inst_back log false h = inst_moves log log.installing log.inst_step false true (λ b. refl)

pub seen_inst_done : (log : Log) (out ok : Bool) → IsLawful log
    → HasGoneOn log (if out then with_inst_back log ok else log)
seen_inst_done log true ok h = seen_inst_back log ok h
seen_inst_done log false ok h = seen_same log

pub seen_next : {X : Type 0} (io : Option X) (old new out : Log) → HasGoneOn old out → (IsNone io → new ≡ old)
    → (IsSome io → new ≡ out) → HasGoneOn old new
seen_next None old new out h none some =
    subst (λ (log : Log). HasGoneOn old log) (sym (none refl)) (seen_same old)
seen_next (Some io) old new out h none some = subst (λ (log : Log). HasGoneOn old log) (sym (some refl)) h

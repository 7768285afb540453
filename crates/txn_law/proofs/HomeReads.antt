-- Lemmas: what a read of a block that the log doesn't have brings.
use Rattle.std.proofs.Common.{◌≡◌, ◌≢◌, ℕ, zero, suc, ◌+◌, ◌-◌, ◌<◌, ◌≤◌, inl, inr, Bool, true, false, ◌||◌}
use Rattle.std.proofs.Common.{◌&&◌, nat_eq, nat_lt, if◌then◌else◌, List, [], ◌∷◌, length, length-append, take}
use Rattle.std.proofs.Common.{drop, slice_get, Option, Some, None, refl, sym, ap, subst, ◌∙◌, arith, Result}
use Rattle.std.proofs.Common.{Ok, Err}
use Rattle.std.specs.Prelude.{Contains, is_ok, is_err}
use Rattle.std.proofs.lemmas.Bool.{cases_lt, eqb-true, eqb-false, eq-eqb, ne_eqb}
use Rattle.std.proofs.lemmas.List.{take-append-drop, length-drop, get_or_default}
use Rattle.disk.specs.Device.{Content, Device, current, newest as newest_content, newest_only, is_on}
use Rattle.disk.specs.Device.{Appends, Settles, HasRead, HasWritten}
use Rattle.disk.specs.Crash.{Image}
use Rattle.disk.specs.declared.device.Failed.{Failed}
use Rattle.disk.specs.declared.block.BlockNo.{BlockNo}
use Rattle.disk.specs.declared.block.Side.{Side}
use Rattle.disk.specs.declared.block.Side.TheVariants.{Home, Log as OnLog}
use Rattle.base.specs.declared.TheConstants.{LOG_HEADER_BLOCK, START_BLOCK}
use Rattle.circ.specs.declared.log.change.LogChange.{LogChange}
use Rattle.circ.specs.declared.log.calls.IoCall.{IoCall}
use Rattle.circ.specs.declared.log.calls.IoCall.TheVariants.{Write, Barrier}
use Rattle.circ.specs.Log.Io.{Io, HasMade, HasMadeCall}
use Rattle.circ.specs.Log.Calls.{Pending, idle, out, was_made, AgreesWithPending}
use Rattle.circ.specs.Log.Law.{IsOutside, with_changes}
use Rattle.circ.specs.Log.Log.{Log, IsLawful, IsHomeOn, newest, newest_of, or_else, log_end}
use Rattle.circ.specs.Log.Logger.{slot_block, IsNextLogCall, with_log_out, with_log_back}
use Rattle.circ.specs.Log.Installer.{IsNextInstCall, next_home, with_inst_out, with_inst_back, with_installed}
use Rattle.circ.specs.Log.Overlay.{content_or}
use Rattle.circ.specs.Log.Effects.{HasAppended, newest_in, brought_home}
use Rattle.circ.proofs.LogLemmas.Newest.{newest_of-append}
use Rattle.circ.proofs.LogLemmas.Steps.{Step, writes, settles, tells, ends, step_of, made_write, made_barrier}
use Rattle.circ.proofs.LogLemmas.Steps.{change_at}
use Rattle.txn_law.specs.Window.{Footprint}
use Rattle.txn_law.specs.HomeRead.{IsStuck, IsReadable, HasContents}
use Rattle.txn_law.specs.Window.{IsWindowOver, now_of}
use Rattle.txn_law.proofs.Moves.{home_is_current}

second_none : (a b : Option Content) → or_else a b ≡ None → b ≡ None
second_none (Some x) b e = absurd (cc)
second_none None b e = e

-- what the log doesn't have, the installer doesn't bring home
pub not_brought : (log : Log) (block : ℕ) → newest log block ≡ None → brought_home log block ≡ None
not_brought log block none =
    second_none (newest_of (drop log.installing log.changes) block)
    (newest_of (take log.installing log.changes) block)
    (sym (newest_of-append (take log.installing log.changes) (drop log.installing log.changes) block)
    ∙ ap (λ xs. newest_of xs block) (take-append-drop log.installing log.changes) ∙ none)

has_newest : (contents : List Content) → 0 < length contents → Contains contents (newest_content contents)
has_newest contents some = (
  length contents - 1,
  omega arith,
  get_or_default contents (length contents - 1) (newest_content contents)
      [] (omega arith),
)

pub read_home : (d : Device) (base : Image) (log : Log) (logging installing : Pending) (block : ℕ)
    → AgreesWithPending d base log logging installing
    → IsReadable d log installing → HasContents d → IsOutside log.blocks block → newest log block ≡ None
    → (d.uncertain block ≡ false) × (newest_content (current d block) ≡ base block)
read_home d base log logging installing block s readable there outside none =
    (certain (d.uncertain block) refl, content)
  where
    certain : (t : Bool) → d.uncertain block ≡ t → d.uncertain block ≡ false
    certain true e = absurd (readable.logged block outside e none)
    certain false e = e

    member : Contains (current d block) (newest_content (current d block))
    member = has_newest (current d block) (there block (omega (arith, outside.0, s.agrees.size)))

    content : newest_content (current d block) ≡ base block
    content = elim (cases_lt log.installing log.inst_step) as (λ _. newest_content (current d block)
        ≡ base block) [
          | inl later ↦ s.agrees.homes.brought later block outside (newest_content (current d block)) member
              ∙ ap (λ o. content_or o (base block)) (not_brought log block none)
          | inr before ↦ elim (s.agrees.homes.home before block outside (newest_content (current d block))
              member) as (λ _. newest_content (current d block) ≡ base block) [
                | inl same ↦ same
                | inr it ↦ absurd (let no : None
                    ≡ Some (newest_content (current d block)) = sym (not_brought log block none) ∙ it in cc)
              ]
        ]

pub read_current : (d : Device) (base : Image) (log : Log) (logging installing : Pending)
    (commits : List Footprint) (held : List (ℕ × Content)) (block : ℕ)
    → AgreesWithPending d base log logging installing
    → IsReadable d log installing → HasContents d → IsWindowOver base log commits held
    → IsOutside log.blocks block → newest log block ≡ None
    → newest_content (current d block) ≡ now_of base log commits block
read_current d base log logging installing commits held block s readable there window outside none =
    (read_home d base log logging installing block s readable there outside none).1
    ∙ home_is_current base log commits held block none window

-- a log that still has what it had, and is broken where it was
stuck_as : (log new : Log) (p : Pending) → (log.broken ≡ true → new.broken ≡ true) → IsStuck log p
    → IsStuck new p
stuck_as log new idle broken h = broken h
stuck_as log new (out io) broken h = h
stuck_as log new (was_made io (Ok u)) broken h = h
stuck_as log new (was_made io (Err u)) broken h = h

readable_as : (d e : Device) (log new : Log) (p : Pending) → new.blocks ≡ log.blocks
    → (log.broken ≡ true → new.broken ≡ true)
    → ((block : ℕ) → newest new block ≡ None → newest log block ≡ None)
    → ((block : ℕ) → IsOutside log.blocks block → e.uncertain block ≡ true → d.uncertain block ≡ true)
    → IsReadable d log p → IsReadable e new p
readable_as d e log new p blocks broken has uncertain h = record {
  logged = λ block outside bad none. h.logged block (there block outside)
      (uncertain block (there block outside) bad) (has block none);
  stuck = λ block outside bad. stuck_as log new p broken
      (h.stuck block (there block outside) (uncertain block (there block outside) bad));
}
  where
    there : (block : ℕ) → IsOutside new.blocks block → IsOutside log.blocks block
    there block outside = subst (λ (n : ℕ). IsOutside n block) blocks outside

pub readable_append : (d : Device) (old new : Log) (group : List (BlockNo × Content)) (p : Pending)
    → HasAppended old group new → IsReadable d old p → IsReadable d new p
readable_append d old new group p appended h =
    readable_as d d old new p appended.blocks (λ b. appended.broken ∙ b)
    (λ block none. second_none (newest_in group block) (newest old block) (sym (appended.newest_content block)
    ∙ none)) (λ block outside bad. bad) h

pub readable_read : (old new : Device) (log : Log) (p : Pending) → HasRead old new → IsReadable old log p
    → IsReadable new log p
readable_read old new log p read h =
    readable_as old new log log p refl (λ b. b) (λ block none. none)
    (λ block outside bad. sym (read.uncertain block) ∙ bad) h

-- a write makes no other block uncertain, and its own only where it fails
makes_other_uncertain : (old new : Device) (block at : ℕ) (content : Content) (r : Result Unit Failed)
    → HasWritten old block content r new → at ≢ block → new.uncertain at ≡ true → old.uncertain at ≡ true
makes_other_uncertain old new block at content r h differs bad =
    go (old.uncertain at) (is_err r) (sym (h.uncertain at) ∙ bad)
  where
    go : (s t : Bool) → (s || (t && nat_eq at block)) ≡ true → s ≡ true
    go true t e = refl
    go false t e = absurd (none t (ap (λ (x : Bool). t && x) (sym (ne_eqb at block differs)) ∙ e))
      where
        none : (t : Bool) → (t && false) ≡ true → ⊥
        none true e = absurd (cc)
        none false e = absurd (cc)

makes_none_uncertain : (old new : Device) (block at : ℕ) (content : Content) → HasWritten old block content (Ok tt) new
    → new.uncertain at ≡ true → old.uncertain at ≡ true
makes_none_uncertain old new block at content h bad = go (old.uncertain at) (sym (h.uncertain at) ∙ bad)
  where
    go : (s : Bool) → (s || (false && nat_eq at block)) ≡ true → s ≡ true
    go true e = refl
    go false e = e

pub readable_unaffected : (old new : Device) (log : Log) (block : ℕ) (content : Content) (p : Pending)
    → HasWritten old block content (Ok tt) new → IsReadable old log p → IsReadable new log p
readable_unaffected old new log block content p made h =
    readable_as old new log log p refl (λ b. b) (λ block none. none)
    (λ at outside bad. makes_none_uncertain old new block at content made bad) h

pub contents_made : (old new : Device) (io : Io) (r : Result Unit Failed) → HasMade old io r new
    → HasContents old → HasContents new
contents_made old new io r made h = go io.call made
  where
    written : (before with_changes : List Content) (wrote : Content) (r : Result Unit Failed)
        → Appends before wrote r with_changes → 0 < length before → 0 < length with_changes
    written before with_changes wrote (Ok u) e some =
        omega (arith, ap length e, length-append before (wrote ∷ []))
    written before with_changes wrote (Err u) (inl e) some = omega (arith, ap length e)
    written before with_changes wrote (Err u) (inr e) some =
        omega (arith, ap length e, length-append before (wrote ∷ []))

    settled_some : (t : Bool) (before with_changes : List Content)
        → with_changes ≡ (if t then newest_only before else before) → 0 < length before
        → 0 < length with_changes
    settled_some true before with_changes e some =
        omega (arith, ap length e, length-drop (length before - 1) before)
    settled_some false before with_changes e some = omega (arith, ap length e)

    settles_some : (side : Side) (block : ℕ) (before with_changes : List Content) (r : Result Unit Failed)
        → Settles side block before r with_changes → 0 < length before → 0 < length with_changes
    settles_some side block before with_changes (Ok u) e some =
        settled_some (is_on side block) before with_changes e some
    settles_some side block before with_changes (Err u) e some = omega (arith, ap length e)

    by_write : (at : BlockNo) → HasWritten old at.0 io.content r new → (block : ℕ) → block < new.size
        → (t : Bool) → nat_eq block at.0 ≡ t → 0 < length (current new block)
    by_write at w block lt true e =
        let same : block ≡ at.0 = eqb-true block at.0 e in
        subst (λ (n : ℕ). 0 < length (current new n)) (sym same)
        (written (current old at.0) (current new at.0) io.content r w.written
        (h at.0 (omega (arith, same, w.later.size))))
    by_write at w block lt false e =
        omega (
          arith,
          ap length (w.others block (eqb-false block at.0 e)),
          h block (omega (arith, w.later.size)),
        )

    go : (call : IoCall) → HasMadeCall old call io.content r new → HasContents new
    go (Write at) w block lt = by_write at w block lt (nat_eq block at.0) refl
    go (Barrier side) w block lt =
        settles_some side block (current old block) (current new block) r (w.contents block)
        (h block (omega (arith, w.later.size)))

pub readable_log_out : (d : Device) (log : Log) (p : Pending) → IsReadable d log p
    → IsReadable d (with_log_out log) p
readable_log_out d log p h =
    readable_as d d log (with_log_out log) p refl (λ b. b) (λ block none. none) (λ block outside bad. bad) h

pub readable_log_back : (d : Device) (log : Log) (ok : Bool) (p : Pending) → IsReadable d log p
    → IsReadable d (with_log_back log ok) p
readable_log_back d log false p h =
    readable_as d d log (with_log_back log false) p refl (λ b. refl) (λ block none. none)
    (λ block outside bad. bad) h
readable_log_back d log true p h = go (nat_eq log.log_step (log.taken + 2))
  where
    go : (t : Bool) → IsReadable d (if t
        then record log { logged = log.logged + log.taken; taken = 0; log_step = 0; log_out = false }
        else record log { log_step = log.log_step + 1; log_out = false }) p
    go true = readable_as d d log (record log {
      logged = log.logged + log.taken;
      taken = 0;
      log_step = 0;
      log_out = false;
    }) p refl (λ b. b) (λ block none. none) (λ block outside bad. bad) h
    go false = readable_as d d log (record log { log_step = log.log_step + 1; log_out = false }) p refl
        (λ b. b) (λ block none. none) (λ block outside bad. bad) h

-- a barrier makes nothing uncertain
barrier_makes_uncertain : (old new : Device) (io : Io) (side : Side) (r : Result Unit Failed) (at : ℕ)
    → io.call ≡ Barrier side → HasMade old io r new → new.uncertain at ≡ true → old.uncertain at ≡ true
barrier_makes_uncertain old new io side r at e made bad = sym ((made_barrier old new io side r e made).uncertain at)
    ∙ bad

pub readable_log_made : (old new : Device) (base : Image) (log : Log) (io : Io) (r : Result Unit Failed)
    (p : Pending) → IsLawful log → HasMade old io r new
    → AgreesWithPending old base log (out io) p → IsReadable old log p → IsReadable new log p
readable_log_made old new base log io r p lawful made s h =
    readable_as old new log log p refl (λ b. b) (λ block none. none)
    (λ at outside bad. spared at outside bad (step_of log.log_step log.taken lawful.log_step)) h
  where
    next : IsNextLogCall log io
    next = s.logger.1

    spared : (at : ℕ) → IsOutside log.blocks at → new.uncertain at ≡ true → Step log.log_step log.taken
        → old.uncertain at ≡ true
    spared at outside bad step = go step
      where
        apart : (other : ℕ) → LOG_HEADER_BLOCK ≤ other → other < START_BLOCK → at ≢ other
        apart other low high e =
            elim (outside.1) as (λ _. ⊥) [ inl below ↦ omega (arith, e) | inr above ↦ omega (arith, e) ]

        go : Step log.log_step log.taken → old.uncertain at ≡ true
        go (writes lt) =
            let found = change_at log (log.logged + log.log_step) lawful
            (omega (arith, lawful.taken_within)) in
            let slot : ℕ = slot_block (log_end log + log.log_step) in
            makes_other_uncertain old new slot at io.content r
            (made_write old new io (record { 0 = slot }) r (next.body lt found.0 found.1).0 made)
            (apart slot (omega arith) (omega arith)) bad
        go (settles step) = barrier_makes_uncertain old new io OnLog r at (next.body_barrier step) made bad
        go (tells step) =
            makes_other_uncertain old new LOG_HEADER_BLOCK at io.content r
            (made_write old new io (record { 0 = LOG_HEADER_BLOCK }) r (next.header step).0 made)
            (apart LOG_HEADER_BLOCK (omega arith) (omega arith)) bad
        go (ends step) = barrier_makes_uncertain old new io OnLog r at (next.header_barrier step) made bad

pub readable_inst_out : (d : Device) (log : Log) (io : Io) → log.broken ≡ false → IsReadable d log idle
    → IsReadable d (with_inst_out log) (out io)
readable_inst_out d log io sound h = go (nat_lt 0 log.installing)
  where
    none : (block : ℕ) → IsOutside log.blocks block → d.uncertain block ≡ true → ⊥
    none block outside bad = absurd (let no : true ≡ false = sym (h.stuck block outside bad) ∙ sound in cc)

    go : (t : Bool) → IsReadable d (if t
        then record log { inst_out = true }
        else record log {
          installing = log.logged;
          inst_step = next_home log.changes log.logged 0;
          inst_out = true;
        }) (out io)
    go true = record { logged = λ block outside bad no. none block outside bad; stuck = none }
    go false = record { logged = λ block outside bad no. none block outside bad; stuck = none }

-- a change's block is in the log
has_block : (changes : List LogChange) (k : ℕ) (change : LogChange) → slice_get changes k ≡ Some change
    → newest_of changes change.block.0 ≡ None → ⊥
has_block [] k change is none = absurd (cc)
has_block (x ∷ xs) zero change is none =
    here (newest_of xs change.block.0) (nat_eq x.block.0 change.block.0)
    (eq-eqb x.block.0 change.block.0 (let e : x ≡ change = cc in ap (λ (y : LogChange). y.block.0) e)) none
  where
    here : (later : Option Content) (t : Bool) → t ≡ true
        → or_else later (if t then Some x.content else None) ≡ None → ⊥
    here (Some c) t e h = absurd (cc)
    here None true e h = absurd (cc)
    here None false e h = absurd (cc)
has_block (x ∷ xs) (suc k) change is none =
    has_block xs k change is (first_none (newest_of xs change.block.0) (if nat_eq x.block.0 change.block.0
    then Some x.content else None) none)
  where
    first_none : (a b : Option Content) → or_else a b ≡ None → a ≡ None
    first_none (Some c) b e = absurd (cc)
    first_none None b e = refl

pub readable_inst_made : (old new : Device) (base : Image) (log : Log) (io : Io) (r : Result Unit Failed)
    (p : Pending) → IsLawful log → HasMade old io r new
    → AgreesWithPending old base log p (out io) → IsReadable old log (out io) → IsReadable new log (was_made io r)
readable_inst_made old new base log io r p lawful made s h = record {
  logged = λ at outside bad none. (uncertain at outside bad).0 none;
  stuck = λ at outside bad. (uncertain at outside bad).1;
}
  where
    next : IsNextInstCall log io
    next = s.installer.1

    -- nothing became uncertain while a call was out
    sound : (at : ℕ) → IsOutside log.blocks at → old.uncertain at ≡ true → ⊥
    sound at outside bad = h.stuck at outside bad

    failed : (block at : ℕ) (r : Result Unit Failed) → HasWritten old block io.content r new
        → (old.uncertain at ≡ true → ⊥) → new.uncertain at ≡ true → IsStuck log (was_made io r)
    failed block at (Ok u) w clean bad = clean (makes_none_uncertain old new block at io.content w bad)
    failed block at (Err u) w clean bad = tt

    uncertain : (at : ℕ) → IsOutside log.blocks at → new.uncertain at ≡ true → (newest log at ≡ None → ⊥)
        × IsStuck log (was_made io r)
    uncertain at outside bad = go (step_of log.inst_step log.installing lawful.inst_step)
      where
        go : Step log.inst_step log.installing → (newest log at ≡ None → ⊥) × IsStuck log (was_made io r)
        go (writes lt) =
            written (change_at log log.inst_step lawful
            (omega (arith, lawful.installing, lawful.taken_within)))
          where
            written : (change : LogChange) × (slice_get log.changes log.inst_step ≡ Some change)
                × IsHomeOn log.blocks change.block → (newest log at ≡ None → ⊥) × IsStuck log (was_made io r)
            written found = by (nat_eq at found.0.block.0) refl
              where
                w : HasWritten old found.0.block.0 io.content r new
                w = made_write old new io found.0.block r (next.home lt found.0 found.1).0 made

                by : (t : Bool) → nat_eq at found.0.block.0 ≡ t → (newest log at ≡ None → ⊥)
                    × IsStuck log (was_made io r)
                by true e =
                    let same : at ≡ found.0.block.0 = eqb-true at found.0.block.0 e in (
                      λ none. has_block log.changes log.inst_step found.0 found.1
                          (ap (λ n. newest_of log.changes n) (sym same) ∙ none),
                      failed found.0.block.0 at r w (sound at outside) bad,
                    )
                by false e =
                    absurd (sound at outside
                    (makes_other_uncertain old new found.0.block.0 at io.content r w (eqb-false at found.0.block.0 e)
                    bad))
        go (settles step) =
            absurd (sound at outside (barrier_makes_uncertain old new io Home r at (next.home_barrier step) made bad))
        go (tells step) =
            absurd (sound at outside
            (makes_other_uncertain old new START_BLOCK at io.content r
            (made_write old new io (record { 0 = START_BLOCK }) r (next.start step).0 made)
            (λ e. elim (outside.1) as (λ _. ⊥) [
              | inl below ↦ omega (arith, e)
              | inr above ↦ omega (arith, e)
            ]) bad))
        go (ends step) =
            absurd (sound at outside (barrier_makes_uncertain old new io Home r at (next.start_barrier step) made bad))

pub readable_inst_back : (d : Device) (log : Log) (io : Io) (r : Result Unit Failed)
    → IsReadable d log (was_made io r) → IsReadable d (with_inst_back log (is_ok r)) idle
readable_inst_back d log io (Err u) h = record { logged = h.logged; stuck = λ block outside bad. refl }
readable_inst_back d log io (Ok u) h = outer (nat_lt log.inst_step log.installing)
  where
    none : (new : Log) → new.blocks ≡ log.blocks → IsReadable d new idle
    none new blocks = record {
      logged = λ block outside bad no. h.stuck block (subst (λ (n : ℕ). IsOutside n block) blocks outside)
          bad;
      stuck = λ block outside bad. absurd
          (h.stuck block (subst (λ (n : ℕ). IsOutside n block) blocks outside) bad);
    }

    inner : (t : Bool) → IsReadable d (if t
        then record log { inst_step = log.inst_step + 1; inst_out = false }
        else with_installed log) idle
    inner true = none (record log { inst_step = log.inst_step + 1; inst_out = false }) refl
    inner false = none (with_installed log) refl

    outer : (t : Bool) → IsReadable d (if t
        then record log {
          inst_step = next_home log.changes log.installing (log.inst_step + 1);
          inst_out = false;
        }
        else if nat_lt log.inst_step (log.installing + 2)
        then record log { inst_step = log.inst_step + 1; inst_out = false }
        else with_installed log) idle
    outer true = none (record log {
      inst_step = next_home log.changes log.installing (log.inst_step + 1);
      inst_out = false;
    }) refl
    outer false = inner (nat_lt log.inst_step (log.installing + 2))

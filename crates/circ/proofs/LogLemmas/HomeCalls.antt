-- Lemmas: a call of the device keeps the homes and the start in agreement.
use Rattle.std.proofs.Common.{◌≡◌, ◌≢◌, ℕ, ◌+◌, ◌<◌, ◌≤◌, ◌⊎◌, inl, inr, Bool, true, false, ◌||◌, length}
use Rattle.std.proofs.Common.{take, drop, get_or, replicate, slice_get, Option, Some, None, refl, sym, ap}
use Rattle.std.proofs.Common.{subst, ◌∙◌, arith, nat_eq, if◌then◌else◌, Result, Ok}
use Rattle.std.proofs.lemmas.Bool.{eqb-true, eqb-false, eq-eqb, le-leb, lt-ltb}
use Rattle.std.proofs.lemmas.List.{length-replicate, get_or-take, length-take-le, drop_all}
use Rattle.std.proofs.lemmas.List.Elements.{All-get_or}
use Rattle.std.proofs.lemmas.Option.{slice_get_within, get_or_from_slice_get}
use Rattle.std.proofs.Math.Bool.{or-true}
use Rattle.std.specs.Prelude.{nat_le, nat_lt}
use Rattle.base.specs.declared.TheConstants.{LOG_HEADER_BLOCK, START_BLOCK, BLOCK_BYTES}
use Rattle.disk.specs.Device.{Content, Device, current, newest, is_on, HasWritten, HasSettled}
use Rattle.disk.specs.Crash.{Image}
use Rattle.disk.specs.declared.device.Failed.{Failed}
use Rattle.disk.specs.declared.block.BlockNo.{BlockNo}
use Rattle.disk.specs.declared.block.Side.TheVariants.{Home}
use Rattle.circ.specs.declared.log.change.LogChange.{LogChange}
use Rattle.circ.specs.declared.log.calls.IoCall.TheVariants.{Write, Barrier}
use Rattle.circ.specs.Log.Io.{Io, HasMade}
use Rattle.circ.specs.Log.Log.{Log, IsLawful, IsHomeOn, newest_of, or_else}
use Rattle.circ.specs.Log.Installer.{IsNextInstCall, start_content}
use Rattle.circ.specs.Log.EightBytes.{number_at}
use Rattle.circ.specs.Log.Effects.{brought_home}
use Rattle.circ.specs.Log.Law.{LeavesOnly, IsOutside, IsPast, IsStartBehind, HomeAgrees, with_changes}
use Rattle.circ.specs.Log.Calls.{HasMadeInstCall}
use Rattle.circ.specs.Log.Overlay.{content_or}
use Rattle.circ.proofs.LogLemmas.EightBytes.{number_at-same}
use Rattle.circ.proofs.LogLemmas.Newest.{newest_of-drop}
use Rattle.circ.proofs.LogLemmas.Contents.{PreservesContent, preserves_same, preserves_settled, leaves_preserved, leaves_newest}
use Rattle.circ.proofs.LogLemmas.Contents.{leaves_written, newest_written}
use Rattle.circ.proofs.LogLemmas.Steps.{Step, writes, settles, tells, ends, step_of, made_write, made_barrier}
use Rattle.circ.proofs.LogLemmas.Steps.{change_at}
use Rattle.circ.proofs.LogLemmas.LogCalls.{PreservesOwn, preserves_barrier}

-- the blocks beside the log's own are kept
abbrev pub PreservesHomes : Device → Device → Type 0
PreservesHomes old new = (block : ℕ) → (block < LOG_HEADER_BLOCK) ⊎ (START_BLOCK ≤ block) → PreservesContent old new block

outside_log : (blocks block : ℕ) → IsOutside blocks block → (block < LOG_HEADER_BLOCK) ⊎ (START_BLOCK ≤ block)
outside_log blocks block outside =
    elim (outside.1) as (λ _. (block < LOG_HEADER_BLOCK) ⊎ (START_BLOCK ≤ block)) [
      | inl below ↦ inl below
      | inr above ↦ inr (omega arith)
    ]

-- a change has its home behind the log
home_of : (log : Log) (k : ℕ) (change : LogChange) → IsLawful log → slice_get log.changes k ≡ Some change
    → IsHomeOn log.blocks change.block
home_of log k change lawful is =
    subst (λ (x : LogChange). IsHomeOn log.blocks x.block)
    (get_or_from_slice_get log.changes k change change is)
    (All-get_or (λ (x : LogChange). IsHomeOn log.blocks x.block) log.changes k change
    (slice_get_within log.changes k change is) lawful.homes)

-- the blocks of a home, as it's brought there
abbrev Either : Image → Log → ℕ → Content → Type 0
Either base log block content = (content ≡ base block) ⊎ (brought_home log block ≡ Some content)

abbrev Brought : Image → Log → ℕ → Content → Type 0
Brought base log block content = content ≡ with_changes base (take log.installing log.changes) block

abbrev Advanced : Log → Content → Type 0
Advanced log content = IsStartBehind log 0 content ⊎ IsStartBehind log log.installing content

pub homes_preserved : (old new : Device) (base : Image) (log : Log) → PreservesHomes old new → HomeAgrees old base log
    → HomeAgrees new base log
homes_preserved old new base log preserves h =
    let at : (block : ℕ) → IsOutside log.blocks block → PreservesContent old new block =
    λ block outside. preserves block (outside_log log.blocks block outside) in
    let start = preserves START_BLOCK (inr (omega arith)) in
    record {
      chosen = h.chosen;
      home = λ before block outside. leaves_preserved old new block (Either base log block) (at block outside)
          (h.home before block outside);
      written = λ before block outside past content is. (at block outside).newest
          ∙ h.written before block outside past content is;
      start = λ before. leaves_preserved old new START_BLOCK (IsStartBehind log 0) start (h.start before);
      brought = λ later block outside. leaves_preserved old new block (Brought base log block) (at block outside)
          (h.brought later block outside);
      advanced_start = λ later. leaves_preserved old new START_BLOCK (Advanced log) start (h.advanced_start later);
      newest_start = λ end. subst (IsStartBehind log log.installing) (sym start.newest) (h.newest_start end);
    }

pub inst_made_preserved : (old new : Device) (base : Image) (log : Log) → IsLawful log → PreservesHomes old new
    → HasMadeInstCall old base log → HasMadeInstCall new base log
inst_made_preserved old new base log lawful preserves h =
    let start = preserves START_BLOCK (inr (omega arith)) in
    record {
      home = λ lt change is.
          let home = home_of log log.inst_step change lawful is in
          let low : START_BLOCK ≤ change.block.0 = omega (arith, home.0) in
          (preserves change.block.0 (inr low)).newest ∙ h.home lt change is;
      home_barrier =
          λ at block outside. leaves_preserved old new block (Brought base log block)
          (preserves block (outside_log log.blocks block outside)) (h.home_barrier at block outside);
      start = λ at. subst (IsStartBehind log log.installing) (sym start.newest) (h.start at);
      start_barrier =
          λ at. leaves_preserved old new START_BLOCK (IsStartBehind log log.installing) start (h.start_barrier at);
    }

or_else_some : (a : Option Content) (c : Content) → or_else a (Some c) ≡ None → ⊥
or_else_some (Some x) c e = absurd (cc)
or_else_some None c e = absurd (cc)

-- a change that has still to come home isn't past
not_past : (log : Log) (change : LogChange) → IsLawful log → log.inst_step < log.installing
    → slice_get log.changes log.inst_step ≡ Some change → IsPast log change.block.0 → ⊥
not_past log change lawful lt is past =
    let n : length (take log.installing log.changes) ≡ log.installing =
    length-take-le log.installing log.changes (omega (arith, lawful.installing, lawful.taken_within)) in
    let it : get_or (take log.installing log.changes) log.inst_step change ≡ change =
    get_or-take log.installing log.changes log.inst_step change lt
    ∙ get_or_from_slice_get log.changes log.inst_step change change is in
    let rest : Option Content =
    newest_of (drop (log.inst_step + 1) (take log.installing log.changes)) change.block.0 in
    let e : newest_of (drop log.inst_step (take log.installing log.changes)) change.block.0
    ≡ or_else rest (if nat_eq change.block.0 change.block.0 then Some change.content else None) =
    newest_of-drop (take log.installing log.changes) log.inst_step change change.block.0 (omega arith) it in
    let same : nat_eq change.block.0 change.block.0 ≡ true = eq-eqb change.block.0 change.block.0 refl in
    or_else_some rest change.content
    (ap (λ (t : Bool). or_else rest (if t then Some change.content else None)) (sym same) ∙ sym e ∙ past)

-- the write of a change to its home
home_written : (old new : Device) (base : Image) (log : Log) (change : LogChange) (wrote : Content)
    (r : Result Unit Failed)
    → IsLawful log → log.inst_step < log.installing
    → slice_get log.changes log.inst_step ≡ Some change → wrote ≡ change.content
    → HasWritten old change.block.0 wrote r new → HomeAgrees old base log → HomeAgrees new base log
home_written old new base log change wrote r lawful lt is same made h =
    let place = home_of log log.inst_step change lawful is in
    let other : (block : ℕ) → block ≢ change.block.0 → PreservesContent old new block =
    λ block differs. preserves_same old new block (made.others block differs) in
    let start : PreservesContent old new START_BLOCK = other START_BLOCK (λ e. omega (arith, e, place.0)) in
    record {
      chosen = h.chosen;
      home = home;
      written = λ before block outside past content brought.
          (other block (λ e. not_past log change lawful lt is (subst (λ n. IsPast log n) e past))).newest
          ∙ h.written before block outside past content brought;
      start = λ before. leaves_preserved old new START_BLOCK (IsStartBehind log 0) start (h.start before);
      brought = λ later. absurd (omega arith);
      advanced_start = λ later. absurd (omega arith);
      newest_start = λ end. absurd (omega arith);
    }
  where
    it : (block : ℕ) → block ≡ change.block.0 → LeavesOnly old block (Either base log block)
        → LeavesOnly new block (Either base log block)
    it block e before =
        let chosen : brought_home log block ≡ Some wrote = ap (brought_home log) e ∙ h.chosen lt change is
        ∙ ap Some (sym same) in
        leaves_written old new block wrote r (Either base log block)
        (subst (λ n. HasWritten old n wrote r new) (sym e) made) (inr chosen) before

    home : log.inst_step ≤ log.installing → (block : ℕ) → IsOutside log.blocks block
        → LeavesOnly new block (Either base log block)
    home before block outside = go (nat_eq block change.block.0) refl
      where
        go : (t : Bool) → nat_eq block change.block.0 ≡ t → LeavesOnly new block (Either base log block)
        go true e = it block (eqb-true block change.block.0 e) (h.home before block outside)
        go false e = leaves_preserved old new block (Either base log block)
            (preserves_same old new block (made.others block (eqb-false block change.block.0 e)))
            (h.home before block outside)

-- the write of the raised start
start_written : (old new : Device) (base : Image) (log : Log) (wrote : Content) (r : Result Unit Failed)
    → log.inst_step ≡ log.installing + 1
    → HasWritten old START_BLOCK wrote r new → IsStartBehind log log.installing wrote
    → HomeAgrees old base log → HomeAgrees new base log
start_written old new base log wrote r at made start h = record {
  chosen = h.chosen;
  home = λ before. absurd (omega arith);
  written = λ before. absurd (omega arith);
  start = λ before. absurd (omega arith);
  brought = λ later block outside.
      leaves_preserved old new block (Brought base log block)
      (preserves_same old new block (made.others block (apart block outside)))
      (h.brought later block outside);
  advanced_start =
      λ later. leaves_written old new START_BLOCK wrote r (Advanced log) made (inr start)
      (h.advanced_start later);
  newest_start = λ end. absurd (omega arith);
}
  where
    apart : (block : ℕ) → IsOutside log.blocks block → block ≢ START_BLOCK
    apart block outside e =
        elim (outside.1) as (λ _. ⊥) [ inl below ↦ omega (arith, e) | inr above ↦ omega (arith, e) ]

-- the start that is written
start_of : (log : Log) (content : Content) → IsLawful log
    → content ≡ start_content (log.start + log.installing) → IsStartBehind log log.installing content
start_of log content lawful e =
    let n : ℕ = log.start + log.installing in
    ap (λ c. number_at c 0) e
    ∙ number_at-same (replicate BLOCK_BYTES 0) 0 n (omega (arith, length-replicate {A = ℕ} BLOCK_BYTES 0))
    (omega (arith, lawful.positions, lawful.installing, lawful.taken_within))

-- the write of a block home, with its change
record Body (log : Log) (io : Io) : Type 0 where
  change : LogChange
  is : slice_get log.changes log.inst_step ≡ Some change
  home : IsHomeOn log.blocks change.block
  call : io.call ≡ Write change.block
  content : io.content ≡ change.content

body_of : (log : Log) (io : Io) → IsLawful log → IsNextInstCall log io → log.inst_step < log.installing
    → Body log io
body_of log io lawful next lt =
    let (change, is, home) =
    change_at log log.inst_step lawful (omega (arith, lawful.taken_within, lawful.installing)) in
    let call = next.home lt change is in
    record { change = change; is = is; home = home; call = call.0; content = call.1 }

-- a call of the installer, made or failed
pub homes_called : (old new : Device) (base : Image) (log : Log) (io : Io) (r : Result Unit Failed)
    → IsLawful log → IsNextInstCall log io → HasMade old io r new
    → HomeAgrees old base log → HomeAgrees new base log
homes_called old new base log io r lawful next made h =
    go (step_of log.inst_step log.installing lawful.inst_step)
  where
    settled : io.call ≡ Barrier Home → HomeAgrees new base log
    settled e = homes_preserved old new base log (λ block outside. preserves_barrier old new io Home r e made block) h

    go : Step log.inst_step log.installing → HomeAgrees new base log
    go (writes lt) =
        let body = body_of log io lawful next lt in
        home_written old new base log body.change io.content r lawful lt body.is body.content
        (made_write old new io body.change.block r body.call made) h
    go (settles at) = settled (next.home_barrier at)
    go (tells at) =
        let call = next.start at in
        start_written old new base log io.content r at
        (made_write old new io (record { 0 = START_BLOCK }) r call.0 made)
        (start_of log io.content lawful call.1) h
    go (ends at) = settled (next.start_barrier at)

-- the log's own blocks are kept by it
pub own_spared : (old new : Device) (log : Log) (io : Io) (r : Result Unit Failed) → IsLawful log
    → IsNextInstCall log io → HasMade old io r new → PreservesOwn old new
own_spared old new log io r lawful next made at low high =
    go (step_of log.inst_step log.installing lawful.inst_step)
  where
    same : (other : BlockNo) → START_BLOCK ≤ other.0 → io.call ≡ Write other → PreservesContent old new at
    same other behind e =
        preserves_same old new at ((made_write old new io other r e made).others at (λ is. omega (arith, is)))

    go : Step log.inst_step log.installing → PreservesContent old new at
    go (writes lt) = let body = body_of log io lawful next lt in
        same body.change.block (omega (arith, body.home.0)) body.call
    go (settles step) = preserves_barrier old new io Home r (next.home_barrier step) made at
    go (tells step) = same (record { 0 = START_BLOCK }) (omega arith) (next.start step).0
    go (ends step) = preserves_barrier old new io Home r (next.start_barrier step) made at

-- a block that isn't the log's own lies on the side of the homes
pub on_home : (blocks block : ℕ) → IsOutside blocks block → is_on Home block ≡ true
on_home blocks block outside =
    elim (outside.1) as (λ _. is_on Home block ≡ true) [
      | inl below ↦ ap (λ (t : Bool). t || nat_le START_BLOCK block) (lt-ltb block LOG_HEADER_BLOCK below)
      | inr above ↦ ap (λ (t : Bool). nat_lt block LOG_HEADER_BLOCK
          || t) (le-leb START_BLOCK block (omega arith)) ∙ or-true (nat_lt block LOG_HEADER_BLOCK)
    ]

-- what the disk shows once it was made
pub inst_made : (old new : Device) (base : Image) (log : Log) (io : Io) → IsLawful log → IsNextInstCall log io
    → HasMade old io (Ok tt) new → HomeAgrees old base log → HasMadeInstCall new base log
inst_made old new base log io lawful next made h = record {
  home = home;
  home_barrier = home_barrier;
  start = start;
  start_barrier = start_barrier;
}
  where
    home : log.inst_step < log.installing → (change : LogChange)
        → slice_get log.changes log.inst_step ≡ Some change
        → newest (current new change.block.0) ≡ change.content
    home lt change is =
        let call = next.home lt change is in
        newest_written old new change.block.0 io.content
        (made_write old new io change.block (Ok tt) call.0 made) ∙ call.1

    home_barrier : log.inst_step ≡ log.installing → (block : ℕ) → IsOutside log.blocks block
        → LeavesOnly new block (Brought base log block)
    home_barrier at block outside = go (brought_home log block) refl
      where
        settled : HasSettled old Home (Ok tt) new
        settled = made_barrier old new io Home (Ok tt) (next.home_barrier at) made

        past : IsPast log block
        past =
            let n : length (take log.installing log.changes) ≡ log.installing =
            length-take-le log.installing log.changes
            (omega (arith, lawful.installing, lawful.taken_within)) in
            ap (λ xs. newest_of xs block)
            (drop_all log.inst_step (take log.installing log.changes) (omega arith))

        go : (new_content : Option Content) → brought_home log block ≡ new_content
            → LeavesOnly new block (Brought base log block)
        go (Some content) e =
            let is : newest (current old block) ≡ with_changes base (take log.installing log.changes) block =
            h.written (omega arith) block outside past content e
            ∙ ap (λ o. content_or o (base block)) (sym e) in
            leaves_newest old new Home block (Brought base log block) settled
            (on_home log.blocks block outside) is
        go None e =
            let same : (content : Content) → Either base log block content → Brought base log block content =
            λ content either. elim either as (λ _. Brought base log block content) [
              | inl old_one ↦ old_one ∙ ap (λ o. content_or o (base block)) (sym e)
              | inr it ↦ absurd (let no : None ≡ Some content = sym e ∙ it in cc)
            ] in
            leaves_preserved old new block (Brought base log block)
            (preserves_settled old new Home (Ok tt) block settled)
            (λ content there. same content (h.home (omega arith) block outside content there))

    start : log.inst_step ≡ log.installing + 1
        → IsStartBehind log log.installing (newest (current new START_BLOCK))
    start at =
        let call = next.start at in
        let written =
        newest_written old new START_BLOCK io.content
        (made_write old new io (record { 0 = START_BLOCK }) (Ok tt) call.0 made) in
        subst (IsStartBehind log log.installing) (sym written) (start_of log io.content lawful call.1)

    start_barrier : log.inst_step ≡ log.installing + 2
        → LeavesOnly new START_BLOCK (IsStartBehind log log.installing)
    start_barrier at =
        leaves_newest old new Home START_BLOCK (IsStartBehind log log.installing)
        (made_barrier old new io Home (Ok tt) (next.start_barrier at) made) refl (h.newest_start at)

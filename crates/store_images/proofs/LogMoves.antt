-- Each step of the log's side leads from what is told to what is told next, and keeps the agreement.
use Rattle.std.proofs.Common.{◌≡◌, ◌≤◌, ℕ, ◌+◌, ap, sym, ◌∙◌, refl, subst, arith, length}
use Rattle.std.proofs.Common.{Bool, true, false, if◌then◌else◌, Option, Some, Result, Ok, Err, is_ok}
use Rattle.std.proofs.Common.{nat_eq, nat_lt}
use Rattle.std.proofs.lemmas.List.{length-drop}
use Rattle.disk.specs.Crash.{Image}
use Rattle.disk.specs.Device.{Device}
use Rattle.disk.specs.declared.device.Failed.{Failed}
use Rattle.circ.specs.Log.Calls.{AgreesWithPending, IsInstallerAt, IsLoggerAt, Pending, idle, out}
use Rattle.circ.specs.Log.Calls.{InstCallComesBack, InstCallGoesOut, InstCallIsMade, LogCallComesBack}
use Rattle.circ.specs.Log.Calls.{LogCallGoesOut, LogCallIsMade, was_made}
use Rattle.circ.specs.Log.Installer.{IsNextInstCall, is_inst_out, may_install, next_home, with_inst_back}
use Rattle.circ.specs.Log.Installer.{with_inst_out, with_installed}
use Rattle.circ.specs.Log.Io.{Io}
use Rattle.circ.specs.Log.Log.{IsLawful, Log}
use Rattle.circ.specs.Log.Logger.{IsNextLogCall, is_log_out, may_log, with_log_back, with_log_out}
use Rattle.store_promise.specs.declared.events.Step.{Step}
use Rattle.store_promise.specs.declared.events.Step.TheVariants as step
use Rattle.store_promise.specs.LogState.{LogState, log_moved}
use Rattle.store_promise.specs.NextCall.{IsNextOfInstalling, next_log_call}
use Rattle.store_promise.specs.Running.{home_next, next_log_state}
use Rattle.store_promise.specs.Schedule.{IsNextOfInstaller, IsNextOfLog, Setting}
use Rattle.store_promise.specs.LogStateOf.{StandsAtHome, log_state_of}
use Rattle.store_promise.proofs.LogStateIs.{inst_call_is, log_call_is, may_install_is, may_log_is}
use Rattle.store_promise.proofs.LogStateIs.{stands_given_back}
use Rattle.store_promise.proofs.LogStateIs.{stands_logging, stands_taken}
use Rattle.store_promise.proofs.LogStateOf.{inst_given_moves_state, inst_taken_moves_state, log_given_moves_state, log_taken_moves_state}
use Rattle.store_images.proofs.OutCalls.{its_home_is_out, its_is_out}
use Rattle.store_images.specs.LogCallState.{MayInstIo, MayInstall, MayLog, MayLogIo, pending_of}

-- the device, the memory log, and the calls that are out
pub record LogCallState : Type 0 where
  pub device : Device
  pub log : Log
  pub logging : Pending
  pub installing : Pending

-- what is told of it, where an opening left the log at a position
abbrev log_state_at : ℕ → LogCallState → LogState
log_state_at position side = log_state_of position side.log side.logging side.installing

-- the log has gone on from where the opening left it, on the disk that was opened
pub record IsBehind (o : Setting) (log : Log) : Type 0 where
  pub position : o.position ≤ log.start + length log.changes
  pub blocks : o.geometry.blocks ≡ log.blocks

-- The log's side agrees over what is at home, and the installer stands at a home.
pub record IsOver (o : Setting) (base : Image) (side : LogCallState) : Type 0 where
  pub agrees : AgreesWithPending side.device base side.log side.logging side.installing
  pub stands : StandsAtHome side.log
  pub behind : IsBehind o side.log

-- Whatever is at home, a step is one that may be made, it leads from what is told to what is told next, and the
-- log's side agrees as before.
abbrev pub Tells : (Setting → LogState → Option Step → Type 0) → LogCallState → Option Step → LogCallState → Type 0
Tells MayMake old made new = (o : Setting) (base : Image) → IsOver o base old
    → MayMake o (log_state_at o.position old) made
    × (log_state_at o.position new ≡ next_log_state (log_state_at o.position old) made)
    × IsOver o (home_next base old.log made) new

abbrev pub side : Device → Log → Pending → Pending → LogCallState
side device log logging installing = record {
  device = device;
  log = log;
  logging = logging;
  installing = installing;
}

-- ---- a call that was made

pub answer_is : (io : Io) (result : Result Unit Failed)
    → pending_of (Some io) (Some (is_ok result)) ≡ was_made io result
answer_is io (Ok done) = refl
answer_is io (Err failed) = refl

-- ---- the logger

out_of : (d : Device) (log : Log) (io : Io) (ok : Bool) → IsLoggerAt d log (pending_of (Some io) (Some ok))
    → (log.log_out ≡ true) × IsNextLogCall log io
out_of d log io true at = (at.0, at.1)
out_of d log io false at = (at.0, at.1)

behind_logged : (o : Setting) (log : Log) (ok : Bool) → IsBehind o log → IsBehind o (with_log_back log ok)
behind_logged o log false behind = record { position = behind.position; blocks = behind.blocks }
behind_logged o log true behind = by_last (nat_eq log.log_step (log.taken + 2))
  where
    by_last : (last : Bool) → IsBehind o (if last
        then record log { logged = log.logged + log.taken; taken = 0; log_step = 0; log_out = false }
        else record log { log_step = log.log_step + 1; log_out = false })
    by_last true = record { position = behind.position; blocks = behind.blocks }
    by_last false = record { position = behind.position; blocks = behind.blocks }

module _ (d : Device) (old : Log) (installing : Pending) (lawful : IsLawful old) where
  module _ (io : Io) where
    pub log_taken : (new : Log) → may_log old ≡ true → new ≡ with_log_out old → LogCallGoesOut old io new
        → Tells MayLog (side d old idle installing) (Some (step.LogNext io.call))
        (side d new (out io) installing)
    log_taken new some is goes o base over =
        let may = may_log_is o.position old installing lawful over.agrees.logger ∙ some in
        let agrees = subst (λ log. AgreesWithPending d base log (out io) installing) is
        (goes d base installing over.agrees) in
        let call = log_call_is o.position old installing lawful io over.behind.position agrees.logger.1 in (
          subst (λ b. IsNextOfLog b (next_log_call o.position (log_state_of o.position old idle installing))
              (Some (step.LogNext io.call))) (sym may) call,
          ap (λ log. log_state_of o.position log (out io) installing) is
              ∙ log_taken_moves_state o.position old io installing lawful,
          subst (λ log. IsOver o base (side d log (out io) installing)) (sym is)
              (record {
                agrees = agrees;
                stands = over.stands;
                behind = record { position = over.behind.position; blocks = over.behind.blocks };
              }),
        )

    pub log_given : (new : Log) (ok : Bool) → new ≡ (if is_log_out old io then with_log_back old ok else old)
        → LogCallComesBack old io ok new
        → Tells MayLog (side d old (pending_of (Some io) (Some ok)) installing) (Some (step.LogDone ok))
        (side d new idle installing)
    log_given new true is back o base over =
        let its = out_of d old io true over.agrees.logger in
        let same = is ∙ (λ i. if its_is_out old io its.0 its.1 i then with_log_back old true else old) in (
          refl,
          ap (λ log. log_state_of o.position log idle installing) same
              ∙ log_given_moves_state o.position old io (Ok tt) installing true,
          record {
            agrees = back d base (Ok tt) installing refl over.agrees;
            stands = subst StandsAtHome (sym same) (stands_logging old true over.stands);
            behind = subst (IsBehind o) (sym same) (behind_logged o old true over.behind);
          },
        )
    log_given new false is back o base over =
        let its = out_of d old io false over.agrees.logger in
        let same = is ∙ (λ i. if its_is_out old io its.0 its.1 i then with_log_back old false else old) in (
          refl,
          ap (λ log. log_state_of o.position log idle installing) same
              ∙ log_given_moves_state o.position old io (Err (record {})) installing false,
          record {
            agrees = back d base (Err (record {})) installing refl over.agrees;
            stands = subst StandsAtHome (sym same) (stands_logging old false over.stands);
            behind = subst (IsBehind o) (sym same) (behind_logged o old false over.behind);
          },
        )

made_moves_log_state : (position : ℕ) (log : Log) (io : Io) (installing : Pending) (ok : Bool)
    → log_state_of position log (pending_of (Some io) (Some ok)) installing
    ≡ log_moved (log_state_of position log (out io) installing) (step.LogIo ok)
made_moves_log_state position log io installing true = refl
made_moves_log_state position log io installing false = refl

pub log_made : (before after : Device) (log : Log) (installing : Pending) (io : Io)
    (result : Result Unit Failed) (ok : Bool) → IsLawful log → LogCallIsMade before io result after
    → ok ≡ is_ok result
    → Tells MayLogIo (side before log (out io) installing) (Some (step.LogIo ok))
    (side after log (pending_of (Some io) (Some ok)) installing)
log_made before after log installing io result ok lawful made is o base over =
    let same : pending_of (Some io) (Some ok) ≡ was_made io result =
    ap (λ b. pending_of (Some io) (Some b)) is ∙ answer_is io result in (
      tt,
      made_moves_log_state o.position log io installing ok,
      record {
        agrees = subst (λ p. AgreesWithPending after base log p installing) (sym same)
            (made base log installing lawful over.agrees);
        stands = over.stands;
        behind = over.behind;
      },
    )

-- ---- the installer

home_out_of : (d : Device) (base : Image) (log : Log) (io : Io) (ok : Bool)
    → IsInstallerAt d base log (pending_of (Some io) (Some ok))
    → (log.inst_out ≡ true) × IsNextInstCall log io
home_out_of d base log io true at = (at.0, at.1)
home_out_of d base log io false at = (at.0, at.1)

-- what the installer's call leaves of the log once it is given back
pub inst_back_is : (d : Device) (base : Image) (log new : Log) (logging : Pending) (io : Io) (ok : Bool)
    → AgreesWithPending d base log logging (pending_of (Some io) (Some ok))
    → new ≡ (if is_inst_out log io then with_inst_back log ok else log) → new ≡ with_inst_back log ok
inst_back_is d base log new logging io ok agrees is =
    let its = home_out_of d base log io ok agrees.installer in
    is ∙ (λ i. if its_home_is_out log io its.0 its.1 i then with_inst_back log ok else log)

behind_installed : (o : Setting) (log : Log) (ok : Bool) → IsLawful log → IsBehind o log
    → IsBehind o (with_inst_back log ok)
behind_installed o log false lawful behind = record { position = behind.position; blocks = behind.blocks }
behind_installed o log true lawful behind =
    by_stage (nat_lt log.inst_step log.installing) (nat_lt log.inst_step (log.installing + 2))
  where
    by_stage : (home before_end : Bool)
        → IsBehind o (if home then record log {
          inst_step = next_home log.changes log.installing (log.inst_step + 1);
          inst_out = false;
        } else if before_end then record log { inst_step = log.inst_step + 1; inst_out = false }
        else with_installed log)
    by_stage true any = record { position = behind.position; blocks = behind.blocks }
    by_stage false true = record { position = behind.position; blocks = behind.blocks }
    by_stage false false =
        let long = length-drop log.installing log.changes in
        let few = lawful.installing in
        let within = lawful.taken_within in
        let from = behind.position in
        record { position = omega (arith, long, few, within, from); blocks = behind.blocks }

behind_taken : (o : Setting) (log : Log) → IsBehind o log → IsBehind o (with_inst_out log)
behind_taken o log behind = by_test (nat_lt 0 log.installing)
  where
    by_test : (has : Bool)
        → IsBehind o (if has then record log { inst_out = true } else record log {
          installing = log.logged;
          inst_step = next_home log.changes log.logged 0;
          inst_out = true;
        })
    by_test true = record { position = behind.position; blocks = behind.blocks }
    by_test false = record { position = behind.position; blocks = behind.blocks }

module _ (d : Device) (old : Log) (logging : Pending) (lawful : IsLawful old) where
  module _ (io : Io) where
    pub inst_taken : (new : Log) → may_install old ≡ true → new ≡ with_inst_out old
        → InstCallGoesOut old io new
        → Tells MayInstall (side d old logging idle) (Some (step.InstNext io.call))
        (side d new logging (out io))
    inst_taken new some is goes o base over =
        let log_state = log_state_of o.position old logging idle in
        let may = may_install_is o.position old logging over.agrees.installer ∙ some in
        let agrees = subst (λ log. AgreesWithPending d base log logging (out io)) is
        (goes d base logging over.agrees) in
        let call = subst (λ blocks. IsNextOfInstalling blocks log_state io.call) (sym over.behind.blocks)
        (inst_call_is o.position old io logging lawful some agrees.installer.1) in (
          subst (λ b. IsNextOfInstaller b (IsNextOfInstalling o.geometry.blocks log_state)
              (Some (step.InstNext io.call))) (sym may) call,
          ap (λ log. log_state_of o.position log logging (out io)) is
              ∙ inst_taken_moves_state o.position old io logging lawful,
          subst (λ log. IsOver o base (side d log logging (out io))) (sym is)
              (record {
                agrees = agrees;
                stands = stands_taken old over.stands;
                behind = behind_taken o old over.behind;
              }),
        )

    pub inst_given : (new : Log) (ok : Bool) → new ≡ (if is_inst_out old io then with_inst_back old ok else old)
        → InstCallComesBack old io ok new
        → Tells MayInstall (side d old logging (pending_of (Some io) (Some ok))) (Some (step.InstDone ok))
        (side d new logging idle)
    inst_given new true is back o base over =
        let its = home_out_of d base old io true over.agrees.installer in
        let same = is ∙ (λ i. if its_home_is_out old io its.0 its.1 i then with_inst_back old true
        else old) in (
          refl,
          ap (λ log. log_state_of o.position log logging idle) same
              ∙ inst_given_moves_state o.position old io (Ok tt) logging lawful over.stands its.0 its.1 true,
          record {
            agrees = back d base (Ok tt) logging refl over.agrees;
            stands = subst StandsAtHome (sym same) (stands_given_back old true lawful over.stands);
            behind = subst (IsBehind o) (sym same) (behind_installed o old true lawful over.behind);
          },
        )
    inst_given new false is back o base over =
        let its = home_out_of d base old io false over.agrees.installer in
        let same = is ∙ (λ i. if its_home_is_out old io its.0 its.1 i then with_inst_back old false
        else old) in (
          refl,
          ap (λ log. log_state_of o.position log logging idle) same
              ∙ inst_given_moves_state o.position old io (Err (record {})) logging lawful over.stands
              its.0 its.1 false,
          record {
            agrees = back d base (Err (record {})) logging refl over.agrees;
            stands = subst StandsAtHome (sym same) (stands_given_back old false lawful over.stands);
            behind = subst (IsBehind o) (sym same) (behind_installed o old false lawful over.behind);
          },
        )

inst_made_moves_log_state : (position : ℕ) (log : Log) (io : Io) (logging : Pending) (ok : Bool)
    → log_state_of position log logging (pending_of (Some io) (Some ok))
    ≡ log_moved (log_state_of position log logging (out io)) (step.InstIo ok)
inst_made_moves_log_state position log io logging true = refl
inst_made_moves_log_state position log io logging false = refl

pub inst_made : (before after : Device) (log : Log) (logging : Pending) (io : Io) (result : Result Unit Failed)
    (ok : Bool) → IsLawful log → InstCallIsMade before io result after → ok ≡ is_ok result
    → Tells MayInstIo (side before log logging (out io)) (Some (step.InstIo ok))
    (side after log logging (pending_of (Some io) (Some ok)))
inst_made before after log logging io result ok lawful made is o base over =
    let same : pending_of (Some io) (Some ok) ≡ was_made io result =
    ap (λ b. pending_of (Some io) (Some b)) is ∙ answer_is io result in (
      tt,
      inst_made_moves_log_state o.position log io logging ok,
      record {
        agrees = subst (λ p. AgreesWithPending after base log logging p) (sym same)
            (made base log logging lawful over.agrees);
        stands = over.stands;
        behind = over.behind;
      },
    )

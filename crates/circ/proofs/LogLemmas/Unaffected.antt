-- Lemmas: each step of the log, and each of its calls, leads from agreement to agreement.
use Rattle.std.proofs.Common.{◌≡◌, ◌≢◌, ℕ, ◌+◌, Bool, true, false, ◌&&◌, List, take, arith, Option}
use Rattle.std.proofs.Common.{Some, None, IsSome}
use Rattle.std.proofs.Common.{refl, sym, ap, subst, ◌∙◌, nat_eq, if◌then◌else◌, Result, Ok, Err}
use Rattle.std.specs.Prelude.{nat_lt, is_ok, IfSome}
use Rattle.std.proofs.lemmas.Bool.{eq-eqb, and_from}
use Rattle.disk.specs.Device.{Device, HasRead, OneLater}
use Rattle.disk.specs.Crash.{Image}
use Rattle.disk.specs.declared.device.Failed.{Failed}
use Rattle.disk.specs.declared.block.BlockNo.{BlockNo}
use Rattle.disk.specs.Device.{Content}
use Rattle.circ.specs.declared.log.outcomes.Append.{Append}
use Rattle.circ.specs.declared.log.outcomes.Append.TheVariants.{Appended, Full, NoMemory}
use Rattle.circ.specs.declared.log.calls.IoCall.{IoCall}
use Rattle.circ.specs.declared.log.change.LogChange.{LogChange}
use Rattle.circ.specs.declared.log.calls.IoCall.TheVariants.{Write, Barrier}
use Rattle.circ.specs.Log.Io.{Io, HasMade, HasMadeCall}
use Rattle.circ.specs.Log.Log.{Log, IsLawful, log_end}
use Rattle.circ.specs.Log.Room.{with_group}
use Rattle.circ.specs.Log.Grows.{GrowsBy, StandsStill}
use Rattle.circ.specs.Log.Logger.{IsNextLogCall, group_size, is_log_out, with_log_out, with_log_made}
use Rattle.circ.specs.Log.Logger.{with_log_back}
use Rattle.circ.specs.Log.Installer.{IsNextInstCall, next_home, is_inst_out, with_inst_out, with_inst_made}
use Rattle.circ.specs.Log.Installer.{with_inst_back, with_installed}
use Rattle.circ.specs.Log.Law.{LogAgrees, HomeAgrees, Agrees}
use Rattle.circ.specs.Log.Calls.{Pending, idle, out, was_made, HasMadeLogCall, HasMadeInstCall, IsLoggerAt}
use Rattle.circ.specs.Log.Calls.{IsInstallerAt, AgreesWithPending, home_after, PreservesAgreement, LogCallGoesOut}
use Rattle.circ.specs.Log.Calls.{LogCallComesBack, InstCallGoesOut, InstCallComesBack}
use Rattle.circ.proofs.LogLemmas.Contents.{preserves_read}
use Rattle.circ.proofs.LogLemmas.LogCalls.{own_preserved, log_made_preserved, own_called, log_made, homes_spared}
use Rattle.circ.proofs.LogLemmas.Absorption.{grows}
use Rattle.circ.proofs.LogLemmas.LogMoves.{with_tail, with_installer_progress, own_unaffected, log_made_unaffected, next_log_unaffected}
use Rattle.circ.proofs.LogLemmas.LogMoves.{own_out, own_made}
use Rattle.circ.proofs.LogLemmas.LogMoves.{own_appended, log_made_appended, next_log_appended, own_installed}
use Rattle.circ.proofs.LogLemmas.LogMoves.{log_made_installed, next_log_installed}
use Rattle.circ.proofs.LogLemmas.HomeCalls.{homes_preserved, inst_made_preserved, homes_called, inst_made, own_spared}
use Rattle.circ.proofs.LogLemmas.HomeMoves.{aside, homes_aside, inst_made_aside, next_inst_aside, homes_appended}
use Rattle.circ.proofs.LogLemmas.HomeMoves.{inst_made_appended, next_inst_appended, homes_out, homes_made}

-- what holds in each case of a step
for_log_made : (P : Log → Type 0) (log : Log)
    → P (record log { logged = log.logged + log.taken; taken = 0; log_step = 0; log_out = false })
    → P (record log { log_step = log.log_step + 1; log_out = false }) → P (with_log_made log)
for_log_made P log end more =
    elim (nat_eq log.log_step (log.taken + 2)) as (λ last. P (if last
    then record log { logged = log.logged + log.taken; taken = 0; log_step = 0; log_out = false }
    else record log { log_step = log.log_step + 1; log_out = false })) [ true ↦ end | false ↦ more ]

for_inst_out : (P : Log → Type 0) (log : Log) → P (record log { inst_out = true })
    → P (record log {
      installing = log.logged;
      inst_step = next_home log.changes log.logged 0;
      inst_out = true;
    }) → P (with_inst_out log)
for_inst_out P log has takes =
    elim (nat_lt 0 log.installing) as (λ some. P (if some
    then record log { inst_out = true }
    else record log {
      installing = log.logged;
      inst_step = next_home log.changes log.logged 0;
      inst_out = true;
    })) [ true ↦ has | false ↦ takes ]

for_inst_made : (P : Log → Type 0) (log : Log)
    → P (record log {
      inst_step = next_home log.changes log.installing (log.inst_step + 1);
      inst_out = false;
    })
    → P (record log { inst_step = log.inst_step + 1; inst_out = false }) → P (with_installed log)
    → P (with_inst_made log)
for_inst_made P log home step end =
    elim (nat_lt log.inst_step log.installing) as (λ lower. P (if lower
    then record log { inst_step = next_home log.changes log.installing (log.inst_step + 1); inst_out = false }
    else if nat_lt log.inst_step (log.installing + 2)
    then record log { inst_step = log.inst_step + 1; inst_out = false }
    else with_installed log)) [
      | true ↦ home
      | false ↦ elim (nat_lt log.inst_step (log.installing + 2)) as (λ more. P (if more
          then record log { inst_step = log.inst_step + 1; inst_out = false }
          else with_installed log)) [ true ↦ step | false ↦ end ]
    ]

-- a side whose calls nothing touched stands as it stood
pub logger_as : (d e : Device) (log new : Log) (p : Pending) → new.log_out ≡ log.log_out
    → ((io : Io) → IsNextLogCall log io → IsNextLogCall new io)
    → (HasMadeLogCall d log → HasMadeLogCall e new) → IsLoggerAt d log p → IsLoggerAt e new p
logger_as d e log new idle same next made h = same ∙ h
logger_as d e log new (out io) same next made h = (same ∙ h.0, next io h.1)
logger_as d e log new (was_made io (Ok u)) same next made h = (same ∙ h.0, next io h.1, made h.2)
logger_as d e log new (was_made io (Err u)) same next made h = (same ∙ h.0, next io h.1)

installer_as : (d e : Device) (base : Image) (log new : Log) (p : Pending) → new.inst_out ≡ log.inst_out
    → ((io : Io) → IsNextInstCall log io → IsNextInstCall new io)
    → (HasMadeInstCall d base log → HasMadeInstCall e base new) → IsInstallerAt d base log p
    → IsInstallerAt e base new p
installer_as d e base log new idle same next made h = same ∙ h
installer_as d e base log new (out io) same next made h = (same ∙ h.0, next io h.1)
installer_as d e base log new (was_made io (Ok u)) same next made h = (same ∙ h.0, next io h.1, made h.2)
installer_as d e base log new (was_made io (Err u)) same next made h = (same ∙ h.0, next io h.1)

logger_unaffected : (d : Device) (log : Log) (p : Pending) (installing inst_step : ℕ) (inst_out broken : Bool)
    → IsLoggerAt d log p → IsLoggerAt d (with_installer_progress log installing inst_step log.log_out inst_out broken) p
logger_unaffected d log p installing inst_step inst_out broken =
    logger_as d d log (with_installer_progress log installing inst_step log.log_out inst_out broken) p refl
    (λ io. next_log_unaffected io log installing inst_step log.log_out inst_out broken)
    (log_made_unaffected d log installing inst_step log.log_out inst_out broken)

installer_aside : (d : Device) (base : Image) (log : Log) (p : Pending) (logged taken log_step : ℕ)
    (log_out broken : Bool)
    → IsInstallerAt d base log p
    → IsInstallerAt d base (aside log logged taken log_step log_out log.inst_out broken) p
installer_aside d base log p logged taken log_step log_out broken =
    installer_as d d base log (aside log logged taken log_step log_out log.inst_out broken) p refl
    (λ io. next_inst_aside io log logged taken log_step log_out log.inst_out broken)
    (inst_made_aside d base log logged taken log_step log_out log.inst_out broken)

-- a call of the logger is handed out
pub stands_log_out : (d : Device) (base : Image) (log : Log) (io : Io) (p : Pending) → IsLawful log
    → IsNextLogCall (with_log_out log) io
    → AgreesWithPending d base log idle p → AgreesWithPending d base (with_log_out log) (out io) p
stands_log_out d base log io p lawful next s = record {
  agrees = record {
    size = s.agrees.size;
    own = own_out d log lawful s.agrees.own;
    homes = homes_aside d base log log.logged (group_size log) log.log_step true log.inst_out log.broken
        s.agrees.homes;
  };
  logger = (refl, next);
  installer = installer_aside d base log p log.logged (group_size log) log.log_step true log.broken
      s.installer;
}

-- it is made
later_of : (old new : Device) (io : Io) (r : Result Unit Failed) → HasMade old io r new → OneLater old new
later_of old new io r made = go io.call made
  where
    go : (call : IoCall) → HasMadeCall old call io.content r new → OneLater old new
    go (Write block) h = h.later
    go (Barrier side) h = h.later

logger_made : (old new : Device) (log : Log) (io : Io) (r : Result Unit Failed) → IsLawful log
    → HasMade old io r new → LogAgrees old log → IsLoggerAt old log (out io)
    → IsLoggerAt new log (was_made io r)
logger_made old new log io (Ok u) lawful made h at = (at.0, at.1, log_made old new log io lawful at.1 made h)
logger_made old new log io (Err u) lawful made h at = at

pub stands_log_made : (old new : Device) (base : Image) (log : Log) (io : Io) (r : Result Unit Failed)
    (p : Pending)
    → IsLawful log → HasMade old io r new
    → AgreesWithPending old base log (out io) p → AgreesWithPending new base log (was_made io r) p
stands_log_made old new base log io r p lawful made s =
    let next = s.logger.1 in
    let spared = homes_spared old new log io r lawful next made in
    record {
      agrees = record {
        size = (later_of old new io r made).size ∙ s.agrees.size;
        own = own_called old new log io r lawful next made s.agrees.own;
        homes = homes_preserved old new base log spared s.agrees.homes;
      };
      logger = logger_made old new log io r lawful made s.agrees.own s.logger;
      installer = installer_as old new base log log p refl (λ io h. h)
          (inst_made_preserved old new base log lawful spared) s.installer;
    }

-- it is given back
log_back_made : (d : Device) (base : Image) (log : Log) (p : Pending) → IsLawful log → HasMadeLogCall d log
    → Agrees d base log → IsInstallerAt d base log p
    → AgreesWithPending d base (with_log_made log) idle p
log_back_made d base log p lawful made a at = record {
  agrees = record {
    size = for_log_made (λ (l : Log). d.size ≡ l.blocks) log a.size a.size;
    own = own_made d log lawful a.own made;
    homes = for_log_made (HomeAgrees d base) log
        (homes_aside d base log (log.logged + log.taken) 0 0 false log.inst_out log.broken a.homes)
        (homes_aside d base log log.logged log.taken (log.log_step + 1) false log.inst_out log.broken
        a.homes);
  };
  logger = for_log_made (λ (l : Log). l.log_out ≡ false) log refl refl;
  installer = for_log_made (λ (l : Log). IsInstallerAt d base l p) log
      (installer_aside d base log p (log.logged + log.taken) 0 0 false log.broken at)
      (installer_aside d base log p log.logged log.taken (log.log_step + 1) false log.broken at);
}

pub stands_log_back : (d : Device) (base : Image) (log : Log) (io : Io) (r : Result Unit Failed) (p : Pending)
    → IsLawful log
    → AgreesWithPending d base log (was_made io r) p → AgreesWithPending d base (with_log_back log (is_ok r)) idle p
stands_log_back d base log io (Ok u) p lawful s =
    log_back_made d base log p lawful s.logger.2 s.agrees s.installer
stands_log_back d base log io (Err u) p lawful s = record {
  agrees = record {
    size = s.agrees.size;
    own = own_unaffected d log log.installing log.inst_step false log.inst_out true s.agrees.own;
    homes = homes_aside d base log log.logged log.taken log.log_step false log.inst_out true s.agrees.homes;
  };
  logger = refl;
  installer = installer_aside d base log p log.logged log.taken log.log_step false true s.installer;
}

-- a call of the installer is handed out
pub stands_inst_out : (d : Device) (base : Image) (log : Log) (io : Io) (p : Pending) → IsLawful log
    → IsNextInstCall (with_inst_out log) io
    → AgreesWithPending d base log p idle → AgreesWithPending d base (with_inst_out log) p (out io)
stands_inst_out d base log io p lawful next s = record {
  agrees = record {
    size = for_inst_out (λ (l : Log). d.size ≡ l.blocks) log s.agrees.size s.agrees.size;
    own = for_inst_out (LogAgrees d) log
        (own_unaffected d log log.installing log.inst_step log.log_out true log.broken s.agrees.own)
        (own_unaffected d log log.logged (next_home log.changes log.logged 0) log.log_out true log.broken
        s.agrees.own);
    homes = homes_out d base log lawful s.agrees.homes;
  };
  logger = for_inst_out (λ (l : Log). IsLoggerAt d l p) log
      (logger_unaffected d log p log.installing log.inst_step true log.broken s.logger)
      (logger_unaffected d log p log.logged (next_home log.changes log.logged 0) true log.broken s.logger);
  installer = (for_inst_out (λ (l : Log). l.inst_out ≡ true) log refl refl, next);
}

-- it is made
installer_made : (old new : Device) (base : Image) (log : Log) (io : Io) (r : Result Unit Failed)
    → IsLawful log → HasMade old io r new → HomeAgrees old base log
    → IsInstallerAt old base log (out io) → IsInstallerAt new base log (was_made io r)
installer_made old new base log io (Ok u) lawful made h at =
    (at.0, at.1, inst_made old new base log io lawful at.1 made h)
installer_made old new base log io (Err u) lawful made h at = at

pub stands_inst_made : (old new : Device) (base : Image) (log : Log) (io : Io) (r : Result Unit Failed)
    (p : Pending)
    → IsLawful log → HasMade old io r new
    → AgreesWithPending old base log p (out io) → AgreesWithPending new base log p (was_made io r)
stands_inst_made old new base log io r p lawful made s =
    let next = s.installer.1 in
    let spared = own_spared old new log io r lawful next made in
    record {
      agrees = record {
        size = (later_of old new io r made).size ∙ s.agrees.size;
        own = own_preserved old new log spared s.agrees.own;
        homes = homes_called old new base log io r lawful next made s.agrees.homes;
      };
      logger = logger_as old new log log p refl (λ io h. h) (log_made_preserved old new log spared) s.logger;
      installer = installer_made old new base log io r lawful made s.agrees.homes s.installer;
    }

-- it is given back
inst_back_made : (d : Device) (base : Image) (log : Log) (p : Pending) → IsLawful log
    → HasMadeInstCall d base log → Agrees d base log → IsLoggerAt d log p
    → AgreesWithPending d (home_after base log true) (with_inst_made log) p idle
inst_back_made d base log p lawful made a at = record {
  agrees = record {
    size = for_inst_made (λ (l : Log). d.size ≡ l.blocks) log a.size a.size a.size;
    own = for_inst_made (LogAgrees d) log
        (own_unaffected d log log.installing (next_home log.changes log.installing (log.inst_step + 1))
        log.log_out false log.broken a.own)
        (own_unaffected d log log.installing (log.inst_step + 1) log.log_out false log.broken a.own)
        (own_installed d log lawful a.own);
    homes = homes_made d base log lawful a.homes made;
  };
  logger = for_inst_made (λ (l : Log). IsLoggerAt d l p) log
      (logger_unaffected d log p log.installing (next_home log.changes log.installing (log.inst_step + 1)) false
      log.broken at)
      (logger_unaffected d log p log.installing (log.inst_step + 1) false log.broken at)
      (logger_as d d log (with_installed log) p refl (λ io. next_log_installed d log lawful io)
      (log_made_installed d log lawful) at);
  installer = for_inst_made (λ (l : Log). l.inst_out ≡ false) log refl refl refl;
}

pub stands_inst_back : (d : Device) (base : Image) (log : Log) (io : Io) (r : Result Unit Failed)
    (p : Pending)
    → IsLawful log
    → AgreesWithPending d base log p (was_made io r)
    → AgreesWithPending d (home_after base log (is_ok r)) (with_inst_back log (is_ok r)) p idle
stands_inst_back d base log io (Ok u) p lawful s =
    inst_back_made d base log p lawful s.installer.2 s.agrees s.logger
stands_inst_back d base log io (Err u) p lawful s = record {
  agrees = record {
    size = s.agrees.size;
    own = own_unaffected d log log.installing log.inst_step log.log_out false true s.agrees.own;
    homes = homes_aside d base log log.logged log.taken log.log_step log.log_out false true s.agrees.homes;
  };
  logger = logger_unaffected d log p log.installing log.inst_step false true s.logger;
  installer = refl;
}

-- the tail is another
stands_tail : (d : Device) (base : Image) (log : Log) (places : ℕ) (changes : List LogChange) (p q : Pending)
    → IsLawful log → take (log.logged + log.taken) changes ≡ take (log.logged + log.taken) log.changes
    → AgreesWithPending d base log p q → AgreesWithPending d base (with_tail log places changes) p q
stands_tail d base log places changes p q lawful same s = record {
  agrees = record {
    size = s.agrees.size;
    own = own_appended d log places changes lawful same s.agrees.own;
    homes = homes_appended d base log places changes lawful same s.agrees.homes;
  };
  logger = logger_as d d log (with_tail log places changes) p refl
      (next_log_appended d log places changes lawful same) (log_made_appended d log places changes lawful same)
      s.logger;
  installer = installer_as d d base log (with_tail log places changes) q refl
      (next_inst_appended d base log places changes lawful same)
      (inst_made_appended d base log places changes lawful same) s.installer;
}

-- where logger and installer stand still, the tail alone may be another
still_is : (old new : Log) (group : List (BlockNo × Content)) → GrowsBy old group new → StandsStill old new
    → new ≡ with_tail old new.places new.changes
still_is old new group grown still = λ i. record {
  blocks = still.blocks i;
  start = still.start i;
  changes = new.changes;
  logged = grown.logged i;
  taken = grown.taken i;
  log_step = still.log_step i;
  log_out = still.log_out i;
  installing = grown.installing i;
  inst_step = still.inst_step i;
  inst_out = still.inst_out i;
  places = new.places;
  broken = still.broken i;
}

-- a commit is appended
pub stands_appended : (d : Device) (base : Image) (old new : Log) (group : List (BlockNo × Content))
    (p q : Pending) → IsLawful old → GrowsBy old group new → StandsStill old new
    → AgreesWithPending d base old p q → AgreesWithPending d base new p q
stands_appended d base old new group p q lawful grown still s =
    subst (λ (log : Log). AgreesWithPending d base log p q) (sym (still_is old new group grown still))
    (stands_tail d base old new.places new.changes p q lawful
    (grown.leading (old.logged + old.taken) (omega arith)) s)

pub still_with_group : (log : Log) (group : List (BlockNo × Content)) → StandsStill log (with_group log group)
still_with_group log group = record {
  blocks = refl;
  start = refl;
  log_step = refl;
  log_out = refl;
  inst_step = refl;
  inst_out = refl;
  broken = refl;
}

-- a block is read
pub stands_read : (old new : Device) (base : Image) (log : Log) (p q : Pending) → IsLawful log
    → HasRead old new → AgreesWithPending old base log p q → AgreesWithPending new base log p q
stands_read old new base log p q lawful read s =
    let preserves = λ (block : ℕ). preserves_read old new block read in
    record {
      agrees = record {
        size = read.later.size ∙ s.agrees.size;
        own = own_preserved old new log (λ block low high. preserves block) s.agrees.own;
        homes = homes_preserved old new base log (λ block outside. preserves block) s.agrees.homes;
      };
      logger = logger_as old new log log p refl (λ io h. h)
          (log_made_preserved old new log (λ block low high. preserves block)) s.logger;
      installer = installer_as old new base log log q refl (λ io h. h)
          (inst_made_preserved old new base log lawful (λ block outside. preserves block)) s.installer;
    }

-- the call that is given back is the one that is out
is_the_one : (handed : Bool) (io : Io) (beginning step : ℕ) → handed ≡ true → io.beginning ≡ beginning
    → io.step ≡ step
    → (handed && (nat_eq io.beginning beginning && nat_eq io.step step)) ≡ true
is_the_one handed io beginning step there from at =
    and_from handed (nat_eq io.beginning beginning && nat_eq io.step step) there
    (and_from (nat_eq io.beginning beginning) (nat_eq io.step step) (eq-eqb io.beginning beginning from)
    (eq-eqb io.step step at))

log_call_out : (log : Log) (io : Io) → log.log_out ≡ true → IsNextLogCall log io → is_log_out log io ≡ true
log_call_out log io at next = is_the_one log.log_out io (log_end log) log.log_step at next.beginning next.step

inst_call_out : (log : Log) (io : Io) → log.inst_out ≡ true → IsNextInstCall log io
    → is_inst_out log io ≡ true
inst_call_out log io at next = is_the_one log.inst_out io log.start log.inst_step at next.beginning next.step

-- A call that may or may not go out, with the log that it leaves.
pub log_goes_out : (io : Option Io) (old new : Log) → IsLawful old → (IsSome io → new ≡ with_log_out old)
    → IfSome io (λ x. IsNextLogCall new x)
    → IfSome io (λ x. LogCallGoesOut old x new)
log_goes_out None old new lawful some next = tt
log_goes_out (Some io) old new lawful some next = λ d base p s.
    let same = some refl in
    subst (λ (log : Log). AgreesWithPending d base log (out io) p) (sym same)
    (stands_log_out d base old io p lawful (subst (λ (log : Log). IsNextLogCall log io) same next) s)

pub inst_goes_out : (io : Option Io) (old new : Log) → IsLawful old → (IsSome io → new ≡ with_inst_out old)
    → IfSome io (λ x. IsNextInstCall new x)
    → IfSome io (λ x. InstCallGoesOut old x new)
inst_goes_out None old new lawful some next = tt
inst_goes_out (Some io) old new lawful some next = λ d base p s.
    let same = some refl in
    subst (λ (log : Log). AgreesWithPending d base log p (out io)) (sym same)
    (stands_inst_out d base old io p lawful (subst (λ (log : Log). IsNextInstCall log io) same next) s)

-- A call that is given back.
pub log_comes_back : (log : Log) (io : Io) (ok : Bool) → IsLawful log
    → LogCallComesBack log io ok (with_log_back log ok)
log_comes_back log io ok lawful d base r p same s =
    subst (λ (t : Bool). AgreesWithPending d base (with_log_back log t) idle p) same
    (stands_log_back d base log io r p lawful s)

pub inst_comes_back : (log : Log) (io : Io) (ok : Bool) → IsLawful log
    → InstCallComesBack log io ok (with_inst_back log ok)
inst_comes_back log io ok lawful d base r p same s =
    subst (λ (t : Bool). AgreesWithPending d (home_after base log t) (with_inst_back log t) p idle) same
    (stands_inst_back d base log io r p lawful s)

-- It is the one that is out, so the log takes it.
answered_log_out : (d : Device) (log : Log) (io : Io) (r : Result Unit Failed)
    → IsLoggerAt d log (was_made io r) → is_log_out log io ≡ true
answered_log_out d log io (Ok u) h = log_call_out log io h.0 h.1
answered_log_out d log io (Err u) h = log_call_out log io h.0 h.1

pub log_done : (old new : Log) (io : Io) (ok : Bool) → IsLawful old
    → new ≡ (if is_log_out old io then with_log_back old ok else old)
    → LogCallComesBack old io ok new
log_done old new io ok lawful is d base r p same s =
    let e : new ≡ with_log_back old ok =
    is ∙ ap (λ (t : Bool). if t then with_log_back old ok else old) (answered_log_out d old io r s.logger) in
    subst (λ (log : Log). AgreesWithPending d base log idle p) (sym e)
    (log_comes_back old io ok lawful d base r p same s)

answered_inst_out : (d : Device) (base : Image) (log : Log) (io : Io) (r : Result Unit Failed)
    → IsInstallerAt d base log (was_made io r) → is_inst_out log io ≡ true
answered_inst_out d base log io (Ok u) h = inst_call_out log io h.0 h.1
answered_inst_out d base log io (Err u) h = inst_call_out log io h.0 h.1

pub inst_done : (old new : Log) (io : Io) (ok : Bool) → IsLawful old
    → new ≡ (if is_inst_out old io then with_inst_back old ok else old)
    → InstCallComesBack old io ok new
inst_done old new io ok lawful is d base r p same s =
    let e : new ≡ with_inst_back old ok =
    is ∙ ap (λ (t : Bool). if t then with_inst_back old ok
    else old) (answered_inst_out d base old io r s.installer) in
    subst (λ (log : Log). AgreesWithPending d (home_after base old ok) log p idle) (sym e)
    (inst_comes_back old io ok lawful d base r p same s)

-- A commit that is appended, or refused.
pub appended : (result : Append) (old new : Log) (group : List (BlockNo × Content)) → IsLawful old
    → (result ≡ Appended → new ≡ with_group old group) → (result ≢ Appended → new ≡ old)
    → PreservesAgreement old new
appended Appended old new group lawful done refused d base p q s =
    subst (λ (log : Log). AgreesWithPending d base log p q) (sym (done refl))
    (stands_appended d base old (with_group old group) group p q lawful (grows old group lawful)
    (still_with_group old group) s)
appended Full old new group lawful done refused d base p q s =
    subst (λ (log : Log). AgreesWithPending d base log p q) (sym (refused (λ e. cc))) s
appended (NoMemory error) old new group lawful done refused d base p q s =
    subst (λ (log : Log). AgreesWithPending d base log p q) (sym (refused (λ e. cc))) s

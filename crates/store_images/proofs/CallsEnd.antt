-- A call of a side leaves the position behind the last change, and nothing of its side out.
use Rattle.std.proofs.Common.{arith, ◌≡◌, ◌∙◌, refl, sym, ap, ℕ, ◌+◌, Bool, true, false, if◌then◌else◌, nat_eq, nat_lt}
use Rattle.std.proofs.lemmas.List.{length-drop}
use Rattle.circ.specs.Log.Installer.{IsNextInstCall, is_inst_out, next_home, with_inst_back, with_inst_out}
use Rattle.circ.specs.Log.Installer.{with_installed}
use Rattle.circ.specs.Log.Io.{Io}
use Rattle.circ.specs.Log.Log.{IsLawful, Log}
use Rattle.circ.specs.Log.Logger.{IsNextLogCall, is_log_out, with_log_back, with_log_out}
use Rattle.store_images.specs.Further.{end_of}
use Rattle.store_images.proofs.CallsLeft.{given_back}
use Rattle.store_images.proofs.OutCalls.{inst_is_out, its_is_out}

-- the log ends where it did, and has out what it had
pub record EndsSo (old new : Log) : Type 0 where
  pub positions : end_of new ≡ end_of old
  pub log_out : new.log_out ≡ old.log_out
  pub inst_out : new.inst_out ≡ old.inst_out

-- ---- the logger

abbrev LogEnds : Log → Log → Type 0
LogEnds old new = (end_of new ≡ end_of old) × (new.log_out ≡ false) × (new.inst_out ≡ old.inst_out)

log_made : (log : Log) (last : Bool) → LogEnds log (if last
    then record log { logged = log.logged + log.taken; taken = 0; log_step = 0; log_out = false }
    else record log { log_step = log.log_step + 1; log_out = false })
log_made log true = (refl, refl, refl)
log_made log false = (refl, refl, refl)

log_back : (log : Log) (ok : Bool) → LogEnds log (with_log_back log ok)
log_back log true = log_made log (nat_eq log.log_step (log.taken + 2))
log_back log false = (refl, refl, refl)

pub log_ends : (log out new : Log) (io : Io) (ok : Bool) → log.log_out ≡ false → out ≡ with_log_out log
    → IsNextLogCall out io → new ≡ (if is_log_out out io then with_log_back out ok else out) → EndsSo log new
log_ends log out new io ok quiet taken next given =
    let made = given_back (is_log_out out io) (with_log_back out ok) out new
    (its_is_out out io (ap (λ (l : Log). l.log_out) taken) next) given in
    let back = log_back out ok in
    record {
      positions = ap end_of made ∙ back.0 ∙ ap end_of taken;
      log_out = ap (λ (l : Log). l.log_out) made ∙ back.1 ∙ sym quiet;
      inst_out = ap (λ (l : Log). l.inst_out) made ∙ back.2 ∙ ap (λ (l : Log). l.inst_out) taken;
    }

-- ---- the installer

inst_taken : (log : Log) (has : Bool) (out : Log) → out ≡ (if has then record log { inst_out = true } else record log {
  installing = log.logged;
  inst_step = next_home log.changes log.logged 0;
  inst_out = true;
}) → (end_of out ≡ end_of log) × (out.log_out ≡ log.log_out)
inst_taken log true out is = (ap end_of is, ap (λ (l : Log). l.log_out) is)
inst_taken log false out is = (ap end_of is, ap (λ (l : Log). l.log_out) is)

abbrev InstEnds : Log → Log → Type 0
InstEnds old new = (end_of new ≡ end_of old) × (new.inst_out ≡ false) × (new.log_out ≡ old.log_out)

installed : (log : Log) → IsLawful log → end_of (with_installed log) ≡ end_of log
installed log lawful =
    let count = length-drop log.installing log.changes in
    let few = lawful.installing in
    let within = lawful.taken_within in
    omega (arith, count, few, within)

inst_made : (log : Log) → IsLawful log → (home next : Bool) (step : ℕ) → InstEnds log (if home
    then record log { inst_step = step; inst_out = false }
    else if next then record log { inst_step = log.inst_step + 1; inst_out = false }
    else with_installed log)
inst_made log lawful true next step = (refl, refl, refl)
inst_made log lawful false true step = (refl, refl, refl)
inst_made log lawful false false step = (installed log lawful, refl, refl)

inst_back : (log : Log) → IsLawful log → (ok : Bool) → InstEnds log (with_inst_back log ok)
inst_back log lawful true =
    inst_made log lawful (nat_lt log.inst_step log.installing) (nat_lt log.inst_step (log.installing + 2))
    (next_home log.changes log.installing (log.inst_step + 1))
inst_back log lawful false = (refl, refl, refl)

pub inst_ends : (log out new : Log) (io : Io) (ok : Bool) → log.inst_out ≡ false → IsLawful out
    → out ≡ with_inst_out log → IsNextInstCall out io
    → new ≡ (if is_inst_out out io then with_inst_back out ok else out) → EndsSo log new
inst_ends log out new io ok quiet lawful taken next given =
    let made = given_back (is_inst_out out io) (with_inst_back out ok) out new (inst_is_out log out io taken next)
    given in
    let back = inst_back out lawful ok in
    let goes = inst_taken log (nat_lt 0 log.installing) out taken in
    record {
      positions = ap end_of made ∙ back.0 ∙ goes.0;
      log_out = ap (λ (l : Log). l.log_out) made ∙ back.2 ∙ goes.1;
      inst_out = ap (λ (l : Log). l.inst_out) made ∙ back.1 ∙ sym quiet;
    }

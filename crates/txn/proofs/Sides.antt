-- Lemmas: what the core keeps as a device call of a side goes out or comes back.
use Rattle.std.proofs.Common.{◌≡◌, ◌∙◌, ◌≤◌, ℕ, ◌+◌, Bool, true, false, if◌then◌else◌, List, ap, arith, nat_eq, nat_lt}
use Rattle.std.proofs.Common.{refl, subst, sym}
use Rattle.disk.specs.Crash.{Image}
use Rattle.disk.specs.declared.block.Side.{Side}
use Rattle.disk.specs.declared.block.Side.TheVariants.{Log as LogSide, Home}
use Rattle.objects.specs.Object.{ObjectBytes}
use Rattle.objects.specs.declared.present.Present.{Present}
use Rattle.txn_law.specs.Core.{CoreState, installed, past}
use Rattle.txn_law.specs.CoreLaw.{IsLawfulCore}
use Rattle.txn_law.specs.CoreWindow.{IsHomeOf, PreservesHome, PreservesReads}
use Rattle.txn_law.specs.Leaves.{Leaves, in_memory, is_fetching, taken_by}
use Rattle.txn_law.specs.WellFormed.{IsWellFormed}
use Rattle.txn_law.proofs.CoreLaws.{home_inst_done, home_inst_out, home_log_done, home_log_out, out_blocks}
use Rattle.txn_law.proofs.CoreLaws.{lawful_inst_done, lawful_inst_out, lawful_log_done, lawful_log_out}
use Rattle.txn_law.proofs.HeldReads.{reads_call, reads_installed, reads_log}
use Rattle.txn_law.proofs.Leaves.{leaves_installed}
use Rattle.txn.specs.Sides.{CoreBack, LeavesBack, LetsGo, base_back, with_call}
use Rattle.wal.specs.Sides.{is_out, with_back, with_out}
use Rattle.circ.specs.Log.Calls.{home_after}
use Rattle.circ.specs.Log.Installer.{is_inst_out, next_home, with_inst_out}
use Rattle.circ.specs.Log.Io.{Io}
use Rattle.circ.specs.Log.Log.{IsLawful, Log, installed_place}
use Rattle.circ.specs.Log.Logger.{is_log_out, with_log_back, with_log_out}

-- ---- a call goes out

pub call_blocks : (role : Side) (core : CoreState) → (with_call role core).log.blocks ≡ core.log.blocks
call_blocks LogSide core = refl
call_blocks Home core = out_blocks core.log

pub call_inodes : (role : Side) (core : CoreState) → (with_call role core).inodes ≡ core.inodes
call_inodes LogSide core = refl
call_inodes Home core = refl

pub lawful_call : (P : ℕ → ℕ → List ObjectBytes → List ObjectBytes → Type 0) (role : Side) (core : CoreState)
    → IsLawful (with_call role core).log → IsLawfulCore P core → IsLawfulCore P (with_call role core)
lawful_call P LogSide core lawful h = lawful_log_out P core lawful h
lawful_call P Home core lawful h = lawful_inst_out P core lawful h

pub home_call : (role : Side) (core : CoreState) → IsLawful core.log → PreservesHome core (with_call role core)
home_call LogSide core lawful = home_log_out core lawful
home_call Home core lawful = home_inst_out core lawful

pub reads_of_call : (role : Side) (core : CoreState) (other : ℕ) → PreservesReads core (with_call role core) other
reads_of_call LogSide core other = reads_call core (with_log_out core.log) (core.log_calls + 1) core.inst_calls other
reads_of_call Home core other = reads_call core (with_inst_out core.log) core.log_calls (core.inst_calls + 1) other

-- it installs nothing
pub call_place : (role : Side) (log : Log) → installed_place (with_out role log) ≡ installed_place log
call_place LogSide log = refl
call_place Home log = elim (nat_lt 0 log.installing) as (λ some. installed_place (if some
    then record log { inst_out = true }
    else record log {
      installing = log.logged;
      inst_step = next_home log.changes log.logged 0;
      inst_out = true;
    }) ≡ installed_place log) [
      | true ↦ refl
      | false ↦ refl
    ]

-- ---- one comes back

-- the logger installs nothing
same_place : (log : Log) (out ok : Bool)
    → installed_place (if out then with_log_back log ok else log) ≡ installed_place log
same_place log false ok = refl
same_place log true false = refl
same_place log true true = elim (nat_eq log.log_step (log.taken + 2)) as (λ last. installed_place (if last
    then record log { logged = log.logged + log.taken; taken = 0; log_step = 0; log_out = false }
    else record log { log_step = log.log_step + 1; log_out = false }) ≡ installed_place log) [
      | true ↦ refl
      | false ↦ refl
    ]

-- where nothing more is installed, nothing is let go
pub preserves_all : (role : Side) (old new : CoreState) → new ≡ record old { log = new.log }
    → (spare : Present → Bool) × (new ≡ installed spare old new.log) → LetsGo role old new
preserves_all LogSide old new same back = same
preserves_all Home old new same back = back

-- where more is, it is the installer's
pub lets_go : (role : Side) (old new : CoreState) (io : Io) (ok : Bool)
    → new.log ≡ (if is_out role old.log io then with_back role old.log ok else old.log)
    → (installed_place new.log ≤ installed_place old.log → ⊥)
    → (spare : Present → Bool) × (new ≡ installed spare old new.log) → LetsGo role old new
lets_go LogSide old new io ok log more back =
    let same : installed_place new.log ≡ installed_place old.log =
    ap installed_place log ∙ same_place old.log (is_log_out old.log io) ok in
    absurd (more (omega (arith, same)))
lets_go Home old new io ok log more back = back

pub lawful_back : (P : ℕ → ℕ → List ObjectBytes → List ObjectBytes → Type 0) (role : Side) (old new : CoreState)
    (io : Io) (ok : Bool) → LetsGo role old new
    → new.log ≡ (if is_out role old.log io then with_back role old.log ok else old.log) → IsLawful new.log
    → IsLawfulCore P old → IsLawfulCore P new
lawful_back P LogSide old new io ok back log lawful h =
    subst (λ (core : CoreState). IsLawfulCore P core)
    (sym (back ∙ ap (λ (log : Log). record old { log = log }) log))
    (lawful_log_done P old (is_log_out old.log io) ok (subst IsLawful log lawful) h)
lawful_back P Home old new io ok back log lawful h =
    subst (λ (core : CoreState). IsLawfulCore P core)
    (sym (back.1 ∙ ap (λ (log : Log). installed back.0 old log) log))
    (lawful_inst_done P back.0 old (is_inst_out old.log io) ok (subst IsLawful log lawful) h)

pub core_back : (role : Side) (old new : CoreState) → LetsGo role old new → CoreBack role old new
core_back LogSide old new back = back
core_back Home old new back =
    back.1 ∙ ap (λ (present : List Present). record old {
      log = new.log;
      records = past (installed_place new.log) old.records;
      present = present;
    }) (sym (ap (λ (core : CoreState). core.present) back.1))

pub leaves_back : (role : Side) (old new : CoreState) → LetsGo role old new → IsWellFormed old → LeavesBack role old new
leaves_back LogSide old new back well_formed = tt
leaves_back Home old new back well_formed =
    subst (λ (core : CoreState). Leaves core (taken_by old) (is_fetching old) (in_memory old)) (sym back.1)
    (leaves_installed back.0 old new.log well_formed)

pub home_back : (role : Side) (base : Image) (old new : CoreState) (io : Io) (ok : Bool) → LetsGo role old new
    → new.log ≡ (if is_out role old.log io then with_back role old.log ok else old.log) → IsLawful old.log
    → IsWellFormed old → IsHomeOf base old → IsHomeOf (base_back role base old.log io ok) new
home_back LogSide base old new io ok back log lawful well_formed h =
    subst (λ (core : CoreState). IsHomeOf base core) (sym (back ∙ ap (λ (log : Log). record old { log = log }) log))
    (home_log_done old (is_log_out old.log io) ok lawful base h)
home_back Home base old new io ok back log lawful well_formed h =
    subst (λ (core : CoreState). IsHomeOf (if is_inst_out old.log io then home_after base old.log ok else base) core)
    (sym (back.1 ∙ ap (λ (log : Log). installed back.0 old log) log))
    (home_inst_done back.0 base old (is_inst_out old.log io) ok lawful well_formed h)

pub reads_back : (role : Side) (old new : CoreState) → LetsGo role old new → (other : ℕ) → PreservesReads old new other
reads_back LogSide old new back other =
    subst (λ (core : CoreState). PreservesReads old core other) (sym back) (reads_log old new.log other)
reads_back Home old new back other =
    subst (λ (core : CoreState). PreservesReads old core other) (sym back.1) (reads_installed back.0 old new.log other)

use Rattle.std.proofs.Common.{◌≡◌, ap, refl, subst, sym, ◌∙◌, Bool, true, false, if◌then◌else◌, not, ◌&&◌}
use Rattle.std.proofs.Common.{nat_eq}
use Rattle.std.proofs.Common.{Result, Ok, Err}
use Rattle.std.proofs.lemmas.Bool.{eq-eqb}
use Rattle.disk.specs.Crash.{Image}
use Rattle.disk.specs.Device.{Device}
use Rattle.disk.specs.declared.device.Failed.{Failed}
use Rattle.circ.specs.Log.Calls.{IsInstallerAt, home_after}
use Rattle.circ.specs.Log.Calls as pending
use Rattle.circ.specs.Log.Installer.{IsNextInstCall, is_inst_out, with_inst_back, with_inst_out}
use Rattle.circ.specs.Log.Io.{Io}
use Rattle.circ.specs.Log.Log.{Log}
use Rattle.txn_law.specs.Core.{CoreState}
use Rattle.txn_law.specs.HomeRead.{IsReadable}
use Rattle.store_promise.specs.OpenSince.{IsSoundCore}
use Rattle.store_promise.proofs.OpenInstalls.{open_over}
use Rattle.store_promise.proofs.OpenSteps.{HasSameChanges, inst_out_same, same_changes, still_open}
use Rattle.store_promise.proofs.open_steps.the_installer_leaves_the_store_open.Goals as goal

not_broken : (broken rest : Bool) → (not broken && rest) ≡ true → broken ≡ false
not_broken false rest may = refl
not_broken true rest may = cc

all_three : (a b c : Bool) → a ≡ true → b ≡ true → c ≡ true → (a && (b && c)) ≡ true
all_three true true true x y z = refl
all_three false b c x y z = cc
all_three true false c x y z = cc
all_three true true false x y z = cc

-- the installer's call that was made is the one that is out
made_next : (d : Device) (base : Image) (log : Log) (io : Io) (answer : Result Unit Failed)
    → IsInstallerAt d base log (pending.was_made io answer) → (log.inst_out ≡ true) × IsNextInstCall log io
made_next d base log io (Ok done) at = (at.0, at.1)
made_next d base log io (Err failed) at = at

made_is_out : (d : Device) (base : Image) (log : Log) (io : Io) (answer : Result Unit Failed)
    → IsInstallerAt d base log (pending.was_made io answer) → is_inst_out log io ≡ true
made_is_out d base log io answer at =
    let next = made_next d base log io answer at in
    all_three log.inst_out (nat_eq io.beginning log.start) (nat_eq io.step log.inst_step) next.0
    (eq-eqb io.beginning log.start next.1.beginning) (eq-eqb io.step log.inst_step next.1.step)

pub returns-clause-taken : goal.returns-clause-taken
returns-clause-taken c = λ base d old new io logging boot first last entries since may is goes sound.
    let log_is : new.log ≡ with_inst_out old.log = ap (λ (core : CoreState). core.log) is in
    still_open base old new (record {
      log = subst (HasSameChanges old.log) (sym log_is) (inst_out_same old.log);
      inodes = ap (λ (core : CoreState). core.inodes) is;
      records = ap (λ (core : CoreState). core.records) is;
      boot = ap (λ (core : CoreState). core.boot) is;
    }) d d logging pending.idle logging (pending.out io) boot first last entries since sound
    (goes d base logging since.over.agrees)
    (subst (λ (log : Log). IsReadable d log (pending.out io)) (sym log_is)
    (c.the_installer_preserves_what_may_be_read.ensures.goes_out d old.log io (not_broken old.log.broken _ may)
    since.over.readable))

pub returns-clause-made : goal.returns-clause-made
returns-clause-made c = λ base d later core io answer logging boot first last entries since made.
    still_open base core core
    (record { log = same_changes core.log core.log refl; inodes = refl; records = refl; boot = refl })
    d later logging (pending.out io) logging (pending.was_made io answer) boot first last entries since
    (record { lawful = since.over.lawful; well_formed = since.over.well_formed; home = since.over.files.home })
    (c.a_call_of_the_installer_preserves_agreement.ensures.is_made d later io answer made base core.log logging
    since.over.lawful since.over.agrees)
    (c.the_installer_preserves_what_may_be_read.ensures.is_made d later base core.log io answer logging
    since.over.lawful made since.over.agrees since.over.readable)

pub returns-clause-given_back : goal.returns-clause-given_back
returns-clause-given_back c =
    λ base d old new io answer ok logging boot first last entries since answered is log_is back sound.
    let out = made_is_out d base old.log io answer since.over.agrees.installer in
    let is_back : new.log ≡ with_inst_back old.log ok =
    log_is ∙ ap (λ (t : Bool). if t then with_inst_back old.log ok else old.log) out in
    let home_is : (if is_inst_out old.log io then home_after base old.log ok else base) ≡ home_after
    base old.log ok =
    ap (λ (t : Bool). if t then home_after base old.log ok else base) out in
    open_over base d old new logging (pending.was_made io answer) ok boot first last entries since is_back
    (ap (λ (core : CoreState). core.records) is) (ap (λ (core : CoreState). core.inodes) is)
    (ap (λ (core : CoreState). core.boot) is)
    (subst (λ (home : Image). IsSoundCore home new) home_is sound)
    (back d base answer logging answered since.over.agrees)
    (subst (λ (log : Log). IsReadable d log pending.idle) (sym is_back)
    (subst (λ (a : Bool). IsReadable d (with_inst_back old.log a) pending.idle) answered
    (c.the_installer_preserves_what_may_be_read.ensures.comes_back d old.log io answer since.over.readable)))

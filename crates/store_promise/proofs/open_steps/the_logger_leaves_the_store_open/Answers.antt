use Rattle.std.proofs.Common.{◌≡◌, ap, refl, subst, sym, Bool, true, false, if◌then◌else◌}
use Rattle.disk.specs.Device.{Device}
use Rattle.circ.specs.Log.Log.{Log}
use Rattle.circ.specs.Log.Logger.{with_log_back, with_log_out}
use Rattle.circ.specs.Log.Logger.{is_log_out}
use Rattle.txn_law.specs.Core.{CoreState}
use Rattle.txn_law.specs.HomeRead.{IsReadable}
use Rattle.store_promise.proofs.OpenSteps.{HasSameChanges, log_given_same, log_out_same, same_changes}
use Rattle.store_promise.proofs.OpenSteps.{still_open}
use Rattle.circ.specs.Log.Calls as pending
use Rattle.store_promise.proofs.open_steps.the_logger_leaves_the_store_open.Goals as goal

readable_back : (d : Device) (log : Log) (installing : pending.Pending) (is_out ok : Bool)
    → IsReadable d log installing → IsReadable d (with_log_back log ok) installing
    → IsReadable d (if is_out then with_log_back log ok else log) installing
readable_back d log installing true ok same back = back
readable_back d log installing false ok same back = same

pub returns-clause-taken : goal.returns-clause-taken
returns-clause-taken c = λ base d old new io installing boot first last entries since is goes sound.
    let log_is : new.log ≡ with_log_out old.log = ap (λ (core : CoreState). core.log) is in
    still_open base old new (record {
      log = subst (HasSameChanges old.log) (sym log_is) (log_out_same old.log);
      inodes = ap (λ (core : CoreState). core.inodes) is;
      records = ap (λ (core : CoreState). core.records) is;
      boot = ap (λ (core : CoreState). core.boot) is;
    }) d d pending.idle installing (pending.out io) installing boot first last entries since sound
    (goes d base installing since.over.agrees)
    (subst (λ (log : Log). IsReadable d log installing) (sym log_is)
    (c.the_logger_preserves_what_may_be_read.ensures.goes_out d old.log installing since.over.readable))

pub returns-clause-made : goal.returns-clause-made
returns-clause-made c = λ base d later core io answer installing boot first last entries since made.
    still_open base core core
    (record { log = same_changes core.log core.log refl; inodes = refl; records = refl; boot = refl })
    d later (pending.out io) installing (pending.was_made io answer) installing boot first last entries since
    (record { lawful = since.over.lawful; well_formed = since.over.well_formed; home = since.over.files.home })
    (c.a_call_of_the_logger_preserves_agreement.ensures.is_made d later io answer made base core.log installing
    since.over.lawful since.over.agrees)
    (c.the_logger_preserves_what_may_be_read.ensures.is_made d later base core.log io answer installing
    since.over.lawful made since.over.agrees since.over.readable)

pub returns-clause-given_back : goal.returns-clause-given_back
returns-clause-given_back c =
    λ base d old new io answer ok installing boot first last entries since answered is log_is back sound.
    still_open base old new (record {
      log = subst (HasSameChanges old.log) (sym log_is) (log_given_same old.log (is_log_out old.log io) ok);
      inodes = ap (λ (core : CoreState). core.inodes) is;
      records = ap (λ (core : CoreState). core.records) is;
      boot = ap (λ (core : CoreState). core.boot) is;
    }) d d (pending.was_made io answer) installing pending.idle installing boot first last entries since sound
    (back d base answer installing answered since.over.agrees)
    (subst (λ (log : Log). IsReadable d log installing) (sym log_is)
    (readable_back d old.log installing (is_log_out old.log io) ok since.over.readable
    (c.the_logger_preserves_what_may_be_read.ensures.comes_back d old.log ok installing since.over.readable)))

use Rattle.std.proofs.Common.{refl}
use Rattle.store_promise.proofs.OpenSteps.{same_changes, still_open}
use Rattle.store_promise.proofs.open_steps.a_read_leaves_the_store_open.Goals as goal

pub returns : goal.returns
returns c = λ base d later core logging installing boot first last entries since read.
    still_open base core core
    (record { log = same_changes core.log core.log refl; inodes = refl; records = refl; boot = refl })
    d later logging installing logging installing boot first last entries since
    (record { lawful = since.over.lawful; well_formed = since.over.well_formed; home = since.over.files.home })
    (c.a_read_preserves_agreement.ensures d later base core.log logging installing since.over.lawful read
    since.over.agrees)
    (c.steps_keep_what_may_be_read.ensures.read d later core.log installing read since.over.readable)

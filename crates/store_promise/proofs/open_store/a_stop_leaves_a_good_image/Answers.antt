-- A crash leaves whole groups over what is at home.
use Rattle.store_promise.proofs.open_store.a_stop_leaves_a_good_image.Goals as goal

pub returns : goal.returns
returns c = λ d base core logging installing boot tree last entries image over crash.
    c.whole_groups_are_a_good_image.ensures base core boot tree last entries image over.lawful over.files
    (c.a_crash_leaves_whole_groups.ensures d base core.log image over.lawful over.agrees.agrees crash)

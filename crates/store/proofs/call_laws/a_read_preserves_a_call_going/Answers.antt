use Rattle.std.proofs.Common.{◌++◌, is_ok, option_to_list, subst, sym}
use Rattle.store.specs.Runs.AtWork.{fetches_of}
use Rattle.store.specs.Calling.{IsCalling}
use Rattle.store_workers.specs.Worker.{GoesWith}
use Rattle.store_workers.specs.declared.workers.parts.State.{State}
use Rattle.store_promise.specs.Running.{at_rest}
use Rattle.store.proofs.CallEvents.{was_read}
use Rattle.store.proofs.CallSteps.{runs_of, setting_of}
use Rattle.store.proofs.call_laws.a_read_preserves_a_call_going.Goals as goal

pub returns : goal.returns
returns c = λ o now device worker new made calling reading contents read with.
    let ok = is_ok read.answer in
    let entries = o.entries ++ option_to_list calling.entry in
    let s = setting_of calling.base now (fetches_of worker) o.first entries calling.last calling.opened in
    subst (λ (w : State). IsCalling o (record now { device = device }) w) (sym read.worker)
    (was_read o now device worker calling read.io read.content read.answer read.failure read.call.later
    c.an_open_store_preserves_its_files.ensures.call
    (c.a_worker_tells_its_read.ensures.made o.store.boot entries worker ok read.io read.content
    reading read.io_is calling.stands)
    (c.a_read_leaves_the_run_going.ensures.core ok read.io read.content worker now.core reading read.io_is
    calling.at_work (subst (λ (w : State). GoesWith w now.core) read.worker with))
    (c.a_read_leaves_the_run_going.ensures.runs s calling.base (at_rest now.device now.core) device ok read.io
    read.content worker now.boot o.first calling.last entries read.call (read.brings tt) contents
    (runs_of calling.base now (fetches_of worker) o.first entries calling.last calling.opened)))

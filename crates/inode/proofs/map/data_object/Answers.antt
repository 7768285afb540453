use Rattle.std.proofs.Common.{ap}
use Rattle.std.proofs.lemmas.Result.{IfErr-weaker, IfOk-weaker}
use Rattle.disk.specs.declared.block.BlockNo.{BlockNo}
use Rattle.inode.proofs.Placed.{content_there}
use Rattle.inode.proofs.Stops.{block_asked, block_resumable, block_suspend, both_err}
use Rattle.inode.proofs.map.data_object.Goals as goal

pub returns-clause-ok : goal.returns-clause-ok
returns-clause-ok c =
    IfOk-weaker c.object_at.result _ _ (λ object there blocks tree over.
    content_there c.args.snap.now c.args.number c.whole.result object.now.bytes blocks tree c.requires
    (ap (λ (b : BlockNo). b.0) c.whole.ensures.value.0) c.whole.ensures.value.1 c.whole.ensures.value.2 over
    (there blocks over.saw)) c.object_at.ensures.there

pub returns-clause-err : goal.returns-clause-err
returns-clause-err c =
    both_err c.object_at.result _ _ _ (λ why new e.
    block_suspend c.args.snap.now c.args.number c.whole.result why c.requires
    (ap (λ (b : BlockNo). b.0) c.whole.ensures.value.0) c.whole.ensures.value.1 c.whole.ensures.value.2 new e)
    c.object_at.ensures.err c.object_at.ensures.need

pub returns-clause-resumable : goal.returns-clause-resumable
returns-clause-resumable c =
    IfErr-weaker c.object_at.result _ _ (λ why e. block_resumable c.whole.result c.args.snap.now.asks why e) c.object_at.ensures.need

pub returns-clause-asks : goal.returns-clause-asks
returns-clause-asks c =
    IfErr-weaker c.object_at.result _ _ (λ why e.
    block_asked c.args.number c.whole.result c.args.snap.now.asks why (record {
      block = ap (λ (b : BlockNo). b.0) c.whole.ensures.value.0;
      offset = c.whole.ensures.value.1;
      len = c.whole.ensures.value.2;
    }) e) c.object_at.ensures.need

pub returns-clause-read : goal.returns-clause-read
returns-clause-read c =
    IfOk-weaker c.object_at.result _ _ (λ object read. record {
      addr = c.whole.result;
      at = record {
        block = ap (λ (b : BlockNo). b.0) c.whole.ensures.value.0;
        offset = c.whole.ensures.value.1;
        len = c.whole.ensures.value.2;
      };
      read = read;
    }) c.object_at.ensures.read

use Rattle.std.proofs.Common.{rules, ◌≡◌, ap, true}
use Rattle.disk.specs.declared.block.BlockNo.{BlockNo}
use Rattle.layout.specs.Places.{is_data}
use Rattle.layout.proofs.OnGrid.{data_within}
use Rattle.procs_inspection.proofs.Seen.{block_there, seen_of}
use Rattle.procs_inspection.proofs.blocks.read_object.Goals as goal

pub returns-in-Some-clause-read : goal.returns-in-Some-clause-read
returns-in-Some-clause-read c = λ blocks are.
    let lies : is_data c.args.snap.now.geometry c.args.number ≡ true = search rules in record {
      lies = lies;
      addr = c.whole.result;
      block = ap (λ (b : BlockNo). b.0) c.whole.ensures.value.0;
      offset = c.whole.ensures.value.1;
      len = c.whole.ensures.value.2;
      read =
          seen_of c.whole.result c.in-Some.object.now c.args.snap.now.objects.items c.in-Some.ensures.there
          c.in-Some.ensures.some;
      whole = are.whole c.args.number (data_within c.args.snap.now.geometry c.args.number lies).1;
    }

pub returns-in-Some-clause-is : goal.returns-in-Some-clause-is
returns-in-Some-clause-is c = λ blocks saw read.
    block_there c.args.snap.now blocks c.args.number c.whole.result c.in-Some.object.now
    (ap (λ (b : BlockNo). b.0) c.whole.ensures.value.0) c.whole.ensures.value.1 c.whole.ensures.value.2
    c.in-Some.ensures.there c.in-Some.ensures.some saw read.whole

use Rattle.std.proofs.Common.{◌≡◌, ◌∙◌, ap, length, subst}
use Rattle.std.specs.Prelude.{count_by}
use Rattle.std.proofs.lemmas.List.{length-replicate}
use Rattle.disk.specs.CallRecord.{is_failure}
use Rattle.disk.specs.Memory.{Blocks, Past, memory_device}
use Rattle.layout.specs.Geometry.{IsLawful}
use Rattle.sim.proofs.new_image.image.Goals as goal

pub returns-clause-made : goal.returns-clause-made
returns-clause-made c =
    let empty = c.in_ok-disk.disk in
    let left = c.in_ok-format.ensures.left tt in
    let size : (memory_device empty).size ≡ c.args.blocks =
    ap (λ (blocks : Blocks). length blocks) c.in_ok-disk.ensures.zeros ∙ length-replicate c.args.blocks _ in
    record {
      empty = empty;
      is_new = record {
        size = size;
        clock = ap (λ (past : Past). length past) c.in_ok-disk.ensures.fresh;
        failures = ap (λ (past : Past). count_by (λ e. is_failure e.1) past) c.in_ok-disk.ensures.fresh;
        rest = c.in_ok-disk.ensures.rest;
      };
      geometry = left.0;
      lawful = subst (λ n. IsLawful n c.args.inodes) size c.in_ok-format.ensures.lawful;
      blocks_are = left.1 ∙ size;
      inodes_are = left.2;
      formatted = left.3;
    }

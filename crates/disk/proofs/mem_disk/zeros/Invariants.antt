use Rattle.std.proofs.Common.{◌≡◌, [], ◌∷◌, replicate, All}
use Rattle.base.specs.declared.TheConstants.{BLOCK_BYTES}
use Rattle.disk.specs.Blocks.{AreContents}
use Rattle.disk.proofs.mem_disk.zeros.Given as goal

abbrev pub invariant-loop-made : goal.invariant-loop-made
invariant-loop-made l = record {
  zeros : l.blocks.items ≡ replicate l._made (replicate BLOCK_BYTES 0 ∷ []);
  whole : All AreContents l.blocks.items;
}

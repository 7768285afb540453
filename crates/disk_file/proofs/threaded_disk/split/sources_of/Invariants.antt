use Rattle.std.proofs.Common.{◌≡◌, All, [], length}
use Rattle.disk_file.proofs.threaded_disk.split.sources_of.Given as goal

abbrev pub invariant-loop-made : goal.invariant-loop-made
invariant-loop-made g l = record {
  count : length l.sources.items ≡ l._made;
  fresh : All (λ source. (source.blocks ≡ l.fn.blocks) × (source.traced.items ≡ [])) l.sources.items;
}

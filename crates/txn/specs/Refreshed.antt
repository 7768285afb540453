-- What is in memory once some blocks have other contents.
use Rattle.std.specs.Prelude.{List, [], ◌∷◌}
use Rattle.disk.specs.Device.{Content}
use Rattle.disk.specs.declared.block.BlockNo.{BlockNo}
use Rattle.objects.specs.Present.{renewed}
use Rattle.objects.specs.declared.present.Present.{Present}

-- the blocks in memory with these contents, one after another
abbrev pub renewed_each : List Present → List (BlockNo × Content) → List Present
renewed_each present [] = present
renewed_each present (change ∷ later) = renewed_each (renewed present change.0 change.1) later

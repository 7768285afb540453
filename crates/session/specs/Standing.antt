-- How a store stands between two messages of the stream that it serves.
use Rattle.std.specs.Prelude.{ℕ, ◌+◌}
use Rattle.disk.specs.Device.{Device}
use Rattle.nfs_spec.specs.Model.Tree.{Tree}
use Rattle.nfs_types.specs.declared.ctx.Moment.{Moment}
use Rattle.session_wire.specs.Served.{Serving, Standing}
use Rattle.store_images.specs.Further.{end_of}
use Rattle.store_images.specs.Opening.{Opened}

-- the tree of its files, what its core gives out next, and its device's clock
abbrev pub standing_of : Opened → Tree → Standing
standing_of store tree = record {
  tree = tree;
  number = store.core.begun + 1;
  places = store.core.log.places;
  positions = end_of store.core.log;
  clock = store.device.clock;
  is_broken = store.core.log.broken;
}

-- The calls of the stream are of this boot and this moment, so the calls of this device failed, and so many log
-- positions the changes took that found no room.
abbrev pub serving_of : ℕ → Moment → Device → (ℕ → ℕ) → Serving
serving_of boot moment device added = record {
  boot = boot;
  moment = moment;
  failed = device.failed;
  lost = device.lost;
  added = added;
}

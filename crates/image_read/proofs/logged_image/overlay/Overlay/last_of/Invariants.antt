use Rattle.std.proofs.Common.{◌≡◌, ◌≤◌, None, length, drop}
use Rattle.circ.specs.Log.Effects.{newest_in}
use Rattle.image_read.proofs.logged_image.overlay.Overlay.last_of.Given as goal

abbrev pub invariant-loop-i : goal.invariant-loop-i
invariant-loop-i l = record {
  end : l.i ≤ length l.self-inside.logged.items;
  none : newest_in (drop l.i l.self-inside.logged.items) l.block.0 ≡ None;
}

abbrev pub decreases-loop-i : goal.decreases-loop-i
decreases-loop-i l = l.i

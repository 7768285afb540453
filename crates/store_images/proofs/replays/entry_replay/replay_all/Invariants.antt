-- the first entries were replayed
use Rattle.std.proofs.Common.{◌≡◌, take, All}
use Rattle.nfs_spec.specs.Model.Tree.{Tree}
use Rattle.store_promise.specs.Openings.{IsLater}
use Rattle.std.proofs.Common.{ℕ}
use Rattle.store_images.specs.Replays.AtHome.{HoldsAtHome}
use Rattle.store_images.specs.Replays.Replayed.{IsOfBoot, after_entries}
use Rattle.store_images.proofs.replays.entry_replay.replay_all.Given as goal

abbrev pub invariant-entries : goal.invariant-entries
invariant-entries g l = record {
  later : IsLater (g.D.CrashDisk.device l.fn.disk) (g.D.CrashDisk.device l.disk);
  failures : (g.D.CrashDisk.device l.disk).failures ≡ (g.D.CrashDisk.device l.fn.disk).failures;
  model : g.D.CrashDisk.keeps_model l.disk → g.D.CrashDisk.keeps_model l.fn.disk;
  replayed : (tree : Tree) (boot : ℕ) → HoldsAtHome l.geometry (g.D.CrashDisk.device l.fn.disk) tree boot
      → All (IsOfBoot boot) l.entries → g.D.CrashDisk.keeps_model l.disk
      → (left : Tree) × after_entries tree (take l.entry-index l.entries) left
      × HoldsAtHome l.geometry (g.D.CrashDisk.device l.disk) left boot;
}

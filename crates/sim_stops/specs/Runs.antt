-- The runs of a script's beginnings, and what an opening makes of what they leave.
use Rattle.std.specs.Prelude.{◌≡◌, ℕ, List, [], length, Ok, Vec}
use Rattle.std.specs.declared.alloc.Global.{Global}
use Rattle.disk.specs.Memory.{memory_device}
use Rattle.disk.specs.declared.mem_disk.MemDisk.{MemDisk}
use Rattle.image_contents.specs.declared.lines.line.Line.{Line}
use Rattle.nfs_spec.specs.Model.Tree.{Tree}
use Rattle.store_promise.specs.Headline.{IsPromised}
use Rattle.store_promise.specs.Transcript.{Report, report_of}
use Rattle.store_promise.specs.declared.events.Event.{Event}
use Rattle.store_promise.specs.declared.transcript.Run.{Run}
use Rattle.sim.specs.Files.{HasSeen}
use Rattle.sim.specs.Simulated.{IsImage}
use Rattle.sim_words.specs.declared.command.TheConstants.{WORKERS}
use Rattle.sim_stops.specs.declared.script.Asked.{Asked}
use Rattle.sim_stops.specs.WantedFiles.{AreWanted}

-- the image that a script asks for was made
abbrev pub IsMade : Asked → MemDisk → Type 0
IsMade asked disk = IsImage asked.moment asked.blocks asked.inodes disk

-- a run on such an image took all of these events, and keeps the promise of a run
pub record IsRunOf (asked : Asked) (disk : MemDisk) (run_record : Run) : Type 0 where
  pub before : MemDisk
  pub made : IsMade asked before
  pub events : List Event
  pub promised : (tree : Tree) (first : ℕ) → IsPromised (Unit {0}) (memory_device before) (memory_device disk) tree
      first WORKERS events (Ok (report_of run_record))
  pub all : length run_record.steps.items ≡ length events

-- an image was opened, its files were told, and they are wanted ones
pub record HasWanted (files : List (Vec Line Global)) (least most : ℕ) (image : MemDisk) : Type 0 where
  pub opened : MemDisk
  pub seen : MemDisk
  pub report : Report
  pub found : Vec Line Global
  pub promised : (tree : Tree) (first : ℕ) → IsPromised (Unit {0}) (memory_device image) (memory_device opened) tree
      first 1 [] (Ok report)
  pub seen_files : HasSeen opened seen (Ok found)
  pub wanted : AreWanted files least most found.items

-- What the stops of a script are found to leave.
use Rattle.std.specs.Prelude.{◌≡◌, ℕ, ◌+◌, ◌-◌, ◌^◌, ◌<◌, ◌⊎◌, List, [], ◌∷◌, All, length, map, min, Vec}
use Rattle.std.specs.declared.alloc.Global.{Global}
use Rattle.disk.specs.Choice.{chosen}
use Rattle.disk.specs.Memory.{blocks_of}
use Rattle.disk.specs.declared.mem_disk.MemDisk.{MemDisk}
use Rattle.image_contents.specs.declared.lines.line.Line.{Line}
use Rattle.store_promise.specs.declared.transcript.Run.{Run}
use Rattle.sim_stops.specs.CrashChoices.{choice_of, choices_of, counts_in}
use Rattle.sim_stops.specs.Promised.{promised_of}
use Rattle.sim_stops.specs.Runs.{HasWanted, IsRunOf}
use Rattle.sim_stops.specs.declared.script.Asked.{Asked}
use Rattle.sim_stops.specs.declared.stops.TheConstants.{MOST_AT_A_STOP}
use Rattle.sim_stops.specs.declared.stops.Tried.{Tried}

-- The image that a crash leaves by a choice, behind a run of the script's first events, was opened, and had the files behind
-- a beginning of the entries that a run of these events has committed, up to the last that it answered as stable at least.
pub record IsTriedImage (asked : Asked) (files : List (Vec Line Global)) (run_record : Run) (choice : List ℕ) : Type 0 where
  pub disk : MemDisk
  pub again : Run
  pub ran : IsRunOf asked disk again
  pub image : MemDisk
  pub left : blocks_of image ≡ map (λ content. content ∷ []) (chosen choice (blocks_of disk))
  pub wanted : HasWanted files (promised_of run_record.history.items run_record.answers.items) (length run_record.history.items) image

-- so was each image of the choices at a stop, of which there are so many
pub record IsTriedStop (asked : Asked) (files : List (Vec Line Global)) (images : ℕ) : Type 0 where
  pub disk : MemDisk
  pub run_record : Run
  pub ran : IsRunOf asked disk run_record
  pub images_are : images ≡ choices_of (counts_in (blocks_of disk)) MOST_AT_A_STOP
  pub each : (number : ℕ) → number < images
      → IsTriedImage asked files run_record (choice_of MOST_AT_A_STOP (counts_in (blocks_of disk)) number)

-- the sum of these and one more and so on, up to the greatest number of 64 bits
abbrev pub total_from : ℕ → List ℕ → ℕ
total_from sum [] = sum
total_from sum (images ∷ others) = total_from (min (sum + images) (2 ^ 64 - 1)) others

-- the stops of a script were tried, of which each has so many images
pub record AreTriedStops (asked : Asked) (files : List (Vec Line Global)) (stops images : ℕ) : Type 0 where
  pub each : List ℕ
  pub are : All (IsTriedStop asked files) each
  pub stops_are : stops ≡ length each
  pub images_are : images ≡ total_from 0 each

-- so it is of the image that a script asks for, or it asks for none
abbrev pub IsTried : Tried → Type 0
IsTried tried = ((tried.stops ≡ 0) × (tried.images ≡ 0))
    ⊎ ((asked : Asked) × (files : List (Vec Line Global)) × AreTriedStops asked files tried.stops tried.images)

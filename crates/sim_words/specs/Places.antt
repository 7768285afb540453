-- Which command may stand where.
use Rattle.std.specs.Prelude.{ℕ, ◌+◌, Bool, true, false, ◌&&◌, nat_lt, nat_le, List, length, Option, Some, None, if◌then◌else◌}
use Rattle.base.specs.declared.TheConstants.{BLOCK_BYTES}
use Rattle.sim_words.specs.declared.command.Action.{Action}
use Rattle.sim_words.specs.declared.command.Action.TheVariants as act
use Rattle.sim_words.specs.declared.command.Command.{Command}
use Rattle.sim_words.specs.declared.command.Command.TheVariants as command
use Rattle.sim_words.specs.declared.script_cursor.ScriptCursor.{ScriptCursor}
use Rattle.sim_words.specs.declared.script_cursor.ScriptCursor.TheVariants.{First, Opened, Running, Stopped, FirstOfStops, OpenForStops}
use Rattle.sim_words.specs.Reading.{◌>>=◌}

-- the blocks of the image of an open store
abbrev pub open_blocks : ScriptCursor → Option ℕ
open_blocks First = None
open_blocks (Opened blocks) = Some blocks
open_blocks (Running blocks) = Some blocks
open_blocks (Stopped blocks) = None
open_blocks FirstOfStops = None
open_blocks OpenForStops = None

-- the blocks of an image that a crash left
abbrev pub stopped_blocks : ScriptCursor → Option ℕ
stopped_blocks First = None
stopped_blocks (Opened blocks) = None
stopped_blocks (Running blocks) = None
stopped_blocks (Stopped blocks) = Some blocks
stopped_blocks FirstOfStops = None
stopped_blocks OpenForStops = None

-- an image is made once
abbrev pub after_image : ScriptCursor → ℕ → Option ScriptCursor
after_image First blocks = Some (Opened blocks)
after_image (Opened had) blocks = None
after_image (Running had) blocks = None
after_image (Stopped had) blocks = None
after_image FirstOfStops blocks = Some OpenForStops
after_image OpenForStops blocks = None

-- it lets a device call fail
abbrev pub fails : Action → Bool
fails (act.Call worker xid credential call) = false
fails (act.Drive worker) = false
fails (act.Log calls) = false
fails (act.Install calls) = false
fails (act.Event event) = false
fails (act.Fail call) = true

-- something happens to an open store; no device call fails where each stop is tried
abbrev pub after_action : ScriptCursor → Action → Option ScriptCursor
after_action First action = None
after_action (Opened blocks) action = Some (Running blocks)
after_action (Running blocks) action = Some (Running blocks)
after_action (Stopped blocks) action = None
after_action FirstOfStops action = None
after_action OpenForStops action = if fails action then None else Some OpenForStops

-- files are told only of a store that was just opened
abbrev pub after_show : ScriptCursor → Option ScriptCursor
after_show First = None
after_show (Opened blocks) = Some (Running blocks)
after_show (Running blocks) = None
after_show (Stopped blocks) = None
after_show FirstOfStops = None
after_show OpenForStops = None

-- bytes from an offset on lie in a block
abbrev pub lies_in_a_block : ℕ → List ℕ → Bool
lies_in_a_block offset bytes = nat_le (offset + length bytes) BLOCK_BYTES

-- bytes may be changed within a block of the image
abbrev pub after_poke : ScriptCursor → ℕ → ℕ → List ℕ → Option ScriptCursor
after_poke script_cursor block offset bytes = stopped_blocks script_cursor
    >>= λ blocks. if nat_lt block blocks && lies_in_a_block offset bytes then Some (Stopped blocks) else None

-- The place behind a command that may stand at a place. A moment may stand at each, an image is opened again only
-- where a crash left it, and the store goes on or the device stops only where it is open. Where each stop is tried, the
-- device stops by itself: there are an image, and what happens to it without a failure.
abbrev pub after : ScriptCursor → Command → Option ScriptCursor
after script_cursor (command.Time moment) = Some script_cursor
after script_cursor (command.Image blocks inodes) = after_image script_cursor blocks
after script_cursor command.Open = stopped_blocks script_cursor >>= λ blocks. Some (Opened blocks)
after script_cursor (command.Act action) = after_action script_cursor action
after script_cursor (command.Crash choice) = open_blocks script_cursor >>= λ blocks. Some (Stopped blocks)
after script_cursor (command.Poke block offset bytes) = after_poke script_cursor block offset bytes
after script_cursor command.Show = after_show script_cursor

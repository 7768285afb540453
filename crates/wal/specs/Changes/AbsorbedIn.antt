-- How one change is laid into the changes of a log whose tail begins at an index.
use Rattle.std.specs.Prelude.{ℕ, zero, suc, if◌then◌else◌, nat_eq, List, [], ◌∷◌, ◌++◌, drop, is_some}
use Rattle.disk.specs.Device.{Content}
use Rattle.disk.specs.declared.block.BlockNo.{BlockNo}
use Rattle.circ.specs.declared.log.change.LogChange.{LogChange}
use Rattle.circ.specs.Log.Log.{changed_blocks, is_among, newest_of}

-- the changes, of which the one at an index has this content
abbrev pub replaced : List LogChange → ℕ → Content → List LogChange
replaced [] index content = []
replaced (change ∷ later) zero content = record change { content = content } ∷ later
replaced (change ∷ later) (suc index) content = change ∷ replaced later index content

-- the changes, of which the newest of a block has this content
abbrev pub renewed : List LogChange → ℕ → Content → List LogChange
renewed [] block content = []
renewed (change ∷ later) block content =
    if is_some (newest_of later block) then change ∷ renewed later block content
    else if nat_eq change.block.0 block then record change { content = content } ∷ later else change ∷ later

-- the changes with one more: in place of the content of its block in the tail, or behind all
abbrev pub absorbed_in : ℕ → ℕ → BlockNo → Content → List LogChange → List LogChange
absorbed_in preceding place block content changes =
    if is_among block (changed_blocks (drop preceding changes)) then renewed changes block.0 content
    else changes ++ record { place = place; block = block; content = content } ∷ []

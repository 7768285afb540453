-- what is known stays true, and each block so far was looked through once
use Rattle.std.proofs.Common.{◌≡◌, ◌+◌, ◌*◌, ◌≤◌, None}
use Rattle.base.specs.declared.TheConstants.{MOST_SPAN, SLOTS_PER_BLOCK}
use Rattle.dir.specs.SearchCursor.{IsSearchCursor}
use Rattle.dir.proofs.cursor.go_through.Given as goal

abbrev pub invariant-indexes : goal.invariant-indexes
invariant-indexes l =
    (IsSearchCursor l.snap l.fn.cursor → IsSearchCursor l.snap l.cursor)
    × (l.cursor.directory ≡ l.fn.cursor.directory)
    × (l.cursor.name ≡ l.fn.cursor.name)
    × (l.cursor.found ≡ None)
    × (l.cursor.blocks ≡ l.index)
    × (l.fn.cursor.blocks ≤ l.index)
    × (l.fn.cursor.blocks ≤ MOST_SPAN → l.index ≤ MOST_SPAN)
    × (l.compared + SLOTS_PER_BLOCK * l.fn.cursor.blocks ≤ l.fn.compared + SLOTS_PER_BLOCK * l.index)

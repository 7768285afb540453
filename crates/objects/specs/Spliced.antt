-- A block's bytes with those of an object in their place, and those that lie somewhere.
use Rattle.std.specs.Prelude.{ℕ, ◌+◌, List, ◌++◌, take, drop, length}

-- so many bytes from an offset on
abbrev pub extracted : List ℕ → ℕ → ℕ → List ℕ
extracted content offset len = take len (drop offset content)

-- bytes with others in the place of those from an offset on
abbrev pub spliced : List ℕ → ℕ → List ℕ → List ℕ
spliced content offset bytes = take offset content ++ bytes ++ drop (offset + length bytes) content

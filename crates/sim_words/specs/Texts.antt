-- Texts in parts: lines, and the words of a line.
use Rattle.std.specs.Prelude.{ℕ, ◌==◌, Bool, not, List, [], ◌∷◌, Option, Some, None, if◌then◌else◌}
use Rattle.std.specs.Prelude.{filter, length, slice_index}

-- what stands before the first of these bytes
unfoldable pub leading : ℕ → List ℕ → List ℕ
leading byte [] = []
leading byte (b ∷ bytes) = if b == byte then [] else b ∷ leading byte bytes

-- what is behind it, if there is one
unfoldable pub behind : ℕ → List ℕ → Option (List ℕ)
behind byte [] = None
behind byte (b ∷ bytes) = if b == byte then Some bytes else behind byte bytes

-- parts, the first of which begins with one byte more
abbrev pub longer : ℕ → List (List ℕ) → List (List ℕ)
longer b [] = (b ∷ []) ∷ []
longer b (part ∷ parts) = (b ∷ part) ∷ parts

-- what stands between these bytes: one part more than there are of them
unfoldable pub parts : ℕ → List ℕ → List (List ℕ)
parts byte [] = [] ∷ []
parts byte (b ∷ bytes) = if b == byte then [] ∷ parts byte bytes else longer b (parts byte bytes)

-- the parts of a text, if one is left
abbrev pub all_parts : ℕ → Option (List ℕ) → List (List ℕ)
all_parts byte None = []
all_parts byte (Some text) = parts byte text

-- 10 ends a line, and 32 is a blank
abbrev pub lines_of : List ℕ → List (List ℕ)
lines_of text = parts 10 text

-- the words among parts are those that aren't empty
abbrev pub words_in : List (List ℕ) → List (List ℕ)
words_in parts = filter (λ word. not (length word == 0)) parts

-- the words of a line are parted by blanks
abbrev pub words_of : List ℕ → List (List ℕ)
words_of line = words_in (parts 32 line)

-- a line that begins with 35, which is '#', is passed over
abbrev pub is_comment : List ℕ → Bool
is_comment line = slice_index line 0 == 35

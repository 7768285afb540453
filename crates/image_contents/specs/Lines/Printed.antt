-- The lines of files as texts.
use Rattle.std.specs.Prelude.{ℕ, false, List, [], ◌∷◌, ◌++◌, codes}
use Rattle.std.specs.Fmt.{decimal, digits}
use Rattle.std.specs.List.{flat_map}
use Rattle.layout.specs.declared.inode.InodeKind.{InodeKind}
use Rattle.layout.specs.declared.inode.InodeKind.TheVariants.{Directory, Link, Regular}
use Rattle.image_contents.specs.declared.lines.line.Line.{Line}

-- the word for a kind of file
abbrev pub word_of : InodeKind → List ℕ
word_of Regular = codes "file"
word_of Directory = codes "dir"
word_of Link = codes "link"

-- a word, one blank, and what comes behind them
abbrev pub spaced : List ℕ → List ℕ → List ℕ
spaced word rest = word ++ (codes " " ++ rest)

-- the line of a file: number, kind, mode by octal digits, owner, group, links, size and blocks, parted by one blank
abbrev pub line_text : Line → List ℕ
line_text line = spaced (decimal line.number)
    (spaced (word_of line.kind)
    (spaced (digits 8 false line.mode)
    (spaced (decimal line.uid)
    (spaced (decimal line.gid)
    (spaced (decimal line.nlink)
    (spaced (decimal line.size)
    (decimal line.blocks ++ 10 ∷ [])))))))

abbrev pub lines_text : List Line → List ℕ
lines_text lines = flat_map line_text lines

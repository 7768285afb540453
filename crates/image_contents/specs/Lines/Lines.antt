-- The lines of the files of a table.
use Rattle.std.specs.Prelude.{ℕ, zero, suc, List, [], ◌∷◌, ◌++◌, get_or, Option, Some, None}
use Rattle.disk.specs.Crash.{Image}
use Rattle.layout.specs.declared.geometry.Geometry.{Geometry}
use Rattle.layout.specs.declared.inode.Inode.{Inode}
use Rattle.layout.specs.declared.inode.InodeKind.{InodeKind}
use Rattle.layout.specs.declared.inode.InodeKind.TheVariants.{Directory, Link, Regular}
use Rattle.layout.specs.Decode.{IsMapped, numbers_of, span_of}
use Rattle.layout.specs.Fields.{count_of}
use Rattle.layout.specs.InodeForm.{SoundInode}
use Rattle.image_contents.specs.declared.lines.line.Line.{Line}

-- in how many blocks the bytes of a file of a kind lie
abbrev pub blocks_in : Image → InodeKind → Inode → ℕ
blocks_in content Regular inode = count_of (numbers_of content inode)
blocks_in content Directory inode = span_of inode
blocks_in content Link inode = 1

abbrev pub line_in : Image → ℕ → Inode → Line
line_in content number inode = record {
  number = number;
  kind = inode.kind;
  mode = inode.mode;
  uid = inode.uid;
  gid = inode.gid;
  nlink = inode.nlink;
  size = inode.size;
  blocks = blocks_in content inode.kind inode;
}

-- these lines, and behind them that of the file of a number, if there is one
abbrev pub with_line : Image → ℕ → Option Inode → List Line → List Line
with_line content number None lines = lines
with_line content number (Some inode) lines = lines ++ line_in content number inode ∷ []

-- the lines of the files of the numbers below a bound
unfoldable pub lines_below : Image → List (Option Inode) → ℕ → List Line
lines_below content table zero = []
lines_below content table (suc number) =
    with_line content number (get_or table number None) (lines_below content table number)

-- a regular file is sound by its inode, and the numbers of its blocks are those of data blocks
abbrev pub IsCounted : Geometry → Image → InodeKind → Inode → Type 0
IsCounted g content Regular inode = SoundInode g inode × IsMapped g content inode
IsCounted g content Directory inode = Unit {0}
IsCounted g content Link inode = Unit {0}

abbrev pub IsCountedIfAny : Geometry → Image → Option Inode → Type 0
IsCountedIfAny g content None = Unit {0}
IsCountedIfAny g content (Some inode) = IsCounted g content inode.kind inode

-- The bytes of a regular file, as the blocks of an image have them.
use Rattle.std.specs.Prelude.{ℕ, List, take}
use Rattle.disk.specs.Crash.{Image}
use Rattle.layout.specs.Decode.{bytes_of, numbers_of}
use Rattle.layout.specs.Parts.{content_in}
use Rattle.layout.specs.declared.geometry.Geometry.{Geometry}
use Rattle.layout.specs.declared.inode.Inode.{Inode}

-- the bytes of all its blocks, up to its size
abbrev pub bytes_in : Geometry → Image → Inode → List ℕ
bytes_in g blocks inode = take inode.size (bytes_of (content_in g blocks) (numbers_of (content_in g blocks) inode))

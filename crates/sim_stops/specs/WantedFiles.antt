-- The files that an image may have.
use Rattle.std.specs.Prelude.{◌≡◌, ℕ, ◌≤◌, List, Option, Some, None, Vec, option_map, slice_get}
use Rattle.std.specs.declared.alloc.Global.{Global}
use Rattle.image_contents.specs.declared.lines.line.Line.{Line}

-- the files behind so many entries
abbrev pub files_behind : List (Vec Line Global) → ℕ → Option (List Line)
files_behind files count = option_map (λ (lines : Vec Line Global). lines.items) (slice_get files count)

-- files are those behind so many entries at least and so many at most
pub record AreWanted (files : List (Vec Line Global)) (least most : ℕ) (found : List Line) : Type 0 where
  pub count : ℕ
  pub from : least ≤ count
  pub to : count ≤ most
  pub are : files_behind files count ≡ Some found

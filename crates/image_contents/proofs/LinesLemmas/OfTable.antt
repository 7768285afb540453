-- Lines, one more after another, and what comes of those of a table.
use Rattle.std.proofs.Common.{◌≡◌, ◌∙◌, ◌+◌, ℕ, sym, ap, refl, List, [], get_or, Option, None, Result, Ok, Err, add-one}
use Rattle.std.proofs.Common.{Vec, Global}
use Rattle.std.specs.Prelude.{IfOk, IsErrOf}
use Rattle.disk.specs.Crash.{Image}
use Rattle.nfs_spec.specs.Model.Tree.{Tree}
use Rattle.layout.specs.declared.inode.Inode.{Inode}
use Rattle.image_read.specs.declared.parts.fault.PartFault.{PartFault}
use Rattle.image_read.specs.declared.parts.fault.PartFault.TheVariants as part
use Rattle.image_contents.specs.declared.lines.line.Line.{Line}
use Rattle.image_contents.specs.Lines.Lines.{lines_below, with_line}
use Rattle.image_contents.specs.Lines.Shown.{AreLines, lines_of}

module _ (content : Image) (table : List (Option Inode)) where
  pub no_lines : (lines : List Line) → lines ≡ [] → lines ≡ lines_below content table 0
  unfolding lines_below
  no_lines lines none = none

  pub one_line : (other : Image) → other ≡ content → (number : ℕ) (old new : List Line)
      → old ≡ lines_below content table number → new ≡ with_line other number (get_or table number None) old
      → new ≡ lines_below content table (number + 1)
  unfolding lines_below
  one_line other same number old new before more =
      more ∙ (λ i. with_line (same i) number (get_or table number None) (before i))
      ∙ ap (lines_below content table) (sym (add-one number))

-- a table is refused for a cause
pub for_cause : (tree : Tree) (cause : PartFault) → (cause ≡ part.Range → ⊥) → AreLines tree (Err cause)
for_cause tree part.Range not = not refl
for_cause tree part.Device not = tt
for_cause tree (part.NoMemory error) not = tt

-- or its lines are those of the tree
pub as_lines : (tree : Tree) (result : Result (Vec Line Global) PartFault) (lines : List Line)
    → IfOk result (λ found. found.items ≡ lines) → lines ≡ lines_of tree → (IsErrOf result part.Range → ⊥)
    → AreLines tree result
as_lines tree (Ok found) lines are same not = are ∙ same
as_lines tree (Err part.Range) lines are same not = not refl
as_lines tree (Err part.Device) lines are same not = tt
as_lines tree (Err (part.NoMemory error)) lines are same not = tt

-- Lives of an image, and when its files came to be.
use Rattle.std.specs.Prelude.{◌≡◌, ℕ, suc, ◌+◌, ◌<◌, ◌≤◌, ◌⊎◌, cond, List, take, length, slice_get, is_some}
use Rattle.std.specs.Prelude.{Some}
use Rattle.nfs_spec.specs.Model.Entry.{Entry}
use Rattle.nfs_spec.specs.Model.Sound.{IsMadeBy}
use Rattle.nfs_spec.specs.Model.Tree.{Tree, node_at}
use Rattle.nfs_spec.specs.Procedures.After.{after}
use Rattle.nfs_spec.specs.Procedures.Histories.{IsOfOneBoot}
use Rattle.nfs_spec.specs.Procedures.Step.{step}

-- A run as far as it counts: the boot number and the tree of the image that it found, and what it had
-- committed when a crash ended it.
pub record CountedRun : Type 0 where
  pub boot : ℕ
  pub tree : Tree
  pub entries : List Entry

-- No file of the image is of a later boot, and what is committed is of the next one, each entry in a
-- transaction of its own.
pub record IsCounted (run : CountedRun) : Type 0 where
  pub made : IsMadeBy run.boot run.tree
  pub own : IsOfOneBoot (run.boot + 1) run.entries

-- The crash left the image that the next run finds: the tree after a beginning of the entries, and the boot
-- number, which is the next one where anything was committed.
pub record Leaves (run next : CountedRun) : Type 0 where
  pub boot : (next.boot ≡ run.boot) ⊎ (next.boot ≡ run.boot + 1)
  pub boot_incremented : 0 < length run.entries → next.boot ≡ run.boot + 1
  pub kept : ℕ
  pub few : kept ≤ length run.entries
  pub prefix : after run.tree (take kept run.entries) next.tree

-- A life of an image: runs, each on an image that a crash of the one before left.
pub record IsLife (life : List CountedRun) : Type 0 where
  pub each : (at : ℕ) (run : CountedRun) → slice_get life at ≡ Some run → IsCounted run
  pub left : (at : ℕ) (run next : CountedRun) → slice_get life at ≡ Some run
      → slice_get life (suc at) ≡ Some next → Leaves run next

-- When a file came to be: it was there when the life began, or the entry of this run, from 0, and of this
-- place, from 1, made it.
pub data Birth : Type 0 where
  AtStart : Birth
  ByEntry : ℕ → ℕ → Birth

-- The births in the tree behind an entry: a number that was in use has the file that it had, and what stands
-- under any other the entry made.
abbrev pub with_new : Tree → (ℕ → Birth) → Birth → ℕ → Birth
with_new tree births now number = cond (is_some (node_at tree number)) (births number) now

-- A tree of a life, behind so many entries of a run, kept or lost, with the birth of the file of each number:
-- the first image's tree, the tree behind one more entry, or the tree that a crash left to the next run.
pub data HasTree (life : List CountedRun) : ℕ → ℕ → Tree → (ℕ → Birth) → Type 0 where
  First : (run : CountedRun) → slice_get life 0 ≡ Some run → HasTree life 0 0 run.tree (λ number. AtStart)
  More : {at place : ℕ} {tree : Tree} {births : ℕ → Birth} → HasTree life at place tree births
      → (run : CountedRun) (entry : Entry) (next : Tree) → slice_get life at ≡ Some run
      → slice_get run.entries place ≡ Some entry → step tree entry.ctx entry.call entry.reply next
      → HasTree life at (suc place) next (with_new tree births (ByEntry at (suc place)))
  Crashed : {at place : ℕ} {tree : Tree} {births : ℕ → Birth} → HasTree life at place tree births
      → (next : CountedRun) → slice_get life (suc at) ≡ Some next → tree ≡ next.tree
      → HasTree life (suc at) 0 next.tree births

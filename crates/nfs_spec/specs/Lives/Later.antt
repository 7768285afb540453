-- What comes later in a life.
use Rattle.std.specs.Prelude.{◌≡◌, ℕ, suc, ◌<◌, ◌≤◌, ◌⊎◌, slice_get, List, Some}
use Rattle.nfs_spec.specs.Model.Entry.{Entry}
use Rattle.nfs_spec.specs.Model.Tree.{Tree}
use Rattle.nfs_spec.specs.Lives.Lives.{Birth, ByEntry, CountedRun, with_new}
use Rattle.nfs_spec.specs.Procedures.Step.{step}

-- behind so many entries of a run is no later than behind so many of another
abbrev pub IsUpTo : ℕ → ℕ → ℕ → ℕ → Type 0
IsUpTo at place later behind = (at < later) ⊎ ((at ≡ later) × (place ≤ behind))

-- From a tree of a life, with its births, to one that it leads to: by entries, and over the crashes that left it.
pub data Leads (life : List CountedRun) (at place : ℕ) (tree : Tree) (births : ℕ → Birth)
    : ℕ → ℕ → Tree → (ℕ → Birth) → Type 0 where
  Same : Leads life at place tree births at place tree births
  Then : {later behind : ℕ} {middle : Tree} {others : ℕ → Birth}
      → Leads life at place tree births later behind middle others → (run : CountedRun) (entry : Entry)
      (next : Tree) → slice_get life later ≡ Some run → slice_get run.entries behind ≡ Some entry
      → step middle entry.ctx entry.call entry.reply next
      → Leads life at place tree births later (suc behind) next
      (with_new middle others (ByEntry later (suc behind)))
  Over : {later behind : ℕ} {middle : Tree} {others : ℕ → Birth}
      → Leads life at place tree births later behind middle others → (next : CountedRun)
      → slice_get life (suc later) ≡ Some next → middle ≡ next.tree
      → Leads life at place tree births (suc later) 0 next.tree others

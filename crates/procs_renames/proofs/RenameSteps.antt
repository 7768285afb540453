-- RENAME as a whole, by what its handles name.
use Rattle.std.proofs.Common.{◌≡◌, ℕ, sym, ap, ◌∙◌, List, Result, Ok, Err}
use Rattle.nfs_types.specs.declared.attributes.WeakCacheData.{WeakCacheData}
use Rattle.nfs_types.specs.declared.ctx.Ctx.{Ctx}
use Rattle.nfs_types.specs.declared.status.Status.{Status}
use Rattle.nfs_spec.specs.Model.Attributes.{untold}
use Rattle.nfs_spec.specs.Model.Find.{find_file}
use Rattle.nfs_spec.specs.Model.Node.{Node}
use Rattle.nfs_spec.specs.Model.Tree.{Tree}
use Rattle.nfs_spec.specs.Procedures.FirstTests.{after_first, found_then}
use Rattle.nfs_spec.specs.Procedures.Rename.{RenameStep, rename}
use Rattle.nfs_spec.specs.Procedures.StepForms.{Effect, answer_of, change_between, tree_after}
use Rattle.procs_files.specs.Heads.{IsDone, IsNamed}
use Rattle.procs_files.specs.declared.inode_attributes.InodeAttributes.{InodeAttributes}
use Rattle.procs_renames.specs.Moves.{dentry_of}
use Rattle.procs_renames.specs.Tells.{IsChangeSince}

module _ (tree : Tree) (ctx : Ctx) (from name to new_name : List ℕ) (stands : Tree → Type 0)
    (outcome : Result (Unit {0}) Status) (file_attributes new_file_attributes : WeakCacheData) where
  abbrev goes_on : Result (ℕ × Node) Status → Result (Effect (Unit {0})) Status
  goes_on f = found_then f (λ number directory. found_then (find_file tree to) (λ other parent.
      rename tree ctx (record { number = number; directory = directory; name = name })
      (record { number = other; directory = parent; name = new_name })))

  pub no_source : (why : Status) → IsNamed tree (find_file tree from) (Err why) → outcome ≡ Err why
      → file_attributes ≡ untold → new_file_attributes ≡ untold → stands tree
      → (next : Tree) × RenameStep tree ctx from name to new_name outcome file_attributes new_file_attributes next × stands next
  no_source why named is none nothing still = (
    tree,
    record {
      answered = is ∙ ap (λ f. answer_of (goes_on f)) (sym named);
      leads = ap (λ f. tree_after tree (goes_on f)) (sym named);
      parts = none ∙ ap (change_between tree) (sym named);
      new_parts = nothing ∙ ap (λ f. change_between tree (after_first f (find_file tree to))) (sym named);
    },
    still,
  )

  module _ (source : InodeAttributes) (named : IsNamed tree (find_file tree from) (Ok source)) where
    abbrev then : Result (ℕ × Node) Status → Result (Effect (Unit {0})) Status
    then f = found_then f (λ other parent. rename tree ctx (dentry_of source named.0 name)
        (record { number = other; directory = parent; name = new_name }))

    pub no_target : (why : Status) → IsNamed tree (find_file tree to) (Err why) → outcome ≡ Err why
        → IsChangeSince tree source named.0 file_attributes → new_file_attributes ≡ untold → stands tree
        → (next : Tree) × RenameStep tree ctx from name to new_name outcome file_attributes new_file_attributes next × stands next
    no_target why other is tells nothing still = (
      tree,
      record {
        answered = is ∙ ap (λ f. answer_of (then f)) (sym other) ∙ ap (λ f. answer_of (goes_on f)) (sym named.1);
        leads = ap (λ f. tree_after tree (then f)) (sym other) ∙ ap (λ f. tree_after tree (goes_on f)) (sym named.1);
        parts = tells ∙ ap (change_between tree) (sym named.1);
        new_parts = nothing ∙ ap (change_between tree) (sym other)
            ∙ ap (λ f. change_between tree (after_first f (find_file tree to))) (sym named.1);
      },
      still,
    )

    pub both_found : (target : InodeAttributes) (other : IsNamed tree (find_file tree to) (Ok target))
        → IsDone stands tree (rename tree ctx (dentry_of source named.0 name) (dentry_of target other.0 new_name)) outcome
        → ((next : Tree) → stands next → IsChangeSince next source named.0 file_attributes)
        → ((next : Tree) → stands next → IsChangeSince next target other.0 new_file_attributes)
        → (next : Tree) × RenameStep tree ctx from name to new_name outcome file_attributes new_file_attributes next × stands next
    both_found target other done tells tells_new =
        let next = tree_after tree (rename tree ctx (dentry_of source named.0 name) (dentry_of target other.0 new_name)) in (
          next,
          record {
            answered = done.answered ∙ ap (λ f. answer_of (then f)) (sym other.1)
                ∙ ap (λ f. answer_of (goes_on f)) (sym named.1);
            leads = ap (λ f. tree_after tree (then f)) (sym other.1)
                ∙ ap (λ f. tree_after tree (goes_on f)) (sym named.1);
            parts = tells next done.leads ∙ ap (change_between next) (sym named.1);
            new_parts = tells_new next done.leads ∙ ap (change_between next) (sym other.1)
                ∙ ap (λ f. change_between next (after_first f (find_file tree to))) (sym named.1);
          },
          done.leads,
        )

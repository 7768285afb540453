-- LINK as a whole, by what its handles name.
use Rattle.std.proofs.Common.{◌≡◌, ℕ, sym, ap, ◌∙◌, List, Option, Some, None, Result, Ok, Err}
use Rattle.std.specs.Option.{option_map}
use Rattle.nfs_types.specs.declared.attributes.Attributes.{Attributes}
use Rattle.nfs_types.specs.declared.attributes.WeakCacheData.{WeakCacheData}
use Rattle.nfs_types.specs.declared.ctx.Ctx.{Ctx}
use Rattle.nfs_types.specs.declared.status.Status.{Status}
use Rattle.nfs_spec.specs.Model.Attributes.{attributes_of, before_change, untold}
use Rattle.nfs_spec.specs.Model.Find.{find_file}
use Rattle.nfs_spec.specs.Model.Node.{Node}
use Rattle.nfs_spec.specs.Model.Tree.{Tree}
use Rattle.nfs_spec.specs.Procedures.FirstTests.{after_first, found_then}
use Rattle.nfs_spec.specs.Procedures.Link.{LinkStep, link}
use Rattle.nfs_spec.specs.Procedures.StepForms.{Effect, answer_of, attributes_at, change_between, attributes_in, tree_after}
use Rattle.procs_files.specs.Heads.{IsDone, IsNamed, node_of}
use Rattle.procs_files.specs.declared.inode_attributes.InodeAttributes.{InodeAttributes}

module _ (tree : Tree) (ctx : Ctx) (file directory name : List ℕ) (stands : Tree → Type 0)
    (outcome : Result (Unit {0}) Status) (file_attributes : Option Attributes) (since : WeakCacheData) where
  abbrev goes_on : Result (ℕ × Node) Status → Result (Effect (Unit {0})) Status
  goes_on f = found_then f (λ number node. found_then (find_file tree directory) (link tree ctx name number node))

  pub no_file : (why : Status) → IsNamed tree (find_file tree file) (Err why) → outcome ≡ Err why → file_attributes ≡ None
      → since ≡ untold → stands tree
      → (next : Tree) × LinkStep tree ctx file directory name outcome file_attributes since next × stands next
  no_file why named is none nothing still = (
    tree,
    record {
      answered = is ∙ ap (λ f. answer_of (goes_on f)) (sym named);
      leads = ap (λ f. tree_after tree (goes_on f)) (sym named);
      parts = none ∙ ap (attributes_in tree) (sym named);
      directory_parts = nothing ∙ ap (λ f. change_between tree (after_first f (find_file tree directory))) (sym named);
    },
    still,
  )

  module _ (source : InodeAttributes) (named : IsNamed tree (find_file tree file) (Ok source)) where
    abbrev then : Result (ℕ × Node) Status → Result (Effect (Unit {0})) Status
    then f = found_then f (link tree ctx name source.number (node_of source named.0))

    pub no_directory : (why : Status) → IsNamed tree (find_file tree directory) (Err why) → outcome ≡ Err why
        → file_attributes ≡ Some (attributes_of source.number (node_of source named.0)) → since ≡ untold → stands tree
        → (next : Tree) × LinkStep tree ctx file directory name outcome file_attributes since next × stands next
    no_directory why other is tells nothing still = (
      tree,
      record {
        answered = is ∙ ap (λ f. answer_of (then f)) (sym other) ∙ ap (λ f. answer_of (goes_on f)) (sym named.1);
        leads = ap (λ f. tree_after tree (then f)) (sym other) ∙ ap (λ f. tree_after tree (goes_on f)) (sym named.1);
        parts = tells ∙ ap (option_map (attributes_of source.number)) (sym named.2.there)
            ∙ ap (attributes_in tree) (sym named.1);
        directory_parts = nothing ∙ ap (change_between tree) (sym other)
            ∙ ap (λ f. change_between tree (after_first f (find_file tree directory))) (sym named.1);
      },
      still,
    )

    pub both_found : (inode_attributes : InodeAttributes) (other : IsNamed tree (find_file tree directory) (Ok inode_attributes))
        → IsDone stands tree (link tree ctx name source.number (node_of source named.0) inode_attributes.number
        (node_of inode_attributes other.0)) outcome
        → ((next : Tree) → stands next → file_attributes ≡ attributes_at next source.number)
        → ((next : Tree) → stands next → since ≡ record {
          before = Some (before_change (node_of inode_attributes other.0));
          after = attributes_at next inode_attributes.number;
        })
        → (next : Tree) × LinkStep tree ctx file directory name outcome file_attributes since next × stands next
    both_found inode_attributes other done tells tells_since =
        let next = tree_after tree (link tree ctx name source.number (node_of source named.0) inode_attributes.number
        (node_of inode_attributes other.0)) in (
          next,
          record {
            answered = done.answered ∙ ap (λ f. answer_of (then f)) (sym other.1)
                ∙ ap (λ f. answer_of (goes_on f)) (sym named.1);
            leads = ap (λ f. tree_after tree (then f)) (sym other.1)
                ∙ ap (λ f. tree_after tree (goes_on f)) (sym named.1);
            parts = tells next done.leads ∙ ap (attributes_in next) (sym named.1);
            directory_parts = tells_since next done.leads ∙ ap (change_between next) (sym other.1)
                ∙ ap (λ f. change_between next (after_first f (find_file tree directory))) (sym named.1);
          },
          done.leads,
        )

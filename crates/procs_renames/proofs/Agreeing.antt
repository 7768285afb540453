-- The tests of a move look at kinds and links alone, but for what lies above and below.
use Rattle.std.proofs.Common.{◌≡◌, ℕ, sym, ap, ◌∙◌, refl, Bool, true, false, cond, not, ◌&&◌, nat_eq}
use Rattle.std.proofs.Common.{is_none, Option, Some, None}
use Rattle.nfs_spec.specs.Model.Node.{Node, Body}
use Rattle.nfs_spec.specs.Model.Tree.{Tree}
use Rattle.nfs_spec.specs.Procedures.MkDir.{is_full}
use Rattle.nfs_spec.specs.Procedures.Places.{is_found_directory, is_found_other}
use Rattle.nfs_spec.specs.Procedures.Rename.{is_other_sort}
use Rattle.nfs_spec.specs.Procedures.RmDir.{has_names, is_found_filled}
use Rattle.procs_files.specs.declared.inode_attributes.InodeAttributes.{InodeAttributes}
use Rattle.procs_files.specs.Heads.{IsFileIn, IsFound, bare, barely, node_of}
use Rattle.procs_files.proofs.KindsAgree.{kinds_agree}
use Rattle.nfs_spec.specs.Procedures.Rename.{has_no_link}

-- what would be replaced is of another sort, by the heads alone
pub sort_agrees : (tree : Tree) (file : InodeAttributes) (body : Body) (found : Option (ℕ × Node)) (replaced : Option InodeAttributes)
    → IsFileIn tree file body → IsFound tree found replaced
    → is_other_sort (bare file) (barely replaced) ≡ is_other_sort (node_of file body) found
sort_agrees tree file body found None at there =
    ap (λ b. cond b (is_found_other None) (is_found_directory None)) (sym (kinds_agree file body at.fits.kind))
    ∙ ap (is_other_sort (node_of file body)) (sym there)
sort_agrees tree file body found (Some other) at there =
    (λ i. cond (sym (kinds_agree file body at.fits.kind) i)
    (not (sym (kinds_agree other there.0 there.2.fits.kind) i))
    (sym (kinds_agree other there.0 there.2.fits.kind) i))
    ∙ ap (is_other_sort (node_of file body)) (sym there.1)

-- the new parent has no link for it, by the heads alone
pub link_agrees : (tree : Tree) (source : ℕ) (file target : InodeAttributes) (body goal : Body) (found : Option (ℕ × Node))
    (replaced : Option InodeAttributes) → IsFileIn tree file body → IsFound tree found replaced
    → has_no_link (bare file) source (target.number, bare target) (barely replaced)
    ≡ has_no_link (node_of file body) source (target.number, node_of target goal) found
link_agrees tree source file target body goal found replaced at there =
    (λ i. sym (kinds_agree file body at.fits.kind) i && none replaced there i
    && not (nat_eq source target.number) && is_full (node_of target goal))
  where
    none : (replaced : Option InodeAttributes) → IsFound tree found replaced → is_none (barely replaced) ≡ is_none found
    none None there = ap is_none (sym there)
    none (Some other) there = ap is_none (sym there.1)

-- some name lies in it, by the head alone
pub filled_agrees : (tree : Tree) (found : Option (ℕ × Node)) (file : InodeAttributes) (there : IsFound tree found (Some file))
    (empty : Bool) → empty ≡ not (has_names there.0) → not empty ≡ is_found_filled found
filled_agrees tree found file there empty is =
    ap not is ∙ twice (has_names there.0) ∙ ap is_found_filled (sym there.1)
  where
    twice : (b : Bool) → not (not b) ≡ b
    twice true = refl
    twice false = refl

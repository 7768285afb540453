-- The tests of two places, by what is known of their files without what is in them.
use Rattle.std.proofs.Common.{◌≡◌, ℕ, sym, ap, ◌∙◌, refl, Bool, true, false, cond, not, ◌||◌, List, [], ◌∷◌, ◌++◌}
use Rattle.std.proofs.Common.{is_none, Option, Some, None}
use Rattle.nfs_types.specs.declared.ctx.Credential.{Credential}
use Rattle.nfs_types.specs.declared.status.Status.{Status}
use Rattle.nfs_types.specs.declared.status.Status.TheVariants as status
use Rattle.nfs_spec.specs.Model.Node.{Node, Body}
use Rattle.nfs_spec.specs.Model.SetAttr.{first_of_tests}
use Rattle.nfs_spec.specs.Model.Tree.{Tree}
use Rattle.nfs_spec.specs.Procedures.FirstTests.{is_long, is_no_name, may_change}
use Rattle.nfs_spec.specs.Procedures.Places.{is_own_name}
use Rattle.nfs_spec.specs.Procedures.Rename.{file_in, places_refusal}
use Rattle.procs_files.specs.declared.inode_attributes.InodeAttributes.{InodeAttributes}
use Rattle.procs_files.specs.Heads.{IsFileIn, IsFound, bare, barely, first_of, node_of}
use Rattle.procs_files.proofs.KindsAgree.{kinds_agree}
use Rattle.procs_renames.specs.Moves.{dentry_of}
use Rattle.nfs_spec.specs.Procedures.Rename.{path_tests, right_tests}

joined_one : (b : Bool) (why : Status) (rest other : List (Bool × Status))
    → first_of_tests (rest ++ other) ≡ first_of (first_of_tests rest) (first_of_tests other)
    → cond b (Some why) (first_of_tests (rest ++ other))
    ≡ first_of (cond b (Some why) (first_of_tests rest)) (first_of_tests other)
joined_one true why rest other same = refl
joined_one false why rest other same = same

joined : (tests other : List (Bool × Status))
    → first_of_tests (tests ++ other) ≡ first_of (first_of_tests tests) (first_of_tests other)
joined [] other = refl
joined (test ∷ tests) other = joined_one test.0 test.1 tests other (joined tests other)

none_agrees : (tree : Tree) (file : Option (ℕ × Node)) (found : Option InodeAttributes) → IsFound tree file found
    → is_none (barely found) ≡ is_none file
none_agrees tree file None there = ap is_none (sym there)
none_agrees tree file (Some inode_attributes) there = ap is_none (sym there.1)

module _ (tree : Tree) (caller : Credential) (source target : InodeAttributes) (body other : Body) (name new_name : List ℕ)
    (found : Option InodeAttributes) (at : IsFileIn tree source body) (target_at : IsFileIn tree target other)
    (there : IsFound tree (file_in tree (dentry_of source body name)) found) where
  abbrev known : Option Status
  known = first_of (first_of_tests (path_tests (bare source) name (bare target) new_name))
      (first_of_tests (right_tests caller (bare source) name (bare target) new_name (barely found)))

  pub places_agree : known ≡ places_refusal tree caller (dentry_of source body name) (dentry_of target other new_name)
  places_agree =
      (λ i. first_of
      (first_of_tests (
      (not (sym (kinds_agree source body at.fits.kind) i), status.NotDir)
      ∷ (not (sym (kinds_agree target other target_at.fits.kind) i), status.NotDir)
      ∷ (is_no_name name, status.Acces)
      ∷ (is_long name, status.NameTooLong)
      ∷ (is_no_name new_name, status.Acces)
      ∷ (is_long new_name, status.NameTooLong)
      ∷ []
      ))
      (first_of_tests (
      (not (may_change caller (bare source)), status.Acces)
      ∷ (not (may_change caller (bare target)), status.Acces)
      ∷ (is_own_name name || is_own_name new_name, status.Inval)
      ∷ (none_agrees tree (file_in tree (dentry_of source body name)) found there i, status.NoEnt)
      ∷ []
      )))
      ∙ sym (joined (path_tests (node_of source body) name (node_of target other) new_name)
      (right_tests caller (node_of source body) name (node_of target other) new_name
      (file_in tree (dentry_of source body name))))

-- a call that no test refuses has a file
pub some_there : (first : Option Status) (a b c : Bool) (x y z w : Status)
    → first_of first (cond a (Some x) (cond b (Some y) (cond c (Some z) (cond true (Some w) None)))) ≡ None → ⊥
some_there (Some why) a b c x y z w e = cc
some_there None true b c x y z w e = cc
some_there None false true c x y z w e = cc
some_there None false false true x y z w e = cc
some_there None false false false x y z w e = cc

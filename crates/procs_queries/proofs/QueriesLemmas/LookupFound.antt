-- What LOOKUP answers in a directory that was found, by its tests and by what it finds.
use Rattle.std.proofs.Common.{◌≡◌, ℕ, sym, ap, ◌∙◌, subst, cond, false, List, Option, Some, None, Ok, Err}
use Rattle.std.specs.Option.{option_map, ok_or}
use Rattle.nfs_types.specs.declared.ctx.Credential.{Credential}
use Rattle.nfs_types.specs.declared.reply.LookupResult.{LookupResult}
use Rattle.nfs_types.specs.declared.status.Status.{Status}
use Rattle.nfs_types.specs.declared.status.Status.TheVariants as status
use Rattle.nfs_spec.specs.Model.Names.{parent_of}
use Rattle.nfs_spec.specs.Model.Node.{Node, Body}
use Rattle.nfs_spec.specs.Model.SetAttr.{first_of_tests}
use Rattle.nfs_spec.specs.Model.Tree.{Tree}
use Rattle.nfs_spec.specs.Procedures.FirstTests.{may_search, dentry_tests, unless}
use Rattle.nfs_spec.specs.Procedures.Lookup.{found_under, lookup_name, lookup_result}
use Rattle.nfs_spec.specs.Procedures.Places.{file_at, is_itself, is_parent, named_file}
use Rattle.procs_files.specs.declared.inode_attributes.InodeAttributes.{InodeAttributes}
use Rattle.procs_files.specs.Heads.{IsFileIn, IsFound, bare, node_of}
use Rattle.procs_files.proofs.KindsAgree.{places_agree}

module _ (tree : Tree) (caller : Credential) (name : List ℕ) (inode_attributes : InodeAttributes) (body : Body)
    (at : IsFileIn tree inode_attributes body) (test : Option Status)
    (tested : test ≡ first_of_tests (dentry_tests (may_search caller (bare inode_attributes)) (bare inode_attributes) name)) where
  tested_is : test ≡ first_of_tests (dentry_tests (may_search caller (node_of inode_attributes body)) (node_of inode_attributes body) name)
  tested_is = tested ∙ places_agree (may_search caller (bare inode_attributes)) inode_attributes body name at.fits.kind

  pub missing : test ≡ None → IsFound tree (found_under tree inode_attributes.number (node_of inode_attributes body) name) None
      → Err status.NoEnt ≡ lookup_name tree caller name inode_attributes.number (node_of inode_attributes body)
  missing is none =
      ap (λ f. unless None (ok_or (option_map lookup_result f) status.NoEnt)) (sym none)
      ∙ ap (λ t. unless t (ok_or (option_map lookup_result (found_under tree inode_attributes.number (node_of inode_attributes body) name))
      status.NoEnt)) (sym is ∙ tested_is)

  pub lookup_found : test ≡ None → (found : InodeAttributes)
      → IsFound tree (found_under tree inode_attributes.number (node_of inode_attributes body) name) (Some found)
      → (answer : LookupResult) → ((body : Body) → IsFileIn tree found body
      → answer ≡ lookup_result (found.number, node_of found body))
      → Ok answer ≡ lookup_name tree caller name inode_attributes.number (node_of inode_attributes body)
  lookup_found is found there answer proven =
      ap Ok (proven there.0 there.2)
      ∙ ap (λ f. unless None (ok_or (option_map lookup_result f) status.NoEnt)) (sym there.1)
      ∙ ap (λ t. unless t (ok_or (option_map lookup_result (found_under tree inode_attributes.number (node_of inode_attributes body) name))
      status.NoEnt)) (sym is ∙ tested_is)

-- a name that isn't a directory's own
pub under_other : (tree : Tree) (number : ℕ) (node : Node) (name : List ℕ) (found : Option InodeAttributes)
    → is_itself name ≡ false → is_parent name ≡ false → IsFound tree (named_file tree node name) found
    → IsFound tree (found_under tree number node name) found
under_other tree number node name found first second there =
    subst (λ f. IsFound tree f found)
    (sym (ap (λ b. cond b (Some (number, node))
    (cond (is_parent name) (file_at tree (parent_of node.body)) (named_file tree node name))) first
    ∙ ap (λ b. cond b (file_at tree (parent_of node.body)) (named_file tree node name)) second)) there

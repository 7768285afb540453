-- What the steps of all procedures do to a tree: one of seven deeds, each with what the tests before it showed.
use Rattle.std.proofs.Common.{◌≡◌, ℕ, ◌≤◌, ap, subst, refl, Bool, true, false, cond}
use Rattle.std.proofs.Common.{List, []}
use Rattle.std.proofs.Common.{nat_eq, Option, Some, None}
use Rattle.std.specs.Option.{option_and_then, option_map}
use Rattle.base.specs.declared.TheConstants.{MODE_BITS}
use Rattle.nfs_types.specs.Fits.{AreBytes, NewAttributesFit}
use Rattle.nfs_types.specs.declared.attributes.NewAttributes.{NewAttributes}
use Rattle.nfs_types.specs.declared.ctx.Ctx.{Ctx}
use Rattle.nfs_types.specs.declared.ctx.Moment.{Moment}
use Rattle.nfs_types.specs.declared.status.Status.{Status}
use Rattle.nfs_types.specs.declared.verifier.Verifier.{Verifier}
use Rattle.nfs_spec.specs.Model.Names.{entries_of, is_directory, parent_of}
use Rattle.nfs_spec.specs.Model.Node.{Node, Body, DirentValue}
use Rattle.nfs_spec.specs.Model.SetAttr.{given, refusal}
use Rattle.nfs_spec.specs.Model.SetAttr.{with_attributes}
use Rattle.nfs_spec.specs.Model.Sound.{SoundBody, SoundVerifier}
use Rattle.nfs_spec.specs.Model.Tree.{Tree, node_at, with_node}
use Rattle.nfs_spec.specs.Procedures.Changes.{lacks_space, without_name}
use Rattle.nfs_spec.specs.Procedures.FirstTests.{is_long, is_no_name}
use Rattle.nfs_spec.specs.Procedures.Fresh.{IsUnused, fresh, made}
use Rattle.nfs_spec.specs.Procedures.Fresh.{with_new}
use Rattle.nfs_spec.specs.Procedures.Link.{with_link}
use Rattle.nfs_spec.specs.Procedures.MkDir.{is_full}
use Rattle.nfs_spec.specs.Procedures.Places.{dirent_at, file_at, is_own_name}
use Rattle.nfs_spec.specs.Procedures.Places.{least_free_slot, named_file}
use Rattle.nfs_spec.specs.Procedures.Rename.{Dentry, file_in, move_refusal, new_slot}
use Rattle.nfs_spec.specs.Procedures.Rename.{with_moved}
use Rattle.nfs_spec.specs.Procedures.RmDir.{has_names}
use Rattle.nfs_spec.specs.Procedures.Write.{write_refusal, written}

-- a name that passed its tests, in a directory
pub record Placed (directory : Node) (name : List ℕ) : Type 0 where
  pub directory_is : is_directory directory.body ≡ true
  pub lawful : is_no_name name ≡ false
  pub short : is_long name ≡ false
  pub not_own : is_own_name name ≡ false

module _ (tree : Tree) (ctx : Ctx) (fits : Type 0) (next : Tree) where
  -- attributes of a file are set
  pub record Sets : Type 0 where
    pub number : ℕ
    pub node : Node
    pub wanted : NewAttributes
    pub guard : Option Moment
    pub stands : node_at tree number ≡ Some node
    pub tested : refusal ctx wanted guard node ≡ None
    pub leads : next ≡ with_node tree number (with_attributes ctx.moment wanted node)
    pub bounds : fits → NewAttributesFit wanted

  -- bytes are written
  pub record Writes : Type 0 where
    pub number : ℕ
    pub node : Node
    pub offset : ℕ
    pub count : ℕ
    pub text : List ℕ
    pub stands : node_at tree number ≡ Some node
    pub tested : write_refusal ctx.credential offset count text node ≡ None
    pub leads : next ≡ with_node tree number (written ctx.moment offset text node)
    pub has_space : lacks_space tree next ≡ false
    pub bounds : fits → AreBytes text

  -- a new file gets a number and a name
  pub record Makes : Type 0 where
    pub at : ℕ
    pub directory : Node
    pub name : List ℕ
    pub wanted : NewAttributes
    pub mode : ℕ
    pub verifier : Option Verifier
    pub body : Body
    pub dirent : DirentValue
    pub stands : node_at tree at ≡ Some directory
    pub placed : Placed directory name
    pub absent : named_file tree directory name ≡ None
    pub unused : IsUnused tree dirent.number
    pub slot : least_free_slot directory.body ≡ Some dirent.slot
    pub tested : refusal ctx wanted None (fresh ctx mode verifier body) ≡ None
    pub leads : next ≡ (with_new tree ctx at name (made ctx wanted (fresh ctx mode verifier body)) dirent).next
    pub has_space : lacks_space tree next ≡ false
    pub mode_bits : mode ≤ MODE_BITS
    pub empty : entries_of body ≡ []
    pub parent : is_directory body ≡ true → parent_of body ≡ at
    pub not_full : is_directory body ≡ true → is_full directory ≡ false
    pub name_bounds : fits → AreBytes name
    pub bounds : fits → NewAttributesFit wanted
    pub verifier_bounds : fits → SoundVerifier body verifier
    pub body_bounds : fits → SoundBody body

  -- a file gets one more name
  pub record Links : Type 0 where
    pub number : ℕ
    pub node : Node
    pub at : ℕ
    pub directory : Node
    pub name : List ℕ
    pub dirent : DirentValue
    pub file_stands : node_at tree number ≡ Some node
    pub stands : node_at tree at ≡ Some directory
    pub placed : Placed directory name
    pub absent : named_file tree directory name ≡ None
    pub no_directory : is_directory node.body ≡ false
    pub not_full : is_full node ≡ false
    pub number_is : dirent.number ≡ number
    pub slot : least_free_slot directory.body ≡ Some dirent.slot
    pub leads : next ≡ (with_link tree ctx.moment name number node at dirent).next
    pub has_space : lacks_space tree next ≡ false
    pub name_bounds : fits → AreBytes name

  -- a name is removed
  pub record Removes : Type 0 where
    pub at : ℕ
    pub directory : Node
    pub name : List ℕ
    pub file : ℕ × Node
    pub stands : node_at tree at ≡ Some directory
    pub found : named_file tree directory name ≡ Some file
    pub empty : is_directory file.1.body ≡ true → has_names file.1.body ≡ false
    pub leads : next ≡ without_name tree ctx.moment at name (Some file)

  -- a file gets another name
  pub record Renames : Type 0 where
    pub source : Dentry
    pub target : Dentry
    pub file : ℕ × Node
    pub dirent : DirentValue
    pub source_stands : node_at tree source.number ≡ Some source.directory
    pub target_stands : node_at tree target.number ≡ Some target.directory
    pub placed : Placed target.directory target.name
    pub found : file_in tree source ≡ Some file
    pub apart : given (file_in tree target) (λ other. nat_eq other.0 file.0) ≡ false
    pub tested : move_refusal tree file.0 file.1 source target (file_in tree target) ≡ None
    pub number_is : dirent.number ≡ file.0
    pub slot : new_slot source target ≡ Some dirent.slot
    pub leads : next
        ≡ (with_moved tree ctx.moment file.0 file.1 source target (file_in tree target) dirent).next
    pub has_space : lacks_space tree next ≡ false
    pub name_bounds : fits → AreBytes target.name

-- what a step does
pub data TreeChange (tree : Tree) (ctx : Ctx) (fits : Type 0) (next : Tree) : Type 0 where
  leaves : next ≡ tree → TreeChange tree ctx fits next
  sets : Sets tree ctx fits next → TreeChange tree ctx fits next
  writes : Writes tree ctx fits next → TreeChange tree ctx fits next
  makes : Makes tree ctx fits next → TreeChange tree ctx fits next
  links : Links tree ctx fits next → TreeChange tree ctx fits next
  removes : Removes tree ctx fits next → TreeChange tree ctx fits next
  renames : Renames tree ctx fits next → TreeChange tree ctx fits next

-- a test that didn't refuse
pub passed : (test : Bool) (s : Status) (tests : Option Status) → cond test (Some s) tests ≡ None
    → (test ≡ false) × (tests ≡ None)
passed true s tests e = cc
passed false s tests e = (refl, e)

-- the file that a name leads to, by its entry
pub record NamedBy (tree : Tree) (body : Body) (name : List ℕ) (file : ℕ × Node) : Type 0 where
  pub dirent : DirentValue
  pub dirent_is : dirent_at body name ≡ Some dirent
  pub number_is : dirent.number ≡ file.0
  pub stands : node_at tree file.0 ≡ Some file.1

by_number : (tree : Tree) (body : Body) (name : List ℕ) (file : ℕ × Node) (dirent : DirentValue)
    (at : Option Node) → dirent_at body name ≡ Some dirent → node_at tree dirent.number ≡ at
    → option_map (λ node. (dirent.number, node)) at ≡ Some file → NamedBy tree body name file
by_number tree body name file dirent None is stands e = cc
by_number tree body name file dirent (Some node) is stands e =
    let one : ◌≡◌ {A = ℕ × Node} (dirent.number, node) file = cc in
    record {
      dirent = dirent;
      dirent_is = is;
      number_is = ap (λ f. f.0) one;
      stands = subst (λ f. node_at tree f.0 ≡ Some f.1) one stands;
    }

by_dirent : (tree : Tree) (body : Body) (name : List ℕ) (file : ℕ × Node) (dirent : Option DirentValue)
    → dirent_at body name ≡ dirent → option_and_then (λ e. file_at tree e.number) dirent ≡ Some file
    → NamedBy tree body name file
by_dirent tree body name file None is e = cc
by_dirent tree body name file (Some dirent) is e =
    by_number tree body name file dirent (node_at tree dirent.number) is refl e

pub named_is : (tree : Tree) (directory : Node) (name : List ℕ) (file : ℕ × Node)
    → named_file tree directory name ≡ Some file → NamedBy tree directory.body name file
named_is tree directory name file e =
    by_dirent tree directory.body name file (dirent_at directory.body name) refl e

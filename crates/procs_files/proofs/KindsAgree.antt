-- The tests of a file look at its kind alone, and not at what is in it.
use Rattle.std.proofs.Common.{◌≡◌, ℕ, sym, ap, ◌∙◌, refl, Bool, not, List, [], ◌∷◌}
use Rattle.nfs_types.specs.declared.attributes.FileKind.{FileKind}
use Rattle.nfs_types.specs.declared.attributes.FileKind.TheVariants as kinds
use Rattle.nfs_types.specs.declared.status.Status.TheVariants as status
use Rattle.nfs_spec.specs.Model.Attributes.{kind_of}
use Rattle.nfs_spec.specs.Model.Names.{is_directory}
use Rattle.nfs_spec.specs.Model.Node.{Body, Regular, Directory, Link}
use Rattle.nfs_spec.specs.Model.SetAttr.{first_of_tests, is_regular}
use Rattle.nfs_spec.specs.Procedures.FirstTests.{is_long, is_no_name, dentry_tests}
use Rattle.procs_files.specs.declared.inode_attributes.InodeAttributes.{InodeAttributes}
use Rattle.procs_files.specs.Heads.{bare, is_kind_directory, is_kind_regular, node_of, shell}

-- a file is a directory by its kind
pub kinds_agree : (inode_attributes : InodeAttributes) (body : Body) → kind_of body ≡ inode_attributes.kind
    → is_directory body ≡ is_directory (shell inode_attributes)
kinds_agree inode_attributes body is = of_body body ∙ ap is_kind_directory is ∙ sym (of_kind inode_attributes.kind)
  where
    of_body : (body : Body) → is_directory body ≡ is_kind_directory (kind_of body)
    of_body (Regular bytes mapped) = refl
    of_body (Directory named span parent) = refl
    of_body (Link target) = refl

    of_kind : (kind : FileKind) → is_directory (shell (record inode_attributes { kind = kind })) ≡ is_kind_directory kind
    of_kind kinds.Regular = refl
    of_kind kinds.Directory = refl
    of_kind kinds.BlockDevice = refl
    of_kind kinds.CharacterDevice = refl
    of_kind kinds.Link = refl
    of_kind kinds.Socket = refl
    of_kind kinds.Fifo = refl

-- the tests of a place look at the directory's kind alone
pub places_agree : (allowed : Bool) (inode_attributes : InodeAttributes) (body : Body) (name : List ℕ) → kind_of body ≡ inode_attributes.kind
    → first_of_tests (dentry_tests allowed (bare inode_attributes) name)
    ≡ first_of_tests (dentry_tests allowed (node_of inode_attributes body) name)
places_agree allowed inode_attributes body name is =
    ap (λ b. first_of_tests ((not b, status.NotDir)
    ∷ (is_no_name name, status.Acces)
    ∷ (is_long name, status.NameTooLong)
    ∷ (not allowed, status.Acces)
    ∷ [])) (sym (kinds_agree inode_attributes body is))

-- so is a regular file
pub regular_agrees : (inode_attributes : InodeAttributes) (body : Body) → kind_of body ≡ inode_attributes.kind
    → is_regular body ≡ is_regular (shell inode_attributes)
regular_agrees inode_attributes body is = of_body body ∙ ap is_kind_regular is ∙ sym (of_kind inode_attributes.kind)
  where
    of_body : (body : Body) → is_regular body ≡ is_kind_regular (kind_of body)
    of_body (Regular bytes mapped) = refl
    of_body (Directory named span parent) = refl
    of_body (Link target) = refl

    of_kind : (kind : FileKind) → is_regular (shell (record inode_attributes { kind = kind })) ≡ is_kind_regular kind
    of_kind kinds.Regular = refl
    of_kind kinds.Directory = refl
    of_kind kinds.BlockDevice = refl
    of_kind kinds.CharacterDevice = refl
    of_kind kinds.Link = refl
    of_kind kinds.Socket = refl
    of_kind kinds.Fifo = refl

-- The head of a file of a sound tree is one that a file may have.
use Rattle.std.proofs.Common.{◌≡◌, ℕ, ◌<◌, sym, ap, subst, ◌∙◌, refl, arith, Bool, true, false, inl, inr}
use Rattle.std.proofs.Common.{Option, Some}
use Rattle.base.specs.declared.TheConstants.{ROOT}
use Rattle.nfs_types.specs.declared.attributes.FileKind.{FileKind}
use Rattle.nfs_types.specs.declared.verifier.Verifier.{Verifier}
use Rattle.nfs_spec.specs.Model.Attributes.{kind_of}
use Rattle.nfs_spec.specs.Model.Names.{is_directory, parent_of}
use Rattle.nfs_spec.specs.Model.Node.{Body, Regular, Directory, Link}
use Rattle.nfs_spec.specs.Model.Sound.{Sound, SoundAt, SoundVerifier}
use Rattle.nfs_spec.specs.Model.Tree.{Tree, node_at}
use Rattle.nfs_spec.proofs.ProceduresLemmas.Lacking.{equal_or_not}
use Rattle.procs_files.specs.declared.inode_attributes.InodeAttributes.{InodeAttributes}
use Rattle.procs_files.specs.Writable.{SoundInodeAttributes, headed}
use Rattle.procs_files.specs.Heads.{IsBodyOf, is_kind_directory, node_of, shell}

-- a file's verifier depends on its kind alone
of_shell : (inode_attributes : InodeAttributes) (body : Body) (verifier : Option Verifier) → kind_of body ≡ inode_attributes.kind
    → SoundVerifier body verifier → SoundVerifier (shell inode_attributes) verifier
of_shell inode_attributes (Regular bytes mapped) verifier is sound =
    subst (λ k. SoundVerifier (shell (record inode_attributes { kind = k })) verifier) is sound
of_shell inode_attributes (Directory named span parent) verifier is sound =
    subst (λ k. SoundVerifier (shell (record inode_attributes { kind = k })) verifier) is sound
of_shell inode_attributes (Link target) verifier is sound =
    subst (λ k. SoundVerifier (shell (record inode_attributes { kind = k })) verifier) is sound

pub is_kind : (kind : FileKind) (body : Body) → kind_of body ≡ kind → is_kind_directory kind ≡ is_directory body
is_kind kind (Regular bytes mapped) is = ap is_kind_directory (sym is)
is_kind kind (Directory named span parent) is = ap is_kind_directory (sym is)
is_kind kind (Link target) is = ap is_kind_directory (sym is)

pub sound_inode_attributes : (tree : Tree) (inode_attributes : InodeAttributes) (body : Body) → Sound tree
    → node_at tree inode_attributes.number ≡ Some (node_of inode_attributes body) → IsBodyOf inode_attributes body
    → SoundInodeAttributes tree.geometry.inodes inode_attributes
sound_inode_attributes tree inode_attributes body sound there fits =
    let at = sound.files inode_attributes.number (node_of inode_attributes body) there in
    record {
      mode = at.itself.mode;
      uid = at.itself.uid;
      gid = at.itself.gid;
      linked = elim (equal_or_not inode_attributes.nlink 0) [
        | inl zero_is ↦ absurd (none at zero_is (is_directory body) refl)
        | inr some ↦ omega (arith, some)
      ];
      nlink = at.itself.nlink;
      atime = at.itself.atime;
      mtime = at.itself.mtime;
      ctime = at.itself.ctime;
      stamp = at.itself.stamp;
      verifier = of_shell inode_attributes body inode_attributes.verifier fits.kind at.itself.verifier;
      directory = λ is.
          let dir : is_directory body ≡ true = sym (is_kind inode_attributes.kind body fits.kind) ∙ is in
          let links = (at.directory dir).counted in
          let inside = parent_inside dir in
          (omega (arith, links), inside.0, inside.1);
    }
  where
    none : SoundAt tree inode_attributes.number (node_of inode_attributes body) → inode_attributes.nlink ≡ 0 → (b : Bool) → is_directory body ≡ b → ⊥
    none at zero_is true dir = let counted = (at.directory dir).counted in omega (arith, counted, zero_is)
    none at zero_is false other = let named = (at.links other).named in omega (arith, named, zero_is)

    parent_inside : is_directory body ≡ true → (0 < inode_attributes.parent) × (inode_attributes.parent < tree.geometry.inodes)
    parent_inside dir =
        let links = ((sound.files inode_attributes.number (node_of inode_attributes body) there).directory dir) in
        elim (equal_or_not inode_attributes.number ROOT) [
          | inl root ↦ (
              let root_at = sound.files ROOT sound.root sound.root_is in
              let is : inode_attributes.parent ≡ ROOT = sym fits.parent ∙ (links.root root).parent in
              (subst (λ n. 0 < n) (sym is) root_at.least, subst (λ n. n < tree.geometry.inodes) (sym is) root_at.most)
              )
          | inr other ↦ (
              let child = links.child other in
              let parent_at = sound.files (parent_of body) child.parent child.parent_is in (
                subst (λ n. 0 < n) fits.parent parent_at.least,
                subst (λ n. n < tree.geometry.inodes) fits.parent parent_at.most,
              )
              )
        ]

-- size and blocks are no part of it
pub sound_headed : (inodes : ℕ) (inode_attributes : InodeAttributes) (body : Body) → SoundInodeAttributes inodes (headed inode_attributes body)
    → SoundInodeAttributes inodes inode_attributes
sound_headed inodes inode_attributes body sound = record {
  mode = sound.mode;
  uid = sound.uid;
  gid = sound.gid;
  linked = sound.linked;
  nlink = sound.nlink;
  atime = sound.atime;
  mtime = sound.mtime;
  ctime = sound.ctime;
  stamp = sound.stamp;
  verifier = sound.verifier;
  directory = sound.directory;
}

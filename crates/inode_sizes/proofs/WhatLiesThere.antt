-- What is told of what was read holds of what lies there.
use Rattle.std.proofs.Common.{◌≡◌, ℕ, ◌<◌, subst, true, Some, Ok}
use Rattle.std.specs.List.{list_all}
use Rattle.disk.specs.Crash.{Image}
use Rattle.nfs_spec.specs.Model.Tree.{Tree}
use Rattle.layout.specs.declared.geometry.Geometry.{Geometry}
use Rattle.layout.specs.declared.inode.Inode.{Inode}
use Rattle.layout.specs.Decode.{doubled_in, inode_at, numbers_of}
use Rattle.layout.specs.Holds.{Holds}
use Rattle.layout.specs.InodeForm.{is_data_block_or_none}
use Rattle.layout.specs.Parts.{content_in}
use Rattle.inode.specs.declared.snap.Snap.{Snap}
use Rattle.inode.specs.Over.{HasInode}
use Rattle.inode.proofs.IndirectThere.{doubled_passes}
use Rattle.inode.proofs.InodeThere.{is_of_kind, is_sound}
use Rattle.inode_sizes.specs.Cut.{last_of}
use Rattle.inode_sizes.specs.CutBlocks.{IsCutOf}
use Rattle.inode_sizes.specs.declared.cuts.CutPointers.{CutPointers}

-- what the inner blocks of a file name is placed
pub doubled_named : (g : Geometry) (blocks : Image) (tree : Tree) (n : ℕ) (inode : Inode) → Holds g blocks tree
    → n < g.inodes → inode_at g blocks n ≡ Ok (Some inode)
    → list_all (is_data_block_or_none g) (doubled_in (content_in g blocks) inode.double) ≡ true
doubled_named g blocks tree n inode holds less read =
    doubled_passes g (content_in g blocks) inode inode.kind (is_sound g blocks tree n inode holds less read)
    (is_of_kind g blocks tree n inode holds less read)

module _ (snap there : Snap) (image : Image) (tree : Tree) (n : ℕ) (inode : Inode) (count before : ℕ)
    (same : snap ≡ there) (is : count ≡ before) (has : HasInode there image tree n inode) where
  pub cut_there : (cut : CutPointers)
      → ((blocks : Image) (tree : Tree) (file : ℕ) → HasInode snap blocks tree file inode
      → IsCutOf (content_in snap.geometry blocks) inode count cut)
      → IsCutOf (content_in there.geometry image) inode before cut
  cut_there cut tells =
      subst (λ (t : Snap × ℕ). HasInode t.0 image tree n inode
      → IsCutOf (content_in t.0.geometry image) inode t.1 cut) (λ i. (same i, is i)) (λ one. tells image tree n one) has

  pub last_index_there : (last : ℕ)
      → ((blocks : Image) (tree : Tree) (file : ℕ) → HasInode snap blocks tree file inode
      → last ≡ last_of count (numbers_of (content_in snap.geometry blocks) inode))
      → last ≡ last_of before (numbers_of (content_in there.geometry image) inode)
  last_index_there last tells =
      subst (λ (t : Snap × ℕ). HasInode t.0 image tree n inode
      → last ≡ last_of t.1 (numbers_of (content_in t.0.geometry image) inode)) (λ i. (same i, is i))
      (λ one. tells image tree n one) has

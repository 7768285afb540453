-- A directory that got a name and then the attributes of a head.
use Rattle.std.proofs.Common.{◌≡◌, ℕ, suc, ◌+◌, ◌*◌, ◌/◌, ◌<◌, ◌≤◌, max, sym, ap, ◌∙◌, refl, subst, true}
use Rattle.std.proofs.Common.{cond, nat_lt, List, Ok, Some, arith}
use Rattle.std.specs.FinMap.{insert}
use Rattle.base.specs.declared.TheConstants.{BLOCK_BYTES, DIRECT_INDEXES, SLOTS_PER_BLOCK}
use Rattle.disk.specs.Crash.{Image}
use Rattle.nfs_spec.specs.Model.Names.{is_directory}
use Rattle.nfs_spec.specs.Model.Node.{Body, DirentValue, Node}
use Rattle.nfs_spec.specs.Model.Node as model
use Rattle.nfs_spec.specs.Model.Tree.{Tree, with_node}
use Rattle.nfs_spec.specs.Procedures.Changes.{with_dirent}
use Rattle.nfs_spec.specs.Procedures.Rename.{with_parent}
use Rattle.procs_files.specs.declared.inode_attributes.InodeAttributes.{InodeAttributes}
use Rattle.procs_files.specs.Writable.{SoundInodeAttributes, headed}
use Rattle.procs_files.specs.Heads.{IsBodyOf, node_of}
use Rattle.layout.specs.declared.inode.Inode.{Inode}
use Rattle.layout.specs.Decode.{inode_at}
use Rattle.layout.specs.Parts.{with_inode}
use Rattle.inode.specs.WriteSets.Attributes.{attributed}
use Rattle.inode.specs.WriteSets.WriteSetContents.{WriteSetContents, IsWriteSet, Shows, image_of}
use Rattle.inode.proofs.WriteSetsLemmas.OneFile.{here_next}
use Rattle.inode.proofs.WriteSetsLemmas.PutThere.{attributes_there}
use Rattle.dir_writes.specs.NameInsertion.{with_name}
use Rattle.procs_blocks.specs.Heads.{looks_of}
use Rattle.procs_blocks.proofs.Departed.{twice}
use Rattle.procs_blocks.proofs.SetThere.{found, set_node, set_sound}

-- ---- the head

-- a directory that spans the slot's block as before
pub inode_attributes_still : (inode_attributes : InodeAttributes) (slot : ℕ) (name : List ℕ) (dirent : DirentValue) (body : Body) → IsBodyOf inode_attributes body
    → is_directory body ≡ true → dirent.slot ≡ slot → slot / SLOTS_PER_BLOCK + 1 ≤ inode_attributes.size / BLOCK_BYTES
    → inode_attributes ≡ headed inode_attributes (with_dirent name dirent body)
inode_attributes_still inode_attributes slot name dirent (model.Regular bytes mapped) fits is at within = cc
inode_attributes_still inode_attributes slot name dirent (model.Link target) fits is at within = cc
inode_attributes_still inode_attributes slot name dirent (model.Directory named span parent) fits is at within =
    let size = fits.size in
    let wide : span ≡ max span (suc (dirent.slot / SLOTS_PER_BLOCK)) =
    is_preserved span (dirent.slot / SLOTS_PER_BLOCK) (spans span size (slot_within_size at within)) in
    λ i. record inode_attributes {
      size = (sym fits.size ∙ ap (λ k. BLOCK_BYTES * k) wide) i;
      used = (sym fits.used ∙ ap (λ (k : ℕ). BLOCK_BYTES * (k + cond (nat_lt DIRECT_INDEXES k) 1 0)) wide) i;
    }
  where
    is_preserved : (span index_within : ℕ) → index_within + 1 ≤ span → span ≡ max span (suc index_within)
    is_preserved span index_within less = omega (arith, less)

    slot_within_size : dirent.slot ≡ slot → slot / SLOTS_PER_BLOCK + 1 ≤ inode_attributes.size / BLOCK_BYTES
        → dirent.slot / SLOTS_PER_BLOCK + 1 ≤ inode_attributes.size / BLOCK_BYTES
    slot_within_size at within = subst (λ k. k / SLOTS_PER_BLOCK + 1 ≤ inode_attributes.size / BLOCK_BYTES) (sym at) within

    spans : (span : ℕ) → BLOCK_BYTES * span ≡ inode_attributes.size
        → dirent.slot / SLOTS_PER_BLOCK + 1 ≤ inode_attributes.size / BLOCK_BYTES → dirent.slot / SLOTS_PER_BLOCK + 1 ≤ span
    spans span size within = omega (arith, size, within)

-- one that grows
pub inode_attributes_grown : (inode_attributes : InodeAttributes) (slot size used : ℕ) (name : List ℕ) (dirent : DirentValue) (body : Body)
    → IsBodyOf inode_attributes body → is_directory body ≡ true → dirent.slot ≡ slot
    → inode_attributes.size / BLOCK_BYTES < slot / SLOTS_PER_BLOCK + 1 → size ≡ BLOCK_BYTES * (slot / SLOTS_PER_BLOCK + 1)
    → used ≡ BLOCK_BYTES * (slot / SLOTS_PER_BLOCK + 1 + cond (nat_lt DIRECT_INDEXES (slot / SLOTS_PER_BLOCK + 1)) 1 0)
    → ◌≡◌ {A = InodeAttributes} (record inode_attributes { size = size; used = used }) (headed inode_attributes (with_dirent name dirent body))
inode_attributes_grown inode_attributes slot size used name dirent (model.Regular bytes mapped) fits is at past size_is used_is = cc
inode_attributes_grown inode_attributes slot size used name dirent (model.Link target) fits is at past size_is used_is = cc
inode_attributes_grown inode_attributes slot size used name dirent (model.Directory named span parent) fits is at past size_is used_is =
    let wide : slot / SLOTS_PER_BLOCK + 1 ≡ max span (suc (dirent.slot / SLOTS_PER_BLOCK)) =
    grows span fits.size past ∙ ap (λ k. max span (suc (k / SLOTS_PER_BLOCK))) (sym at) in
    λ i. record inode_attributes {
      size = (size_is ∙ ap (λ k. BLOCK_BYTES * k) wide) i;
      used = (used_is ∙ ap (λ (k : ℕ). BLOCK_BYTES * (k + cond (nat_lt DIRECT_INDEXES k) 1 0)) wide) i;
    }
  where
    grows : (span : ℕ) → BLOCK_BYTES * span ≡ inode_attributes.size → inode_attributes.size / BLOCK_BYTES < slot / SLOTS_PER_BLOCK + 1
        → slot / SLOTS_PER_BLOCK + 1 ≡ max span (suc (slot / SLOTS_PER_BLOCK))
    grows span size past = omega (arith, size, past)

-- ---- the body

headed_body : (inode_attributes : InodeAttributes) (name : List ℕ) (dirent : DirentValue) (body : Body) → IsBodyOf inode_attributes body
    → IsBodyOf (headed inode_attributes (with_dirent name dirent body)) (with_parent inode_attributes.parent (with_dirent name dirent body))
headed_body inode_attributes name dirent (model.Regular bytes mapped) fits =
    record { kind = fits.kind; size = refl; used = refl; parent = fits.parent }
headed_body inode_attributes name dirent (model.Directory named span parent) fits =
    record { kind = fits.kind; size = refl; used = refl; parent = refl }
headed_body inode_attributes name dirent (model.Link target) fits =
    record { kind = fits.kind; size = refl; used = refl; parent = fits.parent }

same_parent : (inode_attributes : InodeAttributes) (name : List ℕ) (dirent : DirentValue) (body : Body) → IsBodyOf inode_attributes body
    → with_parent inode_attributes.parent (with_dirent name dirent body) ≡ with_dirent name dirent body
same_parent inode_attributes name dirent (model.Regular bytes mapped) fits = refl
same_parent inode_attributes name dirent (model.Directory named span parent) fits =
    ap (λ p. model.Directory (insert named name dirent) (max span (suc (dirent.slot / SLOTS_PER_BLOCK))) p)
    (sym fits.parent)
same_parent inode_attributes name dirent (model.Link target) fits = refl

headed_sound : (inodes : ℕ) (inode_attributes : InodeAttributes) (body : Body) → SoundInodeAttributes inodes inode_attributes → SoundInodeAttributes inodes (headed inode_attributes body)
headed_sound inodes inode_attributes body sound = record {
  mode = sound.mode;
  uid = sound.uid;
  gid = sound.gid;
  linked = sound.linked;
  nlink = sound.nlink;
  atime = sound.atime;
  mtime = sound.mtime;
  ctime = sound.ctime;
  stamp = sound.stamp;
  verifier = sound.verifier;
  directory = sound.directory;
}

-- ---- what is written

pub entered_there : (old new : WriteSetContents) (blocks : Image) (tree : Tree) (inode_attributes : InodeAttributes) (node : Node) (name : List ℕ)
    (number slot : ℕ) (one : Inode) → new.there.geometry ≡ old.there.geometry
    → ((image : Image) → Shows old image
    → Shows new (with_inode old.there.geometry image inode_attributes.number (attributed one (looks_of inode_attributes))))
    → ((blocks : Image) → image_of blocks new
    ≡ with_inode old.there.geometry (image_of blocks old) inode_attributes.number (attributed one (looks_of inode_attributes)))
    → IsBodyOf inode_attributes node.body → SoundInodeAttributes tree.geometry.inodes inode_attributes
    → IsWriteSet old blocks (with_node tree inode_attributes.number (with_name name number slot node))
    → inode_at old.there.geometry (image_of blocks old) inode_attributes.number ≡ Ok (Some one)
    → IsWriteSet new blocks (with_node tree inode_attributes.number
    (node_of inode_attributes (with_dirent name (record { number = number; slot = slot }) node.body)))
entered_there old new blocks tree inode_attributes node name number slot one geometry shows images fits sound write_set read =
    let n = inode_attributes.number in
    let dirent : DirentValue = record { number = number; slot = slot } in
    let g = old.there.geometry in
    let image = image_of blocks old in
    let mid = with_name name number slot node in
    let there = here_next tree n mid in
    let next = headed inode_attributes (with_dirent name dirent node.body) in
    let in_it = found g image (with_node tree n mid) n mid write_set.holds there in
    subst (IsWriteSet new blocks)
    (ap (with_node (with_node tree n mid) n) (set_node g image in_it.inode next mid in_it.body)
    ∙ twice tree n mid _
    ∙ ap (λ (b : Body). with_node tree n (node_of inode_attributes b)) (same_parent inode_attributes name dirent node.body fits))
    (attributes_there old new blocks (with_node tree n mid) n mid in_it.inode one (looks_of inode_attributes) geometry shows images
    write_set there in_it.there read
    (set_sound g image (with_node tree n mid) next mid write_set.holds there
    (headed_body inode_attributes name dirent node.body fits)
    (headed_sound tree.geometry.inodes inode_attributes (with_dirent name dirent node.body) sound)))

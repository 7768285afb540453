-- An inode that was written through its address.
use Rattle.std.proofs.Common.{◌≡◌, ℕ, sym, ap, ◌∙◌, subst, List, Option, Some, Result, Ok, Err, OnOk}
use Rattle.disk.specs.Crash.{Image}
use Rattle.objects.specs.declared.addr.Addr.{Addr}
use Rattle.nfs_spec.specs.Model.Node.{Node}
use Rattle.nfs_spec.specs.Model.Tree.{Tree, node_at, with_node}
use Rattle.layout.specs.declared.fault.LayoutFault.{LayoutFault}
use Rattle.layout.specs.declared.geometry.Geometry.{Geometry}
use Rattle.layout.specs.declared.inode.Inode.{Inode}
use Rattle.layout.specs.Decode.{inode_at, node_with}
use Rattle.layout.specs.Holds.{Holds}
use Rattle.layout.specs.InodeForm.{SoundInode}
use Rattle.layout.specs.Parts.{with_bytes, with_inode}
use Rattle.layout.specs.Places.{inode_block, inode_offset}
use Rattle.inode.specs.declared.snap.Snap.{Snap}
use Rattle.inode.specs.declared.suspend.Suspend.{Suspend}
use Rattle.inode.specs.Over.{IsOver, IsResumable}
use Rattle.inode.specs.Shown.{IsInodeOf, body_in}
use Rattle.inode.specs.WriteSets.Attributes.{attributed}
use Rattle.inode.specs.WriteSets.WriteSetContents.{WriteSetContents, IsWriteSet, Shows, image_of}
use Rattle.inode.proofs.WriteSetsLemmas.Attributes.{attributes_hold}

pub put_there : (g : Geometry) (image : Image) (n : ℕ) (addr : Addr) (bytes new : List ℕ)
    → addr.block.0 ≡ inode_block g n → addr.offset ≡ inode_offset n → bytes ≡ new
    → with_bytes image addr.block.0 addr.offset bytes ≡ with_bytes image (inode_block g n) (inode_offset n) new
put_there g image n addr bytes new block offset is = λ i. with_bytes image (block i) (offset i) (is i)

-- a write set that has come to these blocks
pub moved_write_set : (old new : WriteSetContents) (blocks image : Image) (next : Tree)
    → new.there.geometry ≡ old.there.geometry → image_of blocks new ≡ image → Shows new image
    → Holds old.there.geometry image next → IsWriteSet new blocks next
moved_write_set old new blocks image next geometry is shows holds = record {
  shows = subst (Shows new) (sym is) shows;
  holds = subst (λ (g : Geometry). Holds g (image_of blocks new) next) (sym geometry)
      (subst (λ one. Holds old.there.geometry one next) (sym is) holds);
}

pub same_inode : (a b : Inode) → ◌≡◌ {A = Result (Option Inode) LayoutFault} (Ok (Some a)) (Ok (Some b)) → a ≡ b
same_inode a b e = cc

pub attributes_there : (old new : WriteSetContents) (blocks : Image) (tree : Tree) (n : ℕ) (node : Node)
    (inode one looks : Inode) → new.there.geometry ≡ old.there.geometry
    → ((image : Image) → Shows old image
    → Shows new (with_inode old.there.geometry image n (attributed one looks)))
    → ((blocks : Image) → image_of blocks new
    ≡ with_inode old.there.geometry (image_of blocks old) n (attributed one looks))
    → IsWriteSet old blocks tree → node_at tree n ≡ Some node
    → inode_at old.there.geometry (image_of blocks old) n ≡ Ok (Some inode)
    → inode_at old.there.geometry (image_of blocks old) n ≡ Ok (Some one)
    → SoundInode old.there.geometry (attributed inode looks)
    → IsWriteSet new blocks (with_node tree n (node_with (attributed inode looks)
    (body_in old.there.geometry (image_of blocks old) (attributed inode looks))))
attributes_there old new blocks tree n node inode one looks geometry shows images write_set was read found sound =
    let same : one ≡ inode = same_inode one inode (sym found ∙ read) in
    moved_write_set old new blocks (with_inode old.there.geometry (image_of blocks old) n (attributed inode looks))
    _ geometry
    (images blocks ∙ ap (λ k. with_inode old.there.geometry (image_of blocks old) n (attributed k looks)) same)
    (subst (λ k. Shows new (with_inode old.there.geometry (image_of blocks old) n (attributed k looks))) same
    (shows (image_of blocks old) write_set.shows))
    (attributes_hold old.there.geometry (image_of blocks old) tree n inode looks node write_set.holds was read sound)

-- ---- what is read of what lies there

pub over_of : (write_set : WriteSetContents) (blocks : Image) (tree : Tree) → IsWriteSet write_set blocks tree
    → IsOver write_set.there (image_of blocks write_set) tree
over_of write_set blocks tree is = record { holds = is.holds; saw = is.shows.saw }

pub carried_there : (write_set : WriteSetContents) (snap : Snap) (blocks : Image) (tree : Tree) (n : ℕ) (found : Option Inode)
    → snap ≡ write_set.there
    → ((image : Image) (tree : Tree) → IsOver snap image tree → IsInodeOf snap image tree n found)
    → IsWriteSet write_set blocks tree → IsInodeOf write_set.there (image_of blocks write_set) tree n found
carried_there write_set snap blocks tree n found same proven is =
    subst (λ (s : Snap). IsInodeOf s (image_of blocks write_set) tree n found) same
    (proven (image_of blocks write_set) tree
    (subst (λ (s : Snap). IsOver s (image_of blocks write_set) tree) (sym same) (over_of write_set blocks tree is)))

pub resumes_there : (write_set : WriteSetContents) (snap : Snap) (blocks : Image) (tree : Tree) (why : Suspend)
    → snap ≡ write_set.there → ((image : Image) (tree : Tree) → IsOver snap image tree → IsResumable why)
    → IsWriteSet write_set blocks tree → IsResumable why
resumes_there write_set snap blocks tree why same proven is =
    proven (image_of blocks write_set) tree
    (subst (λ (s : Snap). IsOver s (image_of blocks write_set) tree) (sym same) (over_of write_set blocks tree is))

pub both_ok : {A E : Type 0} {P Q R : Type 0} (r : Result A E) → (P → Q → R) → OnOk r P → OnOk r Q → OnOk r R
both_ok (Ok x) so p q = so p q
both_ok (Err e) so p q = p

-- A file and its inode, and what is written to a file that is no regular one: nothing.
use Rattle.std.proofs.Common.{◌≡◌, ℕ, ◌<◌, inl, inr, sym, ap, ◌∙◌, refl, subst, Bool, true, false, cond, ◌||◌}
use Rattle.std.proofs.Common.{List, replicate, nat_eq, Option, Some, Ok}
use Rattle.std.specs.Option.{unwrap_or}
use Rattle.std.proofs.lemmas.Bool.{cases_eq}
use Rattle.base.specs.declared.TheConstants.{BLOCK_BYTES}
use Rattle.disk.specs.Crash.{Image}
use Rattle.nfs_types.specs.Fits.{AreBytes}
use Rattle.objects.specs.Spliced.{spliced}
use Rattle.nfs_spec.specs.Model.Node.{Body, Node}
use Rattle.nfs_spec.specs.Model.Tree.{Tree, node_at, with_node}
use Rattle.nfs_spec.specs.Procedures.Write.{with_text}
use Rattle.layout.specs.declared.geometry.Geometry.{Geometry}
use Rattle.layout.specs.declared.inode.Inode.{Inode}
use Rattle.layout.specs.declared.inode.InodeKind.{InodeKind}
use Rattle.layout.specs.declared.inode.InodeKind.TheVariants as kinds
use Rattle.layout.specs.Decode.{body_of, content_of, inode_at, node_with}
use Rattle.layout.specs.Holds.{Holds}
use Rattle.layout.specs.InodeForm.{is_data_block_or_none}
use Rattle.layout.specs.Parts.{content_in}
use Rattle.layout.specs.Places.{is_data}
use Rattle.layout.proofs.AllNumbers.{maps}
use Rattle.layout.proofs.WrittenBytes.{spliced-bytes}
use Rattle.inode.specs.declared.snap.Snap.{Snap}
use Rattle.inode.specs.Over.{HasInode}
use Rattle.inode.specs.Shown.{IsInodeOf, body_in}
use Rattle.inode.proofs.HeldThere.{is_inode_of}
use Rattle.inode.specs.WriteSets.WriteSetContents.{WriteSetContents, IsWriteSet, Shows, image_of}
use Rattle.inode.proofs.WriteSetsLemmas.OneFile.{here_next, there_next}
use Rattle.inode.proofs.WriteSetsLemmas.PutThere.{moved_write_set}
use Rattle.inode_data.specs.Filling.{HasRegular}
use Rattle.inode_data.specs.Written.{NamesRegular, PutsPiece, WritesText, node_written, rewritten}
use Rattle.inode_data.proofs.PieceWritten.{sound}
use Rattle.inode_data.proofs.Stored.{content_are, zeros_are}

-- the inode of a regular file, and the reading of it
pub has_regular : (snap : Snap) (base : Image) (tree : Tree) (n : ℕ) (inode : Inode)
    → HasInode snap base tree n inode → inode.kind ≡ kinds.Regular → HasRegular snap.geometry base tree n inode
has_regular snap base tree n inode has is = record {
  holds = has.over.holds;
  less = has.less;
  read = has.there;
  regular = is;
  newest = snap.newest;
}

pub has_inode : (write_set : WriteSetContents) (blocks : Image) (tree : Tree) (n : ℕ) (inode : Inode)
    → IsWriteSet write_set blocks tree → HasRegular write_set.there.geometry (image_of blocks write_set) tree n inode
    → HasInode write_set.there (image_of blocks write_set) tree n inode
has_inode write_set blocks tree n inode is has = record {
  over = record { holds = is.holds; saw = is.shows.saw };
  less = has.less;
  there = has.read;
}

pub indirect_part_placed : (g : Geometry) (base : Image) (tree : Tree) (n : ℕ) (inode : Inode)
    → HasRegular g base tree n inode → is_data_block_or_none g inode.indirect ≡ true
indirect_part_placed g base tree n inode has = (maps g inode (sound g base tree n inode has)).1

-- the node of an inode
pub node_is : (snap : Snap) (base : Image) (tree : Tree) (n : ℕ) (inode : Inode) (node : Node)
    → IsInodeOf snap base tree n (Some inode) → node_at tree n ≡ Some node
    → node ≡ node_with inode (body_in snap.geometry base inode)
node_is snap base tree n inode node proven was = ap (λ (o : Option Node). unwrap_or o node) (sym was ∙ proven.1)

-- the bytes of a block with a piece in them are bytes
pub filled_are : (g : Geometry) (base : Image) (tree : Tree) → Holds g base tree → (b from : ℕ) (piece : List ℕ)
    → is_data_block_or_none g b ≡ true → AreBytes piece
    → AreBytes (spliced (content_of (content_in g base) b) from piece)
filled_are g base tree holds b from piece placed are =
    spliced-bytes (content_of (content_in g base) b) piece from (by_test (nat_eq b 0) placed) (record { are = are })
  where
    by_test : (none : Bool) → (none || is_data g b) ≡ true
        → AreBytes (cond none (replicate BLOCK_BYTES 0) (content_in g base b))
    by_test true e = zeros_are
    by_test false e = content_are g base tree holds b e

-- ---- a file of another kind

nothing_written : (kind : InodeKind) (offset : ℕ) (text : List ℕ) (inodes : ℕ) (content : Image) (inode : Inode)
    → (kind ≡ kinds.Regular → ⊥)
    → with_text offset text (body_of inodes content kind inode) ≡ body_of inodes content kind inode
nothing_written kinds.Regular offset text inodes content inode not = absurd (not refl)
nothing_written kinds.Directory offset text inodes content inode not = refl
nothing_written kinds.Link offset text inodes content inode not = refl

pub same_file : (snap : Snap) (base : Image) (tree : Tree) (n : ℕ) (inode : Inode) (node : Node) (offset : ℕ)
    (text : List ℕ) → IsInodeOf snap base tree n (Some inode) → node_at tree n ≡ Some node
    → (inode.kind ≡ kinds.Regular → ⊥) → rewritten offset text node ≡ node
same_file snap base tree n inode node offset text proven was not =
    let is = node_is snap base tree n inode node proven was in
    let there : node.body ≡ body_in snap.geometry base inode = ap (λ (one : Node). one.body) is in
    ap (λ (b : Body). record node { body = b })
    (ap (with_text offset text) there
    ∙ nothing_written inode.kind offset text snap.geometry.inodes (content_in snap.geometry base) inode not
    ∙ sym there)

pub same_holds : (g : Geometry) (image : Image) (tree : Tree) (n : ℕ) (node new : Node) → Holds g image tree
    → node_at tree n ≡ Some node → new ≡ node → Holds g image (with_node tree n new)
same_holds g image tree n node new holds was is = record {
  bytes = holds.bytes;
  parts = record {
    geometry = holds.parts.geometry;
    unnumbered = alike 0 ∙ holds.parts.unnumbered;
    has = record { inodes = holds.parts.has.inodes; files = λ m. alike m ∙ holds.parts.has.files m };
    marked = holds.parts.marked;
  };
}
  where
    alike : (m : ℕ) → node_at (with_node tree n new) m ≡ node_at tree m
    alike m = elim (cases_eq m n) [
      | inl same ↦ subst (λ k. node_at (with_node tree n new) k ≡ node_at tree k) (sym same)
          (here_next tree n new ∙ ap (λ (one : Node). Some one) is ∙ sym was)
      | inr not ↦ there_next tree n new m not
    ]

-- ---- a regular file, and a piece of bytes in it

pub regular_of : (write_set : WriteSetContents) (blocks : Image) (tree : Tree) (n : ℕ) (inode : Inode)
    → IsWriteSet write_set blocks tree → NamesRegular write_set blocks n inode
    → HasRegular write_set.there.geometry (image_of blocks write_set) tree n inode
regular_of write_set blocks tree n inode is names = record {
  holds = is.holds;
  less = names.less;
  read = names.read;
  regular = names.regular;
  newest = write_set.there.newest;
}

-- its node
pub regular_node : (write_set : WriteSetContents) (blocks : Image) (tree : Tree) (n : ℕ) (inode : Inode)
    → IsWriteSet write_set blocks tree → NamesRegular write_set blocks n inode
    → node_at tree n ≡ Some (node_with inode (body_in write_set.there.geometry (image_of blocks write_set) inode))
regular_node write_set blocks tree n inode is names =
    (is_inode_of write_set.there (image_of blocks write_set) tree n (Some inode) names.less names.read
    (record { holds = is.holds; saw = is.shows.saw })).1

pub regular_node_is : (write_set : WriteSetContents) (blocks : Image) (tree : Tree) (n : ℕ) (inode : Inode) (node : Node)
    → IsWriteSet write_set blocks tree → NamesRegular write_set blocks n inode → node_at tree n ≡ Some node
    → node ≡ node_with inode (body_in write_set.there.geometry (image_of blocks write_set) inode)
regular_node_is write_set blocks tree n inode node is names was =
    ap (λ (o : Option Node). unwrap_or o node) (sym was ∙ regular_node write_set blocks tree n inode is names)

-- a write set that has come to these blocks, in which a piece was written
pub moved_piece : (old new : WriteSetContents) (blocks image : Image) (tree : Tree) (n : ℕ) (inode next made : Inode)
    (offset : ℕ) (piece : List ℕ) → new.there.geometry ≡ old.there.geometry → image_of blocks new ≡ image
    → Shows new image → n < old.there.geometry.inodes → next.kind ≡ kinds.Regular → made ≡ next
    → Holds old.there.geometry image
    (with_node tree n (node_written old.there.geometry (image_of blocks old) inode offset piece))
    × (inode_at old.there.geometry image n ≡ Ok (Some next))
    → PutsPiece old new blocks tree n inode made offset piece
moved_piece old new blocks image tree n inode next made offset piece geometry is shows less regular same stores =
    record {
      is = let written = node_written old.there.geometry (image_of blocks old) inode offset piece in
          moved_write_set old new blocks image (with_node tree n written) geometry is shows stores.0;
      names = record {
        less = subst (λ (g : Geometry). n < g.inodes) (sym geometry) less;
        read = (λ i. inode_at (geometry i) (is i) n) ∙ stores.1 ∙ (λ i. Ok (Some (sym same i)));
        regular = ap (λ (one : Inode). one.kind) same ∙ regular;
      };
    }

-- the file has the text
pub piece_text : (old new : WriteSetContents) (blocks : Image) (tree : Tree) (n : ℕ) (inode next : Inode) (offset : ℕ)
    (piece : List ℕ) → IsWriteSet old blocks tree → NamesRegular old blocks n inode
    → PutsPiece old new blocks tree n inode next offset piece
    → WritesText new blocks tree n offset piece × NamesRegular new blocks n next
piece_text old new blocks tree n inode next offset piece is names puts = (
  record {
    node = node_with inode (body_in old.there.geometry (image_of blocks old) inode);
    was = regular_node old blocks tree n inode is names;
    is = puts.is;
  },
  puts.names,
)

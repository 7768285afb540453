use Rattle.std.proofs.Common.{◌≡◌, ◌-◌, ◌≤◌, ◌/◌, ◌%◌, refl, true, sym, ap, ◌∙◌, subst, List, ℕ, arith}
use Rattle.std.proofs.lemmas.Result.{IfErr-weaker}
use Rattle.base.specs.declared.TheConstants.{BLOCK_BYTES}
use Rattle.disk.specs.Crash.{Image}
use Rattle.nfs_types.specs.Fits.{AreBytes}
use Rattle.objects.specs.Spliced.{spliced}
use Rattle.nfs_spec.specs.Model.Cost.{cost}
use Rattle.nfs_spec.specs.Model.Node.{Node}
use Rattle.nfs_spec.specs.Model.Tree.{Tree, free}
use Rattle.nfs_spec.specs.Procedures.Write.{with_text}
use Rattle.layout.specs.declared.geometry.Geometry.{Geometry}
use Rattle.layout.specs.declared.inode.Inode.{Inode}
use Rattle.layout.specs.Decode.{content_of}
use Rattle.layout.specs.InodeForm.{is_data_block_or_none}
use Rattle.layout.specs.Parts.{content_in}
use Rattle.inode.specs.declared.snap.Snap.{Snap}
use Rattle.inode.specs.Over.{HasInode, IsOver, number_at}
use Rattle.inode.specs.WriteSets.WriteSetContents.{IsWriteSet, image_of}
use Rattle.inode.proofs.WriteSetsLemmas.PutThere.{over_of}
use Rattle.bitmap.proofs.OfResults.{mapped}
use Rattle.inode_data.specs.Filling.{HasRegular}
use Rattle.inode_data.specs.Written.{IsWrite}
use Rattle.inode_data.proofs.Whole.{filled_are, has_inode, piece_text, regular_node_is, regular_of}
use Rattle.inode_data.proofs.pieces.write_piece.Goals as goal

-- what is to be written
module _ (c : goal.After-put_piece) where
  abbrev g : Geometry
  g = c.args.write_set.now.there.geometry

  abbrev inode : Inode
  inode = c.args.inode.now

  abbrev base : Image → Image
  base blocks = image_of blocks c.args.write_set.now

  block_is : (blocks : Image) (tree : Tree) → IsWriteSet c.args.write_set.now blocks tree
      → HasRegular g (base blocks) tree c.args.number inode
      → c.in-Ok.block ≡ number_at g (base blocks) inode (c.args.offset / BLOCK_BYTES)
  block_is blocks tree write_set has =
      let there = c.there.ensures.there in
      subst (λ (s : Snap). c.in-Ok.block ≡ number_at s.geometry (base blocks) inode (c.args.offset / BLOCK_BYTES)) there
      (c.in-Ok.ensures.ok (base blocks) tree c.args.number
      (subst (λ (s : Snap). HasInode s (base blocks) tree c.args.number inode) (sym there)
      (has_inode c.args.write_set.now blocks tree c.args.number inode write_set has)))

  writes : (blocks : Image) (tree : Tree) → IsWriteSet c.args.write_set.now blocks tree
      → HasRegular g (base blocks) tree c.args.number inode
      → IsWrite g (base blocks) tree c.args.number inode c.args.offset c.args.piece.now c.in-Ok-filled.bytes.items
      c.greater-size.result
  writes blocks tree write_set has =
      let there = c.there.ensures.there in
      let again = c.there-2.ensures.there in
      let block = c.in-Ok.block in
      let from = c.args.offset % BLOCK_BYTES in
      let piece = c.args.piece.now in
      let bytes : c.in-Ok-filled.bytes.items ≡ spliced (content_of (content_in g (base blocks)) block) from piece =
      subst (λ (s : Snap). c.in-Ok-filled.bytes.items
      ≡ spliced (content_of (content_in s.geometry (base blocks)) block) from piece) again
      (c.in-Ok-filled.ensures.are (base blocks) tree
      (subst (λ (s : Snap). IsOver s (base blocks) tree) (sym again) (over_of c.args.write_set.now blocks tree write_set))) in
      let placed = subst (λ (s : Snap). is_data_block_or_none s.geometry block ≡ true) there c.in-Ok.ensures.data in
      record {
        has = has;
        fits = record { some = c.requires.some; within = c.requires.within; small = c.requires.small };
        bytes_are = bytes
            ∙ ap (λ k. spliced (content_of (content_in g (base blocks)) k) from piece) (block_is blocks tree write_set has);
        each = subst (λ (l : List ℕ). AreBytes l) (sym bytes)
            (filled_are g (base blocks) tree write_set.holds block from piece placed
            (λ i. omega (arith, c.type_inv.piece i)));
        size_is = c.greater-size.ensures;
      }

pub returns-in-Ok-filled-clause-ok : goal.returns-in-Ok-filled-clause-ok
returns-in-Ok-filled-clause-ok c =
    mapped _ _ (λ done leads yes blocks tree write_set names.
    let has = regular_of c.args.write_set.now blocks tree c.args.number c.args.inode.now write_set names in
    piece_text c.args.write_set.now c.put_piece.new.write_set blocks tree c.args.number c.args.inode.now c.put_piece.new.inode
    c.args.offset c.args.piece.now write_set names
    (leads yes blocks tree c.args.offset c.args.piece.now write_set (writes c blocks tree write_set has) refl
    (block_is c blocks tree write_set has))) c.put_piece.result c.put_piece.ensures.ok

pub returns-in-Ok-filled-clause-has_space : goal.returns-in-Ok-filled-clause-has_space
returns-in-Ok-filled-clause-has_space c =
    let offset = c.args.offset in
    let piece = c.args.piece.now in
    mapped _ _ (λ done leads blocks tree node write_set names was has_space.
    let has = regular_of c.args.write_set.now blocks tree c.args.number c.args.inode.now write_set names in
    leads blocks tree offset piece write_set (writes c blocks tree write_set has) refl
    (block_is c blocks tree write_set has)
    (subst (λ (one : Node). cost (with_text offset piece one.body) - cost one.body ≤ free tree)
    (regular_node_is c.args.write_set.now blocks tree c.args.number c.args.inode.now node write_set names was) has_space))
    c.put_piece.result c.put_piece.ensures.has_space

pub returns-in-Ok-filled-clause-resumable : goal.returns-in-Ok-filled-clause-resumable
returns-in-Ok-filled-clause-resumable c =
    IfErr-weaker c.put_piece.result _ _ (λ why resumes blocks tree write_set names.
    resumes blocks tree write_set
    (has_inode c.args.write_set.now blocks tree c.args.number c.args.inode.now write_set
    (regular_of c.args.write_set.now blocks tree c.args.number c.args.inode.now write_set names)))
    c.put_piece.ensures.resumable

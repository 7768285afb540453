-- The blocks of an image in which a regular file was cut hold the tree with the file of this size.
use Rattle.std.proofs.Common.{◌≡◌, ℕ, ◌<◌, sym, ap, ◌∙◌, subst, true, cond, length, All, Some, Ok, Err, arith}
use Rattle.std.proofs.lemmas.Bool.{lt-ltb}
use Rattle.std.proofs.lemmas.List.Elements.{All-from_recursion}
use Rattle.base.specs.declared.TheConstants.{BLOCK_BYTES}
use Rattle.disk.specs.Crash.{Image}
use Rattle.nfs_spec.specs.Model.Node.{Body}
use Rattle.nfs_spec.specs.Model.SetAttr.{with_length}
use Rattle.nfs_spec.specs.Model.Tree.{Tree, with_node}
use Rattle.layout.specs.declared.fault.LayoutFault.TheVariants.{Range}
use Rattle.layout.specs.declared.geometry.Geometry.{Geometry}
use Rattle.layout.specs.declared.inode.Inode.{Inode}
use Rattle.layout.specs.Decode.{inode_at, node_with, numbers_of}
use Rattle.layout.specs.Holds.{Holds, PartsHold}
use Rattle.layout.specs.Owners.{owned_by}
use Rattle.layout.specs.Parts.{Parts, content_in, parts_of, put}
use Rattle.layout.specs.Places.{is_data}
use Rattle.layout.proofs.OnGrid.{data_within}
use Rattle.inode.specs.Shown.{body_in}
use Rattle.bitmap.proofs.Gained.{all_so}
use Rattle.bitmap.proofs.Held.{are_data}
use Rattle.inode.specs.WriteSets.Attributes.{attributed}
use Rattle.bitmap.specs.Inodes.Frees.{without}
use Rattle.bitmap.proofs.InodesLemmas.Without.{held_by}
use Rattle.inode_sizes.specs.Cut.{count_before, last_of, left_in, numbered}
use Rattle.inode_sizes.specs.CutBlocks.{IsCut, IsCutOf}
use Rattle.inode_sizes.specs.declared.cuts.CutPointers.{CutPointers}
use Rattle.inode_sizes.proofs.CutFile.{after, body_now, fewer, new, outside, rules}
use Rattle.inode_sizes.proofs.RegularThere.{IsRegularThere}
use Rattle.inode_sizes.proofs.Shrunk.{shrunk}

module _ (g : Geometry) (image : Image) (tree : Tree) (n : ℕ) (inode : Inode) (size : ℕ)
    (has : IsRegularThere g image tree n inode) (less : size < inode.size) (cut : CutPointers)
    (is : IsCutOf (content_in g image) inode (count_before size) cut) where
  -- what becomes free is in the image
  pub gone_below : All (λ q. q < g.blocks) cut.gone.items
  gone_below =
      All-from_recursion (λ q. q < g.blocks) cut.gone.items
      (all_so (λ q. q < g.blocks) cut.gone.items (λ q some.
      let all = fewer g image tree n inode size has less cut is inode q in
      (data_within g q (held_by (λ b. is_data g b ≡ true) (owned_by (content_in g image) (Ok (Some inode))) q
      (are_data g image tree has.holds n has.less (Ok (Some inode)) there) (omega (arith, all, some)))).1))
    where
      there : (parts_of g image).table n ≡ Ok (Some inode)
      there = ap (λ b. cond b (inode_at g image n) (Err Range)) (lt-ltb n g.inodes has.less) ∙ has.read

  module _ (looks : Inode) (final : Image)
      (cuts : IsCut g n
      (numbered (attributed inode looks) size cut.direct_part.numbers.items cut.indirect_part.pointer cut.double.pointer)
      (last_of (count_before size) (numbers_of (content_in g image) inode)) (left_in size) cut image final) where
    abbrev old : Inode
    old = attributed inode looks

    abbrev now : Parts
    now = record (parts_of g image) {
      table = put (parts_of g image).table n (Ok (Some (new g image tree n inode size has less cut is looks)));
      content = after g image tree n inode size has less cut is;
      block_bits = without cut.gone.items (parts_of g image).block_bits;
    }

    pub cut_holds : ((q : ℕ) → q < g.blocks → length (final q) ≡ BLOCK_BYTES)
        → Holds g final (with_node tree n (node_with old (with_length (Some size) (body_in g image old))))
    cut_holds long = record {
      bytes = λ q low. (long q low, cuts.bytes (λ b under. (has.holds.bytes b under).1) q low);
      parts = subst (λ parts. PartsHold g parts
          (with_node tree n (node_with old (with_length (Some size) (body_in g image old))))) (sym cuts.parts)
          (subst (λ (b : Body). PartsHold g now (with_node tree n (node_with old b)))
          (body_now g image tree n inode size has less cut is looks)
          (shrunk g image tree n inode (new g image tree n inode size has less cut is looks)
          (after g image tree n inode size has less cut is) cut.gone.items has.holds has.less has.read
          (outside g image tree n inode size has less cut is) (fewer g image tree n inode size has less cut is looks)
          (rules g image tree n inode size has less cut is looks)));
    }

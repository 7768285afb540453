-- An inode with the attributes of another, and its own kind, size and blocks.
use Rattle.std.proofs.Common.{◌≡◌, ℕ, ◌<◌, sym, ap, ◌∙◌, refl, subst, cond, List, [], ◌∷◌, length}
use Rattle.std.proofs.Common.{Some, Ok, Err, arith}
use Rattle.std.specs.List.{AllByRecursion}
use Rattle.std.proofs.lemmas.Bool.{eq-eqb, lt-ltb}
use Rattle.base.specs.declared.TheConstants.{INODE_BYTES}
use Rattle.disk.specs.Crash.{Image}
use Rattle.nfs_spec.specs.Model.Node.{Node}
use Rattle.nfs_spec.specs.Model.Tree.{Tree, node_at, with_node}
use Rattle.layout.specs.declared.fault.LayoutFault.TheVariants.{Range}
use Rattle.layout.specs.declared.geometry.Geometry.{Geometry}
use Rattle.layout.specs.declared.inode.Inode.{Inode}
use Rattle.layout.specs.declared.inode.InodeKind.{InodeKind}
use Rattle.layout.specs.declared.inode.InodeKind.TheVariants.{Regular, Directory, Link}
use Rattle.layout.specs.Decode.{IsFile, IsOfKind, bytes_of, file_of, inode_at, named_in, node_with}
use Rattle.layout.specs.Decode.{numbers_of, pointer_blocks}
use Rattle.layout.specs.Decode.{slot_bytes}
use Rattle.layout.specs.Holds.{Holds, PartsHold}
use Rattle.layout.specs.InodeForm.{SoundInode, inode_bytes}
use Rattle.layout.specs.Owners.{IsMarked, is_used, owned, owned_by}
use Rattle.layout.specs.Parts.{Parts, parts_of, put, with_inode}
use Rattle.layout.specs.Places.{inode_block, inode_offset}
use Rattle.layout.proofs.Frame.{ChangesOne, same_marks, same_owners, same_used}
use Rattle.layout.proofs.Spelled.{read_back, written-length}
use Rattle.layout.proofs.Written.{not_same, parts_written}
use Rattle.layout.proofs.WrittenBytes.{inode_are}
use Rattle.inode.specs.Shown.{body_in}
use Rattle.inode.specs.WriteSets.Attributes.{attributed}
use Rattle.inode.proofs.WriteSetsLemmas.OneFile.{below_last, blocks_still, numbered, one_file}

nothing_else : (content : Image) (numbers : List ℕ) → AllByRecursion (λ b. content b ≡ content b) numbers
nothing_else content [] = tt
nothing_else content (n ∷ numbers) = (refl, nothing_else content numbers)

-- it owns the same blocks, and keeps the rules of its kind
module _ (g : Geometry) (content : Image) (inode looks : Inode) where
  abbrev new : Inode
  new = attributed inode looks

  pub same_blocks : owned_by content (Ok (Some new)) ≡ owned_by content (Ok (Some inode))
  unfolding numbers_of pointer_blocks
  same_blocks = refl

  pub rules : (kind : InodeKind) → IsOfKind g content kind inode → IsOfKind g content kind new
  unfolding numbers_of pointer_blocks bytes_of slot_bytes named_in
  rules Regular is = record {
    mapped = record { pointers = is.mapped.pointers; numbers = is.mapped.numbers; used = is.mapped.used };
    zeros = is.zeros;
  }
  rules Directory is = record {
    mapped = record { pointers = is.mapped.pointers; numbers = is.mapped.numbers; used = is.mapped.used };
    spans = is.spans;
    slots = is.slots;
    once = is.once;
  }
  rules Link is = record { zeros = is.zeros }

module _ (g : Geometry) (blocks : Image) (tree : Tree) (n : ℕ) (inode looks : Inode) (node : Node)
    (holds : Holds g blocks tree) (was : node_at tree n ≡ Some node)
    (read : inode_at g blocks n ≡ Ok (Some inode)) (sound : SoundInode g (attributed inode looks)) where
  abbrev old : Parts
  old = parts_of g blocks

  abbrev new_inode : Inode
  new_inode = attributed inode looks

  abbrev new_parts : Parts
  new_parts = record old { table = put old.table n (Ok (Some new_inode)) }

  abbrev new_node : Node
  new_node = node_with new_inode (body_in g blocks new_inode)

  less : n < g.inodes
  less = below_last g blocks tree n node holds was

  on_disk : inode_block g n < g.blocks
  on_disk = let has_space = g.lawful.1.3 in let whole = g.lawful.1.2 in omega (arith, has_space, less, whole)

  table_is : old.table n ≡ Ok (Some inode)
  table_is = ap (λ b. cond b (inode_at g blocks n) (Err Range)) (lt-ltb n g.inodes less) ∙ read

  at_n : new_parts.table n ≡ Ok (Some new_inode)
  at_n = ap (λ b. cond b (Ok (Some new_inode)) (old.table n)) (eq-eqb n n refl)

  one : ChangesOne old new_parts n
  one = record {
    table = λ m not. ap (λ b. cond b (Ok (Some new_inode)) (old.table m)) (not_same m n not);
    content = λ m not. nothing_else old.content (owned_by old.content (old.table m));
  }

  owners : owned g new_parts ≡ owned g old
  owners = same_owners g old new_parts n one
      (ap (owned_by old.content) at_n ∙ same_blocks g old.content inode looks
      ∙ ap (owned_by old.content) (sym table_is))

  marked : IsMarked g new_parts
  marked = same_marks g old new_parts owners (same_used g old new_parts n one (ap is_used at_n
      ∙ ap is_used (sym table_is))) refl refl holds.parts.marked

  parts_hold : PartsHold g new_parts (with_node tree n new_node)
  parts_hold = one_file g old new_parts n tree new_node one holds.parts
      (numbered g old tree n node holds.parts was)
      (subst (IsFile g old.content) (sym at_n) (rules g old.content inode looks inode.kind
      (subst (IsFile g old.content) table_is (holds.parts.has.inodes n less))))
      (sym (ap (file_of g.inodes old.content) at_n)) marked

  size : length (inode_bytes new_inode) ≡ INODE_BYTES
  size = written-length new_inode sound.fits

  parts_are : parts_of g (with_inode g blocks n new_inode) ≡ new_parts
  parts_are = parts_written g blocks n (inode_bytes new_inode) (Some new_inode) g.lawful.1.2 less
      (holds.bytes (inode_block g n) on_disk).0 size (read_back new_inode sound.fits g sound.good)

  pub attributes_hold : Holds g (with_inode g blocks n new_inode) (with_node tree n new_node)
  attributes_hold = record {
    bytes = blocks_still blocks (inode_block g n) (inode_offset n) (inode_bytes new_inode) g.blocks holds.bytes
        (inode_are new_inode sound.fits) (let long = size in omega (arith, long));
    parts = subst (λ parts. PartsHold g parts (with_node tree n new_node)) (sym parts_are) parts_hold;
  }

-- The blocks with the inode of a new file, which has no blocks, hold the tree with this file.
use Rattle.std.proofs.Common.{◌≡◌, ℕ, ◌<◌, sym, ap, ◌∙◌, refl, subst, Bool, true, false, cond, ◌||◌, ◌&&◌}
use Rattle.std.proofs.Common.{List, [], ◌∷◌, ◌++◌, length, replicate, nat_eq, nat_le, Option, Some, None}
use Rattle.std.proofs.Common.{Result, Ok, Err, arith}
use Rattle.std.specs.Cmp.Lexicographic.{slice_cmp}
use Rattle.std.specs.FinMap.{len-empty}
use Rattle.std.specs.List.{flat_map, list_all}
use Rattle.std.specs.Ordering.{nat_cmp}
use Rattle.std.proofs.lemmas.Bool.{eq-eqb}
use Rattle.base.specs.declared.TheConstants.{BLOCK_BYTES, INODE_BYTES}
use Rattle.disk.specs.Crash.{Image}
use Rattle.nfs_spec.specs.Model.Node.{DirentValue, Node}
use Rattle.nfs_spec.specs.Model.Tree.{Tree, node_at, with_node}
use Rattle.nfs_spec.specs.Model.Tree as trees
use Rattle.nfs_spec.specs.Procedures.Fresh.{IsUnused}
use Rattle.layout.specs.declared.fault.LayoutFault.{LayoutFault}
use Rattle.layout.specs.declared.geometry.Geometry.{Geometry}
use Rattle.layout.specs.declared.inode.Inode.{Inode}
use Rattle.layout.specs.declared.inode.InodeKind.{InodeKind}
use Rattle.layout.specs.declared.inode.InodeKind.TheVariants.{Regular, Directory, Link}
use Rattle.layout.specs.Decode.{is_used_pointer, IsFile, IsOfKind, bytes_of, content_of, file_of, named_in, node_with}
use Rattle.layout.specs.Decode.{numbers_of}
use Rattle.layout.specs.Fields.{is_zeros}
use Rattle.layout.specs.Holds.{Holds, PartsHold}
use Rattle.layout.specs.InodeForm.{SoundInode, inode_bytes, is_data_block_or_none, is_sound_file, is_sound_inode}
use Rattle.layout.specs.InodeForm.{is_sound_kind, is_sound_link, is_sound_map}
use Rattle.layout.specs.Owners.{is_used, owned_by}
use Rattle.layout.specs.Parts.{Parts, parts_of, put, with_inode}
use Rattle.layout.specs.Places.{inode_block, inode_offset}
use Rattle.layout.proofs.FileNumbers.{direct_owned, direct_pass, pass_indirect_pointer}
use Rattle.layout.proofs.Frame.{ChangesOne}
use Rattle.layout.proofs.Spelled.{read_back, written-length}
use Rattle.layout.proofs.Written.{not_same, parts_written}
use Rattle.layout.proofs.WrittenBytes.{inode_are}
use Rattle.inode.specs.Shown.{body_in}
use Rattle.inode.proofs.AllTests.{all_three, all_two}
use Rattle.bitmap.specs.Bits.{MarksNumber}
use Rattle.inode.proofs.WriteSetsLemmas.Marks.{TakesAndDrops, moved_marks, times}
use Rattle.inode.proofs.WriteSetsLemmas.OneFile.{blocks_still, one_file}
use Rattle.bitmap.specs.Inodes.Emptied.{emptied}
use Rattle.bitmap.proofs.InodesLemmas.Cleared.{on_disk}
use Rattle.bitmap.proofs.InodesLemmas.Removed.{nothing_else}

-- ---- an inode that no file has

pub no_use : (inodes : ℕ) (content : Image) (read : Result (Option Inode) LayoutFault)
    → file_of inodes content read ≡ None → owned_by content read ≡ []
no_use inodes content (Ok (Some inode)) e = cc
no_use inodes content (Ok None) e = refl
no_use inodes content (Err fault) e = refl

-- ---- a file without blocks

zeros_of : (content : Image) (n : ℕ) → nat_eq n 0 ≡ true
    → content_of content n ≡ replicate BLOCK_BYTES 0
zeros_of content n e = ap (λ b. cond b (replicate BLOCK_BYTES 0) (content n)) e

all_append : (p : ℕ → Bool) (xs ys : List ℕ) → list_all p xs ≡ true → list_all p ys ≡ true
    → list_all p (xs ++ ys) ≡ true
all_append p [] ys first rest = rest
all_append p (x ∷ xs) ys first rest =
    let both = all_two (p x) (list_all p xs) first in
    λ i. both.0 i && all_append p xs ys both.1 rest i

block_zeros : list_all (λ byte. nat_eq byte 0) (replicate BLOCK_BYTES 0) ≡ true
block_zeros = refl

bytes_zero : (content : Image) (numbers : List ℕ) → list_all (λ n. nat_eq n 0) numbers ≡ true
    → is_zeros (bytes_of content numbers) ≡ true
unfolding bytes_of
bytes_zero content [] e = refl
bytes_zero content (n ∷ numbers) e =
    let both = all_two (nat_eq n 0) (list_all (λ k. nat_eq k 0) numbers) e in
    all_append (λ byte. nat_eq byte 0) (content_of content n) (flat_map (content_of content) numbers)
    (ap (list_all (λ byte. nat_eq byte 0)) (zeros_of content n both.0) ∙ block_zeros)
    (bytes_zero content numbers both.1)

module _ (g : Geometry) (content : Image) (inode : Inode) where
  no_numbers : list_all (λ n. nat_eq n 0) (numbers_of content (emptied inode)) ≡ true
  no_numbers = direct_pass content (emptied inode) refl refl (λ n. nat_eq n 0) refl refl

  pub owns_none : owned_by content (Ok (Some (emptied inode))) ≡ []
  owns_none = direct_owned content (emptied inode) refl refl

  pub rules : (kind : InodeKind) → is_sound_kind g kind (emptied inode) ≡ true
      → IsOfKind g content kind (emptied inode)
  unfolding named_in
  rules Regular good = record {
    mapped = record {
      pointers = pass_indirect_pointer content (emptied inode) refl (is_data_block_or_none g) refl refl refl;
      numbers = direct_pass content (emptied inode) refl refl (is_data_block_or_none g) refl refl;
      used = pass_indirect_pointer content (emptied inode) refl (is_used_pointer content) refl refl refl;
    };
    zeros = bytes_zero content (numbers_of content (emptied inode)) no_numbers;
  }
  rules Directory good = record {
    mapped = record {
      pointers = pass_indirect_pointer content (emptied inode) refl (is_data_block_or_none g) refl refl refl;
      numbers = direct_pass content (emptied inode) refl refl (is_data_block_or_none g) refl refl;
      used = pass_indirect_pointer content (emptied inode) refl (is_used_pointer content) refl refl refl;
    };
    spans = no_numbers;
    slots = λ k d less. absurd (omega (arith, less));
    once = len-empty (slice_cmp nat_cmp) DirentValue;
  }
  rules Link good =
      let three = all_three (is_sound_file (emptied inode)) (is_sound_map g (emptied inode))
      (is_sound_link (emptied inode)) good in
      let clash : false ≡ true = three.2 in cc

pub either_true : (a b c : Bool) → c ≡ true → (a || b || c) ≡ true
either_true true b c e = refl
either_true false true c e = refl
either_true false false c e = e

module _ (g : Geometry) (old : Image) (tree : Tree) (n : ℕ) (inode : Inode) (holds : Holds g old tree)
    (unused : IsUnused tree n) (sound : SoundInode g (emptied inode)) where
  abbrev was : Parts
  was = parts_of g old

  abbrev new_inode : Inode
  new_inode = emptied inode

  abbrev new : Parts
  new = record was {
    table = put was.table n (Ok (Some new_inode));
    inode_bits = put was.inode_bits n true;
  }

  abbrev node : Node
  node = node_with new_inode (body_in g old new_inode)

  less : n < g.inodes
  less =
      let same : tree.geometry.inodes ≡ g.inodes =
      ap (λ (one : trees.Geometry). one.inodes) holds.parts.geometry in
      let most = unused.most in omega (arith, most, same)

  at_n : new.table n ≡ Ok (Some new_inode)
  at_n = ap (λ b. cond b (Ok (Some new_inode)) (was.table n)) (eq-eqb n n refl)

  one : ChangesOne was new n
  one = record {
    table = λ m not. ap (λ b. cond b (Ok (Some new_inode)) (was.table m)) (not_same m n not);
    content = λ m not. nothing_else was.content (owned_by was.content (was.table m));
  }

  old_blocks : owned_by was.content (was.table n) ≡ []
  old_blocks = no_use g.inodes was.content (was.table n) (sym (holds.parts.has.files n) ∙ unused.free)

  new_blocks : owned_by new.content (new.table n) ≡ []
  new_blocks = ap (owned_by was.content) at_n ∙ owns_none g was.content inode

  moves : TakesAndDrops g was new n
  moves = record {
    once = λ b. let none = ap (times b) new_blocks in omega (arith, none);
    free = λ b has hadnt. let none = ap (times b) new_blocks in absurd (omega (arith, has, none));
    has = λ b low has. let none = ap (times b) new_blocks in absurd (omega (arith, has, none));
    dropped = λ b low hasnt had. let none = ap (times b) old_blocks in absurd (omega (arith, had, none));
    others = λ b low hasnt hadnt. refl;
    inodes = λ m not. ap (λ t. cond t true (was.inode_bits m)) (not_same m n not);
    itself = λ low. ap (λ t. cond t true (was.inode_bits n)) (eq-eqb n n refl)
        ∙ sym (either_true (nat_eq n 0) (nat_le g.inodes n) (is_used (new.table n)) (ap is_used at_n));
  }

  of_kind : IsOfKind g was.content new_inode.kind new_inode
  unfolding is_sound_inode
  of_kind = rules g was.content inode inode.kind sound.good

  parts_hold : PartsHold g new (with_node tree n node)
  parts_hold = one_file g was new n tree node one holds.parts unused.least
      (subst (IsFile g was.content) (sym at_n) of_kind) (sym (ap (file_of g.inodes was.content) at_n))
      (moved_marks g was new n one less holds.parts.marked moves)

  size : length (inode_bytes new_inode) ≡ INODE_BYTES
  size = written-length new_inode sound.fits

  pub made : (middle : Image) → MarksNumber g n true old middle
      → ((number : ℕ) → number < g.blocks → length (middle number) ≡ BLOCK_BYTES)
      → Holds g (with_inode g middle n new_inode) (with_node tree n node)
  made middle marks long = record {
    bytes = blocks_still middle (inode_block g n) (inode_offset n) (inode_bytes new_inode) g.blocks
        (λ number low. (long number low, marks.bytes (λ k under. (holds.bytes k under).1) number low))
        (inode_are new_inode sound.fits) (let count = size in omega (arith, count));
    parts = subst (λ parts. PartsHold g parts (with_node tree n node)) (sym parts_are) parts_hold;
  }
    where
      parts_are : parts_of g (with_inode g middle n new_inode) ≡ new
      parts_are =
          parts_written g middle n (inode_bytes new_inode) (Some new_inode) g.lawful.1.2 less
          (long (inode_block g n) (on_disk g n less)) size (read_back new_inode sound.fits g sound.good)
          ∙ (λ i. record (marks.parts i) { table = put (marks.parts i).table n (Ok (Some new_inode)) })

-- A regular file of which the size grew, up to which zeros lie already.
use Rattle.std.proofs.Common.{◌≡◌, ℕ, zero, suc, ◌+◌, ◌-◌, ◌<◌, ◌≤◌, sym, ap, ◌∙◌, refl, subst, true, false}
use Rattle.std.proofs.Common.{cond, ◌&&◌, ◌*◌, nat_lt, List, [], ◌∷◌, ◌++◌, length, take, drop, replicate, nat_eq}
use Rattle.std.proofs.Common.{nat_le, Some, Ok, arith}
use Rattle.std.specs.FinSet.{retain}
use Rattle.std.specs.List.{list_all}
use Rattle.std.proofs.lemmas.Bool.{le-leb}
use Rattle.base.specs.declared.TheConstants.{BLOCK_BYTES, INODE_BYTES, LARGEST_FILE}
use Rattle.disk.specs.Crash.{Image}
use Rattle.nfs_spec.specs.Model.Cost.{cost, file_cost}
use Rattle.nfs_spec.specs.Model.Node as model
use Rattle.nfs_spec.specs.Model.SetAttr.{mapped_of_size, resized, with_length}
use Rattle.nfs_spec.specs.Model.Tree.{Tree, with_node}
use Rattle.layout.specs.declared.geometry.Geometry.{Geometry}
use Rattle.layout.specs.declared.inode.Inode.{Inode}
use Rattle.layout.specs.declared.inode.InodeKind.{InodeKind}
use Rattle.layout.specs.declared.inode.InodeKind.TheVariants as kinds
use Rattle.layout.specs.Decode.{IsOfKind, IsRegular, body_of, bytes_of, inode_at, mapped_of, node_with, numbers_of}
use Rattle.layout.specs.Decode.{pointer_blocks}
use Rattle.layout.specs.Fields.{is_zeros}
use Rattle.layout.specs.Holds.{Holds, PartsHold}
use Rattle.layout.specs.InodeForm.{SoundInode, inode_bytes, is_sound_file, is_sound_inode, is_sound_map}
use Rattle.layout.specs.InodeForm.{is_sound_kind, is_sound_regular}
use Rattle.layout.specs.Owners.{owned_by}
use Rattle.layout.specs.Parts.{content_in, parts_of, put, with_inode}
use Rattle.layout.specs.Places.{inode_block, inode_offset}
use Rattle.layout.proofs.FreshFiles.{not_below}
use Rattle.layout.proofs.Spelled.{read_back, written-length}
use Rattle.layout.proofs.Written.{parts_written}
use Rattle.layout.proofs.WrittenBytes.{inode_are}
use Rattle.inode.proofs.AllTests.{all_three, all_two, same_number}
use Rattle.inode.proofs.FileSizes.{bytes-length, regular_size}
use Rattle.inode.proofs.InodeThere.{is_of_kind, is_read, long}
use Rattle.inode.specs.Shown.{body_in}
use Rattle.inode.specs.WriteSets.Attributes.{attributed}
use Rattle.inode.proofs.WriteSetsLemmas.Marks.{times}
use Rattle.inode.proofs.WriteSetsLemmas.OneFile.{blocks_still}
use Rattle.bitmap.proofs.InodesLemmas.Cleared.{on_disk}
use Rattle.layout.proofs.AllNumbers.{all-length}
use Rattle.inode_sizes.proofs.Shrunk.{shrunk}
use Rattle.inode_sizes.specs.Sized.{is_regular_kind, sized}

-- ---- bytes

-- zeros are as many zeros
are_zeros : (bytes : List ℕ) → is_zeros bytes ≡ true → bytes ≡ replicate (length bytes) 0
are_zeros [] e = refl
are_zeros (b ∷ bytes) e =
    let both = all_two (nat_eq b 0) (list_all (λ byte. nat_eq byte 0) bytes) e in
    λ i. same_number b 0 both.0 i ∷ are_zeros bytes both.1 i

later_zeros : (bytes : List ℕ) (k : ℕ) → is_zeros bytes ≡ true → is_zeros (drop k bytes) ≡ true
later_zeros bytes zero e = e
later_zeros [] (suc k) e = refl
later_zeros (b ∷ bytes) (suc k) e =
    later_zeros bytes k (all_two (nat_eq b 0) (list_all (λ byte. nat_eq byte 0) bytes) e).1

past_zeros : (bytes : List ℕ) (a b : ℕ) → a ≤ b → is_zeros (drop a bytes) ≡ true
    → is_zeros (drop b bytes) ≡ true
past_zeros bytes zero b low e = later_zeros bytes b e
past_zeros [] (suc a) b low e = none b
  where
    none : (b : ℕ) → is_zeros (drop b []) ≡ true
    none zero = refl
    none (suc b) = refl
past_zeros (x ∷ bytes) (suc a) zero low e = absurd (omega (arith, low))
past_zeros (x ∷ bytes) (suc a) (suc b) low e = past_zeros bytes a b (omega (arith, low)) e

first_zeros : (bytes : List ℕ) (k : ℕ) → k ≤ length bytes → is_zeros bytes ≡ true
    → take k bytes ≡ replicate k 0
first_zeros bytes zero low e = refl
first_zeros [] (suc k) low e = absurd (omega (arith, low))
first_zeros (b ∷ bytes) (suc k) low e =
    let both = all_two (nat_eq b 0) (list_all (λ byte. nat_eq byte 0) bytes) e in
    λ i. same_number b 0 both.0 i ∷ first_zeros bytes k (omega (arith, low)) both.1 i

-- filled up with the zeros behind them
filled_up : (all : List ℕ) (a b : ℕ) → a ≤ b → b ≤ length all → is_zeros (drop a all) ≡ true
    → take b all ≡ take a all ++ replicate (b - a) 0
filled_up all zero b low most e = first_zeros all b most e ∙ ap {B = List ℕ} (λ k. replicate k 0) (omega arith)
filled_up [] (suc a) b low most e = absurd (omega (arith, low, most))
filled_up (x ∷ all) (suc a) zero low most e = absurd (omega (arith, low))
filled_up (x ∷ all) (suc a) (suc b) low most e =
    ap (λ l. x ∷ l) (filled_up all a b (omega (arith, low)) (omega (arith, most)) e)
    ∙ ap {B = List ℕ} (λ k. x ∷ (take a all ++ replicate k 0)) (omega arith)

-- ---- the file

module _ (g : Geometry) (content : Image) (inode looks : Inode) (size : ℕ) where
  abbrev new : Inode
  new = sized (attributed inode looks) size

  same_numbers : numbers_of content new ≡ numbers_of content inode
  unfolding numbers_of
  same_numbers = refl

  grown_rules : inode.size ≤ size → IsRegular g content inode → IsRegular g content new
  unfolding numbers_of pointer_blocks
  grown_rules more is = record {
    mapped = record { pointers = is.mapped.pointers; numbers = is.mapped.numbers; used = is.mapped.used };
    zeros = past_zeros (bytes_of content (numbers_of content inode)) inode.size size more is.zeros;
  }

  grown_body : inode.size ≤ size → size ≤ length (bytes_of content (numbers_of content inode))
      → is_zeros (drop inode.size (bytes_of content (numbers_of content inode))) ≡ true
      → length (take inode.size (bytes_of content (numbers_of content inode))) ≡ inode.size
      → model.Regular (take size (bytes_of content (numbers_of content inode)))
      (mapped_of (numbers_of content inode))
      ≡ with_length (Some size)
      (model.Regular (take inode.size (bytes_of content (numbers_of content inode)))
      (mapped_of (numbers_of content inode)))
  grown_body more most zeros whole = λ i. model.Regular (bytes i) (mapped i)
    where
      all : List ℕ
      all = bytes_of content (numbers_of content inode)

      bytes : take size all ≡ resized size (take inode.size all)
      bytes = filled_up all inode.size size more most zeros
          ∙ sym (ap (λ l. l ++ replicate (size - length (take inode.size all)) 0)
          (take_take all inode.size size more)
          ∙ ap (λ k. take inode.size all ++ replicate (size - k) 0) whole)
        where
          take_take : (xs : List ℕ) (a b : ℕ) → a ≤ b → take b (take a xs) ≡ take a xs
          take_take xs zero zero low = refl
          take_take xs zero (suc b) low = refl
          take_take xs (suc a) zero low = absurd (omega (arith, low))
          take_take [] (suc a) (suc b) low = refl
          take_take (x ∷ xs) (suc a) (suc b) low = ap (λ l. x ∷ l) (take_take xs a b (omega (arith, low)))

      mapped : mapped_of (numbers_of content inode)
          ≡ mapped_of_size size (take inode.size all) (mapped_of (numbers_of content inode))
      mapped = sym (ap (λ t. cond t (retain (mapped_of (numbers_of content inode))
          (λ index. nat_lt (index * BLOCK_BYTES) size)) (mapped_of (numbers_of content inode)))
          (not_below size (length (take inode.size all)) (omega (arith, more, whole))))

  grown_cost : inode.size ≤ size
      → length (take inode.size (bytes_of content (numbers_of content inode))) ≡ inode.size
      → cost (with_length (Some size)
      (model.Regular (take inode.size (bytes_of content (numbers_of content inode)))
      (mapped_of (numbers_of content inode))))
      ≡ cost (model.Regular (take inode.size (bytes_of content (numbers_of content inode)))
      (mapped_of (numbers_of content inode)))
  grown_cost more whole =
      ap file_cost (ap (λ t. cond t
      (retain (mapped_of (numbers_of content inode)) (λ index. nat_lt (index * BLOCK_BYTES) size))
      (mapped_of (numbers_of content inode)))
      (not_below size (length (take inode.size (bytes_of content (numbers_of content inode))))
      (omega (arith, more, whole))))

-- what is no regular file has no other length
other_length : (g : Geometry) (image : Image) (inode : Inode) (size : ℕ) (kind : InodeKind)
    → inode.kind ≡ kind → is_regular_kind kind ≡ false
    → body_in g image inode ≡ with_length (Some size) (body_in g image inode)
other_length g image inode size kinds.Regular is other = cc
other_length g image inode size kinds.Directory is other =
    subst (λ k. body_of g.inodes (content_in g image) k inode
    ≡ with_length (Some size) (body_of g.inodes (content_in g image) k inode)) (sym is) refl
other_length g image inode size kinds.Link is other =
    subst (λ k. body_of g.inodes (content_in g image) k inode
    ≡ with_length (Some size) (body_of g.inodes (content_in g image) k inode)) (sym is) refl

pub preserves_length : (g : Geometry) (image : Image) (inode : Inode) (size : ℕ)
    → is_regular_kind inode.kind ≡ false → body_in g image inode ≡ with_length (Some size) (body_in g image inode)
preserves_length g image inode size other = other_length g image inode size inode.kind refl other

module _ (g : Geometry) (image : Image) (tree : Tree) (n : ℕ) (inode looks : Inode) (size : ℕ)
    (holds : Holds g image tree) (less : n < g.inodes) (read : inode_at g image n ≡ Ok (Some inode))
    (regular : inode.kind ≡ kinds.Regular) (more : inode.size ≤ size) (most : size ≤ LARGEST_FILE)
    (sound : SoundInode g (attributed inode looks)) where
  abbrev content : Image
  content = content_in g image

  abbrev shown : Inode
  shown = attributed inode looks

  abbrev grown : Inode
  grown = sized shown size

  good : is_sound_inode g grown ≡ true
  unfolding is_sound_inode
  good =
      let old = subst (λ k. is_sound_kind g k shown ≡ true) regular sound.good in
      let three = all_three (is_sound_file shown) (is_sound_map g shown) (is_sound_regular shown) old in
      let two = all_two (nat_le shown.size LARGEST_FILE) (nat_eq shown.parent 0) three.2 in
      subst (λ k. is_sound_kind g k grown ≡ true) (sym regular)
      (λ i. three.0 i && three.1 i && (le-leb size LARGEST_FILE most i && two.1 i))

  grown_sound : SoundInode g grown
  grown_sound = record {
    fits = record {
      mode = sound.fits.mode;
      uid = sound.fits.uid;
      gid = sound.fits.gid;
      nlink = sound.fits.nlink;
      size = omega (arith, most);
      atime = sound.fits.atime;
      mtime = sound.fits.mtime;
      ctime = sound.fits.ctime;
      boot = sound.fits.boot;
      transaction = sound.fits.transaction;
      parent = sound.fits.parent;
      verifier = sound.fits.verifier;
      count = sound.fits.count;
      direct = sound.fits.direct;
      indirect = sound.fits.indirect;
      double = sound.fits.double;
    };
    good = good;
  }

  file : IsRegular g content inode
  file = subst (λ k. IsOfKind g content k inode) regular (is_of_kind g image tree n inode holds less read)

  rules : IsOfKind g content grown.kind grown
  rules = subst (λ k. IsOfKind g content k grown) (sym regular)
      (grown_rules g content inode looks size more file)

  was_sound : SoundInode g inode
  was_sound = is_read g image tree n inode holds less read

  all_long : length (bytes_of content (numbers_of content inode)) ≡ LARGEST_FILE
  all_long =
      let bytes = bytes-length content (long g image tree n inode holds less read) (numbers_of content inode) in
      let count = all-length content inode was_sound.fits.count in
      omega (arith, bytes, count)

  old_long : length (take inode.size (bytes_of content (numbers_of content inode))) ≡ inode.size
  old_long = regular_size content inode was_sound.fits.count (long g image tree n inode holds less read)
      (omega (arith, more, most))

  body_is : body_in g image grown ≡ with_length (Some size) (body_in g image shown)
  unfolding numbers_of
  body_is = subst (λ k. body_of g.inodes content k grown ≡ with_length (Some size) (body_of g.inodes content k shown))
      (sym regular)
      (grown_body g content inode looks size more (let whole = all_long in omega (arith, most, whole)) file.zeros
      old_long)

  pub same_cost : cost (with_length (Some size) (body_in g image shown)) ≡ cost (body_in g image shown)
  unfolding numbers_of
  same_cost = subst (λ k. cost (with_length (Some size) (body_of g.inodes content k shown))
      ≡ cost (body_of g.inodes content k shown)) (sym regular)
      (grown_cost g content inode looks size more old_long)

  parts_hold : PartsHold g (record (parts_of g image) { table = put (parts_of g image).table n (Ok (Some grown)) })
      (with_node tree n (node_with grown (body_in g image grown)))
  unfolding numbers_of pointer_blocks
  parts_hold = shrunk g image tree n inode grown content [] holds less read (λ b none. refl)
      (λ b. plus_none (times b (owned_by content (Ok (Some inode))))) rules
    where
      plus_none : (k : ℕ) → k + 0 ≡ k
      plus_none k = omega arith

  spelled : length (inode_bytes grown) ≡ INODE_BYTES
  spelled = written-length grown grown_sound.fits

  pub grows : Holds g (with_inode g image n grown)
      (with_node tree n (node_with shown (with_length (Some size) (body_in g image shown))))
  grows = record {
    bytes = blocks_still image (inode_block g n) (inode_offset n) (inode_bytes grown) g.blocks holds.bytes
        (inode_are grown grown_sound.fits) (let count = spelled in omega (arith, count));
    parts = subst (λ (b : model.Body). PartsHold g (parts_of g (with_inode g image n grown))
        (with_node tree n (node_with shown b))) body_is
        (subst (λ parts. PartsHold g parts (with_node tree n (node_with grown (body_in g image grown))))
        (sym (parts_written g image n (inode_bytes grown) (Some grown) g.lawful.1.2 less
        (holds.bytes (inode_block g n) (on_disk g n less)).0 spelled (read_back grown grown_sound.fits g good)))
        parts_hold);
  }

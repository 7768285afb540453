-- A regular file in one of whose blocks a piece of bytes was written: the parts hold the tree with these bytes
-- in the file.
use Rattle.std.proofs.Common.{◌≡◌, ℕ, suc, ◌+◌, ◌-◌, ◌*◌, ◌/◌, ◌%◌, ◌<◌, ◌≤◌, sym, ap, ◌∙◌, refl, subst}
use Rattle.std.proofs.Common.{Bool, true, false, cond, ◌&&◌, ◌||◌, not, List, [], ◌∷◌, ◌++◌, length, get_or, take}
use Rattle.std.proofs.Common.{drop, replicate, nat_eq, nat_le, filter, Some, Ok, arith}
use Rattle.std.specs.List.{flat_map, list_all, range_with_len}
use Rattle.std.proofs.lemmas.Bool.Decides.{nat_tests}
use Rattle.base.specs.declared.TheConstants.{BLOCK_BYTES, FILE_INDEXES, LARGEST_FILE}
use Rattle.disk.specs.Crash.{Image}
use Rattle.objects.specs.Spliced.{spliced}
use Rattle.nfs_spec.specs.Model.Node as nodes
use Rattle.nfs_spec.specs.Model.Node.{Body}
use Rattle.nfs_spec.specs.Model.Tree.{Tree, with_node}
use Rattle.nfs_spec.specs.Procedures.Write.{mapped_with, touched, with_text}
use Rattle.layout.specs.declared.geometry.Geometry.{Geometry}
use Rattle.layout.specs.declared.inode.Inode.{Inode}
use Rattle.layout.specs.declared.inode.InodeKind.TheVariants as kinds
use Rattle.layout.specs.Decode.{IsOfKind, IsRegular, body_of, bytes_of, content_of, mapped_of, node_with}
use Rattle.layout.specs.Decode.{numbers_in, numbers_of, pointer_blocks, regular_in}
use Rattle.layout.specs.Fields.{is_zeros}
use Rattle.layout.specs.Holds.{PartsHold}
use Rattle.layout.specs.InodeForm.{SoundInode, is_data_block_or_none, is_sound_file, is_sound_inode}
use Rattle.layout.specs.InodeForm.{is_sound_kind, is_sound_map, is_sound_regular}
use Rattle.layout.specs.Owners.{owned_by}
use Rattle.layout.specs.Parts.{content_in}
use Rattle.inode.proofs.WriteSetsLemmas.Marks.{times}
use Rattle.layout.specs.Places.{is_data}
use Rattle.layout.proofs.AllNumbers.{all-length}
use Rattle.layout.proofs.FileNumbers.{pointers_pass}
use Rattle.layout.proofs.OnGrid.{data_within}
use Rattle.layout.proofs.Written.{not_same}
use Rattle.inode.proofs.AllTests.{all_three, all_two, no_more}
use Rattle.inode.proofs.FileSizes.{bytes-length}
use Rattle.inode.proofs.InodeThere.{is_of_kind, is_read, is_sound, long}
use Rattle.bitmap.proofs.Gained.{grown, grown_holds}
use Rattle.inode_data.specs.Filling.{Fills, HasRegular, IsPiece, grown_size, mapping}
use Rattle.inode_data.proofs.OneNumber.{all_still, is_some, mapped_more}
use Rattle.inode_data.proofs.OverBytes.{file_bytes, one_block, zeros_behind}

pub not_zero : (g : Geometry) (b : ℕ) → is_data g b ≡ true → nat_eq b 0 ≡ false
not_zero g b is = let past = (data_within g b is).0 in not_same b 0 (λ zero. omega (arith, past, zero))

pub or_data : (g : Geometry) (b : ℕ) → is_data g b ≡ true → is_data_block_or_none g b ≡ true
or_data g b is = by (nat_eq b 0)
  where
    by : (t : Bool) → (t || is_data g b) ≡ true
    by true = refl
    by false = is

module _ (g : Geometry) (base : Image) (tree : Tree) (n : ℕ) (inode : Inode)
    (has : HasRegular g base tree n inode) where
  abbrev pub content : Image
  content = content_in g base

  abbrev pub numbers : List ℕ
  numbers = numbers_of content inode

  pub sound : SoundInode g inode
  sound = is_read g base tree n inode has.holds has.less has.read

  pub count : length numbers ≡ FILE_INDEXES
  count = all-length content inode sound.fits.count

  pub long_content : (q : ℕ) → length (content q) ≡ BLOCK_BYTES
  long_content = long g base tree n inode has.holds has.less has.read

  pub rules : IsRegular g content inode
  rules = subst (λ kind. IsOfKind g content kind inode) has.regular
      (is_of_kind g base tree n inode has.holds has.less has.read)

  good : is_sound_kind g kinds.Regular inode ≡ true
  good = subst (λ kind. is_sound_kind g kind inode ≡ true) has.regular
      (is_sound g base tree n inode has.holds has.less has.read)

  tests : (is_sound_file inode ≡ true) × (is_sound_map g inode ≡ true) × (is_sound_regular inode ≡ true)
  tests = all_three (is_sound_file inode) (is_sound_map g inode) (is_sound_regular inode) good

  pub size_fits : inode.size ≤ LARGEST_FILE
  size_fits = no_more inode.size LARGEST_FILE (all_two (nat_le inode.size LARGEST_FILE) (nat_eq inode.parent 0)
      tests.2).0

  pub bytes_count : length (bytes_of content numbers) ≡ LARGEST_FILE
  bytes_count = let all = bytes-length content long_content numbers in let many = count in omega (arith, all, many)

  one_long : (q : ℕ) → length (content_of content q) ≡ BLOCK_BYTES
  one_long q = by_test (nat_eq q 0)
    where
      by_test : (none : Bool) → length (cond none (replicate BLOCK_BYTES 0) (content q)) ≡ BLOCK_BYTES
      by_test true = refl
      by_test false = long_content q

  module _ (offset : ℕ) (piece : List ℕ) (is : IsPiece offset piece) (b : ℕ) (direct : List ℕ)
      (indirect_block double : ℕ) (after : Image) (gained : List ℕ)
      (fills : Fills g base inode offset piece b direct indirect_block double after gained) where
    abbrev index : ℕ
    index = offset / BLOCK_BYTES

    abbrev pub new : Inode
    new = mapping inode (grown_size inode.size offset piece) direct indirect_block double

    low : index < length numbers
    low = let many = count in let small = is.small in let some = is.some in omega (arith, many, small, some)

    b_some : nat_eq b 0 ≡ false
    b_some = not_zero g b fills.lies

    here : content_of after b ≡ spliced (content_of content (get_or numbers index 0)) (offset % BLOCK_BYTES) piece
    here = ap (λ t. cond t (replicate BLOCK_BYTES 0) (after b)) b_some ∙ fills.here

    others : (j : ℕ) → j < length numbers → (j ≡ index → ⊥)
        → content_of after (get_or numbers j 0) ≡ content_of content (get_or numbers j 0)
    others j less not = by_test (nat_eq (get_or numbers j 0) 0) refl
      where
        by_test : (none : Bool) → nat_eq (get_or numbers j 0) 0 ≡ none
            → cond none (replicate BLOCK_BYTES 0) (after (get_or numbers j 0))
            ≡ cond none (replicate BLOCK_BYTES 0) (content (get_or numbers j 0))
        by_test true e = refl
        by_test false e = fills.others j less not e

    bytes_now : bytes_of after (numbers_of after new) ≡ spliced (bytes_of content numbers) offset piece
    unfolding bytes_of
    bytes_now =
        let there : BLOCK_BYTES * index + offset % BLOCK_BYTES ≡ offset = omega arith in
        ap (flat_map (content_of after)) fills.now
        ∙ one_block (content_of content) (content_of after) numbers index b (offset % BLOCK_BYTES) piece low one_long
        is.within others here
        ∙ ap (λ k. spliced (flat_map (content_of content) numbers) k piece) there

    has_space : offset + length piece ≤ length (bytes_of content numbers)
    has_space = let all = bytes_count in let small = is.small in omega (arith, all, small)

    few : inode.size ≤ length (bytes_of content numbers)
    few = let all = bytes_count in let small = size_fits in omega (arith, all, small)

    one_touched : touched offset (length piece) ≡ index ∷ []
    one_touched =
        let same : (offset + length piece - 1) / BLOCK_BYTES - offset / BLOCK_BYTES ≡ 0 =
        let some = is.some in let within = is.within in omega (arith, some, within) in
        ap (λ k. range_with_len index (suc k)) same

    mapped_now : mapped_of (numbers_of after new) ≡ mapped_with (touched offset (length piece)) (mapped_of numbers)
    mapped_now =
        ap mapped_of fills.now ∙ mapped_more numbers index b low (ap not b_some)
        ∙ sym (ap (λ indexes. mapped_with indexes (mapped_of numbers)) one_touched)

    pub regular_body : regular_in after new ≡ with_text offset piece (regular_in content inode)
    regular_body = λ i. nodes.Regular
        ((ap (take (grown_size inode.size offset piece)) bytes_now
        ∙ file_bytes (bytes_of content numbers) piece offset inode.size has_space few rules.zeros) i)
        (mapped_now i)

    pub body_is : body_of g.inodes after inode.kind new
        ≡ with_text offset piece (body_of g.inodes content inode.kind inode)
    body_is = ap (λ kind. body_of g.inodes after kind new) has.regular ∙ regular_body
        ∙ sym (ap (λ kind. with_text offset piece (body_of g.inodes content kind inode)) has.regular)

    -- ---- its rules

    rules_now : IsRegular g after new
    rules_now = record {
      mapped = record {
        pointers = fills.pointers_placed;
        numbers = ap (list_all (is_data_block_or_none g)) fills.now
            ∙ all_still (is_data_block_or_none g) numbers index b rules.mapped.numbers (or_data g b fills.lies);
        used = fills.used;
      };
      zeros = ap (λ l. is_zeros (drop (grown_size inode.size offset piece) l)) bytes_now
          ∙ zeros_behind (bytes_of content numbers) piece offset inode.size has_space few rules.zeros;
    }

    pub new_sound : SoundInode g new
    unfolding is_sound_inode
    new_sound = record {
      fits = record {
        mode = sound.fits.mode;
        uid = sound.fits.uid;
        gid = sound.fits.gid;
        nlink = sound.fits.nlink;
        size = let one = size_fits in let two = is.small in omega (arith, one, two);
        atime = sound.fits.atime;
        mtime = sound.fits.mtime;
        ctime = sound.fits.ctime;
        boot = sound.fits.boot;
        transaction = sound.fits.transaction;
        parent = sound.fits.parent;
        verifier = sound.fits.verifier;
        count = fills.count;
        direct = fills.fit;
        indirect = fills.indirect_fits;
        double = fills.double_fits;
      };
      good = subst (λ kind. is_sound_kind g kind new ≡ true) (sym has.regular)
          (λ i. tests.0 i && (fills.placed i && named.0 i && named.1 i && fills.has_double i)
          && (largest i && parent i));
    }
      where
        named : (is_data_block_or_none g indirect_block ≡ true) × (is_data_block_or_none g double ≡ true)
            × (list_all (is_data_block_or_none g) (numbers_in after double) ≡ true)
        named = pointers_pass after new (is_data_block_or_none g) fills.pointers_placed

        largest : nat_le (grown_size inode.size offset piece) LARGEST_FILE ≡ true
        largest = let one = size_fits in let two = is.small in
            at_most (grown_size inode.size offset piece) LARGEST_FILE (omega (arith, one, two))
          where
            at_most : (a b : ℕ) → a ≤ b → nat_le a b ≡ true
            at_most a b few = grind (arith, nat_tests)

        parent : nat_eq inode.parent 0 ≡ true
        parent = (all_two (nat_le inode.size LARGEST_FILE) (nat_eq inode.parent 0) tests.2).1

    counted : (q : ℕ) → times q (owned_by after (Ok (Some new)))
        ≡ times q gained + times q (owned_by content (Ok (Some inode)))
    counted q = ap (λ l. times q (filter is_some (pointer_blocks after new ++ l))) fills.now ∙ fills.counted q

    of_kind : IsOfKind g after new.kind new
    of_kind = subst (λ kind. IsOfKind g after kind new) (sym has.regular) rules_now

    pub piece_holds : PartsHold g (grown g base n new after gained)
        (with_node tree n (node_with inode (with_text offset piece (body_of g.inodes content inode.kind inode))))
    piece_holds = subst (λ (body : Body). PartsHold g (grown g base n new after gained)
        (with_node tree n (node_with inode body))) body_is
        (grown_holds g base tree n inode new gained after has.holds has.less has.read fills.were_free fills.once
        fills.outside counted of_kind)

-- Blocks of an image in which a file's block was written, the pointer blocks that name it where some do, and the
-- file's inode.
use Rattle.std.proofs.Common.{◌≡◌, ℕ, ◌<◌, inl, inr, sym, ap, ◌∙◌, refl, subst, true, cond, List, length, replicate}
use Rattle.std.proofs.Common.{Some, Ok, Err, arith}
use Rattle.std.proofs.lemmas.Bool.{cases_lt, eq-eqb, lt-ltb}
use Rattle.std.proofs.lemmas.List.{get_or-replicate, get_or_past}
use Rattle.base.specs.declared.TheConstants.{BLOCK_BYTES}
use Rattle.disk.specs.Crash.{Image}
use Rattle.nfs_types.specs.Fits.{AreBytes}
use Rattle.objects.specs.Spliced.{spliced}
use Rattle.nfs_spec.specs.Model.Tree.{Tree, with_node}
use Rattle.layout.specs.declared.fault.LayoutFault.TheVariants.{Range}
use Rattle.layout.specs.declared.geometry.Geometry.{Geometry}
use Rattle.layout.specs.declared.inode.Inode.{Inode}
use Rattle.layout.specs.Decode.{inode_at}
use Rattle.layout.specs.Fields.{four_bytes}
use Rattle.layout.specs.Holds.{Holds, PartsHold}
use Rattle.layout.specs.InodeForm.{SoundInode}
use Rattle.layout.specs.Parts.{content_in, parts_of, put, table_of, with_bytes, with_inode}
use Rattle.layout.specs.Places.{is_data}
use Rattle.layout.proofs.FreshBytes.{four}
use Rattle.layout.proofs.OnGrid.{data_within}
use Rattle.layout.proofs.WrittenBytes.{spliced-bytes}
use Rattle.bitmap.specs.NewBlock.{HasTaken, marking}
use Rattle.bitmap.proofs.Gained.{grown}
use Rattle.inode_data.specs.Filling.{Fills, grown_size, mapping}
use Rattle.inode_data.specs.Written.{IsWrite, node_written}
use Rattle.inode_data.proofs.ImageWritten.{AreBlocks, block_parts, blocks_preserved, inode_preserved, inode_parts}
use Rattle.inode_data.proofs.PieceWritten.{new_sound, piece_holds}

-- ---- bytes of a pointer block

pub zeros_are : AreBytes (replicate BLOCK_BYTES 0)
zeros_are index = elim (cases_lt index BLOCK_BYTES) [
  | inl less ↦ subst (λ n. n < 256) (sym (get_or-replicate BLOCK_BYTES index 0 0 less)) (omega arith)
  | inr past ↦ subst (λ n. n < 256) (sym (get_or_past (replicate BLOCK_BYTES 0) index 0 past)) (omega arith)
]

pub named_are : (bytes : List ℕ) (at number : ℕ) → AreBytes bytes → AreBytes (spliced bytes at (four_bytes number))
named_are bytes at number are = spliced-bytes bytes (four_bytes number) at are (four number)

-- what is in a data block
pub content_are : (g : Geometry) (base : Image) (tree : Tree) → Holds g base tree → (b : ℕ) → is_data g b ≡ true
    → AreBytes (content_in g base b)
content_are g base tree holds b lies =
    subst (λ (l : List ℕ). AreBytes l) (sym (ap (λ t. cond t (base b) (replicate BLOCK_BYTES 0)) lies))
    (holds.bytes b (data_within g b lies).1).1

module _ (g : Geometry) (base : Image) (tree : Tree) (n : ℕ) (inode : Inode) (offset : ℕ) (piece bytes : List ℕ)
    (size : ℕ) (write : IsWrite g base tree n inode offset piece bytes size) (gained : List ℕ) (middle : Image)
    (taken : HasTaken g base tree gained middle)
    (long : (q : ℕ) → q < g.blocks → length (middle q) ≡ BLOCK_BYTES)
    (count : length bytes ≡ BLOCK_BYTES) (b : ℕ) (direct : List ℕ) (indirect_block double : ℕ) where
  abbrev new : Inode
  new = mapping inode (grown_size inode.size offset piece) direct indirect_block double

  are : AreBlocks g middle
  are q low = (long q low, taken.bytes q low)

  abbrev Next : Image → Type 0
  Next image = Holds g image (with_node tree n (node_written g base inode offset piece))

  -- and the inode is read there
  abbrev pub Reads : Image → Inode → Type 0
  Reads image one = inode_at g image n ≡ Ok (Some one)

  -- with this size in the inode
  abbrev pub Stores : Image → ℕ → Type 0
  Stores image k = Next (with_inode g image n (mapping inode k direct indirect_block double))
      × Reads (with_inode g image n (mapping inode k direct indirect_block double)) (mapping inode k direct indirect_block double)

  sized : (image : Image) → Stores image (grown_size inode.size offset piece) → Stores image size
  sized image stores = subst (Stores image) (sym write.size_is) stores

  read_again : (image : Image) → SoundInode g new → AreBlocks g image → Reads (with_inode g image n new) new
  read_again image is blocks =
      sym (ap (λ b. cond b (inode_at g (with_inode g image n new) n) (Err Range)) (lt-ltb n g.inodes write.has.less))
      ∙ (λ i. (inode_parts g image n new blocks write.has.less is i).table n)
      ∙ ap (λ b. cond b (Ok (Some new)) (table_of g image n)) (eq-eqb n n refl)

  -- blocks that have the marks, and in the data blocks this content
  abbrev HasContent : Image → Image → Type 0
  HasContent image content = parts_of g image
      ≡ record (parts_of g base) { content = content; block_bits = marking gained (parts_of g base).block_bits }

  module _ (image content : Image) (part : HasContent image content) (is_preserved : AreBlocks g image) where
    -- with a block more
    module _ (q : ℕ) (named : List ℕ) (lies : is_data g q ≡ true) (named_count : length named ≡ BLOCK_BYTES) where
      more_part : HasContent (with_bytes image q 0 named) (put content q named)
      more_part = block_parts g image q named is_preserved lies named_count
          ∙ (λ i. record (part i) { content = put (part i).content q named })

      more_preserved : AreBytes named → AreBlocks g (with_bytes image q 0 named)
      more_preserved each = blocks_preserved g image q named is_preserved lies named_count each

    -- and with the file's inode, whatever blocks these are
    module _ (fills : Fills g base inode offset piece b direct indirect_block double content gained) where
      sound : SoundInode g new
      sound = new_sound g base tree n inode write.has offset piece write.fits b direct indirect_block double content gained fills

      all_parts : parts_of g (with_inode g image n new) ≡ grown g base n new content gained
      all_parts =
          inode_parts g image n new is_preserved write.has.less sound
          ∙ (λ i. record (part i) { table = put (part i).table n (Ok (Some new)) })

      all_stored : Stores image size
      all_stored = sized image (
        record {
          bytes = inode_preserved g image n new is_preserved write.has.less sound;
          parts = subst (λ parts. PartsHold g parts (with_node tree n (node_written g base inode offset piece)))
              (sym all_parts)
              (piece_holds g base tree n inode write.has offset piece write.fits b direct indirect_block double content gained
              fills);
        },
        read_again image sound is_preserved,
      )

  -- the block alone
  module _ (fills : Fills g base inode offset piece b direct indirect_block double (put (content_in g base) b bytes) gained) where
    pub stored : Stores (with_bytes middle b 0 bytes) size
    stored = all_stored (with_bytes middle b 0 bytes) (put (content_in g base) b bytes)
        (more_part middle (content_in g base) taken.parts are b bytes fills.lies count)
        (more_preserved middle (content_in g base) taken.parts are b bytes fills.lies count write.each) fills

  -- a pointer block too
  module _ (holder : ℕ) (named : List ℕ) (named_each : AreBytes named) (named_count : length named ≡ BLOCK_BYTES)
      (holder_lies : is_data g holder ≡ true) where
    abbrev one_content : Image
    one_content = put (content_in g base) holder named

    abbrev one_image : Image
    one_image = with_bytes middle holder 0 named

    one_part : HasContent one_image one_content
    one_part = more_part middle (content_in g base) taken.parts are holder named holder_lies named_count

    one_preserved : AreBlocks g one_image
    one_preserved = more_preserved middle (content_in g base) taken.parts are holder named holder_lies named_count named_each

    module _ (fills : Fills g base inode offset piece b direct indirect_block double (put one_content b bytes) gained) where
      pub stored_indirect : Stores (with_bytes one_image b 0 bytes) size
      stored_indirect = all_stored (with_bytes one_image b 0 bytes) (put one_content b bytes)
          (more_part one_image one_content one_part one_preserved b bytes fills.lies count)
          (more_preserved one_image one_content one_part one_preserved b bytes fills.lies count write.each) fills

    -- and another that it names
    module _ (inner : ℕ) (inner_named : List ℕ) (inner_each : AreBytes inner_named)
        (inner_count : length inner_named ≡ BLOCK_BYTES) (inner_lies : is_data g inner ≡ true)
        (fills : Fills g base inode offset piece b direct indirect_block double
        (put (put one_content inner inner_named) b bytes) gained) where
      abbrev two_content : Image
      two_content = put one_content inner inner_named

      abbrev two_image : Image
      two_image = with_bytes one_image inner 0 inner_named

      two_part : HasContent two_image two_content
      two_part = more_part one_image one_content one_part one_preserved inner inner_named inner_lies inner_count

      two_preserved : AreBlocks g two_image
      two_preserved = more_preserved one_image one_content one_part one_preserved inner inner_named inner_lies inner_count inner_each

      pub stored_double : Stores (with_bytes two_image b 0 bytes) size
      stored_double = all_stored (with_bytes two_image b 0 bytes) (put two_content b bytes)
          (more_part two_image two_content two_part two_preserved b bytes fills.lies count)
          (more_preserved two_image two_content two_part two_preserved b bytes fills.lies count write.each) fills

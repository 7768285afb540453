-- Blocks of an image in which a new block of a file was written, its indirect block where one names it, and its
-- inode, where these parts hold a tree.
use Rattle.std.proofs.Common.{◌≡◌, ℕ, ◌<◌, sym, ap, ◌∙◌, refl, true, cond, List, length, Some, Ok, Err}
use Rattle.std.proofs.lemmas.Bool.{eq-eqb, lt-ltb}
use Rattle.base.specs.declared.TheConstants.{BLOCK_BYTES}
use Rattle.disk.specs.Crash.{Image}
use Rattle.nfs_types.specs.Fits.{AreBytes}
use Rattle.std.proofs.Common.{subst}
use Rattle.nfs_spec.specs.Model.Tree.{Tree}
use Rattle.layout.specs.declared.fault.LayoutFault.TheVariants.{Range}
use Rattle.layout.specs.declared.geometry.Geometry.{Geometry}
use Rattle.layout.specs.declared.inode.Inode.{Inode}
use Rattle.layout.specs.Decode.{inode_at}
use Rattle.layout.specs.Holds.{Holds, PartsHold}
use Rattle.layout.specs.InodeForm.{SoundInode}
use Rattle.layout.specs.Parts.{Parts, content_in, parts_of, put, with_bytes, with_inode}
use Rattle.layout.specs.Places.{is_data}
use Rattle.bitmap.specs.NewBlock.{HasTaken, marking}
use Rattle.bitmap.proofs.Gained.{grown}
use Rattle.inode_data.proofs.ImageWritten.{AreBlocks, block_parts, blocks_preserved, inode_preserved, inode_parts}

module _ (g : Geometry) (base : Image) (tree next : Tree) (n : ℕ) (less : n < g.inodes) (new : Inode)
    (sound : SoundInode g new) (gained : List ℕ) (middle : Image) (taken : HasTaken g base tree gained middle)
    (long : (q : ℕ) → q < g.blocks → length (middle q) ≡ BLOCK_BYTES) where
  are : AreBlocks g middle
  are q low = (long q low, taken.bytes q low)

  -- blocks that have the marks and this content
  module _ (image : Image) (content : Image) (blocks : AreBlocks g image)
      (is : parts_of g image
      ≡ record (parts_of g base) { content = content; block_bits = marking gained (parts_of g base).block_bits })
    where
      all_parts : parts_of g (with_inode g image n new) ≡ grown g base n new content gained
      all_parts =
          inode_parts g image n new blocks less sound
          ∙ (λ i. record (is i) { table = put (is i).table n (Ok (Some new)) })

      holds : PartsHold g (grown g base n new content gained) next → Holds g (with_inode g image n new) next
      holds parts = record {
        bytes = inode_preserved g image n new blocks less sound;
        parts = subst (λ one. PartsHold g one next) (sym all_parts) parts;
      }

      read : inode_at g (with_inode g image n new) n ≡ Ok (Some new)
      read =
          sym (ap (λ t. cond t (inode_at g (with_inode g image n new) n) (Err Range)) (lt-ltb n g.inodes less))
          ∙ ap (λ (parts : Parts). parts.table n) all_parts
          ∙ ap (λ t. cond t (Ok (Some new)) ((parts_of g base).table n)) (eq-eqb n n refl)

  module _ (b : ℕ) (bytes : List ℕ) (lies : is_data g b ≡ true) (count : length bytes ≡ BLOCK_BYTES)
      (each : AreBytes bytes) where
    one_part : parts_of g (with_bytes middle b 0 bytes)
        ≡ record (parts_of g base) {
          content = put (content_in g base) b bytes;
          block_bits = marking gained (parts_of g base).block_bits;
        }
    one_part = block_parts g middle b bytes are lies count
        ∙ (λ i. record (taken.parts i) { content = put (taken.parts i).content b bytes })

    one_preserved : AreBlocks g (with_bytes middle b 0 bytes)
    one_preserved = blocks_preserved g middle b bytes are lies count each

    pub one_holds : PartsHold g (grown g base n new (put (content_in g base) b bytes) gained) next
        → Holds g (with_inode g (with_bytes middle b 0 bytes) n new) next
    one_holds = holds (with_bytes middle b 0 bytes) (put (content_in g base) b bytes) one_preserved one_part

    pub one_read : inode_at g (with_inode g (with_bytes middle b 0 bytes) n new) n ≡ Ok (Some new)
    one_read = read (with_bytes middle b 0 bytes) (put (content_in g base) b bytes) one_preserved one_part

    module _ (indirect_block : ℕ) (named : List ℕ) (indirect_lies : is_data g indirect_block ≡ true) (named_count : length named ≡ BLOCK_BYTES)
        (named_each : AreBytes named) where
      abbrev both : Image
      both = with_bytes (with_bytes middle indirect_block 0 named) b 0 bytes

      first_part : parts_of g (with_bytes middle indirect_block 0 named)
          ≡ record (parts_of g base) {
            content = put (content_in g base) indirect_block named;
            block_bits = marking gained (parts_of g base).block_bits;
          }
      first_part = block_parts g middle indirect_block named are indirect_lies named_count
          ∙ (λ i. record (taken.parts i) { content = put (taken.parts i).content indirect_block named })

      first_preserved : AreBlocks g (with_bytes middle indirect_block 0 named)
      first_preserved = blocks_preserved g middle indirect_block named are indirect_lies named_count named_each

      both_parts : parts_of g both
          ≡ record (parts_of g base) {
            content = put (put (content_in g base) indirect_block named) b bytes;
            block_bits = marking gained (parts_of g base).block_bits;
          }
      both_parts = block_parts g (with_bytes middle indirect_block 0 named) b bytes first_preserved lies count
          ∙ (λ i. record (first_part i) { content = put (first_part i).content b bytes })

      both_preserved : AreBlocks g both
      both_preserved = blocks_preserved g (with_bytes middle indirect_block 0 named) b bytes first_preserved lies count each

      pub both_hold : PartsHold g (grown g base n new (put (put (content_in g base) indirect_block named) b bytes) gained) next
          → Holds g (with_inode g both n new) next
      both_hold = holds both (put (put (content_in g base) indirect_block named) b bytes) both_preserved both_parts

      pub both_read : inode_at g (with_inode g both n new) n ≡ Ok (Some new)
      both_read = read both (put (put (content_in g base) indirect_block named) b bytes) both_preserved both_parts

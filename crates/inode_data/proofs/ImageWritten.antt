-- Blocks of an image in which a file's blocks and its inode were written.
use Rattle.std.proofs.Common.{◌≡◌, ℕ, ◌+◌, ◌<◌, ◌≤◌, sym, ap, ◌∙◌, true, List, ◌++◌, length}
use Rattle.std.proofs.Common.{append-nil, Some, Ok, arith}
use Rattle.std.proofs.lemmas.List.{drop_all}
use Rattle.base.specs.declared.TheConstants.{BLOCK_BYTES, INODE_BYTES}
use Rattle.disk.specs.Crash.{Image}
use Rattle.nfs_types.specs.Fits.{AreBytes}
use Rattle.objects.specs.Spliced.{spliced}
use Rattle.layout.specs.declared.geometry.Geometry.{Geometry}
use Rattle.layout.specs.declared.inode.Inode.{Inode}
use Rattle.layout.specs.Geometry.{data_at}
use Rattle.layout.specs.InodeForm.{SoundInode, inode_bytes}
use Rattle.layout.specs.Parts.{content_in, parts_of, put, with_bytes, with_inode}
use Rattle.layout.specs.Places.{inode_block, inode_offset, is_data}
use Rattle.layout.proofs.OnGrid.{data_within}
use Rattle.layout.proofs.Spelled.{read_back, written-length}
use Rattle.layout.proofs.Written.{parts_written}
use Rattle.layout.proofs.WrittenBytes.{inode_are}
use Rattle.inode.proofs.WriteSetsLemmas.OneFile.{IsBlock, blocks_still}
use Rattle.inode.proofs.WriteSetsLemmas.OtherWrites.{data_written}

-- a whole block that is put takes the place of what was there
whole_spliced : (old new : List ℕ) → length old ≡ length new → spliced old 0 new ≡ new
whole_spliced old new same =
    ap (λ l. new ++ l) (drop_all (0 + length new) old (omega (arith, same))) ∙ append-nil new

abbrev pub AreBlocks : Geometry → Image → Type 0
AreBlocks g blocks = (q : ℕ) → q < g.blocks → IsBlock (blocks q)

module _ (g : Geometry) (blocks : Image) (b : ℕ) (bytes : List ℕ) (are : AreBlocks g blocks)
    (lies : is_data g b ≡ true) (long : length bytes ≡ BLOCK_BYTES) where
  within : (data_at g.blocks g.inodes ≤ b) × (b < g.blocks)
  within = data_within g b lies

  pub block_parts : parts_of g (with_bytes blocks b 0 bytes)
      ≡ record (parts_of g blocks) { content = put (content_in g blocks) b bytes }
  block_parts =
      data_written g blocks b 0 bytes g.lawful.1.2 within.0 lies
      ∙ (λ i. record (parts_of g blocks) {
        content = put (content_in g blocks) b
            (whole_spliced (blocks b) bytes ((are b within.1).0 ∙ sym long) i);
      })

  pub blocks_preserved : AreBytes bytes → AreBlocks g (with_bytes blocks b 0 bytes)
  blocks_preserved bytes_are = blocks_still blocks b 0 bytes g.blocks are (record { are = bytes_are })
      (omega (arith, long))

module _ (g : Geometry) (blocks : Image) (n : ℕ) (inode : Inode) (are : AreBlocks g blocks) (less : n < g.inodes)
    (sound : SoundInode g inode) where
  on_disk : inode_block g n < g.blocks
  on_disk = let has_space = g.lawful.1.3 in let whole = g.lawful.1.2 in omega (arith, has_space, less, whole)

  size : length (inode_bytes inode) ≡ INODE_BYTES
  size = written-length inode sound.fits

  pub inode_parts : parts_of g (with_inode g blocks n inode)
      ≡ record (parts_of g blocks) { table = put (parts_of g blocks).table n (Ok (Some inode)) }
  inode_parts = parts_written g blocks n (inode_bytes inode) (Some inode) g.lawful.1.2 less
      (are (inode_block g n) on_disk).0 size (read_back inode sound.fits g sound.good)

  pub inode_preserved : AreBlocks g (with_inode g blocks n inode)
  inode_preserved = blocks_still blocks (inode_block g n) (inode_offset n) (inode_bytes inode) g.blocks are
      (inode_are inode sound.fits) (let long = size in omega (arith, long))

-- A file is one by what was seen of its blocks, and back.
use Rattle.std.proofs.Common.{◌≡◌, ℕ, ◌*◌, refl, subst, true, All, IsOk, get_or, Some, Ok, arith}
use Rattle.std.proofs.lemmas.List.FromFn.{get_or-range_with_len, length-range_with_len}
use Rattle.base.specs.declared.TheConstants.{SLOTS_PER_BLOCK}
use Rattle.disk.specs.Crash.{Image}
use Rattle.nfs_types.specs.Fits.{AreBytes}
use Rattle.layout.specs.declared.geometry.Geometry.{Geometry}
use Rattle.layout.specs.declared.inode.Inode.{Inode}
use Rattle.layout.specs.declared.inode.InodeKind.{InodeKind}
use Rattle.layout.specs.declared.inode.InodeKind.TheVariants.{Directory, Link, Regular}
use Rattle.layout.specs.Decode.{IsDirectory, IsFile, IsMapped, IsOfKind, numbers_of, slot_bytes, slots_of, span_of}
use Rattle.layout.specs.InodeForm.{SoundInode, is_sound_inode, is_sound_kind}
use Rattle.layout.specs.SlotForm.{read_slot}
use Rattle.layout.proofs.AllNumbers.{all-length, maps}
use Rattle.image_read.specs.Files.Slots.{IsSpanned}
use Rattle.image_read.proofs.FilesLemmas.AllMapped.{all_mapped, mapped_before_double, no_below, no_row}
use Rattle.image_read.proofs.LawsLemmas.SoundKinds.{few_spanned, no_double_of_link, no_indirect_of_link}
use Rattle.image_read.specs.Laws.TreeOf.{HasNames}
use Rattle.image_contents.proofs.NamesLemmas.Directory.{are_names, has_names, once}
use Rattle.image_contents.specs.Bodies.Bodies.{HasBlocksOf, IsCleanOf}
use Rattle.image_check.proofs.SlotBytes.{slots_are_bytes}

module _ (g : Geometry) (content : Image) (inode : Inode) (sound : SoundInode g inode) where
  link_mapped : is_sound_kind g Link inode ≡ true → IsMapped g content inode
  link_mapped good =
      all_mapped g content inode
      (mapped_before_double g content inode (maps g inode sound).0
      (no_row g content inode.indirect (no_indirect_of_link g inode good)))
      (no_below g content inode.double (no_double_of_link g inode good))

  -- ---- a directory

  slots_all : IsSpanned g.inodes content inode (numbers_of content inode)
      → All (λ index. IsOk (read_slot g.inodes (slot_bytes content inode index))) (slots_of inode)
  unfolding slot_bytes
  slots_all spanned k d inside =
      let count = length-range_with_len 0 (SLOTS_PER_BLOCK * span_of inode) in
      let at = get_or-range_with_len 0 (SLOTS_PER_BLOCK * span_of inode) k d (omega (arith, inside, count)) in
      let same : k ≡ get_or (slots_of inode) k d = omega (arith, at) in
      subst (λ index. IsOk (read_slot g.inodes (slot_bytes content inode index))) same
      (spanned.slots k (omega (arith, inside, count)))

  spanned_by : is_sound_kind g Directory inode ≡ true → IsDirectory g content inode
      → IsSpanned g.inodes content inode (numbers_of content inode)
  unfolding slot_bytes
  spanned_by good is = record {
    few =
        let few = few_spanned g inode good in
        let all = all-length content inode sound.fits.count in omega (arith, few, all);
    first = is.spans;
    slots = λ index less.
        let count = length-range_with_len 0 (SLOTS_PER_BLOCK * span_of inode) in
        let at = get_or-range_with_len 0 (SLOTS_PER_BLOCK * span_of inode) index 0 less in
        let same : get_or (slots_of inode) index 0 ≡ index = omega (arith, at) in
        subst (λ k. IsOk (read_slot g.inodes (slot_bytes content inode k))) same
        (is.slots index 0 (omega (arith, less, count)));
  }

  -- ---- each kind

  is_of_kind : (kind : InodeKind) → HasBlocksOf g content kind inode → IsCleanOf g content kind inode
      → IsOfKind g content kind inode
  is_of_kind Regular blocks is_clean = record { mapped = blocks; zeros = is_clean }
  is_of_kind Directory blocks is_clean = record {
    mapped = blocks.0;
    spans = blocks.1.first;
    slots = slots_all blocks.1;
    once = once g.inodes content inode is_clean;
  }
  is_of_kind Link blocks is_clean = record { zeros = is_clean }

  has_blocks_of : (kind : InodeKind) → is_sound_kind g kind inode ≡ true → IsOfKind g content kind inode
      → HasBlocksOf g content kind inode
  has_blocks_of Regular good is = is.mapped
  has_blocks_of Directory good is = (is.mapped, spanned_by good is)
  has_blocks_of Link good is = link_mapped good

  file_is_clean_of : (kind : InodeKind) → (kind ≡ Directory → HasNames g content inode) → IsOfKind g content kind inode
      → IsCleanOf g content kind inode
  file_is_clean_of Regular names is = is.zeros
  file_is_clean_of Directory names is = are_names g content inode (names refl) is.once
  file_is_clean_of Link names is = is.zeros

  good_kind : is_sound_kind g inode.kind inode ≡ true
  unfolding is_sound_inode
  good_kind = sound.good

  pub file_is : HasBlocksOf g content inode.kind inode → IsCleanOf g content inode.kind inode
      → IsFile g content (Ok (Some inode))
  file_is blocks is_clean = is_of_kind inode.kind blocks is_clean

  pub has_blocks : IsFile g content (Ok (Some inode)) → HasBlocksOf g content inode.kind inode
  has_blocks is = has_blocks_of inode.kind good_kind is

  pub file_is_clean : (inode.kind ≡ Directory → HasNames g content inode) → IsFile g content (Ok (Some inode))
      → IsCleanOf g content inode.kind inode
  file_is_clean names is = file_is_clean_of inode.kind names is

  pub names_of_clean : ((number : ℕ) → AreBytes (content number)) → inode.kind ≡ Directory
      → IsCleanOf g content inode.kind inode → HasNames g content inode
  names_of_clean bytes kind is_clean =
      has_names g content inode (slots_are_bytes content bytes g.inodes inode)
      (subst (λ k. IsCleanOf g content k inode) kind is_clean)

use Rattle.std.proofs.Common.{◌/◌, ◌∙◌, ap, sym, subst, length, Ok}
use Rattle.base.specs.declared.TheConstants.{BITS_PER_BLOCK, FIRST_HOME_BLOCK}
use Rattle.disk.specs.Crash.{Image}
use Rattle.disk.specs.Device.{Device}
use Rattle.layout.specs.Geometry.{bitmap_blocks, inode_bitmap_at}
use Rattle.circ.specs.Log.Recovery.{image_of}
use Rattle.circ.proofs.LogLemmas.OnlyRead.{certain_then}
use Rattle.image_read.specs.LoggedImage.WithOverlay.{with_overlay}
use Rattle.image_read.specs.Parts.Marks.{HasBits, is_block_mark, is_inode_mark}
use Rattle.image_read.proofs.PartsLemmas.OverlayThen.{as_marked, bits_then, marked_as}
use Rattle.image_read.proofs.parts.marks.are_marked.Goals as goal

pub returns-clause-yes : goal.returns-clause-yes
returns-clause-yes g c = λ preserves certain yes.
    let old : Device = g.D.CrashDisk.device c.args.disk.now in
    let middle : Device = g.D.CrashDisk.device c.has_bits.new.disk in
    let logged = c.args.overlay.now in
    let image : Image = with_overlay logged (image_of old) in
    let later : Image = with_overlay logged (image_of middle) in
    let geometry = c.args.geometry.now in
    let reads = c.has_bits.ensures.reads in
    let blocks : HasBits image FIRST_HOME_BLOCK (length c.in_ok-blocks.blocks.items / BITS_PER_BLOCK)
    c.in_ok-blocks.blocks.items =
    subst (λ marks. HasBits image FIRST_HOME_BLOCK (length marks / BITS_PER_BLOCK) marks) c.deref.ensures.value
    (c.in_ok-has_bits.ensures.yes (c.has_bits-2.ensures.model preserves) certain (ap Ok c.if-not-branch.false)) in
    let inodes : HasBits later (inode_bitmap_at geometry.blocks) (length c.in_ok-inodes.inodes.items / BITS_PER_BLOCK)
    c.in_ok-inodes.inodes.items =
    subst (λ first. HasBits later first (length c.in_ok-inodes.inodes.items / BITS_PER_BLOCK) c.in_ok-inodes.inodes.items)
    c.inode_bitmap.ensures
    (subst (λ marks. HasBits later c.inode_bitmap.result.0 (length marks / BITS_PER_BLOCK) marks)
    c.deref-2.ensures.value (c.has_bits-2.ensures.yes preserves (certain_then old middle reads certain) yes)) in
    record {
      blocks = as_marked image FIRST_HOME_BLOCK (bitmap_blocks geometry.blocks) c.in_ok-blocks.blocks.items
          (is_block_mark geometry c.args.owners.now) c.in_ok-blocks.ensures.len c.in_ok-blocks.ensures.marks blocks;
      inodes = λ number less.
          sym (bits_then logged old middle reads (inode_bitmap_at geometry.blocks) number)
          ∙ as_marked later (inode_bitmap_at geometry.blocks) (bitmap_blocks geometry.inodes)
          c.in_ok-inodes.inodes.items (is_inode_mark c.args.table.now) c.in_ok-inodes.ensures.len
          c.in_ok-inodes.ensures.marks inodes number less;
    }

pub returns-clause-no : goal.returns-clause-no
returns-clause-no g c = λ preserves certain no marked.
    let old : Device = g.D.CrashDisk.device c.args.disk.now in
    let middle : Device = g.D.CrashDisk.device c.has_bits.new.disk in
    let logged = c.args.overlay.now in
    let later : Image = with_overlay logged (image_of middle) in
    let geometry = c.args.geometry.now in
    let reads = c.has_bits.ensures.reads in
    let inodes : HasBits later (inode_bitmap_at geometry.blocks) (length c.in_ok-inodes.inodes.items / BITS_PER_BLOCK)
    c.in_ok-inodes.inodes.items =
    marked_as later (inode_bitmap_at geometry.blocks) (bitmap_blocks geometry.inodes) c.in_ok-inodes.inodes.items
    (is_inode_mark c.args.table.now) c.in_ok-inodes.ensures.len c.in_ok-inodes.ensures.marks
    (λ number less. bits_then logged old middle reads (inode_bitmap_at geometry.blocks) number
    ∙ marked.inodes number less) in
    c.has_bits-2.ensures.no preserves (certain_then old middle reads certain) no
    (subst (λ marks. HasBits later c.inode_bitmap.result.0 (length marks / BITS_PER_BLOCK) marks)
    (sym c.deref-2.ensures.value)
    (subst (λ first. HasBits later first (length c.in_ok-inodes.inodes.items / BITS_PER_BLOCK) c.in_ok-inodes.inodes.items)
    (sym c.inode_bitmap.ensures) inodes))

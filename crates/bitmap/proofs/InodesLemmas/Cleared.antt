-- Blocks in which a file's blocks, its number and its inode became free, one after another.
use Rattle.std.proofs.Common.{◌≡◌, ℕ, zero, suc, ◌<◌, inl, inr, sym, ap, ◌∙◌, refl, subst, false}
use Rattle.std.proofs.Common.{List, [], ◌++◌, length, replicate, None, Ok, arith}
use Rattle.std.proofs.lemmas.Bool.{cases_eq}
use Rattle.base.specs.declared.TheConstants.{BLOCK_BYTES, INODE_BYTES}
use Rattle.disk.specs.Crash.{Image}
use Rattle.nfs_types.specs.Fits.{AreBytes}
use Rattle.layout.specs.declared.geometry.Geometry.{Geometry}
use Rattle.layout.specs.InodeForm.{read_inode}
use Rattle.layout.specs.Parts.{parts_of, put, with_bytes}
use Rattle.layout.specs.Places.{inode_block, inode_offset}
use Rattle.layout.proofs.Written.{elsewhere, here, parts_written}
use Rattle.layout.proofs.WrittenBytes.{spliced-bytes}
use Rattle.bitmap.specs.Bits.{MarksNumber}
use Rattle.bitmap.specs.Inodes.Frees.{Clears, Frees, without}
use Rattle.bitmap.proofs.InodesLemmas.Without.{without_both}

-- ---- blocks that become free

pub frees_none : (g : Geometry) (image : Image) → Frees g [] image image
frees_none g image = record { bytes = λ are. are; parts = refl }

pub frees_both : (g : Geometry) (xs ys : List ℕ) (old middle new : Image)
    → Frees g xs old middle → Frees g ys middle new → Frees g (xs ++ ys) old new
frees_both g xs ys old middle new first then = record {
  bytes = λ are. then.bytes (first.bytes are);
  parts = then.parts
      ∙ (λ i. record (first.parts i) { block_bits = without ys (first.parts i).block_bits })
      ∙ (λ i. record (parts_of g old) { block_bits = sym (without_both xs ys (parts_of g old).block_bits) i });
}

-- ---- and the inode

zero_bytes : (n : ℕ) → AreBytes (replicate n 0)
zero_bytes zero index = omega arith
zero_bytes (suc n) zero = omega arith
zero_bytes (suc n) (suc index) = zero_bytes n index

free_inode : (g : Geometry) → read_inode g (replicate INODE_BYTES 0) ≡ Ok None
unfolding read_inode
free_inode g = refl

pub cleared : (g : Geometry) (first second third last : Image) (n : ℕ) (numbers : List ℕ) → n < g.inodes
    → Frees g numbers first second → MarksNumber g n false second third
    → last ≡ with_bytes third (inode_block g n) (inode_offset n) (replicate INODE_BYTES 0)
    → length (third (inode_block g n)) ≡ BLOCK_BYTES → Clears g n numbers first last
cleared g first second third last n numbers less frees marks is long = record {
  bytes = λ are number low. subst (λ (image : Image). AreBytes (image number)) (sym is)
      (elim (cases_eq number (inode_block g n)) [
        | inl same ↦ subst
            (λ k. AreBytes (with_bytes third (inode_block g n) (inode_offset n) (replicate INODE_BYTES 0) k))
            (sym same)
            (subst AreBytes (sym (here third (inode_block g n) (inode_offset n) (replicate INODE_BYTES 0)))
            (spliced-bytes (third (inode_block g n)) (replicate INODE_BYTES 0) (inode_offset n)
            (marks.bytes (frees.bytes are) (inode_block g n) (subst (λ k. k < g.blocks) same low))
            (record { are = zero_bytes INODE_BYTES })))
        | inr not ↦ subst AreBytes
            (sym (elsewhere third (inode_block g n) (inode_offset n) (replicate INODE_BYTES 0) number not))
            (marks.bytes (frees.bytes are) number low)
      ]);
  parts = ap (parts_of g) is
      ∙ parts_written g third n (replicate INODE_BYTES 0) None g.lawful.1.2 less long refl (free_inode g)
      ∙ (λ i. record (before i) { table = put (before i).table n (Ok None) });
}
  where
    before : parts_of g third ≡ record (parts_of g first) {
      block_bits = without numbers (parts_of g first).block_bits;
      inode_bits = put (parts_of g first).inode_bits n false;
    }
    before = marks.parts
        ∙ (λ i. record (frees.parts i) { inode_bits = put (frees.parts i).inode_bits n false })

pub on_disk : (g : Geometry) (n : ℕ) → n < g.inodes → inode_block g n < g.blocks
on_disk g n less = let has_space = g.lawful.1.3 in let whole = g.lawful.1.2 in omega (arith, has_space, less, whole)

-- An inode that was read fits its bytes, and is sound by itself.
use Rattle.std.proofs.Common.{◌≡◌, ℕ, zero, suc, ◌+◌, ◌*◌, ◌<◌, ◌^◌, sym, ap, ◌∙◌, refl, subst, Bool, true}
use Rattle.std.proofs.Common.{false, cond, ◌&&◌, nat_eq, List, drop, get_or, Option, Some, None, Ok, Err}
use Rattle.std.proofs.Common.{IfSome, arith, ◌≤◌, length, take}
use Rattle.std.specs.List.{AllByRecursion}
use Rattle.std.proofs.lemmas.List.{get_or-drop, length-take, length-drop}
use Rattle.base.specs.declared.TheConstants.{DIRECT_INDEXES, INODE_BYTES}
use Rattle.nfs_types.specs.declared.verifier.TheConstants.{VERIFIER_BYTES}
use Rattle.nfs_types.specs.declared.verifier.Verifier.{Verifier}
use Rattle.nfs_types.specs.Fits.{AreBytes, VerifierFits}
use Rattle.layout.specs.declared.geometry.Geometry.{Geometry}
use Rattle.layout.specs.declared.fault.LayoutFault.TheVariants.{Range}
use Rattle.layout.specs.declared.inode.Inode.{Inode}
use Rattle.layout.specs.declared.inode.InodeKind.{InodeKind}
use Rattle.layout.specs.Fields.{four_at, eight_at, numbers_at, is_zeros}
use Rattle.layout.specs.InodeForm.{FitsInode, SoundInode, read_inode, inode_of_kind, fields_of, is_sound_inode}
use Rattle.layout.specs.InodeForm.{rest_is_zero, kind_of_number, verifier_at}
use Rattle.layout.proofs.NumbersAt.{numbers-length}
use Rattle.layout.proofs.WrittenBytes.{taken, dropped}

small_four : (a b c d : ℕ) → a < 256 → b < 256 → c < 256 → d < 256
    → a + b * 256 + c * 65536 + d * 16777216 < 2 ^ 32
small_four a b c d la lb lc ld = omega (arith, la, lb, lc, ld)

small_eight : (a b c d e f g h : ℕ) → a < 256 → b < 256 → c < 256 → d < 256 → e < 256 → f < 256 → g < 256
    → h < 256
    → a + b * 256 + c * 65536 + d * 16777216 + e * 4294967296 + f * 1099511627776 + g * 281474976710656
    + h * 72057594037927936 < 2 ^ 64
small_eight a b c d e f g h la lb lc ld le lf lg lh = omega (arith, la, lb, lc, ld, le, lf, lg, lh)

module _ (bytes : List ℕ) (are : AreBytes bytes) where
  at : (index i : ℕ) → get_or (drop index bytes) i 0 < 256
  at index i = subst (λ n. n < 256) (sym (get_or-drop index bytes i 0)) (are (index + i))

  pub four : (index : ℕ) → four_at index bytes < 2 ^ 32
  unfolding four_at
  four index = small_four _ _ _ _ (at index 0) (at index 1) (at index 2) (at index 3)

  pub eight : (index : ℕ) → eight_at index bytes < 2 ^ 64
  unfolding eight_at
  eight index =
      small_eight _ _ _ _ _ _ _ _ (at index 0) (at index 1) (at index 2) (at index 3) (at index 4)
      (at index 5) (at index 6) (at index 7)

  pub numbers : (count index : ℕ) → AllByRecursion (λ number. number < 2 ^ 32) (numbers_at count index bytes)
  unfolding numbers_at
  numbers zero index = tt
  numbers (suc count) index = (four index, numbers count (index + 4))

  verifier : (given : Bool) (v : Verifier) → VerifierFits v → IfSome (cond given (Some v) None) VerifierFits
  verifier true v fits = fits
  verifier false v fits = tt

  -- eight bytes of those that there are
  copied : 88 ≤ length bytes → VerifierFits (verifier_at 80 bytes)
  copied long = record {
    count = omega (arith, long, length-take VERIFIER_BYTES (drop 80 bytes), length-drop 80 bytes);
    each = (taken VERIFIER_BYTES (dropped 80 (record { are = are }))).are;
  }

  pub fields_fit : (kind : InodeKind) → 88 ≤ length bytes → FitsInode (fields_of kind bytes)
  unfolding fields_of
  fields_fit kind long = record {
    mode = four 4;
    uid = four 8;
    gid = four 12;
    nlink = four 16;
    size = eight 24;
    atime = (four 32, four 36);
    mtime = (four 40, four 44);
    ctime = (four 48, four 52);
    boot = eight 56;
    transaction = eight 64;
    parent = four 72;
    verifier = verifier (nat_eq (four_at 76 bytes) 1) (verifier_at 80 bytes) (copied long);
    count = numbers-length DIRECT_INDEXES 88 bytes;
    direct = numbers DIRECT_INDEXES 88;
    indirect = four 120;
    double = four 124;
  }

chosen : (b : Bool) (x y : Inode) → cond b (Ok (Some x)) (Err Range) ≡ Ok (Some y) → (b ≡ true) × (x ≡ y)
chosen true x y e = (refl, cc)
chosen false x y e = cc

and_right : (a b : Bool) → (a && b) ≡ true → b ≡ true
and_right true b e = e
and_right false b e = cc

-- so many bytes from an offset on, where there are as many
pub part-length : (count offset : ℕ) (bytes : List ℕ) → offset + count ≤ length bytes
    → length (take count (drop offset bytes)) ≡ count
part-length count offset bytes inside =
    omega (arith, inside, length-take count (drop offset bytes), length-drop offset bytes)

module _ (g : Geometry) (bytes : List ℕ) (are : AreBytes bytes) (long : length bytes ≡ INODE_BYTES)
    (inode : Inode) where
  of_kind : (kind : Option InodeKind) → inode_of_kind g kind bytes ≡ Ok (Some inode)
      → SoundInode g inode
  of_kind None e = cc
  of_kind (Some kind) e =
      let is = chosen (rest_is_zero bytes && is_sound_inode g (fields_of kind bytes))
      (fields_of kind bytes) inode e in
      record {
        fits = subst FitsInode is.1 (fields_fit bytes are kind (omega (arith, long)));
        good = ap (is_sound_inode g) (sym is.1)
            ∙ and_right (rest_is_zero bytes) (is_sound_inode g (fields_of kind bytes)) is.0;
      }

  used : (free : Bool)
      → cond free (Ok None) (inode_of_kind g (kind_of_number (four_at 0 bytes)) bytes)
      ≡ Ok (Some inode)
      → SoundInode g inode
  used true e = cc
  used false e = of_kind (kind_of_number (four_at 0 bytes)) e

  pub read_fits : read_inode g bytes ≡ Ok (Some inode) → SoundInode g inode
  unfolding read_inode
  read_fits e = used (is_zeros bytes) e

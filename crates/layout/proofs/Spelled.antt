-- The bytes of an inode are read as this inode.
use Rattle.std.proofs.Common.{◌≡◌, ℕ, ◌<◌, ◌^◌, sym, refl, true, false, List, [], ◌∷◌, length, Option, Some}
use Rattle.std.proofs.Common.{None, Ok, IfSome, arith}
use Rattle.std.specs.List.{AllByRecursion}
use Rattle.std.proofs.lemmas.Nat.{from_le_bytes-to_le_bytes_4, from_le_bytes-to_le_bytes_8}
use Rattle.base.specs.declared.TheConstants.{DIRECT_INDEXES, INODE_BYTES}
use Rattle.nfs_types.specs.declared.ctx.Moment.{Moment}
use Rattle.nfs_types.specs.declared.verifier.TheConstants.{VERIFIER_BYTES}
use Rattle.nfs_types.specs.declared.verifier.Verifier.{Verifier}
use Rattle.nfs_types.specs.Fits.{VerifierFits}
use Rattle.layout.specs.declared.geometry.Geometry.{Geometry}
use Rattle.layout.specs.declared.inode.Inode.{Inode}
use Rattle.layout.specs.declared.inode.InodeKind.{InodeKind}
use Rattle.layout.specs.declared.inode.InodeKind.TheVariants.{Regular, Directory, Link}
use Rattle.layout.specs.Fields.{four_at, eight_at, numbers_at, four_bytes, eight_bytes, is_zeros}
use Rattle.layout.specs.InodeForm.{FitsInode, FitsMoment, read_inode, fields_of, is_sound_inode, inode_bytes}
use Rattle.layout.specs.InodeForm.{header_bytes, middle_bytes, tail_bytes, rest_is_zero, kind_of_number}
use Rattle.layout.specs.InodeForm.{number_of_kind}
use Rattle.layout.proofs.ReadInode.{sound}

abbrev Fits : ℕ → Type 0
Fits number = number < 2 ^ 32

-- an inode with this verifier and these numbers of blocks
abbrev with : Inode → Option Verifier → List ℕ → Inode
with inode verifier direct = record inode { verifier = verifier; direct = direct }

module _ (inode : Inode) (fits : FitsInode inode) where
  -- what is read back of each field is the field
  four : (n : ℕ) → Fits n → four_at 0 (four_bytes n) ≡ n
  unfolding four_at four_bytes
  four n small = from_le_bytes-to_le_bytes_4 n small

  eight : (n : ℕ) → n < 2 ^ 64 → eight_at 0 (eight_bytes n) ≡ n
  unfolding eight_at eight_bytes
  eight n small = from_le_bytes-to_le_bytes_8 n small

  time : (m : Moment) → FitsMoment m
      → record {
        seconds = four_at 0 (four_bytes m.seconds);
        nanoseconds = four_at 0 (four_bytes m.nanoseconds);
      } ≡ m
  time m small =
      λ i. record { seconds = four m.seconds small.0 i; nanoseconds = four m.nanoseconds small.1 i }

  abbrev IsRead : Option Verifier → List ℕ → Type 0
  IsRead verifier direct = fields_of inode.kind (inode_bytes (with inode verifier direct))
      ≡ with inode verifier direct

  -- a create verifier of these bytes
  abbrev made : List ℕ → Option Verifier
  made bytes = Some (record { bytes = bytes })

  -- lists of eight numbers
  eight_of : (P : List ℕ → Type 0)
      → ((d0 d1 d2 d3 d4 d5 d6 d7 : ℕ) → P (d0 ∷ d1 ∷ d2 ∷ d3 ∷ d4 ∷ d5 ∷ d6 ∷ d7 ∷ [])) → (direct : List ℕ)
      → length direct ≡ DIRECT_INDEXES → P direct
  eight_of P of (d0 ∷ d1 ∷ d2 ∷ d3 ∷ d4 ∷ d5 ∷ d6 ∷ d7 ∷ []) long = of d0 d1 d2 d3 d4 d5 d6 d7
  eight_of P of [] long = absurd (omega (arith, long))
  eight_of P of (d0 ∷ []) long = absurd (omega (arith, long))
  eight_of P of (d0 ∷ d1 ∷ []) long = absurd (omega (arith, long))
  eight_of P of (d0 ∷ d1 ∷ d2 ∷ []) long = absurd (omega (arith, long))
  eight_of P of (d0 ∷ d1 ∷ d2 ∷ d3 ∷ []) long = absurd (omega (arith, long))
  eight_of P of (d0 ∷ d1 ∷ d2 ∷ d3 ∷ d4 ∷ []) long = absurd (omega (arith, long))
  eight_of P of (d0 ∷ d1 ∷ d2 ∷ d3 ∷ d4 ∷ d5 ∷ []) long = absurd (omega (arith, long))
  eight_of P of (d0 ∷ d1 ∷ d2 ∷ d3 ∷ d4 ∷ d5 ∷ d6 ∷ []) long = absurd (omega (arith, long))
  eight_of P of (d0 ∷ d1 ∷ d2 ∷ d3 ∷ d4 ∷ d5 ∷ d6 ∷ d7 ∷ d8 ∷ rest) long = absurd (omega (arith, long))

  -- the numbers of blocks, whatever eight they are
  none_read : (direct : List ℕ) → length direct ≡ DIRECT_INDEXES → AllByRecursion Fits direct
      → IsRead None direct
  unfolding fields_of four_at eight_at numbers_at header_bytes middle_bytes tail_bytes four_bytes eight_bytes
  none_read direct long =
      eight_of (λ ds. AllByRecursion Fits ds → IsRead None ds)
      (λ d0 d1 d2 d3 d4 d5 d6 d7 all. λ i. record inode {
        mode = four inode.mode fits.mode i;
        uid = four inode.uid fits.uid i;
        gid = four inode.gid fits.gid i;
        nlink = four inode.nlink fits.nlink i;
        size = eight inode.size fits.size i;
        atime = time inode.atime fits.atime i;
        mtime = time inode.mtime fits.mtime i;
        ctime = time inode.ctime fits.ctime i;
        stamp = record {
          boot = eight inode.stamp.boot fits.boot i;
          transaction = eight inode.stamp.transaction fits.transaction i;
        };
        parent = four inode.parent fits.parent i;
        verifier = None;
        direct = four d0 all.0 i ∷ four d1 all.1.0 i ∷ four d2 all.1.1.0 i ∷ four d3 all.1.1.1.0 i
            ∷ four d4 all.1.1.1.1.0 i ∷ four d5 all.1.1.1.1.1.0 i ∷ four d6 all.1.1.1.1.1.1.0 i
            ∷ four d7 all.1.1.1.1.1.1.1.0 i ∷ [];
        indirect = four inode.indirect fits.indirect i;
        double = four inode.double fits.double i;
      }) direct long

  given_read : (bytes : List ℕ) → length bytes ≡ VERIFIER_BYTES → (direct : List ℕ)
      → length direct ≡ DIRECT_INDEXES → AllByRecursion Fits direct → IsRead (made bytes) direct
  unfolding fields_of four_at eight_at numbers_at header_bytes middle_bytes tail_bytes four_bytes eight_bytes
  given_read bytes count direct long =
      eight_of (λ bs. AllByRecursion Fits direct → IsRead (made bs) direct)
      (λ b0 b1 b2 b3 b4 b5 b6 b7. eight_of (λ ds. AllByRecursion Fits ds
      → IsRead (made (b0 ∷ b1 ∷ b2 ∷ b3 ∷ b4 ∷ b5 ∷ b6 ∷ b7 ∷ [])) ds)
      (λ d0 d1 d2 d3 d4 d5 d6 d7 all. λ i. record inode {
        mode = four inode.mode fits.mode i;
        uid = four inode.uid fits.uid i;
        gid = four inode.gid fits.gid i;
        nlink = four inode.nlink fits.nlink i;
        size = eight inode.size fits.size i;
        atime = time inode.atime fits.atime i;
        mtime = time inode.mtime fits.mtime i;
        ctime = time inode.ctime fits.ctime i;
        stamp = record {
          boot = eight inode.stamp.boot fits.boot i;
          transaction = eight inode.stamp.transaction fits.transaction i;
        };
        parent = four inode.parent fits.parent i;
        verifier = made (b0 ∷ b1 ∷ b2 ∷ b3 ∷ b4 ∷ b5 ∷ b6 ∷ b7 ∷ []);
        direct = four d0 all.0 i ∷ four d1 all.1.0 i ∷ four d2 all.1.1.0 i ∷ four d3 all.1.1.1.0 i
            ∷ four d4 all.1.1.1.1.0 i ∷ four d5 all.1.1.1.1.1.0 i ∷ four d6 all.1.1.1.1.1.1.0 i
            ∷ four d7 all.1.1.1.1.1.1.1.0 i ∷ [];
        indirect = four inode.indirect fits.indirect i;
        double = four inode.double fits.double i;
      }) direct long) bytes count

  fields : (verifier : Option Verifier) → IfSome verifier VerifierFits → (direct : List ℕ)
      → length direct ≡ DIRECT_INDEXES → AllByRecursion Fits direct → IsRead verifier direct
  fields None v direct long all = none_read direct long all
  fields (Some w) v direct long all = given_read w.bytes v.count direct long all

  -- the fields that are no field's, and the flags
  zero_rest : (verifier : Option Verifier) → IfSome verifier VerifierFits → (direct : List ℕ)
      → length direct ≡ DIRECT_INDEXES
      → rest_is_zero (inode_bytes (with inode verifier direct)) ≡ true
  unfolding four_at eight_at header_bytes middle_bytes tail_bytes four_bytes eight_bytes
  zero_rest None v direct long =
      eight_of (λ ds. rest_is_zero (inode_bytes (with inode None ds)) ≡ true)
      (λ d0 d1 d2 d3 d4 d5 d6 d7. refl) direct long
  zero_rest (Some w) v direct long =
      eight_of (λ bs. rest_is_zero (inode_bytes (with inode (made bs) direct)) ≡ true)
      (λ b0 b1 b2 b3 b4 b5 b6 b7.
      eight_of (λ ds. rest_is_zero
      (inode_bytes (with inode (made (b0 ∷ b1 ∷ b2 ∷ b3 ∷ b4 ∷ b5 ∷ b6 ∷ b7 ∷ [])) ds)) ≡ true)
      (λ d0 d1 d2 d3 d4 d5 d6 d7. refl) direct long) w.bytes v.count

  pub bytes-length : (verifier : Option Verifier) → IfSome verifier VerifierFits → (direct : List ℕ)
      → length direct ≡ DIRECT_INDEXES → length (inode_bytes (with inode verifier direct)) ≡ INODE_BYTES
  unfolding header_bytes middle_bytes tail_bytes four_bytes eight_bytes
  bytes-length None v direct long =
      eight_of (λ ds. length (inode_bytes (with inode None ds)) ≡ INODE_BYTES)
      (λ d0 d1 d2 d3 d4 d5 d6 d7. refl) direct long
  bytes-length (Some w) v direct long =
      eight_of (λ bs. length (inode_bytes (with inode (made bs) direct)) ≡ INODE_BYTES)
      (λ b0 b1 b2 b3 b4 b5 b6 b7.
      eight_of (λ ds. length (inode_bytes (with inode (made (b0 ∷ b1 ∷ b2 ∷ b3 ∷ b4 ∷ b5 ∷ b6 ∷ b7 ∷ [])) ds))
      ≡ INODE_BYTES) (λ d0 d1 d2 d3 d4 d5 d6 d7. refl) direct long) w.bytes v.count

  kind_back : (kind : InodeKind) → kind_of_number (four_at 0 (four_bytes (number_of_kind kind))) ≡ Some kind
  unfolding four_at four_bytes
  kind_back Regular = refl
  kind_back Directory = refl
  kind_back Link = refl

  kind_is : kind_of_number (four_at 0 (inode_bytes inode)) ≡ Some inode.kind
  unfolding four_at header_bytes four_bytes
  kind_is = kind_back inode.kind

  -- the number of a kind isn't zero
  some_kind : (kind : InodeKind) → is_zeros (inode_bytes (record inode { kind = kind })) ≡ false
  unfolding header_bytes four_bytes
  some_kind Regular = refl
  some_kind Directory = refl
  some_kind Link = refl

  pub written-length : length (inode_bytes inode) ≡ INODE_BYTES
  written-length = bytes-length inode.verifier fits.verifier inode.direct fits.count

  pub read_back : (g : Geometry) → is_sound_inode g inode ≡ true
      → read_inode g (inode_bytes inode) ≡ Ok (Some inode)
  read_back g good =
      sym (sound g (inode_bytes inode) inode.kind inode (some_kind inode.kind) kind_is
      (sym (fields inode.verifier fits.verifier inode.direct fits.count fits.direct))
      (zero_rest inode.verifier fits.verifier inode.direct fits.count) good)

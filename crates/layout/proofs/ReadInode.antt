-- The reading of an inode, case by case.
use Rattle.std.proofs.Common.{◌≡◌, ℕ, true, false, List, Some, None, Ok, Err, refl}
use Rattle.layout.specs.declared.geometry.Geometry.{Geometry}
use Rattle.layout.specs.declared.fault.LayoutFault.TheVariants.{Range}
use Rattle.layout.specs.declared.inode.Inode.{Inode}
use Rattle.layout.specs.declared.inode.InodeKind.{InodeKind}
use Rattle.layout.specs.Fields.{four_at, is_zeros}
use Rattle.layout.specs.InodeForm.{kind_of_number, fields_of, rest_is_zero, is_sound_inode, read_inode}

pub free : (g : Geometry) (bytes : List ℕ) → is_zeros bytes ≡ true
    → Ok None ≡ read_inode g bytes
unfolding read_inode
free g bytes z = rw z refl

pub no_kind : (g : Geometry) (bytes : List ℕ) → is_zeros bytes ≡ false
    → kind_of_number (four_at 0 bytes) ≡ None
    → Err Range ≡ read_inode g bytes
unfolding read_inode
no_kind g bytes z h = rw (z, h) refl

pub sound : (g : Geometry) (bytes : List ℕ) (kind : InodeKind) (inode : Inode)
    → is_zeros bytes ≡ false → kind_of_number (four_at 0 bytes) ≡ Some kind
    → inode ≡ fields_of kind bytes → rest_is_zero bytes ≡ true
    → is_sound_inode g inode ≡ true
    → Ok (Some inode) ≡ read_inode g bytes
unfolding read_inode
sound g bytes kind inode z h e r s = rw (z, h, ← e, r, s) refl

pub unsound : (g : Geometry) (bytes : List ℕ) (kind : InodeKind) (inode : Inode)
    → is_zeros bytes ≡ false → kind_of_number (four_at 0 bytes) ≡ Some kind
    → inode ≡ fields_of kind bytes → rest_is_zero bytes ≡ true
    → is_sound_inode g inode ≡ false
    → Err Range ≡ read_inode g bytes
unfolding read_inode
unsound g bytes kind inode z h e r s = rw (z, h, ← e, r, s) refl

pub not_zero : (g : Geometry) (bytes : List ℕ) (kind : InodeKind)
    → is_zeros bytes ≡ false → kind_of_number (four_at 0 bytes) ≡ Some kind
    → rest_is_zero bytes ≡ false → Err Range ≡ read_inode g bytes
unfolding read_inode
not_zero g bytes kind z h r = rw (z, h, r) refl

-- What 128 bytes are read as is what they are the bytes of.
use Rattle.std.proofs.Common.{◌≡◌, ℕ, ap, ◌∙◌, refl, subst, Bool, true, false, cond, ◌&&◌, List}
use Rattle.std.proofs.Common.{length, replicate, Option, Some, None, Ok, Err, arith}
use Rattle.base.specs.declared.TheConstants.{INODE_BYTES}
use Rattle.nfs_types.specs.Fits.{AreBytes}
use Rattle.layout.specs.declared.geometry.Geometry.{Geometry}
use Rattle.layout.specs.declared.fault.LayoutFault.{LayoutFault}
use Rattle.layout.specs.declared.fault.LayoutFault.TheVariants.{Range}
use Rattle.layout.specs.declared.inode.Inode.{Inode}
use Rattle.layout.specs.declared.inode.InodeKind.{InodeKind}
use Rattle.layout.specs.Fields.{four_at, is_zeros}
use Rattle.layout.specs.InodeForm.{kind_of_number, fields_of, rest_is_zero, is_sound_inode, inode_of_kind}
use Rattle.layout.specs.InodeForm.{read_inode, IsInTable}
use Rattle.layout.proofs.Fits.{fields_fit}
use Rattle.layout.proofs.FreshInodes.{free}
use Rattle.layout.proofs.Refused.{chosen, chosen_fault}
use Rattle.layout.proofs.Respelled.{all_two, all_zeros, number_of, spelled}
use Rattle.layout.proofs.Spelled.{read_back}

module _ (g : Geometry) (bytes : List ℕ) (are : AreBytes bytes) (long : length bytes ≡ INODE_BYTES) where
  abbrev IsThere : Option Inode → Type 0
  IsThere = IsInTable g bytes

  -- what is read is what they are the bytes of
  of_fields : (kind : InodeKind) → kind_of_number (four_at 0 bytes) ≡ Some kind → rest_is_zero bytes ≡ true
      → is_sound_inode g (fields_of kind bytes) ≡ true → IsThere (Some (fields_of kind bytes))
  of_fields kind is rest good = record {
    spelled = spelled bytes are long kind (number_of (four_at 0 bytes) kind is) rest;
    sound = record { fits = fields_fit bytes are kind (omega (arith, long)); good = good };
  }

  of_kind : (kind : Option InodeKind) (one : Option Inode) → kind_of_number (four_at 0 bytes) ≡ kind
      → inode_of_kind g kind bytes ≡ Ok one → IsThere one
  of_kind None one is e = cc
  of_kind (Some kind) one is e =
      let read = chosen (rest_is_zero bytes && is_sound_inode g (fields_of kind bytes))
      (Some (fields_of kind bytes)) one e in
      let both = all_two (rest_is_zero bytes) (is_sound_inode g (fields_of kind bytes)) read.0 in
      subst IsThere read.1 (of_fields kind is both.0 both.1)

  by_zeros : (none : Bool) (one : Option Inode) → is_zeros bytes ≡ none
      → cond none (Ok None) (inode_of_kind g (kind_of_number (four_at 0 bytes)) bytes) ≡ Ok one
      → IsThere one
  by_zeros true one is e =
      let none : None ≡ one = cc in
      subst IsThere none (all_zeros bytes is ∙ ap (λ count. replicate count 0) long)
  by_zeros false one is e = of_kind (kind_of_number (four_at 0 bytes)) one refl e

  pub read_is : (one : Option Inode) → read_inode g bytes ≡ Ok one → IsThere one
  unfolding read_inode
  read_is one e = by_zeros (is_zeros bytes) one refl e

  -- and they are read as what they are the bytes of
  pub is_read : (one : Option Inode) → IsThere one → read_inode g bytes ≡ Ok one
  is_read None is = ap (read_inode g) is ∙ free g
  is_read (Some inode) is = ap (read_inode g) is.spelled
      ∙ read_back inode is.sound.fits g is.sound.good

  -- ---- and else they are refused

  fault_of_kind : (kind : Option InodeKind) (fault : LayoutFault)
      → inode_of_kind g kind bytes ≡ Err fault → fault ≡ Range
  fault_of_kind None fault e = cc
  fault_of_kind (Some kind) fault e =
      chosen_fault (rest_is_zero bytes && is_sound_inode g (fields_of kind bytes))
      (Some (fields_of kind bytes)) fault e

  fault_by_zeros : (none : Bool) (fault : LayoutFault)
      → cond none (Ok None) (inode_of_kind g (kind_of_number (four_at 0 bytes)) bytes) ≡ Err fault
      → fault ≡ Range
  fault_by_zeros true fault e = cc
  fault_by_zeros false fault e = fault_of_kind (kind_of_number (four_at 0 bytes)) fault e

  pub fault_is : (fault : LayoutFault) → read_inode g bytes ≡ Err fault → fault ≡ Range
  unfolding read_inode
  fault_is fault e = fault_by_zeros (is_zeros bytes) fault e

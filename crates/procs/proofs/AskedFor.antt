-- What a plan stops for is an object of the image.
use Rattle.std.proofs.Common.{◌≡◌, ℕ, ◌<◌, refl, subst, List, true, false}
use Rattle.std.proofs.Common.{arith, Ok, Err, Bool, cond, ◌&&◌, ◌||◌, Option, Some, None, nat_eq}
use Rattle.std.specs.List.{list_all}
use Rattle.std.proofs.lemmas.Bool.Decides.{nat_tests}
use Rattle.layout.specs.declared.fault.LayoutFault.TheVariants.{Range}
use Rattle.layout.specs.declared.geometry.Geometry.{Geometry}
use Rattle.layout.specs.declared.inode.Inode.{Inode}
use Rattle.layout.specs.declared.inode.InodeKind.{InodeKind}
use Rattle.layout.specs.Objects.{inode}
use Rattle.layout.specs.Places.{is_data}
use Rattle.layout.specs.InodeForm.{fields_of, inode_of_kind, is_data_block_or_none, is_sound_inode}
use Rattle.layout.specs.InodeForm.{kind_of_number, read_inode, rest_is_zero}
use Rattle.layout.specs.Fields.{four_at, is_zeros}
use Rattle.layout.specs.Version.{has_double}
use Rattle.layout.proofs.AllNumbers.{map_is}
use Rattle.layout.proofs.Respelled.{all_four}
use Rattle.inode.specs.declared.snap.Snap.{Snap}
use Rattle.inode.specs.declared.suspend.Suspend.{Suspend}
use Rattle.inode.specs.declared.suspend.Suspend.TheVariants.{Need, Claim, Io, NoMemory}
use Rattle.inode.specs.Read.{IsAskedInode, WasReadInode}
use Rattle.inode.proofs.AllTests.{all_two}
use Rattle.inode.proofs.InodeThere.{data_of}
use Rattle.procs.specs.Asks.{IsAsked}

-- ---- an inode that was read names data blocks

differs : (a b : ℕ) → (a ≡ b → ⊥) → nat_eq a b ≡ false
differs a b e = grind (arith, nat_tests)

chosen : (b : Bool) (x y : Inode) → cond b (Ok (Some x)) (Err Range) ≡ Ok (Some y) → (b ≡ true) × (x ≡ y)
chosen true x y e = (refl, cc)
chosen false x y e = cc

sound_of_kind : (g : Geometry) (bytes : List ℕ) (one : Inode) (kind : Option InodeKind)
    → inode_of_kind g kind bytes ≡ Ok (Some one) → is_sound_inode g one ≡ true
sound_of_kind g bytes one None e = cc
sound_of_kind g bytes one (Some kind) e =
    let is = chosen (rest_is_zero bytes && is_sound_inode g (fields_of kind bytes))
    (fields_of kind bytes) one e in
    subst (λ i. is_sound_inode g i ≡ true) is.1
    (all_two (rest_is_zero bytes) (is_sound_inode g (fields_of kind bytes)) is.0).1

read_sound : (g : Geometry) (bytes : List ℕ) (one : Inode) → read_inode g bytes ≡ Ok (Some one)
    → is_sound_inode g one ≡ true
unfolding read_inode
read_sound g bytes one e = used (is_zeros bytes) e
  where
    used : (free : Bool)
        → cond free (Ok None) (inode_of_kind g (kind_of_number (four_at 0 bytes)) bytes)
        ≡ Ok (Some one)
        → is_sound_inode g one ≡ true
    used true e = cc
    used false e = sound_of_kind g bytes one (kind_of_number (four_at 0 bytes)) e

names_data : (g : Geometry) (one : Inode) → is_sound_inode g one ≡ true
    → (one.indirect ≡ 0 → ⊥) → is_data g one.indirect ≡ true
unfolding is_sound_inode
names_data g one good some =
    data_of (nat_eq one.indirect 0) (is_data g one.indirect) (differs one.indirect 0 some)
    (all_four (list_all (is_data_block_or_none g) one.direct)
    (is_data_block_or_none g one.indirect) (is_data_block_or_none g one.double)
    (nat_eq one.double 0 || has_double g.version) (map_is g one.kind one good)).1

-- ---- so what a plan stops for is an object

pub asks_inode : (snap : Snap) (number : ℕ) → number < snap.geometry.inodes → (why : Suspend)
    → IsAskedInode snap.geometry number why → IsAsked snap why
asks_inode snap number within (Need addr mode) at = inode number within at.block at.offset at.len
asks_inode snap number within (Claim block) at = absurd at
asks_inode snap number within Io at = tt
asks_inode snap number within (NoMemory error) at = tt

pub indirect_data : (snap : Snap) (number : ℕ) (one : Inode) → WasReadInode snap.geometry snap.objects.items number one
    → (one.indirect ≡ 0 → ⊥) → is_data snap.geometry one.indirect ≡ true
indirect_data snap number one read some =
    names_data snap.geometry one (read_sound snap.geometry read.bytes one read.is_inode) some

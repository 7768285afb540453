-- The super block: of which version the image is, how large it is, and how often it was opened.
use Rattle.std.specs.Prelude.{◌≡◌, ℕ, ◌-◌, Bool, true, ◌&&◌, List, [], ◌∷◌, ◌++◌, nat_eq, take, drop}
use Rattle.std.specs.Prelude.{replicate, Some, IsSome}
use Rattle.base.specs.declared.TheConstants.{BLOCK_BYTES}
use Rattle.layout.specs.declared.fault.LayoutFault.{LayoutFault}
use Rattle.layout.specs.declared.fault.LayoutFault.TheVariants.{Magic, Version, Range}
use Rattle.layout.specs.declared.super_block.Super.{Super}
use Rattle.layout.specs.declared.super_block.TheConstants.{VERSION_AT, BLOCKS_AT, INODES_AT, GAP_AT, BOOT_AT}
use Rattle.layout.specs.declared.super_block.TheConstants.{REST_AT}
use Rattle.layout.specs.Fields.{four_at, eight_at, four_bytes, eight_bytes, is_zeros}
use Rattle.layout.specs.Geometry.{IsLawful}
use Rattle.layout.specs.Version.{number_of_version, version_of_number}

-- `NFSJRNL1`
abbrev pub MAGIC_BYTES : List ℕ
MAGIC_BYTES = 78 ∷ 70 ∷ 83 ∷ 74 ∷ 82 ∷ 78 ∷ 76 ∷ 49 ∷ []

-- the bytes begin as those of an image do
abbrev pub HasMagic : List ℕ → Type 0
HasMagic bytes = take VERSION_AT bytes ≡ MAGIC_BYTES

-- they are of a version of the format
abbrev pub HasVersion : List ℕ → Type 0
HasVersion bytes = IsSome (version_of_number (four_at VERSION_AT bytes))

-- what isn't used is zero
abbrev pub is_unused_zero : List ℕ → Bool
is_unused_zero bytes = nat_eq (four_at GAP_AT bytes) 0 && is_zeros (drop REST_AT bytes)

-- the sizes are lawful, and what isn't used is zero
pub record HasSizes (bytes : List ℕ) : Type 0 where
  pub lawful : IsLawful (four_at BLOCKS_AT bytes) (four_at INODES_AT bytes)
  pub unused : is_unused_zero bytes ≡ true

-- the bytes of a block are those of this super block
pub record IsSuper (bytes : List ℕ) (super : Super) : Type 0 where
  pub magic : HasMagic bytes
  pub version : version_of_number (four_at VERSION_AT bytes) ≡ Some super.geometry.version
  pub sizes : HasSizes bytes
  pub blocks : super.geometry.blocks ≡ four_at BLOCKS_AT bytes
  pub inodes : super.geometry.inodes ≡ four_at INODES_AT bytes
  pub boot : super.boot ≡ eight_at BOOT_AT bytes

-- the bytes are those of no super block, and this is the first thing that is wrong with them
abbrev pub IsNoSuper : List ℕ → LayoutFault → Type 0
IsNoSuper bytes Magic = HasMagic bytes → ⊥
IsNoSuper bytes Version = HasMagic bytes × (HasVersion bytes → ⊥)
IsNoSuper bytes Range = HasMagic bytes × HasVersion bytes × (HasSizes bytes → ⊥)

-- what of its bytes isn't zero always
unfoldable pub super_header : Super → List ℕ
super_header super =
    MAGIC_BYTES ++ four_bytes (number_of_version super.geometry.version) ++ four_bytes super.geometry.blocks
    ++ four_bytes super.geometry.inodes ++ four_bytes 0 ++ eight_bytes super.boot

-- the bytes that a super block gets
abbrev pub super_bytes : Super → List ℕ
super_bytes super = super_header super ++ replicate (BLOCK_BYTES - REST_AT) 0

-- Two geometries of the same version and counts are one: that counts are lawful is told in one way alone.
use Rattle.std.proofs.Common.{◌≡◌, ℕ, List, Option, sym, ap, ◌∙◌, subst}
use Rattle.std.specs.Option.{unwrap_or}
use Rattle.std.proofs.Math.Bridge.{le_prop}
use Rattle.std.proofs.Math.Nat.{ℕ_set}
use Rattle.layout.specs.declared.geometry.Geometry.{Geometry}
use Rattle.layout.specs.declared.super_block.Super.{Super}
use Rattle.layout.specs.declared.version.FormatVersion.{FormatVersion}
use Rattle.layout.specs.Geometry.{IsLawful}
use Rattle.layout.specs.SuperForm.{IsSuper}

lawful_in_one_way : (blocks inodes : ℕ) → IsProp (IsLawful blocks inodes)
lawful_in_one_way blocks inodes = hlevel (le_prop, ℕ_set)

abbrev made : FormatVersion → (blocks inodes : ℕ) → IsLawful blocks inodes → Geometry
made version blocks inodes lawful =
    record { version = version; blocks = blocks; inodes = inodes; lawful = lawful }

same_blocks : (version : FormatVersion) (a b inodes : ℕ) → a ≡ b
    → (l : IsLawful a inodes) (m : IsLawful b inodes)
    → made version a inodes l ≡ made version b inodes m
same_blocks version a b inodes is l =
    subst (λ b. (m : IsLawful b inodes) → made version a inodes l ≡ made version b inodes m) is
    (λ m. ap (made version a inodes) (lawful_in_one_way a inodes l m))

pub one_geometry : (g h : Geometry) → g.version ≡ h.version → g.blocks ≡ h.blocks → g.inodes ≡ h.inodes → g ≡ h
one_geometry g h version blocks inodes =
    subst (λ v. g ≡ made v h.blocks h.inodes h.lawful) version
    (subst (λ j. (m : IsLawful h.blocks j) → g ≡ made g.version h.blocks j m) inodes
    (same_blocks g.version g.blocks h.blocks g.inodes blocks g.lawful) h.lawful)

-- the bytes of a block are those of super blocks of one geometry
pub of_one_block : (bytes : List ℕ) (one two : Super) → IsSuper bytes one → IsSuper bytes two
    → one.geometry ≡ two.geometry
of_one_block bytes one two is other =
    one_geometry one.geometry two.geometry
    (ap (λ (o : Option FormatVersion). unwrap_or o one.geometry.version) (sym is.version ∙ other.version))
    (is.blocks ∙ sym other.blocks) (is.inodes ∙ sym other.inodes)

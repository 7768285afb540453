-- Each field is read where it was written.
use Rattle.std.proofs.Common.{◌≡◌, ◌∙◌, ◌^◌, ◌<◌, Some, true, refl, ap, sym, subst, arith}
use Rattle.std.proofs.lemmas.Nat.{from_le_bytes-to_le_bytes_4, from_le_bytes-to_le_bytes_8}
use Rattle.layout.specs.declared.super_block.Super.{Super}
use Rattle.layout.specs.Fields.{four_at, eight_at, four_bytes, eight_bytes}
use Rattle.layout.specs.Geometry.{IsLawful}
use Rattle.layout.specs.SuperForm.{HasMagic, is_unused_zero, super_header, super_bytes}
use Rattle.layout.specs.Version.{number_of_version, version_of_number}
use Rattle.layout.proofs.Versions.{fits_four, version_is}
use Rattle.layout.proofs.fresh.a_super_block_is_its_bytes.Goals as goal

module _ (s : Super) where
  magic : HasMagic (super_bytes s)
  unfolding super_header
  magic = refl

  number : four_at 8 (super_bytes s) ≡ number_of_version s.geometry.version
  unfolding super_header four_at four_bytes eight_bytes
  number = from_le_bytes-to_le_bytes_4 (number_of_version s.geometry.version) (fits_four s.geometry.version)

  version : version_of_number (four_at 8 (super_bytes s)) ≡ Some s.geometry.version
  version = ap version_of_number number ∙ version_is s.geometry.version

  blocks : s.geometry.blocks < 2 ^ 32 → four_at 12 (super_bytes s) ≡ s.geometry.blocks
  unfolding super_header four_at four_bytes eight_bytes
  blocks fits = from_le_bytes-to_le_bytes_4 s.geometry.blocks fits

  inodes : s.geometry.inodes < 2 ^ 32 → four_at 16 (super_bytes s) ≡ s.geometry.inodes
  unfolding super_header four_at four_bytes eight_bytes
  inodes fits = from_le_bytes-to_le_bytes_4 s.geometry.inodes fits

  unused : is_unused_zero (super_bytes s) ≡ true
  unfolding super_header four_at four_bytes eight_bytes
  unused = refl

  boot : s.boot < 2 ^ 64 → eight_at 24 (super_bytes s) ≡ s.boot
  unfolding super_header eight_at four_bytes eight_bytes
  boot fits = from_le_bytes-to_le_bytes_8 s.boot fits

pub returns : goal.returns
returns c = λ s lawful fits.
    let most_blocks = lawful.0.1 in
    let most_inodes = lawful.1.1 in
    let b : four_at 12 (super_bytes s) ≡ s.geometry.blocks = blocks s (omega (arith, most_blocks)) in
    let i : four_at 16 (super_bytes s) ≡ s.geometry.inodes = inodes s (omega (arith, most_inodes)) in
    record {
      magic = magic s;
      version = version s;
      sizes = record {
        lawful = subst (λ blocks. IsLawful blocks (four_at 16 (super_bytes s))) (sym b)
            (subst (IsLawful s.geometry.blocks) (sym i) lawful);
        unused = unused s;
      };
      blocks = sym b;
      inodes = sym i;
      boot = sym (boot s fits);
    }

-- A block that is a super block is the bytes that this super block gets.
use Rattle.std.proofs.Common.{◌≡◌, ℕ, ◌+◌, ◌-◌, ◌≤◌, sym, ap, ◌∙◌, List, length, drop, replicate}
use Rattle.std.proofs.Common.{nat_eq, true, Some, arith}
use Rattle.std.proofs.lemmas.List.{length-drop, take_all}
use Rattle.base.specs.declared.TheConstants.{BLOCK_BYTES}
use Rattle.nfs_types.specs.Fits.{AreBytes}
use Rattle.layout.specs.declared.super_block.Super.{Super}
use Rattle.layout.specs.declared.version.FormatVersion.{FormatVersion}
use Rattle.layout.specs.Fields.{four_at, four_bytes, eight_bytes, is_zeros}
use Rattle.layout.specs.SuperForm.{IsSuper, super_header, super_bytes}
use Rattle.layout.proofs.Respelled.{all_two, same_number, all_zeros, first_four, first_eight, followed, part}
use Rattle.layout.proofs.OneGeometry.{one_geometry}
use Rattle.layout.proofs.Versions.{number_is}

module _ (bytes : List ℕ) (s : Super) (are : AreBytes bytes) (long : length bytes ≡ BLOCK_BYTES)
    (is : IsSuper bytes s) where
  four : (at number : ℕ) → at + 4 ≤ 32 → number ≡ four_at at bytes → four_bytes number ≡ part bytes are at 4
  four at number few e = ap four_bytes e ∙ first_four bytes are at (omega (arith, few, long))

  unused : (nat_eq (four_at 20 bytes) 0 ≡ true) × (is_zeros (drop 32 bytes) ≡ true)
  unused = all_two (nat_eq (four_at 20 bytes) 0) (is_zeros (drop 32 bytes)) is.sizes.unused

  head : super_header s ≡ part bytes are 0 32
  unfolding super_header
  head =
      followed bytes are 0 24 8 _ _
      (followed bytes are 0 20 4 _ _
      (followed bytes are 0 16 4 _ _
      (followed bytes are 0 12 4 _ _
      (followed bytes are 0 8 4 _ _ (sym is.magic)
      (four 8 _ (omega arith) (number_is (four_at 8 bytes) s.geometry.version is.version)))
      (four 12 s.geometry.blocks (omega arith) is.blocks))
      (four 16 s.geometry.inodes (omega arith) is.inodes))
      (four 20 0 (omega arith) (sym (same_number (four_at 20 bytes) 0 unused.0))))
      (ap eight_bytes is.boot ∙ first_eight bytes are 24 (omega (arith, long)))

  rest-length : length (drop 32 bytes) ≡ BLOCK_BYTES - 32
  rest-length = let rest = length-drop 32 bytes in omega (arith, rest, long)

  rest : replicate (BLOCK_BYTES - 32) 0 ≡ part bytes are 32 (BLOCK_BYTES - 32)
  rest = ap (λ k. replicate k 0) (sym rest-length) ∙ sym (all_zeros (drop 32 bytes) unused.1)
      ∙ sym (take_all (BLOCK_BYTES - 32) (drop 32 bytes) (omega (arith, rest-length)))

  pub spelled : bytes ≡ super_bytes s
  spelled = sym (take_all BLOCK_BYTES bytes (omega (arith, long)))
      ∙ sym (followed bytes are 0 32 (BLOCK_BYTES - 32) _ _ head rest)

-- a block is one super block at most
some_same : (a b : FormatVersion) → Some a ≡ Some b → a ≡ b
some_same a b same = cc

pub one_super : (bytes : List ℕ) (s t : Super) → IsSuper bytes s → IsSuper bytes t → s ≡ t
one_super bytes s t a b =
    let version : s.geometry.version ≡ t.geometry.version =
    some_same s.geometry.version t.geometry.version (sym a.version ∙ b.version) in
    let geometry : s.geometry ≡ t.geometry =
    one_geometry s.geometry t.geometry version (a.blocks ∙ sym b.blocks) (a.inodes ∙ sym b.inodes) in
    let boot : s.boot ≡ t.boot = a.boot ∙ sym b.boot in
    λ i. record { geometry = geometry i; boot = boot i }

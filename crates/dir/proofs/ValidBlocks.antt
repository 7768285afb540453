-- Blocks of a directory none of whose slots is refused.
use Rattle.std.proofs.Common.{◌≡◌, ℕ, ◌+◌, ◌-◌, ◌<◌, ◌∙◌, inl, inr, sym, ap, subst, false, List}
use Rattle.std.proofs.Common.{length, get_or, nat_eq, IsOk, arith}
use Rattle.std.proofs.lemmas.Bool.{cases_lt}
use Rattle.std.proofs.lemmas.Bool.Decides.{nat_tests}
use Rattle.base.specs.declared.TheConstants.{BLOCK_BYTES, DIRECT_INDEXES, INDIRECT_INDEXES, MOST_SPAN}
use Rattle.disk.specs.Crash.{Image}
use Rattle.layout.specs.declared.inode.Inode.{Inode}
use Rattle.layout.specs.Fields.{numbers_at}
use Rattle.inode.specs.declared.snap.Snap.{Snap}
use Rattle.inode.specs.Asked.{IsPointerNumber, IsNumberAt, WasReadBlock}
use Rattle.inode.specs.Asked.IsPointerNumber.{named, none}
use Rattle.inode.specs.Asked.IsNumberAt.{direct, doubled, indirect_part}
use Rattle.inode.specs.Read.{Saw}
use Rattle.inode.proofs.AllTests.{all_three, same_number}
use Rattle.inode.proofs.ReadThere.{whole_there}
use Rattle.dir.specs.Slots.{HasBlockAt, Lying, NoneRefused}
use Rattle.dir.specs.Slots.HasBlockAt.{direct_part, indirect_part as in_indirect_part}

no_zero : (number : ℕ) → nat_eq number 0 ≡ false → number ≡ 0 → ⊥
no_zero number some is = grind (arith, nat_tests)

module _ (snap : Snap) (blocks : Image) (saw : Saw blocks snap) where
  -- a whole block that was read is the one of its number
  pub was_there : (number : ℕ) (bytes : List ℕ) → WasReadBlock snap.objects.items number bytes
      → length (blocks number) ≡ BLOCK_BYTES → bytes ≡ blocks number
  was_there number bytes was long =
      let object = was.read.object in
      let same = all_three (nat_eq was.addr.block.0 object.addr.block.0) (nat_eq was.addr.offset object.addr.offset)
      (nat_eq was.addr.len object.addr.len) was.read.at in
      sym was.read.bytes_are
      ∙ whole_there blocks number object.addr object.bytes
      (sym (same_number was.addr.block.0 object.addr.block.0 same.0) ∙ was.at.block)
      (sym (same_number was.addr.offset object.addr.offset same.1) ∙ was.at.offset)
      (sym (same_number was.addr.len object.addr.len same.2) ∙ was.at.len) (saw object was.read.there) long

  indirect_is : (pointer index_within number other : ℕ) → nat_eq number 0 ≡ false → length (blocks pointer) ≡ BLOCK_BYTES
      → IsPointerNumber snap.objects.items pointer index_within number
      → other ≡ get_or (numbers_at INDIRECT_INDEXES 0 (blocks pointer)) index_within 0 → other ≡ number
  indirect_is pointer index_within number other some long (none zero is) there = absurd (no_zero number some is)
  indirect_is pointer index_within number other some long (named bytes was is) there =
      there
      ∙ ap (λ l. get_or (numbers_at INDIRECT_INDEXES 0 l) index_within 0) (sym (was_there pointer bytes was long))
      ∙ sym is

  -- the number that was found at an index is the one of the directory's block there
  pub number_is : (inode : Inode) (index number other : ℕ) → index < MOST_SPAN → nat_eq number 0 ≡ false
      → IsNumberAt snap.objects.items inode index number → HasBlockAt blocks inode index other → other ≡ number
  number_is inode index number other few some (direct less is) (direct_part low there) = there ∙ sym is
  number_is inode index number other few some (direct less is) (in_indirect_part past long there) = absurd (omega (arith, less, past))
  number_is inode index number other few some (indirect_part past within is) (direct_part low there) = absurd (omega (arith, low, past))
  number_is inode index number other few some (indirect_part past within is) (in_indirect_part more long there) =
      indirect_is inode.indirect (index - DIRECT_INDEXES) number other some long is there
  number_is inode index number other few some (doubled past inner above is) at = absurd (omega (arith, few, past))

-- ---- slot by slot

module _ (lies : Lying) (from : ℕ) where
  pub one_valid : (last : ℕ) → NoneRefused lies from last → IsOk (lies last) → NoneRefused lies from (last + 1)
  one_valid last before here slot low less =
      elim (cases_lt slot last) [
        | inl early ↦ before slot low early
        | inr late ↦ (let same : last ≡ slot = omega (arith, less, late) in subst (λ k. IsOk (lies k)) same here)
      ]

  pub all_valid : (past end : ℕ) → NoneRefused lies from past → NoneRefused lies past end → NoneRefused lies from end
  all_valid past end first rest slot low less =
      elim (cases_lt slot past) [ inl early ↦ first slot low early | inr late ↦ rest slot late less ]

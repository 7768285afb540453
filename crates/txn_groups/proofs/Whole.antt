-- An object that is a whole block, laid over another.
use Rattle.std.proofs.Common.{◌≡◌, ◌∙◌, ◌+◌, ◌≤◌, ◌++◌, ℕ, ap, arith, drop, length, sym}
use Rattle.std.proofs.lemmas.List.{append-nil, drop_all}
use Rattle.base.specs.declared.TheConstants.{BLOCK_BYTES}
use Rattle.disk.specs.Device.{Content}
use Rattle.objects.specs.Spliced.{spliced}

-- the object alone is left
pub all_of_it : (content bytes : Content) (offset : ℕ) → offset + length bytes ≤ BLOCK_BYTES
    → length bytes ≡ BLOCK_BYTES → length content ≡ BLOCK_BYTES → bytes ≡ spliced content offset bytes
all_of_it content bytes offset within all whole =
    let first : offset ≡ 0 = omega (arith, within, all) in
    let none = drop_all (0 + length bytes) content (omega (arith, all, whole)) in
    sym (ap (λ (at : ℕ). spliced content at bytes) first ∙ ap (λ (behind : Content). bytes ++ behind) none
    ∙ append-nil bytes)

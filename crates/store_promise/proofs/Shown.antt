-- What an image shows, one test after the other.
use Rattle.std.proofs.Common.{◌≡◌, ℕ, ◌+◌, ◌^◌, ◌<◌, inl, inr, ◌∙◌, sym, refl, subst, arith, IsSome, Some}
use Rattle.disk.specs.Device.{Content}
use Rattle.layout.specs.declared.fault.LayoutFault.TheVariants as layout_fault
use Rattle.layout.specs.declared.super_block.Super.{Super}
use Rattle.layout.specs.SuperForm.{HasVersion, IsNoSuper, IsSuper}
use Rattle.store_promise.specs.Openings.{IsOfAnother}

some_is : {X : Type 0} (x : X) → IsSome (Some x)
some_is x = refl

pub has_version : (content : Content) (super : Super) → IsSuper content super → HasVersion content
has_version content super is = subst IsSome (sym is.version) (some_is super.geometry.version)

-- a block of a super block is that of no other, and shows no fault
pub not_magic : (content : Content) (super : Super) → IsSuper content super
    → IsNoSuper content layout_fault.Magic → ⊥
not_magic content super is none = none is.magic

pub not_version : (content : Content) (super : Super) → IsSuper content super
    → IsNoSuper content layout_fault.Version
    → ⊥
not_version content super is none = none.1 (has_version content super is)

pub not_range : (content : Content) (super : Super) → IsSuper content super
    → IsNoSuper content layout_fault.Range → ⊥
not_range content super is none = none.2 is.sizes

pub not_another : (size : ℕ) (content : Content) (super : Super) → IsSuper content super
    → super.geometry.blocks ≡ size → super.boot + 1 < 2 ^ 64 → IsOfAnother size content → ⊥
not_another size content super is same left (other, so, inl differs) =
    differs (so.blocks ∙ sym is.blocks ∙ same)
not_another size content super is same left (other, so, inr spent) =
    let boot : other.boot ≡ super.boot = so.boot ∙ sym is.boot in omega (arith, left, spent, boot)

-- it has blocks
pub has_blocks : (size : ℕ) (content : Content) (super : Super) → IsSuper content super
    → super.geometry.blocks ≡ size
    → size ≡ 0 → ⊥
has_blocks size content super is same none =
    let least = is.sizes.lawful.0.0 in
    let blocks = is.blocks in
    omega (arith, least, blocks, same, none)

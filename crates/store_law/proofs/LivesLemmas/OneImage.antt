-- An image is good with one tree and one boot number.
use Rattle.std.proofs.Common.{◌≡◌, ◌∙◌, sym, subst, ℕ, zero, suc, ◌<◌, ◌≤◌, arith, List, [], ◌∷◌, length}
use Rattle.std.specs.List.{Contains}
use Rattle.base.specs.declared.TheConstants.{SUPER_BLOCK}
use Rattle.disk.specs.Crash.{Image, IsAtRest, IsCrashImage}
use Rattle.disk.specs.Device.{Content, Device, current}
use Rattle.nfs_spec.specs.Model.Tree.{Tree}
use Rattle.layout.proofs.OneGeometry.{of_one_block}
use Rattle.layout.proofs.OneTree.{one_tree}
use Rattle.layout.specs.Homes.{homes_of}
use Rattle.layout.specs.Stands.{Stands}
use Rattle.layout.specs.SuperForm.{IsSuper}
use Rattle.circ.specs.Log.Overlay.{over}
use Rattle.store_promise.specs.GoodImage.{IsGoodImage}
use Rattle.store_promise.specs.Openings.{IsLater}

pub one_boot : (size size_too boot again : ℕ) (image other : Image) (tree tree_too : Tree)
    → IsGoodImage size image tree boot → IsGoodImage size_too other tree_too again
    → image SUPER_BLOCK ≡ other SUPER_BLOCK → boot ≡ again
one_boot size size_too boot again image other tree tree_too a b same =
    let moved : IsSuper (image SUPER_BLOCK) b.super = subst (λ c. IsSuper c b.super) (sym same) b.is_super in
    sym a.boot_is ∙ a.is_super.boot ∙ sym moved.boot ∙ b.boot_is

pub good_once : (size boot again : ℕ) (image : Image) (one other : Tree) → IsGoodImage size image one boot
    → IsGoodImage size image other again → one ≡ other
good_once size boot again image one other a b =
    let geometry : b.super.geometry ≡ a.super.geometry =
    of_one_block (image SUPER_BLOCK) b.super a.super b.is_super a.is_super in
    one_tree a.super.geometry (homes_of size (over image)) one other a.stands
    (subst (λ g. Stands g (homes_of size (over image)) other) geometry b.stands)

-- what a crash leaves then, it leaves later too
pub still_left : (before later : Device) → IsLater before later → (clock : ℕ) → clock ≤ before.clock
    → (image : Image) → IsCrashImage later clock image → IsCrashImage before clock image
still_left before later is clock within image left block inside =
    subst (λ cs. Contains cs (image block)) (is.past clock block within)
    (left block (subst (λ n. block < n) (sym is.size) inside))

pub left_still : (before later : Device) → IsLater before later → (clock : ℕ) → clock ≤ before.clock
    → (image : Image) → IsCrashImage before clock image → IsCrashImage later clock image
left_still before later is clock within image left block inside =
    subst (λ cs. Contains cs (image block)) (sym (is.past clock block within))
    (left block (subst (λ n. block < n) is.size inside))

-- of one content there is one
only_one : (xs : List Content) (x y : Content) → length xs ≡ 1 → Contains xs x → Contains xs y → x ≡ y
only_one [] x y one a b = let first = a.1 in absurd (omega (arith, first))
only_one (z ∷ []) x y one a b = from x a ∙ sym (from y b)
  where
    from : (w : Content) → Contains (z ∷ []) w → w ≡ z
    from w (zero, less, is) = sym is
    from w (suc k, less, is) = absurd (omega (arith, less))
only_one (z ∷ v ∷ xs) x y one a b = absurd (omega (arith, one))

pub one_content : (d : Device) → IsAtRest d → (one other : Image) → IsCrashImage d d.clock one
    → IsCrashImage d d.clock other → (block : ℕ) → block < d.size → one block ≡ other block
one_content d rest one other a b block inside =
    only_one (current d block) (one block) (other block) (rest.one block inside) (a block inside)
    (b block inside)

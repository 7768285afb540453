-- Whether an image is good shows in its blocks below the size.
use Rattle.std.proofs.Common.{◌≡◌, ◌∙◌, ap, sym, subst, refl, ℕ, zero, suc, ◌+◌, ◌<◌, ◌≤◌, arith, Bool, true, false}
use Rattle.std.proofs.Common.{cond, ◌&&◌, List, [], ◌∷◌, ◌++◌, nat_le, nat_lt, replicate}
use Rattle.std.proofs.lemmas.Bool.Decides.{nat_tests}
use Rattle.base.specs.declared.TheConstants.{BLOCK_BYTES, FIRST_HOME_BLOCK, LOG_HEADER_BLOCK, START_BLOCK}
use Rattle.base.specs.declared.TheConstants.{SUPER_BLOCK}
use Rattle.disk.specs.Crash.{Image}
use Rattle.disk.specs.Device.{Content}
use Rattle.disk.specs.declared.block.BlockNo.{BlockNo}
use Rattle.layout.specs.Homes.{homes_of, is_home}
use Rattle.layout.specs.Stands.{Stands}
use Rattle.layout.specs.SuperForm.{IsSuper}
use Rattle.nfs_spec.specs.Model.Tree.{Tree}
use Rattle.circ.specs.Log.EightBytes.{number_at}
use Rattle.circ.specs.Log.Effects.{newest_in}
use Rattle.circ.specs.Log.Log.{IsHomeOn}
use Rattle.circ.specs.Log.Logger.{slot_block}
use Rattle.circ.specs.Log.Overlay.{HasHomes, IsInRange, content_or, count_in, end_in, home_at, logged_in, over}
use Rattle.circ.specs.Log.Overlay.{positions, start_in}
use Rattle.store_promise.specs.GoodImage.{IsGoodImage}

module _ (size : ℕ) (image other : Image) (least : 1024 ≤ size)
    (same : (block : ℕ) → block < size → other block ≡ image block) where
  starts : start_in other ≡ start_in image
  starts = ap (λ c. number_at c 0) (same START_BLOCK (omega (arith, least)))

  ends : end_in other ≡ end_in image
  ends = ap (λ c. number_at c 0) (same LOG_HEADER_BLOCK (omega (arith, least)))

  header : other LOG_HEADER_BLOCK ≡ image LOG_HEADER_BLOCK
  header = same LOG_HEADER_BLOCK (omega (arith, least))

  counts : count_in other ≡ count_in image
  counts = let s = starts in let e = ends in omega (arith, s, e)

  in_slots : (position : ℕ) → slot_block position < size
  in_slots position = omega (arith, least)

  positions_same : (head : Content) (start count : ℕ)
      → positions head other start count ≡ positions head image start count
  positions_same head start zero = refl
  positions_same head start (suc count) =
      ap (λ (ps : List (BlockNo × Content)). ps ++ (home_at head (start + count), other (slot_block (start + count))) ∷ [])
      (positions_same head start count)
      ∙ ap (λ (c : Content). positions head image start count ++ (home_at head (start + count), c) ∷ [])
      (same (slot_block (start + count)) (in_slots (start + count)))

  logged_same : logged_in other ≡ logged_in image
  logged_same =
      ap (λ h. positions h other (start_in other) (count_in other)) header
      ∙ ap (λ s. positions (image LOG_HEADER_BLOCK) other s (count_in other)) starts
      ∙ ap (λ n. positions (image LOG_HEADER_BLOCK) other (start_in image) n) counts
      ∙ positions_same (image LOG_HEADER_BLOCK) (start_in image) (count_in image)

  over_same : (block : ℕ) → block < size → over other block ≡ over image block
  over_same block inside =
      ap (λ ps. content_or (newest_in ps block) (other block)) logged_same
      ∙ ap (content_or (newest_in (logged_in image) block)) (same block inside)

  home_same : (block : ℕ) (home : Bool) → is_home size block ≡ home
      → cond home (over other block) (replicate BLOCK_BYTES 0) ≡ cond home (over image block) (replicate BLOCK_BYTES 0)
  home_same block true is = over_same block (inside (nat_le FIRST_HOME_BLOCK block) (nat_lt block size) refl is)
    where
      inside : (a b : Bool) → nat_lt block size ≡ b → (a && b) ≡ true → block < size
      inside true true test both = grind (arith, nat_tests, test)
      inside true false test both = cc
      inside false b test both = cc
  home_same block false is = refl

  homes_same : homes_of size (over other) ≡ homes_of size (over image)
  homes_same = λ i block. home_same block (is_home size block) refl i

  range_too : IsInRange image → IsInRange other
  range_too range =
      let order = range.order in
      let slots = range.slots in
      let s = starts in
      let e = ends in
      record { order = omega (arith, order, s, e); slots = omega (arith, slots, s, e) }

  homes_too : HasHomes size image → HasHomes size other
  homes_too homes k less =
      let n = counts in
      subst (λ h. IsHomeOn size (home_at h (start_in other + k))) (sym header)
      (subst (λ s. IsHomeOn size (home_at (image LOG_HEADER_BLOCK) (s + k))) (sym starts)
      (homes k (omega (arith, less, n))))

least_of : (size boot : ℕ) (image : Image) (tree : Tree) → IsGoodImage size image tree boot → 1024 ≤ size
least_of size boot image tree good =
    let blocks = good.is_super.blocks in
    let least = good.is_super.sizes.lawful.0.0 in
    let is = good.size_is in
    omega (arith, blocks, least, is)

pub good_below : (size boot : ℕ) (image other : Image) (tree : Tree) → IsGoodImage size image tree boot
    → ((block : ℕ) → block < size → other block ≡ image block) → IsGoodImage size other tree boot
good_below size boot image other tree good same =
    let least = least_of size boot image tree good in record {
      super = good.super;
      is_super = subst (λ c. IsSuper c good.super) (sym (same SUPER_BLOCK (omega (arith, least)))) good.is_super;
      size_is = good.size_is;
      boot_is = good.boot_is;
      range = range_too size image other least same good.range;
      homes = homes_too size image other least same good.homes;
      stands = subst (λ bs. Stands good.super.geometry bs tree)
          (sym (homes_same size image other least same)) good.stands;
      stamps = good.stamps;
    }

-- An image in whose log is nothing: its homes are the files, whatever else is read or written.
use Rattle.std.proofs.Common.{◌≡◌, ◌∙◌, refl, sym, ap, subst, ℕ, ◌-◌, ◌<◌, ◌≤◌, arith, Bool, true, false, cond, nat_eq}
use Rattle.std.proofs.Common.{◌&&◌, nat_le, nat_lt}
use Rattle.std.proofs.Common.{if◌then◌else◌, List, [], ◌∷◌, length, replicate, All}
use Rattle.std.specs.List.{Contains}
use Rattle.std.proofs.lemmas.Bool.Decides.{nat_tests}
use Rattle.std.proofs.lemmas.List.Elements.{All-head, All-tail}
use Rattle.base.specs.declared.TheConstants.{BLOCK_BYTES, FIRST_HOME_BLOCK, LOG_HEADER_BLOCK, START_BLOCK}
use Rattle.base.specs.declared.TheConstants.{SUPER_BLOCK}
use Rattle.disk.specs.Crash.{Image, IsAtRest, IsCrashImage}
use Rattle.disk.specs.Device.{Content, Device, current, newest}
use Rattle.disk.specs.declared.block.BlockNo.{BlockNo}
use Rattle.nfs_spec.specs.Model.Sound.{IsMadeBy}
use Rattle.nfs_spec.specs.Model.Tree.{Tree}
use Rattle.layout.specs.declared.geometry.Geometry.{Geometry}
use Rattle.layout.specs.Homes.{homes_of, is_home}
use Rattle.layout.specs.Stands.{Stands}
use Rattle.layout.specs.SuperForm.{IsSuper}
use Rattle.objects.specs.Object.{ObjectBytes}
use Rattle.objects.specs.Spliced.{spliced}
use Rattle.txn_law.specs.Window.{with_object, with_objects}
use Rattle.circ.specs.Log.EightBytes.{number_at}
use Rattle.circ.specs.Log.Effects.{newest_in}
use Rattle.circ.specs.Log.Log.{IsHomeOn}
use Rattle.circ.specs.Log.Overlay.{content_or, end_in, logged_in, over, positions, start_in}
use Rattle.circ.specs.Log.Recovery.{HasOnlyRead, image_of}
use Rattle.circ.proofs.LogLemmas.Contents.{one_member}
use Rattle.circ.proofs.LogLemmas.OnlyRead.{image_then}
use Rattle.store_promise.specs.GoodImage.{IsGoodImage}
use Rattle.store_promise.proofs.Stopped.{not_home, outside_of}
use Rattle.store_images.specs.Opening.{HoldsTree}
use Rattle.store_images.specs.Replays.AtHome.{HoldsAtHome}
use Rattle.store_images.specs.Replays.Putting.{HasComeHome}

-- ---- a log in which is nothing

none_counted : (a b : ℕ) → a ≡ b → b - a ≡ 0
none_counted a b same = omega (arith, same)

none_logged : (image : Image) → start_in image ≡ end_in image → logged_in image ≡ []
none_logged image empty =
    ap (λ n. positions (image LOG_HEADER_BLOCK) image (start_in image) n)
    (none_counted (start_in image) (end_in image) empty)

pub over_nothing : (image : Image) → start_in image ≡ end_in image → (block : ℕ) → over image block ≡ image block
over_nothing image empty block =
    ap (λ (logged : List (BlockNo × Content)). content_or (newest_in logged block) (image block))
    (none_logged image empty)

-- ---- homes alone

differs : (a b : ℕ) → (a ≡ b → ⊥) → nat_eq a b ≡ false
differs a b other = grind (arith, nat_tests)

same_number : (a b : ℕ) → nat_eq a b ≡ true → a ≡ b
same_number a b is = grind (arith, nat_tests)

-- images that have the same homes
pub same_homes : (size : ℕ) (one other : Image)
    → ((number : ℕ) → is_home size number ≡ true → one number ≡ other number)
    → homes_of size one ≡ homes_of size other
same_homes size one other same = λ i number. each number (is_home size number) refl i
  where
    each : (number : ℕ) (home : Bool) → is_home size number ≡ home
        → cond home (one number) (replicate BLOCK_BYTES 0) ≡ cond home (other number) (replicate BLOCK_BYTES 0)
    each number true is = same number is
    each number false is = refl

pub is_at_home : (size number : ℕ) → FIRST_HOME_BLOCK ≤ number → number < size → is_home size number ≡ true
is_at_home size number from below = by_test (is_home size number) refl
  where
    by_test : (t : Bool) → is_home size number ≡ t → is_home size number ≡ true
    by_test true is = is
    by_test false is = absurd (not_home size number is from below)

pub home_from : (size number : ℕ) → is_home size number ≡ true → FIRST_HOME_BLOCK ≤ number
home_from size number is = by_test (nat_le FIRST_HOME_BLOCK number) refl is
  where
    by_test : (t : Bool) → nat_le FIRST_HOME_BLOCK number ≡ t → (t && nat_lt number size) ≡ true
        → FIRST_HOME_BLOCK ≤ number
    by_test true from both = grind (arith, nat_tests)
    by_test false from both = cc

-- an object that is laid over homes
one_overlaid : (size : ℕ) (image : Image) (object : ObjectBytes) → IsHomeOn size object.addr.block
    → with_object (homes_of size image) object ≡ homes_of size (with_object image object)
one_overlaid size image object home =
    λ i number. each (nat_eq number object.addr.block.0) (is_home size number) (there number) (image number)
    (replicate BLOCK_BYTES 0) i
  where
    there : (number : ℕ) → nat_eq number object.addr.block.0 ≡ true → is_home size number ≡ true
    there number is =
        let at = same_number number object.addr.block.0 is in
        let from = home.0 in
        let below = home.1 in is_at_home size number (omega (arith, at, from)) (omega (arith, at, below))

    each : (t home : Bool) → (t ≡ true → home ≡ true) → (content zeros : Content)
        → (if t then spliced (cond home content zeros) object.addr.offset object.bytes
        else cond home content zeros)
        ≡ cond home (if t then spliced content object.addr.offset object.bytes else content) zeros
    each true true there content zeros = refl
    each true false there content zeros = let clash : false ≡ true = there refl in cc
    each false true there content zeros = refl
    each false false there content zeros = refl

-- objects that are laid over homes
pub all_overlaid : (size : ℕ) (image : Image) (objects : List ObjectBytes)
    → All (λ (object : ObjectBytes). IsHomeOn size object.addr.block) objects
    → with_objects (homes_of size image) objects ≡ homes_of size (with_objects image objects)
all_overlaid size image [] home = refl
all_overlaid size image (object ∷ objects) home =
    ap (λ (blocks : Image). with_objects blocks objects)
    (one_overlaid size image object (All-head (λ (o : ObjectBytes). IsHomeOn size o.addr.block) object objects home))
    ∙ all_overlaid size (with_object image object) objects
    (All-tail (λ (o : ObjectBytes). IsHomeOn size o.addr.block) object objects home)

-- and leave what lies before them
pub overlaid_behind : (size : ℕ) (image : Image) (objects : List ObjectBytes) (block : ℕ) → block < FIRST_HOME_BLOCK
    → All (λ (object : ObjectBytes). IsHomeOn size object.addr.block) objects
    → with_objects image objects block ≡ image block
overlaid_behind size image [] block before home = refl
overlaid_behind size image (object ∷ objects) block before home =
    let at = All-head (λ (o : ObjectBytes). IsHomeOn size o.addr.block) object objects home in
    let from = at.0 in
    overlaid_behind size (with_object image object) objects block before
    (All-tail (λ (o : ObjectBytes). IsHomeOn size o.addr.block) object objects home)
    ∙ ap (λ t. if t then spliced (image block) object.addr.offset object.bytes else image block)
    (differs block object.addr.block.0 (λ same. omega (arith, same, before, from)))

-- ---- what a device holds so, an opening finds

-- what a crash leaves of a block that has one content
only_there : (contents : List Content) (content : Content) → length contents ≡ 1 → Contains contents content
    → content ≡ newest contents
only_there [] content one there = absurd (omega (arith, one))
only_there (c ∷ []) content one there = sym (one_member c content there)
only_there (c ∷ (d ∷ later)) content one there = absurd (omega (arith, one))

module _ (g : Geometry) (d : Device) (tree : Tree) (boot : ℕ) (holds : HoldsAtHome g d tree boot) where
  least : 1024 ≤ d.size
  least = let lawful = g.lawful.0.0 in let is = holds.size_is in omega (arith, lawful, is)

  module _ (image : Image) (is : IsCrashImage d d.clock image) where
    same : (block : ℕ) → block < d.size → image block ≡ image_of d block
    same block within = only_there (current d block) (image block) (holds.rest.one block within) (is block within)

    starts : start_in image ≡ start_in (image_of d)
    starts = ap (λ c. number_at c 0) (same START_BLOCK (let some = least in omega (arith, some)))

    ends : end_in image ≡ end_in (image_of d)
    ends = ap (λ c. number_at c 0) (same LOG_HEADER_BLOCK (let some = least in omega (arith, some)))

    empty : start_in image ≡ end_in image
    empty = starts ∙ holds.empty ∙ sym ends

    homes_same : homes_of g.blocks (image_of d) ≡ homes_of d.size (over image)
    homes_same =
        ap (λ n. homes_of n (image_of d)) holds.size_is
        ∙ same_homes d.size (image_of d) (over image) (λ number home. sym (over_nothing image empty number
        ∙ same number (outside_of d.size number home).0))

    good : IsGoodImage d.size image tree boot
    good = record {
      super = holds.super;
      is_super = subst (λ c. IsSuper c holds.super)
          (sym (same SUPER_BLOCK (let some = least in omega (arith, some)))) holds.is_super;
      size_is = ap (λ (h : Geometry). h.blocks) holds.geometry_is ∙ holds.size_is;
      boot_is = holds.boot_is;
      range = let at = empty in record { order = omega (arith, at); slots = omega (arith, at) };
      homes = λ k less. let none = none_counted (start_in image) (end_in image) empty in
          absurd (omega (arith, less, none));
      stands = subst (λ h. Stands h (homes_of d.size (over image)) tree) (sym holds.geometry_is)
          (subst (λ blocks. Stands g blocks tree) homes_same holds.stands);
      stamps = holds.stamps;
    }

  pub holds_tree : HoldsTree d tree boot
  holds_tree = record { rest = holds.rest; good = good }

-- ---- reads change nothing

pub image_same : (a b : Device) → HasOnlyRead a b → image_of b ≡ image_of a
image_same a b reads = λ i block. image_then a b reads block i

pub rest_then : (a b : Device) → HasOnlyRead a b → IsAtRest a → IsAtRest b
rest_then a b reads rest = record {
  one = λ block within.
      ap (λ (cs : List Content). length cs) (reads.during b.clock block reads.clock (omega arith))
      ∙ rest.one block (omega (arith, within, reads.size));
  certain = λ block. reads.uncertain block ∙ rest.certain block;
}

pub home_then : (g : Geometry) (a b : Device) (tree : Tree) (boot : ℕ) → HasOnlyRead a b
    → HoldsAtHome g a tree boot → HoldsAtHome g b tree boot
home_then g a b tree boot reads holds =
    let image_is : image_of a ≡ image_of b = sym (image_same a b reads) in record {
      rest = rest_then a b reads holds.rest;
      super = holds.super;
      is_super = subst (λ (image : Image). IsSuper (image SUPER_BLOCK) holds.super) image_is holds.is_super;
      geometry_is = holds.geometry_is;
      size_is = holds.size_is ∙ sym reads.size;
      boot_is = holds.boot_is;
      empty = subst (λ (image : Image). start_in image ≡ end_in image) image_is holds.empty;
      stands = subst (λ (image : Image). Stands g (homes_of g.blocks image) tree) image_is holds.stands;
      stamps = holds.stamps;
    }

pub tree_then : (a b : Device) (tree : Tree) (boot : ℕ) → HasOnlyRead a b → HoldsTree a tree boot
    → HoldsTree b tree boot
tree_then a b tree boot reads holds = record {
  rest = rest_then a b reads holds.rest;
  good = λ image is. subst (λ size. IsGoodImage size image tree boot) (sym reads.size)
      (holds.good image (λ block within. subst (λ (cs : List Content). Contains cs (image block))
      (reads.during b.clock block reads.clock (omega arith)) (is block (omega (arith, within, reads.size)))));
}

-- ---- objects that came home

pub next_home : (g : Geometry) (a b : Device) (tree next : Tree) (boot : ℕ) (objects : List ObjectBytes)
    → HoldsAtHome g a tree boot → b.size ≡ a.size
    → All (λ (object : ObjectBytes). IsHomeOn a.size object.addr.block) objects
    → HasComeHome a b (with_objects (image_of a) objects)
    → Stands g (with_objects (homes_of g.blocks (image_of a)) objects) next → IsMadeBy boot next
    → HoldsAtHome g b next boot
next_home g a b tree next boot objects holds size home came stands stamps = record {
  rest = came.rest holds.rest;
  super = holds.super;
  is_super = subst (λ c. IsSuper c holds.super) (sym (behind SUPER_BLOCK (omega arith))) holds.is_super;
  geometry_is = holds.geometry_is;
  size_is = holds.size_is ∙ sym size;
  boot_is = holds.boot_is;
  empty = ap (λ c. number_at c 0) (behind START_BLOCK (omega arith)) ∙ holds.empty
      ∙ sym (ap (λ c. number_at c 0) (behind LOG_HEADER_BLOCK (omega arith)));
  stands = subst (λ blocks. Stands g blocks next)
      (all_overlaid g.blocks (image_of a) objects
      (subst (λ n. All (λ (object : ObjectBytes). IsHomeOn n object.addr.block) objects) (sym holds.size_is) home)
      ∙ ap (λ (image : Image). homes_of g.blocks image) (sym came.newest)) stands;
  stamps = stamps;
}
  where
    behind : (block : ℕ) → block < FIRST_HOME_BLOCK → image_of b block ≡ image_of a block
    behind block before =
        ap (λ (image : Image). image block) came.newest ∙ overlaid_behind a.size (image_of a) objects block before home

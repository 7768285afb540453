-- What the log lays over the blocks of a device are blocks.
use Rattle.std.proofs.Common.{ℕ, zero, suc, ◌+◌, ◌-◌, ◌<◌, ◌≤◌, Bool, true, false, List, [], ◌∷◌, ◌++◌, length}
use Rattle.std.proofs.Common.{if◌then◌else◌, nat_eq, Option, Some, None, arith}
use Rattle.std.specs.List.{All, AllByRecursion}
use Rattle.base.specs.declared.TheConstants.{FIRST_HOME_BLOCK, LOG_HEADER_BLOCK}
use Rattle.disk.specs.Blocks.{AreBlocks, IsBlock}
use Rattle.disk.specs.Crash.{Image}
use Rattle.disk.specs.Device.{Content, Device, current, newest}
use Rattle.disk.specs.declared.block.BlockNo.{BlockNo}
use Rattle.circ.specs.Log.Effects.{newest_in}
use Rattle.circ.specs.Log.Log.{or_else}
use Rattle.circ.specs.Log.Logger.{slot_block}
use Rattle.circ.specs.Log.Overlay.{content_or, count_in, home_at, logged_in, over, positions, start_in}
use Rattle.circ.specs.Log.Recovery.{image_of}
use Rattle.image_check.specs.Searched.{AreBlocksOf}

abbrev IfBlock : Option Content → Type 0
IfBlock (Some content) = IsBlock content
IfBlock None = Unit {0}

abbrev AllBlocks : List (BlockNo × Content) → Type 0
AllBlocks group = AllByRecursion (λ (one : BlockNo × Content). IsBlock one.1) group

later_or : (later : Option Content) (b : Bool) (content : Content) → IfBlock later → IsBlock content
    → IfBlock (or_else later (if b then Some content else None))
later_or (Some one) b content is own = is
later_or None true content is own = own
later_or None false content is own = tt

newest_block : (group : List (BlockNo × Content)) (block : ℕ) → AllBlocks group → IfBlock (newest_in group block)
newest_block [] block all = tt
newest_block (one ∷ group) block all =
    later_or (newest_in group block) (nat_eq one.0.0 block) one.1 (newest_block group block all.1) all.0

one_more : (group : List (BlockNo × Content)) (one : BlockNo × Content) → AllBlocks group → IsBlock one.1
    → AllBlocks (group ++ one ∷ [])
one_more [] one all is = (is, tt)
one_more (x ∷ group) one all is = (all.0, one_more group one all.1 is)

all_positions : (header : Content) (image : Image) (start count : ℕ)
    → ((block : ℕ) → block < FIRST_HOME_BLOCK → IsBlock (image block)) → AllBlocks (positions header image start count)
all_positions header image start zero are = tt
all_positions header image start (suc count) are =
    one_more (positions header image start count) (home_at header (start + count), image (slot_block (start + count)))
    (all_positions header image start count are) (are (slot_block (start + count)) (omega arith))

content_is : (o : Option Content) (other : Content) → IfBlock o → IsBlock other → IsBlock (content_or o other)
content_is (Some content) other is own = is
content_is None other is own = own

module _ (device : Device) (blocks : AreBlocks device) where
  newest_is : (contents : List Content) → 0 < length contents → All IsBlock contents → IsBlock (newest contents)
  newest_is contents some all = all (length contents - 1) [] (omega (arith, some))

  at : (block : ℕ) → block < device.size → IsBlock (image_of device block)
  at block less =
      newest_is (current device block) (blocks.some device.clock block (omega arith) less)
      (blocks.blocks device.clock block (omega arith) less)

  pub over_blocks : FIRST_HOME_BLOCK ≤ device.size → AreBlocksOf device.size (over (image_of device))
  over_blocks some number less =
      let image : Image = image_of device in
      content_is (newest_in (logged_in image) number) (image number)
      (newest_block (logged_in image) number
      (all_positions (image LOG_HEADER_BLOCK) image (start_in image) (count_in image)
      (λ block under. at block (omega (arith, under, some)))))
      (at number less)

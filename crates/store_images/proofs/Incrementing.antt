-- The super block is written beside an empty log, and settled.
use Rattle.std.proofs.Common.{arith, ◌≡◌, ◌≢◌, ◌∙◌, refl, sym, ap, subst, ℕ, ◌⊎◌, inl, inr, [], true, false}
use Rattle.std.proofs.Common.{Bool, if◌then◌else◌, None, Ok, Err, Result, nat_eq}
use Rattle.std.proofs.Common.{List, ◌∷◌, ◌++◌, length}
use Rattle.std.specs.Prelude.{IsErr, MatchResult}
use Rattle.std.proofs.lemmas.Bool.Decides.{nat_tests}
use Rattle.std.proofs.lemmas.List.{append-nil, length-append}
use Rattle.base.specs.declared.TheConstants.{BLOCK_BYTES, SUPER_BLOCK}
use Rattle.disk.specs.Crash.{Image, IsCrashImage}
use Rattle.disk.specs.Device.{Content, Device, HasSettled, HasWritten}
use Rattle.disk.specs.declared.block.Side.TheVariants.{Home}
use Rattle.disk.specs.declared.device.Failed.{Failed}
use Rattle.circ.specs.Log.Law.{IsBoundary, IsOutside, with_changes, with_home}
use Rattle.circ.specs.Log.Log.{IsLawful, Log, newest, newest_of}
use Rattle.circ.specs.Log.Overlay.{content_or}
use Rattle.circ.specs.Log.Recovery.{image_of}
use Rattle.circ.proofs.LogLemmas.Contents.{preserves_settled}
use Rattle.circ.proofs.LogLemmas.HomeWrites.{home_written}
use Rattle.store_promise.specs.Openings.{AtEachStop}
use Rattle.store_images.specs.BringingHome.{BringsHome, HasBlocksOf, HasBlocksWith, HasIncremented, PreservesBlocks}
use Rattle.store_images.proofs.ComingHome.{boundary_blocks}
use Rattle.store_promise.proofs.Later.{past_more, past_one}
use Rattle.store_images.proofs.Later.{one_stop_more}

module _ (before now : Device) (log : Log) (incremented : Content) (lawful : IsLawful log) (none : log.changes ≡ [])
    (brings : BringsHome before incremented now log) where
  pub outside : IsOutside log.blocks SUPER_BLOCK
  outside = let some = lawful.disk in (omega (arith, some), inl (omega arith))

  pub unlogged : newest log SUPER_BLOCK ≡ None
  unlogged = ap (λ cs. newest_of cs SUPER_BLOCK) none

  abbrev pub under : Image
  under = with_home brings.coming.base SUPER_BLOCK incremented

  aside : (block : ℕ) → block ≢ SUPER_BLOCK
      → with_changes under log.changes block ≡ with_changes brings.coming.base log.changes block
  aside block other = by_test (nat_eq block SUPER_BLOCK) refl
    where
      by_test : (same : Bool) → nat_eq block SUPER_BLOCK ≡ same
          → with_changes under log.changes block ≡ with_changes brings.coming.base log.changes block
      by_test true is = let here : block ≡ SUPER_BLOCK = grind (arith, nat_tests) in absurd (other here)
      by_test false is =
          ap (λ (t : Bool). content_or (newest_of log.changes block)
          (if t then incremented else brings.coming.base block)) is

  pub under_incremented : (image : Image) → IsBoundary under log image
      → HasBlocksOf log.blocks (image_of before) incremented image
  under_incremented image boundary =
      boundary_blocks (image_of before) under log image lawful brings.coming.logged brings.coming.taken
      (λ block within other. aside block other ∙ brings.coming.blocks block within) boundary

  shows : (image : Image) → IsBoundary brings.coming.base log image ⊎ IsBoundary under log image
      → HasBlocksWith log.blocks (image_of before) incremented image
  shows image (inl boundary) =
      inl (subst (λ content. HasBlocksOf log.blocks (image_of before) content image) brings.coming.super_is
      (boundary_blocks (image_of before) brings.coming.base log image lawful brings.coming.logged
      brings.coming.taken (λ block within other. brings.coming.blocks block within) boundary))
  shows image (inr boundary) = inr (under_incremented image boundary)

  -- the super block was written, or that failed
  pub incremented_stops : (next : Device) (answer : Result Unit Failed)
      → HasWritten now SUPER_BLOCK incremented answer next
      → PreservesBlocks before next incremented
  incremented_stops next answer write = record {
    past = past_more before now next brings.preserves.past (past_one now next write.later);
    stops = subst (λ size. AtEachStop before next
        (λ at image. HasBlocksWith size (image_of before) incremented image))
        (sym write.later.size) (one_stop_more (HasBlocksWith now.size (image_of before) incremented) before now next
        write.later brings.preserves.stops left);
  }
    where
      left : (image : Image) → IsCrashImage next next.clock image
          → HasBlocksWith now.size (image_of before) incremented image
      left image is =
          subst (λ size. HasBlocksWith size (image_of before) incremented image)
          (sym brings.coming.agrees.agrees.size)
          (shows image (home_written now next brings.coming.base log SUPER_BLOCK incremented answer image
          lawful outside
          unlogged write brings.coming.agrees.agrees is))

-- a barrier leaves no more than was there
pub settled_stops : (before now next : Device) (incremented : Content) (answer : Result Unit Failed)
    → HasSettled now Home answer next → PreservesBlocks before now incremented → PreservesBlocks before next incremented
settled_stops before now next incremented answer settle preserves = record {
  past = past_more before now next preserves.past (past_one now next settle.later);
  stops = subst (λ size. AtEachStop before next (λ at image. HasBlocksWith size (image_of before) incremented image))
      (sym settle.later.size) (one_stop_more (HasBlocksWith now.size (image_of before) incremented) before now next
      settle.later preserves.stops left);
}
  where
    left : (image : Image) → IsCrashImage next next.clock image
        → HasBlocksWith now.size (image_of before) incremented image
    left image is = preserves.stops now.clock image preserves.past.clock (omega arith) (λ block within.
        (preserves_settled now next Home answer block settle).within (image block)
        (is block (omega (arith, within, settle.later.size))))

-- the super block is settled, or its barrier failed
pub settled_or_not : (before now written later : Device) (log : Log) (incremented : Content)
    (answer : Result Unit Failed) → IsLawful log → log.changes ≡ [] → BringsHome before incremented now log
    → HasWritten now SUPER_BLOCK incremented (Ok tt) written → HasSettled written Home answer later
    → MatchResult answer (λ _. HasIncremented before incremented now later log) (λ _. PreservesBlocks before later incremented)
settled_or_not before now written later log incremented (Ok _) lawful none brings write settle =
    record { written = written; brings = brings; write = write; settle = settle }
settled_or_not before now written later log incremented (Err failed) lawful none brings write settle =
    settled_stops before written later incremented (Err failed) settle
    (incremented_stops before now log incremented lawful none brings written (Ok tt) write)

-- once it is settled too, each stop has left the blocks under the old super block or the raised one
pub incremented_preserves : (before now later : Device) (log : Log) (incremented : Content) → IsLawful log → log.changes ≡ []
    → HasIncremented before incremented now later log → PreservesBlocks before later incremented
incremented_preserves before now later log incremented lawful none increments =
    settled_stops before increments.written later incremented (Ok tt) increments.settle
    (incremented_stops before now log incremented lawful none increments.brings increments.written (Ok tt) increments.write)

-- what is said of a failure is said
pub said_of_err : {A E : Type 0} (result : Result A E) (P Q : Type 0) → IsErr result → Q
    → MatchResult result (λ _. P) (λ _. Q)
said_of_err (Ok _) P Q is q = cc
said_of_err (Err _) P Q is q = q

-- bytes that fill a block leave nothing behind them
pub all_of : (bytes rest : List ℕ) → length (bytes ++ rest) ≡ BLOCK_BYTES → length bytes ≡ BLOCK_BYTES
    → bytes ++ rest ≡ bytes
all_of bytes [] whole full = append-nil bytes
all_of bytes (x ∷ rest) whole full = absurd (omega (arith, sym (length-append bytes (x ∷ rest)) ∙ whole, full))

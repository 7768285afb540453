-- A device that goes on: what each stop leaves, call by call.
use Rattle.std.proofs.Common.{arith, ◌∙◌, refl, sym, subst, ℕ, ◌+◌, ◌<◌, ◌≤◌, inl, inr, List, [], ◌∷◌}
use Rattle.std.proofs.Common.{length}
use Rattle.std.specs.List.{All, Contains}
use Rattle.std.proofs.lemmas.Bool.{cases_order}
use Rattle.std.specs.Prelude.{slice_index_or}
use Rattle.disk.specs.Blocks.{AreBlocks, IsBlock}
use Rattle.disk.specs.Crash.{Image, IsCrashImage}
use Rattle.disk.specs.Device.{Content, Device, OneLater}
use Rattle.store_promise.specs.Openings.{AtEachStop, IsLater, LeavesImages}
use Rattle.store_promise.proofs.Later.{past_one}

-- what a stop in the past leaves, it left then
pub earlier : (now later : Device) → IsLater now later → (clock : ℕ) (image : Image) → clock ≤ now.clock
    → IsCrashImage later clock image → IsCrashImage now clock image
earlier now later past clock image below is = λ block within.
    subst (λ (cs : List Content). Contains cs (image block)) (past.past clock block below)
    (is block (omega (arith, within, past.size)))

-- one call more: what each stop leaves is so, where it was and what a stop leaves now is
pub one_stop_more : (P : Image → Type 0) (before now next : Device) → OneLater now next
    → AtEachStop before now (λ at image. P image)
    → ((image : Image) → IsCrashImage next next.clock image → P image)
    → AtEachStop before next (λ at image. P image)
one_stop_more P before now next later so left clock image above below is =
    elim (cases_order clock (now.clock + 1)) [
      | inl at ↦ left image (subst (λ (n : ℕ). IsCrashImage next n image) (at ∙ sym later.clock) is)
      | inr (inl past) ↦ so clock image above (omega (arith, past))
          (earlier now next (past_one now next later) clock image (omega (arith, past)) is)
      | inr (inr after) ↦ absurd (omega (arith, after, below, later.clock))
    ]

-- each stop leaves some image
pub some_image : (before now : Device) → AreBlocks now → LeavesImages before now
some_image before now blocks = λ clock above below. (
  λ block. slice_index_or (now.contents clock block) 0 [],
  λ block within. first_of (now.contents clock block) (blocks.some clock block below within),
)
  where
    first_of : (cs : List Content) → 0 < length cs → Contains cs (slice_index_or cs 0 [])
    first_of [] none = absurd (omega (arith, none))
    first_of (c ∷ cs) some = (0, some, refl)

-- what is known of a device's blocks now was true at each moment before
pub blocks_before : (now later : Device) → IsLater now later → AreBlocks later → AreBlocks now
blocks_before now later past blocks = record {
  some = λ clock block below within. subst (λ (cs : List Content). 0 < length cs) (past.past clock block below)
      (blocks.some clock block (omega (arith, below, past.clock)) (omega (arith, within, past.size)));
  blocks = λ clock block below within. subst (λ (cs : List Content). All IsBlock cs)
      (past.past clock block below) (blocks.blocks clock block (omega (arith, below, past.clock))
      (omega (arith, within, past.size)));
}

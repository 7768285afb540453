-- An opening that has only read, and what it refuses.
use Rattle.std.proofs.Common.{◌≡◌, ◌∙◌, sym, ap, subst, ℕ, ◌+◌, ◌<◌, ◌^◌, inl, inr, Ok, Err}
use Rattle.std.proofs.Common.{Result}
use Rattle.std.specs.Prelude.{IfErr}
use Rattle.base.specs.declared.TheConstants.{SUPER_BLOCK}
use Rattle.disk.specs.Crash.{Image}
use Rattle.disk.specs.Device.{Content, Device}
use Rattle.layout.specs.declared.super_block.Super.{Super}
use Rattle.layout.specs.SuperForm.{IsSuper}
use Rattle.circ.specs.Log.Log.{Log, opened}
use Rattle.circ.specs.Log.Overlay.{HasHomes, IsInRange, logged_in, start_in}
use Rattle.circ.specs.Log.Recovery.{HasOnlyRead, IsCertain, image_of}
use Rattle.circ.proofs.LogLemmas.OnlyRead.{image_then, reads_then, certain_then}
use Rattle.store_promise.specs.declared.fault.OpenFault.{OpenFault}
use Rattle.store_promise.specs.declared.fault.OpenFault.TheVariants as fault
use Rattle.store_promise.specs.Openings.{IsRefusedFor, ShowsNoCause}
use Rattle.store_promise.proofs.Shown.{has_blocks, not_another, not_magic, not_range, not_version}
use Rattle.store_promise.proofs.Later.{read_later}
use Rattle.store_images.specs.BringingHome.{CountsCause, HasNoLog, HasNoSuper, IsFound, IsFoundLog}

-- the block that was read has no super block
pub no_super : (keeps_model : Type 0) (cause : OpenFault) (before later : Device) (size : ℕ) (content : Content)
    → HasNoSuper cause size content → HasOnlyRead before later → later.failures ≡ before.failures
    → size ≡ before.size
    → (keeps_model → IsCertain before → content ≡ image_of before SUPER_BLOCK)
    → IsRefusedFor keeps_model cause before later
no_super keeps_model fault.Magic before later size content none reads same sizes read = (
  record { only = reads; failures = same },
  λ is_preserved clean. inr (subst (HasNoSuper fault.Magic size) (read is_preserved clean) none),
)
no_super keeps_model fault.Version before later size content none reads same sizes read = (
  record { only = reads; failures = same },
  λ is_preserved clean. subst (HasNoSuper fault.Version size) (read is_preserved clean) none,
)
no_super keeps_model fault.Range before later size content none reads same sizes read = (
  record { only = reads; failures = same },
  λ is_preserved clean. subst (λ (n : ℕ). HasNoSuper fault.Range n (image_of before SUPER_BLOCK)) sizes
      (subst (HasNoSuper fault.Range size) (read is_preserved clean) none),
)
no_super keeps_model fault.Log before later size content none reads same sizes read = absurd none
no_super keeps_model fault.Device before later size content none reads same sizes read = absurd none
no_super keeps_model (fault.NoMemory error) before later size content none reads same sizes read = absurd none

-- so it is whatever was found in it
pub refused_by : {A : Type 0} (keeps_model : Type 0) (result : Result A OpenFault)
    (before later : Device) (size : ℕ) (content : Content)
    → IfErr result (λ cause. HasNoSuper cause size content) → HasOnlyRead before later
    → later.failures ≡ before.failures → size ≡ before.size
    → (keeps_model → IsCertain before → content ≡ image_of before SUPER_BLOCK)
    → IfErr result (λ cause. IsRefusedFor keeps_model cause before later)
refused_by keeps_model (Ok _) before later size content none reads same sizes read = tt
refused_by keeps_model (Err cause) before later size content none reads same sizes read =
    no_super keeps_model cause before later size content none reads same sizes read

-- ---- the log

module _ (keeps_model : Type 0) (before middle later : Device) (found : Super)
    (first : HasOnlyRead before middle) (second : HasOnlyRead middle later)
    (blocks : found.geometry.blocks ≡ before.size)
    (left : found.boot + 1 < 2 ^ 64)
    (is_super : keeps_model → IsCertain before → IsSuper (image_of before SUPER_BLOCK) found) where
  image_is : image_of middle ≡ image_of before
  image_is = λ i block. image_then before middle first block i

  -- no log was found
  pub no_log : (cause : OpenFault)
      → HasNoLog (keeps_model × IsCertain middle) cause found.geometry.blocks (image_of middle)
      → CountsCause cause middle later → middle.failures ≡ before.failures
      → IsRefusedFor keeps_model cause before later
  no_log fault.Log none counted same = (
    record { only = reads_then before middle later first second; failures = counted ∙ same },
    λ is_preserved clean. (
      (found, is_super is_preserved clean, blocks, left),
      λ is. none (is_preserved, certain_then before middle first clean) (subst IsInRange (sym image_is) is.0)
          (subst (λ (size : ℕ). HasHomes size (image_of middle)) (sym blocks)
          (subst (HasHomes before.size) (sym image_is) is.1)),
    ),
  )
  no_log fault.Device none counted same = (
    read_later before later (reads_then before middle later first second),
    subst (λ (failures : ℕ). failures < later.failures) same counted,
  )
  no_log (fault.NoMemory error) none counted same = read_later before later (reads_then before middle later first second)
  no_log fault.Magic none counted same = absurd none
  no_log fault.Version none counted same = absurd none
  no_log fault.Range none counted same = absurd none

  -- the log was found
  pub is_found : (log : Log)
      → IsFoundLog (keeps_model × IsCertain middle) found.geometry.blocks (image_of middle) log
      → keeps_model → IsCertain before → IsFound before found log
  is_found log is is_preserved clean =
      let was_read : keeps_model × IsCertain middle = (is_preserved, certain_then before middle first clean) in
      record {
        is_super = is_super is_preserved clean;
        range = subst IsInRange image_is (is.range was_read);
        homes = subst (λ (size : ℕ). HasHomes size (image_of before)) blocks
            (subst (HasHomes found.geometry.blocks) image_is (is.homes was_read));
        log_is = is.log_is was_read
            ∙ ap (λ (size : ℕ). opened size (start_in (image_of middle)) (logged_in (image_of middle))) blocks
            ∙ ap (λ (image : Image). opened before.size (start_in image) (logged_in image)) image_is;
      }

  -- and then the image shows no cause
  pub shows_none : (log : Log) → IsFound before found log → ShowsNoCause before.size (image_of before)
  shows_none log is fault.Magic shown = elim shown [
    | inl none ↦ has_blocks before.size (image_of before SUPER_BLOCK) found is.is_super blocks none
    | inr other ↦ not_magic (image_of before SUPER_BLOCK) found is.is_super other
  ]
  shows_none log is fault.Version shown = not_version (image_of before SUPER_BLOCK) found is.is_super shown
  shows_none log is fault.Range shown = elim shown [
    | inl other ↦ not_range (image_of before SUPER_BLOCK) found is.is_super other
    | inr other ↦ not_another before.size (image_of before SUPER_BLOCK) found is.is_super blocks left other
  ]
  shows_none log is fault.Log shown = shown.1 (is.range, is.homes)
  shows_none log is fault.Device shown = shown
  shows_none log is (fault.NoMemory error) shown = shown

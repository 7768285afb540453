use Rattle.std.proofs.Common.{◌≡◌, ℕ, ◌<◌, inl, inr, refl, arith}
use Rattle.base.specs.declared.TheConstants.{SUPER_BLOCK}
use Rattle.disk.specs.Crash.{Image}
use Rattle.disk.specs.Device.{Content}
use Rattle.layout.specs.SuperForm.{HasMagic, HasVersion}
use Rattle.store_promise.specs.declared.fault.OpenFault.{OpenFault}
use Rattle.store_promise.specs.declared.fault.OpenFault.TheVariants as fault
use Rattle.store_promise.specs.Openings.{IsShownBy}
use Rattle.store_promise.proofs.Shown.{has_version, not_another, not_range}
use Rattle.store_promise.proofs.refusals.an_image_shows_one_cause.Goals as goal

module _ (size : ℕ) (image : Image) (some : 0 < size) where
  abbrev first : Content
  first = image SUPER_BLOCK

  no_magic : IsShownBy fault.Magic size image → HasMagic first → ⊥
  no_magic (inl none) magic = omega (arith, none, some)
  no_magic (inr none) magic = none magic

  -- what is tested later has the magic, and the version
  range_magic : IsShownBy fault.Range size image → HasMagic first
  range_magic (inl wrong) = wrong.0
  range_magic (inr (super, is, differs)) = is.magic

  log_magic : IsShownBy fault.Log size image → HasMagic first
  log_magic shown = shown.0.1.magic

  range_version : IsShownBy fault.Range size image → HasVersion first
  range_version (inl wrong) = wrong.1
  range_version (inr (super, is, differs)) = has_version first super is

  log_version : IsShownBy fault.Log size image → HasVersion first
  log_version shown = has_version first shown.0.0 shown.0.1

  range_or_log : IsShownBy fault.Range size image → IsShownBy fault.Log size image → ⊥
  range_or_log (inl wrong) shown = not_range first shown.0.0 shown.0.1 wrong
  range_or_log (inr another) shown = not_another size first shown.0.0 shown.0.1 shown.0.2 shown.0.3 another

  one_cause : (one other : OpenFault) → IsShownBy one size image → IsShownBy other size image → one ≡ other
  one_cause fault.Device other a b = absurd a
  one_cause (fault.NoMemory error) other a b = absurd a
  one_cause one fault.Device a b = absurd b
  one_cause one (fault.NoMemory error) a b = absurd b
  one_cause fault.Magic fault.Magic a b = refl
  one_cause fault.Magic fault.Version a b = absurd (no_magic a b.0)
  one_cause fault.Magic fault.Range a b = absurd (no_magic a (range_magic b))
  one_cause fault.Magic fault.Log a b = absurd (no_magic a (log_magic b))
  one_cause fault.Version fault.Magic a b = absurd (no_magic b a.0)
  one_cause fault.Version fault.Version a b = refl
  one_cause fault.Version fault.Range a b = absurd (a.1 (range_version b))
  one_cause fault.Version fault.Log a b = absurd (a.1 (log_version b))
  one_cause fault.Range fault.Magic a b = absurd (no_magic b (range_magic a))
  one_cause fault.Range fault.Version a b = absurd (b.1 (range_version a))
  one_cause fault.Range fault.Range a b = refl
  one_cause fault.Range fault.Log a b = absurd (range_or_log a b)
  one_cause fault.Log fault.Magic a b = absurd (no_magic b (log_magic a))
  one_cause fault.Log fault.Version a b = absurd (b.1 (log_version a))
  one_cause fault.Log fault.Range a b = absurd (range_or_log b a)
  one_cause fault.Log fault.Log a b = refl

pub returns : goal.returns
returns c = λ size image one other some a b. one_cause size image some one other a b

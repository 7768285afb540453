-- When a commit may be refused for want of room: not once everything is settled.
use Rattle.std.proofs.Common.{arith, ◌≡◌, ◌∙◌, refl, ap, ℕ, ◌+◌, ◌<◌, ◌≤◌, ◌⊎◌, inl, inr, Bool, true, false}
use Rattle.std.proofs.Common.{◌||◌, nat_le, List, [], ◌∷◌, length, drop, All}
use Rattle.std.proofs.lemmas.Bool.Decides.{nat_tests}
use Rattle.std.proofs.lemmas.List.{length-drop}
use Rattle.std.proofs.lemmas.List.Elements.{All-head}
use Rattle.base.specs.declared.TheConstants.{CHANGED_BLOCKS, LOG_SLOTS}
use Rattle.circ.specs.Log.Log.{IsCommitted, IsLawful, IsRising, Log, added_blocks, first_place, place_before}
use Rattle.circ.specs.Log.Log.{settled_place, tail_blocks, tail_count}
use Rattle.circ.proofs.LogLemmas.Tail.{few_new}
use Rattle.circ.specs.declared.log.change.LogChange.{LogChange}
use Rattle.circ.specs.declared.log.outcomes.Room.TheVariants as log_space
use Rattle.circ.proofs.LogLemmas.Places.{rising-drop}
use Rattle.txn.specs.Commit.{Planned}
use Rattle.txn.specs.Core.{CoreState}
use Rattle.txn.specs.Group.{blocks_of}
use Rattle.txn.specs.Outcomes.{IsTried}
use Rattle.store.specs.Driving.{has_log_space}

-- ---- a settled log

first_within : (changes : List LogChange) (places : ℕ) → IsRising changes places
    → first_place changes places ≤ places
first_within [] places rising = omega arith
first_within (change ∷ later) places rising =
    let next = first_within later places rising.1 in
    let here = rising.0 in
    omega (arith, next, here)

-- where no change that a commit made is left, none is
none_left : (changes : List LogChange) (places : ℕ) → IsRising changes places → All IsCommitted changes
    → place_before changes places ≡ places → length changes ≡ 0
none_left [] places rising made settled = refl
none_left (change ∷ later) places rising made settled =
    let some = All-head IsCommitted change later made in
    let within = first_within (change ∷ later) places rising in
    absurd (omega (arith, some, within, settled))

emptied : (log : Log) → IsLawful log → settled_place log ≡ log.places → tail_count log ≡ 0
emptied log lawful settled =
    let none = none_left (drop log.logged log.changes) log.places
    (rising-drop log.changes log.places log.logged lawful.rising) lawful.committed settled in
    let count = length-drop log.logged log.changes in
    omega (arith, none, count)

-- ---- room

or_true : (a b : Bool) → b ≡ true → (a || b) ≡ true
or_true true b is = refl
or_true false b is = is

fits_in : (tail : ℕ) → tail ≡ 0 → nat_le (tail + CHANGED_BLOCKS) LOG_SLOTS ≡ true
fits_in tail none = ap (λ n. nat_le (n + CHANGED_BLOCKS) LOG_SLOTS) none

pub log_space_after : (log : Log) → IsLawful log → (settled_place log ≡ log.places) ⊎ (log.broken ≡ true)
    → has_log_space log ≡ true
log_space_after log lawful (inr broken) = ap (λ b. b || nat_le (tail_count log + CHANGED_BLOCKS) LOG_SLOTS) broken
log_space_after log lawful (inl settled) =
    or_true log.broken (nat_le (tail_count log + CHANGED_BLOCKS) LOG_SLOTS)
    (fits_in (tail_count log) (emptied log lawful settled))

-- a change of a call that is refused for want of room found none
pub no_log_space : (core : CoreState) (tx : ℕ) (plan : Planned) → IsTried core tx plan log_space.Full
    → length (blocks_of plan.written) ≤ CHANGED_BLOCKS → has_log_space core.log ≡ false
no_log_space core tx plan tried few =
    ap (λ b. b || nat_le (tail_count core.log + CHANGED_BLOCKS) LOG_SLOTS) tried.sound
    ∙ too_many (tail_count core.log) (added_blocks core.log (blocks_of plan.written))
    (let fewer = few_new (tail_blocks core.log) (blocks_of plan.written) in omega (arith, few, fewer))
    tried.log_space.1
  where
    too_many : (tail more : ℕ) → more ≤ CHANGED_BLOCKS → LOG_SLOTS < tail + more
        → nat_le (tail + CHANGED_BLOCKS) LOG_SLOTS ≡ false
    too_many tail more few past = grind (arith, nat_tests)

-- Lemmas: the four kinds of calls of a group or an installation.
use Rattle.std.proofs.Common.{◌≡◌, ◌≢◌, ℕ, ◌+◌, ◌<◌, ◌≤◌, inl, inr, length, slice_get, Some, subst, arith}
use Rattle.std.proofs.Common.{Result}
use Rattle.std.proofs.lemmas.Bool.{cases_lt}
use Rattle.std.proofs.lemmas.Option.{slice_get_cases}
use Rattle.std.proofs.lemmas.List.Elements.{All-get_or}
use Rattle.base.specs.declared.TheConstants.{LOG_SLOTS}
use Rattle.disk.specs.Device.{Device, HasWritten, HasSettled}
use Rattle.disk.specs.declared.device.Failed.{Failed}
use Rattle.disk.specs.declared.block.BlockNo.{BlockNo}
use Rattle.disk.specs.declared.block.Side.{Side}
use Rattle.circ.specs.declared.log.change.LogChange.{LogChange}
use Rattle.circ.specs.declared.log.calls.IoCall.{IoCall}
use Rattle.circ.specs.declared.log.calls.IoCall.TheVariants.{Write, Barrier}
use Rattle.circ.specs.Log.Io.{Io, HasMade, HasMadeCall}
use Rattle.circ.specs.Log.Log.{Log, IsLawful, IsHomeOn}
use Rattle.circ.specs.Log.Logger.{slot_block}
use Rattle.circ.proofs.LogLemmas.EightBytes.{other_slot}

-- of so many blocks: the write of one, the barrier behind them, the write of the header or the start, the
-- last barrier
pub data Step (step count : ℕ) : Type 0 where
  writes : step < count → Step step count
  settles : step ≡ count → Step step count
  tells : step ≡ count + 1 → Step step count
  ends : step ≡ count + 2 → Step step count

behind : (step count : ℕ) → count ≤ step → step ≤ count + 2 → Step step count
behind step count low high =
    elim (cases_lt count step) as (λ _. Step step count) [
      | inr at ↦ settles (omega arith)
      | inl more ↦ elim (cases_lt (count + 1) step) as (λ _. Step step count) [
        | inl two ↦ ends (omega arith)
        | inr one ↦ tells (omega arith)
      ]
    ]

pub step_of : (step count : ℕ) → step ≤ count + 2 → Step step count
step_of step count high = elim (cases_lt step count) as (λ _. Step step count) [
  | inl lt ↦ writes lt
  | inr le ↦ behind step count le high
]

pub made_write : (old new : Device) (io : Io) (block : BlockNo) (r : Result Unit Failed)
    → io.call ≡ Write block → HasMade old io r new → HasWritten old block.0 io.content r new
made_write old new io block r e h = subst (λ (call : IoCall). HasMadeCall old call io.content r new) e h

pub made_barrier : (old new : Device) (io : Io) (side : Side) (r : Result Unit Failed)
    → io.call ≡ Barrier side → HasMade old io r new → HasSettled old side r new
made_barrier old new io side r e h = subst (λ (call : IoCall). HasMadeCall old call io.content r new) e h

-- the slots of two positions less than the count of slots apart
pub slots_differ : (start k i : ℕ) → k < i → i < LOG_SLOTS → slot_block (start + k) ≢ slot_block (start + i)
slots_differ start k i h lt e =
    elim (other_slot start k i h lt) as (λ _. ⊥) [
      | inl before ↦ omega (arith, e)
      | inr behind ↦ omega (arith, e)
    ]

-- a change of a log, with its home
pub change_at : (log : Log) (k : ℕ) → IsLawful log → k < length log.changes
    → (change : LogChange) × (slice_get log.changes k ≡ Some change) × IsHomeOn log.blocks change.block
change_at log k h lt =
    elim ((slice_get_cases log.changes k).1) as (λ _. (change : LogChange)
    × (slice_get log.changes k ≡ Some change) × IsHomeOn log.blocks change.block) [
      | inl found ↦ (
        found.0,
        found.2,
        subst (λ (x : LogChange). IsHomeOn log.blocks x.block) found.3
            (All-get_or (λ (x : LogChange). IsHomeOn log.blocks x.block) log.changes k found.0 lt h.homes),
      )
      | inr past ↦ absurd (let beyond_all : length log.changes ≤ k = past.0 in omega arith)
    ]

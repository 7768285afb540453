-- A block whose fetch is pending isn't in the log, so no installation brings it home.
use Rattle.std.proofs.Common.{◌≡◌, Bool, true, false, ◌||◌, nat_eq, refl, sym, ◌∙◌}
use Rattle.std.specs.Prelude.{Contains}
use Rattle.std.proofs.lemmas.Bool.{eqb-true}
use Rattle.std.proofs.lemmas.List.Elements.{All-contains_itself, All-weaker}
use Rattle.txn_law.proofs.Homes.{pending_is_home, unlogged_block}
use Rattle.store_promise.specs.Running.{IsFetchOver}
use Rattle.store_promise.proofs.run_laws.what_was_read_is_at_home.Goals as goal

pub returns-clause-read : goal.returns-clause-read
returns-clause-read c =
    λ base d core logging installing boot first last entries fetch since contents read pending.
    read ∙ pending_is_home d base core logging installing fetch.block since.over.well_formed since.over.agrees
    since.over.readable contents pending

pub returns-clause-is_preserved : goal.returns-clause-is_preserved
returns-clause-is_preserved c = λ base old new fetches fewer all. All-weaker (IsFetchOver base old)
    (IsFetchOver base new) (λ fetch is pending. is (fewer fetch.block pending)) fetches all

not_this : (this rest : Bool) → (this ≡ true → ⊥) → (this || rest) ≡ true → rest ≡ true
not_this true rest none is = absurd (none refl)
not_this false rest none is = is

-- a fetch of another block makes none of these pending
pub returns-clause-wanted : goal.returns-clause-wanted
returns-clause-wanted c = λ base old new fetches block fetching others all.
    All-weaker (λ fetch. IsFetchOver base old fetch × Contains fetches fetch) (IsFetchOver base new)
    (λ fetch is pending. is.0 (not_this (nat_eq fetch.block.0 block.0) _
    (λ same. others fetch is.1 (eqb-true fetch.block.0 block.0 same))
    (sym (fetching fetch.block) ∙ pending))) fetches
    (λ k fetch at. (all k fetch at, All-contains_itself fetches k fetch at))

pub returns-clause-installed : goal.returns-clause-installed
returns-clause-installed c =
    λ base d old new logging installing ok boot first last entries fetches since fewer all.
    All-weaker (IsFetchOver base old) (IsFetchOver _ new)
    (λ fetch is pending.
    is (fewer fetch.block pending)
    ∙ sym (c.a_fetch_preserves_the_window_of_the_core.ensures.stays base old.log ok fetch.block.0
    (unlogged_block old fetch.block since.over.well_formed (fewer fetch.block pending)))) fetches all

-- Up to which place a run has answered its procedures as stable.
use Rattle.std.specs.Prelude.{ℕ, zero, suc, Bool, List, [], ◌∷◌, Option, None, Some, max, slice_get, if◌then◌else◌}
use Rattle.nfs_spec.specs.Model.Calls.{is_answered_stable}
use Rattle.store_promise.specs.declared.transcript.Answer.{Answer}
use Rattle.store_promise.specs.declared.transcript.Committed.{Committed}
use Rattle.circ.specs.declared.log.outcomes.Seq.{Seq}

-- a place whose entry is answered only once it is stable (RFC 1813, section 4.8), or 0
abbrev pub place_with : ℕ → Option Committed → ℕ
place_with place None = 0
place_with place (Some entry) = if is_answered_stable entry.call then place else 0

abbrev pub place_of : ℕ → List Committed → ℕ
place_of zero history = 0
place_of (suc index) history = place_with (suc index) (slice_get history index)

-- the place of an answer, where it tells it as stable
abbrev pub promised_by : List Committed → Option Seq → ℕ
promised_by history None = 0
promised_by history (Some place) = place_of place.0 history

-- the last of these places
abbrev pub promised_from : ℕ → List Committed → List Answer → ℕ
promised_from least history [] = least
promised_from least history (answer ∷ answers) =
    promised_from (max least (promised_by history answer.place)) history answers

abbrev pub promised_of : List Committed → List Answer → ℕ
promised_of history answers = promised_from 0 history answers

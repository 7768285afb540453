use Rattle.std.proofs.Common.{◌≡◌, ◌≤◌, ◌+◌, ℕ, Bool, true, false, if◌then◌else◌, arith, ◌&&◌, nat_eq, length}
use Rattle.circ.specs.Log.Effects.{is_all_settled}
use Rattle.circ.specs.Log.Log.{settled_place}
use Rattle.circ.proofs.LogLemmas.Effects.{seen_inst_done, seen_inst_out, seen_log_done, seen_log_out}
use Rattle.circ.proofs.LogLemmas.Ends.{place_le}
use Rattle.store_promise.proofs.file_blocks.what_is_settled_stays_settled.Goals as goal

rises : (t : Bool) (old new places before : ℕ) → new ≡ (if t then places else old) → places ≡ before + 1
    → old ≤ before → old ≤ new
rises true old new places before is next within = omega (arith, is, next, within)
rises false old new places before is next within = omega (arith, is)

pub returns-clause-commit : goal.returns-clause-commit
returns-clause-commit c = λ old new tx place plan lawful took.
    rises (is_all_settled old.log && nat_eq (length took.group.group) 0) (settled_place old.log)
    (settled_place new.log) new.log.places old.log.places took.group.seen.settled took.places
    (place_le old.log.changes old.log.places old.log.logged lawful.rising)

pub returns-clause-logger : goal.returns-clause-logger
returns-clause-logger c = λ log is_out ok lawful.
    ((seen_log_out log).settled, (seen_log_done log is_out ok lawful).settled)

pub returns-clause-installer : goal.returns-clause-installer
returns-clause-installer c = λ log is_out ok lawful.
    ((seen_inst_out log).settled, (seen_inst_done log is_out ok lawful).settled)

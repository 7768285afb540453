-- Lemmas: what an end, a commit and an installation leave, told by the parts.
use Rattle.std.proofs.Common.{◌≡◌, ap, sym, Bool, List, ℕ, ◌∙◌}
use Rattle.circ.specs.Log.Log.{Log, installed_place}
use Rattle.txn_law.specs.Commit.{Planned, with_record, refreshed, committed}
use Rattle.txn_law.specs.Core.{CoreState, ended, installed, past, without}
use Rattle.txn_law.specs.Holds.{released}
use Rattle.txn_law.specs.Records.{swept}
use Rattle.txn_law.specs.Window.{Footprint}
use Rattle.txn_law.specs.declared.hold.Hold.{Hold}
use Rattle.objects.specs.declared.present.Present.{Present}

-- a commit leaves what it should, told by the parts
pub committed_is : (spare : Present → Bool) (old new : CoreState) (tx : ℕ) (plan : Planned) (log : Log)
    (present : List Present) (records : List Footprint)
    → new ≡ ended spare (record old { log = log; present = present; records = records }) tx
    → present ≡ refreshed log old.present → records ≡ with_record log log.places plan old.records
    → new ≡ committed spare old tx plan new.log
committed_is spare old new tx plan log present records is here kept =
    let one : new ≡ committed spare old tx plan log =
    is ∙ ap (λ (xs : List Present). ended spare (record old { log = log; present = xs; records = records }) tx) here
    ∙ ap (λ (rs : List Footprint). ended spare (record old
    { log = log; present = refreshed log old.present; records = rs })
    tx) kept in
    one ∙ ap (λ (l : Log). committed spare old tx plan l) (sym (ap (λ (core : CoreState). core.log) one))

-- an end of a transaction leaves what it should, told by the parts
pub ended_is : (spare : Present → Bool) (old : CoreState) (tx : ℕ) (out : List ℕ) (holds : List Hold) (present : List Present)
    → out ≡ without tx old.out → holds ≡ released old.holds tx
    → present ≡ swept spare (released old.holds tx) old.records old.present
    → record old { out = out; holds = holds; present = present } ≡ ended spare old tx
ended_is spare old tx out holds present o h p = λ i. record old { out = o i; holds = h i; present = p i }

-- so does an installation
pub installed_is : (spare : Present → Bool) (old : CoreState) (log : Log) (records : List Footprint)
    (present : List Present) → records ≡ past (installed_place log) old.records
    → present ≡ swept spare old.holds (past (installed_place log) old.records) old.present
    → record old { log = log; records = records; present = present } ≡ installed spare old log
installed_is spare old log records present r p = λ i. record old { log = log; records = r i; present = p i }

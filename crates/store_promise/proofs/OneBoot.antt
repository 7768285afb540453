-- What a run commits is of its boot, each in a transaction of its own.
use Rattle.std.proofs.Common.{◌≡◌, ◌∙◌, refl, ap, sym, ℕ, zero, suc, List, [], ◌∷◌, map, slice_get, Some}
use Rattle.nfs_spec.specs.Model.Entry.{Entry}
use Rattle.nfs_types.specs.declared.ctx.Ctx.{Ctx}
use Rattle.nfs_spec.specs.Procedures.Histories.{AreOfBoot, IsOfOneBoot}
use Rattle.store_promise.specs.declared.transcript.Committed.{Committed}
use Rattle.store_promise.specs.History.{IsHistory}
use Rattle.store_promise.specs.Schedule.{Schedule}
use Rattle.store_promise.specs.Transcript.{Transcript, entries_of, entry_of}

-- an entry is that of the procedure at its place
there_of : (cs : List Committed) (index : ℕ) (e : Entry) → slice_get (map entry_of cs) index ≡ Some e
    → (c : Committed) × (slice_get cs index ≡ Some c) × (entry_of c ≡ e)
there_of [] index e is = cc
there_of (c ∷ cs) zero e is = let same : entry_of c ≡ e = cc in (c, refl, same)
there_of (c ∷ cs) (suc index) e is = there_of cs index e is

of_boot : (boot : ℕ) (cs : List Committed)
    → ((index : ℕ) (c : Committed) → slice_get cs index ≡ Some c → c.ctx.boot ≡ boot)
    → AreOfBoot boot (map entry_of cs)
of_boot boot [] each = tt
of_boot boot (c ∷ cs) each = (each 0 c refl, of_boot boot cs (λ index c is. each (suc index) c is))

pub of_one_boot : (events : Schedule) (t : Transcript) (boot : ℕ) → t.boot ≡ boot → IsHistory events t
    → IsOfOneBoot boot (entries_of t)
of_one_boot events t boot boot_is history = record {
  boots = of_boot boot t.history (λ index c is.
      ap (λ (ctx : Ctx). ctx.boot) (history.each index c is).ctx ∙ boot_is);
  numbers = λ one other a b is so same.
      let first = there_of t.history one a is in
      let second = there_of t.history other b so in
      history.numbers one other first.0 second.0 first.1 second.1
      (ap (λ (e : Entry). e.ctx.transaction) first.2 ∙ same
      ∙ sym (ap (λ (e : Entry). e.ctx.transaction) second.2));
}

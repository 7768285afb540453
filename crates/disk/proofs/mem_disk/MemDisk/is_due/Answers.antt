use Rattle.std.proofs.Common.{◌≡◌, ◌+◌, length, get_or, subst, sym, ◌∙◌, ap, arith}
use Rattle.std.proofs.lemmas.Bool.{false≢true}
use Rattle.std.proofs.lemmas.List.{length-map, get_or_default}
use Rattle.std.specs.Prelude.{Contains, IsTrue, ◌↔◌}
use Rattle.disk.specs.Memory.{to_fail, past_of}
use Rattle.disk.proofs.mem_disk.MemDisk.is_due.Goals as goal

pub returns-in-Some : goal.returns-in-Some
returns-in-Some c =
    let count : length (past_of c.args.self.now) ≡ length c.args.self.now.history.past.items =
    length-map c.args.self.now.history.past.items (λ e. (e.0.value.items, e.1)) in
    let fits = c.in-Some.ensures in
    let n : length (past_of c.args.self.now) + 1 ≡ c.in-Some.next =
    omega (arith, count, c.calls.ensures, fits.0, fits.1) in
    subst (λ number. IsTrue c.is_named.result ↔ Contains (to_fail c.args.self.now) number) (sym n)
    (rw c.as_slice-fails.ensures.value at c.is_named.ensures)

pub returns-in-None : goal.returns-in-None
returns-in-None c =
    let count : length (past_of c.args.self.now) ≡ length c.args.self.now.history.past.items =
    length-map c.args.self.now.history.past.items (λ e. (e.0.value.items, e.1)) in (
      λ h. absurd (false≢true h),
      λ due.
          let fit = c.as_slice-fails.items_fit due.0 in
          let e : get_or c.as_slice-fails.result.now due.0 0 ≡ length (past_of c.args.self.now) + 1 =
          ap (λ xs. get_or xs due.0 0) c.as_slice-fails.ensures.value
          ∙ get_or_default (to_fail c.args.self.now) due.0 0 (length (past_of c.args.self.now) + 1) due.1
          ∙ due.2 in
          absurd (c.in-None.ensures (omega (arith, count, c.calls.ensures, fit, e))),
    )

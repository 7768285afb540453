use Rattle.std.proofs.Common.{◌≡◌, ◌<◌, ◌≤◌, ◌++◌, ◌∷◌, ℕ, suc, List, length, take, drop, get_or, sym, subst, arith, ◌∙◌, ap, drop-cons}
use Rattle.std.proofs.lemmas.List.{take-append-drop, get_or-take, length-take, get_or_default}
use Rattle.server_sync.specs.declared.waiting.SeatAwaitingLog.{SeatAwaitingLog}
use Rattle.server_sync.specs.SeatAwaitingLog.{IsFirstSettled}
use Rattle.server_sync.proofs.waiting.Waiting.take.Goals as goal

-- the seat p at i, which was read as q and whose place is settled, behind seats that wait
first_settled : (settled : ℕ) (seats rest : List SeatAwaitingLog) (i : ℕ) (q p : SeatAwaitingLog) → i < length seats
    → q ≡ get_or seats i q → p ≡ get_or seats i p → q.place ≤ settled → rest ≡ take i seats ++ drop (suc i) seats
    → ((k : ℕ) (d : SeatAwaitingLog) → k < i → settled < (get_or seats k d).place)
    → IsFirstSettled settled seats p.seat rest
first_settled settled seats rest i q p within read taken le left waits =
    let same : q ≡ p = read ∙ get_or_default seats i q p within ∙ sym taken in
    let split : seats ≡ take i seats ++ p ∷ drop (suc i) seats
    = sym (take-append-drop i seats)
    ∙ ap (λ t. take i seats ++ t) (drop-cons seats i p within ∙ ap (λ x. x ∷ drop (suc i) seats) (sym taken)) in
    let settles : p.place ≤ settled = let P : SeatAwaitingLog → Type 0 = λ x. x.place ≤ settled in subst P same le in (
      take i seats,
      drop (suc i) seats,
      p.place,
      split,
      left,
      settles,
      λ k d below.
          let l = length-take i seats in
          let k_below : k < i = omega (arith, l) in
          rw (get_or-take i seats k d k_below) (waits k d k_below),
    )

-- src/waiting.rt:99:17
pub returns-then-index-self-clause-taken : goal.returns-then-index-self-clause-taken
returns-then-index-self-clause-taken c =
    let same = c.loop-at.invariant.0 in
    let read = rw same at c.index.ensures in
    let taken = rw same at c.remove-taken.ensures.value in
    let left = rw same at c.remove-taken.ensures.items in
    let le = rw same at c.if-index-self.true in
    first_settled _ _ _ _ _ _ (omega arith) read taken le left c.loop-at.invariant.1

-- Nothing is in an empty list.
use Rattle.std.proofs.Common.{ℕ, ◌<◌, [], arith}
use Rattle.std.proofs.lemmas.List.Elements.{All-contains}
use Rattle.txn_law.specs.Window.{IsPinned, ArePinned}
use Rattle.txn_law.proofs.window.a_window_preserves_what_was_read.Goals as goal

no-less : (k : ℕ) → k < 0 → ⊥
no-less k less = omega arith

pub returns : goal.returns
returns c = λ log commits commit object has reads legal.
    let found = All-contains (IsPinned []) commit.read object
    (All-contains (ArePinned []) commits commit legal.1.pinned has) reads in
    no-less found.1.0 found.1.1

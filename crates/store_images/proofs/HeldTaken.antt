-- A block of which a transaction holds a part is taken.
use Rattle.std.proofs.Common.{◌≡◌, ◌∙◌, ap, refl, sym, true≢false, ℕ, true, List, Option, Some, None}
use Rattle.std.proofs.Common.{is_some, nat_eq}
use Rattle.std.proofs.lemmas.Bool.{eqb-true}
use Rattle.disk.specs.declared.block.BlockNo.{BlockNo}
use Rattle.objects.specs.declared.addr.Addr.{Addr}
use Rattle.txn_law.specs.Holds.{hold_of, is_hold_of, is_taken}
use Rattle.txn_law.specs.declared.hold.Hold.{Hold}
use Rattle.txn_law.proofs.Claims.{found_by, all_four}
use Rattle.txn_law.proofs.StaysWellFormed.{taken_one}

pub held_taken : (holds : List Hold) (tx : ℕ) (addr : Addr) (block : BlockNo) → addr.block.0 ≡ block.0
    → is_some (hold_of holds tx addr) ≡ true → is_taken holds block ≡ true
held_taken holds tx addr block at some = by (hold_of holds tx addr) refl some
  where
    by : (found : Option Hold) → hold_of holds tx addr ≡ found → is_some found ≡ true
        → is_taken holds block ≡ true
    by None is there = absurd (true≢false (sym there))
    by (Some x) is there =
        let (mine, among) = found_by (is_hold_of tx addr) holds x is in
        let four = all_four (nat_eq x.transaction tx) (nat_eq x.addr.block.0 addr.block.0)
        (nat_eq x.addr.offset addr.offset) (nat_eq x.addr.len addr.len) mine in
        ap (λ (n : ℕ). is_taken holds (record { 0 = n }))
        (sym (eqb-true x.addr.block.0 addr.block.0 four.1 ∙ at)) ∙ taken_one holds x among

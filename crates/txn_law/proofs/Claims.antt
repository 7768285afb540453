-- Lemmas: what is written of a block that isn't in memory.
use Rattle.std.proofs.Common.{◌≡◌, ℕ, Bool, true, false, cond, ◌&&◌, ◌||◌, nat_eq, List, [], ◌∷◌, length, All}
use Rattle.std.proofs.Common.{Option, Some, None, refl, sym, ap, ◌∙◌}
use Rattle.std.specs.Prelude.{Contains, slice_index_or}
use Rattle.std.specs.List.{find}
use Rattle.std.proofs.lemmas.Bool.{eqb-true}
use Rattle.std.proofs.lemmas.List.Elements.{All-contains}
use Rattle.base.specs.declared.TheConstants.{BLOCK_BYTES}
use Rattle.disk.specs.declared.block.BlockNo.{BlockNo}
use Rattle.txn_law.specs.Commit.{IsWrittenBy}
use Rattle.txn_law.specs.Core.{CoreState}
use Rattle.objects.specs.Mode.{is_exclusive}
use Rattle.objects.specs.declared.mode.Mode.{Mode}
use Rattle.objects.specs.declared.mode.Mode.TheVariants as modes
use Rattle.txn_law.specs.Holds.{is_hold_of, hold_of, is_written}
use Rattle.objects.specs.Object.{ObjectBytes}
use Rattle.objects.specs.Present.{present_of, content_in}
use Rattle.txn_law.specs.declared.hold.Hold.{Hold}
use Rattle.txn_law.specs.Steps.{IsWholeIn}
use Rattle.txn_law.specs.WellFormed.{IsWellFormed, IsReadHere, IsClaimedWhole}
use Rattle.txn_law.proofs.Swept.{in_more, in_first}

pub found_by : {X : Type 0} (test : X → Bool) (xs : List X) (x : X) → find test xs ≡ Some x
    → (test x ≡ true) × Contains xs x
found_by test [] x e = absurd (cc)
found_by test (y ∷ ys) x e = go (found_by test ys x) (test y) refl e
  where
    go : (find test ys ≡ Some x → (test x ≡ true) × Contains ys x) → (t : Bool) → test y ≡ t
        → cond t (Some y) (find test ys) ≡ Some x → (test x ≡ true) × Contains (y ∷ ys) x
    go rest true is e = let same : y ≡ x = cc in (ap test (sym same) ∙ is, in_first y x ys same)
    go rest false is e = let (passes, there) = rest e in (passes, in_more y x ys there)

pub all_four : (a b c d : Bool) → (a && b && c && d) ≡ true → (a ≡ true) × (b ≡ true) × (c ≡ true) × (d ≡ true)
all_four true true true true e = (refl, refl, refl, refl)
all_four true true true false e = absurd (cc)
all_four true true false d e = absurd (cc)
all_four true false c d e = absurd (cc)
all_four false b c d e = absurd (cc)

-- what is held for writing is held alone, and read or claimed
pub held_exclusive : (mode : Mode) (either : Bool) → (is_exclusive mode && either) ≡ true → mode ≡ modes.Exclusive
held_exclusive modes.Exclusive either e = refl
held_exclusive modes.Shared either e = absurd (cc)

held_either : (mode : Mode) (either : Bool) → (is_exclusive mode && either) ≡ true → either ≡ true
held_either modes.Exclusive either e = e
held_either modes.Shared either e = absurd (cc)

module _ (core : CoreState) (tx : ℕ) (block : BlockNo) (well_formed : IsWellFormed core)
    (absent : content_in (present_of core.present block) ≡ None) where
  one_write : (object : ObjectBytes) → is_written (hold_of core.holds tx object.addr) ≡ true
      → length object.bytes ≡ object.addr.len → IsWholeIn block object
  one_write object writes size same = go (hold_of core.holds tx object.addr) refl writes
    where
      of_hold : (hold : Hold) → hold_of core.holds tx object.addr ≡ Some hold → (read claimed : Bool)
          → hold.is_read ≡ read → hold.is_claimed ≡ claimed → (read || claimed) ≡ true
          → (object.addr.offset ≡ 0) × (length object.bytes ≡ BLOCK_BYTES)
      of_hold hold e read claimed is_read is_claimed either =
          by read claimed is_read is_claimed either (found_by (is_hold_of tx object.addr) core.holds hold e)
        where
          by : (read claimed : Bool) → hold.is_read ≡ read → hold.is_claimed ≡ claimed
              → (read || claimed) ≡ true → (is_hold_of tx object.addr hold ≡ true) × Contains core.holds hold
              → (object.addr.offset ≡ 0) × (length object.bytes ≡ BLOCK_BYTES)
          by true claimed is_read is_claimed either (is, there) =
              let four = all_four (nat_eq hold.transaction tx) (nat_eq hold.addr.block.0 object.addr.block.0)
              (nat_eq hold.addr.offset object.addr.offset) (nat_eq hold.addr.len object.addr.len) is in
              let at : hold.addr.block.0 ≡ block.0 = eqb-true hold.addr.block.0 object.addr.block.0 four.1
              ∙ same in
              let here = All-contains (IsReadHere core.present) core.holds hold well_formed.read there is_read in
              let f : ℕ → BlockNo = λ number. record { 0 = number } in
              absurd (let none : Some here.0 ≡ None = sym here.1
              ∙ ap (λ (b : BlockNo). content_in (present_of core.present b)) (ap f at) ∙ absent in cc)
          by false true is_read is_claimed either (is, there) =
              let four = all_four (nat_eq hold.transaction tx) (nat_eq hold.addr.block.0 object.addr.block.0)
              (nat_eq hold.addr.offset object.addr.offset) (nat_eq hold.addr.len object.addr.len) is in
              let whole = All-contains IsClaimedWhole core.holds hold well_formed.claimed there is_claimed in (
                sym (eqb-true hold.addr.offset object.addr.offset four.2) ∙ whole.0,
                size
                    ∙ sym (eqb-true hold.addr.len object.addr.len four.3) ∙ whole.1,
              )
          by false false is_read is_claimed either found = absurd (cc)

      go : (hold : Option Hold) → hold_of core.holds tx object.addr ≡ hold → is_written hold ≡ true
          → (object.addr.offset ≡ 0) × (length object.bytes ≡ BLOCK_BYTES)
      go None e w = absurd (cc)
      go (Some hold) e w = of_hold hold e hold.is_read hold.is_claimed refl refl
          (held_either hold.mode (hold.is_read || hold.is_claimed) w)

pub whole_writes : (core : CoreState) (tx : ℕ) (written : List ObjectBytes) (block : BlockNo) → IsWellFormed core
    → All (λ object. IsWrittenBy core tx object.addr) written
    → All (λ object. length object.bytes ≡ object.addr.len) written
    → content_in (present_of core.present block) ≡ None → All (IsWholeIn block) written
whole_writes core tx written block well_formed writes sizes absent k d lt =
    one_write core tx block well_formed absent (slice_index_or written k d) (writes k d lt).held (sizes k d lt)

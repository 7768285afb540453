-- Lemmas: what a transaction has while others make steps of the core, and who keeps its lock requests off.
use Rattle.std.proofs.Common.{◌≡◌, ◌∙◌, ◌+◌, refl, sym, ap, ℕ, ◌⊎◌, inl, inr, Bool, true, false}
use Rattle.std.proofs.Common.{◌||◌}
use Rattle.std.proofs.Common.{cond, nat_eq, Option, Some, None, List, [], ◌∷◌, All, is_some, arith}
use Rattle.std.specs.Prelude.{Contains}
use Rattle.std.specs.List.{find}
use Rattle.std.proofs.lemmas.Bool.{cases_eq, cases_lt, eqb-true, true≢false}
use Rattle.std.proofs.lemmas.List.Elements.{All-cons, All-contains, All-nil}
use Rattle.disk.specs.Device.{Content}
use Rattle.disk.specs.declared.block.BlockNo.{BlockNo}
use Rattle.objects.specs.Addr.{Overlap}
use Rattle.objects.specs.Mode.{Excludes}
use Rattle.objects.specs.declared.addr.Addr.{Addr}
use Rattle.objects.specs.declared.mode.Mode.{Mode}
use Rattle.objects.specs.declared.mode.Mode.TheVariants as modes
use Rattle.txn_law.specs.Core.{CoreState, IsOut}
use Rattle.txn_law.specs.CoreWindow.{PreservesReads}
use Rattle.txn_law.specs.Holds.{IsHoldOf, ConflictsWith, is_hold_of, is_taken}
use Rattle.txn_law.specs.Leaves.{Leaves, in_memory, taken_by}
use Rattle.txn_law.specs.Others.{IsApartFrom, IsDeferred, PreservesTaken}
use Rattle.txn_law.specs.Records.{is_read_by_uninstalled}
use Rattle.txn_law.specs.WellFormed.{IsWellFormed, IsOfOne}
use Rattle.txn_law.specs.LockAnswers.{IsBusy}
use Rattle.txn_law.specs.declared.hold.Hold.{Hold}
use Rattle.txn_law.proofs.Claims.{all_four, found_by}
use Rattle.objects.proofs.Residents.{same_block}
use Rattle.txn_law.proofs.Swept.{in_cons, in_first, in_more}
use Rattle.txn_law.proofs.TakenBy.{is_hold_by}
use Rattle.txn_law.proofs.StaysWellFormed.{taken_one}

-- ---- what a transaction has

some_there : {X : Type 0} (o : Option X) → is_some o ≡ true → (x : X) × (o ≡ Some x)
some_there None e = absurd (true≢false (sym e))
some_there (Some x) e = (x, refl)

-- what a transaction has taken a part of is taken
pub taken_block : (core : CoreState) (tx : ℕ) (addr : Addr) → is_some (taken_by core tx addr) ≡ true
    → is_taken core.holds addr.block ≡ true
taken_block core tx addr some =
    let (hold, e) = some_there (taken_by core tx addr) some in
    let (mine, there) = found_by (is_hold_of tx addr) core.holds hold e in
    let four = all_four (nat_eq hold.transaction tx) (nat_eq hold.addr.block.0 addr.block.0)
    (nat_eq hold.addr.offset addr.offset) (nat_eq hold.addr.len addr.len) mine in
    ap (is_taken core.holds) (sym (same_block hold.addr.block addr.block
    (eqb-true hold.addr.block.0 addr.block.0 four.1))) ∙ taken_one core.holds hold there

-- a step that leaves what the transaction has taken, and what was in memory, keeps what it has
pub preserves_by : (old new : CoreState) (tx : ℕ) (taken : ℕ → Addr → Option Hold) (fetching : BlockNo → Bool)
    (there : BlockNo → Option Content) → Leaves new taken fetching there
    → ((addr : Addr) → taken tx addr ≡ taken_by old tx addr)
    → ((block : BlockNo) (content : Content) → in_memory old block ≡ Some content
    → (now : Content) × (there block ≡ Some now))
    → (IsOut old tx → IsOut new tx) → PreservesReads old new tx → PreservesTaken old new tx
preserves_by old new tx taken fetching there leaves same still out reads = record {
  out = out;
  taken = λ addr. leaves.holds tx addr ∙ same addr;
  reads = reads;
  loaded = λ addr content some here.
      let (now, is) = still addr.block content here in (
        now,
        leaves.stays addr.block now is
            (ap (λ (b : Bool). b || is_read_by_uninstalled new.records addr.block)
            (taken_block new tx addr (ap is_some (leaves.holds tx addr ∙ same addr) ∙ some))),
      );
}

-- ---- who keeps a lock request off

-- where one passes a test, one is found
pub found_some : {X : Type 0} (test : X → Bool) (xs : List X) (x : X) → Contains xs x → test x ≡ true
    → (y : X) × (find test xs ≡ Some y)
found_some test [] x (k, lt, e) passes = absurd (omega (arith, lt))
found_some test (y ∷ ys) x there passes = go (found_some test ys x) (test y) refl (in_cons y x ys there)
  where
    go : (Contains ys x → test x ≡ true → (z : _) × (find test ys ≡ Some z)) → (t : Bool) → test y ≡ t
        → (y ≡ x) ⊎ Contains ys x → (z : _) × (cond t (Some y) (find test ys) ≡ Some z)
    go rest true is at = (y, refl)
    go rest false is (inl same) = absurd (true≢false (sym passes ∙ ap test (sym same) ∙ is))
    go rest false is (inr later) = rest later passes

module _ (core : CoreState) (tx : ℕ) (addr : Addr) (mode : Mode) (well_formed : IsWellFormed core)
    (apart : IsApartFrom core tx addr) where
  abbrev LetsPass : Hold → Type 0
  LetsPass hold = Overlap hold.addr addr → ConflictsWith tx mode hold → IsHoldOf tx addr hold

  overlaps : (hold : Hold) → Overlap hold.addr addr ⊎ (Overlap hold.addr addr → ⊥)
  overlaps hold = elim (cases_eq hold.addr.block.0 addr.block.0) [
    | inr never ↦ inr (λ over. never (ap (λ (b : BlockNo). b.0) over.0))
    | inl same ↦ elim (cases_lt hold.addr.offset (addr.offset + addr.len)) [
      | inr never ↦ inr (λ over. let one = over.1 in omega (arith, one, never))
      | inl one ↦ elim (cases_lt addr.offset (hold.addr.offset + hold.addr.len)) [
        | inr never ↦ inr (λ over. let two = over.2 in omega (arith, two, never))
        | inl two ↦ inl (same_block hold.addr.block addr.block same, one, two)
      ]
    ]
  ]

  excludes : (one other : Mode) → Excludes one other ⊎ (Excludes one other → ⊥)
  excludes modes.Exclusive other = inl (inl refl)
  excludes modes.Shared modes.Exclusive = inl (inr refl)
  excludes modes.Shared modes.Shared = inr none
    where
      none : Excludes modes.Shared modes.Shared → ⊥
      none (inl is) = cc
      none (inr is) = cc

  own : (hold : Hold) → Contains core.holds hold → hold.transaction ≡ tx → LetsPass hold
  own hold there mine over off =
      let found = found_some (is_hold_of tx hold.addr) core.holds hold there
      (is_hold_by tx hold.addr hold mine refl refl refl) in
      (mine, apart hold.addr found.0 found.1 over)

  one_hold : (hold : Hold) → Contains core.holds hold → LetsPass hold ⊎ IsDeferred core tx addr mode
  one_hold hold there = elim (cases_eq hold.transaction tx) [
    | inl mine ↦ inl (own hold there mine)
    | inr differs ↦ elim (overlaps hold) [
      | inr never ↦ inl (λ over off. absurd (never over))
      | inl over ↦ elim (excludes hold.mode mode) [
        | inr never ↦ inl (λ over off. absurd (elim off [ inl mine ↦ differs mine | inr both ↦ never both ]))
        | inl both ↦ inr (record {
          hold = hold;
          there = there;
          differs = differs;
          out = (All-contains (IsOfOne core) core.holds hold well_formed.owned there).0;
          overlap = over;
          excludes = both;
        })
      ]
    ]
  ]

  all_holds : (holds : List Hold) → ((hold : Hold) → Contains holds hold → Contains core.holds hold)
      → All LetsPass holds ⊎ IsDeferred core tx addr mode
  all_holds [] within = inl (All-nil LetsPass)
  all_holds (h ∷ hs) within = elim (one_hold h (within h (in_first h h hs refl))) [
    | inr found ↦ inr found
    | inl pass ↦ elim (all_holds hs (λ hold later. within hold (in_more h hold hs later))) [
      | inr found ↦ inr found
      | inl rest ↦ inl (All-cons LetsPass h hs pass rest)
    ]
  ]

  pub deferred_by : IsBusy core tx addr mode → IsDeferred core tx addr mode
  deferred_by busy = elim (all_holds core.holds (λ hold there. there)) [
    | inr found ↦ found
    | inl free ↦ absurd (busy.1 (record { others = free }))
  ]

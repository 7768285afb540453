-- What was fetched for a transaction stays in memory until it ends.
use Rattle.std.proofs.Common.{◌≡◌, ◌∙◌, refl, sym, ap, true≢false, ℕ, Bool, true, false, ◌||◌, if◌then◌else◌}
use Rattle.std.proofs.Common.{nat_eq, Option, Some, None, is_some, List, [], ◌∷◌, ◌++◌}
use Rattle.std.proofs.lemmas.Bool.{eq-eqb, eqb-true}
use Rattle.std.proofs.lemmas.List.Elements.{All-push, All-weaker}
use Rattle.disk.specs.Device.{Content}
use Rattle.disk.specs.declared.block.BlockNo.{BlockNo}
use Rattle.objects.specs.declared.addr.Addr.{Addr}
use Rattle.objects.specs.declared.mode.Mode.{Mode}
use Rattle.txn_law.specs.Core.{CoreState}
use Rattle.txn_law.specs.Fetch.{Fetch}
use Rattle.txn_law.specs.Holds.{for_fetching, for_reading, for_writing, is_hold_of, is_taken, joined}
use Rattle.txn_law.specs.Leaves.{Leaves, in_memory, is_fetching, taken_by, with_content, without_fetch}
use Rattle.txn_law.specs.Records.{is_read_by_uninstalled}
use Rattle.txn_law.specs.LockAnswers.{IsFetched, IsHeld, IsTaken}
use Rattle.txn_law.specs.declared.hold.Hold.{Hold}
use Rattle.txn_law.proofs.Again.{same_addr}
use Rattle.txn_law.proofs.Claims.{all_four, found_by}
use Rattle.txn_law.proofs.TakenBy.{is_hold_by}
use Rattle.txn_law.proofs.StaysWellFormed.{taken_one}
use Rattle.store.specs.Runs.AtWork.{AreLoadedFor, IsLoadedFor, has_taken}
use Rattle.store_workers.specs.WorkerSteps.{there_given}

-- the address of a hold that is this transaction's of this address
hold_at : (tx : ℕ) (addr : Addr) (hold : Hold) → is_hold_of tx addr hold ≡ true → hold.addr ≡ addr
hold_at tx addr hold is =
    let four = all_four (nat_eq hold.transaction tx) (nat_eq hold.addr.block.0 addr.block.0)
    (nat_eq hold.addr.offset addr.offset) (nat_eq hold.addr.len addr.len) is in
    same_addr hold.addr addr (eqb-true hold.addr.block.0 addr.block.0 four.1)
    (eqb-true hold.addr.offset addr.offset four.2) (eqb-true hold.addr.len addr.len four.3)

-- what is taken is a part of its block, and so the block is needed
is_needed : (core : CoreState) (tx : ℕ) (addr : Addr) → has_taken core tx addr ≡ true
    → (is_taken core.holds addr.block || is_read_by_uninstalled core.records addr.block) ≡ true
is_needed core tx addr some = ap (λ (b : Bool). b || is_read_by_uninstalled core.records addr.block)
    (by (taken_by core tx addr) refl some)
  where
    by : (found : Option Hold) → taken_by core tx addr ≡ found → is_some found ≡ true
        → is_taken core.holds addr.block ≡ true
    by None is there = absurd (true≢false (sym there))
    by (Some hold) is there =
        let (mine, among) = found_by (is_hold_of tx addr) core.holds hold is in
        ap (λ (a : Addr). is_taken core.holds a.block) (sym (hold_at tx addr hold mine))
        ∙ taken_one core.holds hold among

-- what is taken stays so beside another hold
taken_more : (hold : Hold) (had : Option Hold) (mine : Bool) → is_some had ≡ true
    → is_some (if mine then Some (joined had hold) else had) ≡ true
taken_more hold had true some = refl
taken_more hold had false some = some

-- and the hold itself is taken
taken_so : (hold : Hold) (had : Option Hold) (mine : Bool) → mine ≡ true
    → is_some (if mine then Some (joined had hold) else had) ≡ true
taken_so hold had true mine = refl
taken_so hold had false mine = absurd (true≢false (sym mine))

-- what is in memory besides a block that came
memory_with : (block : BlockNo) (content before : Content) (there : BlockNo → Option Content) (at : BlockNo)
    → there at ≡ Some before → (now : Content) × (with_content block content there at ≡ Some now)
memory_with block content before there at is = by (nat_eq at.0 block.0)
  where
    by : (same : Bool) → (now : Content) × ((if same then Some content else there at) ≡ Some now)
    by true = (content, refl)
    by false = (before, is)

module _ (old new : CoreState) (tx : ℕ) (fetched : List Addr) (addr : Addr) where
  module _ (mode : Mode) (bytes : List ℕ) (held : IsHeld old tx addr mode bytes new) where
    pub one_held : (a : Addr) → IsLoadedFor old tx a → IsLoadedFor new tx a
    one_held a loaded =
        let some : has_taken new tx a ≡ true = ap (λ (o : Option Hold). is_some o) (held.leaves.holds tx a)
        ∙ taken_more (for_reading tx addr mode) (taken_by old tx a)
        (is_hold_of tx a (for_reading tx addr mode)) loaded.taken in
        let now = memory_with addr.block held.content loaded.content (in_memory old) a.block loaded.there in
        record {
          taken = some;
          content = now.0;
          there = held.leaves.stays a.block now.0 now.1 (is_needed new tx a some);
        }

    -- so is the object itself
    pub now_held : IsLoadedFor new tx addr
    now_held =
        let some : has_taken new tx addr ≡ true = ap (λ (o : Option Hold). is_some o) (held.leaves.holds tx addr)
        ∙ taken_so (for_reading tx addr mode) (taken_by old tx addr)
        (is_hold_of tx addr (for_reading tx addr mode))
        (is_hold_by tx addr (for_reading tx addr mode) refl refl refl refl) in
        record {
          taken = some;
          content = held.content;
          there = held.leaves.stays addr.block held.content
              (ap (λ (b : Bool). if b then Some held.content else in_memory old addr.block)
              (eq-eqb addr.block.0 addr.block.0 refl))
              (is_needed new tx addr some);
        }

    pub after_held : AreLoadedFor old tx fetched → AreLoadedFor new tx fetched
    after_held = All-weaker (IsLoadedFor old tx) (IsLoadedFor new tx) one_held fetched

  module _ (took : IsTaken old tx addr new) where
    pub one_claimed : (a : Addr) → IsLoadedFor old tx a → IsLoadedFor new tx a
    one_claimed a loaded =
        let some : has_taken new tx a ≡ true = ap (λ (o : Option Hold). is_some o) (took.leaves.holds tx a)
        ∙ taken_more (for_writing tx addr) (taken_by old tx a)
        (is_hold_of tx a (for_writing tx addr)) loaded.taken in
        record {
          taken = some;
          content = loaded.content;
          there = took.leaves.stays a.block loaded.content loaded.there (is_needed new tx a some);
        }

    pub after_claimed : AreLoadedFor old tx fetched → AreLoadedFor new tx fetched
    after_claimed = All-weaker (IsLoadedFor old tx) (IsLoadedFor new tx) one_claimed fetched

  module _ (mode : Mode) (io : Fetch) (asked : IsFetched old tx addr mode io new) where
    abbrev hold : Hold
    hold = for_fetching tx addr mode

    pub one_wanted : (a : Addr) → IsLoadedFor old tx a → IsLoadedFor new tx a
    one_wanted a loaded =
        let some : has_taken new tx a ≡ true = ap (λ (o : Option Hold). is_some o) (asked.leaves.holds tx a)
        ∙ taken_more hold (taken_by old tx a) (is_hold_of tx a hold) loaded.taken in
        record {
          taken = some;
          content = loaded.content;
          there = asked.leaves.stays a.block loaded.content loaded.there (is_needed new tx a some);
        }

    pub after_wanted : AreLoadedFor old tx fetched → AreLoadedFor new tx fetched
    after_wanted = All-weaker (IsLoadedFor old tx) (IsLoadedFor new tx) one_wanted fetched

    pub wanted_taken : has_taken new tx addr ≡ true
    wanted_taken = ap (λ (o : Option Hold). is_some o) (asked.leaves.holds tx addr)
        ∙ taken_so hold (taken_by old tx addr) (is_hold_of tx addr hold)
        (is_hold_by tx addr hold refl refl refl refl)

  module _ (io : Fetch) (taken : has_taken old tx addr ≡ true) (block : io.block ≡ addr.block)
      (pending : is_fetching old io.block ≡ true)
      (leaves : Leaves new (taken_by old) (without_fetch io.block (is_fetching old))
      (there_given true io old)) where
    still_taken : (a : Addr) → has_taken old tx a ≡ true → has_taken new tx a ≡ true
    still_taken a some = ap (λ (o : Option Hold). is_some o) (leaves.holds tx a) ∙ some

    there_is : (at : BlockNo) → there_given true io old at ≡ with_content io.block io.content (in_memory old) at
    there_is at =
        ap (λ (b : Bool). (if b then with_content io.block io.content (in_memory old) else in_memory
        old) at) pending

    pub one_given : (a : Addr) → IsLoadedFor old tx a → IsLoadedFor new tx a
    one_given a loaded =
        let some = still_taken a loaded.taken in
        let now = memory_with io.block io.content loaded.content (in_memory old) a.block loaded.there in
        record {
          taken = some;
          content = now.0;
          there = leaves.stays a.block now.0 (there_is a.block ∙ now.1) (is_needed new tx a some);
        }

    pub now_given : IsLoadedFor new tx addr
    now_given =
        let some = still_taken addr taken in
        record {
          taken = some;
          content = io.content;
          there = leaves.stays addr.block io.content (there_is addr.block
              ∙ ap (λ (b : BlockNo). with_content io.block io.content (in_memory old) b) (sym block)
              ∙ ap (λ (b : Bool). if b then Some io.content else in_memory old io.block)
              (eq-eqb io.block.0 io.block.0 refl))
              (is_needed new tx addr some);
        }

    pub after_given : AreLoadedFor old tx fetched → AreLoadedFor new tx (fetched ++ addr ∷ [])
    after_given loaded = All-push (IsLoadedFor new tx) fetched addr
        (All-weaker (IsLoadedFor old tx) (IsLoadedFor new tx) one_given fetched loaded) now_given

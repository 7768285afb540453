-- A fetch that is given back leaves fewer blocks that aren't at hand.
use Rattle.std.proofs.Common.{arith, ◌≡◌, ◌∙◌, refl, sym, ap, subst, true≢false, ℕ, ◌+◌, ◌<◌, ◌≤◌}
use Rattle.std.proofs.Common.{zero, suc}
use Rattle.std.proofs.Common.{Bool, true, false, ◌&&◌, ◌||◌, if◌then◌else◌, nat_eq, Option, Some, None}
use Rattle.std.proofs.Common.{is_some}
use Rattle.std.proofs.Common.{List, [], ◌∷◌, cond}
use Rattle.std.proofs.lemmas.Bool.{eqb-true}
use Rattle.std.proofs.lemmas.Bool.Decides.{nat_tests}
use Rattle.disk.specs.Device.{Content}
use Rattle.disk.specs.declared.block.BlockNo.{BlockNo}
use Rattle.objects.specs.declared.addr.Addr.{Addr}
use Rattle.objects.specs.declared.mode.Mode.{Mode}
use Rattle.txn.specs.Core.{CoreState}
use Rattle.txn.specs.Fetch.{Fetch}
use Rattle.txn_law.specs.Holds.{for_fetching, hold_of, is_hold_of, is_taken, joined}
use Rattle.txn_law.specs.Leaves.{Leaves, in_memory, is_fetching, taken_by, with_content}
use Rattle.txn_law.specs.Leaves.{without_fetch}
use Rattle.txn_law.specs.Records.{is_read_by_uninstalled}
use Rattle.txn_law.specs.LockAnswers.{IsFetched}
use Rattle.txn_law.specs.declared.hold.Hold.{Hold}
use Rattle.txn_law.proofs.TakenBy.{is_hold_by}
use Rattle.store.specs.Driving.{away, count_away, is_at_hand}
use Rattle.store_images.proofs.HeldTaken.{held_taken}
use Rattle.store_workers.specs.WorkerSteps.{there_given}

-- ---- counting

one_le : (was is : Bool) → (was ≡ true → is ≡ true) → (fewer more : ℕ) → fewer ≤ more
    → (if is then 0 else 1) + fewer ≤ (if was then 0 else 1) + more
one_le true true stays fewer more le = grind (arith)
one_le true false stays fewer more le = absurd (true≢false (sym (stays refl)))
one_le false true stays fewer more le = grind (arith)
one_le false false stays fewer more le = grind (arith)

one_less : (was is : Bool) → (was ≡ true → is ≡ true) → (fewer more : ℕ) → fewer < more
    → (if is then 0 else 1) + fewer < (if was then 0 else 1) + more
one_less true true stays fewer more le = grind (arith)
one_less true false stays fewer more le = absurd (true≢false (sym (stays refl)))
one_less false true stays fewer more le = grind (arith)
one_less false false stays fewer more le = grind (arith)

came : (before after : Bool) → before ≡ false → after ≡ true → (fewer more : ℕ) → fewer ≤ more
    → (if after then 0 else 1) + fewer < (if before then 0 else 1) + more
came before after none there fewer more le =
    subst (λ b. (if after then 0 else 1) + fewer < (if b then 0 else 1) + more) (sym none)
    (subst (λ a. (if a then 0 else 1) + fewer < (if false then 0 else 1) + more) (sym there) (grind (arith)))

module _ (was is : BlockNo → Bool) (stays : (block : BlockNo) → was block ≡ true → is block ≡ true) where
  count_le : (blocks : ℕ) → count_away is blocks ≤ count_away was blocks
  count_le zero = grind (arith)
  count_le (suc number) =
      one_le (was (record { 0 = number })) (is (record { 0 = number })) (stays (record { 0 = number }))
      (count_away is number) (count_away was number) (count_le number)

  pub count_less : (block : ℕ) → was (record { 0 = block }) ≡ false → is (record { 0 = block }) ≡ true
      → (blocks : ℕ) → block < blocks → count_away is blocks < count_away was blocks
  count_less block away_was here_is zero within = absurd (grind (arith))
  count_less block away_was here_is (suc number) within =
      by (nat_eq block number) refl (count_less block away_was here_is number)
    where
      by : (same : Bool) → nat_eq block number ≡ same
          → (block < number → count_away is number < count_away was number)
          → count_away is (suc number) < count_away was (suc number)
      by true at earlier =
          let here : block ≡ number = eqb-true block number at in
          came (was (record { 0 = number })) (is (record { 0 = number }))
          (subst (λ n. was (record { 0 = n }) ≡ false) here away_was)
          (subst (λ n. is (record { 0 = n }) ≡ true) here here_is)
          (count_away is number) (count_away was number) (count_le number)
      by false other earlier =
          let before : block < number = grind (arith, nat_tests) in
          one_less (was (record { 0 = number })) (is (record { 0 = number })) (stays (record { 0 = number }))
          (count_away is number) (count_away was number) (earlier before)

pub at_most_all : (at_hand : BlockNo → Bool) (blocks : ℕ) → count_away at_hand blocks ≤ blocks
at_most_all at_hand zero = grind (arith)
at_most_all at_hand (suc number) = by (at_hand (record { 0 = number })) (at_most_all at_hand number)
  where
    by : (here : Bool) → count_away at_hand number ≤ number
        → (if here then 0 else 1) + count_away at_hand number ≤ suc number
    by true rest = grind (arith)
    by false rest = grind (arith)

-- ---- what is taken

-- a block of which a part is taken, is taken at some address of it
pub record IsTakenAt (holds : List Hold) (block : BlockNo) : Type 0 where
  pub tx : ℕ
  pub addr : Addr
  pub held : is_some (hold_of holds tx addr) ≡ true
  pub at : addr.block.0 ≡ block.0

later : (x : Hold) (holds : List Hold) (tx : ℕ) (addr : Addr) → is_some (hold_of holds tx addr) ≡ true
    → is_some (hold_of (x ∷ holds) tx addr) ≡ true
later x holds tx addr some = by (is_hold_of tx addr x)
  where
    by : (mine : Bool) → is_some (cond mine (Some x) (hold_of holds tx addr)) ≡ true
    by true = refl
    by false = some

taken_at : (holds : List Hold) (block : BlockNo) → is_taken holds block ≡ true → IsTakenAt holds block
taken_at [] block taken = absurd (true≢false (sym taken))
taken_at (x ∷ holds) block taken = by (nat_eq x.addr.block.0 block.0) refl taken (taken_at holds block)
  where
    by : (here : Bool) → nat_eq x.addr.block.0 block.0 ≡ here → (here || is_taken holds block) ≡ true
        → (is_taken holds block ≡ true → IsTakenAt holds block) → IsTakenAt (x ∷ holds) block
    by true at some rest = record {
      tx = x.transaction;
      addr = x.addr;
      held = ap (λ (b : Bool). is_some (cond b (Some x) (hold_of holds x.transaction x.addr)))
          (is_hold_by x.transaction x.addr x refl refl refl refl);
      at = eqb-true x.addr.block.0 block.0 at;
    }
    by false at some rest =
        let there = rest some in
        record {
          tx = there.tx;
          addr = there.addr;
          held = later x holds there.tx there.addr there.held;
          at = there.at;
        }

-- ---- a fetch, given back

module _ (old mid new : CoreState) (tx : ℕ) (addr : Addr) (mode : Mode) (asked io : Fetch)
    (fetched : IsFetched old tx addr mode asked mid) (same : io.block ≡ asked.block)
    (leaves : Leaves new (taken_by mid) (without_fetch io.block (is_fetching mid))
    (there_given true io mid)) where
  abbrev hold : Hold
  hold = for_fetching tx addr mode

  taken_now : (t : ℕ) (a : Addr)
      → taken_by new t a ≡ (if is_hold_of t a hold then Some (joined (taken_by old t a) hold)
      else taken_by old t a)
  taken_now t a = leaves.holds t a ∙ fetched.leaves.holds t a

  stays_taken : (t : ℕ) (a : Addr) → is_some (taken_by old t a) ≡ true → is_some (taken_by new t a) ≡ true
  stays_taken t a some = ap (λ (o : Option Hold). is_some o) (taken_now t a) ∙ by (is_hold_of t a hold)
    where
      by : (mine : Bool) → is_some (if mine then Some (joined (taken_by old t a) hold) else taken_by
          old t a) ≡ true
      by true = refl
      by false = some

  is_taken_now : (block : BlockNo) → is_taken old.holds block ≡ true → is_taken new.holds block ≡ true
  is_taken_now block taken =
      let at = taken_at old.holds block taken in
      held_taken new.holds at.tx at.addr block at.at (stays_taken at.tx at.addr at.held)

  here_taken : is_taken new.holds addr.block ≡ true
  here_taken = held_taken new.holds tx addr addr.block refl
      (ap (λ (o : Option Hold). is_some o) (taken_now tx addr)
      ∙ ap (λ (b : Bool). is_some (if b then Some (joined (taken_by old tx addr) hold)
      else taken_by old tx addr))
      (is_hold_by tx addr hold refl refl refl refl))

  needed : (block : BlockNo) → is_taken new.holds block ≡ true
      → (is_taken new.holds block || is_read_by_uninstalled new.records block) ≡ true
  needed block taken = ap (λ b. b || is_read_by_uninstalled new.records block) taken

  pending : is_fetching mid io.block ≡ true
  pending = fetched.leaves.fetches io.block
      ∙ ap (λ b. b || is_fetching old io.block) (same_test io.block.0 addr.block.0
      (ap (λ (b : BlockNo). b.0) (same ∙ fetched.block)))
    where
      same_test : (a b : ℕ) → a ≡ b → nat_eq a b ≡ true
      same_test a b is = grind (arith, nat_tests)

  there_now : (block : BlockNo) → there_given true io mid block
      ≡ (if nat_eq block.0 io.block.0 then Some io.content else in_memory mid block)
  there_now block = ap (λ b. (if b then with_content io.block io.content (in_memory mid)
      else in_memory mid) block) pending

  was_there : (block : BlockNo) (content : Content) → in_memory old block ≡ Some content
      → is_taken old.holds block ≡ true → is_some (in_memory new block) ≡ true
  was_there block content there taken = by (nat_eq block.0 io.block.0) refl
    where
      in_mid : is_some (in_memory mid block) ≡ true
      in_mid = ap (λ (o : Option Content). is_some o) (fetched.leaves.stays block content there
          (ap (λ b. b || is_read_by_uninstalled mid.records block) (taken_mid)))
        where
          taken_mid : is_taken mid.holds block ≡ true
          taken_mid =
              let at = taken_at old.holds block taken in
              held_taken mid.holds at.tx at.addr block at.at
              (sym (ap (λ (o : Option Hold). is_some o) (leaves.holds at.tx at.addr))
              ∙ stays_taken at.tx at.addr at.held)

      from : (o : Option Content) → there_given true io mid block ≡ o → is_some o ≡ true
          → is_some (in_memory new block) ≡ true
      from None is some = absurd (true≢false (sym some))
      from (Some c) is some = ap (λ (o : Option Content). is_some o)
          (leaves.stays block c is (needed block (is_taken_now block taken)))

      by : (here : Bool) → nat_eq block.0 io.block.0 ≡ here → is_some (in_memory new block) ≡ true
      by true here = from (Some io.content) (there_now block
          ∙ ap (λ b. if b then Some io.content else in_memory mid block) here) refl
      by false here = from (in_memory mid block) (there_now block
          ∙ ap (λ b. if b then Some io.content else in_memory mid block) here) in_mid

  stays_at_hand : (block : BlockNo) → is_at_hand old block ≡ true → is_at_hand new block ≡ true
  stays_at_hand block here = by (is_taken old.holds block) refl (in_memory old block) refl here
    where
      by : (taken : Bool) → is_taken old.holds block ≡ taken → (there : Option Content)
          → in_memory old block ≡ there
          → (taken && is_some there) ≡ true → is_at_hand new block ≡ true
      by true is (Some content) there both =
          ap (λ b. b && is_some (in_memory new block)) (is_taken_now block is)
          ∙ was_there block content there is
      by true is None there both = absurd (true≢false (sym both))
      by false is o there both = absurd (true≢false (sym both))

  comes_at_hand : is_at_hand new addr.block ≡ true
  comes_at_hand =
      ap (λ b. b && is_some (in_memory new addr.block)) here_taken
      ∙ ap (λ (o : Option Content). is_some o) (leaves.stays addr.block io.content
      (there_now addr.block ∙ ap (λ b. if b then Some io.content else in_memory mid addr.block)
      (same_test addr.block.0 io.block.0 (sym (ap (λ (b : BlockNo). b.0) (same ∙ fetched.block)))))
      (needed addr.block here_taken))
    where
      same_test : (a b : ℕ) → a ≡ b → nat_eq a b ≡ true
      same_test a b is = grind (arith, nat_tests)

  was_away : is_at_hand old addr.block ≡ false
  was_away = ap (λ (o : Option Content). is_taken old.holds addr.block && is_some o) fetched.absent
      ∙ none (is_taken old.holds addr.block)
    where
      none : (b : Bool) → (b && false) ≡ false
      none true = refl
      none false = refl

  pub fewer_away : new.log.blocks ≡ old.log.blocks → addr.block.0 < old.log.blocks → away new < away old
  fewer_away blocks within =
      subst (λ n. count_away (is_at_hand new) n < away old) (sym blocks)
      (count_less (is_at_hand old) (is_at_hand new) stays_at_hand addr.block.0 was_away comes_at_hand
      old.log.blocks within)

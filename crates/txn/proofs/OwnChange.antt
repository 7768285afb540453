-- A transaction's own change is never foreign, whoever else is out.
use Rattle.std.proofs.Common.{◌≡◌, ◌∙◌, refl, sym, ap, subst, true≢false, ℕ, inl, inr, Bool, true, false}
use Rattle.std.proofs.Common.{◌||◌, ◌++◌, ◌&&◌, cond, nat_eq, Option, Some, None, List, [], ◌∷◌, All, get_or}
use Rattle.std.specs.Prelude.{Contains}
use Rattle.std.proofs.lemmas.Bool.{eqb-true}
use Rattle.std.proofs.lemmas.List.Elements.{All-contains, All-contains_itself, All-nil, All-push}
use Rattle.disk.specs.declared.block.BlockNo.{BlockNo}
use Rattle.objects.specs.Mode.{is_exclusive}
use Rattle.objects.specs.declared.addr.Addr.{Addr}
use Rattle.objects.specs.declared.mode.Mode.{Mode}
use Rattle.objects.specs.declared.mode.Mode.TheVariants as modes
use Rattle.circ.specs.Log.Log.{IsHomeOn}
use Rattle.txn_law.specs.Commit.{IsOwn, IsReadBy, IsWrittenBy, Planned}
use Rattle.txn_law.specs.Core.{CoreState, IsOut}
use Rattle.txn_law.specs.Group.{blocks_after, is_among}
use Rattle.txn_law.specs.Holds.{hold_of, is_hold_of, is_read, is_written}
use Rattle.txn_law.specs.Leaves.{is_fetching, taken_by}
use Rattle.objects.specs.Object.{ObjectBytes}
use Rattle.txn_law.specs.WellFormed.{IsWellFormed, IsOfOne}
use Rattle.txn_law.specs.declared.hold.Hold.{Hold}
use Rattle.txn_law.proofs.Again as again
use Rattle.txn_law.proofs.Claims.{all_four, found_by}
use Rattle.txn_law.proofs.Swept.{in_first, in_more}
use Rattle.txn.specs.Claimed.{IsAmongRead, IsOwnObject, IsTakenExclusive}

-- what holds of the blocks of all objects holds of the group's
pub blocks_all : (P : BlockNo → Type 0) (blocks : List BlockNo) (objects : List ObjectBytes) → All P blocks
    → ((object : ObjectBytes) → Contains objects object → P object.addr.block)
    → All P (blocks_after blocks objects)
blocks_all P blocks [] all each = all
blocks_all P blocks (o ∷ os) all each =
    blocks_all P (cond (is_among o.addr.block blocks) blocks (blocks ++ o.addr.block ∷ [])) os
    (by (is_among o.addr.block blocks)) (λ object there. each object (in_more o object os there))
  where
    by : (known : Bool) → All P (cond known blocks (blocks ++ o.addr.block ∷ []))
    by true = all
    by false = All-push P blocks o.addr.block all (each o (in_first o o os refl))

module _ (core : CoreState) (tx : ℕ) (well_formed : IsWellFormed core) where
  -- what it has taken is among the holds, by its address
  pub taken_at : (addr : Addr) (hold : Hold) → taken_by core tx addr ≡ Some hold
      → Contains core.holds hold × (hold.addr ≡ addr)
  taken_at addr hold taken =
      let found = found_by (is_hold_of tx addr) core.holds hold taken in
      let four = all_four (nat_eq hold.transaction tx) (nat_eq hold.addr.block.0 addr.block.0)
      (nat_eq hold.addr.offset addr.offset) (nat_eq hold.addr.len addr.len) found.0 in (
        found.1,
        again.same_addr hold.addr addr (eqb-true hold.addr.block.0 addr.block.0 four.1)
            (eqb-true hold.addr.offset addr.offset four.2) (eqb-true hold.addr.len addr.len four.3),
      )

  -- and lies where a change may write
  taken_home : (addr : Addr) (hold : Hold) → taken_by core tx addr ≡ Some hold
      → IsHomeOn core.log.blocks addr.block
  taken_home addr hold taken =
      let at = taken_at addr hold taken in
      subst (λ (a : Addr). IsHomeOn core.log.blocks a.block) at.1
      (All-contains (IsOfOne core) core.holds hold well_formed.owned at.0).1

  -- what it read and holds alone, and what it has claimed, it holds for writing
  module _ (objects : List ObjectBytes) (read : All (IsReadBy core tx) objects) where
    is_written_so : (mode : Mode) (reads claims : Bool) → mode ≡ modes.Exclusive → reads ≡ true
        → (is_exclusive mode && (reads || claims)) ≡ true
    is_written_so mode reads claims at by = ap (λ m. is_exclusive m && (reads || claims)) at
        ∙ ap (λ b. b || claims) by

    by_read : (object : ObjectBytes) → IsAmongRead objects object → IsTakenExclusive core tx object.addr
        → is_written (taken_by core tx object.addr) ≡ true
    by_read object before hold_exclusive = from (taken_by core tx object.addr) refl
        (subst (λ (a : Addr). is_read (hold_of core.holds tx a) ≡ true) before.2
        (All-contains (IsReadBy core tx) objects before.0 read before.1).held)
      where
        from : (found : Option Hold) → taken_by core tx object.addr ≡ found → is_read found ≡ true
            → is_written found ≡ true
        from None is none = absurd (true≢false (sym none))
        from (Some hold) is reads =
            is_written_so hold.mode hold.is_read hold.is_claimed (hold_exclusive hold is) reads

    pub held_by : (object : ObjectBytes) → IsOwnObject core tx objects object
        → is_written (taken_by core tx object.addr) ≡ true
    held_by object (inl both) = by_read object both.0 both.1
    held_by object (inr claimed) = claimed.0 object.addr claimed.1

  -- Its change is its own: it was planned for this core and by what the transaction holds, and writes only
  -- what it read and holds alone and what it has claimed, while no fetch is pending of what it writes.
  module _ (out : IsOut core tx) (plan : Planned) (blocks : plan.blocks ≡ core.log.blocks) (inodes : plan.inodes ≡ core.inodes)
      (read : All (IsReadBy core tx) plan.read)
      (written : (object : ObjectBytes) → Contains plan.written object
      → IsOwnObject core tx plan.read object)
      (loaded : (object : ObjectBytes) → Contains plan.written object
      → is_fetching core object.addr.block ≡ false) where
    held : (object : ObjectBytes) → Contains plan.written object → is_written (taken_by core tx object.addr) ≡ true
    held object there = held_by plan.read read object (written object there)

    written_by : (object : ObjectBytes) → Contains plan.written object → IsWrittenBy core tx object.addr
    written_by object there = record {
      held = held object there;
      loaded = loaded object there;
    }

    home_of : (object : ObjectBytes) → Contains plan.written object → IsHomeOn core.log.blocks object.addr.block
    home_of object there = by (taken_by core tx object.addr) refl (held object there)
      where
        by : (found : Option Hold) → taken_by core tx object.addr ≡ found → is_written found ≡ true
            → IsHomeOn core.log.blocks object.addr.block
        by None is none = absurd (true≢false (sym none))
        by (Some hold) is held = taken_home object.addr hold is

    pub is_own : IsOwn core tx plan
    is_own = record {
      out = out;
      blocks = blocks;
      inodes = inodes;
      read = read;
      written = λ k d lt. written_by (get_or plan.written k d) (All-contains_itself plan.written k d lt);
      homes = blocks_all (IsHomeOn core.log.blocks) [] plan.written
          (All-nil (IsHomeOn core.log.blocks)) home_of;
    }

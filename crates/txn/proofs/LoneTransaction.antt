-- A transaction that is out alone is kept off by nobody but itself.
use Rattle.std.proofs.Common.{◌≡◌, ◌∙◌, refl, sym, ap, subst, true≢false, ℕ, ◌⊎◌, inl, inr, Bool, true, false}
use Rattle.std.proofs.Common.{◌||◌, nat_eq, Option, Some, None, List, [], ◌∷◌, get_or}
use Rattle.std.specs.Prelude.{Contains}
use Rattle.std.specs.List.{list_any}
use Rattle.std.proofs.lemmas.Bool.{eqb-true}
use Rattle.std.proofs.lemmas.List.Elements.{All-contains, All-contains_itself}
use Rattle.disk.specs.declared.block.BlockNo.{BlockNo}
use Rattle.objects.specs.Addr.{Overlap}
use Rattle.objects.specs.declared.addr.Addr.{Addr}
use Rattle.objects.specs.declared.mode.Mode.{Mode}
use Rattle.objects.specs.declared.mode.Mode.TheVariants as modes
use Rattle.txn_law.specs.Core.{CoreState}
use Rattle.txn_law.specs.Holds.{IsHoldOf, is_hold_of, is_written}
use Rattle.txn_law.specs.Leaves.{is_fetching, taken_by}
use Rattle.txn_law.specs.WellFormed.{AreCompatible, IsWellFormed, IsOfOne}
use Rattle.txn_law.specs.LockAnswers.{IsBusy, IsLoading, IsWhole}
use Rattle.txn_law.specs.declared.hold.Hold.{Hold}
use Rattle.txn_law.proofs.Again as again
use Rattle.txn_law.proofs.Others.{found_some}
use Rattle.txn_law.proofs.TakenBy.{is_hold_by}
use Rattle.txn.specs.Claimed.{IsClaimedBy}
use Rattle.txn.proofs.OwnChange.{taken_at}

module _ (core : CoreState) (tx : ℕ) (well_formed : IsWellFormed core) (only_one_out : core.out ≡ tx ∷ []) where
  -- whatever is taken is its own
  mine : (x : Hold) → Contains core.holds x → x.transaction ≡ tx
  mine x there = sym (eqb-true tx x.transaction (first (nat_eq tx x.transaction)
      (sym (ap (λ (out : List ℕ). list_any (λ other. nat_eq other x.transaction) out) only_one_out)
      ∙ (All-contains (IsOfOne core) core.holds x well_formed.owned there).0)))
    where
      first : (b : Bool) → (b || false) ≡ true → b ≡ true
      first true is = refl
      first false is = is

  taken_there : (x : Hold) → Contains core.holds x → (hold : Hold) × (taken_by core tx x.addr ≡ Some hold)
  taken_there x there = found_some (is_hold_of tx x.addr) core.holds x there
      (is_hold_by tx x.addr x (mine x there) refl refl refl)

  pub never_busy : (addr : Addr) (mode : Mode)
      → ((other : Addr) (hold : Hold) → taken_by core tx other ≡ Some hold → Overlap other addr → other ≡ addr)
      → IsBusy core tx addr mode → ⊥
  never_busy addr mode apart busy = busy.1 (record {
    others = λ k d lt over off. each (get_or core.holds k d) (All-contains_itself core.holds k d lt) over;
  })
    where
      each : (x : Hold) → Contains core.holds x → Overlap x.addr addr → IsHoldOf tx addr x
      each x there over =
          let found = taken_there x there in (mine x there, apart x.addr found.0 found.1 over)

  -- what it has claimed it may claim again, as it has taken no other part of it
  pub claimed_again : (block : BlockNo) (addr : Addr) → IsClaimedBy core tx block → IsWhole block addr
      → IsBusy core tx addr modes.Exclusive → ⊥
  claimed_again block addr claims whole = by (taken_by core tx addr) refl (claims addr whole)
    where
      by : (found : Option Hold) → taken_by core tx addr ≡ found → is_written found ≡ true
          → IsBusy core tx addr modes.Exclusive → ⊥
      by None is none busy = true≢false (sym none)
      by (Some hold) is held busy = never_busy addr modes.Exclusive one busy
        where
          one : (other : Addr) (more : Hold) → taken_by core tx other ≡ Some more → Overlap other addr
              → other ≡ addr
          one other more taken over =
              let a = taken_at core tx well_formed addr hold is in
              let b = taken_at core tx well_formed other more taken in
              go a b (again.one_or_apart core.holds more hold well_formed.apart b.0 a.0)
            where
              go : Contains core.holds hold × (hold.addr ≡ addr) → Contains core.holds more × (more.addr ≡ other)
                  → (more ≡ hold) ⊎ AreCompatible more hold → other ≡ addr
              go a b (inl same) = sym b.1 ∙ ap (λ (h : Hold). h.addr) same ∙ a.1
              go a b (inr apart) = absurd (apart (subst (λ (at : Addr). Overlap more.addr at) (sym a.1)
                  (subst (λ (at : Addr). Overlap at addr) (sym b.1) over))
                  (inl (mine more b.0 ∙ sym (mine hold a.0))))

pub never_loading : (core : CoreState) (tx : ℕ) (addr : Addr) (mode : Mode)
    → is_fetching core addr.block ≡ false
    → IsLoading core tx addr mode → ⊥
never_loading core tx addr mode none loading = true≢false (sym loading.2 ∙ none)

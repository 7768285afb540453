-- Lemma: a transaction that has taken an address may ask for it again.
use Rattle.std.proofs.Common.{◌≡◌, ℕ, false, nat_eq, ◌⊎◌, inl, inr, List, [], ◌∷◌, Some, sym, ap, subst, ◌∙◌}
use Rattle.std.proofs.Common.{arith}
use Rattle.std.proofs.Common.{get_or, true, ◌+◌, ◌<◌, ◌≤◌}
use Rattle.std.proofs.Math.Bridge.{le_prop}
use Rattle.base.specs.declared.TheConstants.{BLOCK_BYTES}
use Rattle.std.specs.Prelude.{Contains}
use Rattle.std.proofs.lemmas.Bool.{eqb-true}
use Rattle.std.proofs.lemmas.List.Elements.{All-contains, All-contains_itself}
use Rattle.objects.specs.Addr.{Overlap}
use Rattle.objects.specs.Mode.{Excludes, upgraded}
use Rattle.objects.specs.declared.addr.Addr.{Addr}
use Rattle.objects.specs.declared.mode.Mode.{Mode}
use Rattle.objects.specs.declared.mode.Mode.TheVariants as modes
use Rattle.circ.specs.Log.Log.{IsHomeOn}
use Rattle.txn_law.specs.Core.{CoreState, IsOut}
use Rattle.txn_law.specs.Holds.{IsHoldOf, ConflictsWith, is_hold_of}
use Rattle.txn_law.specs.Leaves.{taken_by, is_fetching}
use Rattle.txn_law.specs.WellFormed.{AreCompatible, AreApart, IsOfOne, IsWellFormed}
use Rattle.txn_law.specs.LockAnswers.{IsOpen}
use Rattle.txn_law.specs.declared.hold.Hold.{Hold}
use Rattle.txn_law.proofs.Claims.{found_by, all_four}
use Rattle.txn_law.proofs.Swept.{in_cons}

-- addresses of the same numbers are one
abbrev addr_of : (block offset len : ℕ) → 0 < len → offset + len ≤ BLOCK_BYTES → Addr
addr_of block offset len some within = record {
  block = record { 0 = block };
  offset = offset;
  len = len;
  some = some;
  within = within;
}

pub same_addr : (a b : Addr) → a.block.0 ≡ b.block.0 → a.offset ≡ b.offset → a.len ≡ b.len → a ≡ b
same_addr a b block offset len =
    subst (λ (n : ℕ). a ≡ addr_of n b.offset b.len b.some b.within) block
    (subst (λ (n : ℕ). (within : n + b.len ≤ BLOCK_BYTES) → a ≡ addr_of a.block.0 n b.len b.some within) offset
    (subst (λ (n : ℕ). (some : 0 < n) (within : a.offset + n ≤ BLOCK_BYTES)
    → a ≡ addr_of a.block.0 a.offset n some within) len
    (λ some within. λ i. addr_of a.block.0 a.offset a.len (le_prop a.some some i)
    (le_prop a.within within i)) b.some) b.within)

overlap_back : (a b : Addr) → Overlap a b → Overlap b a
overlap_back a b (same, less, more) = (sym same, more, less)

-- what keeps off is kept off
compatible_back : (x y : Hold) → AreCompatible x y → AreCompatible y x
compatible_back x y apart over off = apart (overlap_back y.addr x.addr over) (back off)
  where
    other : Excludes y.mode x.mode → Excludes x.mode y.mode
    other (inl exclusive_hold) = inr exclusive_hold
    other (inr exclusive_hold) = inl exclusive_hold

    back : ConflictsWith x.transaction x.mode y → ConflictsWith y.transaction y.mode x
    back (inl same) = inl (sym same)
    back (inr excludes) = inr (other excludes)

-- two holds are one, or lie beside each other
pub one_or_apart : (holds : List Hold) (x y : Hold) → AreApart holds → Contains holds x → Contains holds y
    → (x ≡ y) ⊎ AreCompatible x y
one_or_apart [] x y apart (k, lt, e) there = absurd (omega (arith, lt))
one_or_apart (h ∷ hs) x y apart one other =
    go (one_or_apart hs x y apart.1) (in_cons h x hs one) (in_cons h y hs other)
  where
    go : (Contains hs x → Contains hs y → (x ≡ y) ⊎ AreCompatible x y)
        → (h ≡ x) ⊎ Contains hs x → (h ≡ y) ⊎ Contains hs y → (x ≡ y) ⊎ AreCompatible x y
    go rest (inl is) (inl also) = inl (sym is ∙ also)
    go rest (inl is) (inr later) =
        inr (subst (λ (z : Hold). AreCompatible z y) is (All-contains (AreCompatible h) hs y apart.0 later))
    go rest (inr later) (inl is) =
        inr (subst (λ (z : Hold). AreCompatible x z) is (compatible_back h x (All-contains (AreCompatible h) hs x apart.0
        later)))
    go rest (inr one) (inr other) = rest one other

-- what keeps off a lock request keeps off a stronger one
weaker : (strong weak : Mode) → upgraded strong weak ≡ strong → (other : Mode) → Excludes other weak
    → Excludes other strong
weaker strong modes.Exclusive e other excludes = inr (sym e)
weaker strong modes.Shared e other (inl exclusive_hold) = inl exclusive_hold
weaker strong modes.Shared e other (inr exclusive_hold) = absurd (cc)

pub open_again : (core : CoreState) (tx : ℕ) (addr : Addr) (hold : Hold) (mode : Mode) → IsWellFormed core
    → taken_by core tx addr ≡ Some hold → upgraded hold.mode mode ≡ hold.mode
    → is_fetching core addr.block ≡ false → IsOpen core tx addr mode
open_again core tx addr hold mode well_formed taken no_more loaded = record {
  inside = record {
    out = subst (IsOut core) by own.0;
    home = subst (λ (a : Addr). IsHomeOn core.log.blocks a.block) at own.1;
  };
  free = record {
    others = λ k d lt over off. each (get_or core.holds k d) (All-contains_itself core.holds k d lt) over off;
  };
  settled = loaded;
}
  where
    there : Contains core.holds hold
    there = (found_by (is_hold_of tx addr) core.holds hold taken).1

    four : (nat_eq hold.transaction tx ≡ true) × (nat_eq hold.addr.block.0 addr.block.0 ≡ true)
        × (nat_eq hold.addr.offset addr.offset ≡ true) × (nat_eq hold.addr.len addr.len ≡ true)
    four = all_four (nat_eq hold.transaction tx) (nat_eq hold.addr.block.0 addr.block.0)
        (nat_eq hold.addr.offset addr.offset) (nat_eq hold.addr.len addr.len)
        (found_by (is_hold_of tx addr) core.holds hold taken).0

    at : hold.addr ≡ addr
    at = same_addr hold.addr addr (eqb-true hold.addr.block.0 addr.block.0 four.1)
        (eqb-true hold.addr.offset addr.offset four.2) (eqb-true hold.addr.len addr.len four.3)

    by : hold.transaction ≡ tx
    by = eqb-true hold.transaction tx four.0

    own : IsOfOne core hold
    own = All-contains (IsOfOne core) core.holds hold well_formed.owned there

    off_too : (x : Hold) → ConflictsWith tx mode x → ConflictsWith hold.transaction hold.mode x
    off_too x (inl same) = inl (same ∙ sym by)
    off_too x (inr excludes) = inr (weaker hold.mode mode no_more x.mode excludes)

    each : (x : Hold) → Contains core.holds x → Overlap x.addr addr → ConflictsWith tx mode x → IsHoldOf tx addr x
    each x inside over off = go (one_or_apart core.holds x hold well_formed.apart inside there)
      where
        go : (x ≡ hold) ⊎ AreCompatible x hold → IsHoldOf tx addr x
        go (inl same) = (
          ap (λ (h : Hold). h.transaction) same ∙ by,
          ap (λ (h : Hold). h.addr) same ∙ at,
        )
        go (inr apart) = absurd (apart (subst (λ (a : Addr). Overlap x.addr a) (sym at) over)
            (off_too x off))

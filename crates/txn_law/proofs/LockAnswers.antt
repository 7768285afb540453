-- Lemmas: what a transaction takes keeps the window of the core.
use Rattle.std.proofs.Common.{◌≡◌, ℕ, inl, inr, Bool, true, false, if◌then◌else◌, List, [], ◌∷◌, ◌++◌, All}
use Rattle.std.proofs.Common.{Option, Some, None, refl, sym, ap, subst, ◌∙◌, arith}
use Rattle.std.specs.Prelude.{Contains}
use Rattle.std.specs.Option.{is_some}
use Rattle.std.proofs.lemmas.List.Elements.{All-nil, All-cons, All-append, All-weaker, All-contains}
use Rattle.disk.specs.Device.{Content}
use Rattle.disk.specs.Crash.{Image}
use Rattle.disk.specs.declared.block.BlockNo.{BlockNo}
use Rattle.objects.specs.declared.addr.Addr.{Addr}
use Rattle.objects.specs.declared.mode.Mode.{Mode}
use Rattle.circ.specs.Log.Log.{newest, or_else}
use Rattle.circ.specs.Log.Overlay.{content_or}
use Rattle.txn_law.specs.Lists.{IsHeldExactly, IsFetchedExactly, claimed}
use Rattle.objects.specs.Present.{with_block}
use Rattle.txn_law.specs.LockAnswers.{current}
use Rattle.txn_law.specs.Core.{CoreState, ended}
use Rattle.txn_law.specs.Fetch.{Fetch}
use Rattle.txn_law.specs.Holds.{released}
use Rattle.objects.specs.Present.{present_of, content_in}
use Rattle.objects.specs.declared.present.Present.{Present}
use Rattle.txn_law.specs.CoreWindow.{with_resident, held_of, IsCoreWindow}
use Rattle.txn_law.specs.Window.{now_of, IsPinned, ArePinned, IsCurrent, IsWindowOver}
use Rattle.txn_law.proofs.CoreCommits.{found_in}
use Rattle.txn_law.proofs.Moves.{other_memory, tail_is_now}
use Rattle.txn_law.proofs.Swept.{in_cons, in_more, in_first, window_swept}

held_of-push : (present : List Present) (resident : Present) → held_of (present ++ resident ∷ []) ≡ held_of present
    ++ with_resident resident.block resident.content []
held_of-push [] resident = refl
held_of-push (x ∷ xs) resident = go x.content (held_of-push xs resident)
  where
    go : (content : Option Content)
        → held_of (xs ++ resident ∷ []) ≡ held_of xs ++ with_resident resident.block resident.content []
        → with_resident x.block content (held_of (xs ++ resident ∷ [])) ≡ with_resident x.block content (held_of xs)
        ++ with_resident resident.block resident.content []
    go None rest = rest
    go (Some content) rest = ap (λ ys. (x.block.0, content) ∷ ys) rest

in_left : {X : Type 0} (xs ys : List X) (y : X) → Contains xs y → Contains (xs ++ ys) y
in_left [] ys y (k, lt, e) = absurd (omega (arith, lt))
in_left (x ∷ xs) ys y h = elim (in_cons x y xs h) as (λ _. Contains (x ∷ xs ++ ys) y) [
  | inl same ↦ in_first x y (xs ++ ys) same
  | inr later ↦ in_more x y (xs ++ ys) (in_left xs ys y later)
]

-- one block more in memory, that is current
with_more : (base : Image) (core : CoreState) (block : BlockNo) (content : Option Content)
    → All (IsCurrent (now_of base core.log core.records)) (with_resident block content [])
    → IsCoreWindow base core
    → IsWindowOver base core.log core.records (held_of (with_block core.present block content))
with_more base core block content more h = go (is_some (present_of core.present block))
  where
    go : (t : Bool)
        → IsWindowOver base core.log core.records
        (held_of (if t then core.present else core.present ++ record { block = block; content = content }
        ∷ []))
    go true = h
    go false =
        subst (λ held. IsWindowOver base core.log core.records held)
        (sym (held_of-push core.present (record { block = block; content = content })))
        (other_memory base core.log core.records (held_of core.present) (held_of core.present
        ++ with_resident block content [])
        (All-append (IsCurrent (now_of base core.log core.records)) (held_of core.present)
        (with_resident block content []) h.memory more)
        (All-weaker (ArePinned (held_of core.present))
        (ArePinned (held_of core.present ++ with_resident block content []))
        (λ commit pins. All-weaker (IsPinned (held_of core.present))
        (IsPinned (held_of core.present ++ with_resident block content []))
        (λ object pin. (
          pin.0,
          in_left (held_of core.present) (with_resident block content []) (object.addr.block.0, pin.0) pin.1,
        ))
        commit.read pins) core.records h.pinned) h)

-- the core's current content of a block is the current one
pub current_is_now : (base : Image) (core : CoreState) (block : BlockNo) (content : Content)
    → IsCoreWindow base core → current core block ≡ Some content
    → content ≡ now_of base core.log core.records block.0
current_is_now base core block content h e = go (content_in (present_of core.present block)) refl e
  where
    go : (here : Option Content) → content_in (present_of core.present block) ≡ here
        → or_else here (newest core.log block.0) ≡ Some content
        → content ≡ now_of base core.log core.records block.0
    go (Some c) is e =
        let there : content_in (present_of core.present block) ≡ Some content = is ∙ e in
        All-contains (IsCurrent (now_of base core.log core.records)) (held_of core.present) (block.0, content)
        h.memory (found_in core.present block content there)
    go None is e = sym (ap (λ o. content_or o (base block.0)) e)
        ∙ tail_is_now base core.log core.records (held_of core.present) block.0 h

pub core_held : (base : Image) (old new : CoreState) (tx : ℕ) (addr : Addr) (mode : Mode) (bytes : List ℕ)
    → IsHeldExactly old tx addr mode bytes new → IsCoreWindow base old → IsCoreWindow base new
core_held base old new tx addr mode bytes held h =
    subst (λ (core : CoreState). IsCoreWindow base core) (sym held.core)
    (with_more base old addr.block (Some held.content)
    (All-cons (IsCurrent (now_of base old.log old.records)) (addr.block.0, held.content) []
    (current_is_now base old addr.block held.content h held.current)
    (All-nil (IsCurrent (now_of base old.log old.records)))) h)

pub core_fetch : (base : Image) (old new : CoreState) (tx : ℕ) (addr : Addr) (mode : Mode) (io : Fetch)
    → IsFetchedExactly old tx addr mode io new → IsCoreWindow base old → IsCoreWindow base new
core_fetch base old new tx addr mode io fetch h =
    subst (λ (core : CoreState). IsCoreWindow base core) (sym fetch.core)
    (with_more base old addr.block None (All-nil (IsCurrent (now_of base old.log old.records))) h)

pub core_claim : (base : Image) (old : CoreState) (tx : ℕ) (addr : Addr) → IsCoreWindow base old
    → IsCoreWindow base (claimed old tx addr)
core_claim base old tx addr h = h

pub core_end : (spare : Present → Bool) (base : Image) (old : CoreState) (tx : ℕ) → IsCoreWindow base old
    → IsCoreWindow base (ended spare old tx)
core_end spare base old tx h = window_swept spare base old.log old.records (released old.holds tx) old.present h

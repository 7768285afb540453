-- Lemmas: what the core lets go of memory.
use Rattle.std.proofs.Common.{◌≡◌, ℕ, zero, suc, ◌⊎◌, inl, inr, Bool, true, false, cond, ◌||◌, nat_eq, List}
use Rattle.std.proofs.Common.{[], ◌∷◌, All, Option, Some, None, is_none, refl, sym, ap, ◌∙◌, arith}
use Rattle.std.specs.Prelude.{Contains}
use Rattle.std.specs.List.{filter, list_any}
use Rattle.std.proofs.lemmas.Bool.{eq-eqb}
use Rattle.std.proofs.lemmas.List.Elements.{All-nil, All-cons, All-head, All-tail}
use Rattle.disk.specs.Device.{Content}
use Rattle.disk.specs.Crash.{Image}
use Rattle.disk.specs.declared.block.BlockNo.{BlockNo}
use Rattle.circ.specs.Log.Calls.{home_after}
use Rattle.circ.specs.Log.Installer.{with_inst_back}
use Rattle.circ.specs.Log.Log.{Log, IsLawful, installed_place}
use Rattle.txn_law.specs.Core.{CoreState, past, installed}
use Rattle.txn_law.specs.Holds.{is_taken}
use Rattle.objects.specs.Object.{ObjectBytes}
use Rattle.txn_law.specs.Records.{lies_in, is_read_by_uninstalled, is_left, swept}
use Rattle.txn_law.specs.Window.{Footprint}
use Rattle.txn_law.specs.declared.hold.Hold.{Hold}
use Rattle.objects.specs.declared.present.Present.{Present}
use Rattle.txn_law.specs.CoreWindow.{with_resident, held_of, IsCoreWindow}
use Rattle.txn_law.specs.Window.{now_of, IsPinned, ArePinned, IsCurrent, IsWindowOver}
use Rattle.txn_law.proofs.Installed.{window_inst_back}
use Rattle.txn_law.proofs.Moves.{other_memory}

pub or-true : (a : Bool) → (a || true) ≡ true
or-true true = refl
or-true false = refl

-- what holds of all blocks in memory holds of those that stay
module _ (P : ℕ × Content → Type 0) (test : Present → Bool) where
  pub all_with_resident : (block : BlockNo) (content : Option Content) (xs ys : List (ℕ × Content))
      → (All P xs → All P ys) → All P (with_resident block content xs) → All P (with_resident block content ys)
  all_with_resident block (Some content) xs ys rest h =
      All-cons P (block.0, content) ys (All-head P (block.0, content) xs h)
      (rest (All-tail P (block.0, content) xs h))
  all_with_resident block None xs ys rest h = rest h

  all_behind : (block : BlockNo) (content : Option Content) (xs : List (ℕ × Content))
      → All P (with_resident block content xs) → All P xs
  all_behind block (Some content) xs h = All-tail P (block.0, content) xs h
  all_behind block None xs h = h

  all_preserved : (present : List Present) → All P (held_of present) → All P (held_of (filter test present))
  all_preserved [] h = h
  all_preserved (resident ∷ later) h = go (all_preserved later) (test resident)
    where
      go : (All P (held_of later) → All P (held_of (filter test later))) → (t : Bool)
          → All P (held_of (cond t (resident ∷ filter test later) (filter test later)))
      go rest true = all_with_resident resident.block resident.content (held_of later) (held_of (filter test later)) rest h
      go rest false = rest (all_behind resident.block resident.content (held_of later) h)

pub in_cons : {X : Type 0} (x y : X) (xs : List X) → Contains (x ∷ xs) y → (x ≡ y) ⊎ Contains xs y
in_cons x y xs (zero, lt, e) = inl e
in_cons x y xs (suc k, lt, e) = inr (k, omega (arith, lt), e)

pub in_more : {X : Type 0} (x y : X) (xs : List X) → Contains xs y → Contains (x ∷ xs) y
in_more x y xs (k, lt, e) = (suc k, omega (arith, lt), e)

pub in_first : {X : Type 0} (x y : X) (xs : List X) → x ≡ y → Contains (x ∷ xs) y
in_first x y xs e = (zero, omega arith, e)

-- a block that passes the test stays
module _ (block : ℕ) (content : Content) (test : Present → Bool) where
  pub in_with_resident : (at : BlockNo) (there : Option Content) (xs ys : List (ℕ × Content))
      → (Contains xs (block, content) → Contains ys (block, content))
      → Contains (with_resident at there xs) (block, content)
      → Contains (with_resident at there ys) (block, content)
  in_with_resident at (Some there) xs ys rest h =
      elim (in_cons (at.0, there) (block, content) xs h) as (λ _. Contains ((at.0, there) ∷ ys) (
        block,
        content,
      )) [
        | inl same ↦ in_first (at.0, there) (block, content) ys same
        | inr later ↦ in_more (at.0, there) (block, content) ys (rest later)
      ]
  in_with_resident at None xs ys rest h = rest h

  in_behind : (at : BlockNo) (there : Option Content) (xs : List (ℕ × Content)) → (at.0 ≡ block → ⊥)
      → Contains (with_resident at there xs) (block, content) → Contains xs (block, content)
  in_behind at (Some there) xs differs h =
      elim (in_cons (at.0, there) (block, content) xs h) as (λ _. Contains xs (block, content)) [
        | inl same ↦ absurd (differs (ap (λ (p : ℕ × Content). p.0) same))
        | inr later ↦ later
      ]
  in_behind at None xs differs h = h

  in_retained : (present : List Present) → ((resident : Present) → resident.block.0 ≡ block → test resident ≡ true)
      → Contains (held_of present) (block, content)
      → Contains (held_of (filter test present)) (block, content)
  in_retained [] passes h = h
  in_retained (resident ∷ later) passes h = go (in_retained later passes) (test resident) refl
    where
      go : (Contains (held_of later) (block, content)
          → Contains (held_of (filter test later)) (block, content)) → (t : Bool) → test resident ≡ t
          → Contains (held_of (cond t (resident ∷ filter test later) (filter test later))) (block, content)
      go rest true e =
          in_with_resident resident.block resident.content (held_of later) (held_of (filter test later)) rest h
      go rest false e =
          rest (in_behind resident.block resident.content (held_of later)
          (λ same. absurd (let no : true ≡ false = sym (passes resident same) ∙ e in cc)) h)

module _ (spare : Present → Bool) (holds : List Hold) (kept : List Footprint) (present : List Present) where
  pinned_one : (object : ObjectBytes) → is_read_by_uninstalled kept object.addr.block ≡ true
      → IsPinned (held_of present) object → IsPinned (held_of (swept spare holds kept present)) object
  pinned_one object read (content, there) = (
    content,
    in_retained object.addr.block.0 content (is_left spare holds kept) present passes there,
  )
    where
      passes : (resident : Present) → resident.block.0 ≡ object.addr.block.0
          → is_left spare holds kept resident ≡ true
      passes resident same =
          let here : is_read_by_uninstalled kept resident.block ≡ true =
          ap (λ (n : ℕ). list_any
          (λ (commit : Footprint). list_any (λ (o : ObjectBytes). nat_eq o.addr.block.0 n) commit.read)
          kept) same ∙ read in
          ap (λ t. spare resident || (is_none resident.content || is_taken holds resident.block || t)) here
          ∙ ap (λ t. spare resident || t) (or-true (is_none resident.content || is_taken holds resident.block))
          ∙ or-true (spare resident)

  pinned_objects : (objects : List ObjectBytes)
      → ((block : BlockNo) → lies_in objects block ≡ true → is_read_by_uninstalled kept block ≡ true)
      → All (IsPinned (held_of present)) objects
      → All (IsPinned (held_of (swept spare holds kept present))) objects
  pinned_objects [] within h = All-nil (IsPinned (held_of (swept spare holds kept present)))
  pinned_objects (o ∷ os) within h = All-cons (IsPinned (held_of (swept spare holds kept present))) o os
      (pinned_one o (within o.addr.block
      (ap (λ t. t || lies_in os o.addr.block) (eq-eqb o.addr.block.0 o.addr.block.0 refl)))
      (All-head (IsPinned (held_of present)) o os h))
      (pinned_objects os (λ block e. within block (ap (λ t. nat_eq o.addr.block.0 block.0 || t) e
      ∙ or-true (nat_eq o.addr.block.0 block.0))) (All-tail (IsPinned (held_of present)) o os h))

  pinned_commits : (commits : List Footprint)
      → ((block : BlockNo) → is_read_by_uninstalled commits block ≡ true → is_read_by_uninstalled kept block ≡ true)
      → All (ArePinned (held_of present)) commits
      → All (ArePinned (held_of (swept spare holds kept present))) commits
  pinned_commits [] within h = All-nil (ArePinned (held_of (swept spare holds kept present)))
  pinned_commits (c ∷ cs) within h = All-cons (ArePinned (held_of (swept spare holds kept present))) c cs
      (pinned_objects c.read (λ block e. within block (ap (λ t. t || is_read_by_uninstalled cs block) e))
      (All-head (ArePinned (held_of present)) c cs h))
      (pinned_commits cs (λ block e. within block (ap (λ t. lies_in c.read block || t) e
      ∙ or-true (lies_in c.read block))) (All-tail (ArePinned (held_of present)) c cs h))

pub window_swept : (spare : Present → Bool) (base : Image) (log : Log) (commits : List Footprint) (holds : List Hold)
    (present : List Present) → IsWindowOver base log commits (held_of present)
    → IsWindowOver base log commits (held_of (swept spare holds commits present))
window_swept spare base log commits holds present h =
    other_memory base log commits (held_of present) (held_of (swept spare holds commits present))
    (all_preserved (IsCurrent (now_of base log commits)) (is_left spare holds commits) present h.memory)
    (pinned_commits spare holds commits present commits (λ block e. e) h.pinned) h

pub core_installed : (spare : Present → Bool) (base : Image) (core : CoreState) (ok : Bool) → IsLawful core.log
    → IsCoreWindow base core
    → IsCoreWindow (home_after base core.log ok) (installed spare core (with_inst_back core.log ok))
core_installed spare base core ok lawful h =
    let new : Log = with_inst_back core.log ok in
    window_swept spare (home_after base core.log ok) new (past (installed_place new) core.records) core.holds
    core.present
    (window_inst_back base core.log core.records (held_of core.present) ok lawful h)

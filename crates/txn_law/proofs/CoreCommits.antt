-- Lemmas: a commit keeps the window of the core.
use Rattle.std.proofs.Common.{◌≡◌, ℕ, ◌⊎◌, inl, inr, Bool, true, false, cond, nat_eq, nat_lt, if◌then◌else◌}
use Rattle.std.proofs.Common.{List, [], ◌∷◌, ◌++◌, length, replicate, All, Option, Some, None, refl, sym, ap}
use Rattle.std.proofs.Common.{subst, ◌∙◌, arith}
use Rattle.std.specs.Prelude.{Contains}
use Rattle.std.specs.List.{AllByRecursion}
use Rattle.std.proofs.lemmas.Bool.{eqb-true}
use Rattle.std.proofs.lemmas.List.Elements.{All-nil, All-cons, All-head, All-tail, All-push, All-weaker}
use Rattle.std.proofs.lemmas.List.Elements.{All-contains, recursion_from_All}
use Rattle.base.specs.declared.TheConstants.{BLOCK_BYTES}
use Rattle.disk.specs.Device.{Content}
use Rattle.disk.specs.Crash.{Image}
use Rattle.disk.specs.declared.block.BlockNo.{BlockNo}
use Rattle.circ.specs.Log.Log.{Log, IsLawful, newest, or_else, installed_place}
use Rattle.circ.specs.Log.Overlay.{content_or}
use Rattle.circ.specs.Log.Effects.{newest_in}
use Rattle.txn_law.specs.Commit.{Planned, IsReadBy}
use Rattle.txn_law.specs.Core.{CoreState}
use Rattle.txn_law.specs.Group.{base_in}
use Rattle.txn_law.specs.Holds.{released}
use Rattle.objects.specs.Present.{present_of, content_in}
use Rattle.txn_law.specs.Records.{lies_in}
use Rattle.txn_law.specs.Window.{Footprint, part, IsAsRead, with_objects}
use Rattle.objects.specs.declared.present.Present.{Present}
use Rattle.txn_law.specs.CoreWindow.{with_resident, held_of, IsCoreWindow}
use Rattle.txn_law.specs.Commit.{refreshed_content, refreshed, committed, IsCommitted}
use Rattle.txn_law.specs.Steps.{IsBrought, IsWholeIn, IsKnown, with_commit}
use Rattle.txn_law.specs.Window.{now_of, IsPinned, ArePinned, IsCurrent}
use Rattle.txn_law.proofs.Commit.{all_new, preserved_by_commit}
use Rattle.txn_law.proofs.OverlaidContent.{brought}
use Rattle.txn_law.proofs.Moves.{tail_is_now}
use Rattle.txn_law.proofs.Swept.{in_cons, in_more, in_first, window_swept}

-- what the log has of a block in memory is current
module _ (log : Log) (now later : Image) (is : (block : ℕ)
    → content_or (newest log block) (now block) ≡ later block) where
  one_refreshed : (block : BlockNo) (content : Option Content) (xs ys : List (ℕ × Content))
      → (All (IsCurrent now) xs → All (IsCurrent later) ys)
      → All (IsCurrent now) (with_resident block content xs)
      → All (IsCurrent later) (with_resident block (refreshed_content content (newest log block.0)) ys)
  one_refreshed block None xs ys rest h = rest h
  one_refreshed block (Some content) xs ys rest h =
      All-cons (IsCurrent later) (block.0, content_or (newest log block.0) content) ys
      (ap (λ c. content_or (newest log block.0) c) (All-head (IsCurrent now) (block.0, content) xs h)
      ∙ is block.0)
      (rest (All-tail (IsCurrent now) (block.0, content) xs h))

  all_refreshed : (present : List Present) → All (IsCurrent now) (held_of present)
      → All (IsCurrent later) (held_of (refreshed log present))
  all_refreshed [] h = All-nil (IsCurrent later)
  all_refreshed (resident ∷ later_ones) h =
      one_refreshed resident.block resident.content (held_of later_ones) (held_of (refreshed log later_ones))
      (all_refreshed later_ones) h

-- a block in memory stays there
module _ (log : Log) (block : ℕ) (content : Content) where
  one_there : (at : BlockNo) (there : Option Content) (xs ys : List (ℕ × Content))
      → (Contains xs (block, content) → (c : Content) × Contains ys (block, c))
      → Contains (with_resident at there xs) (block, content)
      → (c : Content) × Contains (with_resident at (refreshed_content there (newest log at.0)) ys) (block, c)
  one_there at None xs ys rest h = rest h
  one_there at (Some there) xs ys rest h = go (in_cons (at.0, there) (block, content) xs h)
    where
      go : (◌≡◌ {A = ℕ × Content} (at.0, there) (block, content)) ⊎ Contains xs (block, content)
          → (c : Content) × Contains ((at.0, content_or (newest log at.0) there) ∷ ys) (block, c)
      go (inl same) = (
        content_or (newest log at.0) there,
        in_first (at.0, content_or (newest log at.0) there) (block, content_or (newest log at.0) there) ys
            (ap (λ (p : ℕ × Content). (p.0, content_or (newest log at.0) there)) same),
      )
      go (inr later) = let (c, found) = rest later in
          (c, in_more (at.0, content_or (newest log at.0) there) (block, c) ys found)

  still_there : (present : List Present) → Contains (held_of present) (block, content)
      → (c : Content) × Contains (held_of (refreshed log present)) (block, c)
  still_there [] (k, lt, e) = absurd (omega (arith, lt))
  still_there (resident ∷ later) h =
      one_there resident.block resident.content (held_of later) (held_of (refreshed log later)) (still_there later)
      h

-- what the core finds in memory is there
pub found_in : (present : List Present) (block : BlockNo) (content : Content)
    → content_in (present_of present block) ≡ Some content → Contains (held_of present) (block.0, content)
found_in [] block content e = absurd (cc)
found_in (resident ∷ later) block content e =
    go (found_in later block content) (nat_eq resident.block.0 block.0) refl e
  where
    behind : (there : Option Content) → Contains (held_of later) (block.0, content)
        → Contains (with_resident resident.block there (held_of later)) (block.0, content)
    behind None h = h
    behind (Some there) h = in_more (resident.block.0, there) (block.0, content) (held_of later) h

    go : (content_in (present_of later block) ≡ Some content → Contains (held_of later) (block.0, content))
        → (t : Bool) → nat_eq resident.block.0 block.0 ≡ t
        → content_in (cond t (Some resident) (present_of later block)) ≡ Some content
        → Contains (with_resident resident.block resident.content (held_of later)) (block.0, content)
    go rest true same e =
        let at : resident.block.0 ≡ block.0 = eqb-true resident.block.0 block.0 same in
        subst (λ (o : Option Content). Contains (with_resident resident.block o (held_of later)) (block.0, content))
        (sym e)
        (in_first (resident.block.0, content) (block.0, content) (held_of later)
        (ap (λ (n : ℕ). (n, content)) at))
    go rest false same e = behind resident.content (rest e)

first_none : (a b : Option Content) → or_else a b ≡ None → a ≡ None
first_none (Some x) b e = absurd (cc)
first_none None b e = refl

module _ (spare : Present → Bool) (base : Image) (old : CoreState) (tx : ℕ) (plan : Planned)
    (group : List (BlockNo × Content)) (log : Log) (lawful : IsLawful old.log)
    (h : IsCommitted base old tx plan group log) (window : IsCoreWindow base old) where
  abbrev commit : Footprint
  commit = record { place = log.places; read = plan.read; written = plan.written }

  abbrev now : Image
  now = now_of base old.log old.records

  in_memory : (block : BlockNo) (content : Content) → content_in (present_of old.present block) ≡ Some content
      → content ≡ now block.0
  in_memory block content e =
      All-contains (IsCurrent now) (held_of old.present) (block.0, content) window.memory
      (found_in old.present block content e)

  as_read : AllByRecursion (IsAsRead now) plan.read
  as_read = recursion_from_All (IsAsRead now) plan.read (All-weaker (IsReadBy old tx) (IsAsRead now)
      (λ object is. ap (λ c. part c object.addr)
      (sym (in_memory object.addr.block is.current.content is.current.there))
      ∙ is.current.same) plan.read h.read)

  known : (block : BlockNo) → lies_in plan.written block ≡ true
      → IsKnown old.present old.log now plan.written block
  known block lies = go (content_in (present_of old.present block)) refl (newest old.log block.0) refl
    where
      go : (here : Option Content) → content_in (present_of old.present block) ≡ here
          → (logged : Option Content) → newest old.log block.0 ≡ logged
          → (base_in here logged ≡ now block.0)
          ⊎ ((base_in here logged ≡ replicate BLOCK_BYTES 0) × (length (now block.0) ≡ BLOCK_BYTES)
          × All (IsWholeIn block) plan.written)
      go (Some content) e logged f = inl (in_memory block content e)
      go None e (Some content) f =
          inl (sym (ap (λ o. content_or o (base block.0)) f)
          ∙ tail_is_now base old.log old.records (held_of old.present) block.0 window)
      go None e None f = let whole = h.claimed block lies e f in inr (refl, whole.0, whole.1)

  is_brought : IsBrought now commit group
  is_brought = brought old.present old.log now commit group (record {
    read = as_read;
    blocks = h.blocks;
    contents = h.contents;
    known = known;
  })

  fresh : (block : ℕ) → content_or (newest log block) (now block) ≡ with_objects now plan.written block
  fresh block = go (newest log block) refl
    where
      go : (found : Option Content) → newest log block ≡ found
          → content_or found (now block) ≡ with_objects now plan.written block
      go (Some content) e = sym (ap (λ o. content_or o (base block)) e)
          ∙ all_new base old.log log old.records (held_of old.present) [] commit group lawful h.grown refl
          is_brought (All-nil (IsCurrent (with_objects now plan.written))) window block
      go None e =
          let none : newest_in group block ≡ None =
          first_none (newest_in group block) (newest old.log block)
          (sym (h.grown.behind 0 (omega arith) block) ∙ e) in
          sym (ap (λ o. content_or o (now block)) none) ∙ is_brought.overlaid_content block

  abbrev kept : List (ℕ × Content)
  kept = held_of (refreshed log old.present)

  older : All (ArePinned kept) old.records
  older = All-weaker (ArePinned (held_of old.present)) (ArePinned kept)
      (λ x pins. All-weaker (IsPinned (held_of old.present)) (IsPinned kept)
      (λ object pin. still_there log object.addr.block.0 pin.0 old.present pin.1) x.read pins) old.records
      window.pinned

  newer : ArePinned kept commit
  newer = All-weaker (IsReadBy old tx) (IsPinned kept)
      (λ object is. still_there log object.addr.block.0 is.current.content old.present
      (found_in old.present object.addr.block is.current.content is.current.there)) plan.read h.read

  pinned : All (ArePinned kept) (with_commit log commit old.records)
  pinned = elim (nat_lt (installed_place log) log.places) as (λ t. All (ArePinned kept) (if t then old.records
      ++ commit ∷ [] else old.records)) [
        | true ↦ All-push (ArePinned kept) old.records commit older newer
        | false ↦ older
      ]

  pub core_committed : IsCoreWindow base (committed spare old tx plan log)
  core_committed =
      window_swept spare base log (with_commit log commit old.records) (released old.holds tx)
      (refreshed log old.present)
      (preserved_by_commit base old.log log old.records (held_of old.present) kept commit group lawful h.grown refl
      is_brought (all_refreshed log now (with_objects now plan.written) fresh old.present window.memory)
      window pinned)

  -- and sets what was written, and nothing else
  pub core_now : (block : ℕ) → now_of base log (with_commit log commit old.records) block
      ≡ with_objects now plan.written block
  core_now block =
      sym (tail_is_now base log (with_commit log commit old.records)
      (held_of (committed spare old tx plan log).present) block core_committed)
      ∙ all_new base old.log log old.records (held_of old.present) [] commit group lawful h.grown refl
      is_brought (All-nil (IsCurrent (with_objects now plan.written))) window block

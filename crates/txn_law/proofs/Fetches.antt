-- Lemmas: a fetch keeps the window of the core.
use Rattle.std.proofs.Common.{◌≡◌, ℕ, ◌+◌, Bool, true, false, not, cond, ◌&&◌, ◌||◌, nat_eq, if◌then◌else◌}
use Rattle.std.proofs.Common.{List, [], ◌∷◌, take, All, Option, Some, None, refl, sym, ap, subst, ◌∙◌}
use Rattle.std.specs.Prelude.{Contains, nat_le, is_some}
use Rattle.std.specs.List.{filter}
use Rattle.std.proofs.lemmas.Bool.{eqb-true}
use Rattle.std.proofs.lemmas.List.Elements.{All-cons, All-weaker}
use Rattle.objects.specs.Present.{filled_in}
use Rattle.disk.specs.Device.{Content}
use Rattle.disk.specs.Crash.{Image}
use Rattle.disk.specs.declared.block.BlockNo.{BlockNo}
use Rattle.circ.specs.Log.Calls.{home_after}
use Rattle.circ.specs.Log.Law.{with_changes}
use Rattle.circ.specs.Log.Log.{Log, newest}
use Rattle.circ.specs.Log.Overlay.{content_or}
use Rattle.txn_law.specs.Core.{CoreState}
use Rattle.objects.specs.declared.present.Present.{Present}
use Rattle.txn_law.specs.CoreWindow.{with_resident, held_of, IsCoreWindow}
use Rattle.txn_law.specs.Fetched.{fetched, fetch_failed}
use Rattle.objects.specs.Present.{filled}
use Rattle.txn_law.specs.Window.{now_of, IsPinned, ArePinned, IsCurrent, IsWindowOver}
use Rattle.txn_law.proofs.HomeReads.{not_brought}
use Rattle.txn_law.proofs.Moves.{home_is_current, other_memory}
use Rattle.txn_law.proofs.Swept.{all_with_resident, in_with_resident, in_more, window_swept}

pub home_stays : (base : Image) (log : Log) (ok : Bool) (block : ℕ) → newest log block ≡ None
    → home_after base log ok block ≡ base block
home_stays base log ok block none = go (ok && nat_le (log.installing + 2) log.inst_step)
  where
    go : (t : Bool) → (if t then with_changes base (take log.installing log.changes) else base) block
        ≡ base block
    go true = ap (λ o. content_or o (base block)) (not_brought log block none)
    go false = refl

-- a content that is there keeps what holds of all
module _ (P : ℕ × Content → Type 0) (block : BlockNo) (content : Content) where
  all_one : (at : BlockNo) (there : Option Content) (xs : List (ℕ × Content)) → P (at.0, content)
      → All P (with_resident at there xs) → All P (with_resident at (filled_in there content) xs)
  all_one at (Some c) xs new h = h
  all_one at None xs new h = All-cons P (at.0, content) xs new h

  pub all_filled : P (block.0, content) → (present : List Present) → All P (held_of present)
      → All P (held_of (filled present block content))
  all_filled new [] h = h
  all_filled new (resident ∷ later) h = go (all_filled new later) (nat_eq resident.block.0 block.0) refl
    where
      go : (All P (held_of later) → All P (held_of (filled later block content))) → (t : Bool)
          → nat_eq resident.block.0 block.0 ≡ t
          → All P (held_of (if t
          then record { block = resident.block; content = filled_in resident.content content } ∷ later
          else resident ∷ filled later block content))
      go rest true e =
          all_one resident.block resident.content (held_of later)
          (subst (λ (n : ℕ). P (n, content)) (sym (eqb-true resident.block.0 block.0 e)) new) h
      go rest false e =
          all_with_resident P (λ x. true) resident.block resident.content (held_of later)
          (held_of (filled later block content)) rest h

-- and what was there is still there
module _ (number : ℕ) (old : Content) (block : BlockNo) (content : Content) where
  in_one : (at : BlockNo) (there : Option Content) (xs : List (ℕ × Content))
      → Contains (with_resident at there xs) (number, old)
      → Contains (with_resident at (filled_in there content) xs) (number, old)
  in_one at (Some c) xs h = h
  in_one at None xs h = in_more (at.0, content) (number, old) xs h

  pub in_filled : (present : List Present) → Contains (held_of present) (number, old)
      → Contains (held_of (filled present block content)) (number, old)
  in_filled [] h = h
  in_filled (resident ∷ later) h = go (in_filled later) (nat_eq resident.block.0 block.0)
    where
      go : (Contains (held_of later) (number, old)
          → Contains (held_of (filled later block content)) (number, old)) → (t : Bool)
          → Contains (held_of (if t
          then record { block = resident.block; content = filled_in resident.content content } ∷ later
          else resident ∷ filled later block content)) (number, old)
      go rest true = in_one resident.block resident.content (held_of later) h
      go rest false =
          in_with_resident number old (λ x. true) resident.block resident.content (held_of later)
          (held_of (filled later block content)) rest h

pub core_fetched : (spare : Present → Bool) (base : Image) (core : CoreState) (block : BlockNo) (content : Content)
    → newest core.log block.0 ≡ None → content ≡ base block.0 → IsCoreWindow base core
    → IsCoreWindow base (fetched spare core block content)
core_fetched spare base core block content none is h =
    let now : Image = now_of base core.log core.records in
    let kept : List (ℕ × Content) = held_of (filled core.present block content) in
    window_swept spare base core.log core.records core.holds (filled core.present block content)
    (other_memory base core.log core.records (held_of core.present) kept
    (all_filled (IsCurrent now) block content (is
    ∙ home_is_current base core.log core.records (held_of core.present) block.0 none h) core.present h.memory)
    (All-weaker (ArePinned (held_of core.present)) (ArePinned kept)
    (λ commit pins. All-weaker (IsPinned (held_of core.present)) (IsPinned kept)
    (λ object pin. (pin.0, in_filled object.addr.block.0 pin.0 block content core.present pin.1)) commit.read
    pins) core.records h.pinned) h)

-- a pending fetch has no content
held_of-failed : (block : BlockNo) (present : List Present)
    → held_of (filter (λ (resident : Present). not (nat_eq resident.block.0 block.0) || is_some resident.content)
    present) ≡ held_of present
held_of-failed block [] = refl
held_of-failed block (resident ∷ later) =
    go (held_of-failed block later) (nat_eq resident.block.0 block.0) resident.content refl
  where
    unaffected_by_write : (there : Option Content) (xs ys : List (ℕ × Content)) → xs ≡ ys
        → with_resident resident.block there xs ≡ with_resident resident.block there ys
    unaffected_by_write (Some c) xs ys e = ap (λ zs. (resident.block.0, c) ∷ zs) e
    unaffected_by_write None xs ys e = e

    go : held_of (filter (λ (e : Present). not (nat_eq e.block.0 block.0) || is_some e.content) later)
        ≡ held_of later → (t : Bool) (there : Option Content) → resident.content ≡ there
        → held_of (cond (not t || is_some resident.content)
        (resident ∷ filter (λ (e : Present). not (nat_eq e.block.0 block.0) || is_some e.content) later)
        (filter (λ (e : Present). not (nat_eq e.block.0 block.0) || is_some e.content) later))
        ≡ with_resident resident.block resident.content (held_of later)
    go rest false there e =
        unaffected_by_write resident.content
        (held_of (filter (λ (e : Present). not (nat_eq e.block.0 block.0) || is_some e.content) later))
        (held_of later) rest
    go rest true (Some c) e =
        ap (λ (o : Option Content). held_of
        (cond (is_some o) (resident ∷ filter (λ (e : Present). not (nat_eq e.block.0 block.0)
        || is_some e.content) later)
        (filter (λ (e : Present). not (nat_eq e.block.0 block.0) || is_some e.content) later))) e
        ∙ unaffected_by_write resident.content
        (held_of (filter (λ (e : Present). not (nat_eq e.block.0 block.0) || is_some e.content) later))
        (held_of later) rest
    go rest true None e =
        ap (λ (o : Option Content). held_of
        (cond (is_some o) (resident ∷ filter (λ (e : Present). not (nat_eq e.block.0 block.0)
        || is_some e.content) later)
        (filter (λ (e : Present). not (nat_eq e.block.0 block.0) || is_some e.content) later))) e
        ∙ rest ∙ sym (ap (λ (o : Option Content). with_resident resident.block o (held_of later)) e)

pub core_fetch_failed : (base : Image) (core : CoreState) (block : BlockNo) → IsCoreWindow base core
    → IsCoreWindow base (fetch_failed core block)
core_fetch_failed base core block h =
    subst (λ held. IsWindowOver base core.log core.records held) (sym (held_of-failed block core.present)) h

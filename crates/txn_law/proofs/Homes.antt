-- Lemmas: each step of the core leads from blocks that may be what is at home to such blocks.
use Rattle.std.proofs.Common.{◌≡◌, ℕ, ◌+◌, Bool, true, false, cond, ◌&&◌, ◌||◌, if◌then◌else◌, nat_eq}
use Rattle.std.proofs.Common.{List, [], ◌∷◌, length, take, All, Option, Some, None, is_none}
use Rattle.std.proofs.Common.{refl, sym, ap, subst, ◌∙◌, ◌⊎◌, inl, inr, arith}
use Rattle.std.specs.Prelude.{Contains, nat_le}
use Rattle.std.proofs.lemmas.Bool.{eqb-true, eq-eqb}
use Rattle.std.proofs.lemmas.List.Elements.{All-head, All-tail, All-take, All-contains}
use Rattle.base.specs.declared.TheConstants.{BLOCK_BYTES}
use Rattle.objects.specs.Present.{filled_in}
use Rattle.disk.specs.Device.{Content, Device, current, newest as newest_content}
use Rattle.disk.specs.Crash.{Image}
use Rattle.disk.specs.declared.block.BlockNo.{BlockNo}
use Rattle.circ.specs.declared.log.change.LogChange.{LogChange}
use Rattle.circ.specs.Log.Calls.{AgreesWithPending, Pending, home_after}
use Rattle.circ.specs.Log.Grows.{GrowsBy}
use Rattle.circ.specs.Log.Law.{with_changes, with_home}
use Rattle.circ.specs.Log.Log.{Log, IsLawful, IsHomeOn, newest, newest_of, or_else, blocks_of as group_blocks}
use Rattle.circ.specs.Log.Overlay.{content_or}
use Rattle.txn_law.specs.Commit.{Planned, IsOwn, IsCommitted, with_record, committed}
use Rattle.txn_law.specs.Core.{CoreState}
use Rattle.txn_law.specs.CoreWindow.{with_resident, held_of, IsCoreWindow, AreBlocks, IsHomeOf}
use Rattle.txn_law.specs.Fetched.{fetched}
use Rattle.objects.specs.Present.{filled}
use Rattle.txn_law.specs.Group.{is_among, blocks_of, IsOverlaid}
use Rattle.objects.specs.Present.{present_of, is_pending}
use Rattle.circ.specs.Log.Grows.{IsWholeChange}
use Rattle.txn_law.specs.HomeRead.{IsReadable, HasContents}
use Rattle.txn_law.specs.WellFormed.{IsUnlogged, IsPlaced, IsWellFormed}
use Rattle.objects.specs.Present.{IsOnce}
use Rattle.txn_law.specs.Window.{now_of, with_objects}
use Rattle.objects.specs.declared.present.Present.{Present}
use Rattle.txn_law.proofs.Claims.{found_by, whole_writes}
use Rattle.txn_law.proofs.CoreCommits.{core_committed, core_now}
use Rattle.objects.proofs.Residents.{is_of, same_block}
use Rattle.txn_law.proofs.Fetches.{core_fetched}
use Rattle.txn_law.proofs.HomeReads.{read_home}
use Rattle.txn_law.proofs.OverlaidContent.{among_after}
use Rattle.txn_law.proofs.Moves.{home_is_current, tail_is_now}
use Rattle.txn_law.proofs.OtherHome.{other_home}
use Rattle.txn_law.proofs.Swept.{window_swept, in_cons}

-- what whole changes bring home is whole
newest_whole : (xs : List LogChange) (block : ℕ) (c : Content) → All IsWholeChange xs
    → newest_of xs block ≡ Some c
    → length c ≡ BLOCK_BYTES
newest_whole [] block c h e = absurd (cc)
newest_whole (x ∷ xs) block c h e =
    go (newest_whole xs block c (All-tail IsWholeChange x xs h)) (newest_of xs block) refl
    (nat_eq x.block.0 block) e
  where
    go : (newest_of xs block ≡ Some c → length c ≡ BLOCK_BYTES) → (o : Option Content) → newest_of xs block ≡ o
        → (t : Bool) → or_else o (if t then Some x.content else None) ≡ Some c → length c ≡ BLOCK_BYTES
    go rest (Some d) is t e = rest (is ∙ e)
    go rest None is true e = let same : x.content ≡ c = cc in
        ap length (sym same) ∙ All-head IsWholeChange x xs h
    go rest None is false e = absurd (cc)

whole_under : (blocks : ℕ) (base : Image) (xs : List LogChange) → All IsWholeChange xs → AreBlocks blocks base
    → AreBlocks blocks (with_changes base xs)
whole_under blocks base xs h whole block lt = go (newest_of xs block) refl
  where
    go : (o : Option Content) → newest_of xs block ≡ o → length (content_or o (base block)) ≡ BLOCK_BYTES
    go (Some c) e = newest_whole xs block c h e
    go None e = whole block lt

pub whole_after : (blocks : ℕ) (base : Image) (log : Log) (ok : Bool) → All IsWholeChange log.changes
    → AreBlocks blocks base → AreBlocks blocks (home_after base log ok)
whole_after blocks base log ok h whole = go (ok && nat_le (log.installing + 2) log.inst_step)
  where
    go : (t : Bool) → AreBlocks blocks (if t then with_changes base (take log.installing log.changes) else base)
    go true = whole_under blocks base (take log.installing log.changes)
        (All-take IsWholeChange log.installing log.changes h) whole
    go false = whole

-- what is current is whole
pub whole_now : (base : Image) (core : CoreState) → IsHomeOf base core → IsWellFormed core
    → AreBlocks core.log.blocks (now_of base core.log core.records)
whole_now base core h well_formed block lt =
    sym (ap (λ (c : Content). length c) (tail_is_now base core.log core.records (held_of core.present)
    block h.window))
    ∙ whole_under core.log.blocks base core.log.changes well_formed.changes h.whole block lt

whole_with : (blocks : ℕ) (base : Image) (at : ℕ) (content : Content) → length content ≡ BLOCK_BYTES
    → AreBlocks blocks base → AreBlocks blocks (with_home base at content)
whole_with blocks base at content size whole block lt = go (nat_eq block at)
  where
    go : (t : Bool) → length (if t then content else base block) ≡ BLOCK_BYTES
    go true = size
    go false = whole block lt

-- a block whose fetch is pending isn't in memory
not_behind : (at block : BlockNo) (there : Option Content) (c : Content) (xs : List (ℕ × Content))
    → (at.0 ≡ block.0 → there ≡ None) → (Contains xs (block.0, c) → ⊥)
    → Contains (with_resident at there xs) (block.0, c) → ⊥
not_behind at block None c xs none rest h = rest h
not_behind at block (Some d) c xs none rest h = go (in_cons (at.0, d) (block.0, c) xs h)
  where
    go : (◌≡◌ {A = ℕ × Content} (at.0, d) (block.0, c)) ⊎ Contains xs (block.0, c) → ⊥
    go (inl same) = absurd (let clash : Some d ≡ None = none (ap (λ (p : ℕ × Content). p.0) same) in cc)
    go (inr later) = rest later

not_there : (xs : List Present) (block : BlockNo) (c : Content) → present_of xs block ≡ None
    → Contains (held_of xs) (block.0, c) → ⊥
not_there [] block c e (k, lt, is) = absurd (omega (arith, lt))
not_there (x ∷ xs) block c e h = go (not_there xs block c) (nat_eq x.block.0 block.0) refl e
  where
    go : (present_of xs block ≡ None → Contains (held_of xs) (block.0, c) → ⊥) → (t : Bool)
        → nat_eq x.block.0 block.0 ≡ t → cond t (Some x) (present_of xs block) ≡ None → ⊥
    go rest true is e = absurd (cc)
    go rest false is e =
        not_behind x.block block x.content c (held_of xs)
        (λ same. absurd (let yes : nat_eq x.block.0 block.0 ≡ true = eq-eqb x.block.0 block.0 same in
        cc)) (rest e) h

waits_away : (xs : List Present) (block : BlockNo) (c : Content) → IsOnce xs
    → is_pending (present_of xs block) ≡ true → Contains (held_of xs) (block.0, c) → ⊥
waits_away [] block c once e h = absurd (cc)
waits_away (x ∷ xs) block c once e h = go (waits_away xs block c once.1) (nat_eq x.block.0 block.0) refl e
  where
    none : (o : Option Content) → is_none o ≡ true → o ≡ None
    none None e = refl
    none (Some d) e = absurd (cc)

    go : (is_pending (present_of xs block) ≡ true → Contains (held_of xs) (block.0, c) → ⊥) → (t : Bool)
        → nat_eq x.block.0 block.0 ≡ t → is_pending (cond t (Some x) (present_of xs block)) ≡ true → ⊥
    go rest true is e =
        let at : x.block ≡ block = same_block x.block block (eqb-true x.block.0 block.0 is) in
        not_behind x.block block x.content c (held_of xs) (λ same. none x.content e)
        (not_there xs block c (sym (ap (present_of xs) at) ∙ once.0)) h
    go rest false is e =
        not_behind x.block block x.content c (held_of xs)
        (λ same. absurd (let yes : nat_eq x.block.0 block.0 ≡ true = eq-eqb x.block.0 block.0 same in
        cc)) (rest e) h

-- nothing is filled in where no fetch is pending
not_filled : (xs : List Present) (block : BlockNo) (content : Content)
    → is_pending (present_of xs block) ≡ false
    → filled xs block content ≡ xs
not_filled [] block content e = refl
not_filled (x ∷ xs) block content e = go (not_filled xs block content) (nat_eq x.block.0 block.0) e
  where
    some : (o : Option Content) → is_none o ≡ false → filled_in o content ≡ o
    some (Some c) e = refl
    some None e = absurd (cc)

    go : (is_pending (present_of xs block) ≡ false → filled xs block content ≡ xs) → (t : Bool)
        → is_pending (cond t (Some x) (present_of xs block)) ≡ false
        → (if t then record { block = x.block; content = filled_in x.content content } ∷ xs
        else x ∷ filled xs block content) ≡ x ∷ xs
    go rest true e = ap (λ (o : Option Content). record { block = x.block; content = o } ∷ xs)
        (some x.content e)
    go rest false e = ap (λ ys. x ∷ ys) (rest e)

pub unlogged_block : (core : CoreState) (block : BlockNo) → IsWellFormed core
    → is_pending (present_of core.present block) ≡ true → newest core.log block.0 ≡ None
unlogged_block core block well_formed e = go (present_of core.present block) refl e
  where
    none : (o : Option Content) → is_none o ≡ true → o ≡ None
    none None e = refl
    none (Some d) e = absurd (cc)

    go : (o : Option Present) → present_of core.present block ≡ o → is_pending o ≡ true
        → newest core.log block.0 ≡ None
    go None is e = absurd (cc)
    go (Some x) is e =
        let (same, there) = found_by (is_of block) core.present x is in
        subst (λ (n : ℕ). newest core.log n ≡ None) (eqb-true x.block.0 block.0 same)
        (All-contains (IsUnlogged core.log) core.present x well_formed.pending there (none x.content e))

-- a block whose fetch is pending is one that a change may write
placed_block : (core : CoreState) (block : BlockNo) → IsWellFormed core
    → is_pending (present_of core.present block) ≡ true → IsHomeOn core.log.blocks block
placed_block core block well_formed e = go (present_of core.present block) refl e
  where
    go : (o : Option Present) → present_of core.present block ≡ o → is_pending o ≡ true
        → IsHomeOn core.log.blocks block
    go None is e = absurd (cc)
    go (Some x) is e =
        let (same, there) = found_by (is_of block) core.present x is in
        subst (IsHomeOn core.log.blocks) (same_block x.block block (eqb-true x.block.0 block.0 same))
        (All-contains (IsPlaced core.log.blocks) core.present x well_formed.placed there)

-- what the disk has of it is what is at home
pub pending_is_home : (d : Device) (base : Image) (core : CoreState) (logging installing : Pending)
    (block : BlockNo)
    → IsWellFormed core → AgreesWithPending d base core.log logging installing → IsReadable d core.log installing
    → HasContents d → is_pending (present_of core.present block) ≡ true
    → newest_content (current d block.0) ≡ base block.0
pending_is_home d base core logging installing block well_formed agrees readable contents waits =
    let home = placed_block core block well_formed waits in
    let low = home.0 in
    (read_home d base core.log logging installing block.0 agrees readable contents
    (home.1, inr (omega (arith, low))) (unlogged_block core block well_formed waits)).1

-- a fetch that brings what is at home, where it is pending, keeps what may be at home
pub fetched_home : (spare : Present → Bool) (base : Image) (core : CoreState) (block : BlockNo)
    (content : Content) → IsWellFormed core
    → (is_pending (present_of core.present block) ≡ true → content ≡ base block.0) → IsHomeOf base core
    → IsHomeOf base (fetched spare core block content)
fetched_home spare base core block content well_formed brought h =
    record { whole = h.whole; window = go (is_pending (present_of core.present block)) refl }
  where
    go : (t : Bool) → is_pending (present_of core.present block) ≡ t
        → IsCoreWindow base (fetched spare core block content)
    go true e = core_fetched spare base core block content (unlogged_block core block well_formed e) (brought e) h.window
    go false e = window_swept spare base core.log core.records core.holds (filled core.present block content)
        (subst (λ (xs : List Present). IsCoreWindow base (record core { present = xs }))
        (sym (not_filled core.present block content e)) h.window)

-- whatever it brings, there are blocks that may be at home
pub fetched_some_home : (spare : Present → Bool) (core : CoreState) (block : BlockNo) (content : Content)
    → IsWellFormed core
    → length content ≡ BLOCK_BYTES → ((base : Image) × IsHomeOf base core)
    → (base : Image) × IsHomeOf base (fetched spare core block content)
fetched_some_home spare core block content well_formed size (base, h) = go (is_pending (present_of core.present block)) refl
  where
    go : (t : Bool) → is_pending (present_of core.present block) ≡ t
        → (base : Image) × IsHomeOf base (fetched spare core block content)
    go true e =
        let other : Image = with_home base block.0 content in (
          other,
          fetched_home spare other core block content well_formed
              (λ waits. sym (ap (λ (t : Bool). if t then content else base block.0)
              (eq-eqb block.0 block.0 refl)))
              (record {
                whole = whole_with core.log.blocks base block.0 content size h.whole;
                window = other_home base core.log core.records (held_of core.present) block.0 content
                    (unlogged_block core block well_formed e)
                    (λ c. waits_away core.present block c well_formed.once e) h.window;
              }),
        )
    go false e = (base, fetched_home spare base core block content well_formed (λ waits. absurd (cc)) h)

among_all : (P : BlockNo → Type 0) (block : BlockNo) (blocks : List BlockNo) → All P blocks
    → is_among block blocks ≡ true → P block
among_all P block [] h e = absurd (cc)
among_all P block (b ∷ bs) h e = go (among_all P block bs (All-tail P b bs h)) (nat_eq b.0 block.0) refl e
  where
    go : (is_among block bs ≡ true → P block) → (t : Bool) → nat_eq b.0 block.0 ≡ t
        → (t || is_among block bs) ≡ true → P block
    go rest true is e = subst P (same_block b block (eqb-true b.0 block.0 is)) (All-head P b bs h)
    go rest false is e = rest e

is_committed : (base : Image) (old : CoreState) (tx : ℕ) (plan : Planned) (group : List (BlockNo × Content))
    (log : Log) → IsWellFormed old → IsOwn old tx plan
    → All (λ object. length object.bytes ≡ object.addr.len) plan.written
    → group_blocks group ≡ blocks_of plan.written → All (IsOverlaid old.present old.log plan.written) group
    → GrowsBy old.log group log → IsHomeOf base old → IsCommitted base old tx plan group log
is_committed base old tx plan group log well_formed own sizes blocks contents grown h = record {
  grown = grown;
  blocks = blocks;
  contents = contents;
  read = own.read;
  claimed = λ block lies absent none. (
    sym (ap length (home_is_current base old.log old.records (held_of old.present) block.0 none h.window))
        ∙ h.whole block.0 (among_all (IsHomeOn old.log.blocks) block (blocks_of plan.written) own.homes
        (among_after block [] plan.written ∙ lies)).1,
    whole_writes old tx plan.written block well_formed own.written sizes absent,
  );
}

pub commit_home : (spare : Present → Bool) (base : Image) (old : CoreState) (tx : ℕ) (plan : Planned)
    (group : List (BlockNo × Content))
    (log : Log) → IsLawful old.log → IsWellFormed old → IsOwn old tx plan
    → All (λ object. length object.bytes ≡ object.addr.len) plan.written
    → group_blocks group ≡ blocks_of plan.written → All (IsOverlaid old.present old.log plan.written) group
    → GrowsBy old.log group log → log.blocks ≡ old.log.blocks → IsHomeOf base old
    → IsHomeOf base (committed spare old tx plan log)
commit_home spare base old tx plan group log lawful well_formed own sizes blocks contents grown same h = record {
  whole = subst (λ (n : ℕ). AreBlocks n base) (sym same) h.whole;
  window = core_committed spare base old tx plan group log lawful
      (is_committed base old tx plan group log well_formed own sizes blocks contents grown h) h.window;
}

-- a commit sets what it writes, and nothing else
pub commit_sets : (base : Image) (old : CoreState) (tx : ℕ) (plan : Planned) (group : List (BlockNo × Content))
    (log : Log) → IsLawful old.log → IsWellFormed old → IsOwn old tx plan
    → All (λ object. length object.bytes ≡ object.addr.len) plan.written
    → group_blocks group ≡ blocks_of plan.written → All (IsOverlaid old.present old.log plan.written) group
    → GrowsBy old.log group log → IsHomeOf base old → (block : ℕ)
    → now_of base log (with_record log log.places plan old.records) block
    ≡ with_objects (now_of base old.log old.records) plan.written block
commit_sets base old tx plan group log lawful well_formed own sizes blocks contents grown h =
    core_now (λ resident. true) base old tx plan group log lawful
    (is_committed base old tx plan group log well_formed own sizes blocks contents grown h) h.window

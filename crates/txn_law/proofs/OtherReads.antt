-- Lemma: what another transaction holds for reading stays through a commit, with its bytes.
use Rattle.std.proofs.Common.{◌≡◌, ℕ, Bool, ◌<◌, true, ◌||◌, nat_eq, ◌⊎◌, inl, inr, List, length, All}
use Rattle.std.proofs.Common.{Option, Some, None, refl, sym, ap, subst, ◌∙◌, arith}
use Rattle.std.specs.Prelude.{Contains}
use Rattle.std.proofs.Common.{get_or}
use Rattle.std.proofs.lemmas.Bool.{eqb-true}
use Rattle.std.proofs.lemmas.List.Elements.{All-contains}
use Rattle.disk.specs.Device.{Content}
use Rattle.disk.specs.Crash.{Image}
use Rattle.disk.specs.declared.block.BlockNo.{BlockNo}
use Rattle.objects.specs.Addr.{Overlap}
use Rattle.objects.specs.declared.addr.Addr.{Addr}
use Rattle.objects.specs.declared.mode.Mode.TheVariants as modes
use Rattle.circ.specs.Log.Grows.{GrowsBy}
use Rattle.circ.specs.Log.Log.{Log, IsLawful, newest, blocks_of as group_blocks}
use Rattle.circ.specs.Log.Overlay.{content_or}
use Rattle.txn_law.specs.Commit.{Planned, IsOwn, with_record, refreshed_content, committed}
use Rattle.txn_law.specs.Core.{CoreState}
use Rattle.txn_law.specs.CoreWindow.{held_of, IsHomeOf, PreservesReads}
use Rattle.txn_law.specs.Group.{blocks_of, IsOverlaid}
use Rattle.txn_law.specs.Holds.{is_hold_of, hold_of, is_read, is_written, released}
use Rattle.txn_law.specs.Leaves.{in_memory}
use Rattle.txn_law.specs.Records.{is_read_by_uninstalled}
use Rattle.txn_law.specs.WellFormed.{AreCompatible, AreApart, IsOfOne, IsWellFormed}
use Rattle.txn_law.specs.Window.{IsCurrent, now_of, part, with_objects}
use Rattle.txn_law.specs.declared.hold.Hold.{Hold}
use Rattle.objects.specs.declared.present.Present.{Present}
use Rattle.txn_law.proofs.Again.{one_or_apart}
use Rattle.txn_law.proofs.Unaffected.{stays_unaffected}
use Rattle.txn_law.proofs.Claims.{found_by, all_four, held_exclusive}
use Rattle.txn_law.proofs.CoreCommits.{found_in}
use Rattle.objects.proofs.Residents.{same_block}
use Rattle.txn_law.proofs.HeldReads.{some_read, left, taken_read}
use Rattle.txn_law.proofs.Homes.{whole_now, commit_home, commit_sets}
use Rattle.txn_law.proofs.Leaves.{leaves_commit}

-- two holds of different transactions, one of them alone, share no byte
two_apart : (holds : List Hold) (x y : Hold) → AreApart holds → Contains holds x → Contains holds y
    → (x.transaction ≡ y.transaction → ⊥) → x.mode ≡ modes.Exclusive → Overlap x.addr y.addr → ⊥
two_apart holds x y apart one other differ exclusive_hold over = go (one_or_apart holds x y apart one other)
  where
    go : (x ≡ y) ⊎ AreCompatible x y → ⊥
    go (inl same) = differ (ap (λ (z : Hold). z.transaction) same)
    go (inr away) = away over (inr (inl exclusive_hold))

some_written : (o : Option Hold) → is_written o ≡ true → (x : Hold) × (o ≡ Some x) × (x.mode ≡ modes.Exclusive)
some_written None e = absurd (cc)
some_written (Some x) e = (x, refl, held_exclusive x.mode (x.is_read || x.is_claimed) e)

-- where a hold of an address lies
module _ (holds : List Hold) (tx : ℕ) (addr : Addr) (x : Hold) (found : hold_of holds tx addr ≡ Some x) where
  abbrev four : (nat_eq x.transaction tx ≡ true) × (nat_eq x.addr.block.0 addr.block.0 ≡ true)
      × (nat_eq x.addr.offset addr.offset ≡ true) × (nat_eq x.addr.len addr.len ≡ true)
  four = all_four (nat_eq x.transaction tx) (nat_eq x.addr.block.0 addr.block.0)
      (nat_eq x.addr.offset addr.offset) (nat_eq x.addr.len addr.len)
      (found_by (is_hold_of tx addr) holds x found).0

  there : Contains holds x
  there = (found_by (is_hold_of tx addr) holds x found).1

  by : x.transaction ≡ tx
  by = eqb-true x.transaction tx four.0

  at : x.addr.block ≡ addr.block
  at = same_block x.addr.block addr.block (eqb-true x.addr.block.0 addr.block.0 four.1)

  from : x.addr.offset ≡ addr.offset
  from = eqb-true x.addr.offset addr.offset four.2

  long : x.addr.len ≡ addr.len
  long = eqb-true x.addr.len addr.len four.3

-- what one transaction holds for reading shares no byte with what another holds for writing
unaffected_by_write : (core : CoreState) (tx t : ℕ) (read written : Addr) → IsWellFormed core → (t ≡ tx → ⊥)
    → is_read (hold_of core.holds t read) ≡ true → is_written (hold_of core.holds tx written) ≡ true
    → Overlap written read → ⊥
unaffected_by_write core tx t read written well_formed differ reads writes over =
    let (x, found, is) = some_read (hold_of core.holds t read) reads in
    let (y, held, exclusive_hold) = some_written (hold_of core.holds tx written) writes in
    let a = from core.holds t read x found in
    let b = long core.holds t read x found in
    let c = from core.holds tx written y held in
    let d = long core.holds tx written y held in
    let less = over.1 in
    let more = over.2 in
    two_apart core.holds y x well_formed.apart (there core.holds tx written y held) (there core.holds t read x found)
    (λ same. differ (sym (by core.holds t read x found) ∙ sym same ∙ by core.holds tx written y held)) exclusive_hold (
      at core.holds tx written y held ∙ over.0 ∙ sym (at core.holds t read x found),
      omega (arith, a, b, c, d, less),
      omega (arith, a, b, c, d, more),
    )

pub reads_commit : (spare : Present → Bool) (base : Image) (old : CoreState) (tx : ℕ) (plan : Planned)
    (group : List (BlockNo × Content))
    (log : Log) (t : ℕ) → IsLawful old.log → IsWellFormed old → IsOwn old tx plan
    → All (λ object. length object.bytes ≡ object.addr.len) plan.written
    → group_blocks group ≡ blocks_of plan.written → All (IsOverlaid old.present old.log plan.written) group
    → GrowsBy old.log group log → log.blocks ≡ old.log.blocks → IsHomeOf base old → (t ≡ tx → ⊥)
    → PreservesReads old (committed spare old tx plan log) t
reads_commit spare base old tx plan group log t lawful well_formed own sizes blocks contents grown same home
    differ object h =
    record {
      held = held;
      current = record { content = content; there = in_new; same = bytes };
    }
  where
    held : is_read (hold_of (released old.holds tx) t object.addr) ≡ true
    held = ap is_read (left old.holds tx t object.addr differ) ∙ h.held

    content : Content
    content = content_or (newest log object.addr.block.0) h.current.content

    in_new : in_memory (committed spare old tx plan log) object.addr.block ≡ Some content
    in_new = (leaves_commit spare old tx plan log well_formed).stays object.addr.block content
        (ap (λ (o : Option Content). refreshed_content o (newest log object.addr.block.0)) h.current.there)
        (ap (λ b. b || is_read_by_uninstalled (with_record log log.places plan old.records) object.addr.block)
        (taken_read (released old.holds tx) t object.addr held))

    -- what is current, before and after
    before : h.current.content ≡ now_of base old.log old.records object.addr.block.0
    before = All-contains (IsCurrent (now_of base old.log old.records)) (held_of old.present)
        (object.addr.block.0, h.current.content) home.window.memory
        (found_in old.present object.addr.block h.current.content h.current.there)

    later : IsHomeOf base (committed spare old tx plan log)
    later = commit_home spare base old tx plan group log lawful well_formed own sizes blocks contents grown same home

    behind : content ≡ with_objects (now_of base old.log old.records) plan.written object.addr.block.0
    behind = All-contains (IsCurrent (now_of base log (with_record log log.places plan old.records)))
        (held_of (committed spare old tx plan log).present) (object.addr.block.0, content) later.window.memory
        (found_in (committed spare old tx plan log).present object.addr.block content in_new)
        ∙ commit_sets base old tx plan group log lawful well_formed own sizes blocks contents grown home
        object.addr.block.0

    inside : object.addr.block.0 < old.log.blocks
    inside = let (x, found, is) = some_read (hold_of old.holds t object.addr) h.held in
        subst (λ (b : BlockNo). b.0 < old.log.blocks) (at old.holds t object.addr x found)
        (All-contains (IsOfOne old) old.holds x well_formed.owned (there old.holds t object.addr x found)).1.1

    bytes : part content object.addr ≡ object.bytes
    bytes = ap (λ (c : Content). part c object.addr) behind
        ∙ stays_unaffected object.addr (now_of base old.log old.records) plan.written
        (λ k d lt over. unaffected_by_write old tx t object.addr (get_or plan.written k d).addr well_formed differ h.held
        (own.written k d lt).held over)
        sizes (whole_now base old home well_formed object.addr.block.0 inside)
        ∙ ap (λ (c : Content). part c object.addr) (sym before) ∙ h.current.same

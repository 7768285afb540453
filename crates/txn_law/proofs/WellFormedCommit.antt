-- Lemma: a commit leaves what transactions have taken and what is in memory well formed.
use Rattle.std.proofs.Common.{◌≡◌, ℕ, Bool, true, false, not, cond, ◌||◌, nat_eq, List, [], ◌∷◌, Option, Some}
use Rattle.std.proofs.Common.{None}
use Rattle.std.proofs.Common.{is_none, All, option_map, refl, sym, ap, subst, ◌∙◌, arith}
use Rattle.std.specs.Prelude.{is_some}
use Rattle.std.proofs.Common.{get_or}
use Rattle.std.proofs.lemmas.Bool.{eqb-true, eq-eqb}
use Rattle.std.proofs.lemmas.List.Elements.{All-nil, All-cons, All-head, All-tail, All-weaker, All-filter}
use Rattle.std.proofs.lemmas.List.Elements.{All-map}
use Rattle.disk.specs.Device.{Content}
use Rattle.disk.specs.declared.block.BlockNo.{BlockNo}
use Rattle.circ.specs.Log.Effects.{newest_in}
use Rattle.circ.specs.Log.Grows.{GrowsBy}
use Rattle.circ.specs.Log.Log.{Log, IsHomeOn, newest, or_else, blocks_of as group_blocks}
use Rattle.circ.specs.Log.Overlay.{content_or}
use Rattle.txn_law.specs.Commit.{Planned, IsWrittenBy, IsOwn, with_record, refreshed_content, refreshed_resident}
use Rattle.txn_law.specs.Commit.{refreshed}
use Rattle.txn_law.specs.Commit.{committed}
use Rattle.txn_law.specs.Core.{CoreState, IsOut, ended}
use Rattle.txn_law.specs.Group.{is_among, blocks_of}
use Rattle.txn_law.specs.Holds.{released}
use Rattle.objects.specs.Object.{ObjectBytes}
use Rattle.objects.specs.Present.{present_of, content_in, is_pending}
use Rattle.txn_law.specs.Records.{lies_in, is_left}
use Rattle.circ.specs.Log.Grows.{IsWholeChange}
use Rattle.txn_law.specs.WellFormed.{IsReadHere, IsClaimedWhole, IsUnlogged, IsPlaced, IsWellFormed}
use Rattle.objects.specs.Present.{IsOnce}
use Rattle.objects.specs.declared.present.Present.{Present}
use Rattle.txn_law.proofs.Residents.{once_refreshed, present_of-refreshed}
use Rattle.objects.proofs.Residents.{same_block, once_filter}
use Rattle.txn_law.proofs.OverlaidContent.{among_after, among_group}
use Rattle.txn_law.proofs.StaysWellFormed.{apart_filter, read_swept, owned_end}

-- each resident is the one of its block
pub once_is : (xs : List Present) → IsOnce xs → All (λ x. present_of xs x.block ≡ Some x) xs
once_is [] h = All-nil (λ x. present_of [] x.block ≡ Some x)
once_is (x ∷ xs) h =
    All-cons (λ y. present_of (x ∷ xs) y.block ≡ Some y) x xs
    (ap (λ b. cond b (Some x) (present_of xs x.block)) (eq-eqb x.block.0 x.block.0 refl))
    (All-weaker (λ y. present_of xs y.block ≡ Some y) (λ y. present_of (x ∷ xs) y.block ≡ Some y)
    (λ y e. behind y e (nat_eq x.block.0 y.block.0) refl) xs (once_is xs h.1))
  where
    behind : (y : Present) → present_of xs y.block ≡ Some y → (t : Bool) → nat_eq x.block.0 y.block.0 ≡ t
        → cond t (Some x) (present_of xs y.block) ≡ Some y
    behind y e true same =
        let at : x.block ≡ y.block = same_block x.block y.block (eqb-true x.block.0 y.block.0 same) in
        absurd (let none : None ≡ Some y = sym h.0 ∙ ap (present_of xs) at ∙ e in cc)
    behind y e false same = e

-- what is written lies in no block whose fetch is pending
pub none_lies : (present : List Present) (written : List ObjectBytes) (block : BlockNo)
    → All (λ object. is_pending (present_of present object.addr.block) ≡ false) written
    → is_pending (present_of present block) ≡ true → lies_in written block ≡ false
none_lies present [] block loaded waits = refl
none_lies present (o ∷ os) block loaded waits =
    go (none_lies present os block (All-tail
    (λ object. is_pending (present_of present object.addr.block) ≡ false) o os
    loaded) waits) (nat_eq o.addr.block.0 block.0) refl
  where
    go : lies_in os block ≡ false → (t : Bool) → nat_eq o.addr.block.0 block.0 ≡ t
        → (t || lies_in os block) ≡ false
    go rest true same =
        let at : o.addr.block ≡ block = same_block o.addr.block block (eqb-true o.addr.block.0 block.0 same) in
        absurd (let not_so : true ≡ false = sym waits
        ∙ sym (ap (λ (b : BlockNo). is_pending (present_of present b)) at)
        ∙ All-head (λ object. is_pending (present_of present object.addr.block) ≡ false) o os loaded in cc)
    go rest false same = rest

pub nothing : (o : Option Content) → is_some o ≡ false → o ≡ None
nothing None e = refl
nothing (Some c) e = absurd (cc)

module _ (spare : Present → Bool) (old : CoreState) (tx : ℕ) (plan : Planned) (group : List (BlockNo × Content))
    (log : Log)
    (own : IsOwn old tx plan) (blocks : group_blocks group ≡ blocks_of plan.written)
    (grown : GrowsBy old.log group log) (well_formed : IsWellFormed old) where
  unlogged : (x : Present) → IsUnlogged old.log x → present_of old.present x.block ≡ Some x
      → IsUnlogged log (refreshed_resident log x)
  unlogged x h is = go x.content refl
    where
      go : (o : Option Content) → x.content ≡ o → refreshed_content o (newest log x.block.0) ≡ None
          → newest log x.block.0 ≡ None
      go (Some c) e none = absurd (cc)
      go None e none =
          let waits : is_pending (present_of old.present x.block) ≡ true = ap is_pending is ∙ ap is_none e in
          let free : lies_in plan.written x.block ≡ false =
          none_lies old.present plan.written x.block
          (All-weaker (λ object. IsWrittenBy old tx object.addr)
          (λ object. is_pending (present_of old.present object.addr.block) ≡ false) (λ object w. w.loaded)
          plan.written own.written) waits in
          let absent : newest_in group x.block.0 ≡ None =
          nothing (newest_in group x.block.0) (sym (among_group group x.block) ∙ ap (is_among x.block) blocks
          ∙ among_after x.block [] plan.written ∙ free) in
          grown.behind 0 (omega arith) x.block.0
          ∙ ap (λ (o : Option Content). or_else o (newest old.log x.block.0)) absent ∙ h e

  stays : (block : BlockNo) (c : Content) → content_in (present_of old.present block) ≡ Some c
      → (d : Content) × (content_in (present_of (refreshed log old.present) block) ≡ Some d)
  stays block c e = go (present_of old.present block) refl e
    where
      go : (o : Option Present) → present_of old.present block ≡ o → content_in o ≡ Some c
          → (d : Content) × (content_in (present_of (refreshed log old.present) block) ≡ Some d)
      go None is e = absurd (cc)
      go (Some x) is e = (
        content_or (newest log x.block.0) c,
        ap content_in (present_of-refreshed log old.present block ∙ ap (option_map (refreshed_resident log)) is)
            ∙ ap (λ (o : Option Content). refreshed_content o (newest log x.block.0)) e,
      )

  pub well_formed_commit : log.blocks ≡ old.log.blocks → All IsWholeChange log.changes
      → IsWellFormed (committed spare old tx plan log)
  well_formed_commit same whole = record {
    owned = subst (λ (n : ℕ). All (λ hold. IsOut (ended spare old tx) hold.transaction × IsHomeOn n hold.addr.block)
        (released old.holds tx)) (sym same) (owned_end spare old tx well_formed);
    placed = All-filter (is_left spare (released old.holds tx) (with_record log log.places plan old.records)) (IsPlaced log.blocks)
        (refreshed log old.present)
        (All-map (IsPlaced log.blocks) (refreshed_resident log) old.present
        (subst (λ (n : ℕ). All (IsPlaced n) old.present) (sym same) well_formed.placed));
    apart = apart_filter (λ hold. not (nat_eq hold.transaction tx)) old.holds well_formed.apart;
    read = read_swept spare (released old.holds tx) (with_record log log.places plan old.records)
        (refreshed log old.present) (refreshed log old.present) (λ at c e. e)
        (All-weaker (IsReadHere old.present) (IsReadHere (refreshed log old.present))
        (λ x h is. let (content, there) = h is in stays x.addr.block content there) (released old.holds tx)
        (All-filter (λ hold. not (nat_eq hold.transaction tx)) (IsReadHere old.present) old.holds well_formed.read));
    claimed = All-filter (λ hold. not (nat_eq hold.transaction tx)) IsClaimedWhole old.holds well_formed.claimed;
    once = once_filter (is_left spare (released old.holds tx) (with_record log log.places plan old.records)) (refreshed log old.present)
        (once_refreshed log old.present well_formed.once);
    pending = All-filter (is_left spare (released old.holds tx) (with_record log log.places plan old.records)) (IsUnlogged log)
        (refreshed log old.present)
        (All-map (IsUnlogged log) (refreshed_resident log) old.present
        (λ k d lt. unlogged (get_or old.present k d) (well_formed.pending k d lt)
        (once_is old.present well_formed.once k d lt)));
    changes = whole;
  }

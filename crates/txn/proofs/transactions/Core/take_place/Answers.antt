use Rattle.std.proofs.Common.{◌≡◌, ◌<◌, ◌+◌, ℕ, if◌then◌else◌, nat_lt, All, length, rules, ap, subst, sym, ◌∙◌, List, [], ◌∷◌, ◌++◌}
use Rattle.std.proofs.Common.{arith, refl}
use Rattle.std.proofs.lemmas.List.Elements.{All-map, All-weaker}
use Rattle.circ.specs.Log.Effects.{HasAppended}
use Rattle.circ.specs.Log.Grows.{GrowsBy, StandsStill}
use Rattle.txn_law.specs.Group.{IsOverlaid, blocks_of}
use Rattle.objects.specs.Object.{ObjectBytes}
use Rattle.objects.specs.Pins.{Residents, pins_of}
use Rattle.circ.specs.Log.Log.{AreOnce, Log, installed_place, blocks_of as group_blocks}
use Rattle.txn_law.proofs.Once.{once_of}
use Rattle.disk.specs.Device.{Content}
use Rattle.disk.specs.declared.block.BlockNo.{BlockNo}
use Rattle.txn_law.specs.Commit.{IsOwn, IsReadBy, Planned, committed, footprint, with_record, refreshed}
use Rattle.txn_law.specs.Core.{CoreState, ended}
use Rattle.txn_law.specs.CoreLaw.{IsLawfulCore}
use Rattle.txn_law.specs.Holds.{hold_of}
use Rattle.txn_law.specs.Window.{Footprint}
use Rattle.txn_law.specs.declared.hold.Hold.{Hold}
use Rattle.txn_law.proofs.CoreLaws.{lawful_commit}
use Rattle.txn.specs.Answering.{OfSome}
use Rattle.txn.specs.Exactly.{TakesPlaceExactly}
use Rattle.txn.proofs.Answered.{log_counts}
use Rattle.txn.proofs.Ended.{ended_there}
use Rattle.txn.proofs.Counted.{held_pinned, read_is_held}
use Rattle.txn.proofs.FewPins.{are_countable}
use Rattle.txn.proofs.ByParts.{committed_is}
use Rattle.txn.proofs.Logged.{quiet_in, refreshed_is}
use Rattle.txn.proofs.Consistent.{consistent_ended, consistent_with}
use Rattle.txn.specs.Consistent.{IsConsistent, core_of}
use Rattle.txn.specs.Pinned.{AreCountable, block_of_each, objects_in}
use Rattle.txn.specs.Refreshed.{renewed_each}
use Rattle.txn.proofs.transactions.Core.take_place.Goals as goal

pub append-requires-clause-once : goal.append-requires-clause-once
append-requires-clause-once g c =
    subst AreOnce (sym (c.in-Ok-group_of.ensures.blocks ∙ c.requires.blocks))
    (once_of (g.C.Change.planned c.args.change).written)

pub keep-requires-clause-pinned : goal.keep-requires-clause-pinned
keep-requires-clause-pinned g c =
    let core = c.self.inside in
    let plan : Planned = g.C.Change.planned c.args.change in
    let there : Residents = c.refresh.new.present in
    let seen : CoreState = record {
      log = core.log;
      inodes = core.inodes;
      begun = core.begun;
      out = core.out.items;
      holds = core.holds;
      present = core.present.blocks;
      records = core.records.items;
      boot = core.boot;
      log_calls = length core.log_calls.items;
      inst_calls = length core.inst_calls.items;
      refused = length core.refused.items;
    } in
    let own : IsOwn seen c.args.tx plan =
    subst (λ (old : CoreState). IsOwn old c.args.tx plan) (sym c.self.view_is) c.requires.own in
    subst (λ (kept : Footprint). All (λ block. 0 < pins_of there block) (block_of_each kept.read))
    (sym c.of-kept.ensures.is)
    (All-map (λ (block : BlockNo). 0 < pins_of there block) (λ (object : ObjectBytes). object.addr.block) plan.read
    (All-weaker (IsReadBy seen c.args.tx) (λ (object : ObjectBytes). 0 < pins_of there object.addr.block)
    (λ object read.
    let some = held_pinned c.args.tx object.addr object.addr.block core.holds
    (read_is_held (hold_of core.holds c.args.tx object.addr) read.held) in
    let counted = c.self.invariant.0.counted object.addr.block in
    let same = ap (λ (r : Residents). pins_of r object.addr.block) c.refresh.ensures in
    omega (arith, some, counted, same)) plan.read own.read))

pub keep-requires-clause-countable : goal.keep-requires-clause-countable
keep-requires-clause-countable g c =
    let core = c.self.inside in
    let plan : Planned = g.C.Change.planned c.args.change in
    subst (λ (kept : Footprint). AreCountable c.refresh.new.present (block_of_each kept.read)) (sym c.of-kept.ensures.is)
    (subst (λ (r : Residents). AreCountable r (block_of_each plan.read)) (sym c.refresh.ensures)
    (are_countable core.present plan.read c.of-kept.ensures.few (λ at.
    let few = c.can_count_pins.ensures at in let counted = c.self.invariant.0.counted at in omega (arith, few, counted))))

-- the records with that of a change that was committed
with_preserved : (log : Log) (plan : Planned) (installed place : ℕ) (before after : List Footprint) (kept : Footprint)
    → installed ≡ installed_place log → place ≡ log.places → kept ≡ footprint place plan
    → after ≡ (if nat_lt installed kept.place then before ++ kept ∷ [] else before)
    → after ≡ with_record log log.places plan before
with_preserved log plan installed place before after kept first last is after_is =
    after_is
    ∙ ap (λ (one : Footprint). if nat_lt installed one.place then before ++ one ∷ [] else before) is
    ∙ ap (λ n. if nat_lt n place then before ++ footprint place plan ∷ [] else before) first
    ∙ ap (λ n. if nat_lt (installed_place log) n then before ++ footprint n plan ∷ [] else before) last

pub invariant_of-self-in-Appended : goal.invariant_of-self-in-Appended
invariant_of-self-in-Appended g c =
    let core = c.self.inside in
    let log : Log = c.append.new.self in
    let plan : Planned = g.C.Change.planned c.args.change in
    let before : List Footprint = core.records.items in
    let records : List Footprint = c.keep.new.records.items in
    let kept : records ≡ with_record log log.places plan before =
    with_preserved log plan c.installed-installed.result.0 c.places-place.result.0 before records
    c.of-kept.result c.installed-installed.ensures c.places-place.ensures c.of-kept.ensures.is
    (c.keep.ensures.records ∙ ap (λ (rs : List Footprint). if nat_lt c.installed-installed.result.0
    c.of-kept.result.place then rs ++ c.of-kept.result ∷ [] else rs) c.reserve.ensures.items) in
    let group : List (BlockNo × Content) = c.in-Ok-group_of.group.items in
    let appended : HasAppended core.log group log = c.append.ensures.seen (search rules) in
    let old : Residents = core.present in
    let there : Residents = c.keep.new.present in
    let left : Residents = c.end.new.present in
    let seen : CoreState = core_of core.log core.inodes core.begun core.out.items core.holds old.blocks before
    core.boot (length core.log_calls.items) (length core.inst_calls.items)
    (length core.refused.items) in
    let own : IsOwn seen c.args.tx plan =
    subst (λ (old : CoreState). IsOwn old c.args.tx plan) (sym c.self.view_is) c.requires.own in
    let is : there.blocks ≡ refreshed log old.blocks =
    c.keep.ensures.pins.1 ∙ ap (λ (r : Residents). r.blocks) c.refresh.ensures
    ∙ ap (renewed_each old.blocks)
    (c.in-Ok-pointers_to.ensures ∙ c.as_slice.ensures.value)
    ∙ refreshed_is core.log log group appended old.blocks c.self.invariant.0.logged in
    let pins : (at : BlockNo) → pins_of there at ≡ pins_of old at
    + (if nat_lt (installed_place log) log.places then objects_in plan.read at else 0) =
    λ at. c.keep.ensures.pins.0 at
    ∙ ap (λ (r : Residents). pins_of r at + (if nat_lt c.installed-installed.result.0 c.of-kept.result.place
    then objects_in c.of-kept.result.read at else 0)) c.refresh.ensures
    ∙ ap (λ (one : Footprint). pins_of old at + (if nat_lt c.installed-installed.result.0 one.place
    then objects_in one.read at else 0)) c.of-kept.ensures.is
    ∙ ap (λ (n : ℕ). pins_of old at + (if nat_lt n c.places-place.result.0
    then objects_in plan.read at else 0)) c.installed-installed.ensures
    ∙ ap (λ (n : ℕ). pins_of old at + (if nat_lt (installed_place log) n
    then objects_in plan.read at else 0)) c.places-place.ensures in
    let consistent : IsConsistent log core.holds records there =
    subst (λ (rs : List Footprint). IsConsistent log core.holds rs there) (sym kept)
    (consistent_with core.log log group plan before appended core.holds old there
    (quiet_in seen c.args.tx plan group own (c.in-Ok-group_of.ensures.blocks ∙ c.requires.blocks)
    c.lawful.ensures) c.of-kept.ensures.few pins is c.self.invariant.0) in
    let (spare, at_end) = ended_there (record seen { log = log; present = there.blocks; records = records })
    c.tx.inside.number there left c.end.new.out.items c.end.new.holds refl consistent c.end.ensures.out
    c.end.ensures.holds c.end.ensures.pins in
    let new : CoreState = record seen {
      log = log;
      out = c.end.new.out.items;
      holds = c.end.new.holds;
      present = left.blocks;
      records = records;
    } in
    let made : new ≡ committed spare seen c.args.tx plan log =
    committed_is spare seen new c.args.tx plan log there.blocks records
    (at_end ∙ ap (λ tx. ended spare (record seen { log = log; present = there.blocks; records = records }) tx)
    c.tx.view_is) is kept in
    let contents : All (IsOverlaid seen.present seen.log plan.written) group =
    subst (λ (written : List ObjectBytes).
    All (IsOverlaid old.blocks core.log written) group) c.written-2.ensures c.in-Ok-group_of.ensures.contents in
    let sizes : All (λ (object : ObjectBytes). length object.bytes ≡ object.addr.len) plan.written =
    subst (λ (written : List ObjectBytes).
    All (λ object. length object.bytes ≡ object.addr.len) written) c.written.ensures c.are_sized.ensures in
    let blocks : group_blocks group ≡ blocks_of plan.written =
    c.in-Ok-group_of.ensures.blocks ∙ c.requires.blocks in
    let grown : GrowsBy core.log group log = c.append.ensures.grows (search rules) in
    let still : StandsStill core.log log = search rules in (
      subst (λ (holds : List Hold). IsConsistent log holds records left) (sym c.end.ensures.holds)
          (consistent_ended log core.holds c.tx.inside.number records there left c.end.ensures.pins consistent),
      subst (λ (now : CoreState). IsLawfulCore (OfSome g.C.Change.is_plan) now) (sym made)
          (lawful_commit (OfSome g.C.Change.is_plan) spare seen c.args.tx plan group log own sizes blocks contents
          grown still.blocks c.lawful-in-Appended.ensures c.whole.ensures
          (g.C.Change.answers c.args.change, c.is_planned.ensures) c.self.invariant.1),
      log_counts g.C.Change.are_counts seen new still.blocks refl c.self.invariant.2,
    )

pub returns-in-Appended-clause-taken : goal.returns-in-Appended-clause-taken
returns-in-Appended-clause-taken g c =
    let core = c.self.inside in
    let log : Log = c.append.new.self in
    let plan : Planned = g.C.Change.planned c.args.change in
    let before : List Footprint = core.records.items in
    let records : List Footprint = c.keep.new.records.items in
    let kept : records ≡ with_record log log.places plan before =
    with_preserved log plan c.installed-installed.result.0 c.places-place.result.0 before records
    c.of-kept.result c.installed-installed.ensures c.places-place.ensures c.of-kept.ensures.is
    (c.keep.ensures.records ∙ ap (λ (rs : List Footprint). if nat_lt c.installed-installed.result.0
    c.of-kept.result.place then rs ++ c.of-kept.result ∷ [] else rs) c.reserve.ensures.items) in
    let group : List (BlockNo × Content) = c.in-Ok-group_of.group.items in
    let appended : HasAppended core.log group log = c.append.ensures.seen (search rules) in
    let old : Residents = core.present in
    let there : Residents = c.keep.new.present in
    let left : Residents = c.end.new.present in
    let seen : CoreState = core_of core.log core.inodes core.begun core.out.items core.holds old.blocks before
    core.boot (length core.log_calls.items) (length core.inst_calls.items)
    (length core.refused.items) in
    let own : IsOwn seen c.args.tx plan =
    subst (λ (old : CoreState). IsOwn old c.args.tx plan) (sym c.self.view_is) c.requires.own in
    let is : there.blocks ≡ refreshed log old.blocks =
    c.keep.ensures.pins.1 ∙ ap (λ (r : Residents). r.blocks) c.refresh.ensures
    ∙ ap (renewed_each old.blocks)
    (c.in-Ok-pointers_to.ensures ∙ c.as_slice.ensures.value)
    ∙ refreshed_is core.log log group appended old.blocks c.self.invariant.0.logged in
    let pins : (at : BlockNo) → pins_of there at ≡ pins_of old at
    + (if nat_lt (installed_place log) log.places then objects_in plan.read at else 0) =
    λ at. c.keep.ensures.pins.0 at
    ∙ ap (λ (r : Residents). pins_of r at + (if nat_lt c.installed-installed.result.0 c.of-kept.result.place
    then objects_in c.of-kept.result.read at else 0)) c.refresh.ensures
    ∙ ap (λ (one : Footprint). pins_of old at + (if nat_lt c.installed-installed.result.0 one.place
    then objects_in one.read at else 0)) c.of-kept.ensures.is
    ∙ ap (λ (n : ℕ). pins_of old at + (if nat_lt n c.places-place.result.0
    then objects_in plan.read at else 0)) c.installed-installed.ensures
    ∙ ap (λ (n : ℕ). pins_of old at + (if nat_lt (installed_place log) n
    then objects_in plan.read at else 0)) c.places-place.ensures in
    let consistent : IsConsistent log core.holds records there =
    subst (λ (rs : List Footprint). IsConsistent log core.holds rs there) (sym kept)
    (consistent_with core.log log group plan before appended core.holds old there
    (quiet_in seen c.args.tx plan group own (c.in-Ok-group_of.ensures.blocks ∙ c.requires.blocks)
    c.lawful.ensures) c.of-kept.ensures.few pins is c.self.invariant.0) in
    let (spare, at_end) = ended_there (record seen { log = log; present = there.blocks; records = records })
    c.tx.inside.number there left c.end.new.out.items c.end.new.holds refl consistent c.end.ensures.out
    c.end.ensures.holds c.end.ensures.pins in
    let new : CoreState = record seen {
      log = log;
      out = c.end.new.out.items;
      holds = c.end.new.holds;
      present = left.blocks;
      records = records;
    } in
    let made : new ≡ committed spare seen c.args.tx plan log =
    committed_is spare seen new c.args.tx plan log there.blocks records
    (at_end ∙ ap (λ tx. ended spare (record seen { log = log; present = there.blocks; records = records }) tx)
    c.tx.view_is) is kept in
    let contents : All (IsOverlaid seen.present seen.log plan.written) group =
    subst (λ (written : List ObjectBytes).
    All (IsOverlaid old.blocks core.log written) group) c.written-2.ensures c.in-Ok-group_of.ensures.contents in
    let sizes : All (λ (object : ObjectBytes). length object.bytes ≡ object.addr.len) plan.written =
    subst (λ (written : List ObjectBytes).
    All (λ object. length object.bytes ≡ object.addr.len) written) c.written.ensures c.are_sized.ensures in
    let blocks : group_blocks group ≡ blocks_of plan.written =
    c.in-Ok-group_of.ensures.blocks ∙ c.requires.blocks in
    let grown : GrowsBy core.log group log = c.append.ensures.grows (search rules) in
    let at : TakesPlaceExactly seen c.args.tx plan c.of.result.place.0 new = record {
      tried = search rules;
      next = search rules;
      group = record {
        group = group;
        blocks = blocks;
        contents = contents;
        whole = c.in-Ok-group_of.ensures.whole;
        sizes = sizes;
        seen = appended;
        grown = grown;
      };
      still = search rules;
      places = search rules;
      spare = spare;
      core = made;
      law = c.append.ensures.law;
    } in
    subst (λ (before : CoreState). TakesPlaceExactly before c.args.tx plan c.of.result.place.0 new)
    c.self.view_is at

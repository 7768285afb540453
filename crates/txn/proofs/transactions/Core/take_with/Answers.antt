use Rattle.std.proofs.Common.{◌≡◌, ◌<◌, ◌+◌, ◌-◌, ◌∙◌, ℕ, Bool, true, false, if◌then◌else◌, List, None, Some, ap, length}
use Rattle.std.proofs.Common.{refl, subst, sym, arith}
use Rattle.std.proofs.lemmas.Bool.{eq-eqb}
use Rattle.disk.specs.Device.{Content}
use Rattle.disk.specs.declared.block.BlockNo.{BlockNo}
use Rattle.objects.specs.Pins.{Residents, PinsStay, once_at, pins_of}
use Rattle.objects.specs.Present.{present_of, with_block, without_block}
use Rattle.objects.specs.declared.present.Present.{Present}
use Rattle.objects.proofs.ArePreserved.{back_as_before}
use Rattle.circ.specs.Log.Log.{newest}
use Rattle.objects.proofs.Wanted.{once_here}
use Rattle.txn.proofs.Counted.{held_some}
use Rattle.txn.proofs.Consistent.{consistent_stay, consistent_brought}
use Rattle.txn.specs.Answering.{OfSome}
use Rattle.txn.specs.Consistent.{IsAsLogged, IsConsistent, core_of}
use Rattle.txn.specs.Pinned.{holds_in, newly_in}
use Rattle.txn_law.specs.Core.{CoreState}
use Rattle.txn_law.specs.CoreLaw.{IsLawfulCore}
use Rattle.txn_law.specs.Holds.{with_hold}
use Rattle.txn_law.specs.Lists.{taken}
use Rattle.txn_law.specs.Window.{Footprint}
use Rattle.txn_law.specs.declared.hold.Hold.{Hold}
use Rattle.txn.proofs.transactions.Core.take_with.Goals as goal

pub invariant_of-self-in-Err : goal.invariant_of-self-in-Err
invariant_of-self-in-Err g c =
    let core = c.self.inside in
    let records : List Footprint = core.records.items in
    let old : Residents = core.present in
    let new : Residents = c.take_back.new.self in
    let absent : present_of old.blocks c.args.hold.addr.block ≡ None =
    subst (λ (before : CoreState). present_of before.present c.args.hold.addr.block ≡ None) (sym c.self.view_is)
    c.requires.absent in
    let back : new.blocks ≡ old.blocks =
    c.take_back.ensures.blocks
    ∙ ap (λ (present : List Present). without_block present c.args.hold.addr.block) c.in_ok-bring.ensures.blocks
    ∙ back_as_before old.blocks c.args.hold.addr.block c.args.content absent in
    let stay : PinsStay old new =
    λ at. let more = c.in_ok-bring.ensures.pinned at in let less = c.take_back.ensures.pins at in
    omega (arith, more, less) in
    let seen : CoreState = core_of core.log core.inodes core.begun core.out.items core.holds old.blocks
    records core.boot (length core.log_calls.items) (length core.inst_calls.items)
    (length core.refused.items) in (
      subst (λ (holds : List Hold). IsConsistent core.log holds records new) (sym c.in-Err.ensures.refused)
          (consistent_stay core.log core.holds records old new stay back c.self.invariant.0),
      subst (λ (holds : List Hold). IsLawfulCore (OfSome g.C.Change.is_plan)
          (record seen { holds = holds; present = new.blocks })) (sym c.in-Err.ensures.refused)
          (subst (λ (present : List Present). IsLawfulCore (OfSome g.C.Change.is_plan)
          (record seen { present = present })) (sym back) c.self.invariant.1),
      c.self.invariant.2,
    )

pub returns-in-Err-clause-refused : goal.returns-in-Err-clause-refused
returns-in-Err-clause-refused g c =
    let core = c.self.inside in
    let records : List Footprint = core.records.items in
    let old : Residents = core.present in
    let new : Residents = c.take_back.new.self in
    let absent : present_of old.blocks c.args.hold.addr.block ≡ None =
    subst (λ (before : CoreState). present_of before.present c.args.hold.addr.block ≡ None) (sym c.self.view_is)
    c.requires.absent in
    let back : new.blocks ≡ old.blocks =
    c.take_back.ensures.blocks
    ∙ ap (λ (present : List Present). without_block present c.args.hold.addr.block) c.in_ok-bring.ensures.blocks
    ∙ back_as_before old.blocks c.args.hold.addr.block c.args.content absent in
    let seen : List Hold → List Present → CoreState = λ holds present. record {
      log = core.log;
      inodes = core.inodes;
      begun = core.begun;
      out = core.out.items;
      holds = holds;
      present = present;
      records = records;
      boot = core.boot;
      log_calls = length core.log_calls.items;
      inst_calls = length core.inst_calls.items;
      refused = length core.refused.items;
    } in
    ap (λ (holds : List Hold). seen holds new.blocks) c.in-Err.ensures.refused
    ∙ ap (λ (present : List Present). seen core.holds present) back ∙ c.self.view_is

-- the pin that was for a hold that there was is taken off again
settled : (t again : Bool) (old brought new one : ℕ) → again ≡ t → brought ≡ old + one
    → new ≡ brought - (if again then one else 0) → new ≡ old + (if t then 0 else one)
settled t again old brought new one same more less =
    go t (less ∙ ap (λ (b : Bool). brought - (if b then one else 0)) same)
  where
    go : (t : Bool) → new ≡ brought - (if t then one else 0) → new ≡ old + (if t then 0 else one)
    go true e = omega (arith, more, e)
    go false e = omega (arith, more, e)

-- who had taken the address had pinned its block
pub settle-requires : goal.settle-requires
settle-requires g c =
    λ same.
    let core = c.self.inside in
    let block : BlockNo = c.args.hold.addr.block in
    let held : 0 < holds_in core.holds block =
    held_some c.args.hold.transaction c.args.hold.addr core.holds (sym c.is_held_by-again.ensures ∙ same) in
    let counted = c.self.invariant.0.counted block in
    let once : once_at block block ≡ 1 = once_here block block (eq-eqb block.0 block.0 refl) in
    let more = c.in_ok-bring.ensures.pinned block in
    omega (arith, held, counted, once, more)

pub invariant_of-self-2 : goal.invariant_of-self-2
invariant_of-self-2 g c =
    let core = c.self.inside in
    let records : List Footprint = core.records.items in
    let old : Residents = core.present in
    let brought : Residents = c.bring.new.self in
    let new : Residents = c.settle.new.present in
    let absent : present_of old.blocks c.args.hold.addr.block ≡ None =
    subst (λ (before : CoreState). present_of before.present c.args.hold.addr.block ≡ None) (sym c.self.view_is)
    c.requires.absent in
    let logged : IsAsLogged core.log (record { block = c.args.hold.addr.block; content = c.args.content }) =
    subst (λ (before : CoreState). (newer : Content) → newest before.log c.args.hold.addr.block.0 ≡ Some newer
    → c.args.content ≡ Some newer) (sym c.self.view_is) c.requires.logged in
    let pins : (at : BlockNo) → pins_of new at ≡ pins_of old at + newly_in core.holds c.args.hold at =
    λ at. settled _ c.is_held_by-again.result (pins_of old at) (pins_of brought at) (pins_of new at)
    (once_at c.args.hold.addr.block at) c.is_held_by-again.ensures (c.in_ok-bring.ensures.pinned at)
    (c.settle.ensures.pins at) in
    let blocks : new.blocks ≡ with_block old.blocks c.args.hold.addr.block c.args.content =
    c.settle.ensures.blocks ∙ c.in_ok-bring.ensures.blocks in
    let seen : CoreState = core_of core.log core.inodes core.begun core.out.items core.holds old.blocks
    records core.boot (length core.log_calls.items) (length core.inst_calls.items)
    (length core.refused.items) in
    let lawful : IsLawfulCore (OfSome g.C.Change.is_plan) (taken seen c.args.hold c.args.content) =
    subst (λ (before : CoreState). IsLawfulCore (OfSome g.C.Change.is_plan)
    (taken before c.args.hold c.args.content)) (sym c.self.view_is) c.requires.lawful in (
      subst (λ (holds : List Hold). IsConsistent core.log holds records new) (sym c.in_default.ensures.taken)
          (consistent_brought core.log core.holds c.args.hold records old new c.args.content c.lawful.ensures.apart
          absent logged pins blocks c.self.invariant.0),
      subst (λ (holds : List Hold). IsLawfulCore (OfSome g.C.Change.is_plan)
          (record seen { holds = holds; present = new.blocks })) (sym c.in_default.ensures.taken)
          (subst (λ (present : List Present). IsLawfulCore (OfSome g.C.Change.is_plan)
          (record seen { holds = with_hold core.holds c.args.hold; present = present })) (sym blocks) lawful),
      c.self.invariant.2,
    )

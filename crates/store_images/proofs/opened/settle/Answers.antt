use Rattle.std.proofs.Common.{arith, rules, ◌∙◌, refl, subst, sym, true≢false}
use Rattle.procs.specs.Finished.{HasPlan}
use Rattle.store_images.specs.Further.{LeavesOpen}
use Rattle.store_images.proofs.CallsLeft.{stuck}
use Rattle.store_images.proofs.CallsMade.{made_few, spends_along}
use Rattle.store_images.proofs.SettlingCalls.{settled_by, settles_along}
use Rattle.store_images.specs.Settling.{SpendsCalls, SpendsSettling}
use Rattle.store_images.proofs.Staying.{prefixes_preserved, stay_along, still_open}
use Rattle.store_images.proofs.StillOpen.{open_then, same_open}
use Rattle.store_images.specs.SettlingStops.{StayOpen}
use Rattle.store_images.proofs.opened.settle.Goals.{else-is_settled-via-then-is_settled+else-not-has_too_many_uninstalled}
use Rattle.store_images.proofs.opened.settle.Goals.{else-is_settled-via-else-is_settled}
use Rattle.store_images.proofs.opened.settle.Goals.{else-not-call_one-via-then-not-call_one+else-not-call_one-2}
use Rattle.store_images.proofs.opened.settle.Goals.{else-not-call_one-via-else-not-call_one}
use Rattle.store_images.proofs.opened.settle.Goals as goal

pub unreachable-requires : goal.unreachable-requires
unreachable-requires g c =
    let core = c.calls.store.core in
    let rest = stuck core c.call_one.new.store.core HasPlan c.lawful-in-calls.ensures (search rules)
    (c.calls.invariant.1.log_out ∙ c.requires.logging) (c.calls.invariant.1.inst_out ∙ c.requires.installing)
    c.if-not-call_one.ensures.may (c.if-not-call_one.ensures.none refl).0 c.if-not-call_one-2.ensures.may in
    elim c.else-is_settled.branch [
      | else-is_settled-via-then-is_settled+else-not-has_too_many_uninstalled w ↦
          let many = w.if-not-has_too_many_uninstalled.ensures.0 refl in grind (arith, rest.1)
      | else-is_settled-via-else-is_settled w ↦
          absurd (true≢false (sym (w.if-is_settled.ensures.1 rest.0)))
    ]

pub returns-then-broken-clause-few : goal.returns-then-broken-clause-few
returns-then-broken-clause-few g c =
    made_few (g.D.CrashDisk.device c.args.store.now.disk) (g.D.CrashDisk.device c.calls.store.disk)
    c.args.store.now.core.log c.calls.store.core.log c.calls.invariant.8

pub returns-then-broken-clause-bound : goal.returns-then-broken-clause-bound
returns-then-broken-clause-bound g c =
    settled_by (g.D.CrashDisk.device c.args.store.now.disk) (g.D.CrashDisk.device c.calls.store.disk)
    c.args.store.now.core.log c.calls.store.core.log c.lawful.ensures.log c.requires
    c.calls.invariant.9

pub returns-then-broken-clause-preserves : goal.returns-then-broken-clause-preserves
returns-then-broken-clause-preserves g c = λ preserves.
    prefixes_preserved (g.D.CrashDisk.device c.args.store.now.disk) (g.D.CrashDisk.device c.calls.store.disk)
    c.args.store.now.core c.calls.store.core (g.met.D.CrashDisk.whole c.calls.store.disk preserves)
    c.an_open_store_preserves_its_files.ensures.now c.a_stop_leaves_a_beginning.ensures.files c.calls.invariant.7

pub returns-then-not-has_too_many_uninstalled-clause-few : goal.returns-then-not-has_too_many_uninstalled-clause-few
returns-then-not-has_too_many_uninstalled-clause-few g c =
    made_few (g.D.CrashDisk.device c.args.store.now.disk) (g.D.CrashDisk.device c.calls.store.disk)
    c.args.store.now.core.log c.calls.store.core.log c.calls.invariant.8

pub returns-then-not-has_too_many_uninstalled-clause-bound : goal.returns-then-not-has_too_many_uninstalled-clause-bound
returns-then-not-has_too_many_uninstalled-clause-bound g c =
    settled_by (g.D.CrashDisk.device c.args.store.now.disk) (g.D.CrashDisk.device c.calls.store.disk)
    c.args.store.now.core.log c.calls.store.core.log c.lawful.ensures.log c.requires
    c.calls.invariant.9

pub returns-then-not-has_too_many_uninstalled-clause-preserves : goal.returns-then-not-has_too_many_uninstalled-clause-preserves
returns-then-not-has_too_many_uninstalled-clause-preserves g c = λ preserves.
    prefixes_preserved (g.D.CrashDisk.device c.args.store.now.disk) (g.D.CrashDisk.device c.calls.store.disk)
    c.args.store.now.core c.calls.store.core (g.met.D.CrashDisk.whole c.calls.store.disk preserves)
    c.an_open_store_preserves_its_files.ensures.now c.a_stop_leaves_a_beginning.ensures.files c.calls.invariant.7

pub calls-init : goal.calls-init
calls-init g c =
    let device = g.D.CrashDisk.device c.args.store.now.disk in
    let core = c.args.store.now.core in (
      search rules,
      search rules,
      search rules,
      search rules,
      search rules,
      search rules,
      same_open device core,
      still_open device core,
      record { few = omega arith },
      record { few = omega arith },
    )

pub calls-preserved : goal.calls-preserved
calls-preserved g c =
    let device = g.D.CrashDisk.device in
    let first = c.args.store.now in
    let old = c.calls.store in
    let mid = c.call_one.new.store in
    let logged : LeavesOpen (device first.disk) first.core (device mid.disk) mid.core =
    open_then (device first.disk) (device old.disk) (device mid.disk) first.core old.core mid.core
    c.calls.invariant.6 c.call_one.ensures.open in
    let stayed : StayOpen (device first.disk) first.core (device mid.disk) mid.core =
    stay_along (device first.disk) (device old.disk) (device mid.disk) first.core old.core mid.core
    c.calls.invariant.7 c.call_one.ensures.stays in
    let spent : SpendsCalls (device first.disk) first.core.log (device mid.disk) mid.core.log =
    spends_along (device first.disk) (device old.disk) (device mid.disk) first.core.log
    old.core.log mid.core.log
    c.calls.invariant.8 c.call_one.ensures.few in
    let settled : SpendsSettling (device first.disk) first.core.log (device mid.disk) mid.core.log =
    settles_along (device first.disk) (device old.disk) (device mid.disk) first.core.log
    old.core.log mid.core.log
    c.calls.invariant.9 (c.call_one.ensures.spends tt) in
    elim c.else-not-call_one.branch [
      | else-not-call_one-via-then-not-call_one+else-not-call_one-2 w ↦
          let new = w.call_one-then-not-call_one.new.store in
          let same = sym w.store-is in (
            search rules,
            search rules,
            search rules,
            search rules,
            search rules,
            search rules,
            subst (λ s. LeavesOpen (device first.disk) first.core (device s.disk) s.core) same
                (open_then (device first.disk) (device mid.disk) (device new.disk) first.core mid.core
                new.core logged
                w.call_one-then-not-call_one.ensures.open),
            subst (λ s. StayOpen (device first.disk) first.core (device s.disk) s.core) same
                (stay_along (device first.disk) (device mid.disk) (device new.disk) first.core mid.core
                new.core stayed
                w.call_one-then-not-call_one.ensures.stays),
            subst (λ s. SpendsCalls (device first.disk) first.core.log (device s.disk) s.core.log) same
                (spends_along (device first.disk) (device mid.disk) (device new.disk)
                first.core.log mid.core.log
                new.core.log spent w.call_one-then-not-call_one.ensures.few),
            subst (λ s. SpendsSettling (device first.disk) first.core.log (device s.disk) s.core.log) same
                (settles_along (device first.disk) (device mid.disk) (device new.disk)
                first.core.log mid.core.log
                new.core.log settled (w.call_one-then-not-call_one.ensures.spends (search rules))),
          )
      | else-not-call_one-via-else-not-call_one w ↦
          let same = sym w.store-is in (
            search rules,
            search rules,
            search rules,
            search rules,
            search rules,
            search rules,
            subst (λ s. LeavesOpen (device first.disk) first.core (device s.disk) s.core) same logged,
            subst (λ s. StayOpen (device first.disk) first.core (device s.disk) s.core) same stayed,
            subst (λ s. SpendsCalls (device first.disk) first.core.log (device s.disk) s.core.log) same spent,
            subst (λ s. SpendsSettling (device first.disk) first.core.log (device s.disk) s.core.log) same
                settled,
          )
    ]

-- A call that begins no transaction leads nowhere; what another writes is the next tree at home.
use Rattle.std.proofs.Common.{◌∙◌, refl, sym, subst, All, List}
use Rattle.disk.specs.Crash.{Image}
use Rattle.disk.specs.Device.{Device}
use Rattle.layout.specs.Homes.{homes_of}
use Rattle.layout.specs.Stands.{Stands}
use Rattle.objects.specs.Object.{ObjectBytes}
use Rattle.txn_law.specs.Window.{with_objects}
use Rattle.circ.specs.Log.Log.{IsHomeOn}
use Rattle.circ.specs.Log.Recovery.{image_of}
use Rattle.circ.proofs.LogLemmas.OnlyRead.{certain_then}
use Rattle.store_images.specs.Replays.Putting.{HasComeHome}
use Rattle.store_images.specs.Replays.Replayed.{leads}
use Rattle.store_images.proofs.ReplaysLemmas.AtHome.{home_then, image_same, next_home}
use Rattle.store_images.proofs.replays.entry_replay.replay_one.Goals as goal

pub returns-then-not-begins_transaction-clause-replayed :
    goal.returns-then-not-begins_transaction-clause-replayed
returns-then-not-begins_transaction-clause-replayed g c = λ tree boot holds early is_preserved. (
  tree,
  subst (λ begins. leads begins tree c.args.ctx.now c.args.call.now tree)
      (sym c.if-not-begins_transaction.true ∙ c.begins_transaction.ensures) refl,
  holds,
)

pub returns-in-Ok-clause-replayed : goal.returns-in-Ok-clause-replayed
returns-in-Ok-clause-replayed g c = λ tree boot holds early is_preserved.
    let geometry = c.args.geometry in
    let before : Device = g.D.CrashDisk.device c.args.disk.now in
    let mid : Device = g.D.CrashDisk.device c.plan_over.new.disk in
    let later : Device = g.D.CrashDisk.device c.bring_home.new.disk in
    let reads = c.plan_over.ensures.reads in
    let written : List ObjectBytes = c.in_ok-done.done.written in
    let came : HasComeHome mid later (with_objects (image_of mid) written) =
    subst (λ (os : List ObjectBytes). HasComeHome mid later (with_objects (image_of mid) os)) c.written.ensures
    (c.in-Ok.ensures.home is_preserved (certain_then before mid reads holds.rest.certain)) in
    let next = c.in_ok-done.ensures.leads (c.bring_home.ensures.model is_preserved) holds.rest.certain tree
    holds.stands in (
      next.0,
      subst (λ begins. leads begins tree c.args.ctx.now c.args.call.now next.0)
          (sym c.if-not-begins_transaction.false ∙ c.begins_transaction.ensures)
          (c.in_ok-done.done.reply, next.1),
      next_home geometry mid later tree next.0 boot written (home_then geometry before mid tree boot reads holds)
          c.bring_home.ensures.later.size
          (subst (λ n. All (λ (object : ObjectBytes). IsHomeOn n object.addr.block) written) (sym reads.size)
          c.in_ok-done.ensures.home)
          came
          (subst (λ (image : Image). Stands geometry (with_objects (homes_of geometry.blocks image) written)
          next.0)
          (sym (image_same before mid reads)) next.2)
          (c.no_step_makes_a_later_stamp.ensures boot tree next.0 c.args.ctx.now c.args.call.now
          c.in_ok-done.done.reply holds.stamps early next.1),
    )

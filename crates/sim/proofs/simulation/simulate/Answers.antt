use Rattle.std.proofs.Common.{◌≡◌, arith, length}
use Rattle.std.proofs.lemmas.Result.{on_ok_weaker}
use Rattle.std.specs.Vec.Iter.{into_iter_items}
use Rattle.sim.specs.declared.stage.Stage.TheVariants.{First}
use Rattle.sim.proofs.Printed.{it_ends_at}
use Rattle.sim.proofs.simulation.simulate.Goals as goal

pub returns : goal.returns
returns g c =
    let it = c.commands.command-iterator in
    let none = c.in-None.ensures.steps.0 in
    let left = it.rest.ok.0 in
    let ended : length (into_iter_items it) ≡ 0 = omega (arith, none, left) in
    on_ok_weaker c.finish.result (it_ends_at _ c.commands.moment First c.commands.stage c.args.script.items
    (into_iter_items it) (g.W.Write.contents c.args.out.now) (g.W.Write.contents c.commands.out)
    (g.W.Write.contents c.finish.new.out) ended c.commands.invariant.1) c.finish.ensures

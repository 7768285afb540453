use Rattle.std.proofs.Common.{◌≡◌, ◌≤◌, List, ap, ◌∙◌, arith, subst, sym, All}
use Rattle.base.specs.declared.TheConstants.{LOG_SLOTS}
use Rattle.disk.specs.Device.{Content}
use Rattle.disk.specs.declared.block.BlockNo.{BlockNo}
use Rattle.circ.specs.Log.Log.{Log, added_blocks, blocks_of, tail_after, IsHomeOn}
use Rattle.circ.specs.Log.Room.{HasPlaces}
use Rattle.wal.specs.View.{log_of}
use Rattle.circ.proofs.LogLemmas.Lawful.{lawful_with_group}
use Rattle.wal.proofs.memory.Wal.add.Goals as goal

pub invariant_of-self : goal.invariant_of-self
invariant_of-self c =
    let log : Log = log_of c.self.inside in
    let added : c.count_new-added.result ≡ added_blocks log (blocks_of c.args.group.items) =
    c.count_new-added.ensures
    ∙ ap (λ (g : List (BlockNo × Content)). added_blocks log (blocks_of g)) c.deref.ensures.value in
    let fits : tail_after log (blocks_of c.args.group.items) ≤ LOG_SLOTS =
    omega (arith, added, c.if-len-preceding.false) in (
      rw c.in-Ok.ensures.appended
          (lawful_with_group log c.args.group.items c.self.invariant.0
          (subst (λ (l : Log). HasPlaces l (blocks_of c.args.group.items)) (sym c.self.view_is) c.requires.places)
          fits
          (subst (λ (l : Log). All (IsHomeOn l.blocks) (blocks_of c.args.group.items)) (sym c.self.view_is)
          c.requires.homes)
          c.requires.once),
      c.self.invariant.1,
      c.self.invariant.2,
    )

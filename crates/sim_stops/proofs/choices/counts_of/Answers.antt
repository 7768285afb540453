use Rattle.std.proofs.Common.{rules, ◌≡◌, ◌∙◌, ◌<◌, ap, length, List, [], ℕ}
use Rattle.std.proofs.Math.ListN.{get_or}
use Rattle.disk.specs.Memory.{Blocks, blocks_of, past_of}
use Rattle.sim_stops.proofs.Counted.{counts_more, counts_same, held_now}
use Rattle.sim_stops.proofs.choices.counts_of.Goals as goal
use Rattle.sim_stops.proofs.choices.counts_of.Goals.{then-count-gt1+in_ok-push, else-count-gt1}

pub loop-block-preserved : goal.loop-block-preserved
loop-block-preserved c =
    let blocks : Blocks = blocks_of c.args.disk.now in
    let block = c.loop-block.block in
    let there : block < length blocks = search rules in
    let counted : c.count-count.result ≡ length (get_or blocks block []) = c.count-count.ensures
    ∙ ap (λ (held : Blocks). length (get_or held block [])) (held_now blocks (past_of c.args.disk.now)) in
    elim c.if-count-gt1.branch [
      | then-count-gt1+in_ok-push w ↦ search (rules, counted, counts_more blocks block [] there)
      | else-count-gt1 w ↦ search (rules, counted, counts_same blocks block [] there)
    ]

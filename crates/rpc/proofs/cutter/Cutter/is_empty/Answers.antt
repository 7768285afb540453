use Rattle.std.proofs.Common.{inl, inr}
use Rattle.rpc.proofs.Stages.{not_empty, not_fresh}
use Rattle.rpc.specs.Cutting.{taken_text}
use Rattle.rpc.proofs.cutter.Cutter.is_empty.Goals as goal

pub returns-in-Between : goal.returns-in-Between
returns-in-Between c =
    let cutter = c.args.self.now in
    not_empty (taken_text cutter.taken.items) cutter.pending.items
    (not_fresh cutter.stage (taken_text cutter.taken.items) cutter.content.items c.requires
    (λ e. elim c.in-Between.is [
      | inl between ↦ absurd (cc (e, between))
      | inr inside ↦ absurd (cc (e, inside.2))
    ]))

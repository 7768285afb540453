use Rattle.std.proofs.Common.{◌≡◌, [], ◌∷◌, ◌++◌, length, get_or, refl, ap, sym, ◌∙◌}
use Rattle.disk.specs.declared.call_record.Call.TheVariants.{Barrier}
use Rattle.std.proofs.lemmas.List.{with_items_is}
use Rattle.disk.specs.Memory.{Blocks, blocks_of, past_of, memory_device}
use Rattle.disk.specs.Device.{Device, HasSettled}
use Rattle.disk.proofs.MemoryLemmas.{moved, has_settled, settles_if_ok, settles_if_err}
use Rattle.disk.proofs.mem_disk.MemDiskCrashDisk.barrier.Goals as goal
use Rattle.disk.proofs.mem_disk.MemDiskCrashDisk.barrier.Goals.{then-is_ok, else-is_ok}

pub returns-clause-call : goal.returns-clause-call
returns-clause-call c =
    let now : Blocks = blocks_of c.args.self.now in
    elim c.if-is_ok.branch [
      | then-is_ok w ↦
          let new : Blocks = w.settle.new.blocks in
          let len : length new ≡ length now = w.settle.ensures.len ∙ ap length w.deref_mut.ensures.value in
          let same : past_of c.if-is_ok.self ≡ past_of c.args.self.now = ap past_of w.self-is in
          let blocks : blocks_of c.trace.new.self ≡ new = c.trace.ensures.blocks ∙ ap blocks_of w.self-is
          ∙ with_items_is c.args.self.now.blocks new (w.settle.ensures.len ∙ w.deref_mut.ensures.len) in
          let past : past_of c.trace.new.self ≡ past_of c.args.self.now
          ++ (now, record { call = Barrier c.args.side; result = c.outcome-result.result }) ∷ [] =
          rw (c.of-before.ensures, same) at c.trace.ensures.past in
          moved (λ (d : Device). HasSettled (memory_device c.args.self.now) c.args.side
          c.outcome-result.result d)
          new (blocks_of c.trace.new.self) (past_of c.args.self.now
          ++ (now, record { call = Barrier c.args.side; result = c.outcome-result.result }) ∷ [])
          (past_of c.trace.new.self) blocks past
          (has_settled now new (past_of c.args.self.now) c.args.side c.outcome-result.result len
          (λ block. settles_if_ok c.args.side block (get_or now block []) (get_or new block [])
          c.outcome-result.result (sym c.is_ok.ensures.value
          ∙ w.if-is_ok.true) (rw w.deref_mut.ensures.value at w.settle.ensures.contents block)))
      | else-is_ok w ↦
          let past : past_of c.trace.new.self ≡ past_of c.args.self.now
          ++ (now, record { call = Barrier c.args.side; result = c.outcome-result.result }) ∷ [] =
          rw (c.of-before.ensures, w.self-is) at c.trace.ensures.past in
          moved (λ (d : Device). HasSettled (memory_device c.args.self.now) c.args.side
          c.outcome-result.result d)
          now (blocks_of c.trace.new.self) (past_of c.args.self.now
          ++ (now, record { call = Barrier c.args.side; result = c.outcome-result.result }) ∷ [])
          (past_of c.trace.new.self)
          (c.trace.ensures.blocks ∙ ap blocks_of w.self-is) past
          (has_settled now now (past_of c.args.self.now) c.args.side c.outcome-result.result refl
          (λ block. settles_if_err c.args.side block (get_or now block []) (get_or now block [])
          c.outcome-result.result (sym c.is_ok.ensures.value ∙ w.if-is_ok.false) refl))
    ]

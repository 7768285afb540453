-- By the stage of the side's batch: the write of a block, the write that tells of them, or a barrier.
use Rattle.std.proofs.Common.{◌≡◌, ◌<◌, ◌+◌, ◌∙◌, ℕ, ap, arith, inl, inr, subst, sym}
use Rattle.disk.specs.Device.{Content}
use Rattle.circ.specs.Log.Io.{Io}
use Rattle.circ.specs.declared.log.calls.IoCall.{IoCall}
use Rattle.circ.specs.Log.Log.{Log}
use Rattle.wal.specs.Batch.{IsStageOf, step_at}
use Rattle.wal.specs.ByRole.{IsBody, IsControlWrite, preceding_of, step_of, taken_by}
use Rattle.wal.specs.Sides.{IsNextCall}
use Rattle.wal.specs.declared.memory.batch.Batch.{Batch}
use Rattle.wal.specs.declared.memory.batch.Stage.{Stage}
use Rattle.wal.specs.declared.memory.batch.Stage.TheVariants.{Body}
use Rattle.wal.proofs.Stages.{next_barrier_is, next_body_is, next_control_is, stage_fits, step_is, taken_is}
use Rattle.wal.proofs.memory.Wal.io.Goals.{in-Body, in-Header, in-BodyBarrier}
use Rattle.wal.proofs.memory.Wal.io.Goals as goal

pub returns-clause-call : goal.returns-clause-call
returns-clause-call c =
    let role = c.args.role in
    let log : Log = c.args.self.now in
    let batch : Batch = c.of-batch.result.now in
    let io : Io = record {
      beginning = c.start.result + c.preceding.result;
      step = c.step.result;
      call = c.match-batch.call.0;
      content = c.match-batch.call.1;
    } in
    let start : c.start.result ≡ log.start = c.start.ensures ∙ ap (λ (l : Log). l.start) c.self.view_is in
    let beginning : io.beginning ≡ log.start + preceding_of role log = omega (arith, start, c.preceding.ensures) in
    let taken : taken_by role log ≡ batch.taken =
    taken_is role c.self.inside log batch c.self.view_is c.of-batch.ensures in
    let at : step_of role log ≡ step_at batch.taken batch.stage =
    step_is role c.self.inside log batch c.self.view_is c.of-batch.ensures in
    let step : io.step ≡ step_of role log = c.step.ensures ∙ sym at in
    elim c.match-batch.branch as (λ _. IsNextCall role log io) [
      | in-Body w ↦ let number : ℕ = w.in-Body.number in
          let is : step_of role log ≡ number =
          at ∙ ap (λ (stage : Stage). step_at batch.taken stage) w.in-Body.is in
          let fits : IsStageOf batch.taken (Body number) = stage_fits role c.self.inside batch (Body number)
          c.self.invariant c.of-batch.ensures w.in-Body.is in
          let within : step_of role log < taken_by role log = omega (arith, taken, is, fits) in
          next_body_is role log io w.hand_body-content.result.0 within beginning step
          (ap (λ (out : IoCall × Content). out.0) w.call-is)
          (subst (λ (content : Content). IsBody role log (step_of role log) w.hand_body-content.result.0 content)
          (sym (ap (λ (out : IoCall × Content). out.1) w.call-is))
          (subst (λ (n : ℕ). IsBody role log n w.hand_body-content.result.0 w.hand_body-content.result.1) (sym is)
          w.hand_body-content.ensures.value))
      | in-Header w ↦ let is : step_of role log ≡ taken_by role log + 1 =
          at ∙ ap (λ (stage : Stage). step_at batch.taken stage) w.in-Header.is ∙ ap (λ (n : ℕ). n + 1) (sym taken) in
          next_control_is role log io w.put_control-block.result is beginning step
          (ap (λ (out : IoCall × Content). out.0) w.call-is)
          (subst (λ (content : Content). IsControlWrite role log w.put_control-block.result content)
          (sym (ap (λ (out : IoCall × Content). out.1) w.call-is ∙ w.own.ensures)) w.put_control-block.ensures.value)
      | in-BodyBarrier w ↦ elim w.in-BodyBarrier.is as (λ _. IsNextCall role log io) [
        | inl first ↦ let is : step_of role log ≡ taken_by role log =
            at ∙ ap (λ (stage : Stage). step_at batch.taken stage) first ∙ sym taken in
            next_barrier_is role log io (omega (arith, is)) (λ other. omega (arith, is, other)) beginning step
            (ap (λ (out : IoCall × Content). out.0) w.call-is)
        | inr last ↦ let is : step_of role log ≡ taken_by role log + 2 =
            at ∙ ap (λ (stage : Stage). step_at batch.taken stage) last ∙ ap (λ (n : ℕ). n + 2) (sym taken) in
            next_barrier_is role log io (omega (arith, is)) (λ other. omega (arith, is, other)) beginning step
            (ap (λ (out : IoCall × Content). out.0) w.call-is)
      ]
    ]

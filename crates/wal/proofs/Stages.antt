-- A side's call, by its stage.
use Rattle.std.proofs.Common.{◌≡◌, ◌≤◌, ◌<◌, ◌+◌, ◌∙◌, Bool, false, ap, arith, subst, sym}
use Rattle.disk.specs.declared.block.BlockNo.{BlockNo}
use Rattle.disk.specs.declared.block.Side.{Side}
use Rattle.disk.specs.declared.block.Side.TheVariants.{Log as LogSide, Home}
use Rattle.circ.specs.Log.Io.{Io}
use Rattle.circ.specs.Log.Log.{IsLawful, Log}
use Rattle.circ.specs.declared.log.calls.IoCall.TheVariants.{Barrier, Write}
use Rattle.circ.proofs.LogLemmas.Lawful.{lawful_group_settled}
use Rattle.wal.specs.Batch.{IsStageOf, batch_of, step_at}
use Rattle.wal.specs.ByRole.{IsBody, IsControlWrite, preceding_of, step_of, taken_by}
use Rattle.wal.specs.Sides.{IsNextCall}
use Rattle.wal.specs.View.{IsSound, log_of}
use Rattle.wal.specs.declared.memory.Wal.TheInside.{Inside}
use Rattle.wal.specs.declared.memory.batch.Batch.{Batch}
use Rattle.wal.specs.declared.memory.batch.Stage.{Stage}

-- ---- what the fields of a side tell

pub taken_is : (role : Side) (w : Inside) (log : Log) (batch : Batch) → log_of w ≡ log
    → batch ≡ batch_of role w.batches → taken_by role log ≡ batch.taken
taken_is LogSide w log batch same is =
    ap (λ (l : Log). l.taken) (sym same) ∙ ap (λ (b : Batch). b.taken) (sym is)
taken_is Home w log batch same is =
    ap (λ (l : Log). l.installing) (sym same) ∙ ap (λ (b : Batch). b.taken) (sym is)

pub step_is : (role : Side) (w : Inside) (log : Log) (batch : Batch) → log_of w ≡ log
    → batch ≡ batch_of role w.batches → step_of role log ≡ step_at batch.taken batch.stage
step_is LogSide w log batch same is =
    ap (λ (l : Log). l.log_step) (sym same) ∙ ap (λ (b : Batch). step_at b.taken b.stage) (sym is)
step_is Home w log batch same is =
    ap (λ (l : Log). l.inst_step) (sym same) ∙ ap (λ (b : Batch). step_at b.taken b.stage) (sym is)

pub stage_fits : (role : Side) (w : Inside) (batch : Batch) (stage : Stage) → IsSound w
    → batch ≡ batch_of role w.batches → batch.stage ≡ stage → IsStageOf batch.taken stage
stage_fits LogSide w batch stage sound is at =
    subst (IsStageOf batch.taken) at (subst (λ (b : Batch). IsStageOf b.taken b.stage) (sym is) sound.1)
stage_fits Home w batch stage sound is at =
    subst (IsStageOf batch.taken) at (subst (λ (b : Batch). IsStageOf b.taken b.stage) (sym is) sound.2)

-- ---- which call is next

pub next_body_is : (role : Side) (log : Log) (io : Io) (block : BlockNo) → step_of role log < taken_by role log
    → io.beginning ≡ log.start + preceding_of role log → io.step ≡ step_of role log → io.call ≡ Write block
    → IsBody role log (step_of role log) block io.content → IsNextCall role log io
next_body_is LogSide log io block within beginning step call body = record {
  beginning = beginning;
  step = step;
  body = λ _ change is. (call ∙ ap (λ (b : BlockNo). Write b) (body change is).0, (body change is).1);
  body_barrier = λ no. absurd (omega (arith, within, no));
  header = λ no. absurd (omega (arith, within, no));
  header_barrier = λ no. absurd (omega (arith, within, no));
}
next_body_is Home log io block within beginning step call body = record {
  beginning = omega (arith, beginning);
  step = step;
  home = λ _ change is. (call ∙ ap (λ (b : BlockNo). Write b) (body change is).0, (body change is).1);
  home_barrier = λ no. absurd (omega (arith, within, no));
  start = λ no. absurd (omega (arith, within, no));
  start_barrier = λ no. absurd (omega (arith, within, no));
}

pub next_control_is : (role : Side) (log : Log) (io : Io) (block : BlockNo)
    → step_of role log ≡ taken_by role log + 1 → io.beginning ≡ log.start + preceding_of role log
    → io.step ≡ step_of role log → io.call ≡ Write block → IsControlWrite role log block io.content
    → IsNextCall role log io
next_control_is LogSide log io block at beginning step call tells = record {
  beginning = beginning;
  step = step;
  body = λ no. absurd (omega (arith, at, no));
  body_barrier = λ no. absurd (omega (arith, at, no));
  header = λ _. (call ∙ ap (λ (b : BlockNo). Write b) tells.0, tells.1);
  header_barrier = λ no. absurd (omega (arith, at, no));
}
next_control_is Home log io block at beginning step call tells = record {
  beginning = omega (arith, beginning);
  step = step;
  home = λ no. absurd (omega (arith, at, no));
  home_barrier = λ no. absurd (omega (arith, at, no));
  start = λ _. (call ∙ ap (λ (b : BlockNo). Write b) tells.0, tells.1);
  start_barrier = λ no. absurd (omega (arith, at, no));
}

pub next_barrier_is : (role : Side) (log : Log) (io : Io) → taken_by role log ≤ step_of role log
    → (step_of role log ≡ taken_by role log + 1 → ⊥) → io.beginning ≡ log.start + preceding_of role log
    → io.step ≡ step_of role log → io.call ≡ Barrier role → IsNextCall role log io
next_barrier_is LogSide log io low other beginning step call = record {
  beginning = beginning;
  step = step;
  body = λ no. absurd (omega (arith, low, no));
  body_barrier = λ _. call;
  header = λ no. absurd (other no);
  header_barrier = λ _. call;
}
next_barrier_is Home log io low other beginning step call = record {
  beginning = omega (arith, beginning);
  step = step;
  home = λ no. absurd (omega (arith, low, no));
  home_barrier = λ _. call;
  start = λ no. absurd (other no);
  start_barrier = λ _. call;
}

-- ---- the end of a group

pub lawful_group_ended : (log : Log) → IsLawful log → log.log_out ≡ false
    → IsLawful (record log { logged = log.logged + log.taken; taken = 0; log_step = 0 })
lawful_group_ended log lawful none =
    subst (λ (out : Bool). IsLawful (record log {
      logged = log.logged + log.taken;
      taken = 0;
      log_step = 0;
      log_out = out;
    })) (sym none) (lawful_group_settled log lawful)

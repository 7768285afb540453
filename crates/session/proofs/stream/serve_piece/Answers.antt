use Rattle.std.proofs.Common.{◌++◌, refl, inl, ℕ, List, subst, sym}
use Rattle.store_images.specs.Opening.{store_of}
use Rattle.session.specs.Streaming.{IsCourse}
use Rattle.session.specs.Writing.{output_state_of}
use Rattle.session.proofs.Courses.{feeds}
use Rattle.session.proofs.stream.serve_piece.Goals as goal

pub returns-in-Ok-clause-going : goal.returns-in-Ok-clause-going
returns-in-Ok-clause-going g c = λ first unwritten read course.
    let was = c.args.store.now in
    let preserves = g.D.CrashDisk.keeps_model was.disk in
    let old = store_of (g.D.CrashDisk.device was.disk) was.core was.boot in
    let output_state = output_state_of g.W.Write.contents c.args.writer.now in
    let piece = c.args.piece.now in
    c.serve_records.ensures.going first unwritten (read ++ piece)
    (subst (λ (l : List ℕ). IsCourse preserves c.args.moment first unwritten (read ++ piece) l
    c.args.count old output_state) (sym c.in-Ok.ensures.ok)
    (feeds preserves c.args.moment first unwritten read c.args.records.now c.args.count old output_state piece course))

pub returns-in-Err-clause-going : goal.returns-in-Err-clause-going
returns-in-Err-clause-going g c = λ first unwritten read course.
    let was = c.args.store.now in
    let preserves = g.D.CrashDisk.keeps_model was.disk in
    let old = store_of (g.D.CrashDisk.device was.disk) was.core was.boot in
    let output_state = output_state_of g.W.Write.contents c.args.writer.now in
    let piece = c.args.piece.now in (
      c.args.records.now ++ piece,
      c.args.count,
      old,
      output_state,
      feeds preserves c.args.moment first unwritten read c.args.records.now c.args.count old output_state piece course,
      inl (refl, refl),
    )

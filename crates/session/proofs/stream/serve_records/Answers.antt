use Rattle.std.proofs.Common.{arith, ◌≡◌, ◌∙◌, ◌++◌, ℕ, List, IfNone, IfSome, subst, sym}
use Rattle.rpc.specs.Records.{IsRecord}
use Rattle.store_images.specs.Opening.{store_of}
use Rattle.session.specs.Streaming.{IsCourse, IsUnfinished}
use Rattle.session.specs.Writing.{output_state_of}
use Rattle.session.proofs.Courses.{longer, serves, stops_reading, stops_serving}
use Rattle.session.proofs.stream.serve_records.Goals as goal

pub returns-in-Ok-None-clause-going : goal.returns-in-Ok-None-clause-going
returns-in-Ok-None-clause-going g c = λ first unwritten read course.
    let was = c.records.store in
    let old = store_of (g.D.CrashDisk.device was.disk) was.core was.boot in
    let same = sym (subst (λ o. IfNone o (c.next_record.new.records ≡ c.records.records))
    c.in-Ok-None.field-0-is
    c.in-Ok-None.ensures.nothing) in (
      subst (λ (l : List ℕ). IsCourse (g.D.CrashDisk.keeps_model was.disk) c.args.moment first unwritten read l
          c.records.replies old (output_state_of g.W.Write.contents c.records.writer)) same
          (c.records.invariant.3 first unwritten read course),
      subst IsUnfinished same (subst (λ o. IfNone o (IsUnfinished c.records.records)) c.in-Ok-None.field-0-is
          c.in-Ok-None.ensures.unfinished),
    )

pub returns-in-Err-clause-going : goal.returns-in-Err-clause-going
returns-in-Err-clause-going g c = λ first unwritten read course.
    let was = c.records.store in
    let old = store_of (g.D.CrashDisk.device was.disk) was.core was.boot in
    let output_state = output_state_of g.W.Write.contents c.records.writer in (
      c.records.records,
      c.records.replies,
      old,
      output_state,
      c.records.invariant.3 first unwritten read course,
      stops_reading (g.D.CrashDisk.keeps_model was.disk) c.args.moment c.in-Err.fault c.records.records old output_state
          c.in-Err.ensures.err,
    )

pub returns-in-Err-serve_record-clause-going : goal.returns-in-Err-serve_record-clause-going
returns-in-Err-serve_record-clause-going g c = λ first unwritten read course.
    let preserves = g.D.CrashDisk.keeps_model in
    let was = c.records.store in
    let old = store_of (g.D.CrashDisk.device was.disk) was.core was.boot in
    let output_state = output_state_of g.W.Write.contents c.records.writer in
    let now = c.serve_record.new.store in
    let new = store_of (g.D.CrashDisk.device now.disk) now.core now.boot in
    let found = subst (λ o. IfSome o (λ content. (text : List ℕ) × IsRecord text content
    × (c.records.records ≡ text ++ c.next_record.new.records))) c.in-Ok-Some.field-0-is
    c.in-Ok-Some.ensures.found in
    let is = found.1 in (
      c.records.records,
      c.records.replies,
      old,
      output_state,
      longer (preserves was.disk) (preserves now.disk) c.serve_record.ensures.model c.args.moment first unwritten read
          c.records.records c.records.replies old output_state (c.records.invariant.3 first unwritten read course),
      stops_serving (preserves now.disk) c.args.moment c.in-Err-serve_record.fault c.records.records found.0 _
          c.next_record.new.records old output_state new (output_state_of g.W.Write.contents c.serve_record.new.writer) found.2 is
          c.in-Err-serve_record.ensures.serves,
    )

pub records-preserved-in-Ok : goal.records-preserved-in-Ok
records-preserved-in-Ok g c = (
  c.serve_record.ensures.idle,
  c.serve_record.ensures.boot ∙ c.records.invariant.1,
  λ preserves. c.records.invariant.2 (c.serve_record.ensures.model preserves),
  λ first unwritten read course.
      let preserves = g.D.CrashDisk.keeps_model in
      let was = c.records.store in
      let old = store_of (g.D.CrashDisk.device was.disk) was.core was.boot in
      let output_state = output_state_of g.W.Write.contents c.records.writer in
      let now = c.serve_record.new.store in
      let new = store_of (g.D.CrashDisk.device now.disk) now.core now.boot in
      let found = subst (λ o. IfSome o (λ content. (text : List ℕ) × IsRecord text content
      × (c.records.records ≡ text ++ c.next_record.new.records))) c.in-Ok-Some.field-0-is
      c.in-Ok-Some.ensures.found in
      let is = found.1 in
      serves (preserves now.disk) c.args.moment first unwritten read c.records.records c.records.replies old
      output_state found.0 _
      c.next_record.new.records _ new (output_state_of g.W.Write.contents c.serve_record.new.writer)
      (longer (preserves was.disk) (preserves now.disk) c.serve_record.ensures.model c.args.moment first unwritten read
      c.records.records c.records.replies old output_state
      (c.records.invariant.3 first unwritten read course)) found.2 is
      c.in-Ok.ensures.serves (omega (arith, c.saturating_add-replies.ensures)),
)

pub records-preserved : goal.records-preserved
records-preserved g c = (
  c.serve_record.ensures.idle,
  c.serve_record.ensures.boot ∙ c.records.invariant.1,
  λ preserves. c.records.invariant.2 (c.serve_record.ensures.model preserves),
  λ first unwritten read course.
      let preserves = g.D.CrashDisk.keeps_model in
      let was = c.records.store in
      let old = store_of (g.D.CrashDisk.device was.disk) was.core was.boot in
      let output_state = output_state_of g.W.Write.contents c.records.writer in
      let now = c.serve_record.new.store in
      let new = store_of (g.D.CrashDisk.device now.disk) now.core now.boot in
      let found = subst (λ o. IfSome o (λ content. (text : List ℕ) × IsRecord text content
      × (c.records.records ≡ text ++ c.next_record.new.records))) c.in-Ok-Some.field-0-is
      c.in-Ok-Some.ensures.found in
      let is = found.1 in
      serves (preserves now.disk) c.args.moment first unwritten read c.records.records c.records.replies old
      output_state found.0 _
      c.next_record.new.records _ new (output_state_of g.W.Write.contents c.serve_record.new.writer)
      (longer (preserves was.disk) (preserves now.disk) c.serve_record.ensures.model c.args.moment first unwritten read
      c.records.records c.records.replies old output_state
      (c.records.invariant.3 first unwritten read course)) found.2 is
      c.in-Ok.ensures.serves (omega (arith, c.saturating_add-replies.ensures)),
)

-- Before each read the bytes so far are messages that were answered and what is left; so they are where it
-- ends.
use Rattle.std.proofs.Common.{◌≡◌, ◌∙◌, ◌++◌, [], ℕ, List, Ok, Err, IfSome, IfNone, refl, subst, sym, inl, take}
use Rattle.std.proofs.Common.{ap, arith, ◌<◌}
use Rattle.std.proofs.lemmas.List.{append-nil}
use Rattle.std.specs.Io.KnownBytes.{Consumes, IsAtEnd, Keeps}
use Rattle.store_images.specs.Opening.{store_of}
use Rattle.session.specs.Streaming.{IsCourse, IsStream, StopsAt}
use Rattle.session.specs.declared.stream.SessionFault.{SessionFault}
use Rattle.session.specs.declared.stream.SessionFault.TheVariants as faults
use Rattle.session.specs.Writing.{output_state_of}
use Rattle.session.proofs.Courses.{begins, begun_of, ends_between, read_preserved, read_more, read_none, stopped}
use Rattle.session.specs.Reading.{IsTakenFor}
use Rattle.session.proofs.Traced.{at_most, brings, ended, goes_on, none_read, one_more, stops_by, taken_failed, taken_none}
use Rattle.session.proofs.Traced.{taken_some}
use Rattle.session.proofs.stream.serve_all.Goals as goal

pub reads-init : goal.reads-init
reads-init g c =
    let was = c.args.store.now in
    let preserves = g.D.CrashDisk.keeps_model was.disk in
    let old = store_of (g.D.CrashDisk.device was.disk) was.core was.boot in
    let written = output_state_of g.W.Write.contents c.args.writer.now in (
      c.requires.idle,
      inl c.new-records.ensures,
      refl,
      λ preserves. preserves,
      (
        [],
        read_none (g.R.Read.remaining c.args.reader.now.reader),
        subst (λ (left : List ℕ). IsCourse preserves c.args.moment old written [] left 0 old written)
            (sym c.new-records.ensures) (begins preserves c.args.moment old written),
      ),
      none_read c.args.reader.now.answers.items,
    )

pub returns-in-Err-clause-stream : goal.returns-in-Err-clause-stream
returns-in-Err-clause-stream g c =
    let was = c.args.store.now in
    let now = c.reads.store in
    let preserves = g.D.CrashDisk.keeps_model now.disk in
    let old = store_of (g.D.CrashDisk.device was.disk) was.core was.boot in
    let new = store_of (g.D.CrashDisk.device now.disk) now.core now.boot in
    let unread = g.R.Read.remaining c.args.reader.now.reader in
    let rest = g.R.Read.remaining c.read_piece.new.reader.reader in
    let first = output_state_of g.W.Write.contents c.args.writer.now in
    let written = output_state_of g.W.Write.contents c.reads.writer in
    let failed = c.in-Err.ensures.failed in
    let course = c.reads.invariant.4.2 in
    subst (λ (fault : SessionFault). IsStream preserves c.args.moment old unread first (Err fault) rest written new)
    (sym failed.0)
    (ends_between preserves c.args.moment old unread first (Err faults.Input) rest written new c.reads.invariant.4.0
    c.reads.records c.reads.count
    (read_preserved unread (g.R.Read.remaining c.reads.reader.reader) rest c.reads.invariant.4.0 c.reads.invariant.4.1
    failed.1) course
    (c.reads.invariant.1, course.replies_sent))

pub returns-in-Err-serve_piece-clause-device : goal.returns-in-Err-serve_piece-clause-device
returns-in-Err-serve_piece-clause-device g c = λ is.
    let was = c.args.store.now in
    let now = c.serve_piece.new.store in
    let old = store_of (g.D.CrashDisk.device was.disk) was.core was.boot in
    let going = c.in-Err-serve_piece.ensures.going old (output_state_of g.W.Write.contents c.args.writer.now)
    c.reads.invariant.4.0 c.reads.invariant.4.2 in
    let same : c.in-Err-serve_piece.fault ≡ faults.Device = cc is in
    subst (λ (fault : SessionFault). StopsAt (g.D.CrashDisk.keeps_model now.disk) c.args.moment fault
    going.0 going.2
    going.3 (store_of (g.D.CrashDisk.device now.disk) now.core now.boot)
    (output_state_of g.W.Write.contents c.serve_piece.new.writer)) same going.5

pub returns-in-Err-serve_piece-clause-stream : goal.returns-in-Err-serve_piece-clause-stream
returns-in-Err-serve_piece-clause-stream g c =
    let was = c.args.store.now in
    let now = c.serve_piece.new.store in
    let old = store_of (g.D.CrashDisk.device was.disk) was.core was.boot in
    let new = store_of (g.D.CrashDisk.device now.disk) now.core now.boot in
    let unread = g.R.Read.remaining c.args.reader.now.reader in
    let rest = g.R.Read.remaining c.read_piece.new.reader.reader in
    let first = output_state_of g.W.Write.contents c.args.writer.now in
    let read = c.reads.invariant.4.0 in
    let going = c.in-Err-serve_piece.ensures.going old first read c.reads.invariant.4.2 in
    stopped (g.D.CrashDisk.keeps_model now.disk) c.args.moment old unread first c.in-Err-serve_piece.fault rest
    (output_state_of g.W.Write.contents c.serve_piece.new.writer) new _ going.0 going.1 going.2 going.3
    (read_more unread (g.R.Read.remaining c.reads.reader.reader) rest read _ c.reads.invariant.4.1
    (subst (λ o. IfSome o (λ count. Consumes (g.R.Read.remaining c.reads.reader.reader) rest
    (take count c.read_piece.new.piece))) c.in-Ok-Some.field-0-is c.in-Ok-Some.ensures.some)) going.4 going.5

pub reads-preserved-in-Ok-None : goal.reads-preserved-in-Ok-None
reads-preserved-in-Ok-None g c = (
  c.reads.invariant.0,
  c.reads.invariant.1,
  c.reads.invariant.2,
  c.reads.invariant.3,
  (
    c.reads.invariant.4.0,
    read_preserved (g.R.Read.remaining c.args.reader.now.reader) (g.R.Read.remaining c.reads.reader.reader)
        (g.R.Read.remaining c.read_piece.new.reader.reader) c.reads.invariant.4.0 c.reads.invariant.4.1
        (subst (λ o. IfNone o (Keeps (g.R.Read.remaining c.reads.reader.reader)
        (g.R.Read.remaining c.read_piece.new.reader.reader))) c.in-Ok-None.field-0-is c.in-Ok-None.ensures.none),
    c.reads.invariant.4.2,
  ),
  (let traced = c.in-Ok-None.ensures.traced in
      one_more c.args.reader.now.answers.items c.reads.reader.answers.items
      c.read_piece.new.reader.answers.items c.reads.counter traced.0 c.reads.invariant.5 traced.2 c.reads-test.true
      (taken_none traced.0 (subst (λ o. IsTakenFor traced.0 (Ok o)) c.in-Ok-None.field-0-is traced.1))),
)

pub reads-preserved : goal.reads-preserved
reads-preserved g c =
    let was = c.args.store.now in
    let old = store_of (g.D.CrashDisk.device was.disk) was.core was.boot in
    let mid = g.R.Read.remaining c.reads.reader.reader in
    let rest = g.R.Read.remaining c.read_piece.new.reader.reader in
    let read = c.reads.invariant.4.0 in
    let going = c.in-Ok.ensures.going old (output_state_of g.W.Write.contents c.args.writer.now) read c.reads.invariant.4.2 in (
      c.serve_piece.ensures.idle,
      going.1,
      c.serve_piece.ensures.boot ∙ c.reads.invariant.2,
      λ preserves. c.reads.invariant.3 (c.serve_piece.ensures.model preserves),
      (
        read ++ take c.in-Ok-Some.read c.read_piece.new.piece,
        read_more (g.R.Read.remaining c.args.reader.now.reader) mid rest read _ c.reads.invariant.4.1
            (subst (λ o. IfSome o (λ count. Consumes mid rest (take count c.read_piece.new.piece)))
            c.in-Ok-Some.field-0-is c.in-Ok-Some.ensures.some),
        going.0,
      ),
      (let traced = c.in-Ok-Some.ensures.traced in
          let is = taken_some traced.0 c.in-Ok-Some.read
          (subst (λ o. IsTakenFor traced.0 (Ok o)) c.in-Ok-Some.field-0-is traced.1) in
          let some = c.if-read-eq0.false in
          one_more c.args.reader.now.answers.items c.reads.reader.answers.items
          c.read_piece.new.reader.answers.items c.reads.counter traced.0 c.reads.invariant.5 traced.2
          c.reads-test.true (goes_on traced.0 c.in-Ok-Some.read is (omega (arith, some)))),
    )

pub returns-then-read-eq0-clause-stream : goal.returns-then-read-eq0-clause-stream
returns-then-read-eq0-clause-stream g c =
    let was = c.args.store.now in
    let now = c.reads.store in
    let preserves = g.D.CrashDisk.keeps_model now.disk in
    let old = store_of (g.D.CrashDisk.device was.disk) was.core was.boot in
    let new = store_of (g.D.CrashDisk.device now.disk) now.core now.boot in
    let unread = g.R.Read.remaining c.args.reader.now.reader in
    let mid = g.R.Read.remaining c.reads.reader.reader in
    let rest = g.R.Read.remaining c.read_piece.new.reader.reader in
    let piece = c.read_piece.new.piece in
    let read = c.reads.invariant.4.0 in
    let course = c.reads.invariant.4.2 in
    let some = subst (λ o. IfSome o (λ count. Consumes mid rest (take count piece))) c.in-Ok-Some.field-0-is
    c.in-Ok-Some.ensures.some in
    let none = subst (λ n. Consumes mid rest (take n piece)) c.if-read-eq0.true some in
    let at_end = subst (λ o. IfSome o (λ count. count ≡ 0 → IsAtEnd rest)) c.in-Ok-Some.field-0-is
    c.in-Ok-Some.ensures.end c.if-read-eq0.true in
    ends_between preserves c.args.moment old unread (output_state_of g.W.Write.contents c.args.writer.now)
    (Err faults.Truncated) rest
    (output_state_of g.W.Write.contents c.reads.writer) new read c.reads.records c.reads.count
    (subst (Consumes unread rest) (append-nil read)
    (read_more unread mid rest read [] c.reads.invariant.4.1 none)) course (
      begun_of c.reads.records c.reads.invariant.1 (sym c.is_empty.ensures ∙ c.if-is_empty.false),
      at_end,
      course.replies_sent,
    )

pub returns-clause-stream : goal.returns-clause-stream
returns-clause-stream g c =
    let was = c.args.store.now in
    let now = c.reads.store in
    let preserves = g.D.CrashDisk.keeps_model now.disk in
    let old = store_of (g.D.CrashDisk.device was.disk) was.core was.boot in
    let new = store_of (g.D.CrashDisk.device now.disk) now.core now.boot in
    let course = c.reads.invariant.4.2 in
    ends_between preserves c.args.moment old (g.R.Read.remaining c.args.reader.now.reader)
    (output_state_of g.W.Write.contents c.args.writer.now) (Err faults.Input) (g.R.Read.remaining c.reads.reader.reader)
    (output_state_of g.W.Write.contents c.reads.writer) new c.reads.invariant.4.0 c.reads.records c.reads.count
    c.reads.invariant.4.1 course
    (c.reads.invariant.1, course.replies_sent)

pub returns-in-Err-clause-reads : goal.returns-in-Err-clause-reads
returns-in-Err-clause-reads g c =
    let traced = c.in-Err.ensures.traced in
    ended c.args.reader.now.answers.items c.reads.reader.answers.items c.read_piece.new.reader.answers.items
    c.reads.counter traced.0 c.reads.invariant.5 traced.2 (Err c.in-Err.fault)
    (taken_failed traced.0 c.in-Err.fault traced.1)

pub returns-in-Err-serve_piece-clause-reads : goal.returns-in-Err-serve_piece-clause-reads
returns-in-Err-serve_piece-clause-reads g c =
    let was = c.args.store.now in
    let now = c.serve_piece.new.store in
    let old = store_of (g.D.CrashDisk.device was.disk) was.core was.boot in
    let going = c.in-Err-serve_piece.ensures.going old (output_state_of g.W.Write.contents c.args.writer.now)
    c.reads.invariant.4.0 c.reads.invariant.4.2 in
    let traced = c.in-Ok-Some.ensures.traced in
    let is = taken_some traced.0 c.in-Ok-Some.read
    (subst (λ o. IsTakenFor traced.0 (Ok o)) c.in-Ok-Some.field-0-is traced.1) in
    let some = c.if-read-eq0.false in
    let stops : (fault : SessionFault) → c.in-Err-serve_piece.fault ≡ fault
    → StopsAt (g.D.CrashDisk.keeps_model now.disk) c.args.moment fault going.0 going.2 going.3
    (store_of (g.D.CrashDisk.device now.disk) now.core now.boot) (output_state_of g.W.Write.contents c.serve_piece.new.writer) =
    λ fault same. subst (λ (f : SessionFault). StopsAt (g.D.CrashDisk.keeps_model now.disk) c.args.moment f
    going.0 going.2 going.3 (store_of (g.D.CrashDisk.device now.disk) now.core now.boot)
    (output_state_of g.W.Write.contents c.serve_piece.new.writer)) same going.5 in
    ended c.args.reader.now.answers.items c.reads.reader.answers.items c.read_piece.new.reader.answers.items
    c.reads.counter traced.0 c.reads.invariant.5 traced.2 (Err c.in-Err-serve_piece.fault)
    (stops_by c.in-Err-serve_piece.fault traced.0 (stops faults.Input) (stops faults.Truncated)
    (stops faults.Device) (brings traced.0 c.in-Ok-Some.read is (omega (arith, some))))

pub returns-then-read-eq0-clause-reads : goal.returns-then-read-eq0-clause-reads
returns-then-read-eq0-clause-reads g c =
    let traced = c.in-Ok-Some.ensures.traced in
    let is = taken_some traced.0 c.in-Ok-Some.read
    (subst (λ o. IsTakenFor traced.0 (Ok o)) c.in-Ok-Some.field-0-is traced.1) in
    ended c.args.reader.now.answers.items c.reads.reader.answers.items c.read_piece.new.reader.answers.items
    c.reads.counter traced.0 c.reads.invariant.5 traced.2 (Err faults.Truncated)
    (is ∙ ap (λ n. Ok n) c.if-read-eq0.true)

pub returns-then-is_empty-clause-reads : goal.returns-then-is_empty-clause-reads
returns-then-is_empty-clause-reads g c =
    let traced = c.in-Ok-Some.ensures.traced in
    let is = taken_some traced.0 c.in-Ok-Some.read
    (subst (λ o. IsTakenFor traced.0 (Ok o)) c.in-Ok-Some.field-0-is traced.1) in
    ended c.args.reader.now.answers.items c.reads.reader.answers.items c.read_piece.new.reader.answers.items
    c.reads.counter traced.0 c.reads.invariant.5 traced.2 (Ok c.reads.count)
    (is ∙ ap (λ n. Ok n) c.if-read-eq0.true)

pub returns-clause-reads : goal.returns-clause-reads
returns-clause-reads g c =
    at_most c.args.reader.now.answers.items c.reads.reader.answers.items c.reads.counter c.reads.invariant.5
    c.reads-test.false

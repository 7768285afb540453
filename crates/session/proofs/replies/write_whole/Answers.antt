use Rattle.std.proofs.Common.{◌≡◌, ◌+◌, ◌<◌, ℕ, length, take, drop, refl, sym, ap, subst, arith, inl, inr, Ok, Err, List, ◌∙◌}
use Rattle.std.proofs.Common.{Result, rules}
use Rattle.std.proofs.lemmas.List.{length-drop}
use Rattle.std.specs.declared.io.Error.{Error}
use Rattle.session.specs.Writing.{HasRefused, LetsGoOn, taken_of, output_state_of}
use Rattle.session.proofs.Courses.{is_preserved}
use Rattle.session.proofs.Written.{HasWritten, many, one_more, fails, refuses, whole, goes_on, written_is}
use Rattle.session.proofs.replies.write_whole.Goals as goal
use Rattle.session.proofs.replies.write_whole.Goals.{in-Ok-write_from, in-Err-write_from}

pub returns-clause-written : goal.returns-clause-written
returns-clause-written g c =
    many c.args.bytes.now.items c.writes.done c.writes.counter (output_state_of g.W.Write.contents c.args.writer.now)
    (output_state_of g.W.Write.contents c.writes.writer) c.writes.invariant (let all = c.writes-test.false in omega (arith, all))

pub returns-in-Err-clause-written : goal.returns-in-Err-clause-written
returns-in-Err-clause-written g c =
    let contents = g.W.Write.contents in
    let bytes = c.args.bytes.now.items in
    let first = output_state_of contents c.args.writer.now in
    let then = output_state_of contents c.writes.writer in
    let now = output_state_of contents c.flush.new.self in
    let traced = c.in-Err.ensures.traced in
    fails bytes c.writes.done c.writes.counter first then c.writes.invariant now traced.0 traced.2
    (inr ((whole bytes c.writes.done (c.if-done-len.true ∙ c.len.ensures ∙ c.args.bytes.now.ok.0)).1, c.in-Err.field-0, traced.1))
    (is_preserved then.bytes now.bytes c.in-Err.ensures.bytes)

pub returns-in-Ok-eq0-clause-written : goal.returns-in-Ok-eq0-clause-written
returns-in-Ok-eq0-clause-written g c =
    let contents = g.W.Write.contents in
    let bytes = c.args.bytes.now.items in
    let first = output_state_of contents c.args.writer.now in
    let then = output_state_of contents c.writes.writer in
    let now = output_state_of contents c.write_from.new.self in
    let traced = c.write_from.ensures.traced in
    let is : c.write_from.result ≡ Ok 0 = cc (c.in-Ok-eq0.is, c.in-Ok-eq0.field-0-is) in
    refuses bytes c.writes.done c.writes.counter first then c.writes.invariant now traced.0 traced.2
    c.write_from.result traced.1 (subst HasRefused (sym is) refl) c.write_from.ensures.bytes
    (λ all. c.if-done-len.false (all ∙ sym (c.len.ensures ∙ c.args.bytes.now.ok.0)))

pub returns-in-Err-2-clause-written : goal.returns-in-Err-2-clause-written
returns-in-Err-2-clause-written g c =
    let contents = g.W.Write.contents in
    let bytes = c.args.bytes.now.items in
    let first = output_state_of contents c.args.writer.now in
    let then = output_state_of contents c.writes.writer in
    let now = output_state_of contents c.write_from.new.self in
    let traced = c.write_from.ensures.traced in
    let refused : HasRefused (Err c.in-Err-2.field-0) = search rules in
    refuses bytes c.writes.done c.writes.counter first then c.writes.invariant now traced.0 traced.2
    c.write_from.result traced.1 (subst HasRefused (sym c.in-Err-2.is) refused) c.write_from.ensures.bytes
    (λ all. c.if-done-len.false (all ∙ sym (c.len.ensures ∙ c.args.bytes.now.ok.0)))

pub writes-preserved : goal.writes-preserved
writes-preserved g c =
    let contents = g.W.Write.contents in
    let bytes = c.args.bytes.now.items in
    let first = output_state_of contents c.args.writer.now in
    let then = output_state_of contents c.writes.writer in
    let now = output_state_of contents c.write_from.new.self in
    let traced = c.write_from.ensures.traced in
    let by = written_is traced.0 (drop c.writes.done bytes) c.write_from.result traced.1 in
    let next = one_more bytes c.writes.done c.writes.counter first then c.writes.invariant now traced.0 traced.2 in
    elim c.match-write_from.branch [
      | in-Ok-write_from w ↦ (let found = w.in-Ok-write_from in
          let within = found.ensures.bound in
          let done_within = c.writes.invariant.within in
          let rest = length-drop c.writes.done bytes in
          subst (λ (d : ℕ). HasWritten bytes d (c.writes.counter + 1) first now) (sym w.done-is)
          (next found.count
          (goes_on traced.0 (drop c.writes.done bytes) c.write_from.result traced.1
          (subst LetsGoOn (sym found.is) (let some = found.count-test.1 in omega (arith, some))))
          (by ∙ ap (λ (r : Result ℕ Error). taken_of r (drop c.writes.done bytes)) found.is)
          found.ensures.bytes
          (omega (arith, within, done_within, rest))))
      | in-Err-write_from w ↦ (let found = w.in-Err-write_from in
          let stays : c.writes.done + 0 ≡ c.match-write_from.done = omega (arith, w.done-is) in
          subst (λ (d : ℕ). HasWritten bytes d (c.writes.counter + 1) first now) stays
          (next 0
          (goes_on traced.0 (drop c.writes.done bytes) c.write_from.result traced.1 (subst LetsGoOn (sym found.is) (search rules)))
          (by ∙ ap (λ (r : Result ℕ Error). taken_of r (drop c.writes.done bytes)) found.is)
          (is_preserved then.bytes now.bytes found.ensures.bytes)
          (omega (arith, c.writes.invariant.within))))
    ]

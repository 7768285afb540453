use Rattle.std.proofs.Common.{◌≡◌, ◌≤◌, ◌++◌, ◌∷◌, [], ap, ◌∙◌, arith, length}
use Rattle.std.proofs.lemmas.Grind.{common_steps}
use Rattle.base.specs.declared.TheConstants.{RECORD_BYTES}
use Rattle.plain_once.specs.Session.Records.{joined}
use Rattle.plain_once.proofs.SessionLemmas.Fragments.{begins_more, joined_more, one_fragment, whole_record}
use Rattle.plain_once.proofs.session.records.first_record.Goals as goal

pub returns-then-is_last : goal.returns-then-is_last
returns-then-is_last c =
    whole_record _ c.loop-taken.reader _ c.in-Ok-take.fragment.now _ _ _ _ c.loop-taken.invariant.begins
    (one_fragment _ _ _ _ _ _ _ c.in-Ok.ensures.spelled c.announced-is_last.ensures.is
    c.in-Ok-take.ensures.spelled c.in-Ok-take.ensures.taken)
    c.if-is_last.true
    (c.in_ok-extend_from_slice.ensures.items
    ∙ ap (λ l. l ++ c.in-Ok-take.fragment.now) c.loop-taken.invariant.held)
    (grind (arith, common_steps))
    (c.saturating_sub-taken.ensures ∙ grind (arith, common_steps))

pub loop-taken-preserved : goal.loop-taken-preserved
loop-taken-preserved c =
    let held : c.extend_from_slice.new.self.items
    ≡ joined c.loop-taken.invariant.parts ++ c.in-Ok-take.fragment.now =
    c.in_ok-extend_from_slice.ensures.items
    ∙ ap (λ l. l ++ c.in-Ok-take.fragment.now) c.loop-taken.invariant.held in
    let fits : length c.extend_from_slice.new.self.items ≤ RECORD_BYTES = grind (arith, common_steps) in
    record {
      parts = c.loop-taken.invariant.parts ++ c.in-Ok-take.fragment.now ∷ [];
      begins = begins_more _ c.loop-taken.reader _ _ _ _ c.loop-taken.invariant.begins
          (one_fragment _ _ _ _ _ _ _ c.in-Ok.ensures.spelled c.announced-is_last.ensures.is
          c.in-Ok-take.ensures.spelled c.in-Ok-take.ensures.taken)
          c.if-is_last.false (rw (← held) fits);
      held = held ∙ joined_more c.loop-taken.invariant.parts c.in-Ok-take.fragment.now;
      counted = grind (arith, common_steps);
    }

use Rattle.std.proofs.Common.{◌≡◌, ◌∙◌, ◌+◌, ◌<◌, ◌≤◌, ap, sym, subst, arith, suc, ◌∷◌}
use Rattle.plain_tree.specs.Tree.Plain.{body_of}
use Rattle.procs_files.specs.Heads.{listed_from, listing_of}
use Rattle.plain_steps.specs.Slots.{count_slots}
use Rattle.plain_steps.proofs.Listed.{ends, finds, skips}
use Rattle.plain_steps.proofs.tree_files.next_names.next_name.Goals as goal

pub returns-in-Some-clause-is : goal.returns-in-Some-clause-is
returns-in-Some-clause-is c =
    let body = body_of c.args.body.now in
    let inside : c.slots.slot < count_slots body =
    subst (λ n. c.slots.slot < n) c.slots_of-end.ensures.is (omega (arith, c.slots-test.true)) in
    let there = rw c.in-Some.is at c.in_ok-name.ensures.is in
    let slot = rw c.in-Some.is at c.in_ok-name.ensures.slot in
    c.slots.invariant.1
    ∙ finds body c.slots.slot (listing_of c.in-Some.name) inside there
    ∙ ap (λ s. listing_of c.in-Some.name ∷ listed_from (suc s) body) (sym slot)

pub slots-preserved : goal.slots-preserved
slots-preserved c =
    let body = body_of c.args.body.now in
    let inside : c.slots.slot < count_slots body =
    subst (λ n. c.slots.slot < n) c.slots_of-end.ensures.is (omega (arith, c.slots-test.true)) in
    let none = rw c.in_default.is at c.in_ok-name.ensures.is in
    let order = c.slots.invariant.0 in
    let next : suc c.slots.slot ≡ c.slots.slot + 1 = omega arith in (
      omega (arith, order),
      c.slots.invariant.1 ∙ skips body c.slots.slot inside none ∙ ap (λ s. listed_from s body) next,
    )

pub returns-clause-is : goal.returns-clause-is
returns-clause-is c =
    let body = body_of c.args.body.now in
    let past : count_slots body ≤ c.slots.slot =
    subst (λ n. n ≤ c.slots.slot) c.slots_of-end.ensures.is (omega (arith, c.slots-test.false)) in
    c.slots.invariant.1 ∙ ends body c.slots.slot past

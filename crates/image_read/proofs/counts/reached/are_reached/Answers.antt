use Rattle.std.proofs.Common.{◌≡◌, ℕ, ◌∙◌, sym, ap, subst, List, true, false, Ok, Result, Bool}
use Rattle.std.specs.declared.alloc.AllocError.{AllocError}
use Rattle.image_read.specs.ImageCounts.Iterated.{AreFurthest, in_list}
use Rattle.base.specs.declared.TheConstants.{ROOT}
use Rattle.image_read.proofs.CountsLemmas.Parents.{leads, is_connected}
use Rattle.image_read.proofs.counts.reached.are_reached.Goals as goal

same_answer : (one other : Bool) → ◌≡◌ {A = Result Bool AllocError} (Ok one) (Ok other) → one ≡ other
same_answer one other e = cc

pub returns-clause-yes : goal.returns-clause-yes
returns-clause-yes c = λ yes number inside directory.
    let parents : List ℕ = c.in_ok-parents.parents.items in
    let furthest : List ℕ = c.in_ok-furthest.furthest.items in
    let iterated : AreFurthest parents furthest = subst (λ xs. AreFurthest xs furthest) c.deref.ensures.value c.in_ok-furthest.ensures.iterated in
    let root : in_list furthest number ≡ ROOT =
    ap (λ xs. in_list xs number) (sym c.deref-2.ensures.value)
    ∙ c.all_lead_to_root.ensures.yes (same_answer c.all_lead_to_root.result true yes) number inside directory in
    leads c.args.table.now parents furthest c.in_ok-parents.ensures.len c.in_ok-parents.ensures.parents iterated
    number inside root

pub returns-clause-no : goal.returns-clause-no
returns-clause-no c = λ no fixed reached.
    let parents : List ℕ = c.in_ok-parents.parents.items in
    let furthest : List ℕ = c.in_ok-furthest.furthest.items in
    let iterated : AreFurthest parents furthest = subst (λ xs. AreFurthest xs furthest) c.deref.ensures.value c.in_ok-furthest.ensures.iterated in
    c.all_lead_to_root.ensures.no (same_answer c.all_lead_to_root.result false no)
    (λ number inside directory.
    ap (λ xs. in_list xs number) c.deref-2.ensures.value
    ∙ is_connected c.args.table.now parents furthest c.in_ok-parents.ensures.len c.in_ok-parents.ensures.parents iterated
    fixed number
    inside (reached number inside directory))

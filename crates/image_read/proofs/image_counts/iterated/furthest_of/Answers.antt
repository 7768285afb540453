use Rattle.std.proofs.Common.{◌≡◌, ℕ, ◌^◌, ◌<◌, ◌≤◌, length, sym, ap, ◌∙◌, subst, List, arith}
use Rattle.image_read.specs.ImageCounts.Iterated.{AreIterated, in_list}
use Rattle.image_read.proofs.ImageCountsLemmas.Doubled.{doubled_power, first_iterated, iterated_within, twice_iterated}
use Rattle.image_read.proofs.image_counts.iterated.furthest_of.Goals as goal

pub doublings-init : goal.doublings-init
doublings-init c =
    let items = c.in_ok-furthest.ensures.items in
    (ap (λ (xs : List ℕ). length xs) items, subst (AreIterated 1 c.args.next.now) (sym items) (first_iterated c.args.next.now))

pub doubled-requires : goal.doubled-requires
doubled-requires c = λ index_within less.
    let value = c.deref.ensures.value in
    let long = c.doublings.invariant.0 in
    let same : length c.deref.result.now ≡ length c.args.next.now = ap (λ (xs : List ℕ). length xs) value ∙ long in
    let inside : index_within < length c.args.next.now = omega (arith, less, same) in
    let low = iterated_within (in_list c.args.next.now) (length c.args.next.now) c.requires.within
    (2 ^ c.doublings.doubling) index_within inside in
    let at : in_list c.deref.result.now index_within < length c.args.next.now =
    subst (λ n. n < length c.args.next.now) (sym (ap (λ xs. in_list xs index_within) value ∙ c.doublings.invariant.1 index_within inside)) low in
    omega (arith, at, same)

pub doublings-preserved : goal.doublings-preserved
doublings-preserved c =
    let value = c.deref.ensures.value in
    let next = c.args.next.now in
    let long : length c.deref.result.now ≡ length next = ap (λ (xs : List ℕ). length xs) value ∙ c.doublings.invariant.0 in (
      c.in_ok-furthest-2.ensures.len ∙ long,
      subst (λ steps. AreIterated steps next c.in_ok-furthest-2.furthest.items) (doubled_power c.doublings.doubling)
          (twice_iterated next c.deref.result.now c.in_ok-furthest-2.furthest.items (2 ^ c.doublings.doubling) c.requires.within
          (λ index_within less. ap (λ xs. in_list xs index_within) value ∙ c.doublings.invariant.1 index_within less)
          (λ index_within less. c.in_ok-furthest-2.ensures.twice index_within (omega (arith, less, long)))),
    )

pub returns-clause-iterated : goal.returns-clause-iterated
returns-clause-iterated c =
    let end : c.doublings.doubling ≡ 16 = (let last = c.doublings-test.false in
    let most = c.doublings.auto.doubling-end in omega (arith, last, most)) in
    let few = c.requires.few in (
      2 ^ c.doublings.doubling,
      subst (λ n. length c.args.next.now ≤ 2 ^ n) (sym end) few,
      c.doublings.invariant.1,
    )

use Rattle.std.proofs.Common.{◌≡◌, ◌∙◌, refl, sym, ap, true, false, ℕ, get_or, take}
use Rattle.std.specs.BTreeMap.{is_at}
use Rattle.std.specs.BTreeSet as set
use Rattle.std.specs.Cmp.Lexicographic.{slice_cmp}
use Rattle.std.specs.List.{list_any}
use Rattle.std.specs.Ordering.{nat_cmp}
use Rattle.std.specs.Prelude.{Vec, cond}
use Rattle.std.specs.declared.alloc.Global.{Global}
use Rattle.image_contents.specs.Names.Names.{is_name, names_in, same_name}
use Rattle.image_contents.proofs.NamesLemmas.Apart.{apart_more, has_more, lawful_more, none_apart, not_false, not_true, twice}
use Rattle.image_contents.proofs.NamesLemmas.Apart.{unlawful}
use Rattle.image_contents.proofs.slot_names.valid_names.are_names.Goals as goal

pub places-init : goal.places-init
places-init c = record {
  lawful = refl;
  apart = none_apart;
  has = λ query. ap (list_any (is_at (λ (y : Vec ℕ Global). slice_cmp nat_cmp query.items y.items)))
      c.new-names.ensures.empty;
}

pub returns-then-not-is_name-clause-no : goal.returns-then-not-is_name-clause-no
returns-then-not-is_name-clause-no c = λ ok names.
    unlawful c.args.slots.now c.places.index_within c.index-slots-index_within.result c.places-test.true
    (ap is_name (sym c.as_slice-name.ensures) ∙ sym c.is_name.ensures ∙ c.if-not-is_name.true) names

pub returns-then-not-branch-clause-no : goal.returns-then-not-branch-clause-no
returns-then-not-branch-clause-no c = λ ok names.
    let slots = c.args.slots.now in
    let before = names_in (take c.places.index_within slots) in
    let is : c.in_ok-key.key.items ≡ (get_or slots c.places.index_within c.index-slots-index_within.result).name =
    c.in_ok-key.ensures.items_if_clones_equal (λ x y same. same) ∙ c.as_slice-name.ensures in
    twice slots c.places.index_within c.index-slots-index_within.result c.places-test.true
    (ap (λ name. list_any (same_name name) before) (sym is) ∙ sym (c.places.invariant.has c.in_ok-key.key)
    ∙ not_false _ (sym c.in_ok-insert.ensures.added ∙ c.if-not-branch.true)) names

pub places-preserved : goal.places-preserved
places-preserved c =
    let slots = c.args.slots.now in
    let index_within = c.places.index_within in
    let d = c.index-slots-index_within.result in
    let less = c.places-test.true in
    let before = names_in (take index_within slots) in
    let key = c.in_ok-key.key in
    let is : key.items ≡ (get_or slots index_within d).name =
    c.in_ok-key.ensures.items_if_clones_equal (λ x y same. same) ∙ c.as_slice-name.ensures in
    let lawful : is_name (get_or slots index_within d).name ≡ true =
    ap is_name (sym c.as_slice-name.ensures) ∙ sym c.is_name.ensures ∙ c.if-not-is_name.false in
    let new : list_any (same_name (get_or slots index_within d).name) before ≡ false =
    ap (λ name. list_any (same_name name) before) (sym is) ∙ sym (c.places.invariant.has key)
    ∙ not_true _ (sym c.in_ok-insert.ensures.added ∙ c.if-not-branch.false) in
    record {
      lawful = lawful_more slots index_within d less c.places.invariant.lawful lawful;
      apart = apart_more slots index_within d less c.places.invariant.apart new;
      has = λ query.
          has_more slots index_within d less query.items _ _ (c.places.invariant.has query)
          (c.in_ok-insert.ensures.updates.0 query
          ∙ ap (λ name. cond (same_name name query.items) true
          (set.contains (λ (x y : Vec ℕ Global). slice_cmp nat_cmp x.items y.items) c.places.names query)) is);
    }

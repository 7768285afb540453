use Rattle.std.proofs.Common.{rules, ℕ, Bool, List, length, sym, subst, ◌∙◌}
use Rattle.std.specs.List.{items_where_true}
use Rattle.std.specs.List.Retain.{IsFiltered}
use Rattle.std.specs.Fn.{CalledAt}
use Rattle.std.proofs.lemmas.List.{with_items_is, places}
use Rattle.objects.specs.Indexed.{AreHomed, IsIndex, numbers}
use Rattle.objects.specs.Present.{IsOnce}
use Rattle.objects.specs.declared.present.Present.{Present}
use Rattle.objects.proofs.Indexed.{homed_retained}
use Rattle.objects.proofs.ArePreserved.{once_retained}
use Rattle.objects.proofs.blocks.Blocks.keep_only.Goals as goal

pub renumber-requires : goal.renumber-requires
renumber-requires g c =
    let list : List Present = c.self.inside.list.items in
    let retained_flags : List Bool = c.retain.ensures.filtered.0 in
    let kept = c.retain.ensures.filtered.4 in
    record {
      once = subst IsOnce (sym (c.deref.ensures.value ∙ kept)) (once_retained retained_flags list c.self.invariant.once);
      homed = subst (λ (xs : List Present). AreHomed (length c.deref_mut.result.now) (numbers xs))
          (sym (c.deref.ensures.value ∙ kept))
          (subst (λ (ns : List ℕ). AreHomed (length ns) (numbers (items_where_true retained_flags list)))
          (sym c.deref_mut.ensures.value)
          (homed_retained retained_flags (length c.self.inside.indices.items) list c.self.invariant.index.homed));
    }

pub invariant_of-self : goal.invariant_of-self
invariant_of-self g c =
    let list : List Present = c.self.inside.list.items in
    let retained_flags : List Bool = c.retain.ensures.filtered.0 in
    let kept = c.retain.ensures.filtered.4 in
    record {
      once = subst IsOnce (sym kept) (once_retained retained_flags list c.self.invariant.once);
      index = subst (λ (ns : List ℕ). IsIndex (numbers c.retain.new.self.items) ns)
          (sym (with_items_is c.self.inside.indices c.renumber.new.indices (search (rules, places))))
          (subst (λ (xs : List Present). IsIndex (numbers xs) c.renumber.new.indices) c.deref.ensures.value
          c.renumber.ensures);
    }

pub returns : goal.returns
returns g c =
    subst (λ (xs : List Present). IsFiltered (CalledAt g.F.FnMut) c.args.test xs c.retain.new.self.items)
    c.self.view_is c.retain.ensures.filtered

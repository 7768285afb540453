use Rattle.std.proofs.Common.{rules, ◌≡◌, List, sym, subst, ◌∙◌}
use Rattle.std.specs.Vec.{with_items}
use Rattle.std.proofs.lemmas.List.{with_items_is, places}
use Rattle.objects.specs.Indexed.{IsIndex, numbers}
use Rattle.objects.specs.Present.{IsOnce}
use Rattle.objects.specs.declared.present.Present.{Present}
use Rattle.objects.proofs.blocks.Blocks.bytes_at.Goals as goal

pub invariant_of-self : goal.invariant_of-self
invariant_of-self c =
    let list : List Present = c.self.inside.list.items in
    let is : (with_items c.self.inside.list c.bytes_in.new.list).items ≡ list =
    with_items_is c.self.inside.list c.bytes_in.new.list (search (rules, places)) ∙ c.bytes_in.ensures.same
    ∙ c.deref_mut.ensures.value in
    record {
      once = subst IsOnce (sym is) c.self.invariant.once;
      index = subst (λ (xs : List Present). IsIndex (numbers xs) c.self.inside.indices.items) (sym is)
          c.self.invariant.index;
    }

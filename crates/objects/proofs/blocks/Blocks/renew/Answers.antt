use Rattle.std.proofs.Common.{rules, ◌≡◌, ℕ, List, sym, subst, ◌∙◌, ap}
use Rattle.std.specs.Vec.{with_items}
use Rattle.std.proofs.lemmas.List.{with_items_is, places}
use Rattle.objects.specs.Indexed.{IsIndex, numbers}
use Rattle.objects.specs.Present.{IsOnce, renewed}
use Rattle.objects.specs.declared.present.Present.{Present}
use Rattle.objects.proofs.Indexed.{numbers-renewed}
use Rattle.objects.proofs.ArePreserved.{once_renewed}
use Rattle.objects.proofs.blocks.Blocks.renew.Goals as goal

pub invariant_of-self : goal.invariant_of-self
invariant_of-self c =
    let list : List Present = c.self.inside.list.items in
    let is : (with_items c.self.inside.list c.renew_in.new.list).items ≡ renewed list c.args.block c.args.content =
    with_items_is c.self.inside.list c.renew_in.new.list (search (rules, places)) ∙ c.renew_in.ensures ∙ ap (λ (xs : List Present). renewed xs c.args.block c.args.content) c.deref_mut.ensures.value in
    record {
      once = subst IsOnce (sym is) (once_renewed c.args.block c.args.content list c.self.invariant.once);
      index = subst (λ (ns : List ℕ). IsIndex ns c.self.inside.indices.items)
          (sym (ap numbers is ∙ numbers-renewed c.args.block c.args.content list)) c.self.invariant.index;
    }

use Rattle.std.proofs.Common.{◌≡◌, List, Some, None, ap, ◌∙◌, subst}
use Rattle.std.specs.Prelude.{position}
use Rattle.objects.specs.Present.{present_of}
use Rattle.objects.specs.declared.present.Present.{Present}
use Rattle.objects.proofs.Indexed.{find_at, find_nowhere}
use Rattle.objects.proofs.Residents.{is_of}
use Rattle.objects.proofs.blocks.Blocks.get.Goals as goal

pub returns-in_default : goal.returns-in_default
returns-in_default c =
    subst (λ (xs : List Present). None ≡ present_of xs c.args.block) c.self.view_is
    (subst (λ (xs : List Present). None ≡ present_of xs c.args.block) c.deref.ensures.value
    (find_nowhere (is_of c.args.block) c.deref.result.now c.in_default.ensures))

pub returns : goal.returns
returns c =
    let at : Some c.in-Some.i ≡ position (is_of c.args.block) c.self.inside.list.items =
    subst (λ (xs : List Present). Some c.in-Some.i ≡ position (is_of c.args.block) xs) c.deref.ensures.value
    c.in-Some.ensures in
    subst (λ (xs : List Present). Some c.index.result.now ≡ present_of xs c.args.block) c.self.view_is
    (ap (λ (resident : Present). Some resident) c.index.ensures
    ∙ find_at (is_of c.args.block) c.self.inside.list.items c.in-Some.i c.index.result.now at)

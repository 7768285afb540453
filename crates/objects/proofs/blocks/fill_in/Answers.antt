use Rattle.std.proofs.Common.{◌≡◌, refl, ap, ◌∙◌, true, false, Option, Some, None, set}
use Rattle.std.specs.Option.{is_some}
use Rattle.std.specs.Prelude.{slice_index_or}
use Rattle.disk.specs.Device.{Content}
use Rattle.objects.specs.Present.{filled_in}
use Rattle.objects.specs.declared.present.Present.{Present}
use Rattle.objects.proofs.Filled.{filled_none, filled_at}
use Rattle.objects.proofs.blocks.fill_in.Goals as goal

pub returns-in_default : goal.returns-in_default
returns-in_default c = filled_none c.args.block c.args.content c.args.list.now (c.in_default.ensures)

put : (there : Option Content) (content : Content) → is_some there ≡ false
    → Some content ≡ filled_in there content
put (Some c) content e = absurd (cc)
put None content e = refl

kept : (there : Option Content) (content : Content) → is_some there ≡ true
    → there ≡ filled_in there content
kept (Some c) content e = refl
kept None content e = absurd (cc)

pub returns-then-is_none : goal.returns-then-is_none
returns-then-is_none c =
    let d : Present = c.index-list-i.result in
    let it = c.if-is_none.ensures in
    ap (λ (content : Option Content). set c.args.list.now c.in-Some.i (record {
      block = (slice_index_or c.args.list.now c.in-Some.i d).block;
      content = content;
    })) (ap (λ (content : Content). Some content) c.new.ensures ∙ put _ c.args.content it)
    ∙ filled_at c.args.block c.args.content c.args.list.now c.in-Some.i d (c.in-Some.ensures)

pub returns-else-is_none : goal.returns-else-is_none
returns-else-is_none c =
    let d : Present = c.index-list-i.result in
    let it = c.if-is_none.ensures in
    ap (λ (content : Option Content). set c.args.list.now c.in-Some.i (record {
      block = (slice_index_or c.args.list.now c.in-Some.i d).block;
      content = content;
    })) (kept _ c.args.content it)
    ∙ filled_at c.args.block c.args.content c.args.list.now c.in-Some.i d (c.in-Some.ensures)

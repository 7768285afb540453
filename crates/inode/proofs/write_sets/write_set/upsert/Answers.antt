use Rattle.std.proofs.Common.{rules, ap, ◌∙◌, not, List, [], ◌∷◌, ◌++◌, filter}
use Rattle.std.proofs.lemmas.Fn.{filter_same}
use Rattle.objects.specs.declared.addr.Addr.{Addr}
use Rattle.objects.specs.Object.{ObjectBytes}
use Rattle.inode.specs.Snap.{same_addr}
use Rattle.inode.proofs.write_sets.write_set.upsert.Goals as goal

pub returns : goal.returns
returns c =
    c.in-Ok.ensures.items
    ∙ ap (λ (l : List ObjectBytes). l ++ c.args.object ∷ [])
    (filter_same _ (λ (other : ObjectBytes). not (same_addr other.addr c.addr-addr.result)) _
    (λ x b f r. search rules) _ _ c.retain.ensures.filtered
    ∙ ap (λ (a : Addr). filter (λ (other : ObjectBytes). not (same_addr other.addr a)) c.args.objects.now.items)
    c.addr-addr.ensures)

use Rattle.std.proofs.Common.{◌≡◌, ◌∙◌, true, ap, subst, sym, ℕ, List, nat_eq}
use Rattle.std.specs.List.{list_any}
use Rattle.inode.specs.Indexed.{under}
use Rattle.inode.proofs.KnownPositions.{not_there}
use Rattle.inode.proofs.lookup.find.Goals as goal

pub returns-in-None-clause-none : goal.returns-in-None-clause-none
returns-in-None-clause-none c =
    not_there c.args.index.now c.args.objects.now c.args.addr c.requires (λ at is.
    c.in-None.ensures.none at (subst (λ (xs : List ℕ). list_any (nat_eq at) xs ≡ true)
    (sym (c.under.ensures ∙ ap (λ (k : ℕ). under k c.args.index.now) c.key_of.ensures)) is))

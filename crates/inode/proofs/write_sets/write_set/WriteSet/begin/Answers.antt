use Rattle.std.proofs.Common.{◌≡◌, refl}
use Rattle.std.specs.List.{each_same}
use Rattle.inode.proofs.WriteSetsLemmas.Begun.{begun_write_set, begun_preserved}
use Rattle.inode.proofs.write_sets.write_set.WriteSet.begin.Goals as goal

pub invariant_of-result : goal.invariant_of-result
invariant_of-result c =
    let exclusives : c.in_ok-exclusives.exclusives.items ≡ c.args.seen.now.exclusives.items = each_same _ _ c.in_ok-exclusives.ensures.cases.0 in
    let claims : c.in_ok-claims.claims.items ≡ c.args.seen.now.claims.items = each_same _ _ c.in_ok-claims.ensures.cases.0 in
    begun_preserved c.args.seen.now _ refl claims exclusives c.in_ok-objects.ensures c.new.result.items
    c.new.ensures.items

pub returns-clause-is : goal.returns-clause-is
returns-clause-is c =
    let exclusives : c.in_ok-exclusives.exclusives.items ≡ c.args.seen.now.exclusives.items = each_same _ _ c.in_ok-exclusives.ensures.cases.0 in
    let claims : c.in_ok-claims.claims.items ≡ c.args.seen.now.claims.items = each_same _ _ c.in_ok-claims.ensures.cases.0 in
    begun_write_set c.args.seen.now _ refl claims exclusives c.in_ok-objects.ensures c.new.result.items
    c.new.ensures.items

use Rattle.std.proofs.Common.{◌∙◌, ◌≡◌, ◌%◌, ◌<◌, ℕ, List, ap, subst, sym, length, arith}
use Rattle.std.proofs.lemmas.List.{length-map}
use Rattle.inode.specs.Indexed.{is_under}
use Rattle.inode.proofs.KnownPositions.{low_bucket, now_tracked, ok_then, stays, there}
use Rattle.inode.proofs.index.AddressIndex.track.Goals as goal

pub returns-clause-there : goal.returns-clause-there
returns-clause-there c =
    let bs = c.self.inside.buckets.items in
    let of : c.len.result ≡ length bs = omega (arith, c.len.ensures) in
    let some : 0 < c.len.result = omega (arith, c.self.invariant, of) in
    let less = low_bucket c.args.key c.len.result bs (λ bucket. bucket.items) c.args.self.now c.self.view_is of some in
    ok_then c.add.result (λ is.
    ap (is_under c.args.position c.args.key) (now_tracked (λ bucket. bucket.items) bs c.args.self.now c.args.key c.len.result c.args.position
    c.index_mut.result.now c.add.new.bucket c.self.view_is of less.0 c.index_mut.ensures.value is)
    ∙ there c.args.position c.args.key c.args.self.now less.1) c.add.ensures

pub returns-clause-stays : goal.returns-clause-stays
returns-clause-stays c =
    let bs = c.self.inside.buckets.items in
    let of : c.len.result ≡ length bs = omega (arith, c.len.ensures) in
    let some : 0 < c.len.result = omega (arith, c.self.invariant, of) in
    let less = low_bucket c.args.key c.len.result bs (λ bucket. bucket.items) c.args.self.now c.self.view_is of some in
    ok_then c.add.result (λ is. λ other at had.
    ap (is_under at other) (now_tracked (λ bucket. bucket.items) bs c.args.self.now c.args.key c.len.result c.args.position
    c.index_mut.result.now c.add.new.bucket c.self.view_is of less.0 c.index_mut.ensures.value is)
    ∙ stays c.args.position c.args.key other at c.args.self.now less.1 had) c.add.ensures

use Rattle.std.proofs.Common.{◌≡◌, ◌∙◌, ◌≤◌, ℕ, length, take, ap, arith}
use Rattle.std.specs.Map.{keys_of}
use Rattle.base.specs.declared.TheConstants.{CLEAN_BLOCKS}
use Rattle.lru.specs.LruCache.{LruCache}
use Rattle.objects.proofs.Cache.{keys_of-take, short}
use Rattle.objects.proofs.recent.forget_in.Goals as goal

pub returns-clause-few : goal.returns-clause-few
returns-clause-few c =
    let most : length (take CLEAN_BLOCKS c.args.numbers.now.entries) ≤ CLEAN_BLOCKS =
    short CLEAN_BLOCKS c.args.numbers.now.entries in
    let same : length c.keep_last.new.numbers.entries ≡ length (take CLEAN_BLOCKS c.args.numbers.now.entries) =
    ap (λ (cache : LruCache ℕ (Unit {0})). length cache.entries) c.keep_last.ensures in
    omega (arith, most, same)

pub returns-clause-forgot : goal.returns-clause-forgot
returns-clause-forgot c =
    λ proven. ap (λ (cache : LruCache ℕ (Unit {0})). keys_of cache.entries) c.keep_last.ensures
    ∙ keys_of-take CLEAN_BLOCKS c.args.numbers.now.entries

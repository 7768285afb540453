use Rattle.std.proofs.Common.{◌≡◌, ◌∙◌, ℕ, true, Result, Ok, Err, ap, sym}
use Rattle.std.specs.Map.{keys_of}
use Rattle.std.specs.Result.{OnOk, is_ok}
use Rattle.lru.specs.LruCache.{LruCache}
use Rattle.objects.specs.Recent.{is_tracked}
use Rattle.objects.proofs.Cache.{tracked_put}
use Rattle.objects.proofs.recent.track_in.Goals as goal

where_ok : {T E P : Type 0} (r : Result T E) → is_ok r ≡ true → OnOk r P → P
where_ok (Ok x) e h = h
where_ok (Err y) e h = absurd (cc)

pub returns-clause-tracked : goal.returns-clause-tracked
returns-clause-tracked c =
    λ proven at.
    ap (λ (cache : LruCache ℕ (Unit {0})). is_tracked (keys_of cache.entries) at)
    (where_ok c.put.result (sym c.is_ok.ensures.value ∙ proven) c.put.ensures.entries)
    ∙ tracked_put c.args.numbers.now c.args.block.0 tt at.0 c.requires

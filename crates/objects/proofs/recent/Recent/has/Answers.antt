use Rattle.std.proofs.Common.{◌∙◌, ℕ, List, Option, ap, nat_eq}
use Rattle.std.proofs.lemmas.Map.Made.{is_some-lookup}
use Rattle.lru.specs.LruCache.{LruCache}
use Rattle.objects.specs.Recent.{is_tracked, numbers_in}
use Rattle.objects.proofs.recent.Recent.has.Goals as goal

pub returns-in-Some : goal.returns-in-Some
returns-in-Some c =
    c.contains.ensures ∙ is_some-lookup (nat_eq c.args.block.0) c.in-Some.numbers.now.entries
    ∙ ap (λ (numbers : Option (LruCache ℕ (Unit {0}))). is_tracked (numbers_in numbers) c.args.block)
    c.in-Some.ensures.value
    ∙ ap (λ (numbers : List ℕ). is_tracked numbers c.args.block) c.self.view_is

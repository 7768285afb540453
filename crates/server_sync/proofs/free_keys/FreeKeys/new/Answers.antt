use Rattle.std.proofs.Common.{◌≡◌, arith, ap, ◌∙◌}
use Rattle.std.specs.List.{range_with_len}
use Rattle.std.proofs.lemmas.Grind.{common_steps}
use Rattle.server_sync.specs.Keys.{numbers_of}
use Rattle.server_sync.proofs.Keys.{apart_from_range, seats_from_range, one_more}
use Rattle.server_sync.proofs.free_keys.FreeKeys.new.Goals as goal

pub loop-number-preserved : goal.loop-number-preserved
loop-number-preserved c =
    let more = one_more c.loop-number.keys.items c.loop-number.number c.loop-number.invariant.0 in
    grind (arith, common_steps, more)

pub invariant_of-result : goal.invariant_of-result
invariant_of-result c =
    let end : c.loop-number.number ≡ c.args.count = omega arith in
    let all : numbers_of c.loop-number.keys.items ≡ range_with_len 0 c.args.count
    = c.loop-number.invariant.0 ∙ ap (range_with_len 0) end in
    record {
      once = apart_from_range c.loop-number.keys.items c.args.count all;
      below = seats_from_range c.loop-number.keys.items c.args.count all;
      has_space = c.loop-number.invariant.1;
    }

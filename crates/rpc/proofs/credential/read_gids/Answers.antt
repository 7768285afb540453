use Rattle.std.proofs.Common.{sym, ◌∙◌, ◌≡◌, ◌≤◌, ◌<◌, ◌*◌, ◌++◌, length, take-append-drop}
use Rattle.base.specs.declared.TheConstants.{MOST_GIDS}
use Rattle.rpc.proofs.Spelled.{are_groups, gids_are, gids_short}
use Rattle.rpc.proofs.credential.read_gids.Goals as goal

pub returns-then-rest-count : goal.returns-then-rest-count
returns-then-rest-count c =
    let few : c.in_ok-count.field-0 ≤ MOST_GIDS = c.if-count-gt-MOST_GIDS.false in
    let lt : length c.unsigned.new.self < 4 * c.in_ok-count.field-0 =
    rw (← c.rest-rest.ensures) c.if-rest-count.true in
    gids_short c.in_ok-count.field-0 c.args.reader.now c.unsigned.new.self c.in_ok-count.ensures few lt

pub invariant_of-result : goal.invariant_of-result
invariant_of-result c =
    are_groups c.in_ok-count.field-0 c.split_at.result.0.now c.split_at.ensures.front_len
    c.if-count-gt-MOST_GIDS.false

pub returns : goal.returns
returns c =
    let cut : c.unsigned.new.self ≡ c.split_at.result.0.now ++ c.split_at.result.1.now =
    rw (c.split_at.ensures.front, c.split_at.ensures.back)
    (sym c.rest-rest.ensures ∙ sym (take-append-drop (4 * c.in_ok-count.field-0) c.rest-rest.result.now)) in
    rw c.new.ensures (gids_are c.in_ok-count.field-0 c.args.reader.now c.unsigned.new.self
    c.split_at.result.0.now c.split_at.result.1.now c.in_ok-count.ensures c.if-count-gt-MOST_GIDS.false cut
    c.split_at.ensures.front_len)

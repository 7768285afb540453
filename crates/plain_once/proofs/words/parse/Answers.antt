use Rattle.std.proofs.Common.{arith}
use Rattle.plain_once.proofs.Spelled.{asks_for_none, rises_by}
use Rattle.plain_once.proofs.words.parse.Goals as goal

pub returns-in_err-number-in-len5-clause-senseless :
    goal.returns-in_err-number-in-len5-clause-senseless
returns-in_err-number-in-len5-clause-senseless c =
    let long = c.in-len5.len_at_least in
    let word = c.blocks-item in
    let unspelled = c.in_err-number-in-len5.ensures.senseless in
    let none = c.from_residual in
    asks_for_none c.args.line.now 1 word.result (omega (arith, long)) word.is unspelled none.result
    none.ensures (λ asked. asked.blocks) (λ asked asks. asks.blocks)

pub returns-in_err-number-in-len5-2-clause-senseless :
    goal.returns-in_err-number-in-len5-2-clause-senseless
returns-in_err-number-in-len5-2-clause-senseless c =
    let long = c.in-len5.len_at_least in
    let word = c.inodes-item in
    let unspelled = c.in_err-number-in-len5-2.ensures.senseless in
    let none = c.from_residual-in_err-number-in-len5-2 in
    asks_for_none c.args.line.now 2 word.result (omega (arith, long)) word.is unspelled none.result
    none.ensures (λ asked. asked.inodes) (λ asked asks. asks.inodes)

pub returns-in_err-number-in-len5-3-clause-senseless :
    goal.returns-in_err-number-in-len5-3-clause-senseless
returns-in_err-number-in-len5-3-clause-senseless c =
    let long = c.in-len5.len_at_least in
    let word = c.made-item in
    let unspelled = c.in_err-number-in-len5-3.ensures.senseless in
    let none = c.from_residual-in_err-number-in-len5-3 in
    asks_for_none c.args.line.now 3 word.result (omega (arith, long)) word.is unspelled none.result
    none.ensures (λ asked. asked.made) (λ asked asks. asks.made)

pub returns-in_err-number-in-len5-4-clause-senseless :
    goal.returns-in_err-number-in-len5-4-clause-senseless
returns-in_err-number-in-len5-4-clause-senseless c =
    let long = c.in-len5.len_at_least in
    let word = c.time-item in
    let unspelled = c.in_err-number-in-len5-4.ensures.senseless in
    let none = c.from_residual-in_err-number-in-len5-4 in
    asks_for_none c.args.line.now 4 word.result (omega (arith, long)) word.is unspelled none.result
    none.ensures (λ asked. asked.fake_clock.second) (λ asked asks. asks.second)

pub returns-in_err-number-in-len6-clause-senseless :
    goal.returns-in_err-number-in-len6-clause-senseless
returns-in_err-number-in-len6-clause-senseless c =
    let long = c.in-len6.len_at_least in
    let word = c.blocks-item-then-line-lt7 in
    let unspelled = c.in_err-number-in-len6.ensures.senseless in
    let none = c.from_residual-in_err-number-in-len6 in
    asks_for_none c.args.line.now 1 word.result (omega (arith, long)) word.is unspelled none.result
    none.ensures (λ asked. asked.blocks) (λ asked asks. asks.blocks)

pub returns-in_err-number-in-len6-2-clause-senseless :
    goal.returns-in_err-number-in-len6-2-clause-senseless
returns-in_err-number-in-len6-2-clause-senseless c =
    let long = c.in-len6.len_at_least in
    let word = c.inodes-item-then-line-lt7 in
    let unspelled = c.in_err-number-in-len6-2.ensures.senseless in
    let none = c.from_residual-in_err-number-in-len6-2 in
    asks_for_none c.args.line.now 2 word.result (omega (arith, long)) word.is unspelled none.result
    none.ensures (λ asked. asked.inodes) (λ asked asks. asks.inodes)

pub returns-in_err-number-in-len6-3-clause-senseless :
    goal.returns-in_err-number-in-len6-3-clause-senseless
returns-in_err-number-in-len6-3-clause-senseless c =
    let long = c.in-len6.len_at_least in
    let word = c.made-item-then-line-lt7 in
    let unspelled = c.in_err-number-in-len6-3.ensures.senseless in
    let none = c.from_residual-in_err-number-in-len6-3 in
    asks_for_none c.args.line.now 3 word.result (omega (arith, long)) word.is unspelled none.result
    none.ensures (λ asked. asked.made) (λ asked asks. asks.made)

pub returns-in_err-number-in-len6-4-clause-senseless :
    goal.returns-in_err-number-in-len6-4-clause-senseless
returns-in_err-number-in-len6-4-clause-senseless c =
    let long = c.in-len6.len_at_least in
    let word = c.time-item-then-line-lt7 in
    let unspelled = c.in_err-number-in-len6-4.ensures.senseless in
    let none = c.from_residual-in_err-number-in-len6-4 in
    asks_for_none c.args.line.now 4 word.result (omega (arith, long)) word.is unspelled none.result
    none.ensures (λ asked. asked.fake_clock.second) (λ asked asks. asks.second)

pub returns-in_err-number-in-len6-5-clause-senseless :
    goal.returns-in_err-number-in-len6-5-clause-senseless
returns-in_err-number-in-len6-5-clause-senseless c =
    let long = c.in-len6.len_at_least in
    let word = c.rise-item in
    let unspelled = c.in_err-number-in-len6-5.ensures.senseless in
    let none = c.from_residual-in_err-number-in-len6-5 in
    asks_for_none c.args.line.now 5 word.result (omega (arith, long)) word.is unspelled none.result
    none.ensures (λ asked. asked.fake_clock.rise)
    (λ asked asks. rises_by c.args.line.now asked.fake_clock.rise (omega (arith, long)) asks.rise)

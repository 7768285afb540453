use Rattle.std.proofs.Common.{◌-◌, ℕ, List, length, take, ap, subst, sym, ◌∙◌, arith}
use Rattle.std.proofs.lemmas.List.{length-set}
use Rattle.locks.specs.Index.{IsIndex, numbers}
use Rattle.locks.proofs.IndexLemmas.{homed_last, one_taken_back}
use Rattle.locks.proofs.index.Index.cut.Goals as goal

pub take_back-requires-clause-homed : goal.take_back-requires-clause-homed
take_back-requires-clause-homed c =
    let count = c.loop-count.count in
    homed_last c.args.holds.now c.loop-count.self.last.items c.loop-count.self.before.items count (count - 1)
    c.index-holds-count.result (omega arith) c.loop-count.invariant.within c.loop-count.invariant.index

pub loop-count-preserved : goal.loop-count-preserved
loop-count-preserved c =
    let count = c.loop-count.count in
    let within = c.loop-count.invariant.within in
    let has_space = c.loop-count.invariant.has_space in
    let is_preserved = c.take_back.ensures.capacity in
    record {
      from = omega arith;
      within = omega (arith, within);
      long = ap (λ (names : List ℕ). length names) c.take_back.ensures.last
          ∙ length-set c.loop-count.self.last.items _ _ ∙ c.loop-count.invariant.long;
      has_space = omega (arith, has_space, is_preserved);
      index = subst (λ (before : List ℕ). IsIndex (numbers (take (count - 1) c.args.holds.now))
          c.take_back.new.self.last.items before) (sym c.take_back.ensures.before)
          (subst (λ (last : List ℕ). IsIndex (numbers (take (count - 1) c.args.holds.now)) last
          (take (length c.loop-count.self.before.items - 1) c.loop-count.self.before.items))
          (sym c.take_back.ensures.last)
          (one_taken_back c.args.holds.now c.loop-count.self.last.items c.loop-count.self.before.items count (count - 1)
          c.index-holds-count.result (omega arith) within c.loop-count.invariant.index));
    }

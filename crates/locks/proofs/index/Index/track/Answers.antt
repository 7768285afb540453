use Rattle.std.proofs.Common.{◌≡◌, ◌+◌, ◌++◌, ◌∷◌, [], ℕ, List, length, subst, sym}
use Rattle.std.specs.Prelude.{slice_set}
use Rattle.locks.specs.Index.{IsIndex, numbers}
use Rattle.locks.proofs.IndexLemmas.{numbers-length, pushed}
use Rattle.locks.proofs.index.Index.track.Goals as goal

pub returns-clause-index : goal.returns-clause-index
returns-clause-index c =
    let size : length (numbers c.args.holds.now) ≡ length c.args.holds.now = numbers-length c.args.holds.now in
    subst (λ (before : List ℕ). IsIndex (numbers c.args.holds.now ++ c.args.block.0 ∷ [])
    (slice_set c.args.self.now.last.items c.args.block.0 (length c.args.holds.now + 1)) before) (sym c.add.ensures.items)
    (subst (λ (n : ℕ). IsIndex (numbers c.args.holds.now ++ c.args.block.0 ∷ [])
    (slice_set c.args.self.now.last.items c.args.block.0 (n + 1))
    (c.args.self.now.before.items ++ c.last_of-name.result ∷ [])) size
    (pushed (numbers c.args.holds.now) c.args.self.now.last.items c.args.self.now.before.items c.args.block.0
    c.last_of-name.result c.requires.index c.last_of-name.ensures c.requires.homed))

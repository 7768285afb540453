use Rattle.std.proofs.Common.{◌≡◌, ◌<◌, ◌≤◌, ℕ, Some}
use Rattle.sim_stops.specs.WantedFiles.{files_behind}
use Rattle.sim_stops.proofs.wanted.Wanted.differs.Given as goal

abbrev pub invariant-files : goal.invariant-files
invariant-files l = (count : ℕ) → count < l.count → l.self.least ≤ count → count ≤ l.self.most
    → files_behind l.self.files.now count ≡ Some l.found → ⊥

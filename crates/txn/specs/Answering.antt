-- When there is an answer with which reads and writes are a plan's.
use Rattle.std.specs.Prelude.{ℕ, List}
use Rattle.objects.specs.Object.{ObjectBytes}

-- with some answer these are what a plan answers, reads and writes
abbrev pub OfSome : {A : Type 0} → (ℕ → ℕ → A → List ObjectBytes → List ObjectBytes → Type 0)
    → ℕ → ℕ → List ObjectBytes → List ObjectBytes → Type 0
OfSome {A} is_plan blocks inodes read written = (answer : A) × is_plan blocks inodes answer read written

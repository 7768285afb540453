-- What is told of a server that can serve, by how it ends.
use Rattle.std.specs.Prelude.{◌≡◌, Bool, true, false, Result, Ok, Err}
use Rattle.server.specs.declared.threads.ServeFault.{ServeFault}
use Rattle.server.specs.declared.threads.ServeFault.TheVariants.{Memory, Output}

-- nothing was told where no memory or no thread was left to begin with; else it was, or that failed
abbrev pub Announces : {A T : Type 0} → (A → Bool → A → Type 0) → A → Result T ServeFault → A → Type 0
Announces tells before (Err Memory) after = after ≡ before
Announces tells before (Err Output) after = tells before false after
Announces tells before other after = tells before true after

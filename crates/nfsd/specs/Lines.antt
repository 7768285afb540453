-- The line of a server that can serve.
use Rattle.std.specs.Prelude.{◌≡◌, ℕ, List, ◌++◌, [], ◌∷◌, Option, Result, Ok, Err, codes}
use Rattle.std.specs.Io.KnownBytes.{Appends}
use Rattle.server.specs.declared.threads.ServeFault.{ServeFault}
use Rattle.server.specs.declared.threads.ServeFault.TheVariants.{Memory, Output}

-- `listening ADDRESS`
abbrev pub listening_line : List ℕ → List ℕ
listening_line address = (codes "listening " ++ address) ++ 10 ∷ []

-- what was printed of a server by how it ended: nothing where no memory or no thread was left to begin with; where it
-- couldn't be printed that isn't said; and else the line of its address, and nothing else
abbrev pub IsAnnouncedBy : {T : Type 0} → Option (List ℕ) → List ℕ → Result T ServeFault → Option (List ℕ) → Type 0
IsAnnouncedBy written address (Err Memory) written' = written' ≡ written
IsAnnouncedBy written address (Err Output) written' = Unit {0}
IsAnnouncedBy written address other written' = Appends written written' (listening_line address)

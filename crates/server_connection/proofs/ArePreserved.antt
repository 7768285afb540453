-- A read that failed took nothing.
use Rattle.std.proofs.Common.{ℕ, List, [], Option, None, Some, sym}
use Rattle.std.specs.Io.KnownBytes.{Consumes, Keeps}

pub took_none : (old new : Option (List ℕ)) → Keeps old new → Consumes old new []
took_none None new preserves = tt
took_none (Some xs) None preserves = absurd preserves
took_none (Some xs) (Some ys) preserves = sym preserves

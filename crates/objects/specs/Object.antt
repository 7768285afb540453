-- What a contract sees of an object.
use Rattle.std.specs.Prelude.{ℕ, List}
use Rattle.objects.specs.declared.addr.Addr.{Addr}

-- an address and the bytes there
pub record ObjectBytes : Type 0 where
  pub addr : Addr
  pub bytes : List ℕ

-- What a worker has asked for, beside what it goes by.
use Rattle.std.specs.Prelude.{Option}
use Rattle.objects.specs.declared.addr.Addr.{Addr}
use Rattle.objects.specs.declared.mode.Mode.{Mode}
use Rattle.store_workers.specs.declared.workers.parts.Job.{Job}

-- the object whose block was fetched last, in which mode it is asked for, and the call whose procedure was committed and waits for its place
pub record Asking : Type 0 where
  pub fetch_addr : Option Addr
  pub mode : Mode
  pub waiting : Option Job

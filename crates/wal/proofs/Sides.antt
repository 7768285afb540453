-- What holds of either side's calls: the laws of logger and of installer, by the side.
use Rattle.std.proofs.Common.{◌≡◌, Bool, if◌then◌else◌, IfSome, IsSome, Option, Result}
use Rattle.disk.specs.Device.{Device}
use Rattle.disk.specs.declared.block.Side.{Side}
use Rattle.disk.specs.declared.block.Side.TheVariants.{Log as LogSide, Home}
use Rattle.disk.specs.declared.device.Failed.{Failed}
use Rattle.circ.specs.Log.Effects.{HasGoneOn}
use Rattle.circ.specs.Log.Io.{HasMade, Io}
use Rattle.circ.specs.Log.Log.{IsLawful, Log}
use Rattle.circ.proofs.LogLemmas.Unaffected.{inst_done, inst_goes_out, log_done, log_goes_out, stands_inst_made, stands_log_made}
use Rattle.circ.proofs.LogLemmas.Effects.{seen_inst_done, seen_inst_out, seen_log_done, seen_log_out}
use Rattle.wal.specs.Sides.{IsNextCall, call_comes_back, call_goes_out, call_is_made, is_out, with_back, with_out}

pub seen_out : (role : Side) (log : Log) → HasGoneOn log (with_out role log)
seen_out LogSide log = seen_log_out log
seen_out Home log = seen_inst_out log

pub seen_done : (role : Side) (log : Log) (out ok : Bool) → IsLawful log
    → HasGoneOn log (if out then with_back role log ok else log)
seen_done LogSide log out ok lawful = seen_log_done log out ok lawful
seen_done Home log out ok lawful = seen_inst_done log out ok lawful

pub goes_out : (role : Side) (io : Option Io) (old new : Log) → IsLawful old
    → (IsSome io → new ≡ with_out role old) → IfSome io (λ x. IsNextCall role new x)
    → IfSome io (λ x. call_goes_out role old x new)
goes_out LogSide io old new lawful some next = log_goes_out io old new lawful some next
goes_out Home io old new lawful some next = inst_goes_out io old new lawful some next

pub is_made : (role : Side) (old new : Device) (io : Io) (answer : Result Unit Failed) → HasMade old io answer new
    → call_is_made role old io answer new
is_made LogSide old new io answer made = λ base log other lawful stands.
    stands_log_made old new base log io answer other lawful made stands
is_made Home old new io answer made = λ base log other lawful stands.
    stands_inst_made old new base log io answer other lawful made stands

pub comes_back : (role : Side) (old new : Log) (io : Io) (ok : Bool) → IsLawful old
    → new ≡ (if is_out role old io then with_back role old ok else old) → call_comes_back role old io ok new
comes_back LogSide old new io ok lawful is = log_done old new io ok lawful is
comes_back Home old new io ok lawful is = inst_done old new io ok lawful is

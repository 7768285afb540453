-- The call lies on the disk, and was made there.
use Rattle.std.proofs.Common.{rules}
use Rattle.circ.specs.Log.Io.{IsCallWithin}
use Rattle.wal_calls.proofs.callers.caller.make_on_disk.Goals as goal

pub returns-clause-made : goal.returns-clause-made
returns-clause-made g c = λ side.
    let within : IsCallWithin (g.D.CrashDisk.device c.args.disk.now).size c.args.io.now.call = search rules in
    record {
      within = λ _. record {
        answer = c.perform.result;
        ok_is = c.is_ok.ensures.value;
        call = c.perform.ensures.call;
        failure = c.perform.ensures.failure;
        law = c.perform.ensures.law side;
      };
      beyond = λ no. absurd (no within);
    }

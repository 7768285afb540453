-- A device that was opened and served.
use Rattle.std.proofs.Common.{◌≡◌, ◌∙◌, ap, refl, sym}
use Rattle.nfsd.proofs.Obeyed.{outcome_of, serves}
use Rattle.nfsd.proofs.device.serve_device.Goals.{in-Ok-served, in-Err-served}
use Rattle.nfsd.proofs.device.serve_device.Goals as goal

pub returns : goal.returns
returns g c =
    let came : c.match-served.outcome ≡ outcome_of c.serve-served.result = elim c.match-served.branch [
      | in-Ok-served w ↦ w.outcome-is ∙ sym (ap outcome_of w.in-Ok-served.is)
      | in-Err-served w ↦ w.outcome-is ∙ sym (ap outcome_of w.in-Err-served.is)
    ] in
    serves _ _ _ _ _ _ _ _ c.serve-served.result c.match-served.outcome c.in-Ok.ensures.opened c.moment.ensures
    c.serve-served.ensures.served (sym (ap g.D.CrashDisk.device c.close.ensures)) came

pub returns-in-Err : goal.returns-in-Err
returns-in-Err g c = (c.in-Err.ensures.opened, refl)

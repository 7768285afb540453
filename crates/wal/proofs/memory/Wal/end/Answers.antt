use Rattle.std.proofs.Common.{◌≡◌, ◌∙◌, false, ap, subst}
use Rattle.disk.specs.declared.block.Side.{Side}
use Rattle.circ.specs.Log.Log.{Log}
use Rattle.circ.proofs.LogLemmas.Lawful.{lawful_installed}
use Rattle.wal.specs.ByRole.{out_of}
use Rattle.wal.specs.View.{log_of}
use Rattle.wal.proofs.Stages.{lawful_group_ended}
use Rattle.wal.proofs.memory.Wal.end.Goals as goal

pub invariant_of-self : goal.invariant_of-self
invariant_of-self c =
    let none : (log_of c.self.inside).log_out ≡ false = ap (λ (l : Log). l.log_out) c.self.view_is
    ∙ subst (λ (role : Side). out_of role c.args.self.now ≡ false) c.in-Log.is c.requires in
    rw c.end.ensures (lawful_group_ended (log_of c.self.inside) c.self.invariant.0 none, tt, c.self.invariant.2)

pub invariant_of-self-in-Home : goal.invariant_of-self-in-Home
invariant_of-self-in-Home c =
    let none : (log_of c.self.inside).inst_out ≡ false = ap (λ (l : Log). l.inst_out) c.self.view_is
    ∙ subst (λ (role : Side). out_of role c.args.self.now ≡ false) c.in-Home.is c.requires in
    rw (c.end-in-Home.ensures, c.take_out.ensures)
    (lawful_installed (log_of c.self.inside) c.self.invariant.0 none, c.self.invariant.1, tt)

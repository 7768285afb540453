-- The call that was handed out is the one that is out.
use Rattle.std.proofs.Common.{arith, ◌≡◌, ◌∙◌, ap, refl, ℕ, Bool, true, false, ◌&&◌, nat_eq, nat_lt}
use Rattle.std.proofs.Common.{if◌then◌else◌}
use Rattle.std.proofs.lemmas.Bool.Decides.{nat_tests}
use Rattle.circ.specs.Log.Installer.{IsNextInstCall, is_inst_out, next_home, with_inst_out}
use Rattle.circ.specs.Log.Io.{Io}
use Rattle.circ.specs.Log.Log.{Log, log_end}
use Rattle.circ.specs.Log.Logger.{IsNextLogCall, is_log_out}

same_out : (is_out : Bool) (a b c d : ℕ) → is_out ≡ true → a ≡ b → c ≡ d
    → (is_out && (nat_eq a b && nat_eq c d)) ≡ true
same_out is_out a b c d is first second = grind (arith, nat_tests)

-- of the logger
pub its_is_out : (log : Log) (io : Io) → log.log_out ≡ true → IsNextLogCall log io → is_log_out log io ≡ true
its_is_out log io is_out next =
    same_out log.log_out io.beginning (log_end log) io.step log.log_step is_out next.beginning next.step

-- of the installer
pub its_home_is_out : (log : Log) (io : Io) → log.inst_out ≡ true → IsNextInstCall log io
    → is_inst_out log io ≡ true
its_home_is_out log io is_out next =
    same_out log.inst_out io.beginning log.start io.step log.inst_step is_out next.beginning next.step

-- with it the log is broken just where it was before
pub inst_out_sound : (log : Log) (has : Bool) → ((if has then record log { inst_out = true } else record log {
  installing = log.logged;
  inst_step = next_home log.changes log.logged 0;
  inst_out = true;
}).broken ≡ log.broken) × ((if has then record log { inst_out = true } else record log {
  installing = log.logged;
  inst_step = next_home log.changes log.logged 0;
  inst_out = true;
}).inst_out ≡ true)
inst_out_sound log true = (refl, refl)
inst_out_sound log false = (refl, refl)

-- the installer's, once it was taken
pub inst_is_out : (log out : Log) (io : Io) → out ≡ with_inst_out log → IsNextInstCall out io
    → is_inst_out out io ≡ true
inst_is_out log out io out_is next =
    its_home_is_out out io
    (ap (λ (l : Log). l.inst_out) out_is ∙ (inst_out_sound log (nat_lt 0 log.installing)).1) next

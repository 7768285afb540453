-- What is printed, one thing behind another.
use Rattle.std.proofs.Common.{◌≡◌, List, length, arith, inl, inr, ℕ, [], ◌∷◌, ◌++◌, Option, Some, None, sym, append_assoc, refl, subst}
use Rattle.std.specs.Io.KnownBytes.{Appends}
use Rattle.std.proofs.KnownBytes.{Appends-nil}
use Rattle.http_server.proofs.KnownLemmas.{Appends-then}
use Rattle.nfs_types.specs.declared.ctx.Moment.{Moment}
use Rattle.disk.specs.declared.mem_disk.MemDisk.{MemDisk}
use Rattle.sim.specs.Segments.{Happened}
use Rattle.sim.specs.Simulated.{Comes, Does, Ends, HasPlayed, Prints, moment_after}
use Rattle.sim.specs.declared.stage.Stage.{Stage}
use Rattle.sim.specs.declared.stage.Stage.TheVariants.{Open}
use Rattle.sim_words.specs.declared.command.Command.{Command}

-- something was printed that this is the beginning of: more of it is printed by the commands that are left
pub record IsBegun (start moment : Moment) (outset stage : Stage) (all left : List Command)
    (written now : Option (List ℕ)) : Type 0 where
  pub printed : List ℕ
  pub appends : Appends written now printed
  pub goes_on : (more : List ℕ) → Comes moment stage left more → Comes start outset all (printed ++ more)

pub it_begins : (moment : Moment) (stage : Stage) (all : List Command) (written : Option (List ℕ))
    → IsBegun moment moment stage stage all all written written
it_begins moment stage all written = record {
  printed = [];
  appends = Appends-nil written;
  goes_on = λ more comes. comes;
}

-- a command more
pub it_goes_on : (start moment : Moment) (outset stage later : Stage) (all left : List Command) (command : Command)
    (written now then : Option (List ℕ)) → IsBegun start moment outset stage all (command ∷ left) written now
    → Prints now then (Does moment stage command later)
    → IsBegun start (moment_after command moment) outset later all left written then
unfolding Comes
it_goes_on start moment outset stage later all left command written now then begun (printed, appends, does) = record {
  printed = begun.printed ++ printed;
  appends = Appends-then written now then begun.printed printed begun.appends appends;
  goes_on = λ more comes. subst (λ (bytes : List ℕ). Comes start outset all bytes)
      (sym (append_assoc begun.printed printed more))
      (begun.goes_on (printed ++ more) (later, printed, more, does, comes, refl));
}

-- the end
pub it_ends : (start moment : Moment) (outset stage : Stage) (all : List Command) (written now then : Option (List ℕ))
    → IsBegun start moment outset stage all [] written now → Prints now then (Ends stage)
    → Prints written then (Comes start outset all)
unfolding Comes
it_ends start moment outset stage all written now then begun (printed, appends, ends) = (
  begun.printed ++ printed,
  Appends-then written now then begun.printed printed begun.appends appends,
  begun.goes_on printed ends,
)

-- so it is where no command is left
pub it_ends_at : (start moment : Moment) (outset stage : Stage) (all left : List Command)
    (written now then : Option (List ℕ)) → length left ≡ 0
    → IsBegun start moment outset stage all left written now → Prints now then (Ends stage)
    → Prints written then (Comes start outset all)
it_ends_at start moment outset stage all [] written now then none begun ends =
    it_ends start moment outset stage all written now then begun ends
it_ends_at start moment outset stage all (it ∷ left) written now then none begun ends = absurd (omega (arith, none))

-- what a run prints, or a refusal, is the end of what an open store prints
pub play_ends : (disk : MemDisk) (happened : Happened) (left : Option MemDisk) (printed : List ℕ)
    → HasPlayed disk happened left printed → Ends (Open disk happened) printed
play_ends disk happened (Some left) printed run = inl (left, run)
play_ends disk happened None printed refusal = inr refusal

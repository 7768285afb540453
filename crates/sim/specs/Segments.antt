-- What happens from an opening to a crash or to the end.
use Rattle.std.specs.Prelude.{ℕ, Bool, true, false, List, [], ◌∷◌, ◌++◌, length}
use Rattle.nfs_types.specs.declared.ctx.Moment.{Moment}
use Rattle.store_promise.specs.declared.events.Event.{Event}
use Rattle.sim.specs.Events.{events_of}
use Rattle.sim.specs.declared.handed.Handed.{Handed}
use Rattle.sim_words.specs.declared.command.Action.{Action}
use Rattle.sim_words.specs.declared.command.Action.TheVariants as act

-- the events, the messages among them, the device calls that fail, counted from the first of the opening, and whether
-- the files are told
pub record Happened : Type 0 where
  pub events : List Event
  pub handed : List Handed
  pub fails : List ℕ
  pub shows : Bool

abbrev pub nothing : Happened
nothing = record { events = []; handed = []; fails = []; shows = false }

abbrev pub with_show : Happened → Happened
with_show happened = record happened { shows = true }

-- the message of what happens behind so many events, if it is one
abbrev pub handed_by : ℕ → Action → List Handed
handed_by event (act.Call worker xid credential call) = record { event = event; worker = worker; xid = xid } ∷ []
handed_by event (act.Drive worker) = []
handed_by event (act.Log calls) = []
handed_by event (act.Install calls) = []
handed_by event (act.Event it) = []
handed_by event (act.Fail call) = []

-- the device call that fails, if one is to
abbrev pub fails_of : Action → List ℕ
fails_of (act.Call worker xid credential call) = []
fails_of (act.Drive worker) = []
fails_of (act.Log calls) = []
fails_of (act.Install calls) = []
fails_of (act.Event event) = []
fails_of (act.Fail call) = call ∷ []

-- and something more, at a moment
abbrev pub with_action : Moment → Action → Happened → Happened
with_action moment action happened = record {
  events = happened.events ++ events_of moment action;
  handed = happened.handed ++ handed_by (length happened.events) action;
  fails = happened.fails ++ fails_of action;
  shows = happened.shows;
}

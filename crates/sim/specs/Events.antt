-- What happens to an open store, as events of a run.
use Rattle.std.specs.Prelude.{ℕ, zero, suc, List, [], ◌∷◌, ◌++◌}
use Rattle.store_promise.specs.declared.events.Event.{Event}
use Rattle.store_promise.specs.declared.events.Event.TheVariants as event
use Rattle.nfs_types.specs.declared.ctx.Moment.{Moment}
use Rattle.sim.specs.declared.events.TheConstants.{DRIVES}
use Rattle.sim_words.specs.declared.command.Action.{Action}
use Rattle.sim_words.specs.declared.command.Action.TheVariants as act
use Rattle.sim_words.specs.declared.command.OneEvent.{OneEvent}
use Rattle.sim_words.specs.declared.command.OneEvent.TheVariants as one

abbrev pub one_event : OneEvent → Event
one_event (one.Work worker) = event.Work worker
one_event (one.Read worker) = event.Read worker
one_event one.Log = event.Log
one_event one.LogIo = event.LogIo
one_event one.Install = event.Install
one_event one.InstIo = event.InstIo

-- the same events so often
unfoldable pub repeated : ℕ → List Event → List Event
repeated zero events = []
repeated (suc times) events = events ++ repeated times events

-- a worker makes a step, and then the read that may be due
abbrev pub drive_events : ℕ → List Event
drive_events worker = repeated DRIVES (event.Work worker ∷ event.Read worker ∷ [])

-- a device call of the log is taken, made and given back
abbrev pub log_events : ℕ → List Event
log_events calls = repeated calls (event.Log ∷ event.LogIo ∷ event.Log ∷ [])

-- and so is one of the installer
abbrev pub install_events : ℕ → List Event
install_events calls = repeated calls (event.Install ∷ event.InstIo ∷ event.Install ∷ [])

-- the events of what happens at a moment; that a device call fails is none
abbrev pub events_of : Moment → Action → List Event
events_of moment (act.Call worker xid credential call) = event.Call worker credential moment call ∷ []
events_of moment (act.Drive worker) = drive_events worker
events_of moment (act.Log calls) = log_events calls
events_of moment (act.Install calls) = install_events calls
events_of moment (act.Event event) = one_event event ∷ []
events_of moment (act.Fail call) = []

-- What comes of all entries.
use Rattle.std.proofs.Common.{rules, ◌≡◌, ◌+◌, refl, Err, alloc_error}
use Rattle.disk.specs.Device.{Device}
use Rattle.store_promise.specs.declared.fault.OpenFault.TheVariants as fault
use Rattle.store_images.proofs.ReplaysLemmas.Entries.{all_replayed, none_replayed, not_begun}
use Rattle.store_images.proofs.replays.entry_replay.replay.Goals as goal

pub returns-in_err-block-clause-replayed : goal.returns-in_err-block-clause-replayed
returns-in_err-block-clause-replayed g c = λ tree first holds early is_preserved.
    let same : c.from_residual.result ≡ Err (fault.NoMemory alloc_error) = search rules in
    rw same (refl, none_replayed (g.D.CrashDisk.device c.args.disk.now) tree first c.args.entries.now holds)

pub returns-in_err-geometry-clause-replayed : goal.returns-in_err-geometry-clause-replayed
returns-in_err-geometry-clause-replayed g c = λ tree first holds early is_preserved.
    let same : c.from_residual-in_err-geometry.result ≡ Err c.in_err-geometry.field-0.0 = search rules in
    rw same (not_begun (g.D.CrashDisk.device c.args.disk.now) (g.D.CrashDisk.device c.begin.new.disk) tree first
    c.args.entries.now c.in_err-geometry.field-0.0 (c.in_err-geometry.ensures.begun tree first holds is_preserved))

pub returns-clause-replayed : goal.returns-clause-replayed
returns-clause-replayed g c = λ tree first holds early is_preserved.
    let before : Device = g.D.CrashDisk.device c.args.disk.now in
    let mid : Device = g.D.CrashDisk.device c.begin.new.disk in
    let later : Device = g.D.CrashDisk.device c.replay_all.new.disk in
    all_replayed c.in_ok-geometry.geometry before mid later tree first c.args.entries.now
    c.in_ok-geometry.ensures.answered.1 c.replay_all.result c.replay_all.ensures.failure
    (c.replay_all.ensures.replayed tree (first + 1) (c.in_ok-geometry.ensures.begun tree first holds
    (c.replay_all.ensures.model is_preserved)) early is_preserved)

-- One entry more was replayed.
use Rattle.std.proofs.Common.{rules, ◌≡◌, ◌∙◌, refl, sym, subst, List, Err}
use Rattle.std.proofs.lemmas.List.{take_all}
use Rattle.std.proofs.lemmas.List.Elements.{All-get_or}
use Rattle.disk.specs.Device.{Device}
use Rattle.nfs_types.specs.declared.call.Call.{Call}
use Rattle.nfs_types.specs.declared.ctx.Ctx.{Ctx}
use Rattle.store_promise.proofs.Later.{past_more, past_none}
use Rattle.store_images.specs.Replays.Replayed.{IsOfBoot, after_entries}
use Rattle.store_images.proofs.ReplaysLemmas.Entries.{entries_more, goes_so_far}
use Rattle.store_images.proofs.replays.entry_replay.replay_all.Goals as goal

pub entries-init : goal.entries-init
entries-init g c = record {
  later = past_none (g.D.CrashDisk.device c.args.disk.now);
  failures = refl;
  model = λ is_preserved. is_preserved;
  replayed = λ tree boot holds early is_preserved. (tree, refl, holds);
}

pub returns-in_err-replay_one-clause-replayed : goal.returns-in_err-replay_one-clause-replayed
returns-in_err-replay_one-clause-replayed g c = λ tree boot holds early is_preserved.
    let mid : Device = g.D.CrashDisk.device c.entries.disk in
    let later : Device = g.D.CrashDisk.device c.replay_one.new.disk in
    let so_far = c.entries.invariant.replayed tree boot holds early (c.replay_one.ensures.model is_preserved) in
    let same : c.from_residual.result ≡ Err c.in_err-replay_one.field-0.0 = search rules in
    rw same (goes_so_far c.args.geometry mid later tree so_far.0 boot c.args.entries.now c.entries.entry-index
    c.in_err-replay_one.field-0.0 so_far.1 so_far.2 c.in_err-replay_one.ensures.is_preserved)

pub entries-preserved : goal.entries-preserved
entries-preserved g c =
    let first : Device = g.D.CrashDisk.device c.args.disk.now in
    let mid : Device = g.D.CrashDisk.device c.entries.disk in
    let later : Device = g.D.CrashDisk.device c.replay_one.new.disk in
    let inv = c.entries.invariant in
    record {
      later = past_more first mid later inv.later c.replay_one.ensures.later;
      failures = c.in_ok-replay_one.ensures.failure ∙ inv.failures;
      model = λ is_preserved. inv.model (c.replay_one.ensures.model is_preserved);
      replayed = λ tree boot holds early is_preserved.
          let so_far = inv.replayed tree boot holds early (c.replay_one.ensures.model is_preserved) in
          let of_boot = subst (IsOfBoot boot) (sym c.entry-item.is)
          (All-get_or (IsOfBoot boot) c.args.entries.now c.entries.entry-index c.entry-item.result
          c.entries-test.true early) in
          let next = c.in_ok-replay_one.ensures.replayed so_far.0 boot so_far.2 of_boot is_preserved in (
            next.0,
            entries_more tree so_far.0 next.0 c.args.entries.now c.entries.entry-index c.entry-item.result
                c.entries-test.true c.entry-item.is so_far.1 next.1,
            next.2,
          );
    }

pub returns-clause-replayed : goal.returns-clause-replayed
returns-clause-replayed g c = λ tree boot holds early is_preserved.
    let all = c.entries.invariant.replayed tree boot holds early is_preserved in (
      all.0,
      subst (λ (es : List (Ctx × Call)). after_entries tree es all.0)
          (take_all c.entries.entry-index c.args.entries.now c.entries-test.false) all.1,
      all.2,
    )

-- What the fields of the memory log stand for.
use Rattle.std.specs.Prelude.{is_none}
use Rattle.wal.specs.Batch.{IsStageOf, step_at}
use Rattle.wal.specs.declared.memory.Wal.TheInside.{Inside}
use Rattle.circ.specs.Log.Log.{Log, IsLawful}

abbrev pub log_of : Inside → Log
log_of w =
    record {
      blocks = w.changes.blocks;
      start = w.changes.start;
      changes = w.changes.changes;
      logged = w.logged;
      taken = w.batches.log.taken;
      log_step = step_at w.batches.log.taken w.batches.log.stage;
      log_out = is_none w.batches.log.buffer;
      installing = w.batches.home.taken;
      inst_step = step_at w.batches.home.taken w.batches.home.stage;
      inst_out = is_none w.batches.home.buffer;
      places = w.places;
      broken = w.broken;
    }

-- the log is lawful, and each side is at a call of what it has taken
abbrev pub IsSound : Inside → Type 0
IsSound w = IsLawful (log_of w) × IsStageOf w.batches.log.taken w.batches.log.stage
    × IsStageOf w.batches.home.taken w.batches.home.stage

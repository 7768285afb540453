-- What was found in the log, or that there is none.
use Rattle.std.proofs.Common.{◌≡◌, rules, Err}
use Rattle.store_images.proofs.Refusing.{is_found, no_log, shows_none}
use Rattle.store_images.proofs.opening.find.Goals as goal

pub returns-in_err-wal-clause-refused : goal.returns-in_err-wal-clause-refused
returns-in_err-wal-clause-refused g c =
    let super = c.in_ok-found.ensures in
    let same : c.from_residual-in_err-wal.result ≡ Err c.in_err-wal.field-0.0 = search rules in
    rw same (no_log (g.D.CrashDisk.keeps_model c.find_log.new.disk) (g.D.CrashDisk.device c.args.disk.now)
    (g.D.CrashDisk.device c.read_super.new.disk) (g.D.CrashDisk.device c.find_log.new.disk)
    c.in_ok-found.found super.reads c.find_log.ensures.reads super.blocks super.boot
    (λ is_preserved clean. super.found (c.find_log.ensures.model is_preserved) clean)
    c.in_err-wal.field-0.0 c.in_err-wal.ensures.refused c.in_err-wal.ensures.failure super.failure)

pub returns-clause-found : goal.returns-clause-found
returns-clause-found g c =
    let super = c.in_ok-found.ensures in
    is_found (g.D.CrashDisk.keeps_model c.find_log.new.disk) (g.D.CrashDisk.device c.args.disk.now)
    (g.D.CrashDisk.device c.read_super.new.disk) (g.D.CrashDisk.device c.find_log.new.disk)
    c.in_ok-found.found super.reads c.find_log.ensures.reads super.blocks super.boot
    (λ is_preserved clean. super.found (c.find_log.ensures.model is_preserved) clean)
    c.in_ok-wal.wal c.in_ok-wal.ensures.found

pub returns-clause-none : goal.returns-clause-none
returns-clause-none g c = λ is_preserved clean.
    let super = c.in_ok-found.ensures in
    shows_none (g.D.CrashDisk.keeps_model c.find_log.new.disk) (g.D.CrashDisk.device c.args.disk.now)
    (g.D.CrashDisk.device c.read_super.new.disk) (g.D.CrashDisk.device c.find_log.new.disk)
    c.in_ok-found.found super.reads c.find_log.ensures.reads super.blocks super.boot
    (λ is_preserved clean. super.found (c.find_log.ensures.model is_preserved) clean)
    c.in_ok-wal.wal (returns-clause-found g c is_preserved clean)

-- What comes home comes nearer, and a stop leaves what it left.
use Rattle.std.proofs.Common.{◌∙◌, ap, rules, subst, sym}
use Rattle.txn_law.specs.Core.{CoreState}
use Rattle.circ.specs.Log.Installer.{is_inst_out, with_inst_back}
use Rattle.circ.specs.Log.Io.{IsCallWithin}
use Rattle.circ.specs.Log.Recovery.{image_of}
use Rattle.wal_calls.proofs.CallersLemmas.Made.{made_later}
use Rattle.store_promise.proofs.Later.{past_one}
use Rattle.store_images.proofs.CallsLeft.{given_back, inst_called}
use Rattle.store_images.proofs.ComingHome.{called_home, home_stops}
use Rattle.store_images.proofs.OutCalls.{inst_is_out}
use Rattle.store_images.proofs.Unused.{stays_unused}
use Rattle.store_images.proofs.opening.install_one.Goals as goal

pub returns-clause-bare : goal.returns-clause-bare
returns-clause-bare g c =
    let one = c.make_one.ensures.one (search rules) in
    stays_unused c.args.core.now one.mid c.make_one.new.core one.io one.ok c.requires.bare one.goes one.back

pub returns-clause-home : goal.returns-clause-home
returns-clause-home g c = λ before incremented brings.
    let one = c.make_one.ensures.one (search rules) in
    let answered = one.made.within
    (subst (λ n. IsCallWithin n one.io.call) (sym c.requires.size) one.goes.within) in
    let log = c.args.core.now.log in
    let out = one.mid.log in
    let new = c.make_one.new.core.log in
    let now = g.D.CrashDisk.device c.args.disk.now in
    let next = g.D.CrashDisk.device c.make_one.new.disk in
    let goes = ap (λ (core : CoreState). core.log) one.goes.core in
    let back = given_back (is_inst_out out one.io) (with_inst_back out one.ok) out new
    (inst_is_out log out one.io goes one.goes.next) one.back.log in
    let coming = called_home (image_of before) now next log out new one.io answered.answer one.ok
    one.lawful.log c.lawful.ensures.well_formed.changes goes one.goes.law answered.law
    answered.ok_is back one.back.law
    (one.back.blocks ∙ one.goes.blocks) brings.coming in
    record {
      coming = coming;
      preserves = home_stops before now next new incremented c.lawful-2.ensures.log
          (made_later now one.io answered.answer next answered.call) coming brings.preserves;
    }

pub returns-clause-later : goal.returns-clause-later
returns-clause-later g c =
    let one = c.make_one.ensures.one (search rules) in
    let answered = one.made.within
    (subst (λ n. IsCallWithin n one.io.call) (sym c.requires.size) one.goes.within) in
    let now = g.D.CrashDisk.device c.args.disk.now in
    let next = g.D.CrashDisk.device c.make_one.new.disk in
    past_one now next (made_later now one.io answered.answer next answered.call)

pub returns-clause-called : goal.returns-clause-called
returns-clause-called g c = λ _.
    let one = c.make_one.ensures.one (search rules) in
    let answered = one.made.within
    (subst (λ n. IsCallWithin n one.io.call) (sym c.requires.size) one.goes.within) in
    inst_called c.args.core.now.log one.mid.log c.make_one.new.core.log
    (g.D.CrashDisk.device c.args.disk.now) (g.D.CrashDisk.device c.make_one.new.disk) one.io
    answered.answer one.ok c.lawful.ensures.log (sym one.goes.may)
    (ap (λ (core : CoreState). core.log) one.goes.core)
    one.lawful.log one.goes.next answered.ok_is one.back.log
    answered.failure
    answered.call

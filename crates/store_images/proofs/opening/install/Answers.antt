-- What each call keeps, all of them keep.
use Rattle.std.proofs.Common.{arith, ◌∙◌, subst, sym}
use Rattle.circ.specs.Log.Recovery.{IsCertain}
use Rattle.store_promise.proofs.Later.{past_more}
use Rattle.store_images.proofs.opening.install.Goals as goal

pub returns-then-not-install_one-clause-home : goal.returns-then-not-install_one-clause-home
returns-then-not-install_one-clause-home g c = λ before incremented brings.
    c.install_one.ensures.home before incremented (c.calls.invariant.home before incremented brings)

pub calls-preserved : goal.calls-preserved
calls-preserved g c =
    let old = c.calls.invariant in
    let made = c.install_one.ensures in
    let sound = sym c.broken.ensures ∙ c.if-broken.false in
    let called = made.called c.if-not-install_one.false in
    record {
      later = past_more (g.D.CrashDisk.device c.args.disk.now) (g.D.CrashDisk.device c.calls.disk)
          (g.D.CrashDisk.device c.install_one.new.disk) old.later made.later;
      blocks = made.blocks ∙ old.blocks;
      bare = made.bare;
      inodes = made.inodes ∙ old.inodes;
      boot = made.boot ∙ old.boot;
      fresh = made.fresh;
      quiet = made.quiet;
      model = λ is_preserved. old.model (made.model is_preserved);
      same = made.later.size ∙ old.same ∙ sym made.blocks;
      sound = λ still. made.counted still ∙ old.sound sound;
      failed = λ broken. omega (arith, called.failed broken, old.sound sound);
      clean = λ still was. made.clean still (old.clean sound was);
      home = λ before incremented brings. made.home before incremented (old.home before incremented brings);
    }

pub returns-then-not-install_one-clause-clean : goal.returns-then-not-install_one-clause-clean
returns-then-not-install_one-clause-clean g c = λ was.
    let sound = sym c.broken.ensures ∙ c.if-broken.false in
    subst IsCertain (sym (c.install_one.ensures.none c.if-not-install_one.true).1)
    (c.calls.invariant.clean sound was)

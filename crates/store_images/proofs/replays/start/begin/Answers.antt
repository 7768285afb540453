-- What a beginning comes to: it is refused by what it has read, or all is at home.
use Rattle.std.proofs.Common.{rules, ◌≡◌, ◌+◌, ◌∙◌, refl, sym, ap, subst, ℕ, All, Err, List, alloc_error}
use Rattle.disk.specs.Device.{Content, Device}
use Rattle.disk.specs.declared.block.BlockNo.{BlockNo}
use Rattle.layout.specs.declared.geometry.Geometry.{Geometry}
use Rattle.layout.specs.declared.super_block.Super.{Super}
use Rattle.layout.specs.SuperForm.{super_bytes}
use Rattle.circ.specs.Log.Log.{IsHomeOn, blocks_of}
use Rattle.circ.specs.Log.Recovery.{image_of}
use Rattle.circ.proofs.LogLemmas.OnlyRead.{reads_then, certain_then}
use Rattle.store_promise.proofs.Later.{past_more, read_later}
use Rattle.store_promise.specs.declared.fault.OpenFault.TheVariants as fault
use Rattle.store_images.specs.BringingHome.{next_super}
use Rattle.store_images.proofs.Opens.{read_refused}
use Rattle.store_images.specs.Replays.AtHome.{HoldsAtHome}
use Rattle.store_images.specs.Replays.Putting.{HasComeHome, with_log_home}
use Rattle.store_images.proofs.ReplaysLemmas.AtHome.{tree_then}
use Rattle.store_images.proofs.ReplaysLemmas.Begun.{begins_at_home, refused_begins, refused_begins_log, refused_log, shows_nothing}
use Rattle.store_images.proofs.replays.start.begin.Goals as goal

pub returns-in_err-found-clause-begun : goal.returns-in_err-found-clause-begun
returns-in_err-found-clause-begun g c = λ tree first holds is_preserved.
    let before : Device = g.D.CrashDisk.device c.args.disk.now in
    let later : Device = g.D.CrashDisk.device c.read_super.new.disk in
    let same : c.from_residual.result ≡ Err c.in_err-found.field-0.0 = search rules in
    rw same (refused_begins before later tree first c.in_err-found.field-0.0
    (read_refused before tree first holds (g.D.CrashDisk.keeps_model c.read_super.new.disk)
    c.in_err-found.field-0.0 later is_preserved (g.met.D.CrashDisk.whole c.read_super.new.disk is_preserved)
    c.read_super.ensures.reads c.in_err-found.ensures.failure c.in_err-found.ensures.refused).because
    (tree_then before later tree first c.read_super.ensures.reads holds))

pub returns-in_err-logged-clause-answered : goal.returns-in_err-logged-clause-answered
returns-in_err-logged-clause-answered g c =
    let super = c.in_ok-found.ensures in
    let same : c.from_residual-in_err-logged.result ≡ Err c.in_err-logged.field-0.0 = search rules in
    rw same (refused_log (g.D.CrashDisk.keeps_model c.find_log.new.disk) (g.D.CrashDisk.device c.args.disk.now)
    (g.D.CrashDisk.device c.read_super.new.disk) (g.D.CrashDisk.device c.find_log.new.disk)
    c.in_ok-found.found super.reads c.find_log.ensures.reads super.blocks super.boot
    (λ is_preserved clean. super.found (c.find_log.ensures.model is_preserved) clean) super.failure
    c.in_err-logged.field-0.0 c.in_err-logged.ensures.refused c.in_err-logged.ensures.failure)

pub returns-in_err-logged-clause-begun : goal.returns-in_err-logged-clause-begun
returns-in_err-logged-clause-begun g c = λ tree first holds is_preserved.
    let super = c.in_ok-found.ensures in
    let same : c.from_residual-in_err-logged.result ≡ Err c.in_err-logged.field-0.0 = search rules in
    rw same (refused_begins_log (g.D.CrashDisk.keeps_model c.find_log.new.disk)
    (g.D.CrashDisk.device c.args.disk.now)
    (g.D.CrashDisk.device c.read_super.new.disk) (g.D.CrashDisk.device c.find_log.new.disk)
    c.in_ok-found.found super.reads c.find_log.ensures.reads super.blocks super.boot
    (λ is_preserved clean. super.found (c.find_log.ensures.model is_preserved) clean) super.failure
    c.in_err-logged.field-0.0 c.in_err-logged.ensures.refused c.in_err-logged.ensures.failure tree first holds
    is_preserved (g.met.D.CrashDisk.whole c.find_log.new.disk is_preserved))

pub returns-in_err-bytes-clause-begun : goal.returns-in_err-bytes-clause-begun
returns-in_err-bytes-clause-begun g c = λ tree first holds is_preserved.
    let before : Device = g.D.CrashDisk.device c.args.disk.now in
    let mid : Device = g.D.CrashDisk.device c.read_super.new.disk in
    let later : Device = g.D.CrashDisk.device c.find_log.new.disk in
    let same : c.from_residual-in_err-bytes.result ≡ Err (fault.NoMemory alloc_error) = search rules in
    rw same (
      c.in_ok-logged.ensures.failure ∙ c.in_ok-found.ensures.failure,
      tree_then before later tree first
          (reads_then before mid later c.in_ok-found.ensures.reads c.find_log.ensures.reads) holds,
    )

pub returns-in-Ok-clause-answered : goal.returns-in-Ok-clause-answered
returns-in-Ok-clause-answered g c =
    let before : Device = g.D.CrashDisk.device c.args.disk.now in
    let mid : Device = g.D.CrashDisk.device c.read_super.new.disk in
    let now : Device = g.D.CrashDisk.device c.find_log.new.disk in
    let later : Device = g.D.CrashDisk.device c.begin_home.new.disk in
    let super = c.in_ok-found.ensures in (
      past_more before now later
          (read_later before now (reads_then before mid now super.reads c.find_log.ensures.reads))
          c.begin_home.ensures.later,
      c.in-Ok.ensures.failure ∙ c.in_ok-logged.ensures.failure ∙ super.failure,
      λ is_preserved clean.
          shows_nothing (g.D.CrashDisk.keeps_model c.find_log.new.disk) before mid now c.in_ok-found.found
          super.reads c.find_log.ensures.reads super.blocks super.boot
          (λ is_preserved clean. super.found (c.find_log.ensures.model is_preserved) clean) super.failure
          c.in_ok-logged.logged.items c.in_ok-logged.end
          (λ is_preserved clean. c.in_ok-logged.ensures.found is_preserved clean) (c.begin_home.ensures.model is_preserved) clean,
    )

pub returns-in-Ok-clause-begun : goal.returns-in-Ok-clause-begun
returns-in-Ok-clause-begun g c = λ tree first holds is_preserved.
    let before : Device = g.D.CrashDisk.device c.args.disk.now in
    let mid : Device = g.D.CrashDisk.device c.read_super.new.disk in
    let now : Device = g.D.CrashDisk.device c.find_log.new.disk in
    let later : Device = g.D.CrashDisk.device c.begin_home.new.disk in
    let super = c.in_ok-found.ensures in
    let found : Super = c.in_ok-found.found in
    let incremented : Super = next_super found in
    let logged : List (BlockNo × Content) = c.in_ok-logged.logged.items in
    let end : ℕ = c.in_ok-logged.end in
    let model_now = c.begin_home.ensures.model is_preserved in
    let model_mid = c.find_log.ensures.model model_now in
    let came : HasComeHome now later (with_log_home (image_of now) logged end (super_bytes incremented)) =
    subst (λ (bytes : Content). HasComeHome now later (with_log_home (image_of now) logged end bytes))
    (c.deref-2.ensures.value ∙ c.in_ok-bytes.ensures.bytes
    ∙ ap (λ (g : Geometry). super_bytes (record { geometry = g; boot = found.boot + 1 })) c.newest-geometry.ensures.is)
    (subst (λ (xs : List (BlockNo × Content)). HasComeHome now later
    (with_log_home (image_of now) xs end c.deref-2.result.now))
    c.deref.ensures.value c.in-Ok.ensures.home) in
    subst (λ (g : Geometry). HoldsAtHome g later tree (first + 1)) (sym c.newest-geometry.ensures.is)
    (begins_at_home before mid now later tree first holds super.reads c.find_log.ensures.reads found incremented
    (super_bytes incremented) logged end (super.found model_mid holds.rest.certain) super.blocks refl refl
    (c.a_super_block_is_its_bytes.ensures incremented found.geometry.lawful super.boot)
    (c.in_ok-logged.ensures.found model_now (certain_then before mid super.reads holds.rest.certain))
    (subst (λ n. All (IsHomeOn n) (blocks_of logged)) (sym c.find_log.ensures.reads.size)
    c.in_ok-logged.ensures.homes)
    c.in_ok-logged.ensures.fits c.begin_home.ensures.later.size came)

-- At each stop of an opening the image has its tree.
use Rattle.std.proofs.Common.{ap, ap₂, ℕ, arith, ◌≡◌, ◌+◌, ◌∙◌, refl, sym, inl, inr, length, subst, Err, rules, alloc_error}
use Rattle.base.specs.declared.TheConstants.{BLOCK_BYTES}
use Rattle.disk.specs.Device.{Device}
use Rattle.layout.specs.declared.geometry.Geometry.{Geometry}
use Rattle.layout.specs.declared.super_block.Super.{Super}
use Rattle.layout.specs.Fields.{eight_bytes, four_bytes}
use Rattle.layout.specs.Newest.{newest}
use Rattle.layout.specs.SuperForm.{super_bytes, super_header}
use Rattle.store_promise.specs.Openings.{IsCauseOf}
use Rattle.store_promise.specs.declared.fault.OpenFault.TheVariants as fault
use Rattle.circ.proofs.LogLemmas.OnlyRead.{certain_then}
use Rattle.store_promise.proofs.Later.{past_none}
use Rattle.store_images.proofs.Opens.{begins, is_new, is_opened, later_refused, next_boot}
use Rattle.store_images.proofs.Opens.{none_home, read_refused}
use Rattle.store_images.proofs.Incrementing.{incremented_preserves}
use Rattle.circ.proofs.LogLemmas.OnlyRead.{no_read}
use Rattle.txn.specs.Core.{CoreState}
use Rattle.circ.specs.Log.Log.{Log}
use Rattle.store_images.specs.BringingHome.{BringsHome, HasIncremented, PreservesBlocks, next_super, unused}
use Rattle.store_images.proofs.opening.recover.Goals as goal

full : (super : Super) → length (super_bytes super) ≡ BLOCK_BYTES
unfolding super_header four_bytes eight_bytes
full super = refl

-- what is written is the super block in the newest version
incremented_is : (found : Super) (geometry : Geometry) → geometry ≡ newest found.geometry
    → super_bytes (record { geometry = geometry; boot = found.boot + 1 }) ≡ super_bytes (next_super found)
incremented_is found geometry is = ap (λ (g : Geometry). super_bytes (record { geometry = g; boot = found.boot + 1 })) is

pub returns-in_err-block-clause-preserves : goal.returns-in_err-block-clause-preserves
returns-in_err-block-clause-preserves g c = λ tree first holds is_preserved.
    let before = g.D.CrashDisk.device c.args.disk.now in
    let same : c.from_residual.result ≡ Err (fault.NoMemory alloc_error) = search rules in
    rw same (read_refused before tree first holds (g.D.CrashDisk.keeps_model c.args.disk.now)
    (fault.NoMemory alloc_error) before is_preserved (g.met.D.CrashDisk.whole c.args.disk.now is_preserved)
    (no_read before) refl (past_none before))

pub returns-in_err-block-clause-left : goal.returns-in_err-block-clause-left
returns-in_err-block-clause-left g c = λ rest is_preserved. inl (no_read (g.D.CrashDisk.device c.args.disk.now))

pub returns-in-Err-clause-left : goal.returns-in-Err-clause-left
returns-in-Err-clause-left g c = λ rest is_preserved. inl c.in-Err.ensures.reads

pub returns-in-Err-install-clause-left : goal.returns-in-Err-install-clause-left
returns-in-Err-install-clause-left g c = λ rest is_preserved.
    let before = g.D.CrashDisk.device c.args.disk.now in
    let now = g.D.CrashDisk.device c.find.new.disk in
    let found = c.in-Ok.found.0 in
    let log = c.in-Ok.found.1 in
    let model_now = c.install.ensures.model is_preserved in
    let is = c.in-Ok.ensures.found model_now rest.certain in
    let brings = c.install.ensures.home before (super_bytes (next_super found))
    (subst (λ (log : Log). BringsHome before (super_bytes (next_super found)) now log)
    (sym (ap (λ (core : CoreState). core.log) c.new-core.ensures))
    (begins before rest found log now (super_bytes (next_super found)) c.in-Ok.ensures.reads is
    c.lawful.ensures (g.met.D.CrashDisk.whole c.find.new.disk model_now))) in
    inr (found, is.is_super, brings.preserves)

pub returns-in-Err-increment-clause-left : goal.returns-in-Err-increment-clause-left
returns-in-Err-increment-clause-left g c = λ rest is_preserved.
    let before = g.D.CrashDisk.device c.args.disk.now in
    let now = g.D.CrashDisk.device c.find.new.disk in
    let found = c.in-Ok.found.0 in
    let log = c.install.new.core.log in
    let model_now = c.install.ensures.model (c.increment.ensures.model is_preserved) in
    let is = c.in-Ok.ensures.found model_now rest.certain in
    let brings = c.install.ensures.home before (super_bytes (next_super found))
    (subst (λ (log : Log). BringsHome before (super_bytes (next_super found)) now log)
    (sym (ap (λ (core : CoreState). core.log) c.new-core.ensures))
    (begins before rest found c.in-Ok.found.1 now (super_bytes (next_super found))
    c.in-Ok.ensures.reads is c.lawful.ensures (g.met.D.CrashDisk.whole c.find.new.disk model_now))) in
    let none = c.in_default.ensures.none in
    let empty = none_home log c.lawful-3.ensures.log none.0 c.install.ensures.quiet.installing none.1
    brings.coming.logged in
    let home = g.D.CrashDisk.device c.install.new.disk in
    let same = incremented_is found c.newest-geometry.result c.newest-geometry.ensures.is in
    inr (
      found,
      is.is_super,
      subst (PreservesBlocks before (g.D.CrashDisk.device c.increment.new.disk)) same
          (c.in-Err-increment.ensures.incremented before log c.lawful-3.ensures.log empty
          (subst (λ bytes. BringsHome before bytes home log) (sym same) brings)),
    )

pub returns-clause-left : goal.returns-clause-left
returns-clause-left g c = λ rest is_preserved.
    let before = g.D.CrashDisk.device c.args.disk.now in
    let now = g.D.CrashDisk.device c.find.new.disk in
    let found = c.in-Ok.found.0 in
    let log = c.install.new.core.log in
    let model_now = c.install.ensures.model (c.increment.ensures.model is_preserved) in
    let is = c.in-Ok.ensures.found model_now rest.certain in
    let brings = c.install.ensures.home before (super_bytes (next_super found))
    (subst (λ (log : Log). BringsHome before (super_bytes (next_super found)) now log)
    (sym (ap (λ (core : CoreState). core.log) c.new-core.ensures))
    (begins before rest found c.in-Ok.found.1 now (super_bytes (next_super found))
    c.in-Ok.ensures.reads is c.lawful.ensures (g.met.D.CrashDisk.whole c.find.new.disk model_now))) in
    let none = c.in_default.ensures.none in
    let empty = none_home log c.lawful-3.ensures.log none.0 c.install.ensures.quiet.installing none.1
    brings.coming.logged in
    let home = g.D.CrashDisk.device c.install.new.disk in
    let same = incremented_is found c.newest-geometry.result c.newest-geometry.ensures.is in
    inr (
      found,
      is.is_super,
      incremented_preserves before home
          (g.D.CrashDisk.device c.increment.new.disk) log (super_bytes (next_super found)) c.lawful-3.ensures.log empty
          (subst (λ bytes. HasIncremented before bytes home (g.D.CrashDisk.device c.increment.new.disk) log) same
          (c.in_default-increment.ensures.incremented before log c.lawful-3.ensures.log empty
          (subst (λ bytes. BringsHome before bytes home log) (sym same) brings))),
    )

pub returns-in-Err-clause-preserves : goal.returns-in-Err-clause-preserves
returns-in-Err-clause-preserves g c = λ tree first holds is_preserved.
    read_refused (g.D.CrashDisk.device c.args.disk.now) tree first holds
    (g.D.CrashDisk.keeps_model c.find.new.disk)
    c.in-Err.fault (g.D.CrashDisk.device c.find.new.disk) is_preserved (g.met.D.CrashDisk.whole c.find.new.disk is_preserved)
    c.in-Err.ensures.reads c.in-Err.ensures.failure c.in-Err.ensures.refused

pub returns-in-Err-install-clause-preserves : goal.returns-in-Err-install-clause-preserves
returns-in-Err-install-clause-preserves g c = λ tree first holds is_preserved.
    let before = g.D.CrashDisk.device c.args.disk.now in
    let now = g.D.CrashDisk.device c.find.new.disk in
    let later = g.D.CrashDisk.device c.install.new.disk in
    let found = c.in-Ok.found.0 in
    let log = c.in-Ok.found.1 in
    let model_now = c.install.ensures.model is_preserved in
    let is = c.in-Ok.ensures.found model_now holds.rest.certain in
    let brings = c.install.ensures.home before (super_bytes (next_super found))
    (subst (λ (log : Log). BringsHome before (super_bytes (next_super found)) now log)
    (sym (ap (λ (core : CoreState). core.log) c.new-core.ensures))
    (begins before holds.rest found log now (super_bytes (next_super found)) c.in-Ok.ensures.reads is
    c.lawful.ensures (g.met.D.CrashDisk.whole c.find.new.disk model_now))) in
    let failed = c.in-Err-install.ensures.failure in
    let same = c.in-Ok.ensures.failure in
    later_refused before tree first holds found (next_super found) (super_bytes (next_super found)) is.is_super refl refl
    (c.a_super_block_is_its_bytes.ensures (next_super found) found.geometry.lawful c.in-Ok.ensures.boot)
    (full (next_super found)) later c.in-Err-install.fault
    (g.met.D.CrashDisk.whole c.install.new.disk is_preserved) brings.preserves
    (subst (λ cause. IsCauseOf cause before later first) (sym failed.0) (omega (arith, failed.1, same)))

pub returns-in-Err-increment-clause-preserves : goal.returns-in-Err-increment-clause-preserves
returns-in-Err-increment-clause-preserves g c = λ tree first holds is_preserved.
    let before = g.D.CrashDisk.device c.args.disk.now in
    let now = g.D.CrashDisk.device c.find.new.disk in
    let home = g.D.CrashDisk.device c.install.new.disk in
    let later = g.D.CrashDisk.device c.increment.new.disk in
    let found = c.in-Ok.found.0 in
    let log = c.install.new.core.log in
    let model_now = c.install.ensures.model (c.increment.ensures.model is_preserved) in
    let is = c.in-Ok.ensures.found model_now holds.rest.certain in
    let brings = c.install.ensures.home before (super_bytes (next_super found))
    (subst (λ (log : Log). BringsHome before (super_bytes (next_super found)) now log)
    (sym (ap (λ (core : CoreState). core.log) c.new-core.ensures))
    (begins before holds.rest found c.in-Ok.found.1 now (super_bytes (next_super found))
    c.in-Ok.ensures.reads
    is c.lawful.ensures (g.met.D.CrashDisk.whole c.find.new.disk model_now))) in
    let none = c.in_default.ensures.none in
    let empty = none_home log c.lawful-3.ensures.log none.0 c.install.ensures.quiet.installing none.1
    brings.coming.logged in
    let same = incremented_is found c.newest-geometry.result c.newest-geometry.ensures.is in
    let preserves = subst (PreservesBlocks before later) same
    (c.in-Err-increment.ensures.incremented before log c.lawful-3.ensures.log empty
    (subst (λ bytes. BringsHome before bytes home log) (sym same) brings)) in
    later_refused before tree first holds found (next_super found) (super_bytes (next_super found)) is.is_super refl refl
    (c.a_super_block_is_its_bytes.ensures (next_super found) found.geometry.lawful c.in-Ok.ensures.boot)
    (full (next_super found)) later c.in-Err-increment.fault (g.met.D.CrashDisk.whole c.increment.new.disk is_preserved) preserves
    (elim c.in-Err-increment.ensures.failure [
      | inl failed ↦ subst (λ cause. IsCauseOf cause before later first) (sym failed.0)
          (omega (arith, failed.1, c.in_default.ensures.failure, c.in-Ok.ensures.failure))
      | inr memory ↦ subst (λ cause. IsCauseOf cause before later first) (sym memory.0)
          (ap (λ (d : Device). d.failures) memory.1 ∙ c.in_default.ensures.failure
          ∙ c.in-Ok.ensures.failure)
    ])

pub returns-clause-preserves : goal.returns-clause-preserves
returns-clause-preserves g c = λ tree first holds is_preserved.
    let before = g.D.CrashDisk.device c.args.disk.now in
    let now = g.D.CrashDisk.device c.find.new.disk in
    let home = g.D.CrashDisk.device c.install.new.disk in
    let later = g.D.CrashDisk.device c.increment.new.disk in
    let found = c.in-Ok.found.0 in
    let log = c.install.new.core.log in
    let model_now = c.install.ensures.model (c.increment.ensures.model is_preserved) in
    let is = c.in-Ok.ensures.found model_now holds.rest.certain in
    let brings = c.install.ensures.home before (super_bytes (next_super found))
    (subst (λ (log : Log). BringsHome before (super_bytes (next_super found)) now log)
    (sym (ap (λ (core : CoreState). core.log) c.new-core.ensures))
    (begins before holds.rest found c.in-Ok.found.1 now (super_bytes (next_super found))
    c.in-Ok.ensures.reads
    is c.lawful.ensures (g.met.D.CrashDisk.whole c.find.new.disk model_now))) in
    let none = c.in_default.ensures.none in
    let empty = none_home log c.lawful-3.ensures.log none.0 c.install.ensures.quiet.installing none.1
    brings.coming.logged in
    let same = incremented_is found c.newest-geometry.result c.newest-geometry.ensures.is in
    let increments = subst (λ bytes. HasIncremented before bytes home later log) same
    (c.in_default-increment.ensures.incremented before log c.lawful-3.ensures.log empty
    (subst (λ bytes. BringsHome before bytes home log) (sym same) brings)) in
    let is_incremented = c.a_super_block_is_its_bytes.ensures (next_super found) found.geometry.lawful
    c.in-Ok.ensures.boot in
    let blocks = g.met.D.CrashDisk.whole c.increment.new.disk is_preserved in
    let clean = c.in_default.ensures.clean
    (certain_then before now c.in-Ok.ensures.reads holds.rest.certain) in
    let over = is_new before tree first holds found (next_super found) (super_bytes (next_super found))
    is.is_super refl refl
    is_incremented (full (next_super found)) home later log c.lawful-3.ensures.log empty increments blocks c.install.new.core
    c.install.new.core.log_calls c.install.new.core.inst_calls
    (c.install.ensures.bare
    ∙ ap₂ (λ (n b : ℕ). record (unused c.install.new.core) { inodes = n; boot = b })
    (c.install.ensures.inodes ∙ ap (λ (core : CoreState). core.inodes) c.new-core.ensures)
    (c.install.ensures.boot ∙ ap (λ (core : CoreState). core.boot) c.new-core.ensures))
    c.lawful-3.ensures.well_formed c.install.ensures.fresh none.0 clean in (
      next_boot before tree first holds found (next_super found) (super_bytes (next_super found)) is.is_super refl
          refl is_incremented (full (next_super found)),
      log.start,
      is_opened before tree first holds found (next_super found) (super_bytes (next_super found)) is.is_super refl refl
          is_incremented (full (next_super found)) home later log c.lawful-3.ensures.log empty increments blocks
          (c.in_default-increment.ensures.failure ∙ c.in_default.ensures.failure
          ∙ c.in-Ok.ensures.failure),
      over.0,
      over.1,
    )

use Rattle.std.proofs.Common.{rules, ◌≡◌, ◌∙◌, true≢false, true, false, refl, sym, subst, Some, is_some}
use Rattle.store.proofs.Driven.{AfterLog, after_none, after_settling, begins_again, ends_round, none_made}
use Rattle.store.proofs.CallEvents.{again_goes, goes_once_reported, none_to_tell, still_fits}
use Rattle.store.proofs.Driven.{full_plans, nothing_new, reads_on, was_made}
use Rattle.store.proofs.DrivenSingle.{full_single, given_single, goes_single, log_space_then, round}
use Rattle.store.proofs.RunsLemmas.GoingRead.{with_model}
use Rattle.store.proofs.RunsLemmas.RunTaken.{goes_with, has_contents}
use Rattle.store.proofs.CallWaits.{has_not_waited, has_settled}
use Rattle.store_workers.specs.Single.{IsSingle}
use Rattle.store.specs.Calling.{HasStepped, HasWaited, IsCalling}
use Rattle.store.specs.Driving.{HasGoneOn, steps_left, waits_for_log}
use Rattle.store_images.specs.Opening.{store_of}
use Rattle.store_workers.specs.RunReports.{reported}
use Rattle.store_workers.specs.Worker.{GoesWith}
use Rattle.store_workers.specs.WorkerSteps.{worker_and_core}
use Rattle.store_workers.specs.declared.workers.Worker.{Worker}
use Rattle.store_workers.specs.declared.workers.parts.State.{State}
use Rattle.store.proofs.one_call.go_on.Goals.{then-waits_for_log, else-waits_for_log}
use Rattle.store.proofs.one_call.go_on.Goals as goal

pub returns-then-is_full-clause-single_worker : goal.returns-then-is_full-clause-single_worker
returns-then-is_full-clause-single_worker g c =
    let old = worker_and_core c.args.worker.now.state c.args.store.now.core in
    let mid = worker_and_core c.step-made.new.self.state c.step-made.new.core in
    let made = c.step-made.result in
    let core = c.if-waits_for_log.store.1.1.0 in
    let log : AfterLog (waits_for_log made) mid.core core =
    elim c.if-waits_for_log.branch [
      | then-waits_for_log w ↦
          after_settling (waits_for_log made) mid.core core w.settle.new.store.core w.settle.result
          (sym w.if-waits_for_log.ensures) (search rules) w.settle.ensures.counts w.settle.ensures.numbers
          w.settle.ensures.out w.settle.ensures.fetches w.settle.ensures.settled w.settle.ensures.broken
      | else-waits_for_log w ↦
          after_none (waits_for_log made) mid.core core (sym w.if-waits_for_log.ensures) (search rules)
    ] in
    let r = round old mid made core c.args.worker.now.transaction c.args.worker.now.fetch c.lawful.ensures.well_formed
    c.requires.single_worker c.requires.under_way c.step-made.ensures.step
    c.step-made.ensures.stays log in
    full_single old made mid core r (sym c.if-is_full.ensures) c.begin_again.new.self.state
    c.begin_again.ensures.planning

pub returns-then-is_full-clause-nearer : goal.returns-then-is_full-clause-nearer
returns-then-is_full-clause-nearer g c =
    let old = worker_and_core c.args.worker.now.state c.args.store.now.core in
    let mid = worker_and_core c.step-made.new.self.state c.step-made.new.core in
    let made = c.step-made.result in
    let core = c.if-waits_for_log.store.1.1.0 in
    let log : AfterLog (waits_for_log made) mid.core core =
    elim c.if-waits_for_log.branch [
      | then-waits_for_log w ↦
          after_settling (waits_for_log made) mid.core core w.settle.new.store.core w.settle.result
          (sym w.if-waits_for_log.ensures) (search rules) w.settle.ensures.counts w.settle.ensures.numbers
          w.settle.ensures.out w.settle.ensures.fetches w.settle.ensures.settled w.settle.ensures.broken
      | else-waits_for_log w ↦
          after_none (waits_for_log made) mid.core core (sym w.if-waits_for_log.ensures) (search rules)
    ] in
    let r = round old mid made core c.args.worker.now.transaction c.args.worker.now.fetch c.lawful.ensures.well_formed
    c.requires.single_worker c.requires.under_way c.step-made.ensures.step
    c.step-made.ensures.stays log in
    begins_again old.worker.phase old made mid refl r.came (sym c.if-is_full.ensures)
    c.begin_again.new.self.state core
    c.begin_again.ensures.planning
    (log_space_then old made mid core r (sym c.if-is_full.ensures) c.lawful-3.ensures.log) log.blocks

pub returns-then-is_some-clause-single_worker : goal.returns-then-is_some-clause-single_worker
returns-then-is_some-clause-single_worker g c =
    let old = worker_and_core c.args.worker.now.state c.args.store.now.core in
    let mid = worker_and_core c.step-made.new.self.state c.step-made.new.core in
    let made = c.step-made.result in
    let core = c.if-waits_for_log.store.1.1.0 in
    let log : AfterLog (waits_for_log made) mid.core core =
    elim c.if-waits_for_log.branch [
      | then-waits_for_log w ↦
          after_settling (waits_for_log made) mid.core core w.settle.new.store.core w.settle.result
          (sym w.if-waits_for_log.ensures) (search rules) w.settle.ensures.counts w.settle.ensures.numbers
          w.settle.ensures.out w.settle.ensures.fetches w.settle.ensures.settled w.settle.ensures.broken
      | else-waits_for_log w ↦
          after_none (waits_for_log made) mid.core core (sym w.if-waits_for_log.ensures) (search rules)
    ] in
    let r = round old mid made core c.args.worker.now.transaction c.args.worker.now.fetch c.lawful.ensures.well_formed
    c.requires.single_worker c.requires.under_way c.step-made.ensures.step
    c.step-made.ensures.stays log in
    let some : is_some c.read.result ≡ true = search rules in
    let (step, has) = was_made c.read.result _ _ some c.read.ensures.step in
    given_single _ _ _ mid.worker c.read.new.self.state step core (worker_and_core c.step.new.self.state c.step.new.core)
    c.step.result (c.read.ensures.due.0 some) has (goes_single old made mid core r (sym c.if-is_full.ensures))
    c.lawful-3.ensures.well_formed c.read.new.self.transaction c.read.new.self.fetch c.step.ensures.step
    c.step.ensures.stays

pub returns-then-is_some-clause-nearer : goal.returns-then-is_some-clause-nearer
returns-then-is_some-clause-nearer g c =
    let old = worker_and_core c.args.worker.now.state c.args.store.now.core in
    let mid = worker_and_core c.step-made.new.self.state c.step-made.new.core in
    let made = c.step-made.result in
    let core = c.if-waits_for_log.store.1.1.0 in
    let log : AfterLog (waits_for_log made) mid.core core =
    elim c.if-waits_for_log.branch [
      | then-waits_for_log w ↦
          after_settling (waits_for_log made) mid.core core w.settle.new.store.core w.settle.result
          (sym w.if-waits_for_log.ensures) (search rules) w.settle.ensures.counts w.settle.ensures.numbers
          w.settle.ensures.out w.settle.ensures.fetches w.settle.ensures.settled w.settle.ensures.broken
      | else-waits_for_log w ↦
          after_none (waits_for_log made) mid.core core (sym w.if-waits_for_log.ensures) (search rules)
    ] in
    let r = round old mid made core c.args.worker.now.transaction c.args.worker.now.fetch c.lawful.ensures.well_formed
    c.requires.single_worker c.requires.under_way c.step-made.ensures.step
    c.step-made.ensures.stays log in
    let some : is_some c.read.result ≡ true = search rules in
    let (step, has) = was_made c.read.result _ _ some c.read.ensures.step in
    reads_on old.worker.phase old made mid refl r.came (sym c.if-is_full.ensures)
    (c.read.ensures.due.0 some) core
    log.same _ _ _ step c.read.new.self.state c.step.result (worker_and_core c.step.new.self.state c.step.new.core) has
    c.step.ensures.step

pub returns-clause-single_worker : goal.returns-clause-single_worker
returns-clause-single_worker g c =
    let old = worker_and_core c.args.worker.now.state c.args.store.now.core in
    let mid = worker_and_core c.step-made.new.self.state c.step-made.new.core in
    let made = c.step-made.result in
    let core = c.if-waits_for_log.store.1.1.0 in
    let log : AfterLog (waits_for_log made) mid.core core =
    elim c.if-waits_for_log.branch [
      | then-waits_for_log w ↦
          after_settling (waits_for_log made) mid.core core w.settle.new.store.core w.settle.result
          (sym w.if-waits_for_log.ensures) (search rules) w.settle.ensures.counts w.settle.ensures.numbers
          w.settle.ensures.out w.settle.ensures.fetches w.settle.ensures.settled w.settle.ensures.broken
      | else-waits_for_log w ↦
          after_none (waits_for_log made) mid.core core (sym w.if-waits_for_log.ensures) (search rules)
    ] in
    let r = round old mid made core c.args.worker.now.transaction c.args.worker.now.fetch c.lawful.ensures.well_formed
    c.requires.single_worker c.requires.under_way c.step-made.ensures.step
    c.step-made.ensures.stays log in
    let none : is_some c.read.result ≡ false = search rules in
    let same = none_made c.read.result _ _ none c.read.ensures.step in
    subst (λ (w : Worker). IsSingle w.state core) (sym same.0)
    (goes_single old made mid core r (sym c.if-is_full.ensures))

pub returns-clause-nearer : goal.returns-clause-nearer
returns-clause-nearer g c =
    let old = worker_and_core c.args.worker.now.state c.args.store.now.core in
    let mid = worker_and_core c.step-made.new.self.state c.step-made.new.core in
    let made = c.step-made.result in
    let core = c.if-waits_for_log.store.1.1.0 in
    let log : AfterLog (waits_for_log made) mid.core core =
    elim c.if-waits_for_log.branch [
      | then-waits_for_log w ↦
          after_settling (waits_for_log made) mid.core core w.settle.new.store.core w.settle.result
          (sym w.if-waits_for_log.ensures) (search rules) w.settle.ensures.counts w.settle.ensures.numbers
          w.settle.ensures.out w.settle.ensures.fetches w.settle.ensures.settled w.settle.ensures.broken
      | else-waits_for_log w ↦
          after_none (waits_for_log made) mid.core core (sym w.if-waits_for_log.ensures) (search rules)
    ] in
    let r = round old mid made core c.args.worker.now.transaction c.args.worker.now.fetch c.lawful.ensures.well_formed
    c.requires.single_worker c.requires.under_way c.step-made.ensures.step
    c.step-made.ensures.stays log in
    let none : is_some c.read.result ≡ false = search rules in
    let same = none_made c.read.result _ _ none c.read.ensures.step in
    subst (λ (w : Worker). HasGoneOn (steps_left c.args.worker.now.state c.args.store.now.core) w.state core)
    (sym same.0)
    (ends_round old.worker.phase old made mid refl r.came (sym c.if-is_full.ensures)
    (λ reading. true≢false (sym (c.read.ensures.due.1 reading) ∙ none)) core log)

pub returns-then-is_full-clause-going : goal.returns-then-is_full-clause-going
returns-then-is_full-clause-going g c = λ o preserves calling.
    let device = g.D.CrashDisk.device in
    let was = c.args.store.now in
    let old = worker_and_core c.args.worker.now.state was.core in
    let mid = worker_and_core c.step-made.new.self.state c.step-made.new.core in
    let made = c.step-made.result in
    let disk = c.if-waits_for_log.store.1.0 in
    let core = c.if-waits_for_log.store.1.1.0 in
    let d = device was.disk in
    let log : AfterLog (waits_for_log made) mid.core core =
    elim c.if-waits_for_log.branch [
      | then-waits_for_log w ↦
          after_settling (waits_for_log made) mid.core core w.settle.new.store.core w.settle.result
          (sym w.if-waits_for_log.ensures) (search rules) w.settle.ensures.counts w.settle.ensures.numbers
          w.settle.ensures.out w.settle.ensures.fetches w.settle.ensures.settled w.settle.ensures.broken
      | else-waits_for_log w ↦
          after_none (waits_for_log made) mid.core core (sym w.if-waits_for_log.ensures) (search rules)
    ] in
    let model : g.D.CrashDisk.keeps_model disk = preserves in
    let waited : HasWaited (waits_for_log made) d mid.core (device disk) core =
    elim c.if-waits_for_log.branch [
      | then-waits_for_log w ↦
          let same_core : core ≡ w.settle.new.store.core = search rules in
          let same_disk : disk ≡ w.settle.new.store.disk = search rules in
          subst (λ x. HasWaited (waits_for_log made) d mid.core (device x) core) (sym same_disk)
          (subst (λ x. HasWaited (waits_for_log made) d mid.core (device w.settle.new.store.disk) x)
          (sym same_core)
          (has_settled (waits_for_log made) d (device w.settle.new.store.disk) mid.core w.settle.new.store.core
          (sym w.if-waits_for_log.ensures) w.settle.ensures.open
          (w.settle.ensures.preserves (subst (λ x. g.D.CrashDisk.keeps_model x) same_disk model))))
      | else-waits_for_log w ↦
          let same_core : core ≡ mid.core = search rules in
          let same_disk : disk ≡ was.disk = search rules in
          subst (λ x. HasWaited (waits_for_log made) d mid.core (device x) core) (sym same_disk)
          (subst (λ x. HasWaited (waits_for_log made) d mid.core d x) (sym same_core)
          (has_not_waited (waits_for_log made) d mid.core))
    ] in
    let opens = waited.opens in
    let boot_is : c.if-waits_for_log.store.1.1.1.0 ≡ was.boot =
    elim c.if-waits_for_log.branch [
      | then-waits_for_log w ↦ search rules
      | else-waits_for_log w ↦ search rules
    ] in
    let r = round old mid made core c.args.worker.now.transaction c.args.worker.now.fetch c.lawful.ensures.well_formed
    c.requires.single_worker c.requires.under_way c.step-made.ensures.step
    c.step-made.ensures.stays log in
    let fits = still_fits mid.worker mid.core core (c.step-made.ensures.fits c.requires.fits) opens.core.out log.blocks
    opens.core.inodes in
    let first = store_of d was.core was.boot in
    let stepped : HasStepped o (store_of d mid.core was.boot) mid.worker =
    c.a_step_preserves_a_call_going.ensures.goes o first old.worker mid made calling c.step-made.ensures.step
    c.step-made.ensures.home c.step-made.ensures.stays c.lawful-2.ensures.log c.lawful-2.ensures.well_formed
    (goes_once_reported c.step-made.new.self mid.core (c.step-made.ensures.fits c.requires.fits)) in
    let now = store_of (device disk) core was.boot in
    let settled : HasStepped o now mid.worker =
    c.a_settling_preserves_a_call_going.ensures o (store_of d mid.core was.boot) (device disk) core mid.worker
    (waits_for_log made)
    (c.a_step_preserves_a_call_going.ensures.served o first old.worker mid made calling
    c.step-made.ensures.step) stepped
    waited (goes_once_reported c.step-made.new.self core fits) in
    let planning = full_plans old.worker.phase old made mid refl r.came (sym c.if-is_full.ensures) in
    let state_is = c.begin_again.ensures.planning planning in
    let with = goes_once_reported c.begin_again.new.self core (c.begin_again.ensures.fits core fits) in
    subst (λ b. HasStepped o (store_of (device disk) core b) c.begin_again.new.self.state) (sym boot_is)
    (subst (λ (s : State). HasStepped o now s) (sym state_is)
    (again_goes o now mid.worker settled planning
    (subst (λ (s : State). GoesWith (reported s) core) state_is with)))

pub returns-then-is_some-clause-going : goal.returns-then-is_some-clause-going
returns-then-is_some-clause-going g c = λ o preserves calling.
    let device = g.D.CrashDisk.device in
    let was = c.args.store.now in
    let old = worker_and_core c.args.worker.now.state was.core in
    let mid = worker_and_core c.step-made.new.self.state c.step-made.new.core in
    let made = c.step-made.result in
    let disk = c.if-waits_for_log.store.1.0 in
    let core = c.if-waits_for_log.store.1.1.0 in
    let d = device was.disk in
    let log : AfterLog (waits_for_log made) mid.core core =
    elim c.if-waits_for_log.branch [
      | then-waits_for_log w ↦
          after_settling (waits_for_log made) mid.core core w.settle.new.store.core w.settle.result
          (sym w.if-waits_for_log.ensures) (search rules) w.settle.ensures.counts w.settle.ensures.numbers
          w.settle.ensures.out w.settle.ensures.fetches w.settle.ensures.settled w.settle.ensures.broken
      | else-waits_for_log w ↦
          after_none (waits_for_log made) mid.core core (sym w.if-waits_for_log.ensures) (search rules)
    ] in
    let model : g.D.CrashDisk.keeps_model disk = c.read.ensures.model preserves in
    let waited : HasWaited (waits_for_log made) d mid.core (device disk) core =
    elim c.if-waits_for_log.branch [
      | then-waits_for_log w ↦
          let same_core : core ≡ w.settle.new.store.core = search rules in
          let same_disk : disk ≡ w.settle.new.store.disk = search rules in
          subst (λ x. HasWaited (waits_for_log made) d mid.core (device x) core) (sym same_disk)
          (subst (λ x. HasWaited (waits_for_log made) d mid.core (device w.settle.new.store.disk) x)
          (sym same_core)
          (has_settled (waits_for_log made) d (device w.settle.new.store.disk) mid.core w.settle.new.store.core
          (sym w.if-waits_for_log.ensures) w.settle.ensures.open
          (w.settle.ensures.preserves (subst (λ x. g.D.CrashDisk.keeps_model x) same_disk model))))
      | else-waits_for_log w ↦
          let same_core : core ≡ mid.core = search rules in
          let same_disk : disk ≡ was.disk = search rules in
          subst (λ x. HasWaited (waits_for_log made) d mid.core (device x) core) (sym same_disk)
          (subst (λ x. HasWaited (waits_for_log made) d mid.core d x) (sym same_core)
          (has_not_waited (waits_for_log made) d mid.core))
    ] in
    let opens = waited.opens in
    let boot_is : c.if-waits_for_log.store.1.1.1.0 ≡ was.boot =
    elim c.if-waits_for_log.branch [
      | then-waits_for_log w ↦ search rules
      | else-waits_for_log w ↦ search rules
    ] in
    let r = round old mid made core c.args.worker.now.transaction c.args.worker.now.fetch c.lawful.ensures.well_formed
    c.requires.single_worker c.requires.under_way c.step-made.ensures.step
    c.step-made.ensures.stays log in
    let fits = still_fits mid.worker mid.core core (c.step-made.ensures.fits c.requires.fits) opens.core.out log.blocks
    opens.core.inodes in
    let first = store_of d was.core was.boot in
    let stepped : HasStepped o (store_of d mid.core was.boot) mid.worker =
    c.a_step_preserves_a_call_going.ensures.goes o first old.worker mid made calling c.step-made.ensures.step
    c.step-made.ensures.home c.step-made.ensures.stays c.lawful-2.ensures.log c.lawful-2.ensures.well_formed
    (goes_once_reported c.step-made.new.self mid.core (c.step-made.ensures.fits c.requires.fits)) in
    let now = store_of (device disk) core was.boot in
    let settled : HasStepped o now mid.worker =
    c.a_settling_preserves_a_call_going.ensures o (store_of d mid.core was.boot) (device disk) core mid.worker
    (waits_for_log made)
    (c.a_step_preserves_a_call_going.ensures.served o first old.worker mid made calling
    c.step-made.ensures.step) stepped
    waited (goes_once_reported c.step-made.new.self core fits) in
    let some : is_some c.read.result ≡ true = search rules in
    let (step, has) = was_made c.read.result _ _ some c.read.ensures.step in
    let reading = c.read.ensures.due.0 some in
    let nothing = nothing_new old.worker.phase old made mid refl r.came (sym c.if-is_full.ensures) reading in
    let nothing_to_report = none_to_tell mid.worker (nothing.0 ∙ calling.stands.entry)
    (nothing.1 ∙ calling.stands.answer) in
    let after = device c.read.new.disk in
    let was_read = c.a_read_preserves_a_call_going.ensures o now after mid.worker c.read.new.self.state step
    (subst (λ (s : State). IsCalling o now s) nothing_to_report settled.calling) reading
    (has_contents (device disk) (g.met.D.CrashDisk.whole disk (c.read.ensures.model preserves)))
    (with_model (g.D.CrashDisk.keeps_model c.read.new.disk) (device disk) after mid.worker
    c.read.new.self.state
    (Some step) preserves (reading, has)).1
    (goes_with c.read.new.self core (c.read.ensures.fits core fits)) in
    subst (λ b. HasStepped o (store_of after c.step.new.core b) c.step.new.self.state) (sym boot_is)
    (c.a_step_preserves_a_call_going.ensures.goes o (store_of after core was.boot) c.read.new.self.state
    (worker_and_core c.step.new.self.state c.step.new.core) c.step.result was_read c.step.ensures.step c.step.ensures.home
    c.step.ensures.stays c.lawful-then-is_some.ensures.log c.lawful-then-is_some.ensures.well_formed
    (goes_once_reported c.step.new.self c.step.new.core (c.step.ensures.fits (c.read.ensures.fits core fits))))

pub returns-clause-going : goal.returns-clause-going
returns-clause-going g c = λ o preserves calling.
    let device = g.D.CrashDisk.device in
    let was = c.args.store.now in
    let old = worker_and_core c.args.worker.now.state was.core in
    let mid = worker_and_core c.step-made.new.self.state c.step-made.new.core in
    let made = c.step-made.result in
    let disk = c.if-waits_for_log.store.1.0 in
    let core = c.if-waits_for_log.store.1.1.0 in
    let d = device was.disk in
    let log : AfterLog (waits_for_log made) mid.core core =
    elim c.if-waits_for_log.branch [
      | then-waits_for_log w ↦
          after_settling (waits_for_log made) mid.core core w.settle.new.store.core w.settle.result
          (sym w.if-waits_for_log.ensures) (search rules) w.settle.ensures.counts w.settle.ensures.numbers
          w.settle.ensures.out w.settle.ensures.fetches w.settle.ensures.settled w.settle.ensures.broken
      | else-waits_for_log w ↦
          after_none (waits_for_log made) mid.core core (sym w.if-waits_for_log.ensures) (search rules)
    ] in
    let model : g.D.CrashDisk.keeps_model disk = c.read.ensures.model preserves in
    let waited : HasWaited (waits_for_log made) d mid.core (device disk) core =
    elim c.if-waits_for_log.branch [
      | then-waits_for_log w ↦
          let same_core : core ≡ w.settle.new.store.core = search rules in
          let same_disk : disk ≡ w.settle.new.store.disk = search rules in
          subst (λ x. HasWaited (waits_for_log made) d mid.core (device x) core) (sym same_disk)
          (subst (λ x. HasWaited (waits_for_log made) d mid.core (device w.settle.new.store.disk) x)
          (sym same_core)
          (has_settled (waits_for_log made) d (device w.settle.new.store.disk) mid.core w.settle.new.store.core
          (sym w.if-waits_for_log.ensures) w.settle.ensures.open
          (w.settle.ensures.preserves (subst (λ x. g.D.CrashDisk.keeps_model x) same_disk model))))
      | else-waits_for_log w ↦
          let same_core : core ≡ mid.core = search rules in
          let same_disk : disk ≡ was.disk = search rules in
          subst (λ x. HasWaited (waits_for_log made) d mid.core (device x) core) (sym same_disk)
          (subst (λ x. HasWaited (waits_for_log made) d mid.core d x) (sym same_core)
          (has_not_waited (waits_for_log made) d mid.core))
    ] in
    let opens = waited.opens in
    let boot_is : c.if-waits_for_log.store.1.1.1.0 ≡ was.boot =
    elim c.if-waits_for_log.branch [
      | then-waits_for_log w ↦ search rules
      | else-waits_for_log w ↦ search rules
    ] in
    let r = round old mid made core c.args.worker.now.transaction c.args.worker.now.fetch c.lawful.ensures.well_formed
    c.requires.single_worker c.requires.under_way c.step-made.ensures.step
    c.step-made.ensures.stays log in
    let fits = still_fits mid.worker mid.core core (c.step-made.ensures.fits c.requires.fits) opens.core.out log.blocks
    opens.core.inodes in
    let first = store_of d was.core was.boot in
    let stepped : HasStepped o (store_of d mid.core was.boot) mid.worker =
    c.a_step_preserves_a_call_going.ensures.goes o first old.worker mid made calling c.step-made.ensures.step
    c.step-made.ensures.home c.step-made.ensures.stays c.lawful-2.ensures.log c.lawful-2.ensures.well_formed
    (goes_once_reported c.step-made.new.self mid.core (c.step-made.ensures.fits c.requires.fits)) in
    let now = store_of (device disk) core was.boot in
    let settled : HasStepped o now mid.worker =
    c.a_settling_preserves_a_call_going.ensures o (store_of d mid.core was.boot) (device disk) core mid.worker
    (waits_for_log made)
    (c.a_step_preserves_a_call_going.ensures.served o first old.worker mid made calling
    c.step-made.ensures.step) stepped
    waited (goes_once_reported c.step-made.new.self core fits) in
    let none : is_some c.read.result ≡ false = search rules in
    let same = none_made c.read.result _ _ none c.read.ensures.step in
    subst (λ b. HasStepped o (store_of (device c.read.new.disk) core b) c.read.new.self.state) (sym boot_is)
    (subst (λ x. HasStepped o (store_of x core was.boot) c.read.new.self.state) (sym same.1)
    (subst (λ (w : Worker). HasStepped o now w.state) (sym same.0) settled))

-- By the side: the logger's laws, or the installer's.
use Rattle.std.proofs.Common.{◌≡◌, ◌∙◌, ap, refl, subst, sym, Some}
use Rattle.disk.specs.declared.block.Side.TheVariants as sides
use Rattle.wal_calls.proofs.CallersLemmas.Made.{made_later}
use Rattle.store_promise.specs.OpenSince.{IsOpenSince}
use Rattle.store_promise.specs.Running.{side}
use Rattle.store_promise.specs.declared.events.Step.TheVariants as step
use Rattle.store_promise.proofs.Places.{places_home}
use Rattle.txn_law.specs.Core.{CoreState}
use Rattle.circ.specs.Log.Calls.{Pending, idle, out, was_made}
use Rattle.store_images.proofs.LogMoves.{answer_is, inst_back_is, inst_given, inst_made, inst_taken}
use Rattle.store_images.proofs.LogMoves.{log_given, log_made, log_taken}
use Rattle.store_images.proofs.LogSteps.{answered, failed_is, fewer, goes_on, same_core_places, same_transactions}
use Rattle.store_images.proofs.OneCall.{back_preserved, back_placed, out_preserved, out_placed}
use Rattle.store_images.specs.LogCallState.{MayInstIo, MayInstall, MayLog, MayLogIo, pending_of}
use Rattle.store_images.proofs.sides.the_calls_of_a_role_are_steps.Goals as goal

pub returns-clause-taken : goal.returns-clause-taken
returns-clause-taken c = elim [
  | sides.Log ↦ λ d old new io other lawful goes new_lawful well_formed.
      let is_preserved = out_preserved sides.Log old new io goes in
      goes_on MayLog (side d old idle other) (side d new (out io) other) (Some (step.LogNext io.call))
      (c.a_device_counts_the_calls_of_its_steps.ensures.none d (Some (step.LogNext io.call)) refl) is_preserved
      (log_taken d old.log other lawful io new.log goes.may (ap (λ (core : CoreState). core.log) goes.core) goes.law)
      (λ base boot first last entries since.
      c.the_logger_leaves_the_store_open.ensures.taken base d old new io other boot first last entries since
      goes.core goes.law
      (record { lawful = new_lawful; well_formed = well_formed; home = goes.home base since.over.files.home }))
      (λ base boot first last entries fetches since all.
      c.what_was_read_is_at_home.ensures.is_preserved base old new fetches (fewer old new is_preserved) all)
      (λ base boot first last entries since. out_placed sides.Log base old new io goes)
  | sides.Home ↦ λ d old new io other lawful goes new_lawful well_formed.
      let is_preserved = out_preserved sides.Home old new io goes in
      goes_on MayInstall (side d old other idle) (side d new other (out io)) (Some (step.InstNext io.call))
      (c.a_device_counts_the_calls_of_its_steps.ensures.none d (Some (step.InstNext io.call)) refl) is_preserved
      (inst_taken d old.log other lawful io new.log goes.may (ap (λ (core : CoreState). core.log) goes.core) goes.law)
      (λ base boot first last entries since.
      c.the_installer_leaves_the_store_open.ensures.taken base d old new io other boot first last entries since
      goes.may goes.core goes.law
      (record { lawful = new_lawful; well_formed = well_formed; home = goes.home base since.over.files.home }))
      (λ base boot first last entries fetches since all.
      c.what_was_read_is_at_home.ensures.is_preserved base old new fetches (fewer old new is_preserved) all)
      (λ base boot first last entries since. out_placed sides.Home base old new io goes)
]

pub returns-clause-made : goal.returns-clause-made
returns-clause-made c = elim [
  | sides.Log ↦ λ d later core io ok other lawful is.
      let same : pending_of (Some io) (Some ok) ≡ was_made io is.answer =
      ap (λ b. pending_of (Some io) (Some b)) is.ok_is ∙ answer_is io is.answer in
      goes_on MayLogIo (side d core (out io) other) (side later core (pending_of (Some io) (Some ok)) other)
      (Some (step.LogIo ok))
      (c.a_device_counts_the_calls_of_its_steps.ensures.call d later (Some (step.LogIo ok)) is.answer refl
      (failed_is is.answer ok is.ok_is) (made_later d io is.answer later is.call) is.failure)
      (same_transactions core) (log_made d later core.log other io is.answer ok lawful is.law is.ok_is)
      (λ base boot first last entries since.
      subst (λ (p : Pending). IsOpenSince base later core p other boot first entries last) (sym same)
      (c.the_logger_leaves_the_store_open.ensures.made base d later core io is.answer other boot first last
      entries since is.call))
      (λ base boot first last entries fetches since all. all)
      (λ base boot first last entries since. same_core_places base core)
  | sides.Home ↦ λ d later core io ok other lawful is.
      let same : pending_of (Some io) (Some ok) ≡ was_made io is.answer =
      ap (λ b. pending_of (Some io) (Some b)) is.ok_is ∙ answer_is io is.answer in
      goes_on MayInstIo (side d core other (out io)) (side later core other (pending_of (Some io) (Some ok)))
      (Some (step.InstIo ok))
      (c.a_device_counts_the_calls_of_its_steps.ensures.call d later (Some (step.InstIo ok)) is.answer refl
      (failed_is is.answer ok is.ok_is) (made_later d io is.answer later is.call) is.failure)
      (same_transactions core) (inst_made d later core.log other io is.answer ok lawful is.law is.ok_is)
      (λ base boot first last entries since.
      subst (λ (p : Pending). IsOpenSince base later core other p boot first entries last) (sym same)
      (c.the_installer_leaves_the_store_open.ensures.made base d later core io is.answer other boot first last
      entries since is.call))
      (λ base boot first last entries fetches since all. all)
      (λ base boot first last entries since. same_core_places base core)
]

pub returns-clause-given : goal.returns-clause-given
returns-clause-given c = elim [
  | sides.Log ↦ λ d old new io ok other lawful back new_lawful well_formed.
      let is_preserved = back_preserved sides.Log old new io ok back in
      let was = answered io ok in
      goes_on MayLog (side d old (pending_of (Some io) (Some ok)) other) (side d new idle other)
      (Some (step.LogDone ok))
      (c.a_device_counts_the_calls_of_its_steps.ensures.none d (Some (step.LogDone ok)) refl) is_preserved
      (log_given d old.log other lawful io new.log ok back.log back.law)
      (λ base boot first last entries since.
      c.the_logger_leaves_the_store_open.ensures.given_back base d old new io was.0 ok other boot first last entries
      (subst (λ (p : Pending). IsOpenSince base d old p other boot first entries last) was.1 since) was.2
      back.core back.log back.law
      (record { lawful = new_lawful; well_formed = well_formed; home = back.home base since.over.files.home }))
      (λ base boot first last entries fetches since all.
      c.what_was_read_is_at_home.ensures.is_preserved base old new fetches (fewer old new is_preserved) all)
      (λ base boot first last entries since. back_placed base old new io ok back)
  | sides.Home ↦ λ d old new io ok other lawful back new_lawful well_formed.
      let is_preserved = back_preserved sides.Home old new io ok back in
      let was = answered io ok in
      let made : Pending = pending_of (Some io) (Some ok) in
      goes_on MayInstall (side d old other made) (side d new other idle) (Some (step.InstDone ok))
      (c.a_device_counts_the_calls_of_its_steps.ensures.none d (Some (step.InstDone ok)) refl) is_preserved
      (inst_given d old.log other lawful io new.log ok back.log back.law)
      (λ base boot first last entries since.
      c.the_installer_leaves_the_store_open.ensures.given_back base d old new io was.0 ok other boot first last entries
      (subst (λ (p : Pending). IsOpenSince base d old other p boot first entries last) was.1 since) was.2
      back.core back.log back.law
      (record { lawful = new_lawful; well_formed = well_formed; home = back.home base since.over.files.home }))
      (λ base boot first last entries fetches since all.
      c.what_was_read_is_at_home.ensures.installed base d old new other made ok boot first last entries fetches since
      (fewer old new is_preserved) all)
      (λ base boot first last entries since.
      places_home base d old new other made ok boot first last entries since
      (inst_back_is d base old.log new.log other io ok since.over.agrees back.log)
      (ap (λ (core : CoreState). core.records) back.core))
]

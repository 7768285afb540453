use Rattle.std.proofs.Common.{sym}
use Rattle.disk.specs.declared.block.Side.TheVariants as sides
use Rattle.circ.specs.Log.Calls.{idle}
use Rattle.store_images.proofs.sides.a_call_of_a_role_leaves_the_store_open.Goals as goal

pub returns : goal.returns
returns c = elim [
  | sides.Log ↦ λ base d later old mid new io ok boot first last entries since goes out_lawful out_well_formed is back
      lawful well_formed.
      let laws = c.the_logger_leaves_the_store_open.ensures in
      let taken = laws.taken base d old mid io idle boot first last entries since goes.core goes.law
      (record { lawful = out_lawful; well_formed = out_well_formed; home = goes.home base since.over.files.home }) in
      let made = laws.made base d later mid io is.answer idle boot first last entries taken is.call in
      laws.given_back base later mid new io is.answer ok idle boot first last entries made (sym is.ok_is)
      back.core back.log back.law
      (record { lawful = lawful; well_formed = well_formed; home = back.home base made.over.files.home })
  | sides.Home ↦ λ base d later old mid new io ok boot first last entries since goes out_lawful out_well_formed is back
      lawful well_formed.
      let laws = c.the_installer_leaves_the_store_open.ensures in
      let taken = laws.taken base d old mid io idle boot first last entries since goes.may goes.core goes.law
      (record { lawful = out_lawful; well_formed = out_well_formed; home = goes.home base since.over.files.home }) in
      let made = laws.made base d later mid io is.answer idle boot first last entries taken is.call in
      laws.given_back base later mid new io is.answer ok idle boot first last entries made (sym is.ok_is)
      back.core back.log back.law
      (record { lawful = lawful; well_formed = well_formed; home = back.home base made.over.files.home })
]

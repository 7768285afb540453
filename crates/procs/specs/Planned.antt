-- What a plan says.
use Rattle.std.specs.Prelude.{◌≡◌, false}
use Rattle.nfs_types.specs.declared.call.Call.{Call}
use Rattle.nfs_types.specs.declared.ctx.Ctx.{Ctx}
use Rattle.base.specs.declared.TheConstants.{CHANGED_BLOCKS}
use Rattle.layout.specs.declared.geometry.Geometry.{Geometry}
use Rattle.procs.specs.declared.next.Plan.{Plan}
use Rattle.procs.specs.declared.next.Plan.TheVariants as plan
use Rattle.inode.specs.declared.snap.Snap.{Snap}
use Rattle.procs.specs.Asks.{Asks, Claims}
use Rattle.procs.specs.Finished.{ChangesFew, EndsFrom}
use Rattle.inode.specs.Snap.{is_claimed, is_had}
use Rattle.procs.specs.Outcome.{IsMadeFor}
use Rattle.procs.specs.Steps.{IsStepOf}

-- A plan asks for something new that plans may ask for, or is done with what was read, and changes no more blocks than a
-- transaction may.
abbrev pub IsPlanFor : Snap → Plan → Type 0
IsPlanFor snap (plan.Need addr mode) = (is_had addr mode snap.objects.items snap.exclusives.items ≡ false)
    × Asks snap.geometry addr
IsPlanFor snap (plan.Claim block) = (is_claimed block snap.claims.items ≡ false) × Claims snap.geometry block
IsPlanFor snap (plan.Done done) = EndsFrom snap done × ChangesFew CHANGED_BLOCKS done
IsPlanFor snap (plan.NoMemory error) = Unit {0}

-- a plan is done only with what was worked out for this call
abbrev pub IsPlanOf : Ctx → Call → Plan → Type 0
IsPlanOf ctx call (plan.Done done) = IsMadeFor ctx call done
IsPlanOf ctx call (plan.Need addr mode) = Unit {0}
IsPlanOf ctx call (plan.Claim block) = Unit {0}
IsPlanOf ctx call (plan.NoMemory error) = Unit {0}

-- a plan is done only with what is a step
abbrev pub IsStepPlan : Geometry → Ctx → Call → Plan → Type 0
IsStepPlan g ctx call (plan.Done done) = IsStepOf g ctx call done
IsStepPlan g ctx call (plan.Need addr mode) = Unit {0}
IsStepPlan g ctx call (plan.Claim block) = Unit {0}
IsStepPlan g ctx call (plan.NoMemory error) = Unit {0}

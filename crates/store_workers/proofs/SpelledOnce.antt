-- That the call of a worker can be spelled is told in one way alone.
use Rattle.std.proofs.Common.{◌≡◌, Option, Some, None, IfSome, subst}
use Rattle.std.proofs.Math.Logic.{∥∥₁_elim}
use Rattle.std.proofs.Props.{props}
use Rattle.nfs_types.specs.Fits.{CallFits, CreateHowFits, NewAttributesFit, SetTimeFits, SpecialFileFits}
use Rattle.nfs_types.specs.declared.attributes.NewAttributes.{NewAttributes}
use Rattle.nfs_types.specs.declared.attributes.SetTime.{SetTime}
use Rattle.nfs_types.specs.declared.attributes.SetTime.TheVariants as times
use Rattle.nfs_types.specs.declared.call.Call.{Call}
use Rattle.nfs_types.specs.declared.call.Call.TheVariants as call
use Rattle.nfs_types.specs.declared.call.CreateHow.{CreateHow}
use Rattle.nfs_types.specs.declared.call.CreateHow.TheVariants as hows
use Rattle.nfs_types.specs.declared.call.SpecialFile.{SpecialFile}
use Rattle.nfs_types.specs.declared.call.SpecialFile.TheVariants as specials
use Rattle.store_workers.specs.Stages.{IsJobOf}
use Rattle.store_workers.specs.declared.workers.parts.Job.{Job}

time_fits : (time : SetTime) → IsProp (SetTimeFits time)
time_fits times.Unchanged = hlevel props
time_fits times.Server = hlevel props
time_fits (times.Client time) = hlevel props

attributes_fit : (wanted : NewAttributes) → IsProp (NewAttributesFit wanted)
attributes_fit wanted = hlevel (props, time_fits)

how_fits : (how : CreateHow) → IsProp (CreateHowFits how)
how_fits (hows.Unchecked wanted) = attributes_fit wanted
how_fits (hows.Guarded wanted) = attributes_fit wanted
how_fits (hows.Exclusive verifier) = hlevel props

special_fits : (special : SpecialFile) → IsProp (SpecialFileFits special)
special_fits (specials.CharacterDevice wanted device) = hlevel (props, attributes_fit)
special_fits (specials.BlockDevice wanted device) = hlevel (props, attributes_fit)
special_fits (specials.Socket wanted) = attributes_fit wanted
special_fits (specials.Fifo wanted) = attributes_fit wanted
special_fits specials.Regular = hlevel props
special_fits specials.Directory = hlevel props
special_fits specials.Link = hlevel props

call_fits : (asked : Call) → IsProp (CallFits asked)
call_fits call.Null = hlevel props
call_fits (call.GetAttr object) = hlevel props
call_fits (call.SetAttr object wanted guard) = hlevel (props, attributes_fit)
call_fits (call.Lookup name) = hlevel props
call_fits (call.Access object bits) = hlevel props
call_fits (call.ReadLink link) = hlevel props
call_fits (call.Read file offset count) = hlevel props
call_fits (call.Write file offset count stability bytes) = hlevel props
call_fits (call.Create name how) = hlevel (props, how_fits)
call_fits (call.MkDir name wanted) = hlevel (props, attributes_fit)
call_fits (call.SymLink name wanted target) = hlevel (props, attributes_fit)
call_fits (call.MkNod name special) = hlevel (props, special_fits)
call_fits (call.Remove name) = hlevel props
call_fits (call.RmDir name) = hlevel props
call_fits (call.Rename source target) = hlevel props
call_fits (call.Link file name) = hlevel props
call_fits (call.ReadDir directory cookie verifier count) = hlevel props
call_fits (call.ReadDirPlus directory cookie verifier directory_count greatest_count) = hlevel props
call_fits (call.FsStat object) = hlevel props
call_fits (call.FsInfo object) = hlevel props
call_fits (call.PathConf object) = hlevel props
call_fits (call.Commit file offset count) = hlevel props

pub job_once : (job : Option Job) → IsProp (IfSome job IsJobOf)
job_once None = hlevel props
job_once (Some job) = hlevel (props, call_fits)

-- a call that is there can be spelled
pub job_sound : (found : Option Job) (job : Job) → found ≡ Some job → ∥ IfSome found IsJobOf ∥₁ → IsJobOf job
job_sound found job is asked = ∥∥₁_elim asked (job_once (Some job))
    (λ sound. subst (λ (j : Option Job). IfSome j IsJobOf) is sound)

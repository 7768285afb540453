-- A job, and when it was taken up.
use Rattle.std.specs.Prelude.{◌≡◌, ℕ}
use Rattle.nfs_types.specs.declared.ctx.Moment.{Moment}
use Rattle.pool_requests.specs.declared.jobs.job.Job.{Job}

pub record Sent : Type 0 where
  pub job : Job
  pub moment : Moment

-- these are the key and the number of the job's connection, and the number of its call
pub record IsAddressed (job : Job) (key number xid : ℕ) : Type 0 where
  pub key_is : key ≡ job.key
  pub number_is : number ≡ job.number
  pub xid_is : xid ≡ job.xid

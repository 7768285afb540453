-- Which calls can be spelled.
use Rattle.std.specs.Prelude.{◌^◌, ◌<◌}
use Rattle.nfs_types.specs.Fits.{CallFits}
use Rattle.nfs_types.specs.declared.call.Call.{Call}
use Rattle.nfs_types.specs.declared.ctx.Credential.{Credential}
use Rattle.nfs_types.specs.declared.ctx.Moment.{Moment}
use Rattle.nfs_spec.specs.Model.Sound.{SoundTime}

-- a call that can be spelled (RFC 1813, RFC 5531): of whom, when, at less than a second of nanoseconds, and which
pub record SoundCall (credential : Credential) (moment : Moment) (call : Call) : Type 0 where
  pub uid : credential.uid < 2 ^ 32
  pub gid : credential.gid < 2 ^ 32
  pub timely : SoundTime moment
  pub fits : CallFits call

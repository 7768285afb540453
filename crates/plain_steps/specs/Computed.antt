-- The call without an answer.
use Rattle.std.specs.Prelude.{Bool, true, false}
use Rattle.nfs_types.specs.declared.call.Call.{Call}
use Rattle.nfs_types.specs.declared.call.Call.TheVariants as call

-- the call that does nothing and has no step
abbrev pub is_null : Call → Bool
is_null call.Null = true
is_null _ = false

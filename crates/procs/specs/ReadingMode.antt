-- In which mode the plans of a call ask for what they read.
use Rattle.std.specs.Prelude.{if◌then◌else◌}
use Rattle.nfs_types.specs.CallFacts.{facts}
use Rattle.nfs_types.specs.declared.call.Call.{Call}
use Rattle.objects.specs.declared.mode.Mode.{Mode}
use Rattle.objects.specs.declared.mode.Mode.TheVariants as modes

-- alone where the call changes files, and else beside others
abbrev pub reading_mode : Call → Mode
reading_mode call = if (facts call).changes then modes.Exclusive else modes.Shared

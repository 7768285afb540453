-- what the objects so far made, and the rest, make the content of all
use Rattle.std.proofs.Common.{◌≡◌, drop}
use Rattle.std.specs.Option.{unwrap_or}
use Rattle.objects.specs.Present.{present_of, content_in}
use Rattle.txn_law.specs.Group.{base_in, overlaid_content}
use Rattle.circ.specs.Log.Log.{newest}
use Rattle.txn_groups.proofs.group.content_with.Given as goal

abbrev pub invariant-loop-object : goal.invariant-loop-object
invariant-loop-object l =
    overlaid_content (unwrap_or l.made (base_in (content_in (present_of l.present.blocks l.block)) (newest l.wal l.block.0)))
    (drop l.object-index l.objects) l.block
    ≡ overlaid_content (base_in (content_in (present_of l.present.blocks l.block)) (newest l.wal l.block.0)) l.objects l.block

use Rattle.std.proofs.Common.{◌≡◌, ℕ, ◌<◌, get_or, None, true}
use Rattle.base.specs.declared.TheConstants.{ROOT}
use Rattle.image_read.specs.ImageCounts.Iterated.{in_list}
use Rattle.image_read.specs.Counts.Linked.{is_directory_in}
use Rattle.image_read.proofs.counts.reached.all_lead_to_root.Given as goal

abbrev pub invariant-numbers : goal.invariant-numbers
invariant-numbers l = (number : ℕ) → number < l.number → is_directory_in (get_or l.table number None) ≡ true
    → in_list l.furthest number ≡ ROOT

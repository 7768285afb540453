use Rattle.std.proofs.Common.{ℕ, ◌<◌, ◌≤◌, get_or, IfSome, None}
use Rattle.image_check.proofs.judgement.are_made_by.Given as goal

abbrev pub invariant-numbers : goal.invariant-numbers
invariant-numbers l = (number : ℕ) → number < l.number
    → IfSome (get_or l.table number None) (λ inode. inode.stamp.boot ≤ l.boot)

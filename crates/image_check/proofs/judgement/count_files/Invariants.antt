use Rattle.std.proofs.Common.{◌≡◌, ◌≤◌, count_by, is_some, take, Option}
use Rattle.layout.specs.declared.inode.Inode.{Inode}
use Rattle.image_check.proofs.judgement.count_files.Given as goal

abbrev pub invariant-numbers : goal.invariant-numbers
invariant-numbers l = record {
  counted : l.count ≡ count_by (λ (inode : Option Inode). is_some inode) (take l.number l.table);
  few : l.count ≤ l.number;
}

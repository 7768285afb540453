use Rattle.std.proofs.Common.{◌≡◌, vec_len}
use Rattle.inode.proofs.index.AddressIndex.new.Given as goal

abbrev pub invariant-loop : goal.invariant-loop
invariant-loop l = vec_len l.buckets ≡ l.counter

use Rattle.std.proofs.Common.{length, append_assoc, arith, ◌∙◌}
use Rattle.std.proofs.lemmas.Bool.{le-ltb}
use Rattle.xdr.specs.Codes.{word, items_bytes}
use Rattle.xdr.specs.Items as items
use Rattle.nfs_results.specs.Results.{flavors}
use Rattle.nfs_results.proofs.Numbers.{short}
use Rattle.nfs_results.proofs.outcomes.put_flavors.Goals as goal

pub returns : goal.returns
unfolding flavors
returns c = (
  rw (c.in_ok-put_numbers.ensures.0, c.in_ok-unsigned.ensures.written.0)
      (append_assoc c.args.out.now.bytes (items.word (length c.args.flavors.now))
      (items_bytes word c.args.flavors.now)),
  rw (le-ltb 4294967295 (length c.args.flavors.now) c.if-flavors.false) (short c.args.flavors.now),
  omega (arith, c.in_ok-unsigned.ensures.written.2, c.in_ok-put_numbers.ensures.2),
  c.in_ok-put_numbers.ensures.3 ∙ c.in_ok-unsigned.ensures.written.3,
)

use Rattle.std.proofs.Common.{◌≡◌, ◌-◌}
use Rattle.xdr.specs.Codes.{word, items_at}
use Rattle.xdr.proofs.Links.{behind}
use Rattle.nfs_client_codec.proofs.outcomes.read_numbers.Given as goal

abbrev pub invariant-loop : goal.invariant-loop
invariant-loop l = behind l.numbers.items (items_at word (l.count - l.counter) l.reader)
    ≡ items_at word l.fn.count l.fn.reader

use Rattle.std.proofs.Common.{length}
use Rattle.xdr.specs.Codes.{chain}
use Rattle.xdr.proofs.Links.{Links}
use Rattle.nfs_client_codec.proofs.entries.decode_chain.Given as goal

abbrev pub invariant-loop-items : goal.invariant-loop-items
invariant-loop-items g l = Links g.T.Decode.code l.items.items l.reader ((chain g.T.Decode.code).read l.fn.reader)

abbrev pub decreases-loop-items : goal.decreases-loop-items
decreases-loop-items g l = length l.reader

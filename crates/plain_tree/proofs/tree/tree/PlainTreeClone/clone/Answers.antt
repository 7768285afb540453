use Rattle.std.proofs.Common.{ap}
use Rattle.std.specs.FinMap.{from_entries}
use Rattle.plain_tree.proofs.TreeLemmas.Found.{same_files}
use Rattle.plain_tree.proofs.tree.tree.PlainTreeClone.clone.Goals as goal

pub returns : goal.returns
returns c =
    let tree = c.args.self.now in
    let files = ap from_entries (same_files tree.nodes.items c.in_ok-clone.field-0.items
    c.in_ok-clone.ensures.cases.0) in
    record {
      cases = λ i. record {
        geometry = record { data_blocks = tree.data_blocks; inodes = tree.inodes };
        nodes = files i;
      };
    }

use Rattle.std.proofs.Common.{refl, sym, ap, ◌∙◌, arith}
use Rattle.nfs_types.specs.Handle.{handle_bytes}
use Rattle.nfs_types.specs.declared.handle.Stamp.{Stamp}
use Rattle.nfs_spec.specs.Model.Find.{stamped}
use Rattle.plain_tree.specs.Tree.Plain.{node_of, tree_of}
use Rattle.plain_tree.proofs.TreeLemmas.Found.{absent, first_of}
use Rattle.nfs_spec.proofs.ModelLemmas.Handled.{handled, stamped_ok, stale_boot, stale_transaction}
use Rattle.plain_tree.proofs.tree.tree.PlainTree.find_numbered.Goals as goal
use Rattle.plain_tree.proofs.tree.tree.PlainTree.find_numbered.Goals.{else-boot-file-via-then-boot-file+else-transaction-file}
use Rattle.plain_tree.proofs.tree.tree.PlainTree.find_numbered.Goals.{else-boot-file-via-else-boot-file}

pub returns-in_default : goal.returns-in_default
returns-in_default c =
    let stamp : Stamp = record { boot = c.args.boot; transaction = c.args.transaction } in
    handled (tree_of c.args.self.now) (handle_bytes c.args.number stamp) c.args.number stamp refl
    (omega arith) (omega arith) (omega arith) c.requires.least c.requires.most
    ∙ ap (stamped c.args.number stamp) (absent c.args.self.now c.args.number (sym c.position_of.ensures
    ∙ c.in_default.is))

pub returns-then-transaction-file : goal.returns-then-transaction-file
returns-then-transaction-file c =
    let file = c.index-file.result.now in
    let stamp : Stamp = record { boot = c.args.boot; transaction = c.args.transaction } in
    let at = first_of c.args.self.now c.args.number c.in-Some.index file (sym c.position_of.ensures
    ∙ c.in-Some.is) c.index-file.ensures in
    record {
      file = file;
      inside = at.inside;
      here = at.here;
      first = at.first;
      is = handled (tree_of c.args.self.now) (handle_bytes c.args.number stamp) c.args.number stamp refl
          (omega arith) (omega arith) (omega arith) c.requires.least c.requires.most
          ∙ (λ i. stamped (at.number_is i) stamp (at.got i))
          ∙ stamped_ok file.number stamp (node_of file.node) c.if-boot-file.true c.if-transaction-file.true;
    }

pub returns-else-boot-file : goal.returns-else-boot-file
returns-else-boot-file c =
    let file = c.index-file.result.now in
    let stamp : Stamp = record { boot = c.args.boot; transaction = c.args.transaction } in
    let at = first_of c.args.self.now c.args.number c.in-Some.index file (sym c.position_of.ensures
    ∙ c.in-Some.is) c.index-file.ensures in
    handled (tree_of c.args.self.now) (handle_bytes c.args.number stamp) c.args.number stamp refl
    (omega arith) (omega arith) (omega arith) c.requires.least c.requires.most
    ∙ ap (stamped c.args.number stamp) at.got
    ∙ elim c.else-boot-file.branch [
      | else-boot-file-via-then-boot-file+else-transaction-file w ↦ stale_transaction c.args.number stamp
          (node_of file.node) w.if-transaction-file.false
      | else-boot-file-via-else-boot-file w ↦ stale_boot c.args.number stamp (node_of file.node)
          w.if-boot-file.false
    ]

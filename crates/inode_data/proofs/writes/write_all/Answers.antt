use Rattle.std.proofs.Common.{◌-◌, ◌≤◌, ◌+◌, sym, ◌∙◌, subst, take, drop, arith}
use Rattle.nfs_spec.specs.Model.Cost.{cost}
use Rattle.nfs_spec.specs.Model.Node.{Node}
use Rattle.nfs_spec.specs.Model.Tree.{free, with_node}
use Rattle.nfs_spec.specs.Procedures.Write.{with_text}
use Rattle.inode.proofs.WriteSetsLemmas.OneFile.{here_next}
use Rattle.inode_data.specs.Written.{WritesText, rewritten}
use Rattle.inode_data.proofs.Once.{unspent_few}
use Rattle.inode_data.proofs.Steps.{middle, one_more, part_len, space_first, space_left, same_nodes}
use Rattle.inode_data.proofs.writes.write_all.Goals as goal

pub returns-in-Ok-false-clause-has_space : goal.returns-in-Ok-false-clause-has_space
returns-in-Ok-false-clause-has_space c = λ blocks tree node write_set names was has_space.
    sym c.in-Ok-false.field-0-test ∙ c.in-Ok-false.ensures.has_space blocks tree node write_set names was
    (space_first tree node c.args.offset c.piece_len-first.result c.args.text.now c.piece_len-first.ensures.some
    c.piece_len-first.ensures.most has_space)

pub returns-in-Ok-false-write_piece-clause-has_space : goal.returns-in-Ok-false-write_piece-clause-has_space
returns-in-Ok-false-write_piece-clause-has_space c = λ blocks tree node write_set names was has_space.
    let done = c.pieces.done in
    let len = c.piece_len-len.result in
    let text = c.args.text.now in
    let n = c.args.number in
    let both = c.pieces.invariant.3 blocks tree write_set names in
    let had = both.0 in
    let border = c.pieces.invariant.2 c.pieces-test.true in
    let most = c.piece_len-len.ensures.most in
    let same = same_nodes tree n had.node node had.was was in
    let small = subst (λ (one : Node). cost (with_text c.args.offset text one.body) - cost one.body ≤ free tree)
    (sym same) has_space in
    sym c.in-Ok-false-write_piece.field-0-test
    ∙ c.in-Ok-false-write_piece.ensures.has_space blocks
    (middle c.args.offset done len text c.pieces.invariant.0 c.piece_len-len.ensures.some
    (omega (arith, most, c.pieces-test.true)) border tree n had.node)
    (rewritten c.args.offset _ had.node) had.is both.1 (here_next tree n _)
    (subst (λ k. cost (with_text (c.args.offset + done) (take k (drop done text))
    (with_text c.args.offset (take done text) had.node.body))
    - cost (with_text c.args.offset (take done text) had.node.body)
    ≤ free (with_node tree n (rewritten c.args.offset (take done text) had.node))) (sym (part_len done len))
    (space_left c.args.offset done len text c.pieces.invariant.0 c.piece_len-len.ensures.some
    (omega (arith, most, c.pieces-test.true)) border tree n had.node had.was small))

pub pieces-preserved : goal.pieces-preserved
pieces-preserved c =
    let offset = c.args.offset in
    let done = c.pieces.done in
    let len = c.piece_len-len.result in
    let text = c.args.text.now in
    let n = c.args.number in
    let some = c.pieces.invariant.0 in
    let more = c.piece_len-len.ensures.some in
    let most = c.piece_len-len.ensures.most in
    let low = c.pieces-test.true in
    let border = c.pieces.invariant.2 low in
    let within = c.piece_len-len.ensures.within in
    let whole = c.piece_len-len.ensures.whole in
    let spends = c.in-Ok-true-write_piece.ensures.twice in
    let dirty_count = c.pieces.invariant.5 in (
      omega (arith, some),
      omega (arith, most, low),
      λ less. omega (arith, whole (omega (arith, less, low))),
      λ blocks tree write_set names.
          let both = c.pieces.invariant.3 blocks tree write_set names in
          let had = both.0 in
          let has = c.in-Ok-true-write_piece.ensures.ok c.in-Ok-true-write_piece.field-0-test blocks
          (middle offset done len text some more (omega (arith, most, low)) border tree n had.node) had.is both.1 in (
            one_more offset done len text some more (omega (arith, most, low)) border tree n c.pieces.write_set
                c.write_piece-in-pieces.new.write_set blocks had
                (subst (λ k. WritesText c.write_piece-in-pieces.new.write_set blocks
                (with_node tree n (rewritten offset (take done text) had.node)) n (offset + done) (take k (drop done
                text)))
                (part_len done len) has.0),
            has.1,
          ),
      c.in-Ok-true-write_piece.ensures.seen ∙ c.pieces.invariant.4,
      omega (arith, spends, dirty_count, border, within, some, more),
    )

pub returns-in-Ok-false-clause-dirty_count : goal.returns-in-Ok-false-clause-dirty_count
returns-in-Ok-false-clause-dirty_count c = λ few.
    let most = unspent_few c.args.write_set.now c.args.number c.args.inode.now.indirect
    c.args.inode.now.double in
    let once = c.write_piece.ensures.twice in omega (arith, most, once)

pub returns-in-Err-clause-dirty_count : goal.returns-in-Err-clause-dirty_count
returns-in-Err-clause-dirty_count c = λ few.
    let most = unspent_few c.args.write_set.now c.args.number c.args.inode.now.indirect
    c.args.inode.now.double in
    let once = c.write_piece.ensures.twice in omega (arith, most, once)

pub returns-in-Ok-false-write_piece-clause-dirty_count : goal.returns-in-Ok-false-write_piece-clause-dirty_count
returns-in-Ok-false-write_piece-clause-dirty_count c = λ few.
    let most = unspent_few c.args.write_set.now c.args.number c.args.inode.now.indirect
    c.args.inode.now.double in
    let once = c.write_piece-in-pieces.ensures.twice in
    let dirty_count = c.pieces.invariant.5 in
    let some = c.pieces.invariant.0 in
    let low = c.pieces-test.true in
    let border = c.pieces.invariant.2 low in omega (arith, most, once, dirty_count, some, low, border, few)

pub returns-in-Err-write_piece-clause-dirty_count : goal.returns-in-Err-write_piece-clause-dirty_count
returns-in-Err-write_piece-clause-dirty_count c = λ few.
    let most = unspent_few c.args.write_set.now c.args.number c.args.inode.now.indirect
    c.args.inode.now.double in
    let once = c.write_piece-in-pieces.ensures.twice in
    let dirty_count = c.pieces.invariant.5 in
    let some = c.pieces.invariant.0 in
    let low = c.pieces-test.true in
    let border = c.pieces.invariant.2 low in omega (arith, most, once, dirty_count, some, low, border, few)

pub returns-clause-dirty_count : goal.returns-clause-dirty_count
returns-clause-dirty_count c = λ few.
    let most = unspent_few c.args.write_set.now c.args.number c.args.inode.now.indirect
    c.args.inode.now.double in
    let dirty_count = c.pieces.invariant.5 in
    let some = c.pieces.invariant.0 in
    let within = c.pieces.invariant.1 in omega (arith, most, dirty_count, some, within, few)

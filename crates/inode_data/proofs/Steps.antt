-- One piece more of a text that is written.
use Rattle.std.proofs.Common.{◌≡◌, ℕ, ◌+◌, ◌-◌, ◌%◌, ◌<◌, ◌≤◌, sym, ap, ◌∙◌, subst, List, length, take, drop}
use Rattle.std.proofs.Common.{length-take-le, length-drop, Option, Some, arith}
use Rattle.std.specs.Option.{unwrap_or}
use Rattle.std.proofs.Math.Seq.{take-add}
use Rattle.base.specs.declared.TheConstants.{BLOCK_BYTES}
use Rattle.disk.specs.Crash.{Image}
use Rattle.nfs_spec.specs.Model.Cost.{cost}
use Rattle.nfs_spec.specs.Model.Node.{Body, Node}
use Rattle.nfs_spec.specs.Model.Tree.{Tree, free, node_at, with_node}
use Rattle.nfs_spec.specs.Procedures.Write.{with_text}
use Rattle.inode.specs.WriteSets.WriteSetContents.{WriteSetContents, IsWriteSet}
use Rattle.inode.proofs.WriteSetsLemmas.OneFile.{here_next}
use Rattle.inode_data.specs.Written.{WritesText, rewritten}
use Rattle.inode_data.proofs.Adjoining.{costs_more, costs_within, next_space, put_twice, text_both}

same_node : (a b : Node) (o : Option Node) → o ≡ Some a → o ≡ Some b → a ≡ b
same_node a b o one two = ap (λ (o : Option Node). unwrap_or o a) (sym one ∙ two)

module _ (offset done len : ℕ) (text : List ℕ) (some : 0 < done) (more : 0 < len)
    (within : done + len ≤ length text) (border : (offset + done) % BLOCK_BYTES ≡ 0) where
  abbrev before : List ℕ
  before = take done text

  abbrev piece : List ℕ
  piece = take len (drop done text)

  abbrev after : List ℕ
  after = take (done + len) text

  count : length before ≡ done
  count = length-take-le done text (omega (arith, within))

  piece_count : length piece ≡ len
  piece_count = let left = length-drop done text in
      length-take-le len (drop done text) (omega (arith, left, within))

  text_after : (body : Body) → with_text (offset + done) piece (with_text offset before body)
      ≡ with_text offset after body
  text_after body =
      let long = count in
      let short = piece_count in
      ap (λ k. with_text (offset + k) piece (with_text offset before body)) (sym long)
      ∙ text_both offset before piece body (omega (arith, long, some)) (omega (arith, short, more))
      (ap (λ k. (offset + k) % BLOCK_BYTES) long ∙ border)
      ∙ ap (λ l. with_text offset l body) (sym (take-add done len text))

  module _ (tree : Tree) (n : ℕ) where
    abbrev pub middle : Node → Tree
    middle node = with_node tree n (rewritten offset before node)

    pub one_more : (write_set new : WriteSetContents) (blocks : Image) (had : WritesText write_set blocks tree n offset before)
        → WritesText new blocks (middle had.node) n (offset + done) piece → WritesText new blocks tree n offset after
    one_more write_set new blocks had has = record {
      node = had.node;
      was = had.was;
      is = subst (IsWriteSet new blocks)
          (put_twice tree n (rewritten offset before had.node) (rewritten (offset + done) piece has.node)
          ∙ ap (λ (one : Node). with_node tree n (rewritten (offset + done) piece one))
          (same_node has.node (rewritten offset before had.node) (node_at (middle had.node) n) has.was
          (here_next tree n (rewritten offset before had.node)))
          ∙ ap (λ (body : Body). with_node tree n (record had.node { body = body })) (text_after had.node.body))
          has.is;
    }

    pub space_left : (node : Node) → node_at tree n ≡ Some node
        → cost (with_text offset text node.body) - cost node.body ≤ free tree
        → cost (with_text (offset + done) piece (with_text offset before node.body))
        - cost (with_text offset before node.body) ≤ free (middle node)
    space_left node was has_space =
        let long = count in
        let all : length after ≡ done + len = length-take-le (done + len) text within in
        subst (λ (body : Body). cost body - cost (with_text offset before node.body) ≤ free (middle node))
        (sym (text_after node.body))
        (next_space tree n node (with_text offset before node.body) (with_text offset after node.body)
        (with_text offset text node.body) was (costs_more offset before node.body)
        (costs_within offset before after node.body (omega (arith, long, some)) (omega (arith, long, all)))
        (costs_within offset after text node.body (omega (arith, all, some)) (omega (arith, all, within))) has_space)

-- a piece of a slice
pub part_len : (done len : ℕ) → done + len - done ≡ len
part_len done len = omega arith

-- the first piece takes no more than all
pub space_first : (tree : Tree) (node : Node) (offset len : ℕ) (text : List ℕ) → 0 < len → len ≤ length text
    → cost (with_text offset text node.body) - cost node.body ≤ free tree
    → cost (with_text offset (take len text) node.body) - cost node.body ≤ free tree
space_first tree node offset len text some short has_space =
    let long = length-take-le len text short in
    let less = costs_within offset (take len text) text node.body (omega (arith, long, some)) (omega (
      arith,
      long,
      short,
    )) in
    omega (arith, less, has_space)

pub same_nodes : (tree : Tree) (n : ℕ) (a b : Node) → node_at tree n ≡ Some a → node_at tree n ≡ Some b → a ≡ b
same_nodes tree n a b one two = same_node a b (node_at tree n) one two

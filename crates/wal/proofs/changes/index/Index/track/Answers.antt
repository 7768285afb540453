use Rattle.std.proofs.Common.{◌≡◌, List, length, arith, slice_index}
use Rattle.std.proofs.lemmas.List.{length-map, get_or_read}
use Rattle.circ.specs.declared.log.change.LogChange.{LogChange}
use Rattle.wal.specs.Changes.Index.{numbers}
use Rattle.wal.proofs.ChangesLemmas.IndexLemmas.{pushed}
use Rattle.wal.proofs.changes.index.Index.track.Goals as goal

pub returns-clause-index : goal.returns-clause-index
returns-clause-index c =
    let list : List LogChange = c.args.list.now.items in
    let size : length (numbers list) ≡ length list = length-map list (λ (change : LogChange). change.block.0) in
    let count : c.len.result ≡ length (numbers list) = omega (arith, size) in
    let before : c.index-before.result.now ≡ slice_index c.args.self.now.newest.items c.args.block.0 =
    get_or_read c.args.self.now.newest.items c.args.block.0 c.index-before.result.now c.requires.home
    c.index-before.ensures 0 in
    rw (c.push_back_reserved.ensures.items, c.follow.ensures.names, before, count)
    (pushed c.args.self.now.start (numbers list) c.args.self.now.newest.items c.args.self.now.behind.items
    c.args.block.0 c.requires.index c.requires.home)

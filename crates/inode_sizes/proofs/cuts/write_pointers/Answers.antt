use Rattle.std.proofs.Common.{sym, ◌∙◌, subst}
use Rattle.layout.specs.declared.geometry.Geometry.{Geometry}
use Rattle.bitmap.specs.Bits.{AreOfBytes}
use Rattle.inode.specs.WriteSets.WriteSetContents.{image_of}
use Rattle.inode.proofs.WriteSetsLemmas.PutThere.{both_ok}
use Rattle.inode_sizes.specs.CutBlocks.{HasNumbers}
use Rattle.inode_sizes.proofs.CutBlocks.{all_pointers}
use Rattle.inode_sizes.proofs.cuts.write_pointers.Goals as goal

pub returns-clause-shows : goal.returns-clause-shows
returns-clause-shows c =
    both_ok c.put_numbers-3.result (λ shows numbers blocks before.
    shows blocks (c.in-Ok-put_numbers.ensures.shows blocks (c.in-Ok.ensures.shows blocks before)))
    c.put_numbers-3.ensures.shows c.put_numbers-3.ensures.numbers

pub returns-clause-numbers : goal.returns-clause-numbers
returns-clause-numbers c =
    let g = c.args.write_set.now.there.geometry in
    let cut = c.args.cut.now in
    let one = c.put_numbers.ensures.geometry in
    let two = c.put_numbers-2.ensures.geometry ∙ one in
    both_ok c.put_numbers-3.result (λ shows numbers blocks before are.
    let first = image_of blocks c.args.write_set.now in
    let second = image_of blocks c.put_numbers.new.write_set in
    let third = image_of blocks c.put_numbers-2.new.write_set in
    let final = image_of blocks c.put_numbers-3.new.write_set in
    let shows_second = c.in-Ok.ensures.shows blocks before in
    let shows_third = c.in-Ok-put_numbers.ensures.shows blocks shows_second in
    let indirect_part = subst (λ l. HasNumbers g cut.indirect_part.pointer l first second) c.deref.ensures.value
    (c.in-Ok.ensures.numbers blocks before are) in
    let old_second : AreOfBytes g second = indirect_part.bytes are in
    let part = subst (λ (s : Geometry). HasNumbers s cut.double.inners.part cut.double.inners.part_numbers.items second
    third) one
    (subst (λ l. HasNumbers c.put_numbers.new.write_set.there.geometry cut.double.inners.part l second third)
    c.deref-2.ensures.value (c.in-Ok-put_numbers.ensures.numbers blocks shows_second
    (subst (λ (s : Geometry). AreOfBytes s second) (sym one) old_second))) in
    let old_third : AreOfBytes g third = part.bytes old_second in
    let double = subst (λ (s : Geometry). HasNumbers s cut.double.pointer cut.double.inners.numbers.items third final)
    two
    (subst (λ l. HasNumbers c.put_numbers-2.new.write_set.there.geometry cut.double.pointer l third final)
    c.deref-3.ensures.value (numbers blocks shows_third
    (subst (λ (s : Geometry). AreOfBytes s third) (sym two) old_third))) in
    all_pointers g cut first second third final indirect_part part double)
    c.put_numbers-3.ensures.shows c.put_numbers-3.ensures.numbers

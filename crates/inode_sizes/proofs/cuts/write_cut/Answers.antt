use Rattle.std.proofs.Common.{◌<◌, sym, ap, ◌∙◌, subst}
use Rattle.layout.specs.declared.geometry.Geometry.{Geometry}
use Rattle.layout.specs.Parts.{with_inode}
use Rattle.bitmap.specs.Bits.{AreOfBytes}
use Rattle.inode.specs.WriteSets.WriteSetContents.{Shows, image_of}
use Rattle.inode.proofs.WriteSetsLemmas.PutThere.{both_ok}
use Rattle.bitmap.specs.Inodes.Frees.{Frees}
use Rattle.inode_sizes.specs.CutBlocks.{FitsCut, HasPointers}
use Rattle.inode_sizes.proofs.CutBlocks.{all_cut}
use Rattle.inode_sizes.proofs.cuts.write_cut.Goals as goal

pub write_pointers-requires : goal.write_pointers-requires
write_pointers-requires c =
    subst (λ (s : Geometry). FitsCut s c.args.cut.now) (sym c.zero_from.ensures.geometry) c.requires.fits

pub returns-clause-shows : goal.returns-clause-shows
returns-clause-shows c =
    both_ok c.put_inode.result (λ shows images blocks before.
    subst (Shows c.put_inode.new.self) (sym (images blocks))
    (shows (image_of blocks c.free_all.new.write_set)
    (c.in-Ok-free_all.ensures.shows blocks
    (c.in-Ok-write_pointers.ensures.shows blocks (c.in-Ok.ensures.shows blocks before)))))
    c.put_inode.ensures.shows c.put_inode.ensures.image

pub returns-clause-cuts : goal.returns-clause-cuts
returns-clause-cuts c =
    let g = c.args.write_set.now.there.geometry in
    let cut = c.args.cut.now in
    let one = c.zero_from.ensures.geometry in
    let two = c.write_pointers.ensures.geometry ∙ one in
    let three = c.free_all.ensures.geometry ∙ two in
    both_ok c.put_inode.result (λ shows images blocks tree write_set sound most.
    let first = image_of blocks c.args.write_set.now in
    let second = image_of blocks c.zero_from.new.write_set in
    let third = image_of blocks c.write_pointers.new.write_set in
    let fourth = image_of blocks c.free_all.new.write_set in
    let shows_second = c.in-Ok.ensures.shows blocks write_set.shows in
    let shows_third = c.in-Ok-write_pointers.ensures.shows blocks shows_second in
    let shows_fourth = c.in-Ok-free_all.ensures.shows blocks shows_third in
    let zeros = c.in-Ok.ensures.zeros blocks tree write_set most in
    let old : AreOfBytes g first = λ q low. (write_set.holds.bytes q low).1 in
    let pointers = subst (λ (s : Geometry). HasPointers s cut second third) one
    (c.in-Ok-write_pointers.ensures.numbers blocks shows_second
    (subst (λ (s : Geometry). AreOfBytes s second) (sym one) (zeros.bytes old))) in
    let gone = c.deref.ensures.value in
    let frees = subst (λ (s : Geometry). Frees s cut.gone.items third fourth) two
    (subst (λ l. Frees c.write_pointers.new.write_set.there.geometry l third fourth) gone
    (c.in-Ok-free_all.ensures.frees blocks shows_third)) in
    all_cut g c.args.number c.args.inode.now c.args.last c.args.from cut first second third
    fourth (image_of blocks c.put_inode.new.self) c.requires.less sound old zeros pointers frees
    (λ q low. shows_fourth.long q (subst (λ (s : Geometry). q < s.blocks) (sym three) low))
    (images blocks ∙ ap (λ (s : Geometry). with_inode s fourth c.args.number c.args.inode.now) three))
    c.put_inode.ensures.shows c.put_inode.ensures.image

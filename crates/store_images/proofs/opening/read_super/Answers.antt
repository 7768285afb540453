-- What the block that was read shows, the image shows.
use Rattle.std.proofs.Common.{◌∙◌}
use Rattle.circ.proofs.LogLemmas.OnlyRead.{single_read}
use Rattle.store_images.proofs.Refusing.{refused_by}
use Rattle.store_images.proofs.opening.read_super.Goals as goal

pub returns-in-Ok-clause-refused : goal.returns-in-Ok-clause-refused
returns-in-Ok-clause-refused g c =
    let before = g.D.CrashDisk.device c.args.disk.now in
    let later = g.D.CrashDisk.device c.read.new.self in
    refused_by (g.D.CrashDisk.keeps_model c.read.new.self) c.super_in.result before later c.blocks-in-Ok.result
    c.read.new.out c.super_in.ensures.refused (single_read before later c.in-Ok.ensures.call)
    c.in-Ok.ensures.failure
    (c.blocks-in-Ok.ensures ∙ c.in-Ok.ensures.call.later.size)
    (λ is_preserved clean. c.in-Ok.ensures.newest is_preserved (clean 0))

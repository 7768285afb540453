use Rattle.std.proofs.Common.{rules, ◌≡◌, subst}
use Rattle.nfs_types.specs.declared.ctx.Moment.{Moment}
use Rattle.store_promise.specs.Openings.{HasFailedToFormat, IsFormatted}
use Rattle.store_images.specs.Formatting.{IsMade}
use Rattle.store_images.proofs.FormatStops.{formatted, not_formatted}
use Rattle.store_images.proofs.formatter.format.Goals as goal

pub returns-in-Ok-make-clause-formatted : goal.returns-in-Ok-make-clause-formatted
returns-in-Ok-make-clause-formatted g c =
    let image = c.in_ok-image.image in
    let device = g.D.CrashDisk.device in (
      image.geometry,
      search rules,
      search rules,
      search rules,
      search rules,
      search rules,
      subst (λ (m : Moment). IsMade (device c.make.new.disk) image.geometry m) c.in_ok-image.ensures.made
          c.in-Ok-make.ensures.made,
      search rules,
    )

pub returns-in-Ok-make-clause-left : goal.returns-in-Ok-make-clause-left
returns-in-Ok-make-clause-left g c = λ preserves.
    let image = c.in_ok-image.image in
    let device = g.D.CrashDisk.device in
    let sizes : image.geometry.blocks ≡ (device c.args.disk.now).size = search rules in (
      image.geometry,
      sizes,
      search rules,
      subst (λ (m : Moment). IsFormatted (device c.args.disk.now) (device c.make.new.disk) image.geometry m)
          c.in_ok-image.ensures.made
          (formatted (device c.args.disk.now) (device c.make.new.disk) image.geometry image.made sizes
          (g.met.D.CrashDisk.whole c.make.new.disk preserves) c.in-Ok-make.ensures.stops
          c.in-Ok-make.ensures.failure
          c.in-Ok-make.ensures.rest c.in-Ok-make.ensures.made),
      search rules,
    )

pub returns-clause-left : goal.returns-clause-left
returns-clause-left g c = λ preserves.
    let image = c.in_ok-image.image in
    let device = g.D.CrashDisk.device in
    let sizes : image.geometry.blocks ≡ (device c.args.disk.now).size = search rules in (
      image.geometry,
      sizes,
      search rules,
      subst (λ (m : Moment). HasFailedToFormat (device c.args.disk.now) (device c.make.new.disk)
          image.geometry m) c.in_ok-image.ensures.made
          (not_formatted (device c.args.disk.now) (device c.make.new.disk) image.geometry image.made sizes
          (g.met.D.CrashDisk.whole c.make.new.disk preserves) c.in-Err.ensures.stops c.in-Err.ensures.failure),
      search rules,
    )

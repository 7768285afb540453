use Rattle.std.proofs.Common.{ℕ, subst}
use Rattle.store_images.specs.Formatting.{HasWrittenUpTo}
use Rattle.store_images.proofs.FormatStops.{filled, filled_rest, super_filled, super_barrier}
use Rattle.store_images.proofs.formatter.fill.Goals as goal

pub returns-clause-made : goal.returns-clause-made
returns-clause-made g c =
    let device = g.D.CrashDisk.device in
    let image = c.args.image.now in
    let parts = subst (λ (n : ℕ). HasWrittenUpTo (device c.write_one-2.new.disk) image.geometry image.made n
    (device c.write_up_to.new.disk)) c.requires.end c.in_ok-write_up_to.ensures.written in
    filled _ _ _ _ _ _ image.geometry image.made c.requires.blank c.in_ok-write_one.ensures.written
    c.in_ok-write_one-2.ensures.written parts c.in_ok-barrier.ensures.call c.barrier-2.result
    c.barrier-2.ensures.call

pub returns-clause-rest : goal.returns-clause-rest
returns-clause-rest g c =
    let device = g.D.CrashDisk.device in
    let image = c.args.image.now in
    let parts = subst (λ (n : ℕ). HasWrittenUpTo (device c.write_one-2.new.disk) image.geometry image.made n
    (device c.write_up_to.new.disk)) c.requires.end c.in_ok-write_up_to.ensures.written in
    filled_rest _ _ _ _ _ _ image.geometry image.made c.requires.blank c.in_ok-write_one.ensures.written
    c.in_ok-write_one-2.ensures.written parts c.in_ok-barrier.ensures.call c.barrier-2.result
    c.barrier-2.ensures.call

pub returns-in_err-write_up_to-clause-first : goal.returns-in_err-write_up_to-clause-first
returns-in_err-write_up_to-clause-first g c =
    super_filled _ _ _ _ _ _ _ _ c.in_ok-write_one.ensures.written c.in_ok-write_one-2.ensures.written
    c.write_up_to.ensures.first

pub returns-in_err-barrier-clause-first : goal.returns-in_err-barrier-clause-first
returns-in_err-barrier-clause-first g c =
    super_barrier _ _ _ _ _ _ c.requires.blank
    (super_filled _ _ _ _ _ _ _ _ c.in_ok-write_one.ensures.written c.in_ok-write_one-2.ensures.written
    c.write_up_to.ensures.first) c.in_err-barrier.ensures.call

pub returns-clause-first : goal.returns-clause-first
returns-clause-first g c =
    super_barrier _ _ _ _ _ _ c.requires.blank
    (super_barrier _ _ _ _ _ _ c.requires.blank
    (super_filled _ _ _ _ _ _ _ _ c.in_ok-write_one.ensures.written c.in_ok-write_one-2.ensures.written
    c.write_up_to.ensures.first) c.in_ok-barrier.ensures.call) c.barrier-2.ensures.call

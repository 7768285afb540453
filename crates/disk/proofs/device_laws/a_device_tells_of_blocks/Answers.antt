use Rattle.disk.proofs.device_laws.a_device_tells_of_blocks.Goals as goal

pub returns : goal.returns
returns g c = g.met.D.CrashDisk.whole c.args.disk.now

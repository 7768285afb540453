use Rattle.sim.proofs.image_files.scan_image.Goals as goal

pub returns-then-shows : goal.returns-then-shows
returns-then-shows c = rw c.if-shows.true (record { reads = c.show.ensures.reads; shown = c.show.ensures.shown tt })

use Rattle.procs_names.proofs.LinksLemmas.Shaped.{entered_some}
use Rattle.procs_names.proofs.links.insertion.enter_name.Goals as goal

pub returns-clause-ok : goal.returns-clause-ok
returns-clause-ok g c = λ world tree body stands is can.
    entered_some tree c.args.number c.args.moment c.args.name.now
    (record { number = c.args.dirent.number; slot = c.args.dirent.slot }) c.args.file.now body is
    (g.F.Files.stands c.enter.new.self world) c.in-Some.directory c.more_links.result c.parent_links.result
    ((rw c.in-Some.is at c.in_ok-directory.ensures.ok) world tree stands) c.more_links.ensures
    c.parent_links.ensures.is can
    (λ node there fits sound enters has_space. (c.in_ok-_inode_attributes.ensures.ok world tree node stands there fits sound enters has_space).1)

use Rattle.dir.proofs.search.call_names.Names.valid_count.Goals as goal

pub returns-then-first-second : goal.returns-then-first-second
returns-then-first-second c = λ snap blocks inode index is saw at less.
    c.valid_count-second.ensures snap blocks inode index is.second saw at less

pub returns-else-first-second : goal.returns-else-first-second
returns-else-first-second c = λ snap blocks inode index is saw at less.
    c.valid_count-first.ensures snap blocks inode index is.first saw at less

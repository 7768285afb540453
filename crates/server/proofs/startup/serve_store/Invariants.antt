use Rattle.disk.specs.declared.block.Side.TheVariants.{Home, Log}
use Rattle.server.proofs.startup.serve_store.Given as goal

abbrev pub ghosts-serve_opened-L-Ledger : goal.ghosts-serve_opened-L-Ledger
ghosts-serve_opened-L-Ledger g a = record { name = a.ledgers.commits.name; parts = a.ledgers.commits.parts }

abbrev pub ghosts-serve_opened-G-Ledger : goal.ghosts-serve_opened-G-Ledger
ghosts-serve_opened-G-Ledger g a = record { name = a.ledgers.logged.name; parts = a.ledgers.logged.parts }

abbrev pub ghosts-serve_opened-G-Whole : goal.ghosts-serve_opened-G-Whole
ghosts-serve_opened-G-Whole g a = record {
  side = Log;
  all = a.ledgers.logged.parts;
  first = a.opened.parts.core.log_calls;
  boot = a.opened.parts.core.boot;
}

abbrev pub ghosts-serve_opened-I-Ledger : goal.ghosts-serve_opened-I-Ledger
ghosts-serve_opened-I-Ledger g a = record { name = a.ledgers.installed.name; parts = a.ledgers.installed.parts }

abbrev pub ghosts-serve_opened-I-Whole : goal.ghosts-serve_opened-I-Whole
ghosts-serve_opened-I-Whole g a = record {
  side = Home;
  all = a.ledgers.installed.parts;
  first = a.opened.parts.core.inst_calls;
  boot = a.opened.parts.core.boot;
}

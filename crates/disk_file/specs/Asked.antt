-- What is told of a file that fails.
use Rattle.std.specs.Prelude.{ℕ, List, codes}
use Rattle.disk_file.specs.declared.alarm.Asked.{Asked}
use Rattle.disk_file.specs.declared.alarm.Asked.TheVariants.{Write, Sync}

-- what it was asked for
abbrev pub asked_text : Asked → List ℕ
asked_text Write = codes "a write of the image failed"
asked_text Sync = codes "a sync of the image failed"

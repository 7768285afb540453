use Rattle.std.proofs.Common.{sym, subst}
use Rattle.circ.specs.Log.Log.{Log}
use Rattle.circ.specs.Log.Effects.{HasAppended}
use Rattle.circ.specs.Log.Grows.{GrowsBy, StandsStill}
use Rattle.circ.proofs.LogLemmas.Effects.{seen_append}
use Rattle.circ.proofs.LogLemmas.Absorption.{grows}
use Rattle.circ.proofs.LogLemmas.Unaffected.{appended, still_with_group}
use Rattle.wal.proofs.memory.Wal.append.Goals as goal

pub returns-clause-seen : goal.returns-clause-seen
returns-clause-seen c = λ done.
    subst (λ (log : Log). HasAppended c.args.self.now c.args.group.items log)
    (sym (c.add.ensures.appended done))
    (seen_append c.args.self.now c.args.group.items c.add.ensures.lawful)

pub returns-clause-grows : goal.returns-clause-grows
returns-clause-grows c = λ done.
    subst (λ (log : Log). GrowsBy c.args.self.now c.args.group.items log)
    (sym (c.add.ensures.appended done))
    (grows c.args.self.now c.args.group.items c.add.ensures.lawful)

pub returns-clause-still : goal.returns-clause-still
returns-clause-still c = λ done.
    subst (λ (log : Log). StandsStill c.args.self.now log) (sym (c.add.ensures.appended done))
    (still_with_group c.args.self.now c.args.group.items)

pub returns-clause-law : goal.returns-clause-law
returns-clause-law c =
    appended c.add.result c.args.self.now c.add.new.self c.args.group.items c.add.ensures.lawful
    c.add.ensures.appended c.add.ensures.refused

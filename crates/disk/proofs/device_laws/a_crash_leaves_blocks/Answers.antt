use Rattle.std.proofs.Common.{◌-◌, ◌≤◌, [], length, arith}
use Rattle.std.proofs.lemmas.List.Elements.{All-contains, All-get_or}
use Rattle.disk.specs.Device.{current}
use Rattle.disk.specs.Blocks.{IsBlock}
use Rattle.disk.proofs.device_laws.a_crash_leaves_blocks.Goals as goal

pub returns-clause-image : goal.returns-clause-image
returns-clause-image c d clock image are before leaves block h =
    All-contains IsBlock (d.contents clock block) (image block) (are.blocks clock block before h)
    (leaves block h)

pub returns-clause-newest : goal.returns-clause-newest
returns-clause-newest c d block are h =
    let now : d.clock ≤ d.clock = omega arith in
    let some = are.some d.clock block now h in
    All-get_or IsBlock (current d block) (length (current d block) - 1) [] (omega (arith, some))
    (are.blocks d.clock block now h)

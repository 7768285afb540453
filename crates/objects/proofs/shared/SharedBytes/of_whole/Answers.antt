use Rattle.std.proofs.Common.{◌≡◌, ◌∙◌, rules}
use Rattle.std.proofs.lemmas.List.{take_all}
use Rattle.base.specs.declared.TheConstants.{BLOCK_BYTES}
use Rattle.objects.proofs.shared.SharedBytes.of_whole.Goals as goal

pub returns-clause-bytes : goal.returns-clause-bytes
returns-clause-bytes c =
    let same = c.as_slice.ensures.bytes in
    c.of_octets.ensures ∙ c.in_ok-octets.ensures.bytes
    ∙ take_all BLOCK_BYTES c.args.block.now (search rules)

use Rattle.session.specs.declared.output.OutputCall.TheVariants.{Write}
use Rattle.session.proofs.output.Output.write_from.Goals as goal

pub returns-clause-traced : goal.returns-clause-traced
returns-clause-traced g c = (Write c.of.result c.of-2.result c.of-3.result, (cc (c.of.ensures, c.of-2.ensures), c.of-3.ensures), c.and-self.ensures)

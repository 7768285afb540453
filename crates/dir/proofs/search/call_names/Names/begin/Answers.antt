use Rattle.dir.proofs.search.call_names.Names.begin.Goals as goal

pub returns-clause-known : goal.returns-clause-known
returns-clause-known c = λ snap. record {
  first = c.in_ok-first_begun.ensures.knows snap;
  second = c.in_ok-second_begun.ensures.knows snap;
}

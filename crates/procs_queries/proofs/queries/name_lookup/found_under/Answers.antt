use Rattle.std.proofs.Common.{sym, ◌∙◌}
use Rattle.std.proofs.lemmas.Result.{IfOk-weaker}
use Rattle.procs_files.specs.Heads.{node_of}
use Rattle.procs_queries.proofs.QueriesLemmas.LookupFound.{under_other}
use Rattle.procs_queries.proofs.queries.name_lookup.found_under.Goals as goal

pub returns-else-is_dots-2-clause-ok : goal.returns-else-is_dots-2-clause-ok
returns-else-is_dots-2-clause-ok g c =
    IfOk-weaker c.named_file.result _ _ (λ found there world tree body stands at.
    under_other tree c.args.directory.now.number (node_of c.args.directory.now body) c.args.name.now found
    (sym c.is_dots.ensures ∙ c.if-is_dots.false)
    (sym c.is_dots-else-is_dots.ensures ∙ c.if-is_dots-2.false) (there world tree body stands at))
    c.named_file.ensures.ok

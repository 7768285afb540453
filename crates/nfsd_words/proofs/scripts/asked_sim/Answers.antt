use Rattle.std.proofs.Common.{rules, refl}
use Rattle.clap.specs.Words.{found_of, rows_of}
use Rattle.nfsd_words.proofs.Found.{flag_found, if_none, no_script, no_text_found, text_found}
use Rattle.nfsd_words.proofs.scripts.asked_sim.Goals as goal

pub returns-clause-asked : goal.returns-clause-asked
returns-clause-asked c = (
  refl,
  text_found c.args.given.now _ c.get_str.result c.in_ok-get_str.field-0 c.get_str.ensures (search rules),
  flag_found c.args.given.now _ c.get_flag.result c.get_flag.ensures.none c.get_flag.ensures.value c.get_flag.ensures.other,
)

pub returns-in_err-get_str-clause-senseless : goal.returns-in_err-get_str-clause-senseless
returns-in_err-get_str-clause-senseless c = if_none _ (no_script (rows_of (found_of c.args.given.now)) (λ x.
    no_text_found c.args.given.now _ c.get_str.result x c.get_str.ensures (search rules)))

use Rattle.std.proofs.Common.{rules, refl}
use Rattle.clap.specs.Words.{found_of, rows_of}
use Rattle.nfsd_words.proofs.Found.{if_none, no_connections, no_image, no_listen, no_number_found}
use Rattle.nfsd_words.proofs.Found.{no_text_found, no_workers, number_found, serve_is_no_sim, text_found}
use Rattle.nfsd_words.proofs.asked_serve.Goals as goal

pub returns-clause-asked : goal.returns-clause-asked
returns-clause-asked c = (
  refl,
  text_found c.args.given.now _ c.get_str.result c.in_ok-get_str.field-0 c.get_str.ensures (search rules),
  text_found c.args.given.now _ c.get_str-2.result c.in_ok-get_str-2.field-0 c.get_str-2.ensures (search rules),
  number_found c.args.given.now _ c.get_one.result c.in_ok-get_one.field-0 c.get_one.ensures.none
      c.get_one.ensures.value (search rules),
  number_found c.args.given.now _ c.get_one-2.result c.in_ok-get_one-2.field-0 c.get_one-2.ensures.none
      c.get_one-2.ensures.value (search rules),
)

pub returns-in_err-get_str-clause-senseless : goal.returns-in_err-get_str-clause-senseless
returns-in_err-get_str-clause-senseless c = if_none _ (no_image _ (rows_of (found_of c.args.given.now)) serve_is_no_sim (λ x.
    no_text_found c.args.given.now _ c.get_str.result x c.get_str.ensures (search rules)))

pub returns-in_err-get_str-2-clause-senseless : goal.returns-in_err-get_str-2-clause-senseless
returns-in_err-get_str-2-clause-senseless c = if_none _ (no_listen (rows_of (found_of c.args.given.now)) (λ x.
    no_text_found c.args.given.now _ c.get_str-2.result x c.get_str-2.ensures (search rules)))

pub returns-in_err-get_one-clause-senseless : goal.returns-in_err-get_one-clause-senseless
returns-in_err-get_one-clause-senseless c = if_none _ (no_workers (rows_of (found_of c.args.given.now)) (λ n.
    no_number_found c.args.given.now _ c.get_one.result n c.get_one.ensures.value (search rules)))

pub returns-in_err-get_one-2-clause-senseless : goal.returns-in_err-get_one-2-clause-senseless
returns-in_err-get_one-2-clause-senseless c = if_none _
    (no_connections (rows_of (found_of c.args.given.now)) (λ n.
    no_number_found c.args.given.now _ c.get_one-2.result n c.get_one-2.ensures.value (search rules)))

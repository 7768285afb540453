use Rattle.std.proofs.Common.{◌∙◌, sym, ◌+◌, ◌++◌, length, true, false, arith}
use Rattle.std.proofs.lemmas.Result.{err_from_is_err_and}
use Rattle.xdr.specs.Codes.{chain_bytes, some_too_long}
use Rattle.xdr.specs.Items.{flag}
use Rattle.nfs_results.specs.Results.{entry_plus, entries_plus}
use Rattle.xdr.proofs.Links.{put_end, short_end}
use Rattle.nfs_results.proofs.Refusals.{end_fits, flag_fits, link_refused, short_refused}
use Rattle.nfs_results.proofs.entries.put_entries_plus.Goals as goal

pub returns-in_err-flag : goal.returns-in_err-flag
unfolding entries_plus
returns-in_err-flag c =
    let p = err_from_is_err_and c.from_residual.result c.from_residual.ensures.1 in
    let fits = flag_fits entry_plus c.args.entries.now c.loop-entry.entry-index c.entry-item.result
    c.loop-entry.out.bytes c.args.out.now.bytes c.loop-entry-test.true c.entry-item.is c.loop-entry.invariant.0 in
    rw (p.1, p.2) (short_refused c.in_err-flag.field-0.0 (some_too_long entry_plus c.args.entries.now) c.loop-entry.out
    c.args.out.now (length c.loop-entry.out.bytes + length (flag true))
    (length c.args.out.now.bytes + length (chain_bytes entry_plus c.args.entries.now)) c.loop-entry.invariant.2
    (sym c.loop-entry.invariant.3) fits c.in_err-flag.ensures.written)

pub returns-in_err-put_entry_plus : goal.returns-in_err-put_entry_plus
unfolding entries_plus
returns-in_err-put_entry_plus c =
    let p = err_from_is_err_and c.from_residual-in_err-put_entry_plus.result
    c.from_residual-in_err-put_entry_plus.ensures.1 in
    rw (p.1, p.2) (link_refused entry_plus c.args.entries.now c.loop-entry.entry-index c.entry-item.result
    c.in_err-put_entry_plus.field-0.0 c.args.out.now c.loop-entry.out c.flag.new.self c.loop-entry-test.true
    c.entry-item.is c.loop-entry.invariant.1 c.loop-entry.invariant.0 c.loop-entry.invariant.2
    c.loop-entry.invariant.3 c.in_ok-flag.ensures.written.0 c.in_ok-flag.ensures.written.2
    c.in_ok-flag.ensures.written.3 c.in_err-put_entry_plus.ensures)

pub returns-in_err-flag-2 : goal.returns-in_err-flag-2
unfolding entries_plus
returns-in_err-flag-2 c =
    let p = err_from_is_err_and c.from_residual-in_err-flag-2.result c.from_residual-in_err-flag-2.ensures.1 in
    let fits = end_fits entry_plus c.args.entries.now c.loop-entry.entry-index c.loop-entry.out.bytes
    c.args.out.now.bytes c.loop-entry-test.false c.loop-entry.invariant.0 in
    rw (p.1, p.2) (short_refused c.in_err-flag-2.field-0.0 (some_too_long entry_plus c.args.entries.now)
    c.loop-entry.out c.args.out.now (length c.loop-entry.out.bytes + length (flag false))
    (length c.args.out.now.bytes + length (chain_bytes entry_plus c.args.entries.now)) c.loop-entry.invariant.2
    (sym c.loop-entry.invariant.3) fits c.in_err-flag-2.ensures.written)

pub returns : goal.returns
unfolding entries_plus
returns c =
    let whole = put_end entry_plus c.args.entries.now c.loop-entry.entry-index c.loop-entry.out.bytes
    (c.args.out.now.bytes ++ chain_bytes entry_plus c.args.entries.now) c.loop-entry-test.false
    c.loop-entry.invariant.0 in
    let short = short_end entry_plus c.args.entries.now c.loop-entry.entry-index
    (some_too_long entry_plus c.args.entries.now) c.loop-entry-test.false c.loop-entry.invariant.1 in (
      rw (← whole) c.in_ok-flag-2.ensures.written.0,
      short,
      omega (arith, c.loop-entry.invariant.2, c.in_ok-flag-2.ensures.written.2),
      c.in_ok-flag-2.ensures.written.3 ∙ c.loop-entry.invariant.3,
    )

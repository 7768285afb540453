use Rattle.std.proofs.Common.{rules, ◌≡◌, ℕ, subst}
use Rattle.store_images.proofs.FormatStops.{super_stays_on}
use Rattle.store_images.proofs.Formatted.{one_more}
use Rattle.store_images.specs.Formatting.{HasWrittenUpTo}
use Rattle.store_images.proofs.formatter.write_up_to.Goals as goal

pub numbers-preserved : goal.numbers-preserved
numbers-preserved g c = record {
  upto = one_more _ _ _ _ _ _ c.numbers.invariant.upto (search rules) c.in_ok-write_one.ensures.written;
  failures = search rules;
  first = super_stays_on _ _ _ c.numbers.invariant.first c.in_ok-write_one.ensures.written.later
      (c.in_ok-write_one.ensures.written.others 0 (λ (e : 0 ≡ c.numbers.number). search rules));
  model = search rules;
}

pub returns-in_err-write_one-clause-first : goal.returns-in_err-write_one-clause-first
returns-in_err-write_one-clause-first g c = super_stays_on _ _ _ c.numbers.invariant.first
    c.in_err-write_one.ensures.written.later
    (c.in_err-write_one.ensures.written.others 0 (λ (e : 0 ≡ c.numbers.number). search rules))

pub returns-clause-written : goal.returns-clause-written
returns-clause-written g c =
    let at : c.numbers.number ≡ c.args.end = search rules in
    subst (λ (n : ℕ). HasWrittenUpTo (g.D.CrashDisk.device c.args.disk.now) c.args.image.now.geometry
    c.args.image.now.made n (g.D.CrashDisk.device c.numbers.disk)) at c.numbers.invariant.upto

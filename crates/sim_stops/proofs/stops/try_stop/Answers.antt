use Rattle.std.proofs.Common.{◌≡◌, ◌∙◌, ◌≤◌, ◌∷◌, [], List, ℕ, ap, arith, length, map, rules, subst}
use Rattle.disk.specs.Choice.{chosen}
use Rattle.disk.specs.Memory.{blocks_of}
use Rattle.sim_stops.proofs.Totals.{below_more}
use Rattle.sim_stops.specs.CrashChoices.{choice_of, choices_of, counts_in}
use Rattle.sim_stops.specs.Promised.{promised_of}
use Rattle.sim_stops.specs.Runs.{HasWanted}
use Rattle.sim_stops.specs.Tried.{IsTriedImage}
use Rattle.sim_stops.specs.declared.stops.TheConstants.{MOST_AT_A_STOP}
use Rattle.sim_stops.proofs.stops.try_stop.Goals as goal

pub numbers-preserved : goal.numbers-preserved
numbers-preserved g c =
    let run_record = c.in_ok-disk.run' in
    let files = c.args.files.now in
    let counts : c.deref-in-numbers.result.now ≡ counts_in (blocks_of c.in_ok-disk.disk) =
    c.deref-in-numbers.ensures.value ∙ c.in_ok-counts.ensures in
    let digits : c.deref-in-numbers-3.result.now
    ≡ choice_of MOST_AT_A_STOP (counts_in (blocks_of c.in_ok-disk.disk)) c.numbers.number =
    c.deref-in-numbers-3.ensures.value ∙ c.in_ok-choice.ensures
    ∙ ap (λ (some : List ℕ). choice_of MOST_AT_A_STOP some c.numbers.number) counts in
    let most : c.len.result ≡ length run_record.history.items = search rules in
    let wanted = subst (λ (n : ℕ). HasWanted files (promised_of run_record.history.items run_record.answers.items) n c.crash.result) most
    (subst (λ (n : ℕ). HasWanted files n c.len.result c.crash.result) c.promised.ensures c.in_ok-try_image.ensures) in
    below_more
    (λ (n : ℕ). IsTriedImage c.args.asked files run_record
    (choice_of MOST_AT_A_STOP (counts_in (blocks_of c.in_ok-disk.disk)) n))
    c.numbers.number c.numbers.invariant
    (record {
      disk = c.in_ok-disk-2.disk;
      again = c.in_ok-disk-2.field-0-1;
      ran = c.in_ok-disk-2.ensures;
      image = c.crash.result;
      left = c.crash.ensures.chosen ∙ ap (λ (some : List ℕ).
          map (λ (content : List ℕ). content ∷ []) (chosen some (blocks_of c.in_ok-disk-2.disk))) digits;
      wanted = wanted;
    })

pub returns : goal.returns
returns g c =
    let last : c.choices-all.result ≤ c.numbers.number = search rules in
    record {
      disk = c.in_ok-disk.disk;
      run_record = c.in_ok-disk.run';
      ran = c.in_ok-disk.ensures;
      images_are = c.choices-all.ensures
          ∙ ap (λ (some : List ℕ). choices_of some MOST_AT_A_STOP) (c.deref.ensures.value ∙ c.in_ok-counts.ensures);
      each = λ n below. c.numbers.invariant n (omega (arith, below, last));
    }

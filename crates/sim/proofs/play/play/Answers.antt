use Rattle.std.proofs.Common.{◌∙◌, ◌++◌, List, ℕ, ap, map, refl, rules, subst}
use Rattle.disk.specs.Memory.{memory_device, to_fail}
use Rattle.http_server.proofs.KnownLemmas.{Appends-then}
use Rattle.store_promise.specs.Transcript.{report_of}
use Rattle.sim.specs.Files.{scan_lines}
use Rattle.sim.specs.Lines.{boot_line, open_refused_line}
use Rattle.sim.specs.Replies.{reply_lines}
use Rattle.sim.specs.Simulated.{IsRefusal, IsRun, number_behind}
use Rattle.sim.proofs.play.play.Goals as goal

pub returns-in-Err : goal.returns-in-Err
returns-in-Err g c =
    let seen = c.scan_image-files.new.disk in (
      open_refused_line c.in-Err.fault,
      c.in_ok-print_open_refused-in-Err.ensures.printed,
      subst (λ happened. IsRefusal c.args.disk happened (open_refused_line c.in-Err.fault)) c.segment.view_is (record {
        seen = seen;
        scanned_files = c.scan_image-files.result;
        before = c.let_fail.new.disk;
        left = c.run-disk.result.0;
        fault = c.in-Err.fault;
        looks = c.scan_image-files.ensures;
        fails = record {
          blocks = c.let_fail.ensures.blocks;
          past = c.let_fail.ensures.past;
          more = c.in_ok-let_fail.ensures.fails ∙ ap (λ (fails : List ℕ). to_fail seen
              ++ map (number_behind (memory_device seen).clock) fails) c.deref.ensures.value;
        };
        promised = λ tree first. rw c.in-Err.is at (c.run-disk.ensures.promised tree first);
        prints = refl;
      }),
    )

pub returns : goal.returns
returns g c =
    let seen = c.scan_image-files.new.disk in
    let run = c.in-Ok.run' in
    let handed = c.segment.inside.handed.items in
    let printed_files = scan_lines c.scan_image-files.result in
    let replies = reply_lines handed run.steps.items run.answers.items in
    let printed = boot_line run.boot ++ printed_files ++ replies in
    let leading = Appends-then (g.W.Write.contents c.args.out.now) (g.W.Write.contents c.print_boot.new.out)
    (g.W.Write.contents c.print_files.new.out) (boot_line run.boot) printed_files c.in_ok-print_boot-in-Ok.ensures.printed
    c.in_ok-print_files-in-Ok.ensures in (
      printed,
      Appends-then (g.W.Write.contents c.args.out.now) (g.W.Write.contents c.print_files.new.out)
          (g.W.Write.contents c.print_replies.new.out) (boot_line run.boot ++ printed_files) replies leading
          (rw c.deref-in-Ok.ensures.value at c.in_ok-print_replies-in-Ok.ensures),
      subst (λ happened. IsRun c.args.disk happened c.run-disk.result.0 printed) c.segment.view_is (record {
        seen = seen;
        scanned_files = c.scan_image-files.result;
        before = c.let_fail.new.disk;
        report = report_of run;
        looks = c.scan_image-files.ensures;
        fails = record {
          blocks = c.let_fail.ensures.blocks;
          past = c.let_fail.ensures.past;
          more = c.in_ok-let_fail.ensures.fails ∙ ap (λ (fails : List ℕ). to_fail seen
              ++ map (number_behind (memory_device seen).clock) fails) c.deref.ensures.value;
        };
        promised = λ tree first. rw c.in-Ok.is at (c.run-disk.ensures.promised tree first);
        all = search rules;
        prints = refl;
      }),
    )

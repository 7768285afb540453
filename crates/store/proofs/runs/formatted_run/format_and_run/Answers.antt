use Rattle.std.proofs.Common.{◌≡◌, ◌∙◌, ap, length, subst, sym, []}
use Rattle.std.specs.Prelude.{count_by}
use Rattle.disk.specs.CallRecord.{is_failure}
use Rattle.std.proofs.lemmas.List.{length-replicate}
use Rattle.disk.specs.Crash.{IsAtRest}
use Rattle.disk.specs.Memory.{Blocks, Past, blocks_of, device_of, memory_device, past_of}
use Rattle.layout.specs.Geometry.{IsLawful}
use Rattle.layout.specs.Stands.{geometry_of}
use Rattle.nfs_spec.specs.Model.Format.{format_tree}
use Rattle.store.proofs.RunsLemmas.FormattedRun.{is_answered}
use Rattle.store.proofs.runs.formatted_run.format_and_run.Goals as goal

pub returns-clause-promised : goal.returns-clause-promised
returns-clause-promised c = λ sound.
    let fresh = c.in_ok-disk.disk in
    let made = c.fail_at.new.self in
    let disk = c.format.new.disk in
    let empty = memory_device made in
    let before = memory_device disk in
    let left = c.in_ok-format.ensures.left tt in
    let g = left.0 in
    let rest : IsAtRest empty =
    subst (λ (past : Past). IsAtRest (device_of (blocks_of made) past)) (sym c.fail_at.ensures.past)
    (subst (λ (blocks : Blocks). IsAtRest (device_of blocks (past_of fresh))) (sym c.fail_at.ensures.blocks)
    c.in_ok-disk.ensures.rest) in
    let size : empty.size ≡ c.args.blocks =
    ap (λ (blocks : Blocks). length blocks) (c.fail_at.ensures.blocks ∙ c.in_ok-disk.ensures.zeros)
    ∙ length-replicate c.args.blocks _ in
    let none : past_of made ≡ [] = c.fail_at.ensures.past ∙ c.in_ok-disk.ensures.fresh in
    let clock : empty.clock ≡ 0 = ap (λ (past : Past). length past) none in
    let failures : empty.failures ≡ 0 = ap (λ (past : Past). count_by (λ e. is_failure e.1) past) none in
    let lawful : IsLawful c.args.blocks c.args.inodes =
    subst (λ n. IsLawful n c.args.inodes) size c.in_ok-format.ensures.lawful in
    let blocks_are : g.blocks ≡ c.args.blocks = left.1 ∙ size in
    let lawful_g : IsLawful g.blocks g.inodes =
    subst (λ n. IsLawful n g.inodes) (sym blocks_are)
    (subst (λ n. IsLawful c.args.blocks n) (sym left.2) lawful) in
    let may = c.a_made_image_may_run.ensures empty before g c.args.made c.args.events.items lawful_g
    c.requires sound rest left.3 in
    record {
      empty = empty;
      is_new = record { size = size; clock = clock; failures = failures; rest = rest };
      before = before;
      geometry = g;
      lawful = lawful;
      blocks_are = blocks_are;
      inodes_are = left.2;
      formatted = left.3;
      may = may;
      answered = is_answered (Unit {0}) before (memory_device c.run.result.0)
          (format_tree (geometry_of g) c.args.made) 0
          c.args.workers c.args.events.items c.run.result.1
          (c.run.ensures.promised (format_tree (geometry_of g) c.args.made) 0) may;
    }

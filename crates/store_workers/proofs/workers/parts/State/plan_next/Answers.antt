use Rattle.std.proofs.Common.{rules, ◌≡◌, ◌∙◌, Option, Some, ap, sym}
use Rattle.inode.specs.declared.snap.Snap.{Snap}
use Rattle.store_workers.specs.Seen.{Seen, seen_in, seen_of}
use Rattle.store_workers.proofs.SpelledOnce.{job_sound}
use Rattle.store_workers.proofs.workers.parts.State.plan_next.Goals as goal

pub next-requires-clause-sound : goal.next-requires-clause-sound
next-requires-clause-sound c =
    let job_is : c.args.self.now.work.job ≡ Some c.in-Some-Some.job.now = search rules in
    job_sound c.args.self.now.work.job c.in-Some-Some.job.now job_is c.requires.asked

pub returns-in-Err-clause-next : goal.returns-in-Err-clause-next
returns-in-Err-clause-next c =
    let there : c.args.self.now.work.planner ≡ Some c.in-Some-Some.planner.now = search rules in record {
      job = c.in-Some-Some.job.now;
      job_is = search rules;
      snap = c.in-Some-Some.planner.now.snap;
      snap_is = ap seen_in there;
      plan = tt;
      is_step = tt;
    }

pub returns-in-Err-reserve_next-clause-next : goal.returns-in-Err-reserve_next-clause-next
returns-in-Err-reserve_next-clause-next c =
    let there : c.args.self.now.work.planner ≡ Some c.in-Some-Some.planner.now = search rules in record {
      job = c.in-Some-Some.job.now;
      job_is = search rules;
      snap = c.in-Some-Some.planner.now.snap;
      snap_is = ap seen_in there;
      plan = tt;
      is_step = tt;
    }

pub returns-clause-next : goal.returns-clause-next
returns-clause-next c =
    let there : c.args.self.now.work.planner ≡ Some c.in-Some-Some.planner.now = search rules in record {
      job = c.in-Some-Some.job.now;
      job_is = search rules;
      snap = c.reserve_next.new.self.snap;
      snap_is = ap seen_in there
          ∙ same_seen c.in-Some-Some.planner.now.snap c.reserve_next.new.self.snap c.reserve_next.ensures.geometry
          c.reserve_next.ensures.objects c.reserve_next.ensures.exclusives c.reserve_next.ensures.claims;
      plan = c.next.ensures.plan;
      is_step = c.next.ensures.step;
    }
  where
    same_seen : (old new : Snap) → new.geometry ≡ old.geometry → new.objects.items ≡ old.objects.items
        → new.exclusives.items ≡ old.exclusives.items → new.claims.items ≡ old.claims.items
        → ◌≡◌ {A = Option Seen} (Some (seen_of old)) (Some (seen_of new))
    same_seen old new g o a c i =
        Some (record { geometry = sym g i; objects = sym o i; exclusives = sym a i; claims = sym c i })

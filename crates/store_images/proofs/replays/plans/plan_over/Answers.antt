-- What was read is as it lies at home, so that what comes of the plan is a step from there.
use Rattle.std.proofs.Common.{◌≡◌, ◌∙◌, ap, sym, subst, arith, ◌+◌, ◌*◌, List, [], ◌∷◌, All, length, length-append}
use Rattle.disk.specs.Crash.{Image}
use Rattle.disk.specs.Device.{Device}
use Rattle.disk.specs.declared.block.BlockNo.{BlockNo}
use Rattle.layout.specs.declared.geometry.Geometry.{Geometry}
use Rattle.layout.specs.Homes.{homes_of}
use Rattle.objects.specs.Object.{ObjectBytes}
use Rattle.circ.specs.Log.Log.{IsHomeOn}
use Rattle.circ.specs.Log.Recovery.{image_of}
use Rattle.circ.proofs.LogLemmas.OnlyRead.{reads_then, certain_then}
use Rattle.inode.specs.Read.{AreAsRead}
use Rattle.inode.specs.declared.snap.Snap.{Snap}
use Rattle.procs.specs.Asks.{Claims, WereAskedOnce, WereClaimedOnce}
use Rattle.procs.specs.MostAsked.{most_asked, most_claimed, times_asked}
use Rattle.procs.specs.Steps.{IsStepOf}
use Rattle.store_images.proofs.ReplaysLemmas.Reading.{less_left, more_often, read_more, saw_then, written_home}
use Rattle.store_images.proofs.replays.plans.plan_over.Goals as goal

pub asks-smaller-in-Continue-branch-2 : goal.asks-smaller-in-Continue-branch-2
asks-smaller-in-Continue-branch-2 g c =
    let geometry : Geometry = c.args.geometry in
    let old : Snap = c.asks.snap in
    let reserved_snap : Snap = c.reserve_next.new.self in
    let new : Snap = c.read_object.new.snap in
    let inv = c.asks.invariant in
    let added = c.in_ok-read_object-in-Need.ensures.added in
    let more = more_often old reserved_snap new c.in-Need.addr c.in-Need.mode c.reserve_next.ensures.objects
    c.reserve_next.ensures.exclusives added c.in-Need.ensures.plan.0 in
    let claims : length new.claims.items ≡ length old.claims.items =
    ap (λ (xs : List BlockNo). length xs) (added.claims ∙ c.reserve_next.ensures.claims) in
    let few = c.a_plan_claims_few.ensures geometry old.claims.items inv.claimed in
    less_left (2 * most_asked geometry.blocks) (most_claimed geometry.blocks)
    (times_asked old.objects.items old.exclusives.items) (length old.claims.items)
    (times_asked new.objects.items new.exclusives.items) (length new.claims.items)
    (omega (arith, more, claims)) (c.a_plan_asks_for_few.ensures.times geometry new.objects.items new.exclusives.items
    (read_more geometry old reserved_snap new c.in-Need.addr c.in-Need.mode
    (c.reserve_next.ensures.geometry ∙ inv.geometry) c.reserve_next.ensures.objects added inv.read
    c.in-Need.ensures.plan.1))
    (omega (arith, claims, few))

pub asks-preserved-in-Continue-branch-2 : goal.asks-preserved-in-Continue-branch-2
asks-preserved-in-Continue-branch-2 g c =
    let geometry : Geometry = c.args.geometry in
    let first : Device = g.D.CrashDisk.device c.args.disk.now in
    let mid : Device = g.D.CrashDisk.device c.asks.disk in
    let later : Device = g.D.CrashDisk.device c.read_object.new.disk in
    let inv = c.asks.invariant in
    let read = c.in_ok-read_object-in-Need.ensures in
    record {
      reads = reads_then first mid later inv.reads c.read_object.ensures.reads;
      failures = read.failure ∙ inv.failures;
      model = λ is_preserved. inv.model (c.read_object.ensures.model is_preserved);
      geometry = read.added.geometry ∙ c.reserve_next.ensures.geometry ∙ inv.geometry;
      read = read_more geometry c.asks.snap c.reserve_next.new.self c.read_object.new.snap c.in-Need.addr c.in-Need.mode
          (c.reserve_next.ensures.geometry ∙ inv.geometry) c.reserve_next.ensures.objects read.added inv.read
          c.in-Need.ensures.plan.1;
      claimed = subst (WereClaimedOnce geometry) (sym (read.added.claims ∙ c.reserve_next.ensures.claims))
          inv.claimed;
      saw = λ is_preserved clean.
          saw_then geometry.blocks first mid c.asks.snap c.reserve_next.new.self c.read_object.new.snap
          c.requires.size inv.reads c.reserve_next.ensures.objects
          (read.saw is_preserved (certain_then first mid inv.reads clean))
          (inv.saw (c.read_object.ensures.model is_preserved) clean);
    }

pub asks-smaller : goal.asks-smaller
asks-smaller g c =
    let geometry : Geometry = c.args.geometry in
    let old : Snap = c.asks.snap in
    let reserved_snap : Snap = c.reserve_next.new.self in
    let new : Snap = c.claimed.new.self in
    let inv = c.asks.invariant in
    let times : times_asked new.objects.items new.exclusives.items ≡ times_asked old.objects.items old.exclusives.items =
    λ i. times_asked ((c.claimed.ensures.objects ∙ c.reserve_next.ensures.objects) i)
    ((c.claimed.ensures.exclusives ∙ c.reserve_next.ensures.exclusives) i) in
    let claims : length new.claims.items ≡ length old.claims.items + 1 =
    ap (λ (xs : List BlockNo). length xs) c.claimed.ensures.claims
    ∙ length-append reserved_snap.claims.items (c.in-Claim.number ∷ [])
    ∙ ap (λ (xs : List BlockNo). length xs + 1) c.reserve_next.ensures.claims in
    let were : WereClaimedOnce geometry new.claims.items =
    subst (WereClaimedOnce geometry) (sym c.claimed.ensures.claims)
    (c.what_is_claimed_was_asked_for.ensures.once geometry reserved_snap.claims.items c.in-Claim.number
    (subst (WereClaimedOnce geometry) (sym c.reserve_next.ensures.claims) inv.claimed)
    (subst (λ (h : Geometry). Claims h c.in-Claim.number) (c.reserve_next.ensures.geometry ∙ inv.geometry)
    c.in-Claim.ensures.plan.1) c.in-Claim.ensures.plan.0) in
    let few = c.a_plan_asks_for_few.ensures.times geometry old.objects.items old.exclusives.items inv.read in
    less_left (2 * most_asked geometry.blocks) (most_claimed geometry.blocks)
    (times_asked old.objects.items old.exclusives.items) (length old.claims.items)
    (times_asked new.objects.items new.exclusives.items) (length new.claims.items)
    (omega (arith, times, claims)) (omega (arith, times, few))
    (c.a_plan_claims_few.ensures geometry new.claims.items were)

pub returns-in-Done-clause-home : goal.returns-in-Done-clause-home
returns-in-Done-clause-home g c =
    let geometry : Geometry = c.args.geometry in
    let inv = c.asks.invariant in
    subst (λ n. All (λ (object : ObjectBytes). IsHomeOn n object.addr.block) c.in-Done.done.written)
    c.requires.size
    (written_home geometry (λ addr asks. c.objects_lie_at_home.ensures geometry addr asks) c.reserve_next.new.self
    c.in-Done.done (subst (WereAskedOnce geometry) (sym c.reserve_next.ensures.objects) inv.read)
    (subst (WereClaimedOnce geometry) (sym c.reserve_next.ensures.claims) inv.claimed) c.in-Done.ensures.plan.0)

pub returns-in-Done-clause-leads : goal.returns-in-Done-clause-leads
returns-in-Done-clause-leads g c = λ is_preserved clean tree stands.
    let geometry : Geometry = c.args.geometry in
    let inv = c.asks.invariant in
    let blocks : Image = homes_of geometry.blocks (image_of (g.D.CrashDisk.device c.args.disk.now)) in
    let leads = subst (λ (h : Geometry). IsStepOf h c.args.ctx.now c.args.call.now c.in-Done.done)
    (c.reserve_next.ensures.geometry ∙ inv.geometry) c.in-Done.ensures.step in
    leads blocks tree c.requires.sound stands
    (subst (AreAsRead blocks) (sym (c.in-Done.ensures.plan.0.named.read ∙ c.reserve_next.ensures.objects))
    (inv.saw is_preserved clean))

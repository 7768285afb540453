use Rattle.std.proofs.Common.{◌≡◌, rules, refl, Some, arith, [], ◌∷◌}
use Rattle.store_promise.specs.Running.{home_next}
use Rattle.store_promise.proofs.Later.{past_one}
use Rattle.circ.specs.Log.Calls.{idle, out}
use Rattle.circ.specs.Log.Log.{settled_place}
use Rattle.store_images.proofs.CallsMade.{spends_none, spends_one}
use Rattle.store_images.proofs.OneCall.{answered, at_rest_is, made_one}
use Rattle.store_images.proofs.SettlingCalls.{settles_none, settles_one}
use Rattle.store_images.proofs.Staying.{none_left, same_open as same_stays}
use Rattle.store_images.proofs.StillOpen.{open_by}
use Rattle.store_images.specs.LogCallState.{MayMake, MayStep, gives_back, pending_of, store_state_with}
use Rattle.store_images.proofs.opened.call_one.Goals as goal

pub returns : goal.returns
returns g c =
    let one = c.make_one.ensures.one (search rules) in
    let side = c.args.side in
    let old = c.args.store.now.core in
    let new = c.make_one.new.core in
    let d = g.D.CrashDisk.device c.args.store.now.disk in
    let e = g.D.CrashDisk.device c.make_one.new.disk in
    let size : d.size ≡ old.log.blocks = search rules in
    let made = made_one _ old new d e c.lawful.ensures.log side one size c.requires in
    let answer = answered _ old new d e side one size in
    let law = c.the_calls_of_a_role_are_steps.ensures in
    record {
      out = made.is_preserved.out;
      boot = search rules;
      «open» = open_by (MayStep side) (MayMake side) (MayStep side) d e old new
          (store_state_with side d old idle idle) (store_state_with side d one.mid (out one.io) idle)
          (store_state_with side e one.mid (pending_of (Some one.io) (Some one.ok)) idle) (store_state_with side e new idle idle)
          (at_rest_is side d old) (at_rest_is side e new) _ _ _
          (law.taken side d old one.mid one.io idle c.lawful.ensures.log one.goes one.lawful.log one.lawful.well_formed)
          (law.made side d e one.mid one.io one.ok idle one.lawful.log answer)
          (law.given side e one.mid new one.io one.ok idle one.lawful.log one.back c.lawful-2.ensures.log
          c.lawful-2.ensures.well_formed)
          made.further made.called;
      counts = made.frame;
      numbers = made.numbers;
      fetches = made.is_preserved.fetches;
      may = search rules;
      called = λ _. made.called;
      none = search rules;
      few = spends_one old.log new.log d e made.called made.later.clock;
      stays = λ base boot first last entries since.
          let home = home_next base one.mid.log (Some (gives_back side one.ok)) in
          let given = c.a_call_of_a_role_leaves_the_store_open.ensures side base d e old one.mid new one.io one.ok
          boot first last entries since one.goes one.lawful.log one.lawful.well_formed answer one.back c.lawful-2.ensures.log
          c.lawful-2.ensures.well_formed in
          record {
            past = past_one d e made.later;
            left = c.an_open_store_preserves_its_files.ensures.call d d e base old idle idle boot (settled_place old.log)
                first last entries (none_left d boot first entries (settled_place old.log)) since (omega arith)
                made.later;
            further = made.further.settled;
            calls = record { device = e; core = new } ∷ [];
            by_calls = (
              record {
                call = made.later;
                further = made.further.settled;
                so = record {
                  base = home;
                  since = given;
                  stops = λ image crash. c.a_stop_leaves_a_beginning.ensures.files home e new idle idle boot first last
                      entries image given crash;
                };
              },
              (refl, refl),
            );
            base = home;
            since = given;
          };
      model = search rules;
      spends = λ turn. settles_one old.log new.log d e (made.nears turn) made.later.clock;
    }

pub returns-then-not-make_one-clause-few : goal.returns-then-not-make_one-clause-few
returns-then-not-make_one-clause-few g c =
    let none = c.make_one.ensures.none (search rules) in
    spends_none c.args.store.now.core c.make_one.new.core (g.D.CrashDisk.device c.args.store.now.disk)
    (g.D.CrashDisk.device c.make_one.new.disk) none.0 none.1

pub returns-then-not-make_one-clause-stays : goal.returns-then-not-make_one-clause-stays
returns-then-not-make_one-clause-stays g c =
    let none = c.make_one.ensures.none (search rules) in
    same_stays (g.D.CrashDisk.device c.args.store.now.disk) (g.D.CrashDisk.device c.make_one.new.disk)
    c.args.store.now.core c.make_one.new.core none.0 none.1

pub returns-then-not-make_one-clause-spends : goal.returns-then-not-make_one-clause-spends
returns-then-not-make_one-clause-spends g c = λ _.
    let none = c.make_one.ensures.none (search rules) in
    settles_none c.args.store.now.core c.make_one.new.core (g.D.CrashDisk.device c.args.store.now.disk)
    (g.D.CrashDisk.device c.make_one.new.disk) none.0 none.1

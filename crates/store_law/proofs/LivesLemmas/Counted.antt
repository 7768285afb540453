-- A life of runs on devices is one of boot numbers, trees and entries.
use Rattle.std.proofs.Common.{◌≡◌, ◌⊎◌, ◌∙◌, ap, sym, subst, refl, ℕ, zero, suc, ◌+◌, ◌-◌, ◌<◌, ◌≤◌, arith}
use Rattle.std.proofs.Common.{List, [], ◌∷◌, length, take, slice_get, Some, Result, Ok, Err}
use Rattle.std.proofs.lemmas.Option.{slice_get-map}
use Rattle.std.specs.Option.{option_map}
use Rattle.disk.specs.Crash.{Image, IsAtRest, IsCrashImage}
use Rattle.disk.specs.Device.{Device}
use Rattle.nfs_spec.specs.Model.Entry.{Entry}
use Rattle.nfs_spec.specs.Model.Sound.{IsMadeBy}
use Rattle.nfs_spec.specs.Model.Tree.{Tree}
use Rattle.nfs_spec.specs.Procedures.After.{after}
use Rattle.nfs_spec.specs.Procedures.Histories.{IsOfOneBoot}
use Rattle.nfs_spec.specs.Lives.Lives as lives
use Rattle.nfs_spec.specs.Lives.Lives.{Birth, CountedRun, HasTree, IsCounted, Leaves}
use Rattle.store_promise.proofs.OneBoot.{of_one_boot}
use Rattle.store_promise.specs.declared.fault.OpenFault.{OpenFault}
use Rattle.store_promise.specs.GoodImage.{IsGoodImage}
use Rattle.store_promise.specs.Headline.{ComesOfRun, MayRun}
use Rattle.store_promise.specs.Schedule.{Schedule, SoundEvents}
use Rattle.store_promise.specs.Transcript.{Report, Transcript, commits_by, device_calls, entries_of}
use Rattle.store_law.proofs.LivesLemmas.Below.{good_below}
use Rattle.store_law.proofs.LivesLemmas.Counts.{beginning, begun, counted_length, taken_twice}
use Rattle.store_law.proofs.LivesLemmas.OneImage.{good_once, one_boot, one_content, still_left}
use Rattle.store_law.specs.Lives.Life.{EndedRun, HasTreeOf, IsLife, LeavesImage, WasRun, committed_by, counted}
use Rattle.store_law.specs.Lives.Life.{counted_runs}

-- ---- places

pub there_of : (life : List EndedRun) (at : ℕ) (r : CountedRun) → slice_get (counted_runs life) at ≡ Some r
    → (run : EndedRun) × (slice_get life at ≡ Some run) × (counted run ≡ r)
there_of [] at r is = cc
there_of (run ∷ life) zero r is = let same : counted run ≡ r = cc in (run, refl, same)
there_of (run ∷ life) (suc at) r is = there_of life at r is

pub counted_there : (life : List EndedRun) (at : ℕ) (run : EndedRun) → slice_get life at ≡ Some run
    → slice_get (counted_runs life) at ≡ Some (counted run)
counted_there life at run is = slice_get-map counted life at ∙ ap (option_map counted) is

-- ---- what a run found

-- there is an image that it found
found_of : (before later : Device) (tree : Tree) (boot workers : ℕ) (events : Schedule)
    (answer : Result Report OpenFault) → ComesOfRun before later tree boot workers events answer
    → (image : Image) × IsCrashImage before before.clock image
found_of before later tree boot workers events (Ok report) came =
    let preserves = came.preserves in
    let first = preserves.opens.is.past.clock in
    let second = preserves.opens.past.clock in
    let left = preserves.stops.some before.clock (omega arith) (omega (arith, first, second)) in (
      left.0,
      still_left before preserves.opened preserves.opens.is.past before.clock (omega arith) left.0
          (still_left preserves.opened later preserves.opens.past before.clock first left.0 left.1),
    )
found_of before later tree boot workers events (Err cause) came =
    let clock = came.past.clock in
    let left = came.left before.clock (omega arith) clock in
    (left.0, still_left before later came.past before.clock (omega arith) left.0 left.1)

made_by : (run : EndedRun) → WasRun run → IsMadeBy run.boot run.tree
made_by run was =
    let found = found_of run.before run.later run.tree run.boot run.workers run.events run.answer was.came in
    (was.stood.good found.0 found.1).stamps

own_of : (before later : Device) (tree : Tree) (boot workers crash : ℕ) (events : Schedule)
    (answer : Result Report OpenFault) → ComesOfRun before later tree boot workers events answer
    → IsOfOneBoot (boot + 1) (committed_by later.clock crash answer)
own_of before later tree boot workers crash events (Ok report) came =
    beginning (boot + 1) _ (entries_of report.run_transcript)
    (of_one_boot events report.run_transcript (boot + 1) came.preserves.replies.boot came.preserves.replies.history)
own_of before later tree boot workers crash events (Err cause) came = record {
  boots = tt;
  numbers = λ one other a b is so same. cc;
}

-- ---- what its crash left

-- the boot number of an image that a crash left, with the tree that it has
record HasLeft (tree : Tree) (boot : ℕ) (entries : List Entry) (left : Tree) (now : ℕ) : Type 0 where
  pub boot_is : (now ≡ boot) ⊎ (now ≡ boot + 1)
  pub boot_incremented : 0 < length entries → now ≡ boot + 1
  pub kept : ℕ
  pub few : kept ≤ length entries
  pub prefix : after tree (take kept entries) left

record LeftGood (size : ℕ) (image : Image) (tree : Tree) (boot : ℕ) (entries : List Entry) : Type 0 where
  pub left : Tree
  pub now : ℕ
  pub good : IsGoodImage size image left now
  pub has : HasLeft tree boot entries left now

left_of : (before later : Device) (tree : Tree) (boot workers crash : ℕ) (events : Schedule)
    (answer : Result Report OpenFault) (image : Image) → ComesOfRun before later tree boot workers events answer
    → before.clock ≤ crash → crash ≤ later.clock → IsCrashImage later crash image
    → LeftGood later.size image tree boot (committed_by later.clock crash answer)
left_of before later tree boot workers crash events (Ok report) image came from to there =
    let preserves = came.preserves in
    let stop = preserves.stops.each crash image from to there in
    let p = stop.prefix in
    let t = report.run_transcript in
    let start = preserves.opened.clock in
    let calls = preserves.calls.clock in
    let began : later.clock - device_calls t (length t.steps) ≡ start = omega (arith, calls) in
    by t start _ (sym began) p.boot p.left p.count p.good p.boot_is.either p.boot_is.boot_incremented p.few p.prefix
  where
    by : (t : Transcript) (start begins : ℕ) → start ≡ begins → (now : ℕ) (left : Tree) (count : ℕ)
        → IsGoodImage later.size image left now → (now ≡ boot) ⊎ (now ≡ boot + 1)
        → (start ≤ crash → now ≡ boot + 1) → count ≤ commits_by start t crash
        → after tree (take count (entries_of t)) left
        → LeftGood later.size image tree boot (take (commits_by begins t crash) (entries_of t))
    by t start begins same now left count good either boot_incremented few prefix =
        let most : commits_by start t crash ≡ commits_by begins t crash = ap (λ n. commits_by n t crash) same in
        let long = counted_length t begins crash in
        let within : count ≤ commits_by begins t crash = omega (arith, few, most) in
        record {
          left = left;
          now = now;
          good = good;
          has = record {
            boot_is = either;
            boot_incremented = λ some.
                let committed : 0 < commits_by begins t crash = omega (arith, some, long) in
                let by_then = begun t begins crash committed in
                boot_incremented (omega (arith, by_then, same));
            kept = count;
            few = omega (arith, within, long);
            prefix = subst (λ es. after tree es left)
                (sym (taken_twice (entries_of t) count (commits_by begins t crash) within)) prefix;
          };
        }
left_of before later tree boot workers crash events (Err cause) image came from to there =
    let kept = came.preserves crash image from to there in record {
      left = tree;
      now = kept.boot;
      good = kept.good;
      has = record {
        boot_is = kept.boot_is;
        boot_incremented = λ some. absurd (omega (arith, some));
        kept = 0;
        few = omega arith;
        prefix = refl;
      };
    }

leaves : (run next : EndedRun) → WasRun run → WasRun next → LeavesImage run.later run.crash next.before
    → Leaves (counted run) (counted next)
leaves run next was was_next l =
    let left = left_of run.before run.later run.tree run.boot run.workers run.crash run.events run.answer l.image
    was.came was.begun was.ended l.left in
    let found : IsGoodImage run.later.size l.image next.tree next.boot =
    subst (λ n. IsGoodImage n l.image next.tree next.boot) l.size (was_next.stood.good l.image l.found) in
    let trees : left.left ≡ next.tree = good_once run.later.size left.now next.boot l.image left.left next.tree
    left.good found in
    let boots : left.now ≡ next.boot = one_boot run.later.size run.later.size left.now next.boot l.image l.image
    left.left next.tree left.good found refl in
    moved left.left next.tree left.now next.boot trees boots left.has
  where
    moved : (one other : Tree) (now later : ℕ) → one ≡ other → now ≡ later
        → HasLeft run.tree run.boot (counted run).entries one now
        → Leaves (counted run) (record { boot = later; tree = other; entries = (counted next).entries })
    moved one other now later trees boots has = record {
      boot = subst (λ n. (n ≡ run.boot) ⊎ (n ≡ run.boot + 1)) boots has.boot_is;
      boot_incremented = λ some. sym boots ∙ has.boot_incremented some;
      kept = has.kept;
      few = has.few;
      prefix = subst (after run.tree (take has.kept (counted run).entries)) trees has.prefix;
    }

pub life_counts : (life : List EndedRun) → IsLife life → lives.IsLife (counted_runs life)
life_counts life is = record {
  each = λ at r there.
      let run = there_of life at r there in
      let was = is.each at run.0 run.1 in
      subst IsCounted run.2 (record {
        made = made_by run.0 was;
        own = own_of run.0.before run.0.later run.0.tree run.0.boot run.0.workers run.0.crash run.0.events
            run.0.answer was.came;
      });
  left = λ at r s there there_too.
      let run = there_of life at r there in
      let next = there_of life (suc at) s there_too in
      subst (λ x. Leaves x s) run.2
      (subst (λ x. Leaves (counted run.0) x) next.2
      (leaves run.0 next.0 (is.each at run.0 run.1) (is.each (suc at) next.0 next.1)
      (is.left at run.0 next.0 run.1 next.1)));
}

-- the tree of what a crash of a run left, behind so many of its entries
pub left_known : (life : List EndedRun) (at : ℕ) (run : EndedRun) (image : Image) → IsLife life
    → slice_get life at ≡ Some run → IsCrashImage run.later run.crash image
    → ((place : ℕ) (tree : Tree) → place ≤ length (counted run).entries
    → after run.tree (take place (counted run).entries) tree
    → (births : ℕ → Birth) × HasTree (counted_runs life) at place tree births)
    → HasTreeOf life at run.later.size image
left_known life at run image is there left known =
    let was = is.each at run there in
    let x = left_of run.before run.later run.tree run.boot run.workers run.crash run.events run.answer image was.came
    was.begun was.ended left in
    let births = known x.has.kept x.left x.has.few x.has.prefix in
    record {
      tree = x.left;
      boot = x.now;
      good = x.good;
      place = x.has.kept;
      births = births.0;
      has = births.1;
    }

-- ---- what may come next

pub goes_on : (run : EndedRun) (next : Device) (events : Schedule) → WasRun run → IsAtRest next
    → LeavesImage run.later run.crash next → SoundEvents events
    → (tree : Tree) × (boot : ℕ) × MayRun (Unit {0}) next tree boot events
goes_on run next events was rest l sound =
    let x = left_of run.before run.later run.tree run.boot run.workers run.crash run.events run.answer l.image
    was.came was.begun was.ended l.left in
    let good : IsGoodImage next.size l.image x.left x.now =
    subst (λ n. IsGoodImage n l.image x.left x.now) (sym l.size) x.good in (
      x.left,
      x.now,
      record {
        model = tt;
        rest = rest;
        good = λ image held. good_below next.size x.now l.image image x.left good
            (one_content next rest image l.image held l.found);
        sound = sound;
      },
    )

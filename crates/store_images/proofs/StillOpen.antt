-- An open store stays open with each device call of the log and of the installer, and with more of them.
use Rattle.std.proofs.Common.{arith, ◌≡◌, ◌∙◌, subst, ap, inl, inr, Option, is_some}
use Rattle.disk.specs.Device.{Device}
use Rattle.txn_law.specs.Core.{CoreState}
use Rattle.store_promise.specs.LogState.{LogState}
use Rattle.store_promise.specs.Running.{IsLogStep, PreservesTransactions, StoreState, at_rest, home_next}
use Rattle.store_promise.specs.Schedule.{Setting}
use Rattle.store_promise.specs.declared.events.Step.{Step}
use Rattle.store_images.specs.Further.{IsFurther, LeavesOpen}
use Rattle.store_images.specs.Settling.{HasCalled}
use Rattle.store_promise.proofs.Later.{past_more, past_none}
use Rattle.store_images.proofs.LogSteps.{same_transactions}
use Rattle.store_images.proofs.Lost.{broken_along}

-- ---- what goes on

pub same_further : (core : CoreState) → IsFurther core core
same_further core = record {
  begun = omega arith;
  refused = omega arith;
  places = omega arith;
  positions = omega arith;
  settled = omega arith;
  broken = λ is. is;
}

pub further_then : (a b c : CoreState) → IsFurther a b → IsFurther b c → IsFurther a c
further_then a b c one two = record {
  begun = let x = one.begun in let y = two.begun in omega (arith, x, y);
  refused = let x = one.refused in let y = two.refused in omega (arith, x, y);
  places = let x = one.places in let y = two.places in omega (arith, x, y);
  positions = let x = one.positions in let y = two.positions in omega (arith, x, y);
  settled = let x = one.settled in let y = two.settled in omega (arith, x, y);
  broken = λ is. two.broken (one.broken is);
}

-- ---- what transactions have

pub preserved_then : (a b c : CoreState) → PreservesTransactions a b → PreservesTransactions b c → PreservesTransactions a c
preserved_then a b c one two = record {
  inodes = two.inodes ∙ one.inodes;
  begun = two.begun ∙ one.begun;
  refused = two.refused ∙ one.refused;
  out = two.out ∙ one.out;
  taken = λ tx addr. two.taken tx addr ∙ one.taken tx addr;
  fetches = λ block. two.fetches block ∙ one.fetches block;
  reads = λ tx object is. two.reads tx object (one.reads tx object is);
  loaded = λ tx addr content some there.
      two.loaded tx addr content (ap is_some (one.taken tx addr) ∙ some)
      (one.loaded tx addr content some there);
}

-- ---- an open store

pub same_open : (d : Device) (core : CoreState) → LeavesOpen d core d core
same_open d core = record {
  core = same_transactions core;
  further = same_further core;
  past = past_none d;
  failures = omega arith;
  failed = λ is. inl is;
  runs = λ o base fetches boot first last entries run. record { home = base; running = run };
}

pub open_then : (d e f : Device) (a b c : CoreState) → LeavesOpen d a e b → LeavesOpen e b f c
    → LeavesOpen d a f c
open_then d e f a b c one two = record {
  core = preserved_then a b c one.core two.core;
  further = further_then a b c one.further two.further;
  past = past_more d e f one.past two.past;
  failures = let x = one.failures in let y = two.failures in omega (arith, x, y);
  failed = λ is. broken_along a.log b.log d e f one.past two.past one.failed (two.failed is);
  runs = λ o base fetches boot first last entries run.
      let mid = one.runs o base fetches boot first last entries run in
      two.runs o mid.home fetches boot first last entries mid.running;
}

-- three steps of the log's side make a call: it is taken, made and given back
pub open_by : (May Make Give : Setting → LogState → Option Step → Type 0) (d e : Device) (old new : CoreState)
    (first out back last : StoreState) → first ≡ at_rest d old → last ≡ at_rest e new
    → (one two three : Option Step) → IsLogStep May first one out
    → IsLogStep Make out two back → IsLogStep Give back three last → IsFurther old new
    → HasCalled old.log d new.log e → LeavesOpen d old e new
open_by May Make Give d e old new first out back last first_is last_is one two three goes made comes further called =
    let taken = subst (λ (s : StoreState). IsLogStep May s one out) first_is goes in
    let given = subst (λ (s : StoreState). IsLogStep Give back three s) last_is comes in
    record {
      core = preserved_then old out.core new taken.core (preserved_then out.core back.core new made.core given.core);
      further = further;
      past = called.past;
      failures = called.counted;
      failed = λ is. inr (called.lost is);
      runs = λ o base fetches boot first last entries run.
          let a = taken.runs o base fetches boot first last entries run in
          let b = made.runs o (home_next base old.log one) fetches boot first last entries a.running in
          let c = given.runs o (home_next (home_next base old.log one) out.core.log two) fetches boot
          first last entries b.running in
          record {
            home = home_next (home_next (home_next base old.log one) out.core.log two) back.core.log three;
            running = c.running;
          };
    }

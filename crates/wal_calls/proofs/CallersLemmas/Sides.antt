-- What a side's calls leave, put together; and one call, from its taking to its giving back.
use Rattle.std.proofs.Common.{◌≡◌, ℕ, List, Bool, true, false, if◌then◌else◌, Option, Some, None, is_some, ap, refl}
use Rattle.std.proofs.Common.{◌∙◌, IsNone, IsSome, IfSome, MatchOption, subst, sym}
use Rattle.disk.specs.Crash.{Image}
use Rattle.disk.specs.Device.{Device}
use Rattle.disk.specs.declared.block.Side.{Side}
use Rattle.disk.specs.declared.block.Side.TheVariants.{Log as LogSide, Home}
use Rattle.objects.specs.Object.{ObjectBytes}
use Rattle.txn.proofs.Sides.{call_blocks, call_inodes}
use Rattle.txn.specs.Sides.{CoreBack, LeavesBack, base_back, with_call}
use Rattle.txn_law.specs.Core.{CoreState}
use Rattle.txn_law.specs.CoreLaw.{IsLawfulCore}
use Rattle.txn_law.specs.CoreWindow.{IsHomeOf, PreservesHome, PreservesReads}
use Rattle.wal.specs.Sides.{IsNextCall, call_comes_back, call_goes_out, call_is_made, is_out, may_call, with_back}
use Rattle.circ.specs.Log.Io.{Io, IsCallWithin}
use Rattle.wal_calls.specs.declared.callers.stepped.Stepped.{Stepped}
use Rattle.wal_calls.specs.declared.callers.stepped.Stepped.TheVariants.{Next, Done}
use Rattle.wal_calls.specs.Callers.Making.{IsTried}
use Rattle.wal_calls.specs.Callers.OneCall.{MakesOne}
use Rattle.wal_calls.specs.Callers.Steps.{HasEnded, HasStepped, comes_back, goes_out}

-- ---- the next call

pub next_is : (side : Side) (o : Option Io) (old new : CoreState) → is_some o ≡ may_call side old.log
    → (IsSome o → new ≡ with_call side old) → (IsNone o → new ≡ old)
    → IfSome o (λ io. IsCallWithin new.log.blocks io.call) → IfSome o (IsNextCall side new.log)
    → IfSome o (λ io. call_goes_out side old.log io new.log) → ((other : ℕ) → PreservesReads old new other)
    → PreservesHome old new
    → MatchOption o ((new ≡ old) × (may_call side old.log ≡ false)) (λ io. goes_out side old io new)
next_is side None old new causes some none within call law stays preserves = (none refl, sym causes)
next_is LogSide (Some io) old new causes some none within call law stays preserves =
    let same : new.log.blocks ≡ old.log.blocks = ap (λ (core : CoreState). core.log.blocks) (some refl) in
    record {
      may = sym causes;
      core = some refl;
      blocks = same;
      within = subst (λ (n : ℕ). IsCallWithin n io.call) same within;
      next = call;
      law = law;
      reads = stays;
      home = preserves;
    }
next_is Home (Some io) old new causes some none within call law stays preserves =
    let same : new.log.blocks ≡ old.log.blocks =
    ap (λ (core : CoreState). core.log.blocks) (some refl) ∙ call_blocks Home old in
    record {
      may = sym causes;
      core = some refl;
      blocks = same;
      within = subst (λ (n : ℕ). IsCallWithin n io.call) same within;
      next = call;
      law = law;
      reads = stays;
      home = preserves;
    }

pub next_blocks : (side : Side) (o : Option Io) (old new : CoreState) → (IsSome o → new ≡ with_call side old)
    → (IsNone o → new ≡ old) → new.log.blocks ≡ old.log.blocks
next_blocks side None old new some none = ap (λ (core : CoreState). core.log.blocks) (none refl)
next_blocks side (Some io) old new some none =
    ap (λ (core : CoreState). core.log.blocks) (some refl) ∙ call_blocks side old

pub next_inodes : (side : Side) (o : Option Io) (old new : CoreState) → (IsSome o → new ≡ with_call side old)
    → (IsNone o → new ≡ old) → new.inodes ≡ old.inodes
next_inodes side None old new some none = ap (λ (core : CoreState). core.inodes) (none refl)
next_inodes side (Some io) old new some none =
    ap (λ (core : CoreState). core.inodes) (some refl) ∙ call_inodes side old

-- ---- what is given back

pub comes_back_is : (side : Side) (old new : CoreState) (io : Io) (ok : Bool)
    → new.log ≡ (if is_out side old.log io then with_back side old.log ok else old.log)
    → new.log.blocks ≡ old.log.blocks → CoreBack side old new → LeavesBack side old new
    → call_comes_back side old.log io ok new.log → ((other : ℕ) → PreservesReads old new other)
    → ((base : Image) → IsHomeOf base old → IsHomeOf (base_back side base old.log io ok) new)
    → comes_back side old io ok new
comes_back_is LogSide old new io ok log blocks core leaves law reads home =
    record { log = log; blocks = blocks; core = core; law = law; reads = reads; home = home }
comes_back_is Home old new io ok log blocks core leaves law reads home =
    record { log = log; blocks = blocks; core = core; leaves = leaves; law = law; reads = reads; home = home }

-- What nobody changes as a call comes back.
pub record StaysBack (old new : CoreState) : Type 0 where
  pub inodes : new.inodes ≡ old.inodes
  pub log_calls : new.log_calls ≡ old.log_calls
  pub inst_calls : new.inst_calls ≡ old.inst_calls
  pub boot : new.boot ≡ old.boot

pub stays_back : (side : Side) (old new : CoreState) → CoreBack side old new → StaysBack old new
stays_back LogSide old new back = record {
  inodes = ap (λ (core : CoreState). core.inodes) back;
  log_calls = ap (λ (core : CoreState). core.log_calls) back;
  inst_calls = ap (λ (core : CoreState). core.inst_calls) back;
  boot = ap (λ (core : CoreState). core.boot) back;
}
stays_back Home old new back = record {
  inodes = ap (λ (core : CoreState). core.inodes) back;
  log_calls = ap (λ (core : CoreState). core.log_calls) back;
  inst_calls = ap (λ (core : CoreState). core.inst_calls) back;
  boot = ap (λ (core : CoreState). core.boot) back;
}

-- ---- one call

goes_may : (side : Side) (old : CoreState) (io : Io) (new : CoreState) → goes_out side old io new
    → may_call side old.log ≡ true
goes_may LogSide old io new goes = goes.may
goes_may Home old io new goes = goes.may

pub stepped_may : (side : Side) (old new : CoreState) (made : Option Bool) (step_result : Option Stepped)
    (next : Option Io) (later : Option Bool)
    → HasStepped (may_call side) (goes_out side) (comes_back side) old None made step_result new next later
    → is_some step_result ≡ may_call side old.log
stepped_may side old new made (Some (Next call)) (Some io) later is = sym (goes_may side old io new is.0)
stepped_may side old new made (Some (Next call)) None later is = absurd is
stepped_may side old new made (Some (Done ok)) next later is = absurd is
stepped_may side old new made None next later is = sym is.3

-- what was taken is made and given back
module _ (side : Side) (is_plan : ℕ → ℕ → List ObjectBytes → List ObjectBytes → Type 0)
    (old mid new last : CoreState) (d e : Device) where
  back_is : (io : Io) (ok : Bool) (step_result : Option Stepped) (next : Option Io) (later : Option Bool)
      → HasStepped (may_call side) (goes_out side) (comes_back side) mid (Some io) (Some ok) step_result new next later
      → HasEnded (comes_back side) new next later last → comes_back side mid io ok last
  back_is io ok (Some (Done step_result)) next later is ended =
      let none = subst (λ (out : Option Io). HasEnded (comes_back side) new out later last) is.2 ended in
      subst (λ (core : CoreState). comes_back side mid io ok core) (sym none) is.0
  back_is io ok (Some (Next call)) next later is ended = absurd is
  back_is io ok None next later is ended = absurd is

  pub makes_one : (made : Option Bool) (step_result again : Option Stepped) (out next : Option Io)
      (unmade later after : Option Bool) (answer : Option Bool)
      → HasStepped (may_call side) (goes_out side) (comes_back side) old None made step_result mid out unmade
      → is_some step_result ≡ true → IsLawfulCore is_plan mid
      → IsTried (call_is_made side) d out unmade answer e later
      → HasStepped (may_call side) (goes_out side) (comes_back side) mid out later again new next after
      → HasEnded (comes_back side) new next after last
      → MakesOne (goes_out side) (call_is_made side) (comes_back side) is_plan old d last e
  makes_one made (Some (Next call)) again (Some io) next unmade later after answer is some lawful tried back ended =
      by_answer answer (subst (λ (m : Option Bool). IsTried (call_is_made side) d (Some io) m answer e later) is.2
      tried)
    where
      by_answer : (answer : Option Bool) → IsTried (call_is_made side) d (Some io) None answer e later
          → MakesOne (goes_out side) (call_is_made side) (comes_back side) is_plan old d last e
      by_answer (Some ok) tried = record {
        mid = mid;
        io = io;
        ok = ok;
        goes = is.0;
        lawful = lawful;
        made = tried.0;
        back = back_is io ok again next after (subst (λ (m : Option Bool). HasStepped (may_call side)
            (goes_out side) (comes_back side) mid (Some io) m again new next after) tried.1 back) ended;
      }
      by_answer None tried = absurd tried
  makes_one made (Some (Next call)) again None next unmade later after answer is some lawful tried back ended =
      absurd is
  makes_one made (Some (Done ok)) again out next unmade later after answer is some lawful tried back ended =
      absurd is
  makes_one made None again out next unmade later after answer is some lawful tried back ended =
      absurd (let no : false ≡ true = some in cc)

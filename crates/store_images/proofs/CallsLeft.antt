-- Each device call of the log and of the installer leaves fewer to make.
use Rattle.std.proofs.Common.{arith, ◌≡◌, ◌∙◌, refl, sym, ap, subst, true≢false, Result, Ok, Err, is_ok, ℕ}
use Rattle.std.proofs.Common.{is_err, ◌+◌, ◌-◌, ◌*◌, ◌<◌, ◌≤◌, Bool, true, false, not}
use Rattle.std.proofs.Common.{◌&&◌, ◌||◌, nat_eq, nat_lt, nat_le, if◌then◌else◌, length, drop, List, [], ◌∷◌}
use Rattle.std.proofs.Common.{zero, suc}
use Rattle.std.proofs.lemmas.Bool.Decides.{nat_tests}
use Rattle.std.proofs.lemmas.List.{length-drop}
use Rattle.base.specs.declared.TheConstants.{LOG_SLOTS}
use Rattle.disk.specs.Device.{CountsFailure, Device, OneLater}
use Rattle.disk.specs.declared.device.Failed.{Failed}
use Rattle.wal.specs.Io.{HasMade, Io}
use Rattle.circ.specs.Log.Log.{Log, IsLawful, place_before, settled_place}
use Rattle.circ.specs.declared.log.change.LogChange.{LogChange}
use Rattle.txn_law.specs.Core.{CoreState}
use Rattle.txn_law.specs.CoreLaw.{IsLawfulCore}
use Rattle.txn_law.specs.Object.{ObjectBytes}
use Rattle.circ.specs.Log.Logger.{IsNextLogCall, group_size, has_group, is_log_out, may_log, with_log_back}
use Rattle.circ.specs.Log.Logger.{with_log_made, with_log_out}
use Rattle.circ.specs.Log.Installer.{IsNextInstCall, is_inst_out, may_install, next_home}
use Rattle.circ.specs.Log.Installer.{with_inst_back, with_inst_made, with_inst_out, with_installed}
use Rattle.store_promise.proofs.Later.{past_one}
use Rattle.store_images.proofs.Lost.{lost_now}
use Rattle.wal_calls.proofs.CallersLemmas.Made.{made_later, made_lost}
use Rattle.store_images.proofs.OutCalls.{inst_is_out, inst_out_sound, its_is_out}
use Rattle.store_images.specs.Settling.{HasCalled, group_left, calls_left}

-- the logger takes the tail, where it has no group
taken_left : (all logged taken made : ℕ) (fits : Bool) → logged + taken ≤ all → (taken ≡ 0 → made ≡ 0)
    → (nat_lt 0 taken || (nat_lt logged all && fits)) ≡ true
    → (size : ℕ) → size ≡ (if nat_lt 0 taken then taken else all - logged)
    → group_left size made + 4 * (all - (logged + size)) ≤ group_left taken made + 4 * (all - (logged + taken))
taken_left all logged taken made fits within none has size is = grind (arith, nat_tests)

size_is_some : (all logged taken : ℕ) (fits : Bool) → (nat_lt 0 taken || (nat_lt logged all && fits)) ≡ true
    → 0 < (if nat_lt 0 taken then taken else all - logged)
size_is_some all logged taken fits has = grind (arith, nat_tests)

-- the installer takes what is logged, where it has nothing
home_left : (all logged made next : ℕ) → logged ≤ all → 0 < logged
    → group_left logged next + 4 * (all - logged) ≤ group_left 0 made + 4 * (all - 0)
home_left all logged made next within some = grind (arith, nat_tests)

-- a call of a group was made, and it wasn't the last
pub made_left : (blocks made next : ℕ) → 0 < blocks → made < next → made ≤ blocks + 2
    → group_left blocks next < group_left blocks made
made_left blocks made next some later within = grind (arith, nat_tests)

-- the last call of a group was made
pub last_left : (blocks made : ℕ) → 0 < blocks → made ≡ blocks + 2 → group_left blocks made ≡ 1
last_left blocks made some last = grind (arith, nat_tests)

-- ---- the logger

log_made_as : (out : Log) → 0 < out.taken → out.log_step ≤ out.taken + 2 → (is_last : Bool)
    → nat_eq out.log_step (out.taken + 2) ≡ is_last
    → calls_left (if is_last
    then record out { logged = out.logged + out.taken; taken = 0; log_step = 0; log_out = false }
    else record out { log_step = out.log_step + 1; log_out = false }) < calls_left out
log_made_as out some within true is =
    let one = last_left out.taken out.log_step some (grind (arith, nat_tests)) in
    grind (arith, nat_tests)
log_made_as out some within false is =
    let less = made_left out.taken out.log_step (out.log_step + 1) some (grind (arith)) within in
    grind (arith)

log_made_sound : (out : Log) (is_last : Bool)
    → (if is_last then record out { logged = out.logged + out.taken; taken = 0; log_step = 0; log_out = false }
    else record out { log_step = out.log_step + 1; log_out = false }).broken ≡ out.broken
log_made_sound out true = refl
log_made_sound out false = refl

pub log_made_nearer : (out : Log) → 0 < out.taken → out.log_step ≤ out.taken + 2
    → calls_left (with_log_made out) < calls_left out
log_made_nearer out some within = log_made_as out some within (nat_eq out.log_step (out.taken + 2)) refl

pub log_out_left : (log : Log) → IsLawful log → has_group log ≡ true
    → (calls_left (with_log_out log) ≤ calls_left log) × (0 < group_size log)
log_out_left log lawful has =
    let less = taken_left (length log.changes) log.logged log.taken log.log_step
    (nat_le (length log.changes) LOG_SLOTS) lawful.taken_within (λ none. (lawful.log_idle none).0) has
    (group_size log) refl in (
      grind (arith),
      size_is_some (length log.changes) log.logged log.taken
          (nat_le (length log.changes) LOG_SLOTS) has,
    )

pub may_is : (broken some out : Bool) → (not broken && (some && not out)) ≡ true
    → (broken ≡ false) × (some ≡ true)
may_is false true out is = (refl, refl)
may_is false false out is = absurd (true≢false (sym is))
may_is true some out is = absurd (true≢false (sym is))

-- a call was given back, of which is known that it is the one that is out
pub given_back : (is_out : Bool) (made same new : Log) → is_out ≡ true → new ≡ (if is_out then made else same)
    → new ≡ made
given_back true made same new is given = given
given_back false made same new is given = absurd (true≢false (sym is))

-- what was given back, answered so
log_back : (log : Log) (before after : Device) (answer : Result Unit Failed) → IsLawful log
    → may_log log ≡ true → IsLawful (with_log_out log) → CountsFailure before after answer
    → OneLater before after → after.lost before.clock ≡ is_err answer
    → HasCalled log before (with_log_back (with_log_out log) (is_ok answer)) after
log_back log before after (Ok u) lawful may out_lawful same later lost =
    let is = may_is log.broken (has_group log) log.log_out may in
    let left = log_out_left log lawful is.1 in
    let nearer = log_made_nearer (with_log_out log) left.1 out_lawful.log_step in
    record {
      sound = is.0;
      nearer = λ sound. grind (arith);
      past = past_one before after later;
      failed = λ broken. absurd (true≢false (sym broken
          ∙ log_made_sound (with_log_out log) (nat_eq log.log_step (group_size log + 2)) ∙ is.0));
      lost = λ broken. absurd (true≢false (sym broken
          ∙ log_made_sound (with_log_out log) (nat_eq log.log_step (group_size log + 2)) ∙ is.0));
      counted = grind (arith);
    }
log_back log before after (Err e) lawful may out_lawful more later lost =
    let is = may_is log.broken (has_group log) log.log_out may in
    record {
      sound = is.0;
      nearer = λ sound. absurd (true≢false sound);
      past = past_one before after later;
      failed = λ broken. grind (arith);
      lost = λ broken. lost_now before after e later more lost;
      counted = grind (arith);
    }

-- so it is once the logger's call was handed out, made and given back
pub log_called : (log out new : Log) (before after : Device) (io : Io) (answer : Result Unit Failed) (ok : Bool)
    → IsLawful log → true ≡ may_log log → out ≡ with_log_out log → IsLawful out → IsNextLogCall out io
    → ok ≡ is_ok answer → new ≡ (if is_log_out out io then with_log_back out ok else out)
    → CountsFailure before after answer → HasMade before io answer after → HasCalled log before new after
log_called log out new before after io answer ok lawful may out_is out_lawful next ok_is given counted called =
    let is_out = its_is_out out io (ap (λ (l : Log). l.log_out) out_is) next in
    let made = given_back (is_log_out out io) (with_log_back out ok) out new is_out given in
    let back = log_back log before after answer lawful (sym may) (subst IsLawful out_is out_lawful) counted
    (made_later before io answer after called) (made_lost before io answer after called) in
    subst (λ l. HasCalled log before l after)
    (sym (made ∙ ap (λ a. with_log_back out a) ok_is ∙ ap (λ l. with_log_back l (is_ok answer)) out_is)) back

-- ---- the installer

inst_out_as : (log : Log) → IsLawful log → (has : Bool) → nat_lt 0 log.installing ≡ has
    → (nat_lt 0 log.installing || nat_lt 0 log.logged) ≡ true
    → (calls_left (if has then record log { inst_out = true } else record log {
      installing = log.logged;
      inst_step = next_home log.changes log.logged 0;
      inst_out = true;
    }) ≤ calls_left log)
    × (0 < (if has then record log { inst_out = true } else record log {
      installing = log.logged;
      inst_step = next_home log.changes log.logged 0;
      inst_out = true;
    }).installing)
inst_out_as log lawful true has some = (grind (arith, nat_tests), grind (arith, nat_tests))
inst_out_as log lawful false has some =
    let none : log.installing ≡ 0 = grind (arith, nat_tests) in
    let logged : 0 < log.logged = grind (arith, nat_tests) in
    let less = home_left (length log.changes) log.logged log.inst_step (next_home log.changes log.logged 0)
    (grind (arith, lawful.taken_within)) logged in
    (grind (arith), logged)

pub inst_out_left : (log : Log) → IsLawful log → (nat_lt 0 log.installing || nat_lt 0 log.logged) ≡ true
    → (calls_left (with_inst_out log) ≤ calls_left log) × (0 < (with_inst_out log).installing)
inst_out_left log lawful some = inst_out_as log lawful (nat_lt 0 log.installing) refl some

inst_made_as : (out : Log) → 0 < out.installing → IsLawful out → (is_home is_next : Bool)
    → nat_lt out.inst_step (out.installing + 2) ≡ is_next
    → (step : ℕ) → out.inst_step < step
    → (calls_left (if is_home then record out { inst_step = step; inst_out = false }
    else if is_next then record out { inst_step = out.inst_step + 1; inst_out = false }
    else with_installed out) < calls_left out)
    × ((if is_home then record out { inst_step = step; inst_out = false }
    else if is_next then record out { inst_step = out.inst_step + 1; inst_out = false }
    else with_installed out).broken ≡ out.broken)
inst_made_as out some lawful true is_next next step later =
    let less = made_left out.installing out.inst_step step some later lawful.inst_step in
    (grind (arith), refl)
inst_made_as out some lawful false true next step later =
    let less = made_left out.installing out.inst_step (out.inst_step + 1) some (grind (arith))
    lawful.inst_step in
    (grind (arith), refl)
inst_made_as out some lawful false false next step later =
    let last : out.inst_step ≡ out.installing + 2 = grind (arith, nat_tests, lawful.inst_step) in
    let one = last_left out.installing out.inst_step some last in
    let rest = length-drop out.installing out.changes in
    (grind (arith, lawful.installing, lawful.taken_within), refl)

inst_made_nearer : (out : Log) → 0 < out.installing → IsLawful out
    → (calls_left (with_inst_made out) < calls_left out) × ((with_inst_made out).broken ≡ out.broken)
inst_made_nearer out some lawful =
    inst_made_as out some lawful (nat_lt out.inst_step out.installing)
    (nat_lt out.inst_step (out.installing + 2)) refl
    (next_home out.changes out.installing (out.inst_step + 1)) (grind (arith))

inst_back : (log : Log) (before after : Device) (answer : Result Unit Failed) → IsLawful log
    → may_install log ≡ true → IsLawful (with_inst_out log) → CountsFailure before after answer
    → (with_inst_out log).broken ≡ log.broken → OneLater before after
    → after.lost before.clock ≡ is_err answer
    → HasCalled log before (with_inst_back (with_inst_out log) (is_ok answer)) after
inst_back log before after (Ok u) lawful may out_lawful same sound_out later lost =
    let is = may_is log.broken (nat_lt 0 log.installing || nat_lt 0 log.logged) log.inst_out may in
    let left = inst_out_left log lawful is.1 in
    let nearer = inst_made_nearer (with_inst_out log) left.1 out_lawful in
    record {
      sound = is.0;
      nearer = λ sound. grind (arith);
      past = past_one before after later;
      failed = λ broken. absurd (true≢false (sym broken ∙ nearer.1 ∙ sound_out ∙ is.0));
      lost = λ broken. absurd (true≢false (sym broken ∙ nearer.1 ∙ sound_out ∙ is.0));
      counted = grind (arith);
    }
inst_back log before after (Err e) lawful may out_lawful more sound_out later lost =
    let is = may_is log.broken (nat_lt 0 log.installing || nat_lt 0 log.logged) log.inst_out may in
    record {
      sound = is.0;
      nearer = λ sound. absurd (true≢false sound);
      past = past_one before after later;
      failed = λ broken. grind (arith);
      lost = λ broken. lost_now before after e later more lost;
      counted = grind (arith);
    }

-- so it is once the installer's call was handed out, made and given back
pub inst_called : (log out new : Log) (before after : Device) (io : Io)
    (answer : Result Unit Failed) (ok : Bool)
    → IsLawful log → true ≡ may_install log → out ≡ with_inst_out log → IsLawful out → IsNextInstCall out io
    → ok ≡ is_ok answer → new ≡ (if is_inst_out out io then with_inst_back out ok else out)
    → CountsFailure before after answer → HasMade before io answer after → HasCalled log before new after
inst_called log out new before after io answer ok lawful may out_is out_lawful next ok_is given counted called =
    let handed = inst_out_sound log (nat_lt 0 log.installing) in
    let is_out = inst_is_out log out io out_is next in
    let made = given_back (is_inst_out out io) (with_inst_back out ok) out new is_out given in
    let back = inst_back log before after answer lawful (sym may) (subst IsLawful out_is out_lawful) counted
    handed.0 (made_later before io answer after called) (made_lost before io answer after called) in
    subst (λ l. HasCalled log before l after)
    (sym (made ∙ ap (λ a. with_inst_back out a) ok_is ∙ ap (λ l. with_inst_back l (is_ok answer)) out_is)) back

-- ---- nothing is left to ask for

-- where neither may ask for a call, and none is out, no change is left
pub none_left : (log : Log) → IsLawful log → log.broken ≡ false → log.log_out ≡ false → log.inst_out ≡ false
    → may_log log ≡ false → may_install log ≡ false → length log.changes ≡ 0
none_left log lawful sound no_log no_inst idle settled = grind (arith, nat_tests, lawful.tail)

at_rest : (changes : List LogChange) (logged places is_preserved : ℕ) → length changes ≡ 0
    → place_before changes places + is_preserved ≡ places
    → (place_before (drop logged changes) places ≡ places) × (is_preserved ≡ 0)
at_rest [] zero places is_preserved none all = (refl, grind (arith))
at_rest [] (suc n) places is_preserved none all = (refl, grind (arith))
at_rest (change ∷ later) logged places is_preserved none all = absurd (grind (arith))

-- then everything is settled, and no commit is kept
pub stuck : (core after : CoreState) (is_plan : ℕ → ℕ → List ObjectBytes → List ObjectBytes → Type 0)
    → IsLawfulCore is_plan core → core.log.broken ≡ false → core.log.log_out ≡ false
    → core.log.inst_out ≡ false → false ≡ may_log core.log → after ≡ core → false ≡ may_install after.log
    → (settled_place core.log ≡ core.log.places) × (length core.records ≡ 0)
stuck core after is_plan lawful sound no_log no_inst idle same rest =
    at_rest core.log.changes core.log.logged core.log.places (length core.records)
    (none_left core.log lawful.log sound no_log no_inst (sym idle)
    (sym (rest ∙ ap (λ (c : CoreState). may_install c.log) same))) lawful.home.1.window.all

-- How many device calls a settling makes, group by group.
use Rattle.std.proofs.Common.{arith, ◌≡◌, ◌∙◌, refl, sym, ap, subst, true≢false, ℕ}
use Rattle.std.proofs.Common.{◌+◌, ◌-◌, ◌*◌, ◌<◌, ◌≤◌, Bool, true, false, not, ◌&&◌, ◌||◌, nat_eq, nat_lt, nat_le}
use Rattle.std.proofs.Common.{if◌then◌else◌, length, drop}
use Rattle.std.proofs.lemmas.Bool.Decides.{nat_tests}
use Rattle.std.proofs.lemmas.List.{length-drop}
use Rattle.base.specs.declared.TheConstants.{LOG_SLOTS}
use Rattle.disk.specs.Device.{Device}
use Rattle.wal.specs.Io.{Io}
use Rattle.circ.specs.Log.Log.{Log, IsLawful}
use Rattle.txn_law.specs.Core.{CoreState}
use Rattle.circ.specs.Log.Logger.{IsNextLogCall, has_group, is_log_out, may_log, with_log_back}
use Rattle.circ.specs.Log.Logger.{with_log_made, with_log_out}
use Rattle.circ.specs.Log.Installer.{IsNextInstCall, is_inst_out, may_install, next_home}
use Rattle.circ.specs.Log.Installer.{with_inst_back, with_inst_made, with_inst_out, with_installed}
use Rattle.store_images.proofs.CallsLeft as CallsLeft
use Rattle.store_images.proofs.CallsLeft.{given_back, made_left, last_left, may_is}
use Rattle.store_images.proofs.OutCalls.{inst_is_out, inst_out_sound, its_is_out}
use Rattle.store_images.specs.Settling.{IsQuiet, SpendsSettling, group_left, most_of_settling}
use Rattle.store_images.specs.Settling.{settling_calls, settling_left}

-- ---- a group

some_left : (blocks made : ℕ) → 0 < blocks → group_left blocks made ≡ (blocks + 3) - made
some_left blocks made some = grind (arith, nat_tests)

-- two groups as one take no more calls
joined_left : (a b : ℕ) → group_left (a + b) 0 ≤ group_left a 0 + group_left b 0
joined_left a b = grind (arith, nat_tests)

most_left : (blocks made : ℕ) → group_left blocks made ≤ blocks + 3
most_left blocks made = grind (arith, nat_tests)

-- of one of which a call was made
begun_left : (blocks made : ℕ) → 0 < made → group_left blocks made ≤ blocks + 2
begun_left blocks made some = grind (arith, nat_tests)

-- of one that has to be begun
whole_left : (blocks made : ℕ) → group_left blocks made ≤ group_left blocks 0
whole_left blocks made = grind (arith, nat_tests)

-- ---- of a log, by its numbers

abbrev left_of : (all logged taken log_step installing inst_step : ℕ) → ℕ
left_of all logged taken log_step installing inst_step =
    group_left taken log_step + group_left installing inst_step
    + (group_left (logged + taken - installing) 0 + 2 * group_left (all - (logged + taken)) 0)

-- the logger takes the tail, where it has no group
tail_taken : (all logged made installing inst_step : ℕ) → logged < all → installing ≤ logged
    → left_of all logged (all - logged) 0 installing inst_step ≤ left_of all logged 0 made installing inst_step
tail_taken all logged made installing inst_step some within =
    let tail : ℕ = all - logged in
    let rest : ℕ = logged - installing in
    let joined = joined_left rest tail in
    let same : (logged + tail) - installing ≡ rest + tail = omega (arith, within) in
    let none : all - (logged + tail) ≡ 0 = omega (arith, some) in
    let logged_plus_none : logged + 0 ≡ logged = omega arith in
    rw (same, none, logged_plus_none) (omega (arith, joined))

-- ---- the logger

log_out_as : (log : Log) → IsLawful log → (has : Bool) → nat_lt 0 log.taken ≡ has
    → (has || (nat_lt log.logged (length log.changes) && nat_le (length log.changes) LOG_SLOTS)) ≡ true
    → left_of (length log.changes) log.logged (if has then log.taken else length log.changes - log.logged)
    log.log_step log.installing log.inst_step ≤ settling_left log
log_out_as log lawful true has some = omega arith
log_out_as log lawful false has some =
    let all : ℕ = length log.changes in
    let none : log.taken ≡ 0 = grind (arith, nat_tests) in
    let begun : log.log_step ≡ 0 = (lawful.log_idle none).0 in
    let more : log.logged < all = grind (arith, nat_tests) in
    subst (λ t. left_of all log.logged (all - log.logged) log.log_step log.installing log.inst_step
    ≤ left_of all log.logged t log.log_step log.installing log.inst_step) (sym none)
    (subst (λ s. left_of all log.logged (all - log.logged) s log.installing log.inst_step
    ≤ left_of all log.logged 0 s log.installing log.inst_step) (sym begun)
    (tail_taken all log.logged 0 log.installing log.inst_step more lawful.installing))

log_out_left : (log : Log) → IsLawful log → has_group log ≡ true
    → settling_left (with_log_out log) ≤ settling_left log
log_out_left log lawful has = log_out_as log lawful (nat_lt 0 log.taken) refl has

log_made_as : (out : Log) → 0 < out.taken → out.log_step ≤ out.taken + 2 → (is_last : Bool)
    → nat_eq out.log_step (out.taken + 2) ≡ is_last
    → settling_left (if is_last
    then record out { logged = out.logged + out.taken; taken = 0; log_step = 0; log_out = false }
    else record out { log_step = out.log_step + 1; log_out = false }) < settling_left out
log_made_as out some within true is =
    let one = last_left out.taken out.log_step some (grind (arith, nat_tests)) in
    let same : (out.logged + out.taken) + 0 ≡ out.logged + out.taken = omega arith in
    rw same (omega (arith, one))
log_made_as out some within false is =
    let less = made_left out.taken out.log_step (out.log_step + 1) some (grind (arith)) within in
    omega (arith, less)

log_made_left : (out : Log) → 0 < out.taken → out.log_step ≤ out.taken + 2
    → settling_left (with_log_made out) < settling_left out
log_made_left out some within = log_made_as out some within (nat_eq out.log_step (out.taken + 2)) refl

-- ---- the installer, where the logger has no group

inst_out_as : (log : Log) → IsLawful log → log.taken ≡ 0 → (has : Bool) → nat_lt 0 log.installing ≡ has
    → settling_left (if has then record log { inst_out = true } else record log {
      installing = log.logged;
      inst_step = next_home log.changes log.logged 0;
      inst_out = true;
    }) ≤ settling_left log
inst_out_as log lawful none true has = omega arith
inst_out_as log lawful none false has =
    let next : ℕ = next_home log.changes log.logged 0 in
    let nothing : log.installing ≡ 0 = grind (arith, nat_tests) in
    let whole = whole_left log.logged next in
    let behind : log.logged + log.taken - log.logged ≡ 0 = omega (arith, none) in
    let before : log.logged + log.taken - log.installing ≡ log.logged = omega (arith, none, nothing) in
    rw (behind, before) (omega (arith, whole))

inst_out_left : (log : Log) → IsLawful log → log.taken ≡ 0 → settling_left (with_inst_out log) ≤ settling_left log
inst_out_left log lawful none = inst_out_as log lawful none (nat_lt 0 log.installing) refl

inst_made_as : (out : Log) → 0 < out.installing → IsLawful out → (is_home is_next : Bool)
    → nat_lt out.inst_step (out.installing + 2) ≡ is_next
    → (step : ℕ) → out.inst_step < step
    → settling_left (if is_home then record out { inst_step = step; inst_out = false }
    else if is_next then record out { inst_step = out.inst_step + 1; inst_out = false }
    else with_installed out) < settling_left out
inst_made_as out some lawful true is_next next step later =
    let less = made_left out.installing out.inst_step step some later lawful.inst_step in
    omega (arith, less)
inst_made_as out some lawful false true next step later =
    let less = made_left out.installing out.inst_step (out.inst_step + 1) some (grind (arith))
    lawful.inst_step in
    omega (arith, less)
inst_made_as out some lawful false false next step later =
    let last : out.inst_step ≡ out.installing + 2 = grind (arith, nat_tests, lawful.inst_step) in
    let one = last_left out.installing out.inst_step some last in
    let rest = length-drop out.installing out.changes in
    let within = lawful.installing in
    let behind : (out.logged - out.installing) + out.taken - 0 ≡ out.logged + out.taken - out.installing =
    omega (arith, within) in
    let tail : length (drop out.installing out.changes) - ((out.logged - out.installing) + out.taken)
    ≡ length out.changes - (out.logged + out.taken) =
    omega (arith, within, rest) in
    rw (behind, tail) (omega (arith, one))

inst_made_left : (out : Log) → 0 < out.installing → IsLawful out
    → settling_left (with_inst_made out) < settling_left out
inst_made_left out some lawful =
    inst_made_as out some lawful (nat_lt out.inst_step out.installing)
    (nat_lt out.inst_step (out.installing + 2)) refl
    (next_home out.changes out.installing (out.inst_step + 1)) (grind (arith))

-- ---- one call

-- where the log isn't broken some call is left, and one that is made well leaves fewer
pub record Nears (old new : Log) : Type 0 where
  pub sound : old.broken ≡ false
  pub some : 0 < settling_left old
  pub nearer : new.broken ≡ false → settling_left new < settling_left old

nears_by : (old out made new : Log) → old.broken ≡ false → settling_left out ≤ settling_left old
    → settling_left made < settling_left out → (ok : Bool) → new ≡ (if ok then made else record out {
      log_out = new.log_out;
      inst_out = new.inst_out;
      broken = true;
    }) → Nears old new
nears_by old out made new sound first later true is = record {
  sound = sound;
  some = omega (arith, first, later);
  nearer = λ _. subst (λ (l : Log). settling_left l < settling_left old) (sym is) (omega (arith, first, later));
}
nears_by old out made new sound first later false is = record {
  sound = sound;
  some = omega (arith, first, later);
  nearer = λ is_preserved. absurd (true≢false (sym (ap (λ (l : Log). l.broken) is) ∙ is_preserved));
}

log_back : (log : Log) → IsLawful log → may_log log ≡ true → IsLawful (with_log_out log) → (ok : Bool)
    → Nears log (with_log_back (with_log_out log) ok)
log_back log lawful may out_lawful true =
    let is = may_is log.broken (has_group log) log.log_out may in
    let some = (CallsLeft.log_out_left log lawful is.1).1 in
    nears_by log (with_log_out log) (with_log_made (with_log_out log)) (with_log_made (with_log_out log)) is.0
    (log_out_left log lawful is.1) (log_made_left (with_log_out log) some out_lawful.log_step) true refl
log_back log lawful may out_lawful false =
    let is = may_is log.broken (has_group log) log.log_out may in
    let some = (CallsLeft.log_out_left log lawful is.1).1 in
    nears_by log (with_log_out log) (with_log_made (with_log_out log)) (with_log_back (with_log_out log) false) is.0
    (log_out_left log lawful is.1) (log_made_left (with_log_out log) some out_lawful.log_step) false refl

-- so it is once the logger's call was handed out and given back
pub log_nears : (log out new : Log) (io : Io) (ok : Bool) → IsLawful log → true ≡ may_log log
    → out ≡ with_log_out log → IsLawful out → IsNextLogCall out io
    → new ≡ (if is_log_out out io then with_log_back out ok else out) → Nears log new
log_nears log out new io ok lawful may out_is out_lawful next given =
    let is_out = its_is_out out io (ap (λ (l : Log). l.log_out) out_is) next in
    let made = given_back (is_log_out out io) (with_log_back out ok) out new is_out given in
    subst (Nears log) (sym (made ∙ ap (λ l. with_log_back l ok) out_is))
    (log_back log lawful (sym may) (subst IsLawful out_is out_lawful) ok)

-- the logger has no group, where it has no call to make and none is out
no_group : (broken has out : Bool) → (not broken && (has && not out)) ≡ false → broken ≡ false → out ≡ false
    → has ≡ false
no_group false false false is sound quiet = refl
no_group false true false is sound quiet = absurd (true≢false is)
no_group true has out is sound quiet = absurd (true≢false sound)
no_group false has true is sound quiet = absurd (true≢false quiet)

none_taken : (taken : ℕ) (other : Bool) → (nat_lt 0 taken || other) ≡ false → taken ≡ 0
none_taken taken other is = grind (arith, nat_tests)

inst_back : (log : Log) → IsLawful log → may_install log ≡ true → may_log log ≡ false → log.log_out ≡ false
    → IsLawful (with_inst_out log) → (with_inst_out log).broken ≡ log.broken → (ok : Bool)
    → Nears log (with_inst_back (with_inst_out log) ok)
inst_back log lawful may none quiet out_lawful same true =
    let is = may_is log.broken (nat_lt 0 log.installing || nat_lt 0 log.logged) log.inst_out may in
    let taken = none_taken log.taken (nat_lt log.logged (length log.changes) && nat_le (length log.changes) LOG_SLOTS)
    (no_group log.broken (has_group log) log.log_out none is.0 quiet) in
    let some = (CallsLeft.inst_out_left log lawful is.1).1 in
    nears_by log (with_inst_out log) (with_inst_made (with_inst_out log)) (with_inst_made (with_inst_out log)) is.0
    (inst_out_left log lawful taken) (inst_made_left (with_inst_out log) some out_lawful) true refl
inst_back log lawful may none quiet out_lawful same false =
    let is = may_is log.broken (nat_lt 0 log.installing || nat_lt 0 log.logged) log.inst_out may in
    let taken = none_taken log.taken (nat_lt log.logged (length log.changes) && nat_le (length log.changes) LOG_SLOTS)
    (no_group log.broken (has_group log) log.log_out none is.0 quiet) in
    let some = (CallsLeft.inst_out_left log lawful is.1).1 in
    nears_by log (with_inst_out log) (with_inst_made (with_inst_out log)) (with_inst_back (with_inst_out log) false)
    is.0 (inst_out_left log lawful taken) (inst_made_left (with_inst_out log) some out_lawful) false refl

-- so it is once the installer's call was handed out and given back, where the logger had none to make
pub inst_nears : (log out new : Log) (io : Io) (ok : Bool) → IsLawful log → true ≡ may_install log
    → may_log log ≡ false → log.log_out ≡ false → out ≡ with_inst_out log → IsLawful out → IsNextInstCall out io
    → new ≡ (if is_inst_out out io then with_inst_back out ok else out) → Nears log new
inst_nears log out new io ok lawful may none quiet out_is out_lawful next given =
    let handed = inst_out_sound log (nat_lt 0 log.installing) in
    let is_out = inst_is_out log out io out_is next in
    let made = given_back (is_inst_out out io) (with_inst_back out ok) out new is_out given in
    subst (Nears log) (sym (made ∙ ap (λ l. with_inst_back l ok) out_is))
    (inst_back log lawful (sym may) none quiet (subst IsLawful out_is out_lawful) handed.0 ok)

-- ---- all of them

-- each call is one of those that are left
pub settles_one : (old new : Log) (before after : Device) → Nears old new → after.clock ≡ before.clock + 1
    → SpendsSettling before old after new
settles_one old new before after nears clock = record {
  few = subst (λ b. after.clock + settling_calls new ≤ before.clock + (if b then 0 else settling_left old))
      (sym nears.sound) (by new.broken refl);
}
  where
    by : (b : Bool) → new.broken ≡ b
        → after.clock + (if b then 0 else settling_left new) ≤ before.clock + settling_left old
    by true is = let some = nears.some in omega (arith, clock, some)
    by false is = let less = nears.nearer is in omega (arith, clock, less)

pub settles_none : (core after : CoreState) (before later : Device) → after ≡ core → later ≡ before
    → SpendsSettling before core.log later after.log
settles_none core after before later same at =
    subst (λ (d : Device). SpendsSettling before core.log d after.log) (sym at)
    (subst (λ (c : CoreState). SpendsSettling before core.log before c.log) (sym same)
    (record { few = omega arith }))

pub settles_along : (before mid later : Device) (old log new : Log) → SpendsSettling before old mid log
    → SpendsSettling mid log later new → SpendsSettling before old later new
settles_along before mid later old log new one two =
    record { few = let a = one.few in let b = two.few in omega (arith, a, b) }

-- ---- at most two for each block, and twelve

-- by the numbers of a log: where both sides have taken blocks, each has made a call
most_of : (all logged taken log_step installing inst_step : ℕ) → logged + taken ≤ all → installing ≤ logged
    → (0 < taken → 0 < log_step) → (0 < installing → 0 < inst_step)
    → (some here : Bool) → nat_lt 0 taken ≡ some → nat_lt 0 installing ≡ here
    → left_of all logged taken log_step installing inst_step ≤ 2 * all + 12
most_of all logged taken log_step installing inst_step within home first second true true is at =
    let a = begun_left taken log_step (first (grind (arith, nat_tests))) in
    let b = begun_left installing inst_step (second (grind (arith, nat_tests))) in
    let c = most_left (logged + taken - installing) 0 in
    let d = most_left (all - (logged + taken)) 0 in
    let one : 0 < installing = grind (arith, nat_tests) in
    omega (arith, a, b, c, d, within, home, one)
most_of all logged taken log_step installing inst_step within home first second false here is at =
    let none : taken ≡ 0 = grind (arith, nat_tests) in
    let a : group_left taken log_step ≡ 0 = rw none refl in
    let b = most_left installing inst_step in
    let c = most_left (logged + taken - installing) 0 in
    let d = most_left (all - (logged + taken)) 0 in
    omega (arith, a, b, c, d, within, home, none)
most_of all logged taken log_step installing inst_step within home first second true false is at =
    let none : installing ≡ 0 = grind (arith, nat_tests) in
    let a = most_left taken log_step in
    let b : group_left installing inst_step ≡ 0 = rw none refl in
    let c = most_left (logged + taken - installing) 0 in
    let d = most_left (all - (logged + taken)) 0 in
    omega (arith, a, b, c, d, within, home, none)

calls_at_most : (log : Log) → IsLawful log → IsQuiet log → (b : Bool) → log.broken ≡ b
    → (if b then 0 else settling_left log) ≤ most_of_settling log
calls_at_most log lawful quiet true is = omega arith
calls_at_most log lawful quiet false is =
    most_of (length log.changes) log.logged log.taken log.log_step log.installing log.inst_step
    lawful.taken_within lawful.installing (lawful.log_begun is quiet.logging)
    (lawful.inst_begun is quiet.installing) (nat_lt 0 log.taken) (nat_lt 0 log.installing) refl refl

-- so many were made
pub settled_by : (before later : Device) (old new : Log) → IsLawful old → IsQuiet old
    → SpendsSettling before old later new → later.clock ≤ before.clock + most_of_settling old
settled_by before later old new lawful quiet spends =
    let few = spends.few in
    let most = calls_at_most old lawful quiet old.broken refl in
    omega (arith, few, most)

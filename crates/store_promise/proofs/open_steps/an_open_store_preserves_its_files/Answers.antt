-- Each moment so far has its images still, and those of now are the last.
use Rattle.std.proofs.Common.{◌≡◌, ℕ, ◌<◌, ◌≤◌, ◌⊎◌, inl, inr, Bool, true, false, nat_lt, ◌++◌, arith}
use Rattle.std.proofs.Common.{List, length-append, subst, sym, refl}
use Rattle.std.proofs.lemmas.Bool.{ltb-true, ltb-false}
use Rattle.std.proofs.lemmas.List.{take-append-le}
use Rattle.std.specs.Prelude.{Contains}
use Rattle.disk.specs.Crash.{Image, IsCrashImage}
use Rattle.disk.specs.Device.{Content, Device, OneLater}
use Rattle.nfs_spec.specs.Model.Entry.{Entry}
use Rattle.nfs_spec.specs.Procedures.After.{after}
use Rattle.nfs_spec.specs.Model.Tree.{Tree}
use Rattle.circ.specs.Log.Log.{settled_place}
use Rattle.store_promise.specs.OpenSince.{HasPreservedFiles, LeavesBeginning}
use Rattle.store_promise.proofs.open_steps.an_open_store_preserves_its_files.Goals as goal

-- the images of a moment so far
as_before : (old new : Device) (clock : ℕ) (image : Image) → OneLater old new → clock ≤ old.clock
    → IsCrashImage new clock image → IsCrashImage old clock image
as_before old new clock image later early crash = λ block within.
    let size = later.size in
    subst (λ (contents : List Content). Contains contents (image block)) (later.past clock block early)
    (crash block (omega (arith, size, within)))

fewer_settled : (size boot settled fewer : ℕ) (first : Tree) (entries : List Entry) (image : Image)
    → LeavesBeginning size boot first entries settled image → fewer ≤ settled
    → LeavesBeginning size boot first entries fewer image
fewer_settled size boot settled fewer first entries image left few = record {
  boot = left.boot;
  boot_is = left.boot_is;
  left = left.left;
  good = left.good;
  count = left.count;
  few = left.few;
  prefix = left.prefix;
  lasts = λ place within. left.lasts place (omega (arith, within, few));
}

more_entries : (size boot settled : ℕ) (first : Tree) (entries more : List Entry) (image : Image)
    → LeavesBeginning size boot first entries settled image
    → LeavesBeginning size boot first (entries ++ more) settled image
more_entries size boot settled first entries more image left = record {
  boot = left.boot;
  boot_is = left.boot_is;
  left = left.left;
  good = left.good;
  count = left.count;
  few = let few = left.few in let long = length-append entries more in omega (arith, few, long);
  prefix = subst (λ (es : List Entry). after first es left.left)
      (sym (take-append-le left.count entries more left.few)) left.prefix;
  lasts = left.lasts;
}

either : (clock now : ℕ) → clock ≤ now → (clock < now) ⊎ (clock ≡ now)
either clock now within = by_test (nat_lt clock now) refl
  where
    by_test : (t : Bool) → nat_lt clock now ≡ t → (clock < now) ⊎ (clock ≡ now)
    by_test true is = inl (ltb-true clock now is)
    by_test false is = let from = ltb-false clock now is in inr (omega (arith, from, within))

-- what a stop leaves at the clock of now, or before
by_clock : (before d : Device) (boot settled least : ℕ) (first : Tree) (entries : List Entry)
    → HasPreservedFiles before d boot first entries settled
    → ((image : Image) → IsCrashImage d d.clock image → LeavesBeginning d.size boot first entries least image)
    → settled ≤ least → (clock : ℕ) (image : Image) → before.clock ≤ clock → clock ≤ d.clock
    → IsCrashImage d clock image → LeavesBeginning d.size boot first entries settled image
by_clock before d boot settled least first entries is_preserved now low clock image from to crash =
    by_case (either clock d.clock to)
  where
    by_case : (clock < d.clock) ⊎ (clock ≡ d.clock) → LeavesBeginning d.size boot first entries settled image
    by_case (inl past) = is_preserved clock image from past crash
    by_case (inr same) = fewer_settled d.size boot least settled first entries image
        (now image (subst (λ (at : ℕ). IsCrashImage d at image) same crash)) low

pub returns-clause-call : goal.returns-clause-call
returns-clause-call c =
    λ before old new base core logging installing boot settled first last entries is_preserved since low later
    clock image from to crash.
    let past = later.clock in
    let early : clock ≤ old.clock = omega (arith, past, to) in
    subst (λ (size : ℕ). LeavesBeginning size boot first entries settled image) (sym later.size)
    (by_clock before old boot settled (settled_place core.log) first entries is_preserved
    (λ left at. c.a_stop_leaves_a_beginning.ensures.files base old core logging installing boot first last
    entries left since
    at) low clock image from early (as_before old new clock image later early crash))

pub returns-clause-now : goal.returns-clause-now
returns-clause-now c = λ before d base core logging installing boot settled first last entries is_preserved since low.
    by_clock before d boot settled (settled_place core.log) first entries is_preserved
    (λ left at. c.a_stop_leaves_a_beginning.ensures.files base d core logging installing boot first last
    entries left since at) low

pub returns-clause-longer : goal.returns-clause-longer
returns-clause-longer c = λ before d boot settled fewer first entries more is_preserved few clock image from to crash.
    more_entries d.size boot fewer first entries more image
    (fewer_settled d.size boot settled fewer first entries image (is_preserved clock image from to crash) few)

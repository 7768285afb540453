-- A store that stays open from one device call to the next, and what each stop leaves of it.
use Rattle.std.proofs.Common.{arith, ◌≡◌, refl, sym, subst, ℕ, ◌≤◌, inl, inr, List, [], ◌∷◌, ◌++◌}
use Rattle.std.proofs.lemmas.Bool.{cases_order}
use Rattle.disk.specs.Crash.{Image, IsCrashImage}
use Rattle.disk.specs.Device.{Device}
use Rattle.nfs_spec.specs.Model.Entry.{Entry}
use Rattle.nfs_spec.specs.Model.Tree.{Tree}
use Rattle.txn_law.specs.Core.{CoreState}
use Rattle.store_promise.specs.Openings.{IsLater}
use Rattle.circ.specs.Log.Calls.{Pending, idle}
use Rattle.circ.specs.Log.Log.{settled_place}
use Rattle.disk.specs.Blocks.{AreBlocks}
use Rattle.store_promise.specs.OpenSince.{HasPreservedFiles, IsOpenSince, PreservesFiles, LeavesBeginning}
use Rattle.store_images.specs.SettlingStops.{AfterCall, GoesByCalls, PreservesPrefixes, StayOpen}
use Rattle.store_promise.proofs.Later.{past_more, past_none}
use Rattle.store_images.proofs.Later.{earlier, some_image}

-- nothing was left yet
pub none_left : (d : Device) (boot : ℕ) (first : Tree) (entries : List Entry) (settled : ℕ)
    → HasPreservedFiles d d boot first entries settled
none_left d boot first entries settled = λ clock image above below is. absurd (omega (arith, above, below))

-- so it is where no call was made
pub still_open : (d : Device) (core : CoreState) → StayOpen d core d core
still_open d core = λ base boot first last entries since. record {
  past = past_none d;
  left = none_left d boot first entries _;
  further = omega arith;
  calls = [];
  by_calls = (refl, refl);
  base = base;
  since = since;
}

pub same_open : (d e : Device) (old new : CoreState) → new ≡ old → e ≡ d → StayOpen d old e new
same_open d e old new core device =
    subst (λ (c : CoreState). StayOpen d old e c) (sym core)
    (subst (λ (x : Device). StayOpen d old x old) (sym device) (still_open d old))

-- fewer places are in it too
fewer_last : (size boot settled more : ℕ) (first : Tree) (entries : List Entry) (image : Image) → settled ≤ more
    → LeavesBeginning size boot first entries more image → LeavesBeginning size boot first entries settled image
fewer_last size boot settled more first entries image few left = record {
  boot = left.boot;
  boot_is = left.boot_is;
  left = left.left;
  good = left.good;
  count = left.count;
  few = left.few;
  prefix = left.prefix;
  lasts = λ place within. left.lasts place (omega (arith, within, few));
}

-- a later part of the past behind an earlier one
pub preserved_along : (before mid later : Device) (boot settled more : ℕ) (first : Tree) (entries : List Entry)
    → IsLater before mid → IsLater mid later → settled ≤ more
    → HasPreservedFiles before mid boot first entries settled
    → HasPreservedFiles mid later boot first entries more → HasPreservedFiles before later boot first entries settled
preserved_along before mid later boot settled more first entries one two few was then_ =
    λ clock image above below is. elim (cases_order clock mid.clock) [
      | inl at ↦ fewer_last later.size boot settled more first entries image few
          (then_ clock image (omega (arith, at)) below is)
      | inr (inl past) ↦ subst (λ (size : ℕ). LeavesBeginning size boot first entries settled image)
          (sym two.size) (was clock image above (omega (arith, past))
          (earlier mid later two clock image (omega (arith, past)) is))
      | inr (inr after) ↦ fewer_last later.size boot settled more first entries image few
          (then_ clock image (omega (arith, after)) below is)
    ]

-- later calls behind earlier ones
calls_along : (boot : ℕ) (first : Tree) (entries : List Entry) (last : Tree) (before : Device) (old : CoreState)
    (calls : List AfterCall) (mid : Device) (core : CoreState) (more : List AfterCall) (later : Device)
    (new : CoreState) → GoesByCalls boot first entries last before old calls mid core
    → GoesByCalls boot first entries last mid core more later new
    → GoesByCalls boot first entries last before old (calls ++ more) later new
calls_along boot first entries last before old [] mid core more later new one two =
    subst (λ (d : Device). GoesByCalls boot first entries last d old more later new) one.0
    (subst (λ (c : CoreState). GoesByCalls boot first entries last mid c more later new) one.1 two)
calls_along boot first entries last before old (after ∷ calls) mid core more later new one two =
    (one.0, calls_along boot first entries last after.device after.core calls mid core more later new one.1 two)

pub stay_along : (before mid later : Device) (old core new : CoreState) → StayOpen before old mid core
    → StayOpen mid core later new → StayOpen before old later new
stay_along before mid later old core new one two = λ base boot first last entries since.
    let first_part = one base boot first last entries since in
    let second = two first_part.base boot first last entries first_part.since in
    record {
      past = past_more before mid later first_part.past second.past;
      left = preserved_along before mid later boot _ _ first entries first_part.past second.past first_part.further
          first_part.left second.left;
      further = omega (arith, first_part.further, second.further);
      calls = first_part.calls ++ second.calls;
      by_calls = calls_along boot first entries last before old first_part.calls mid core second.calls later new
          first_part.by_calls second.by_calls;
      base = second.base;
      since = second.since;
    }

-- ---- the end

-- each stop leaves a beginning, by the laws on a store that is open
pub prefixes_preserved : (before later : Device) (old new : CoreState) → AreBlocks later
    → ((before d : Device) (base : Image) (core : CoreState) (logging installing : Pending) (boot settled : ℕ)
    (first last : Tree) (entries : List Entry) → HasPreservedFiles before d boot first entries settled
    → IsOpenSince base d core logging installing boot first entries last → settled ≤ settled_place core.log
    → PreservesFiles before d boot first entries settled)
    → ((base : Image) (d : Device) (core : CoreState) (logging installing : Pending) (boot : ℕ)
    (first last : Tree)
    (entries : List Entry) (image : Image) → IsOpenSince base d core logging installing boot first entries last
    → IsCrashImage d d.clock image → LeavesBeginning d.size boot first entries (settled_place core.log) image)
    → StayOpen before old later new → PreservesPrefixes before old later new
prefixes_preserved before later old new blocks now stop stays = λ base boot first last entries since.
    let is = stays base boot first last entries since in
    record {
      past = is.past;
      left = some_image before later blocks;
      stops = now before later is.base new idle idle boot (settled_place old.log) first last entries
          is.left is.since is.further;
      ended = λ image crash. stop is.base later new idle idle boot first last entries image is.since crash;
      further = is.further;
      calls = is.calls;
      by_calls = is.by_calls;
      base = is.base;
      since = is.since;
    }

-- what a settling keeps, as long as it goes on
pub stays_of : (before later : Device) (old new : CoreState) → PreservesPrefixes before old later new
    → StayOpen before old later new
stays_of before later old new preserves = λ base boot first last entries since.
    let is = preserves base boot first last entries since in
    record {
      past = is.past;
      left = λ clock image above below crash. is.stops clock image above (omega (arith, below)) crash;
      further = is.further;
      calls = is.calls;
      by_calls = is.by_calls;
      base = is.base;
      since = is.since;
    }

-- what each stop leaves, of a later part behind an earlier one
pub stops_along : (before mid later : Device) (boot settled more : ℕ) (first : Tree) (entries : List Entry)
    → IsLater mid later → settled ≤ more → HasPreservedFiles before mid boot first entries settled
    → PreservesFiles mid later boot first entries more → PreservesFiles before later boot first entries settled
stops_along before mid later boot settled more first entries two few was then_ =
    λ clock image above below is. elim (cases_order clock mid.clock) [
      | inl at ↦ fewer_last later.size boot settled more first entries image few
          (then_ clock image (omega (arith, at)) below is)
      | inr (inl past) ↦ subst (λ (size : ℕ). LeavesBeginning size boot first entries settled image)
          (sym two.size) (was clock image above (omega (arith, past))
          (earlier mid later two clock image (omega (arith, past)) is))
      | inr (inr after) ↦ fewer_last later.size boot settled more first entries image few
          (then_ clock image (omega (arith, after)) below is)
    ]

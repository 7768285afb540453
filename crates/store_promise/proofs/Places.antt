-- The blocks of each place stay what they were while a run goes on.
use Rattle.std.proofs.Common.{◌≡◌, ◌⊎◌, inl, inr, ℕ, ◌+◌, ◌-◌, ◌<◌, ◌≤◌, ap, sym, ◌∙◌, refl, arith}
use Rattle.std.proofs.Common.{Bool, true, false, if◌then◌else◌, List, [], ◌∷◌, length, length-append, take}
use Rattle.std.proofs.Common.{nat_le}
use Rattle.std.proofs.lemmas.Bool.{le-leb, leb-true, leb-false, lt-leb}
use Rattle.std.proofs.lemmas.List.{take_all}
use Rattle.disk.specs.Crash.{Image}
use Rattle.disk.specs.Device.{Device}
use Rattle.nfs_spec.specs.Model.Entry.{Entry}
use Rattle.nfs_spec.specs.Model.Tree.{Tree}
use Rattle.layout.specs.Homes.{homes_of}
use Rattle.txn.specs.Outcomes.{TakesPlace}
use Rattle.txn_law.specs.Commit.{Planned}
use Rattle.txn_law.specs.Core.{CoreState, past}
use Rattle.txn_law.specs.Window.{Footprint, after_commits, opening}
use Rattle.circ.specs.Log.Calls.{Pending, home_after}
use Rattle.circ.specs.Log.Installer.{with_inst_back}
use Rattle.circ.specs.declared.log.change.LogChange.{LogChange}
use Rattle.circ.specs.Log.Log.{installed_place, place_before}
use Rattle.circ.proofs.LogLemmas.Ends.{place_le}
use Rattle.store_promise.specs.OpenSince.{IsOpenSince, blocks_after, file_blocks}
use Rattle.store_promise.specs.Running.{PreservesPlaces, with_blocks}
use Rattle.store_promise.specs.Schedule.{Setting}
use Rattle.store_promise.proofs.OpenCommits.{HasChange, IsHomeAtOnce, blocks_preserved, either}
use Rattle.store_promise.proofs.OpenInstalls.{earlier_then, gone}
use Rattle.store_promise.proofs.OpenSteps.{HasSame, homes_same, installed_same}

pub same_places : (base : Image) (old new : CoreState) → HasSame old new → PreservesPlaces base old base new
same_places base old new same = record {
  further = let is = installed_same base old new same in omega (arith, is);
  blocks = λ count.
      ap (λ (image : Image). after_commits image (take count new.records)) (sym (homes_same base old new same))
      ∙ ap (λ (rs : List Footprint). after_commits (homes_of old.log.blocks (opening base old.log))
      (take count rs)) same.records
      ∙ ap (λ (n : ℕ). blocks_after base old n)
      (let is = installed_same base old new same in omega (arith, is));
}

pub places_home : (base : Image) (d : Device) (old new : CoreState) (logging installing : Pending) (ok : Bool)
    (boot : ℕ) (first last : Tree) (entries : List Entry)
    → IsOpenSince base d old logging installing boot first entries last
    → new.log ≡ with_inst_back old.log ok → new.records ≡ past (installed_place new.log) old.records
    → PreservesPlaces base old (home_after base old.log ok) new
places_home base d old new logging installing ok boot first last entries since back records = record {
  further = (gone base d old new logging installing ok boot first last entries since back records).installed;
  blocks = earlier_then base d old new logging installing ok boot first last entries since back records;
}

-- the blocks of each place, from those that are home on
abbrev pub ArePlaced : Setting → Image → CoreState → Type 0
ArePlaced o base core = (count : ℕ) → o.blocks (installed_place core.log + count) ≡ blocks_after base core count

pub stay_placed : (o : Setting) (base home : Image) (old new : CoreState) → PreservesPlaces base old home new
    → ArePlaced o base old → ArePlaced o home new
stay_placed o base home old new is_preserved placed count =
    ap o.blocks (let further = is_preserved.further in omega (arith, further))
    ∙ placed (installed_place new.log - installed_place old.log + count) ∙ sym (is_preserved.blocks count)

-- ---- a commit

module _ (o : Setting) (base : Image) (d : Device) (old new : CoreState)
    (logging installing : Pending) (boot : ℕ) (first last : Tree) (entries : List Entry) (tx place : ℕ)
    (plan : Planned)
    (since : IsOpenSince base d old logging installing boot first entries last)
    (took : TakesPlace old tx plan place new) (placed : ArePlaced o base old) where
  abbrev now : Image
  now = file_blocks base new

  early : (at : ℕ) → at ≤ length entries → (with_blocks o (length entries) now).blocks at ≡ o.blocks at
  early at few = ap (λ (t : Bool). if t then o.blocks at else now) (le-leb at (length entries) few)

  late : (at : ℕ) → length entries < at → (with_blocks o (length entries) now).blocks at ≡ now
  late at many = ap (λ (t : Bool). if t then o.blocks at else now) (lt-leb at (length entries) many)

  all : installed_place old.log + length old.records ≡ length entries
  all = let a = since.over.files.home.window.all in let b = since.counted in
      let c = place_le old.log.changes old.log.places 0 since.over.lawful.rising in omega (arith, a, b, c)

  beyond : (count : ℕ) → length new.records ≤ count → blocks_after base new count ≡ now
  beyond count many = ap (λ (rs : List Footprint). after_commits
      (homes_of new.log.blocks (opening base new.log)) rs) (take_all count new.records many)

  by_case : HasChange base d old new logging installing boot first last entries tx place plan since took
      ⊎ IsHomeAtOnce base d old new logging installing boot first last entries tx place plan since took
      → ArePlaced (with_blocks o (length entries) now) base new
  by_case (inl has) count = by_count (nat_le count (length old.records)) refl
    where
      by_count : (t : Bool) → nat_le count (length old.records) ≡ t
          → (with_blocks o (length entries) now).blocks (installed_place new.log + count)
          ≡ blocks_after base new count
      by_count true is =
          let few = leb-true count (length old.records) is in
          let same = has.same in
          let whole = all in
          early (installed_place new.log + count) (omega (arith, few, same, whole))
          ∙ ap (λ (n : ℕ). o.blocks (n + count)) same ∙ placed count
          ∙ sym (blocks_preserved base d old new logging installing boot first last entries tx place plan
          since took count few)
      by_count false is =
          let many = leb-false count (length old.records) is in
          let same = has.same in
          let whole = all in
          let long = ap (λ (rs : List Footprint). length rs) has.records
          ∙ length-append old.records (record
          { place = new.log.places; read = plan.read; written = plan.written } ∷ []) in
          late (installed_place new.log + count) (omega (arith, many, same, whole))
          ∙ sym (beyond count (omega (arith, many, long)))
  by_case (inr at_once) count =
      let a = at_once.all in
      let b = took.places in
      let c = since.counted in
      let lone : length new.records ≡ 0 = none_uninstalled in
      late (installed_place new.log + count) (omega (arith, a, b, c))
      ∙ sym (beyond count (omega (arith, lone)))
    where
      none_uninstalled : length new.records ≡ 0
      none_uninstalled =
          let there = ap (λ (xs : List LogChange). place_before xs old.log.places) at_once.none in
          let every = since.over.files.home.window.all in
          let same = ap (λ (rs : List Footprint). length rs) at_once.records in
          omega (arith, there, every, same)

  pub placed_on : ArePlaced (with_blocks o (length entries) now) base new
  placed_on = by_case (either base d old new logging installing boot first last entries tx place
      plan since took)

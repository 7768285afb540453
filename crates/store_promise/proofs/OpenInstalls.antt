-- An installation that came to an end leaves a store open over what it has brought home, without the entries
-- that are home by then.
use Rattle.std.proofs.Common.{◌≡◌, ℕ, zero, suc, ◌+◌, ◌-◌, ◌<◌, ◌≤◌, ap, sym, ◌∙◌, refl, subst, arith}
use Rattle.std.proofs.Common.{Bool, true, false, if◌then◌else◌, ◌&&◌, List, [], Option}
use Rattle.std.proofs.Common.{length, take, drop, nat_le, nat_lt}
use Rattle.std.proofs.lemmas.Bool.{ltb-true, ltb-false, le-leb, lt-leb}
use Rattle.std.proofs.lemmas.List.{drop-drop, take-append-drop}
use Rattle.std.proofs.Math.Seq.{take-add}
use Rattle.base.specs.declared.TheConstants.{SUPER_BLOCK}
use Rattle.disk.specs.Crash.{Image}
use Rattle.disk.specs.Device.{Content, Device}
use Rattle.nfs_spec.specs.Model.Entry.{Entry}
use Rattle.nfs_spec.specs.Procedures.After.{after}
use Rattle.nfs_spec.specs.Model.Tree.{Tree}
use Rattle.layout.specs.declared.geometry.Geometry.{Geometry}
use Rattle.layout.specs.Homes.{homes_of}
use Rattle.layout.specs.SuperForm.{IsSuper}
use Rattle.circ.specs.declared.log.change.LogChange.{LogChange}
use Rattle.circ.specs.Log.Calls.{AgreesWithPending, Pending, home_after, idle}
use Rattle.circ.specs.Log.Grows.{recovered}
use Rattle.circ.specs.Log.Effects.{HasGoneOn}
use Rattle.circ.specs.Log.Installer.{next_home, with_inst_back, with_installed}
use Rattle.circ.specs.Log.Law.{IsOutside, with_changes}
use Rattle.circ.specs.Log.Log.{IsLawful, Log, installed_place, place_before}
use Rattle.circ.specs.Log.Overlay.{content_or}
use Rattle.circ.proofs.LogLemmas.Effects.{seen_inst_done}
use Rattle.circ.proofs.LogLemmas.Ends.{place_le}
use Rattle.txn_law.specs.Core.{CoreState, past}
use Rattle.txn_law.specs.CoreWindow.{held_of}
use Rattle.txn_law.specs.HomeRead.{IsReadable}
use Rattle.txn_law.specs.Window.{Footprint, IsWindowOver, after_commits, at_installed, opening}
use Rattle.txn_law.proofs.Commits.{after_commits-append, past-drop}
use Rattle.store_promise.specs.OpenSince.{IsOpenSince, IsSoundCore, blocks_after, file_blocks}
use Rattle.store_promise.specs.OpenStore.{HasFilesOver, IsChain, IsOpenOver}
use Rattle.store_promise.proofs.Chains.{after_both, chain_past, stamps_past}
use Rattle.store_promise.proofs.HomesAfter.{homes_after}
use Rattle.store_promise.proofs.Stopped.{no_change}

-- ---- what is home after a call of the installer follows from the commits that are home by then

some_taken : (count step : ℕ) → (count ≡ 0 → step ≡ 0) → count + 2 ≤ step → 0 < count
some_taken zero step rests far = absurd (let none : step ≡ 0 = rests refl in omega (arith, none, far))
some_taken (suc count) step rests far = omega arith

module _ (base : Image) (log : Log) (commits : List Footprint) (held : List (ℕ × Content))
    (lawful : IsLawful log) (window : IsWindowOver base log commits held) (block : ℕ) where
  abbrev HasMoved : Image → Log → Type 0
  HasMoved home new = opening home new block
      ≡ after_commits (opening base log) (take (installed_place new - installed_place log) commits) block

  stays : (new : Log) → new.changes ≡ log.changes → new.places ≡ log.places → HasMoved base new
  stays new changes places =
      let as_it_was : installed_place new ≡ installed_place log =
      ap (λ (xs : List LogChange). place_before xs new.places) changes
      ∙ ap (λ (n : ℕ). place_before log.changes n) places in
      let none : installed_place new - installed_place log ≡ 0 = omega (arith, as_it_was) in
      ap (λ (xs : List LogChange). with_changes base (recovered xs) block) changes
      ∙ sym (ap (λ (k : ℕ). after_commits (opening base log) (take k commits) block) none)

  stepped : (step : ℕ) → log.inst_step < log.installing + 2
      → HasMoved (home_after base log true) (record log { inst_step = step; inst_out = false })
  stepped step early =
      let unchanged : home_after base log true ≡ base =
      ap (λ (t : Bool). if t then with_changes base (take log.installing log.changes) else base)
      (lt-leb (log.installing + 2) log.inst_step early) in
      subst (λ (home : Image). HasMoved home (record log { inst_step = step; inst_out = false }))
      (sym unchanged)
      (stays (record log { inst_step = step; inst_out = false }) refl refl)

  ended : log.installing + 2 ≤ log.inst_step → HasMoved (home_after base log true) (with_installed log)
  ended far =
      let changed : home_after base log true ≡ with_changes base (take log.installing log.changes) =
      ap (λ (t : Bool). if t then with_changes base (take log.installing log.changes) else base)
      (le-leb (log.installing + 2) log.inst_step far) in
      let rests : log.installing ≡ 0 → log.inst_step ≡ 0 = λ none. (lawful.inst_idle none).0 in
      let clean : recovered (drop log.installing log.changes) ≡ [] =
      window.opened (some_taken log.installing log.inst_step rests far) in
      subst (λ (home : Image). HasMoved home (with_installed log)) (sym changed)
      (ap (λ (xs : List LogChange). with_changes (with_changes base (take log.installing log.changes))
      xs block) clean
      ∙ window.group log.installing (at_installed refl) clean block)

  later : (t : Bool) → nat_lt log.inst_step (log.installing + 2) ≡ t
      → HasMoved (home_after base log true)
      (if t then record log { inst_step = log.inst_step + 1; inst_out = false }
      else with_installed log)
  later true is = stepped (log.inst_step + 1) (ltb-true log.inst_step (log.installing + 2) is)
  later false is = ended (ltb-false log.inst_step (log.installing + 2) is)

  made : (t : Bool) → nat_lt log.inst_step log.installing ≡ t → HasMoved (home_after base log true) (if t
      then record log { inst_step = next_home log.changes log.installing (log.inst_step + 1); inst_out = false }
      else if nat_lt log.inst_step (log.installing + 2)
      then record log { inst_step = log.inst_step + 1; inst_out = false }
      else with_installed log)
  made true is =
      let early = ltb-true log.inst_step log.installing is in
      stepped (next_home log.changes log.installing (log.inst_step + 1)) (omega (arith, early))
  made false is = later (nat_lt log.inst_step (log.installing + 2)) refl

  pub home_moves : (ok : Bool) → HasMoved (home_after base log ok) (with_inst_back log ok)
  home_moves true = made (nat_lt log.inst_step log.installing) refl
  home_moves false = stays (record log { inst_out = false; broken = true }) refl refl

-- no block before the homes is brought there
super_stays : (base : Image) (log : Log) (ok : Bool) → IsLawful log
    → home_after base log ok SUPER_BLOCK ≡ base SUPER_BLOCK
super_stays base log ok lawful = go (ok && nat_le (log.installing + 2) log.inst_step)
  where
    go : (t : Bool) → (if t then with_changes base (take log.installing log.changes) else base) SUPER_BLOCK
        ≡ base SUPER_BLOCK
    go true = ap (λ (o : Option Content). content_or o (base SUPER_BLOCK))
        (no_change log.blocks SUPER_BLOCK (λ from _. omega (arith, from)) log.changes
        log.installing lawful.homes)
    go false = refl

-- ---- so the store is open over it

module _ (base : Image) (d : Device) (old new : CoreState) (logging installing : Pending) (ok : Bool) (boot : ℕ)
    (first last : Tree) (entries : List Entry)
    (since : IsOpenSince base d old logging installing boot first entries last)
    (back : new.log ≡ with_inst_back old.log ok)
    (records : new.records ≡ past (installed_place new.log) old.records) where
  abbrev files : HasFilesOver base old boot since.home (drop (installed_place old.log) entries) last
  files = since.over.files

  abbrev g : Geometry
  g = files.super.geometry

  abbrev homes : Image
  homes = homes_of old.log.blocks (opening base old.log)

  abbrev home : Image
  home = home_after base old.log ok

  -- how many more are home
  abbrev n : ℕ
  n = installed_place new.log - installed_place old.log

  pub gone : HasGoneOn old.log new.log
  gone = subst (λ (log : Log). HasGoneOn old.log log) (sym back)
      (seen_inst_done old.log true ok since.over.lawful)

  records_are : new.records ≡ drop n old.records
  records_are =
      let same : (installed_place new.log + 1) - (installed_place old.log + 1) ≡ n = omega arith in
      records ∙ past-drop (installed_place old.log + 1) (installed_place new.log) old.records
      files.home.window.placed
      ∙ ap (λ (k : ℕ). drop k old.records) same

  there : (block : ℕ) → IsOutside old.log.blocks block
      → opening home new.log block ≡ after_commits (opening base old.log) (take n old.records) block
  there block outside =
      subst (λ (log : Log). opening home log block
      ≡ after_commits (opening base old.log)
      (take (installed_place log - installed_place old.log) old.records) block) (sym back)
      (home_moves base old.log old.records (held_of old.present) since.over.lawful files.home.window block ok)

  homes_are : after_commits homes (take n old.records) ≡ homes_of new.log.blocks (opening home new.log)
  homes_are =
      sym (ap (λ (k : ℕ). homes_of k (opening home new.log)) gone.blocks
      ∙ homes_after base old since.over.lawful files.home n (opening home new.log) there)

  pub earlier_then : (count : ℕ) → blocks_after home new count ≡ blocks_after base old (n + count)
  earlier_then count =
      ap (λ (image : Image). after_commits image (take count new.records)) (sym homes_are)
      ∙ ap (λ (rs : List Footprint). after_commits (after_commits homes (take n old.records)) (take count rs))
      records_are
      ∙ sym (after_commits-append homes (take n old.records) (take count (drop n old.records)))
      ∙ ap (λ (rs : List Footprint). after_commits homes rs) (sym (take-add n count old.records))

  pub blocks_then : file_blocks home new ≡ file_blocks base old
  blocks_then = ap (λ (image : Image). after_commits image new.records) (sym homes_are)
      ∙ ap (λ (rs : List Footprint). after_commits (after_commits homes (take n old.records)) rs) records_are
      ∙ sym (after_commits-append homes (take n old.records) (drop n old.records))
      ∙ ap (λ (rs : List Footprint). after_commits homes rs) (take-append-drop n old.records)

  module _ (inodes : new.inodes ≡ old.inodes) (boot_same : new.boot ≡ old.boot) (sound : IsSoundCore home new)
      (agrees : AgreesWithPending d home new.log logging idle)
      (readable : IsReadable d new.log idle) where
    further : installed_place old.log + n ≡ installed_place new.log
    further = let a = gone.installed in omega (arith, a)

    few : n ≤ length old.records
    few =
        let a = place_le new.log.changes new.log.places 0 sound.lawful.rising in
        let b = files.home.window.all in
        let c = gone.places in
        omega (arith, a, b, c)

    abbrev left : List Entry
    left = drop (installed_place old.log) entries

    rest : (middle : Tree) × after since.home (take n left) middle
        × IsChain g (after_commits homes (take n old.records)) middle (drop n old.records) (drop n left) last
    rest = chain_past g homes since.home old.records left last n files.chain few

    files_then : HasFilesOver home new boot rest.0 (drop n left) last
    files_then = record {
      home = sound.home;
      super = files.super;
      is_super = subst (λ (content : Content). IsSuper content files.super)
          (sym (super_stays base old.log ok since.over.lawful)) files.is_super;
      boot_is = files.boot_is;
      newest = files.newest;
      blocks_are = files.blocks_are ∙ sym gone.blocks;
      inodes_are = files.inodes_are ∙ sym inodes;
      chain = subst (λ (rs : List Footprint). IsChain g
          (homes_of new.log.blocks (opening home new.log)) rest.0 rs (drop n left) last) (sym records_are)
          (subst (λ (image : Image). IsChain g image rest.0 (drop n old.records) (drop n left) last)
          homes_are rest.2);
      stamps = stamps_past boot left since.home rest.0 n files.stamps rest.1;
    }

    pub open_over : IsOpenSince home d new logging idle boot first entries last
    open_over = record {
      counted = since.counted ∙ sym gone.places;
      boot_is = boot_same ∙ since.boot_is;
      home = rest.0;
      leads = subst (λ (k : ℕ). after first (take k entries) rest.0) further
          (after_both first since.home rest.0 (installed_place old.log) n entries since.leads rest.1);
      over = subst (λ (es : List Entry). IsOpenOver home d new logging idle boot rest.0 es last)
          (drop-drop n (installed_place old.log) entries ∙ ap (λ (k : ℕ). drop k entries) further)
          (record {
            lawful = sound.lawful;
            agrees = agrees;
            readable = readable;
            well_formed = sound.well_formed;
            files = files_then;
          });
    }

-- Steps that leave the log's changes and the commits as they are leave a store open.
use Rattle.std.proofs.Common.{◌≡◌, ℕ, ◌+◌, ap, sym, ◌∙◌, refl, subst}
use Rattle.std.proofs.Common.{Bool, true, false, if◌then◌else◌, nat_eq, nat_lt, List, take, drop}
use Rattle.disk.specs.Crash.{Image}
use Rattle.disk.specs.Device.{Device}
use Rattle.nfs_spec.specs.Model.Entry.{Entry}
use Rattle.nfs_spec.specs.Procedures.After.{after}
use Rattle.nfs_spec.specs.Model.Tree.{Tree}
use Rattle.layout.specs.Homes.{homes_of}
use Rattle.circ.specs.declared.log.change.LogChange.{LogChange}
use Rattle.circ.specs.Log.Grows.{recovered}
use Rattle.circ.specs.Log.Calls.{AgreesWithPending, Pending}
use Rattle.circ.specs.Log.Installer.{next_home, with_inst_out}
use Rattle.circ.specs.Log.Law.{with_changes}
use Rattle.circ.specs.Log.Log.{Log, installed_place, place_before}
use Rattle.circ.specs.Log.Logger.{with_log_back, with_log_out}
use Rattle.txn_law.specs.Core.{CoreState}
use Rattle.txn_law.specs.CoreWindow.{IsHomeOf}
use Rattle.txn_law.specs.HomeRead.{IsReadable}
use Rattle.txn_law.specs.Window.{Footprint, after_commits, opening}
use Rattle.store_promise.specs.OpenSince.{IsOpenSince, IsSoundCore, file_blocks}
use Rattle.store_promise.specs.OpenStore.{HasFilesOver, IsChain, IsOpenOver}

-- ---- a log with the same changes

pub record HasSameChanges (old new : Log) : Type 0 where
  pub blocks : new.blocks ≡ old.blocks
  pub changes : new.changes ≡ old.changes
  pub places : new.places ≡ old.places

pub same_changes : (log new : Log) → new ≡ log → HasSameChanges log new
same_changes log new is = record {
  blocks = ap (λ (l : Log). l.blocks) is;
  changes = ap (λ (l : Log). l.changes) is;
  places = ap (λ (l : Log). l.places) is;
}

pub log_out_same : (log : Log) → HasSameChanges log (with_log_out log)
log_out_same log = record { blocks = refl; changes = refl; places = refl }

log_made_same : (log : Log) (t : Bool) → HasSameChanges log (if t
    then record log { logged = log.logged + log.taken; taken = 0; log_step = 0; log_out = false }
    else record log { log_step = log.log_step + 1; log_out = false })
log_made_same log true = record { blocks = refl; changes = refl; places = refl }
log_made_same log false = record { blocks = refl; changes = refl; places = refl }

pub log_back_same : (log : Log) (ok : Bool) → HasSameChanges log (with_log_back log ok)
log_back_same log true = log_made_same log (nat_eq log.log_step (log.taken + 2))
log_back_same log false = record { blocks = refl; changes = refl; places = refl }

pub log_given_same : (log : Log) (is_out ok : Bool)
    → HasSameChanges log (if is_out then with_log_back log ok else log)
log_given_same log true ok = log_back_same log ok
log_given_same log false ok = record { blocks = refl; changes = refl; places = refl }

inst_taken_same : (log : Log) (t : Bool) → HasSameChanges log (if t then record log { inst_out = true }
    else record log {
      installing = log.logged;
      inst_step = next_home log.changes log.logged 0;
      inst_out = true;
    })
inst_taken_same log true = record { blocks = refl; changes = refl; places = refl }
inst_taken_same log false = record { blocks = refl; changes = refl; places = refl }

pub inst_out_same : (log : Log) → HasSameChanges log (with_inst_out log)
inst_out_same log = inst_taken_same log (nat_lt 0 log.installing)

-- ---- a core with the same commits

pub record HasSame (old new : CoreState) : Type 0 where
  pub log : HasSameChanges old.log new.log
  pub inodes : new.inodes ≡ old.inodes
  pub records : new.records ≡ old.records
  pub boot : new.boot ≡ old.boot

module _ (base : Image) (old new : CoreState) (same : HasSame old new) where
  pub homes_same : homes_of old.log.blocks (opening base old.log) ≡ homes_of new.log.blocks
      (opening base new.log)
  homes_same = sym (ap (λ (n : ℕ). homes_of n (opening base new.log)) same.log.blocks
      ∙ ap (λ (changes : List LogChange). homes_of old.log.blocks (with_changes base (recovered changes)))
      same.log.changes)

  pub files_same : (boot : ℕ) (tree last : Tree) (entries : List Entry)
      → HasFilesOver base old boot tree entries last → IsHomeOf base new
      → HasFilesOver base new boot tree entries last
  files_same boot tree last entries files home = record {
    home = home;
    super = files.super;
    is_super = files.is_super;
    boot_is = files.boot_is;
    newest = files.newest;
    blocks_are = files.blocks_are ∙ sym same.log.blocks;
    inodes_are = files.inodes_are ∙ sym same.inodes;
    chain = subst (λ (rs : List Footprint). IsChain files.super.geometry
        (homes_of new.log.blocks (opening base new.log)) tree rs entries last) (sym same.records)
        (subst (λ (image : Image). IsChain files.super.geometry image tree old.records entries last) homes_same
        files.chain);
    stamps = files.stamps;
  }

  pub blocks_same : file_blocks base new ≡ file_blocks base old
  blocks_same = ap (λ (image : Image). after_commits image new.records) (sym homes_same)
      ∙ ap (λ (rs : List Footprint). after_commits (homes_of old.log.blocks (opening base old.log))
      rs) same.records

  pub installed_same : installed_place new.log ≡ installed_place old.log
  installed_same = ap (λ (changes : List LogChange). place_before changes new.log.places) same.log.changes
      ∙ ap (λ (n : ℕ). place_before old.log.changes n) same.log.places

  module _ (d e : Device) (logging installing logged_next installing_next : Pending) (boot : ℕ)
      (first last : Tree) (entries : List Entry)
      (since : IsOpenSince base d old logging installing boot first entries last) (sound : IsSoundCore base new)
      (agrees : AgreesWithPending e base new.log logged_next installing_next)
      (readable : IsReadable e new.log installing_next) where
    still_over : IsOpenOver base e new logged_next installing_next boot since.home
        (drop (installed_place old.log) entries) last
    still_over = record {
      lawful = sound.lawful;
      agrees = agrees;
      readable = readable;
      well_formed = sound.well_formed;
      files = files_same boot since.home last (drop (installed_place old.log) entries)
          since.over.files sound.home;
    }

    pub still_open : IsOpenSince base e new logged_next installing_next boot first entries last
    still_open = record {
      counted = since.counted ∙ sym same.log.places;
      boot_is = same.boot ∙ since.boot_is;
      home = since.home;
      leads = subst (λ (n : ℕ). after first (take n entries) since.home) (sym installed_same) since.leads;
      over = subst (λ (n : ℕ). IsOpenOver base e new logged_next installing_next boot since.home
          (drop n entries) last) (sym installed_same) still_over;
    }

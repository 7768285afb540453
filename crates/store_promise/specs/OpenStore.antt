-- What holds of an open store at each moment: its device, its core, and the files that these are.
use Rattle.std.specs.Prelude.{◌≡◌, ℕ, ◌-◌, ◌≤◌, false, List, [], ◌∷◌, take}
use Rattle.base.specs.declared.TheConstants.{SUPER_BLOCK}
use Rattle.disk.specs.Crash.{Image}
use Rattle.disk.specs.Device.{Device}
use Rattle.nfs_spec.specs.Model.Entry.{Entry}
use Rattle.nfs_spec.specs.Procedures.After.{after}
use Rattle.nfs_spec.specs.Model.Sound.{IsMadeBy}
use Rattle.nfs_spec.specs.Procedures.Step.{step}
use Rattle.nfs_spec.specs.Model.Tree.{Tree}
use Rattle.layout.specs.declared.geometry.Geometry.{Geometry}
use Rattle.layout.specs.declared.super_block.Super.{Super}
use Rattle.layout.specs.declared.version.FormatVersion.TheVariants.{Second}
use Rattle.layout.specs.Homes.{homes_of}
use Rattle.layout.specs.Stands.{Stands}
use Rattle.layout.specs.SuperForm.{IsSuper}
use Rattle.circ.specs.Log.Calls.{AgreesWithPending, Pending, idle}
use Rattle.circ.specs.Log.Log.{IsLawful, Log, installed_place, settled_place}
use Rattle.txn_law.specs.Core.{CoreState}
use Rattle.txn_law.specs.CoreWindow.{IsHomeOf}
use Rattle.txn_law.specs.HomeRead.{IsReadable}
use Rattle.txn_law.specs.WellFormed.{IsWellFormed}
use Rattle.txn_law.specs.Window.{Footprint, opening, with_objects}

-- From blocks that stand for a tree each commit in turn leads to blocks that stand for the tree after its
-- entry, one step of the sequential server further. The last tree is that after all of them.
abbrev pub IsChain : Geometry → Image → Tree → List Footprint → List Entry → Tree → Type 0
IsChain g blocks tree [] [] last = Stands g blocks tree × (last ≡ tree)
IsChain g blocks tree (commit ∷ commits) (entry ∷ entries) last =
    Stands g blocks tree × (next : Tree) × step tree entry.ctx entry.call entry.reply next
    × IsChain g (with_objects blocks commit.written) next commits entries last
IsChain g blocks tree [] (entry ∷ entries) last = ⊥
IsChain g blocks tree (commit ∷ commits) [] last = ⊥

-- What the files are, over what is at home, which is whole: the commits that aren't installed lead on from
-- there, and each has its entry; and the super block at home is that of this boot, of the newest version of the
-- format. The entries are those since the tree.
pub record HasFilesOver (base : Image) (core : CoreState) (boot : ℕ) (tree : Tree) (entries : List Entry)
    (last : Tree) : Type 0 where
  pub home : IsHomeOf base core
  pub super : Super
  pub is_super : IsSuper (base SUPER_BLOCK) super
  pub boot_is : super.boot ≡ boot
  pub newest : super.geometry.version ≡ Second
  pub blocks_are : super.geometry.blocks ≡ core.log.blocks
  pub inodes_are : super.geometry.inodes ≡ core.inodes
  pub chain : IsChain super.geometry (homes_of core.log.blocks (opening base core.log)) tree
      core.records entries last
  pub stamps : (count : ℕ) (left : Tree) → after tree (take count entries) left → IsMadeBy boot left

-- A store is open over what is at home: the device agrees with the log beside the calls that are out, and
-- what is held agrees with what is in memory.
pub record IsOpenOver (base : Image) (d : Device) (core : CoreState) (logging installing : Pending) (boot : ℕ)
    (tree : Tree) (entries : List Entry) (last : Tree) : Type 0 where
  pub lawful : IsLawful core.log
  pub agrees : AgreesWithPending d base core.log logging installing
  pub readable : IsReadable d core.log installing
  pub well_formed : IsWellFormed core
  pub files : HasFilesOver base core boot tree entries last

-- the boot number is this
abbrev pub IsBoot : ℕ → ℕ → Type 0
IsBoot boot found = found ≡ boot

-- the entry of a place since the tree is settled, where those that are home aren't counted
abbrev pub IsSettledOf : Log → ℕ → Type 0
IsSettledOf log place = place ≤ settled_place log - installed_place log

-- What an opening is to leave of a core, over what is at home: the device agrees with it, nothing is in the log
-- or in memory, no commit was made, no transaction begun, no memory refused to one, and nothing has failed.
pub record IsNewOver (base : Image) (d : Device) (core : CoreState) : Type 0 where
  pub lawful : IsLawful core.log
  pub agrees : AgreesWithPending d base core.log idle idle
  pub readable : IsReadable d core.log idle
  pub well_formed : IsWellFormed core
  pub home : IsHomeOf base core
  pub changes : core.log.changes ≡ []
  pub records : core.records ≡ []
  pub present : core.present ≡ []
  pub begun : core.begun ≡ 0
  pub refused : core.refused ≡ 0
  pub places : core.log.places ≡ 0
  pub sound : core.log.broken ≡ false
  pub newest : (super : Super) → IsSuper (base SUPER_BLOCK) super → super.geometry.version ≡ Second
  pub inodes : (super : Super) → IsSuper (base SUPER_BLOCK) super → super.geometry.inodes ≡ core.inodes
  pub boot : (super : Super) → IsSuper (base SUPER_BLOCK) super → super.boot ≡ core.boot

-- What a replay of a history's entries comes to.
use Rattle.std.specs.Prelude.{◌≡◌, ℕ, ◌+◌, ◌<◌, ◌≤◌, Bool, true, false, List, [], ◌∷◌, take, Result, Ok, Err}
use Rattle.disk.specs.Device.{Device}
use Rattle.nfs_types.specs.Fits.{CallFits}
use Rattle.nfs_types.specs.declared.call.Call.{Call}
use Rattle.nfs_types.specs.declared.ctx.Ctx.{Ctx}
use Rattle.nfs_types.specs.declared.reply.Reply.{Reply}
use Rattle.nfs_spec.specs.Model.Calls.{begins_transaction}
use Rattle.nfs_spec.specs.Model.Sound.{SoundTime}
use Rattle.nfs_spec.specs.Model.Tree.{Tree}
use Rattle.nfs_spec.specs.Procedures.Step.{step}
use Rattle.layout.specs.declared.geometry.Geometry.{Geometry}
use Rattle.store_promise.specs.declared.fault.OpenFault.{OpenFault}
use Rattle.store_promise.specs.declared.fault.OpenFault.TheVariants as fault
use Rattle.store_promise.specs.Openings.{IsBootOf, IsCauseOf}
use Rattle.store_images.specs.Opening.{HoldsTree}
use Rattle.store_images.specs.Replays.AtHome.{HoldsAtHome}

-- ---- entries

-- the call of an entry can be spelled, and comes at a moment of less than a second of nanoseconds
pub record CanBeReplayed (entry : Ctx × Call) : Type 0 where
  pub timely : SoundTime entry.0.moment
  pub spelled : CallFits entry.1

-- its context is of no later boot than this
abbrev pub IsOfBoot : ℕ → Ctx × Call → Type 0
IsOfBoot boot entry = entry.0.boot ≤ boot

-- A call leads from a tree to another by a step of the sequential server in its context, whatever that replies; one that
-- begins no transaction leads nowhere.
abbrev pub leads : Bool → Tree → Ctx → Call → Tree → Type 0
leads true tree ctx call next = (reply : Reply) × step tree ctx call reply next
leads false tree ctx call next = next ≡ tree

-- the entries lead from a tree to another, one after another, each in its own context
abbrev pub after_entries : Tree → List (Ctx × Call) → Tree → Type 0
after_entries tree [] last = last ≡ tree
after_entries tree (entry ∷ entries) last = (next : Tree)
    × leads (begins_transaction entry.1) tree entry.0 entry.1 next × after_entries next entries last

-- ---- what comes of them

-- Entries went through on an image that is at home, or a beginning of them where memory was refused.
abbrev pub GoesThrough : Geometry → Device → Tree → ℕ → List (Ctx × Call) → Result Unit OpenFault → Type 0
GoesThrough g later tree boot entries (Ok _) =
    (last : Tree) × after_entries tree entries last × HoldsAtHome g later last boot
GoesThrough g later tree boot entries (Err (fault.NoMemory error)) = (count : ℕ) × (left : Tree)
    × after_entries tree (take count entries) left × HoldsAtHome g later left boot
GoesThrough g later tree boot entries (Err cause) = Unit {0}

-- A device holds the tree after a beginning of the entries, with the boot number before the replay or that of it.
pub record HoldsBeginning (later : Device) (tree : Tree) (first : ℕ) (entries : List (Ctx × Call)) : Type 0 where
  pub count : ℕ
  pub left : Tree
  pub transition : after_entries tree (take count entries) left
  pub boot : ℕ
  pub boot_is : IsBootOf first boot
  pub holds : HoldsTree later left boot

-- What comes of a replay on a device that holds this tree with this boot number: it holds the tree that the entries lead
-- to, with the next one; or a device call failed; or there is another cause that a good image may have, and a beginning of
-- the entries was replayed.
abbrev pub ComesOfReplay : Device → Device → Tree → ℕ → List (Ctx × Call) → Result Unit OpenFault → Type 0
ComesOfReplay before later tree first entries (Ok _) =
    (last : Tree) × after_entries tree entries last × HoldsTree later last (first + 1)
ComesOfReplay before later tree first entries (Err fault.Device) = before.failures < later.failures
ComesOfReplay before later tree first entries (Err cause) =
    IsCauseOf cause before later first × HoldsBeginning later tree first entries

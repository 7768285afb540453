-- Entries that lead on, one after another.
use Rattle.std.proofs.Common.{◌≡◌, ◌∙◌, refl, sym, ap, subst, ℕ, ◌+◌, ◌<◌, arith, List, [], ◌∷◌, ◌++◌, length, take, get_or, alloc_error}
use Rattle.std.proofs.Common.{Ok, Err, Result, inl, inr}
use Rattle.std.specs.Prelude.{MatchResult}
use Rattle.std.specs.Result.{IsErrOf}
use Rattle.std.proofs.lemmas.List.{take_more}
use Rattle.disk.specs.Device.{Device}
use Rattle.nfs_types.specs.declared.call.Call.{Call}
use Rattle.nfs_types.specs.declared.ctx.Ctx.{Ctx}
use Rattle.nfs_spec.specs.Model.Calls.{begins_transaction}
use Rattle.nfs_spec.specs.Model.Tree.{Tree}
use Rattle.layout.specs.declared.geometry.Geometry.{Geometry}
use Rattle.store_promise.specs.declared.fault.OpenFault.{OpenFault}
use Rattle.store_promise.specs.declared.fault.OpenFault.TheVariants as fault
use Rattle.store_images.specs.Opening.{HoldsTree}
use Rattle.store_images.specs.Replays.AtHome.{Begins, HoldsAtHome, IsFailure}
use Rattle.store_images.specs.Replays.Replayed.{ComesOfReplay, GoesThrough, HoldsBeginning, after_entries, leads}
use Rattle.circ.specs.Log.Recovery.{HasOnlyRead}
use Rattle.store_images.proofs.ReplaysLemmas.AtHome.{holds_tree, home_then}

one_more : (tree middle next : Tree) (entries : List (Ctx × Call)) (entry : Ctx × Call)
    → after_entries tree entries middle → leads (begins_transaction entry.1) middle entry.0 entry.1 next
    → after_entries tree (entries ++ entry ∷ []) next
one_more tree middle next [] entry before transition = (
  next,
  subst (λ t. leads (begins_transaction entry.1) t entry.0 entry.1 next) before transition,
  refl,
)
one_more tree middle next (first ∷ entries) entry before transition =
    (before.0, before.1, one_more before.0 middle next entries entry before.2 transition)

pub entries_more : (tree middle next : Tree) (entries : List (Ctx × Call)) (index : ℕ) (entry : Ctx × Call)
    → index < length entries → entry ≡ get_or entries index entry → after_entries tree (take index entries) middle
    → leads (begins_transaction entry.1) middle entry.0 entry.1 next
    → after_entries tree (take (index + 1) entries) next
entries_more tree middle next entries index entry less is before transition =
    subst (λ es. after_entries tree es next)
    (ap (λ (x : Ctx × Call). take index entries ++ x ∷ []) is ∙ sym (take_more entries index entry less))
    (one_more tree middle next (take index entries) entry before transition)

-- an entry failed behind others
pub goes_so_far : (g : Geometry) (mid later : Device) (tree left : Tree) (boot : ℕ) (entries : List (Ctx × Call))
    (index : ℕ) (cause : OpenFault) → after_entries tree (take index entries) left → HoldsAtHome g mid left boot
    → (IsErrOf {T = Unit {0}} (Err cause) (fault.NoMemory alloc_error) → HasOnlyRead mid later)
    → GoesThrough g later tree boot entries (Err cause)
goes_so_far g mid later tree left boot entries index (fault.NoMemory error) transition holds reads =
    (index, left, transition, home_then g mid later left boot (reads refl) holds)
goes_so_far g mid later tree left boot entries index fault.Device transition holds reads = tt
goes_so_far g mid later tree left boot entries index fault.Magic transition holds reads = tt
goes_so_far g mid later tree left boot entries index fault.Version transition holds reads = tt
goes_so_far g mid later tree left boot entries index fault.Range transition holds reads = tt
goes_so_far g mid later tree left boot entries index fault.Log transition holds reads = tt

-- ---- what comes of all

-- nothing was replayed yet
pub none_replayed : (later : Device) (tree : Tree) (first : ℕ) (entries : List (Ctx × Call))
    → HoldsTree later tree first → HoldsBeginning later tree first entries
none_replayed later tree first entries holds = record {
  count = 0;
  left = tree;
  transition = refl;
  boot = first;
  boot_is = inl refl;
  holds = holds;
}

pub not_begun : (before later : Device) (tree : Tree) (first : ℕ) (entries : List (Ctx × Call)) (cause : OpenFault)
    → Begins before later tree first (Err cause) → ComesOfReplay before later tree first entries (Err cause)
not_begun before later tree first entries fault.Device begins = begins
not_begun before later tree first entries (fault.NoMemory error) begins =
    (begins.0, none_replayed later tree first entries begins.1)
not_begun before later tree first entries fault.Range begins =
    (begins.0, none_replayed later tree first entries begins.1)
not_begun before later tree first entries fault.Magic begins =
    (begins.0, none_replayed later tree first entries begins.1)
not_begun before later tree first entries fault.Version begins =
    (begins.0, none_replayed later tree first entries begins.1)
not_begun before later tree first entries fault.Log begins =
    (begins.0, none_replayed later tree first entries begins.1)

module _ (g : Geometry) (before mid later : Device) (tree : Tree) (first : ℕ) (entries : List (Ctx × Call))
    (same : mid.failures ≡ before.failures) where
  stopped : (cause : OpenFault) → IsFailure cause mid later
      → GoesThrough g later tree (first + 1) entries (Err cause)
      → ComesOfReplay before later tree first entries (Err cause)
  stopped fault.Device failed through = omega (arith, failed, same)
  stopped (fault.NoMemory error) failed through = (
    failed ∙ same,
    record {
      count = through.0;
      left = through.1;
      transition = through.2;
      boot = first + 1;
      boot_is = inr refl;
      holds = holds_tree g later through.1 (first + 1) through.3;
    },
  )
  stopped fault.Magic failed through = absurd failed
  stopped fault.Version failed through = absurd failed
  stopped fault.Range failed through = absurd failed
  stopped fault.Log failed through = absurd failed

  pub all_replayed : (result : Result Unit OpenFault)
      → MatchResult result (λ _. later.failures ≡ mid.failures) (λ cause. IsFailure cause mid later)
      → GoesThrough g later tree (first + 1) entries result
      → ComesOfReplay before later tree first entries result
  all_replayed (Ok _) failed through =
      (through.0, through.1, holds_tree g later through.0 (first + 1) through.2)
  all_replayed (Err cause) failed through = stopped cause failed through

-- Lemmas: what is in memory of a block that the log has is what the log has.
use Rattle.std.proofs.Common.{◌≡◌, ◌∙◌, true, false, List, [], Option, Some, None, All}
use Rattle.std.proofs.Common.{ℕ, refl, ap, sym, is_none, get_or}
use Rattle.std.proofs.lemmas.List.Elements.{All-map, All-weaker}
use Rattle.disk.specs.Device.{Content}
use Rattle.disk.specs.declared.block.BlockNo.{BlockNo}
use Rattle.objects.specs.Present.{present_of, is_pending, IsOnce, filled_in, filled}
use Rattle.objects.specs.declared.present.Present.{Present}
use Rattle.objects.proofs.Residents.{each_filled}
use Rattle.circ.specs.Log.Effects.{HasAppended, HasGoneOn, newest_in, brought_home}
use Rattle.circ.specs.Log.Log.{Log, newest, or_else, blocks_of as group_blocks}
use Rattle.txn_law.specs.Commit.{IsOwn, IsWrittenBy, Planned, refreshed_content, refreshed_resident, refreshed}
use Rattle.txn_law.specs.Core.{CoreState}
use Rattle.txn_law.specs.Group.{blocks_of, is_among}
use Rattle.txn_law.proofs.OverlaidContent.{among_group, among_after}
use Rattle.txn_law.proofs.WellFormedCommit.{none_lies, nothing, once_is}
use Rattle.txn.specs.Consistent.{IsAsLogged}
use Rattle.txn.specs.Refreshed.{renewed_each}
use Rattle.txn.proofs.Renewing.{each_newest, map_equal, refreshed_none, with_newest}

-- the logger or the installer has gone on
pub logged_on : (old new : Log) → HasGoneOn old new → (present : List Present) → All (IsAsLogged old) present
    → All (IsAsLogged new) present
logged_on old new on present h =
    All-weaker (IsAsLogged old) (IsAsLogged new)
    (λ resident fits content e. fits content (on.newest_content resident.block.0
    ∙ ap (λ (o : Option Content). or_else o (brought_home old resident.block.0)) e)) present h

-- a fetch was given back
pub logged_filled : (log : Log) (block : BlockNo) (content : Content) (present : List Present)
    → All (IsAsLogged log) present → All (IsAsLogged log) (filled present block content)
logged_filled log block content present h =
    each_filled block content (IsAsLogged log)
    (λ resident fits newer e. ap (λ (there : Option Content). filled_in there content) (fits newer e)) present h

-- a block whose fetch is pending isn't in the group
abbrev pub IsQuiet : List (BlockNo × Content) → Present → Type 0
IsQuiet group resident = resident.content ≡ None → newest_in group resident.block.0 ≡ None

-- no group of a change that is a transaction's own has such a block
pub quiet_in : (core : CoreState) (tx : ℕ) (plan : Planned) (group : List (BlockNo × Content))
    → IsOwn core tx plan → group_blocks group ≡ blocks_of plan.written → IsOnce core.present
    → All (IsQuiet group) core.present
quiet_in core tx plan group own blocks once =
    All-weaker (λ resident. present_of core.present resident.block ≡ Some resident) (IsQuiet group) quiet core.present
    (once_is core.present once)
  where
    quiet : (resident : Present) → present_of core.present resident.block ≡ Some resident → IsQuiet group resident
    quiet resident is e =
        let waits : is_pending (present_of core.present resident.block) ≡ true = ap is_pending is ∙ ap is_none e in
        nothing (newest_in group resident.block.0) (sym (among_group group resident.block)
        ∙ ap (is_among resident.block) blocks ∙ among_after resident.block [] plan.written
        ∙ none_lies core.present plan.written resident.block
        (All-weaker (λ object. IsWrittenBy core tx object.addr)
        (λ object. is_pending (present_of core.present object.addr.block) ≡ false) (λ object w. w.loaded)
        plan.written own.written) waits)

module _ (old new : Log) (group : List (BlockNo × Content)) (seen : HasAppended old group new) where
  -- the blocks in memory are what the log has once they are refreshed
  pub logged_with : (present : List Present) → All (IsQuiet group) present → All (IsAsLogged old) present
      → All (IsAsLogged new) (refreshed new present)
  logged_with present quiet h =
      All-map (IsAsLogged new) (refreshed_resident new) present
      (λ k d lt. each (get_or present k d) (quiet k d lt) (h k d lt))
    where
      each : (resident : Present) → IsQuiet group resident → IsAsLogged old resident
          → IsAsLogged new (refreshed_resident new resident)
      each resident silent fits content e = go resident.content refl
        where
          there : (o : Option Content) → newest old resident.block.0 ≡ o → resident.content ≡ None → o ≡ None
          there None is none = refl
          there (Some c) is none = absurd (let no : None ≡ Some c = sym none ∙ fits c is in cc)

          go : (o : Option Content) → resident.content ≡ o
              → refreshed_content resident.content (newest new resident.block.0) ≡ Some content
          go (Some c) is =
              ap (λ (o : Option Content). refreshed_content o (newest new resident.block.0)) is
              ∙ ap (refreshed_content (Some c)) e
          go None none = absurd (let no : None ≡ Some content =
              sym (seen.newest_content resident.block.0
              ∙ ap (λ (o : Option Content). or_else o (newest old resident.block.0)) (silent none)
              ∙ there (newest old resident.block.0) refl none) ∙ e in cc)

  -- and that's what they are with the contents of the group
  pub refreshed_is : (present : List Present) → All (IsAsLogged old) present
      → renewed_each present group ≡ refreshed new present
  refreshed_is present h =
      each_newest group present
      ∙ map_equal (with_newest group) (refreshed_resident new) present
      (All-weaker (IsAsLogged old) (λ resident. with_newest group resident ≡ refreshed_resident new resident)
      each present h)
    where
      as_it_was : (resident : Present) → IsAsLogged old resident → (o : Option Content)
          → newest old resident.block.0 ≡ o → resident.content ≡ refreshed_content resident.content o
      as_it_was resident fits None is = refreshed_none resident.content
      as_it_was resident fits (Some c) is =
          fits c is ∙ sym (ap (λ (there : Option Content). refreshed_content there (Some c)) (fits c is))

      go : (resident : Present) → IsAsLogged old resident → (o : Option Content)
          → refreshed_content resident.content o
          ≡ refreshed_content resident.content (or_else o (newest old resident.block.0))
      go resident fits None =
          sym (refreshed_none resident.content) ∙ as_it_was resident fits (newest old resident.block.0) refl
      go resident fits (Some content) = refl

      each : (resident : Present) → IsAsLogged old resident → with_newest group resident ≡ refreshed_resident new resident
      each resident fits =
          ap (λ (content : Option Content). record { block = resident.block; content = content })
          (go resident fits (newest_in group resident.block.0)
          ∙ ap (refreshed_content resident.content) (sym (seen.newest_content resident.block.0)))

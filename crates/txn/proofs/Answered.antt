-- Lemmas: what each answer of the core leaves, and what may be at home then.
use Rattle.std.proofs.Common.{◌≡◌, ℕ, List, sym, ap, subst, ◌∙◌}
use Rattle.objects.specs.declared.addr.Addr.{Addr}
use Rattle.objects.specs.declared.mode.Mode.{Mode}
use Rattle.circ.specs.Log.Log.{IsLawful, newest}
use Rattle.txn_law.specs.Commit.{Planned, with_record, refreshed_content}
use Rattle.txn_law.specs.Core.{CoreState, with_refused, without}
use Rattle.txn_law.specs.CoreLaw.{IsLawfulCore}
use Rattle.txn_law.specs.CoreWindow.{IsHomeOf, PreservesHome, PreservesReads, SetsOnly}
use Rattle.txn_law.specs.Leaves.{Leaves, taken_by, is_fetching, in_memory, but_by}
use Rattle.objects.specs.Object.{ObjectBytes}
use Rattle.txn_law.specs.WellFormed.{IsWellFormed}
use Rattle.txn_law.proofs.CoreLaws.{home_held, home_fetch, home_claim, home_refused}
use Rattle.txn_law.proofs.HeldReads.{reads_held, reads_fetch, reads_claim, reads_refused}
use Rattle.txn_law.proofs.Homes.{commit_home, commit_sets}
use Rattle.txn_law.proofs.OtherReads.{reads_commit}
use Rattle.txn_law.proofs.Leaves.{leaves_held, leaves_fetch, leaves_claim, leaves_commit}
use Rattle.txn.specs.Exactly.{IsWantedExactly, IsClaimedExactly, TakesPlaceExactly, IsCommitExactly}
use Rattle.txn.specs.Outcomes.{IsWanted, IsClaimed, TakesPlace, IsCommit, IsSetBy, unbegun}
use Rattle.txn.specs.declared.outcomes.BeginFault.{BeginFault}
use Rattle.txn.specs.declared.outcomes.BeginFault.TheVariants as begin_fault
use Rattle.txn.specs.declared.outcomes.Want.{Want}
use Rattle.txn.specs.declared.outcomes.Want.TheVariants as want
use Rattle.txn.specs.declared.outcomes.Claim.{Claim}
use Rattle.txn.specs.declared.outcomes.Claim.TheVariants as claim
use Rattle.txn.specs.declared.outcomes.Commit.{Commit}
use Rattle.txn.specs.declared.outcomes.Commit.TheVariants as commit

-- the image's counts stay where the log goes on over the same blocks
pub log_counts : (K : ℕ → ℕ → Type 0) (old new : CoreState) → new.log.blocks ≡ old.log.blocks
    → new.inodes ≡ old.inodes → K old.log.blocks old.inodes → K new.log.blocks new.inodes
log_counts K old new blocks inodes k =
    subst (λ (n : ℕ). K n new.inodes) (sym blocks) (subst (λ (n : ℕ). K old.log.blocks n) (sym inodes) k)

same_home : (old new : CoreState) → new ≡ old → PreservesHome old new
same_home old new e base h = subst (λ (core : CoreState). IsHomeOf base core) (sym e) h

refused_home : (old new : CoreState) → new ≡ with_refused old → PreservesHome old new
refused_home old new e base h = subst (λ (core : CoreState). IsHomeOf base core) (sym e) (home_refused old base h)

-- what holds of a core, whether memory was refused or not, holds of what is left where no transaction was begun
pub unbegun_by : (P : CoreState → Type 0) (why : BeginFault) (core : CoreState) → P core → P (with_refused core)
    → P (unbegun why core)
unbegun_by P begin_fault.Broken core same refused = same
unbegun_by P begin_fault.Spent core same refused = same
unbegun_by P (begin_fault.NoMemory error) core same refused = refused

pub wanted_home : (old new : CoreState) (tx : ℕ) (addr : Addr) (mode : Mode) (answer : Want)
    → IsWantedExactly old tx addr mode answer new → PreservesHome old new
wanted_home old new tx addr mode (want.Held back bytes) h = home_held old new tx addr mode bytes h.2
wanted_home old new tx addr mode (want.Fetch back io) h = home_fetch old new tx addr mode io h.2
wanted_home old new tx addr mode (want.Busy back) h = same_home old new h.2
wanted_home old new tx addr mode (want.Loading back) h = same_home old new h.2
wanted_home old new tx addr mode (want.Outside back) h = same_home old new h.2
wanted_home old new tx addr mode (want.NoMemory back error) h = refused_home old new h.2

pub claimed_home : (old new : CoreState) (tx : ℕ) (addr : Addr) (answer : Claim)
    → IsClaimedExactly old tx addr answer new → PreservesHome old new
claimed_home old new tx addr (claim.Held back) h base home =
    subst (λ (core : CoreState). IsHomeOf base core) (sym h.2) (home_claim old tx addr base home)
claimed_home old new tx addr (claim.Busy back) h base home = same_home old new h.2 base home
claimed_home old new tx addr (claim.Loading back) h base home = same_home old new h.2 base home
claimed_home old new tx addr (claim.Outside back) h base home = same_home old new h.2 base home
claimed_home old new tx addr (claim.NoMemory back error) h base home = refused_home old new h.2 base home

pub commit_preserves : {C : Type 0} (old new : CoreState) (tx : ℕ) (plan : Planned) (change : C) (answer : Commit C)
    → IsLawful old.log → IsWellFormed old → IsCommitExactly old tx plan change answer new → PreservesHome old new
commit_preserves old new tx plan change (commit.Committed receipt) lawful well_formed h base home =
    subst (λ (now : CoreState). IsHomeOf base now) (sym h.core)
    (commit_home h.spare base old tx plan h.group.group new.log lawful well_formed h.tried.own h.group.sizes h.group.blocks
    h.group.contents h.group.grown h.still.blocks home)
commit_preserves old new tx plan change (commit.Full back same) lawful well_formed h base home =
    same_home old new h.0.core base home
commit_preserves old new tx plan change (commit.Foreign back same) lawful well_formed h base home =
    same_home old new h.0.core base home
commit_preserves old new tx plan change (commit.NoMemory back same error) lawful well_formed h base home =
    refused_home old new h.0.core base home
commit_preserves old new tx plan change (commit.Broken back same) lawful well_formed h base home =
    same_home old new h.0.core base home
commit_preserves old new tx plan change (commit.Spent back same) lawful well_formed h base home =
    same_home old new h.0.core base home

pub commit_set : {C : Type 0} (old new : CoreState) (tx : ℕ) (plan : Planned) (change : C) (answer : Commit C)
    → IsLawful old.log → IsWellFormed old → IsCommitExactly old tx plan change answer new
    → IsSetBy old plan answer new
commit_set old new tx plan change (commit.Committed receipt) lawful well_formed h =
    subst (λ (now : CoreState). SetsOnly old plan.written now) (sym h.core)
    (λ base home. commit_sets base old tx plan h.group.group new.log lawful well_formed h.tried.own h.group.sizes
    h.group.blocks h.group.contents h.group.grown home)
commit_set old new tx plan change (commit.Full back same) lawful well_formed h = tt
commit_set old new tx plan change (commit.Foreign back same) lawful well_formed h = tt
commit_set old new tx plan change (commit.NoMemory back same error) lawful well_formed h = tt
commit_set old new tx plan change (commit.Broken back same) lawful well_formed h = tt
commit_set old new tx plan change (commit.Spent back same) lawful well_formed h = tt

-- What is held for reading stays.

same_reads : (old new : CoreState) → new ≡ old → (other : ℕ) → PreservesReads old new other
same_reads old new e other = subst (λ (core : CoreState). PreservesReads old core other) (sym e) (λ object h. h)

refused_reads : (old new : CoreState) → new ≡ with_refused old → (other : ℕ) → PreservesReads old new other
refused_reads old new e other =
    subst (λ (core : CoreState). PreservesReads old core other) (sym e) (reads_refused old other)

pub wanted_reads : (old new : CoreState) (tx : ℕ) (addr : Addr) (mode : Mode) (answer : Want)
    → IsWantedExactly old tx addr mode answer new → (other : ℕ) → PreservesReads old new other
wanted_reads old new tx addr mode (want.Held back bytes) h other =
    reads_held old new tx addr mode bytes other h.2
wanted_reads old new tx addr mode (want.Fetch back io) h other = reads_fetch old new tx addr mode io other h.2
wanted_reads old new tx addr mode (want.Busy back) h other = same_reads old new h.2 other
wanted_reads old new tx addr mode (want.Loading back) h other = same_reads old new h.2 other
wanted_reads old new tx addr mode (want.Outside back) h other = same_reads old new h.2 other
wanted_reads old new tx addr mode (want.NoMemory back error) h other = refused_reads old new h.2 other

pub claimed_reads : (old new : CoreState) (tx : ℕ) (addr : Addr) (answer : Claim)
    → IsClaimedExactly old tx addr answer new → (other : ℕ) → PreservesReads old new other
claimed_reads old new tx addr (claim.Held back) h other =
    subst (λ (core : CoreState). PreservesReads old core other) (sym h.2) (reads_claim old tx addr other)
claimed_reads old new tx addr (claim.Busy back) h other = same_reads old new h.2 other
claimed_reads old new tx addr (claim.Loading back) h other = same_reads old new h.2 other
claimed_reads old new tx addr (claim.Outside back) h other = same_reads old new h.2 other
claimed_reads old new tx addr (claim.NoMemory back error) h other = refused_reads old new h.2 other

pub commit_reads : {C : Type 0} (P : ℕ → ℕ → List ObjectBytes → List ObjectBytes → Type 0) (old new : CoreState)
    (tx : ℕ) (plan : Planned) (change : C) (answer : Commit C) → IsLawfulCore P old
    → IsCommitExactly old tx plan change answer new → (other : ℕ) → (other ≡ tx → ⊥) → PreservesReads old new other
commit_reads P old new tx plan change (commit.Committed receipt) core h other differ =
    subst (λ (now : CoreState). PreservesReads old now other) (sym h.core)
    (reads_commit h.spare core.home.0 old tx plan h.group.group new.log other core.log core.well_formed
    h.tried.own h.group.sizes
    h.group.blocks h.group.contents h.group.grown h.still.blocks core.home.1 differ)
commit_reads P old new tx plan change (commit.Full back same) core h other differ =
    same_reads old new h.0.core other
commit_reads P old new tx plan change (commit.Foreign back same) core h other differ =
    same_reads old new h.0.core other
commit_reads P old new tx plan change (commit.NoMemory back same error) core h other differ =
    refused_reads old new h.0.core other
commit_reads P old new tx plan change (commit.Broken back same) core h other differ =
    same_reads old new h.0.core other
commit_reads P old new tx plan change (commit.Spent back same) core h other differ =
    same_reads old new h.0.core other

-- What each answer leaves.

pub wanted_leaves : (old new : CoreState) (tx : ℕ) (addr : Addr) (mode : Mode) (answer : Want)
    → IsWantedExactly old tx addr mode answer new → IsWanted old tx addr mode answer new
wanted_leaves old new tx addr mode (want.Held back bytes) h =
    (h.0, h.1, leaves_held old new tx addr mode bytes h.1 h.2)
wanted_leaves old new tx addr mode (want.Fetch back io) h = (h.0, h.1, leaves_fetch old new tx addr mode io h.2)
wanted_leaves old new tx addr mode (want.Busy back) h = h
wanted_leaves old new tx addr mode (want.Loading back) h = h
wanted_leaves old new tx addr mode (want.Outside back) h = h
wanted_leaves old new tx addr mode (want.NoMemory back error) h = h

pub claimed_leaves : (old new : CoreState) (tx : ℕ) (addr : Addr) (answer : Claim)
    → IsClaimedExactly old tx addr answer new → IsClaimed old tx addr answer new
claimed_leaves old new tx addr (claim.Held back) h = (h.0, h.1, leaves_claim old new tx addr h.1 h.2)
claimed_leaves old new tx addr (claim.Busy back) h = h
claimed_leaves old new tx addr (claim.Loading back) h = h
claimed_leaves old new tx addr (claim.Outside back) h = h
claimed_leaves old new tx addr (claim.NoMemory back error) h = h

place_leaves : (old new : CoreState) (tx : ℕ) (plan : Planned) (place : ℕ) → IsWellFormed old
    → TakesPlaceExactly old tx plan place new → TakesPlace old tx plan place new
place_leaves old new tx plan place well_formed h = record {
  tried = h.tried;
  next = h.next;
  group = h.group;
  places = h.places;
  still = h.still;
  only = h.core ∙ ap (λ (core : CoreState). record old {
    log = new.log;
    out = without tx old.out;
    holds = core.holds;
    present = core.present;
    records = with_record new.log new.log.places plan old.records;
  }) (sym h.core);
  leaves = subst (λ (core : CoreState). Leaves core (but_by tx (taken_by old)) (is_fetching old)
      (λ block. refreshed_content (in_memory old block) (newest new.log block.0))) (sym h.core)
      (leaves_commit h.spare old tx plan new.log well_formed);
  law = h.law;
}

pub commit_leaves : {C : Type 0} (old new : CoreState) (tx : ℕ) (plan : Planned) (change : C)
    (answer : Commit C)
    → IsWellFormed old → IsCommitExactly old tx plan change answer new → IsCommit old tx plan change answer new
commit_leaves old new tx plan change (commit.Committed receipt) well_formed h =
    place_leaves old new tx plan receipt.place.0 well_formed h
commit_leaves old new tx plan change (commit.Full back same) well_formed h = h
commit_leaves old new tx plan change (commit.Foreign back same) well_formed h = h
commit_leaves old new tx plan change (commit.NoMemory back same error) well_formed h = h
commit_leaves old new tx plan change (commit.Broken back same) well_formed h = h
commit_leaves old new tx plan change (commit.Spent back same) well_formed h = h

-- The stamp of a file tells its birth.
use Rattle.std.proofs.Common.{◌≡◌, ℕ, suc, ◌+◌, ◌-◌, ◌<◌, ◌≤◌, ◌⊎◌, inl, inr, sym, ap, subst, ◌∙◌, refl}
use Rattle.std.proofs.Common.{arith, Bool, true, false, cond, nat_lt, is_some, List, slice_get, Some, Ok}
use Rattle.std.proofs.lemmas.Bool.Decides.{nat_tests}
use Rattle.base.specs.declared.TheConstants.{ROOT}
use Rattle.nfs_types.specs.declared.handle.Stamp.{Stamp}
use Rattle.nfs_spec.specs.Model.Entry.{Entry}
use Rattle.nfs_spec.specs.Model.Find.{find_file, stamp_in}
use Rattle.nfs_spec.specs.Model.Node.{Node}
use Rattle.nfs_spec.specs.Model.Sound.{Sound}
use Rattle.nfs_spec.specs.Model.Tree.{Tree, node_at}
use Rattle.nfs_spec.proofs.ProceduresLemmas.Stale.{found_is, stamps_are, step_follows}
use Rattle.nfs_spec.specs.Procedures.Histories.{stamp_of}
use Rattle.nfs_spec.proofs.LivesLemmas.Order.{of_boot, one_there, boot_incremented, rises, some_there}
use Rattle.nfs_spec.specs.Lives.Lives.{AtStart, Birth, ByEntry, CountedRun, Crashed, First, HasTree, IsLife, More}
use Rattle.nfs_spec.specs.Lives.Lives.{with_new}

-- no later than the boot of the life's first image
pub record IsOfStart (life : List CountedRun) (stamp : Stamp) : Type 0 where
  pub run : CountedRun
  pub there : slice_get life 0 ≡ Some run
  pub early : stamp.boot ≤ run.boot

-- that of the entry of this place
pub record IsOfEntry (life : List CountedRun) (at place : ℕ) (stamp : Stamp) : Type 0 where
  pub run : CountedRun
  pub there : slice_get life at ≡ Some run
  pub index : ℕ
  pub place_is : place ≡ suc index
  pub entry : Entry
  pub entry_is : slice_get run.entries index ≡ Some entry
  pub stamp_is : stamp_of entry.ctx ≡ stamp

abbrev pub IsOf : List CountedRun → Stamp → Birth → Type 0
IsOf life stamp AtStart = IsOfStart life stamp
IsOf life stamp (ByEntry at place) = IsOfEntry life at place stamp

pub explained : (life : List CountedRun) → IsLife life → {at place : ℕ} {tree : Tree} {births : ℕ → Birth}
    → HasTree life at place tree births → (number : ℕ) (node : Node) → node_at tree number ≡ Some node
    → IsOf life node.stamp (births number)
explained life is (First run there) number node here = record {
  run = run;
  there = there;
  early = (is.each 0 run there).made number node here;
}
explained life is (More {at = at} {place = place} {tree = tree} {births = births} before run entry next there
    entry_is transition) number node here =
    elim ((step_follows tree next entry.ctx entry.call entry.reply transition).stamps number node here) [
      | inl was ↦
          let kept : with_new tree births (ByEntry at (suc place)) number ≡ births number =
          ap (λ n. cond (is_some n) (births number) (ByEntry at (suc place))) was.old_is in
          subst (IsOf life node.stamp) (sym kept)
          (subst (λ s. IsOf life s (births number)) was.stamp_is
          (explained life is before number was.old was.old_is))
      | inr new ↦
          let now : with_new tree births (ByEntry at (suc place)) number ≡ ByEntry at (suc place) =
          ap (λ n. cond (is_some n) (births number) (ByEntry at (suc place))) new.unused in
          subst (IsOf life node.stamp) (sym now) (record {
            run = run;
            there = there;
            index = place;
            place_is = refl;
            entry = entry;
            entry_is = entry_is;
            stamp_is = sym new.stamp_is;
          })
    ]
explained life is (Crashed before next there same) number node here =
    explained life is before number node (ap (λ t. node_at t number) same ∙ here)

module _ (life : List CountedRun) (is : IsLife life) (stamp : Stamp) where
  -- the boot of an entry's stamp is the one behind its run's image
  boot_of : (at place : ℕ) (e : IsOfEntry life at place stamp) → stamp.boot ≡ e.run.boot + 1
  boot_of at place e =
      sym (ap (λ (s : Stamp). s.boot) e.stamp_is)
      ∙ of_boot (e.run.boot + 1) e.run.entries e.index e.entry (is.each at e.run e.there).own.boots e.entry_is

  not_both : (at place : ℕ) → IsOfStart life stamp → IsOfEntry life at place stamp → ⊥
  not_both at place s e =
      let from : s.run.boot ≤ e.run.boot =
      rises life is 0 s.run s.there at at e.run (omega arith) e.there in
      let boot = boot_of at place e in
      let early = s.early in
      omega (arith, from, boot, early)

  -- the entries of two runs have two boots
  not_earlier : (at place later behind : ℕ) → at < later → IsOfEntry life at place stamp
      → IsOfEntry life later behind stamp → ⊥
  not_earlier at place later behind less a b =
      let some = some_there a.run.entries a.index a.entry a.entry_is in
      let up : a.run.boot < b.run.boot =
      boot_incremented life is at a.run a.there (later - suc at) later b.run (omega (arith, less)) b.there some in
      let first = boot_of at place a in
      let second = boot_of later behind b in
      omega (arith, up, first, second)

  -- of one run, they have two numbers
  one_place : (at place behind : ℕ) → IsOfEntry life at place stamp → IsOfEntry life at behind stamp
      → place ≡ behind
  one_place at place behind a b =
      let one_run : b.run ≡ a.run = one_there life at b.run a.run b.there a.there in
      let there : slice_get a.run.entries b.index ≡ Some b.entry =
      subst (λ (r : CountedRun). slice_get r.entries b.index ≡ Some b.entry) one_run b.entry_is in
      let numbers : a.entry.ctx.transaction ≡ b.entry.ctx.transaction =
      ap (λ (s : Stamp). s.transaction) (a.stamp_is ∙ sym b.stamp_is) in
      a.place_is
      ∙ ap suc ((is.each at a.run a.there).own.numbers a.index b.index a.entry b.entry a.entry_is there numbers)
      ∙ sym b.place_is

  by_order : (at place later behind : ℕ) → ((at < later) ⊎ (later < at)) ⊎ (at ≡ later)
      → IsOfEntry life at place stamp → IsOfEntry life later behind stamp
      → ByEntry at place ≡ ByEntry later behind
  by_order at place later behind (inl (inl less)) a b = absurd (not_earlier at place later behind less a b)
  by_order at place later behind (inl (inr less)) a b = absurd (not_earlier later behind at place less b a)
  by_order at place later behind (inr same) a b =
      let places : place ≡ behind =
      one_place at place behind a (subst (λ n. IsOfEntry life n behind stamp) (sym same) b) in
      λ i. ByEntry (same i) (places i)

  pub one_birth : (one other : Birth) → IsOf life stamp one → IsOf life stamp other → one ≡ other
  one_birth AtStart AtStart a b = refl
  one_birth AtStart (ByEntry at place) a b = absurd (not_both at place a b)
  one_birth (ByEntry at place) AtStart a b = absurd (not_both at place b a)
  one_birth (ByEntry at place) (ByEntry later behind) a b = by_order at place later behind (apart at later (nat_lt at later) (nat_lt later at) refl refl) a b
    where
      apart : (one other : ℕ) (less more : Bool) → nat_lt one other ≡ less → nat_lt other one ≡ more
          → ((one < other) ⊎ (other < one)) ⊎ (one ≡ other)
      apart one other true more is so = inl (inl (grind (arith, nat_tests, is)))
      apart one other false true is so = inl (inr (grind (arith, nat_tests, so)))
      apart one other false false is so = inr (grind (arith, nat_tests, is, so))

pub names_one : (life : List CountedRun) (handle : List ℕ) (at place later behind : ℕ) (one other : Tree)
    (births others : ℕ → Birth) (found again : ℕ × Node)
    → IsLife life → HasTree life at place one births → HasTree life later behind other others
    → find_file one handle ≡ Ok found → find_file other handle ≡ Ok again
    → births found.0 ≡ others again.0
names_one life handle at place later behind one other births others found again is has has_too names names_too =
    let f = found_is one handle found names in
    let g = found_is other handle again names_too in
    let stamps : again.1.stamp ≡ found.1.stamp =
    sym (stamps_are (stamp_in handle) again.1.stamp g.stamp)
    ∙ stamps_are (stamp_in handle) found.1.stamp f.stamp in
    one_birth life is found.1.stamp (births found.0) (others again.0)
    (explained life is has found.0 found.1 f.there)
    (subst (λ s. IsOf life s (others again.0)) stamps
    (explained life is has_too again.0 again.1 g.there))

-- The root, which has the stamp of no boot, is made by no entry.
no_entry : (life : List CountedRun) → IsLife life → (stamp : Stamp) → stamp.boot ≡ 0 → (birth : Birth)
    → IsOf life stamp birth → birth ≡ AtStart
no_entry life is stamp none AtStart a = refl
no_entry life is stamp none (ByEntry at place) a =
    let boot = boot_of life is stamp at place a in absurd (omega (arith, boot, none))

pub root_at_start : (life : List CountedRun) (at place : ℕ) (tree : Tree) (births : ℕ → Birth)
    → IsLife life → HasTree life at place tree births → Sound tree → births ROOT ≡ AtStart
root_at_start life at place tree births is has sound =
    no_entry life is sound.root.stamp (ap (λ (s : Stamp). s.boot) sound.root_stamp) (births ROOT)
    (explained life is has ROOT sound.root sound.root_is)

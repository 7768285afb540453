-- A handle that was stale names no file again.
use Rattle.std.proofs.Common.{◌≡◌, ◌⊎◌, inl, inr, ℕ, suc, ◌<◌, sym, ap, subst, ◌∙◌, refl, arith}
use Rattle.std.proofs.Common.{Bool, true, false, cond, is_some, List, Some}
use Rattle.std.proofs.Common.{Result, Ok, Err}
use Rattle.nfs_types.specs.declared.status.Status.{Status}
use Rattle.nfs_types.specs.declared.status.Status.TheVariants as status
use Rattle.nfs_spec.specs.Model.Find.{find_file, number_in, same_stamp, stamp_in, stamped}
use Rattle.nfs_spec.specs.Model.Node.{Node}
use Rattle.nfs_spec.specs.Model.Tree.{Tree, node_at}
use Rattle.nfs_spec.proofs.ProceduresLemmas.Stale.{found_is, stale_too, step_follows}
use Rattle.nfs_spec.specs.Procedures.Stamps.{WasThere}
use Rattle.nfs_spec.proofs.LivesLemmas.Born.{names_one}
use Rattle.nfs_spec.specs.Lives.Later.{IsUpTo, Leads, Over, Same, Then}
use Rattle.nfs_spec.specs.Lives.Lives.{AtStart, Birth, ByEntry, CountedRun, Crashed, First, HasTree, IsLife, More}
use Rattle.nfs_spec.specs.Lives.Lives.{with_new}

-- ---- births come before

abbrev IsBornBy : Birth → ℕ → ℕ → Type 0
IsBornBy AtStart at place = Unit {0}
IsBornBy (ByEntry run index) at place = IsUpTo run index at place

abbrev IsBornAfter : Birth → ℕ → ℕ → Type 0
IsBornAfter AtStart at place = ⊥
IsBornAfter (ByEntry run index) at place = (at < run) ⊎ ((at ≡ run) × (place < index))

one_later : (birth : Birth) (at place : ℕ) → IsBornBy birth at place → IsBornBy birth at (suc place)
one_later AtStart at place by = tt
one_later (ByEntry run index) at place (inl less) = inl less
one_later (ByEntry run index) at place (inr same) =
    let within = same.1 in inr (same.0, omega (arith, within))

over_crash : (birth : Birth) (at place : ℕ) → IsBornBy birth at place → IsBornBy birth (suc at) 0
over_crash AtStart at place by = tt
over_crash (ByEntry run index) at place (inl less) = inl (omega (arith, less))
over_crash (ByEntry run index) at place (inr same) = let runs = same.0 in inl (omega (arith, runs))

either_by : (used : Bool) (birth : Birth) (at place : ℕ) → IsBornBy birth at place
    → IsBornBy (cond used birth (ByEntry at (suc place))) at (suc place)
either_by true birth at place by = one_later birth at place by
either_by false birth at place by = inr (refl, omega arith)

born_by : (life : List CountedRun) → {at place : ℕ} {tree : Tree} {births : ℕ → Birth}
    → HasTree life at place tree births → (number : ℕ) → IsBornBy (births number) at place
born_by life (First run there) number = tt
born_by life (More {at = at} {place = place} {tree = tree} {births = births} before run entry next there entry_is
    transition) number =
    either_by (is_some (node_at tree number)) (births number) at place (born_by life before number)
born_by life (Crashed {at = at} {place = place} {births = births} before next there same) number =
    over_crash (births number) at place (born_by life before number)

not_both : (birth : Birth) (at place later behind : ℕ) → IsBornBy birth at place → IsUpTo at place later behind
    → IsBornAfter birth later behind → ⊥
not_both AtStart at place later behind by up after = after
not_both (ByEntry run index) at place later behind (inl a) (inl b) (inl c) = omega (arith, a, b, c)
not_both (ByEntry run index) at place later behind (inl a) (inl b) (inr c) =
    let runs = c.0 in omega (arith, a, b, runs)
not_both (ByEntry run index) at place later behind (inl a) (inr b) (inl c) =
    let same = b.0 in omega (arith, a, same, c)
not_both (ByEntry run index) at place later behind (inl a) (inr b) (inr c) =
    let same = b.0 in let runs = c.0 in omega (arith, a, same, runs)
not_both (ByEntry run index) at place later behind (inr a) (inl b) (inl c) =
    let runs = a.0 in omega (arith, runs, b, c)
not_both (ByEntry run index) at place later behind (inr a) (inl b) (inr c) =
    let runs = a.0 in let too = c.0 in omega (arith, runs, b, too)
not_both (ByEntry run index) at place later behind (inr a) (inr b) (inl c) =
    let runs = a.0 in let same = b.0 in omega (arith, runs, same, c)
not_both (ByEntry run index) at place later behind (inr a) (inr b) (inr c) =
    let first = a.1 in let second = b.1 in let third = c.1 in omega (arith, first, second, third)

-- ---- on the way from one tree to another

module _ (life : List CountedRun) (at place : ℕ) (tree : Tree) (births : ℕ → Birth) where
  up_to : {later behind : ℕ} {next : Tree} {others : ℕ → Birth}
      → Leads life at place tree births later behind next others → IsUpTo at place later behind
  up_to Same = inr (refl, omega arith)
  up_to (Then before run entry next there entry_is transition) = more (up_to before)
    where
      more : {later behind : ℕ} → IsUpTo at place later behind → IsUpTo at place later (suc behind)
      more (inl less) = inl less
      more (inr same) = let within = same.1 in inr (same.0, omega (arith, within))
  up_to (Over before next there same) = more (up_to before)
    where
      more : {later behind : ℕ} → IsUpTo at place later behind → IsUpTo at place (suc later) 0
      more (inl less) = inl (omega (arith, less))
      more (inr same) = let runs = same.0 in inl (omega (arith, runs))

  goes_on : {later behind : ℕ} {next : Tree} {others : ℕ → Birth} → HasTree life at place tree births
      → Leads life at place tree births later behind next others → HasTree life later behind next others
  goes_on has Same = has
  goes_on has (Then before run entry next there entry_is transition) =
      More (goes_on has before) run entry next there entry_is transition
  goes_on has (Over before next there same) = Crashed (goes_on has before) next there same

  same_geometry : {later behind : ℕ} {next : Tree} {others : ℕ → Birth}
      → Leads life at place tree births later behind next others → next.geometry ≡ tree.geometry
  same_geometry Same = refl
  same_geometry (Then {middle = middle} before run entry next there entry_is transition) =
      (step_follows middle next entry.ctx entry.call entry.reply transition).geometry ∙ same_geometry before
  same_geometry (Over before next there same) = ap (λ t. t.geometry) (sym same) ∙ same_geometry before

  made_after : (later behind : ℕ) → IsUpTo at place later behind
      → IsBornAfter (ByEntry later (suc behind)) at place
  made_after later behind (inl less) = inl less
  made_after later behind (inr same) = let within = same.1 in inr (same.0, omega (arith, within))

  -- a file is born since, or was there with its stamp
  since : {later behind : ℕ} {next : Tree} {others : ℕ → Birth}
      → Leads life at place tree births later behind next others → (number : ℕ) (node : Node)
      → node_at next number ≡ Some node
      → IsBornAfter (others number) at place ⊎ WasThere tree number node.stamp
  since Same number node here = inr (record { old = node; old_is = here; stamp_is = refl })
  since (Then {later = later} {behind = behind} {middle = middle} {others = others} before run entry next there
      entry_is transition) number node here =
      elim ((step_follows middle next entry.ctx entry.call entry.reply transition).stamps number node here) [
        | inl was ↦
            let kept : with_new middle others (ByEntry later (suc behind)) number ≡ others number =
            ap (λ n. cond (is_some n) (others number) (ByEntry later (suc behind))) was.old_is in
            elim (since before number was.old was.old_is) [
              | inl born ↦ inl (subst (λ b. IsBornAfter b at place) (sym kept) born)
              | inr first ↦ inr (record {
                old = first.old;
                old_is = first.old_is;
                stamp_is = first.stamp_is ∙ was.stamp_is;
              })
            ]
        | inr new ↦
            let now : with_new middle others (ByEntry later (suc behind)) number ≡ ByEntry later (suc behind) =
            ap (λ n. cond (is_some n) (others number) (ByEntry later (suc behind))) new.unused in
            inl (subst (λ b. IsBornAfter b at place) (sym now) (made_after later behind (up_to before)))
      ]
  since (Over before next there same) number node here =
      since before number node (ap (λ t. node_at t number) same ∙ here)

-- ---- handles

lawful_by : (b : Bool) (r : Result (ℕ × Node) Status) → cond b r (Err status.BadHandle) ≡ Err status.Stale
    → b ≡ true
lawful_by true r is = refl
lawful_by false r is = cc

-- a file of the handle's number and stamp is found
finds : (tree : Tree) (handle : List ℕ) (number : ℕ) (node : Node) → find_file tree handle ≡ Err status.Stale
    → number_in handle ≡ number → node_at tree number ≡ Some node
    → same_stamp (stamp_in handle) node.stamp ≡ true → ⊥
finds tree handle number node stale is here stamp =
    let lawful = lawful_by _ _ stale in
    let found : find_file tree handle ≡ Ok (number_in handle, node) =
    ap (λ b. cond b (stamped (number_in handle) (stamp_in handle) (node_at tree (number_in handle)))
    (Err status.BadHandle)) lawful
    ∙ ap (stamped (number_in handle) (stamp_in handle)) (ap (node_at tree) is ∙ here)
    ∙ ap (λ b. cond b (Ok (number_in handle, node)) (Err status.Stale)) stamp in
    let never : ◌≡◌ {A = Result (ℕ × Node) Status} (Ok (number_in handle, node)) (Err status.Stale) =
    sym found ∙ stale in cc

not_found : (life : List CountedRun) (handle : List ℕ) (at place later behind last end : ℕ)
    (named stale next : Tree) (births others ends : ℕ → Birth) (found again : ℕ × Node)
    → IsLife life → HasTree life at place named births → find_file named handle ≡ Ok found
    → HasTree life later behind stale others → IsUpTo at place later behind
    → find_file stale handle ≡ Err status.Stale → Leads life later behind stale others last end next ends
    → find_file next handle ≡ Ok again → ⊥
not_found life handle at place later behind last end named stale next births others ends found again is has names
    has_too up gone leads names_too =
    let births_are : births found.0 ≡ ends again.0 =
    names_one life handle at place last end named next births ends found again is has
    (goes_on life later behind stale others has_too leads) names names_too in
    let g = found_is next handle again names_too in
    elim (since life later behind stale others leads again.0 again.1 g.there) [
      | inl born ↦
          not_both (births found.0) at place later behind (born_by life has found.0) up
          (subst (λ b. IsBornAfter b later behind) (sym births_are) born)
      | inr was ↦
          finds stale handle again.0 was.old gone g.number was.old_is
          (subst (λ s. same_stamp (stamp_in handle) s ≡ true) (sym was.stamp_is) g.stamp)
    ]

pub stays_stale : (life : List CountedRun) (handle : List ℕ) (at place later behind last end : ℕ)
    (named stale next : Tree) (births others ends : ℕ → Birth) (found : ℕ × Node)
    → IsLife life → HasTree life at place named births → find_file named handle ≡ Ok found
    → HasTree life later behind stale others → IsUpTo at place later behind
    → find_file stale handle ≡ Err status.Stale → Leads life later behind stale others last end next ends
    → find_file next handle ≡ Err status.Stale
stays_stale life handle at place later behind last end named stale next births others ends found is has names
    has_too up gone leads =
    stale_too stale next handle (same_geometry life later behind stale others leads) gone
    (λ again names_too.
    not_found life handle at place later behind last end named stale next births others ends found again is has
    names has_too up gone leads names_too)

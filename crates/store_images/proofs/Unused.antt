-- A core in which nothing was begun stays so while its installer brings home what the log has.
use Rattle.std.proofs.Common.{arith, ap, ◌≡◌, ◌∙◌, refl, sym, ℕ, Bool, true, false, cond, nat_eq}
use Rattle.std.proofs.Common.{true≢false, Option, Some, None, List, [], ◌∷◌, is_none}
use Rattle.std.proofs.lemmas.Bool.Decides.{nat_tests}
use Rattle.disk.specs.Device.{Content}
use Rattle.disk.specs.declared.block.BlockNo.{BlockNo}
use Rattle.objects.specs.Present.{content_in, is_pending, present_of}
use Rattle.objects.specs.declared.present.Present.{Present}
use Rattle.txn_law.specs.Core.{CoreState, past, with_inst_call}
use Rattle.txn_law.specs.Leaves.{in_memory, is_fetching}
use Rattle.circ.specs.Log.Io.{Io}
use Rattle.circ.specs.Log.Log.{installed_place}
use Rattle.wal_calls.specs.Callers.Steps.{InstComesBack, InstGoesOut}
use Rattle.store_images.specs.BringingHome.{unused}

same_number : (n : ℕ) → nat_eq n n ≡ true
same_number n = grind (arith, nat_tests)

-- where no fetch is pending and nothing is there, no block has a resident
none_there : (present : List Present) → ((block : BlockNo) → is_pending (present_of present block) ≡ false)
    → ((block : BlockNo) (content : Content) → content_in (present_of present block) ≡ Some content → ⊥)
    → present ≡ []
none_there [] pending there = refl
none_there (one ∷ rest) pending there = absurd (by one.content refl)
  where
    first : present_of (one ∷ rest) one.block ≡ Some one
    first = ap (λ (b : Bool). cond b (Some one) (present_of rest one.block)) (same_number one.block.0)

    by : (content : Option Content) → one.content ≡ content → ⊥
    by (Some content) is = there one.block content (ap content_in first ∙ is)
    by None is = true≢false (sym (ap is_pending first ∙ ap is_none is) ∙ pending one.block)

pub stays_unused : (old mid new : CoreState) (io : Io) (ok : Bool) → old ≡ unused old
    → InstGoesOut old io mid → InstComesBack mid io ok new → new ≡ unused new
stays_unused old mid new io ok is goes back =
    let mid_is : mid ≡ unused mid = goes.core ∙ ap with_inst_call is ∙ sym (ap unused goes.core) in
    let none : new.present ≡ [] = none_there new.present
    (λ block. back.leaves.fetches block ∙ ap (λ (core : CoreState). is_fetching core block) mid_is)
    (λ block content some. let was : in_memory mid block ≡ Some content = back.leaves.comes block content some in
    let no : in_memory mid block ≡ None = ap (λ (core : CoreState). in_memory core block) mid_is in cc) in
    back.core
    ∙ ap (λ (core : CoreState). record core {
      log = new.log;
      records = past (installed_place new.log) core.records;
      present = new.present;
    }) mid_is
    ∙ ap (λ (present : List Present). record (unused mid) { log = new.log; present = present }) none
    ∙ sym (ap unused back.core)

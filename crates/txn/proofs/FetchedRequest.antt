-- Lemma: a lock request is met once the fetch of its block was given back.
use Rattle.std.proofs.Common.{◌≡◌, ℕ, true, false, not, ◌&&◌, ◌||◌, if◌then◌else◌, Some, None, refl, sym, ap}
use Rattle.std.proofs.Common.{◌∙◌, nat_eq}
use Rattle.std.proofs.lemmas.Bool.{eq-eqb, eqb-true}
use Rattle.disk.specs.Device.{Content}
use Rattle.objects.specs.Mode.{upgraded}
use Rattle.objects.specs.declared.addr.Addr.{Addr}
use Rattle.objects.specs.declared.mode.Mode.{Mode}
use Rattle.txn_law.specs.Core.{CoreState}
use Rattle.txn_law.specs.Holds.{is_hold_of, is_taken}
use Rattle.txn_law.specs.Leaves.{HasFetched, taken_by, is_fetching, in_memory, with_content}
use Rattle.txn_law.specs.Records.{is_read_by_uninstalled}
use Rattle.txn_law.specs.WellFormed.{IsWellFormed}
use Rattle.txn_law.specs.LockAnswers.{IsOpen}
use Rattle.txn_law.specs.declared.hold.Hold.{Hold}
use Rattle.txn_law.proofs.Again.{open_again}
use Rattle.txn_law.proofs.Claims.{found_by, all_four}
use Rattle.objects.proofs.Residents.{same_block}
use Rattle.txn_law.proofs.StaysWellFormed.{taken_one}
use Rattle.txn.specs.Outcomes.{IsMet, IsWanted}
use Rattle.txn.specs.declared.outcomes.Want.{Want}
use Rattle.txn.specs.declared.outcomes.Want.TheVariants as want

-- a lock request that nothing keeps off, of a block in memory, is met
met_in_memory : (core new : CoreState) (tx : ℕ) (addr : Addr) (mode : Mode) (content : Content) (answer : Want)
    → IsOpen core tx addr mode → in_memory core addr.block ≡ Some content
    → IsWanted core tx addr mode answer new
    → IsMet answer
met_in_memory core new tx addr mode content (want.Held back bytes) open' there h = tt
met_in_memory core new tx addr mode content (want.NoMemory back error) open' there h = tt
met_in_memory core new tx addr mode content (want.Outside back) open' there h = h.1 open'.inside
met_in_memory core new tx addr mode content (want.Busy back) open' there h = h.1.1 open'.free
met_in_memory core new tx addr mode content (want.Loading back) open' there h =
    absurd (let no : true ≡ false = sym h.1.2 ∙ open'.settled in cc)
met_in_memory core new tx addr mode content (want.Fetch back io) open' there h =
    absurd (let no : Some content ≡ None = sym there ∙ h.2.absent in cc)

-- what a transaction has taken a part of is taken
taken_block : (core : CoreState) (tx : ℕ) (addr : Addr) (hold : Hold) → taken_by core tx addr ≡ Some hold
    → is_taken core.holds addr.block ≡ true
taken_block core tx addr hold e =
    let (mine, there) = found_by (is_hold_of tx addr) core.holds hold e in
    let four = all_four (nat_eq hold.transaction tx) (nat_eq hold.addr.block.0 addr.block.0)
    (nat_eq hold.addr.offset addr.offset) (nat_eq hold.addr.len addr.len) mine in
    ap (is_taken core.holds) (sym (same_block hold.addr.block addr.block
    (eqb-true hold.addr.block.0 addr.block.0 four.1))) ∙ taken_one core.holds hold there

pub met : (old core new : CoreState) (tx : ℕ) (addr : Addr) (hold : Hold) (mode : Mode) (content : Content)
    (answer : Want) → taken_by old tx addr ≡ Some hold → upgraded hold.mode mode ≡ hold.mode
    → is_fetching old addr.block ≡ true → HasFetched old addr.block content core → IsWellFormed core
    → IsWanted core tx addr mode answer new → IsMet answer
met old core new tx addr hold mode content answer taken no_more fetching done well_formed =
    met_in_memory core new tx addr mode content answer
    (open_again core tx addr hold mode well_formed still no_more loaded) there
  where
    still : taken_by core tx addr ≡ Some hold
    still = done.holds tx addr ∙ taken

    loaded : is_fetching core addr.block ≡ false
    loaded = done.fetches addr.block
        ∙ ap (λ b. not b && is_fetching old addr.block) (eq-eqb addr.block.0 addr.block.0 refl)

    brought : (if is_fetching old addr.block then with_content addr.block content (in_memory old)
        else in_memory old) addr.block ≡ Some content
    brought =
        ap (λ b. (if b then with_content addr.block content (in_memory old) else in_memory old) addr.block)
        fetching ∙ ap (λ b. if b then Some content else in_memory old addr.block)
        (eq-eqb addr.block.0 addr.block.0 refl)

    there : in_memory core addr.block ≡ Some content
    there = done.stays addr.block content brought
        (ap (λ b. b || is_read_by_uninstalled core.records addr.block) (taken_block core tx addr hold still))

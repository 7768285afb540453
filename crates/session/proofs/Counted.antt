-- The changes that found no room are counted, each under the number behind its message.
use Rattle.std.proofs.Common.{arith, ◌≡◌, ◌∙◌, refl, ap, ℕ, ◌+◌, ◌<◌, Bool, true, false, if◌then◌else◌, nat_le}
use Rattle.std.proofs.Common.{List, [], ◌∷◌}
use Rattle.std.proofs.lemmas.Bool.Decides.{nat_tests}
use Rattle.nfs_types.specs.declared.ctx.Moment.{Moment}
use Rattle.session_wire.specs.Judging.{judged}
use Rattle.store_images.specs.Opening.{Opened}
use Rattle.session.specs.Filing.{AreCounted, AreFiled, Files, IsOpenFor, added_by}
use Rattle.session.proofs.ServedFiles.{leaves}

-- what is counted under a number: of the first message behind which it isn't passed
pub added_along : (settled : ℕ) (moment : Moment) (old : Opened) (files : Files) (messages replies : List (List ℕ))
    (new : Opened) (later : Files) → AreFiled settled moment old files messages replies new later → ℕ → ℕ
added_along settled moment old files [] [] new later are number = 0
added_along settled moment old files [] (reply ∷ replies) new later are number = 0
added_along settled moment old files (message ∷ messages) [] new later are number = 0
added_along settled moment old files (message ∷ messages) (reply ∷ replies) new later (middle, between, is, rest)
    number =
    if nat_le number (middle.core.begun + 1)
    then added_by settled moment old files (judged message) reply middle between is
    else added_along settled moment middle between messages replies new later rest number

within : (a b : ℕ) → a ≡ b → nat_le a b ≡ true
within a b is = grind (arith, nat_tests)

past : (a b : ℕ) → b < a → nat_le a b ≡ false
past a b is = grind (arith, nat_tests)

pub counted : (added : ℕ → ℕ) (settled : ℕ) (moment : Moment) (old : Opened) (files : Files)
    (messages replies : List (List ℕ)) (new : Opened) (later : Files) → IsOpenFor old files
    → (are : AreFiled settled moment old files messages replies new later)
    → ((number : ℕ) → old.core.begun + 1 < number
    → added number ≡ added_along settled moment old files messages replies new later are number)
    → AreCounted added settled moment old files messages replies new later are
unfolding added_along
counted added settled moment old files [] [] new later is_open are same = tt
counted added settled moment old files [] (reply ∷ replies) new later is_open are same = absurd are
counted added settled moment old files (message ∷ messages) [] new later is_open are same = absurd are
counted added settled moment old files (message ∷ messages) (reply ∷ replies) new later is_open
    (middle, between, is, rest) same =
    let left = leaves settled moment old files (judged message) reply middle between is_open is in
    let here = added_by settled moment old files (judged message) reply middle between is in
    let begun = left.begun in (
      λ more. same (middle.core.begun + 1) (omega (arith, more))
          ∙ ap (λ (b : Bool). if b then here
          else added_along settled moment middle between messages replies new later rest (middle.core.begun + 1))
          (within (middle.core.begun + 1) (middle.core.begun + 1) refl),
      counted added settled moment middle between messages replies new later left.is_open rest
          (λ number above. same number (omega (arith, above, begun))
          ∙ ap (λ (b : Bool). if b then here
          else added_along settled moment middle between messages replies new later rest number)
          (past number (middle.core.begun + 1) above)),
    )

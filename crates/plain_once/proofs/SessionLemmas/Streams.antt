-- A whole input is one piece that is fed to a fresh session.
use Rattle.std.proofs.Common.{◌≡◌, ◌≢◌, ℕ, ◌⊎◌, Bool, true, false, List, [], ◌++◌, Option, Some}
use Rattle.std.proofs.Common.{subst, sym, refl, inl, inr}
use Rattle.plain_once.specs.Session.Counts.{HasData}
use Rattle.plain_once.specs.Session.Records.{IsTooLong, NeedsMore}
use Rattle.plain_once.specs.Session.Serving.{AreAnswered, BeginsClosing, Ends, EndsWith, IsFed, IsNew, IsStream}
use Rattle.plain_once.specs.declared.session.answers.FakeClock.{FakeClock}
use Rattle.plain_once.specs.Session.Serving.{Session, Stops, fresh, fresh_files, is_closed_by, session_of}
use Rattle.plain_once.specs.declared.session.session.PlainSession.{PlainSession}
use Rattle.plain_once.specs.declared.session.session.Connection.{Connection}
use Rattle.plain_once.specs.declared.session.session.Connection.TheVariants.{Closed, Open}

-- a session that is there is fresh
abbrev pub IsFresh : ℕ → ℕ → ℕ → FakeClock → Session → Type 0
IsFresh blocks inodes made time session = (data_blocks : ℕ) × HasData blocks inodes (Some data_blocks)
    × (session ≡ fresh data_blocks inodes made time)

pub fresh_of : (blocks inodes made : ℕ) (time : FakeClock) (session_made : Option PlainSession) (session : PlainSession)
    → session_made ≡ Some session → IsNew blocks inodes made time session_made
    → IsFresh blocks inodes made time (session_of session)
fresh_of blocks inodes made time session_made session is new =
    subst (λ (o : Option PlainSession). IsNew blocks inodes made time o) is new

-- what is left, where it has closed or something is left
left_at_end : (left : List ℕ) (is_closed : Bool) (went : Connection) → Stops left went
    → is_closed ≡ is_closed_by went → (is_closed ≡ true) ⊎ (left ≢ [])
    → IsTooLong left ⊎ BeginsClosing left ⊎ NeedsMore left × (left ≢ [])
left_at_end left is_closed Open more stays (inl closed) = cc
left_at_end left is_closed Open more stays (inr some) = inr (inr (more, some))
left_at_end left is_closed Closed (inl long) closed ends = inl long
left_at_end left is_closed Closed (inr closing) closed ends = inr (inl closing)

pub ends_open : (session : Session) → Ends session Open → EndsWith session.unread 0
ends_open session ends = inl (refl, ends.1)

pub ends_closed : (old new : Session) (input first replies : List ℕ) (went : Connection)
    → IsFed old input first went replies new → Ends new Closed → EndsWith new.unread 1
ends_closed old new input first replies went fed ends =
    inr (refl, left_at_end new.unread new.is_closed went fed.stops fed.closed ends)

-- what is fed to a fresh session
pub fresh_is_open : (blocks inodes made : ℕ) (time : FakeClock) (session : Session)
    → IsFresh blocks inodes made time session → session.is_closed ≡ false
fresh_is_open blocks inodes made time session is =
    subst (λ (s : Session). s.is_closed ≡ false) (sym is.2) refl

pub stream : (blocks inodes made : ℕ) (time : FakeClock) (old new : Session) (input first replies : List ℕ)
    (went : Connection) (status : ℕ) → IsFresh blocks inodes made time old → first ≡ []
    → IsFed old input first went replies new → EndsWith new.unread status
    → (data_blocks : ℕ) × HasData blocks inodes (Some data_blocks)
    × IsStream (fresh_files data_blocks inodes made time) input replies status
stream blocks inodes made time old new input first replies went status is none fed ends =
    let P : List ℕ → Session → Type 0 =
    λ f s. AreAnswered s.files (s.unread ++ input) f replies new.unread new.files in
    let answered = subst (λ (f : List ℕ). P f old) none fed.answered in (
      is.0,
      is.1,
      record {
        left = new.unread;
        after = new.files;
        answered = subst (P []) is.2 answered;
        ends = ends;
      },
    )

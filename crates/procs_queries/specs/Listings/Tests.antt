-- The tests of a listing in two parts: those that need no entry of the directory, and the last one.
use Rattle.std.specs.Prelude.{ℕ, Bool, cond, not, ◌&&◌, List, [], ◌∷◌, length, nat_eq, nat_lt, Result, Ok, Err}
use Rattle.base.specs.declared.TheConstants.{LISTING_FRAME}
use Rattle.nfs_types.specs.declared.ctx.Credential.{Credential}
use Rattle.nfs_types.specs.declared.reply.Listed.{Listed}
use Rattle.nfs_types.specs.declared.status.Status.{Status}
use Rattle.nfs_types.specs.declared.status.Status.TheVariants as status
use Rattle.nfs_types.specs.declared.verifier.Verifier.{Verifier}
use Rattle.nfs_spec.specs.Model.Node.{Node}
use Rattle.nfs_spec.specs.Procedures.FirstTests.{is_no_directory, may_list}
use Rattle.nfs_spec.specs.Procedures.Listing.{asked_bytes, is_bad_cookie, listing_verifier}
use Rattle.procs_queries.specs.Listings.Gathered.{Gathered}

-- the tests of a listing that look at no entry
abbrev pub early_tests : Credential → ℕ → Verifier → ℕ → Node → List (Bool × Status)
early_tests caller cookie verifier count directory =
    (is_no_directory directory, status.NotDir)
    ∷ (not (may_list caller directory), status.Acces)
    ∷ (is_bad_cookie cookie verifier, status.BadCookie)
    ∷ (nat_lt (asked_bytes count) LISTING_FRAME, status.TooSmall)
    ∷ []

-- there was no room for the first entry
abbrev pub has_no_first : Gathered → Bool
has_no_first gathered = gathered.is_full && nat_eq (length gathered.given) 0

-- what is listed, where there was room for the first entry
abbrev pub listed_of : Gathered → Result Listed Status
listed_of gathered = cond (has_no_first gathered) (Err status.TooSmall)
    (Ok (record { verifier = listing_verifier; entries = gathered.given; eof = not gathered.is_full }))

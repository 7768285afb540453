-- READDIR (RFC 1813, section 3.3.16).
use Rattle.std.specs.Prelude.{ℕ, not, List, [], ◌∷◌, Option, Result, Ok}
use Rattle.nfs_types.specs.declared.attributes.Attributes.{Attributes}
use Rattle.nfs_types.specs.declared.ctx.Credential.{Credential}
use Rattle.nfs_types.specs.declared.ctx.Ctx.{Ctx}
use Rattle.nfs_types.specs.declared.entries.ListedItem.{ListedItem}
use Rattle.nfs_types.specs.declared.reply.Listed.{Listed}
use Rattle.nfs_types.specs.declared.status.Status.{Status}
use Rattle.nfs_types.specs.declared.status.Status.TheVariants as status
use Rattle.nfs_types.specs.declared.verifier.Verifier.{Verifier}
use Rattle.nfs_spec.specs.Model.Node.{Node}
use Rattle.nfs_spec.specs.Model.SetAttr.{first_of_tests}
use Rattle.nfs_spec.specs.Model.Tree.{Tree}
use Rattle.nfs_spec.specs.Procedures.FirstTests.{is_no_directory, may_list, unless}
use Rattle.nfs_spec.specs.Procedures.Listing.{listed_bytes, listing_budget, fitting, is_bad_cookie, is_end, is_too_small}
use Rattle.nfs_spec.specs.Procedures.Listing.{listed_behind, listing_verifier}
use Rattle.nfs_spec.specs.Procedures.StepForms.{Tells}

-- why nothing is listed, by what is left and what of it would be given
abbrev pub listing_refusal : Credential → ℕ → Verifier → ℕ → Node → List ListedItem → List ListedItem
    → Option Status
listing_refusal caller cookie verifier count directory left given = first_of_tests (
    (is_no_directory directory, status.NotDir)
    ∷ (not (may_list caller directory), status.Acces)
    ∷ (is_bad_cookie cookie verifier, status.BadCookie)
    ∷ (is_too_small count left given, status.TooSmall)
    ∷ [])

abbrev pub list : Credential → ℕ → Verifier → ℕ → ℕ → Node → Result Listed Status
list caller cookie verifier count number directory =
    let left = listed_behind cookie number directory.body in
    let given = fitting listed_bytes (listing_budget count) left in
    unless (listing_refusal caller cookie verifier count directory left given)
    (Ok (record { verifier = listing_verifier; entries = given; eof = is_end left given }))

abbrev pub ReadDirStep : Tree → Ctx → List ℕ → ℕ → Verifier → ℕ → Result Listed Status → Option Attributes
    → Tree → Type 0
ReadDirStep tree ctx directory cookie verifier count outcome file_attributes next =
    Tells tree directory (list ctx.credential cookie verifier count) outcome file_attributes next

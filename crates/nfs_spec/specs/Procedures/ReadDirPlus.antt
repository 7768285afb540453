-- READDIRPLUS (RFC 1813, section 3.3.17).
use Rattle.std.specs.Prelude.{ℕ, ◌+◌, List, map, Option, Result, Ok}
use Rattle.std.specs.Option.{option_map}
use Rattle.base.specs.declared.TheConstants.{LISTED_ITEM_PLUS_BYTES}
use Rattle.nfs_types.specs.declared.attributes.Attributes.{Attributes}
use Rattle.nfs_types.specs.declared.ctx.Credential.{Credential}
use Rattle.nfs_types.specs.declared.ctx.Ctx.{Ctx}
use Rattle.nfs_types.specs.declared.entries.ListedItem.{ListedItem}
use Rattle.nfs_types.specs.declared.entries.ListedItemPlus.{ListedItemPlus}
use Rattle.nfs_types.specs.declared.reply.ListedPlus.{ListedPlus}
use Rattle.nfs_types.specs.declared.status.Status.{Status}
use Rattle.nfs_types.specs.declared.verifier.Verifier.{Verifier}
use Rattle.nfs_spec.specs.Model.Node.{Node}
use Rattle.nfs_spec.specs.Model.Tree.{Tree, node_at}
use Rattle.nfs_spec.specs.Procedures.FirstTests.{unless}
use Rattle.nfs_spec.specs.Procedures.Listing.{listed_bytes, listing_budget, fitting, is_end, listed_behind}
use Rattle.nfs_spec.specs.Procedures.Listing.{listing_verifier}
use Rattle.nfs_spec.specs.Procedures.Listing.{padded}
use Rattle.nfs_spec.specs.Procedures.ReadDir.{listing_refusal}
use Rattle.nfs_spec.specs.Procedures.StepForms.{Tells, attributes_at, handle_of}

abbrev pub listed_plus_bytes : ListedItem → ℕ
listed_plus_bytes dirent = LISTED_ITEM_PLUS_BYTES + padded dirent.name

-- an entry with what is told of its file
abbrev pub plus : Tree → ListedItem → ListedItemPlus
plus tree dirent = record {
  number = dirent.number;
  name = dirent.name;
  cookie = dirent.cookie;
  attributes = attributes_at tree dirent.number;
  handle = option_map (handle_of dirent.number) (node_at tree dirent.number);
}

-- the longest beginning that has room as a whole, and whose entries have it without what is told of files
abbrev pub fitting_both : ℕ → ℕ → List ListedItem → List ListedItem
fitting_both names_budget budget left = fitting listed_bytes names_budget (fitting listed_plus_bytes budget left)

abbrev pub list_plus : Tree → Credential → ℕ → Verifier → ℕ → ℕ → ℕ → Node → Result ListedPlus Status
list_plus tree caller cookie verifier names_count count number directory =
    let left = listed_behind cookie number directory.body in
    let given = fitting_both names_count (listing_budget count) left in
    unless (listing_refusal caller cookie verifier count directory left given)
    (Ok (record { verifier = listing_verifier; entries = map (plus tree) given; eof = is_end left given }))

abbrev pub ReadDirPlusStep : Tree → Ctx → List ℕ → ℕ → Verifier → ℕ → ℕ → Result ListedPlus Status
    → Option Attributes → Tree → Type 0
ReadDirPlusStep tree ctx directory cookie verifier names_count count outcome file_attributes next =
    Tells tree directory (list_plus tree ctx.credential cookie verifier names_count count) outcome file_attributes next

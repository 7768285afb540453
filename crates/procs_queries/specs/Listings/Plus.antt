-- What READDIRPLUS tells of an entry, by the file that it names.
use Rattle.std.specs.Prelude.{cond, not, map, Option, Result, Ok, Err}
use Rattle.std.specs.Option.{option_map}
use Rattle.nfs_types.specs.declared.entries.ListedItem.{ListedItem}
use Rattle.nfs_types.specs.declared.entries.ListedItemPlus.{ListedItemPlus}
use Rattle.nfs_types.specs.declared.reply.ListedPlus.{ListedPlus}
use Rattle.nfs_types.specs.declared.status.Status.{Status}
use Rattle.nfs_types.specs.declared.status.Status.TheVariants as status
use Rattle.nfs_spec.specs.Model.Attributes.{attributes_of}
use Rattle.nfs_spec.specs.Model.Node.{Node}
use Rattle.nfs_spec.specs.Model.Tree.{Tree}
use Rattle.nfs_spec.specs.Procedures.Listing.{listing_verifier}
use Rattle.nfs_spec.specs.Procedures.ReadDirPlus.{plus}
use Rattle.nfs_spec.specs.Procedures.StepForms.{handle_of}
use Rattle.procs_queries.specs.Listings.Gathered.{Gathered}
use Rattle.procs_queries.specs.Listings.Tests.{has_no_first}

-- an entry with what is told of its file, if it names one
abbrev pub listed_with_attributes : ListedItem → Option Node → ListedItemPlus
listed_with_attributes listed_item node = record {
  number = listed_item.number;
  name = listed_item.name;
  cookie = listed_item.cookie;
  attributes = option_map (attributes_of listed_item.number) node;
  handle = option_map (handle_of listed_item.number) node;
}

-- what is listed, where there was room for the first entry
abbrev pub listed_plus_of : Tree → Gathered → Result ListedPlus Status
listed_plus_of tree gathered = cond (has_no_first gathered) (Err status.TooSmall)
    (Ok (record {
      verifier = listing_verifier;
      entries = map (plus tree) gathered.given;
      eof = not gathered.is_full;
    }))

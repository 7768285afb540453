use Rattle.std.proofs.Common.{ℕ, ◌+◌, sym, ap, ◌∙◌, nat_eq, List, Some}
use Rattle.std.proofs.lemmas.List.Quantifiers.{position-Some}
use Rattle.std.specs.List.{find}
use Rattle.std.specs.Option.{option_map}
use Rattle.nfs_types.specs.declared.entries.ListedItem.{ListedItem}
use Rattle.nfs_spec.specs.Model.Node.{DirentValue}
use Rattle.nfs_spec.proofs.ProceduresLemmas.Tests.{equal}
use Rattle.nfs_spec.specs.Procedures.Listing.{listed_in}
use Rattle.nfs_spec.specs.declared.procedures.cookies.TheConstants.{FIRST_SLOT_COOKIE}
use Rattle.plain_tree.specs.Tree.Plain.{body_of}
use Rattle.plain_tree.specs.declared.tree.plain_names.PlainDirent.{PlainDirent}
use Rattle.plain_steps.proofs.SlotsOf.{found_slot, lies, no_slot}
use Rattle.plain_steps.proofs.tree_files.next_names.name_in.Goals as goal

abbrev put : ℕ → List ℕ × DirentValue → ListedItem
put slot dirent = record { number = dirent.1.number; name = dirent.0; cookie = slot + FIRST_SLOT_COOKIE }

pub returns-in_ok-name-in-Some-clause-slot : goal.returns-in_ok-name-in-Some-clause-slot
returns-in_ok-name-in-Some-clause-slot c =
    let slot = c.args.slot in
    let dirent = c.index-entries-index.result in
    let at = position-Some (λ (e : PlainDirent). nat_eq e.slot slot) c.as_slice-entries.result.now c.in-Some.index
    dirent (sym c.slot_position.ensures ∙ c.in-Some.is) in
    equal dirent.slot slot (ap (λ (e : PlainDirent). nat_eq e.slot slot) c.index-entries-index.is ∙ at.1)

pub returns-in_ok-name-in-Some-clause-is : goal.returns-in_ok-name-in-Some-clause-is
returns-in_ok-name-in-Some-clause-is c =
    let slot = c.args.slot in
    let dirent = c.index-entries-index.result in
    ap (λ b. listed_in (body_of b) slot) c.in-Directory.is
    ∙ ap (λ es. option_map (put slot) (find (lies slot) es)) (sym c.as_slice-entries.ensures)
    ∙ ap (option_map (put slot)) (found_slot slot c.as_slice-entries.result.now c.in-Some.index dirent
    (sym c.slot_position.ensures ∙ c.in-Some.is) c.index-entries-index.is)
    ∙ (λ i. Some (record {
      number = dirent.number;
      name = sym c.in_ok-name-in-Some.ensures i;
      cookie = sym (returns-in_ok-name-in-Some-clause-slot c) i + FIRST_SLOT_COOKIE;
    }))

pub returns-in-None-clause-is : goal.returns-in-None-clause-is
returns-in-None-clause-is c =
    let slot = c.args.slot in
    ap (λ b. listed_in (body_of b) slot) c.in-Directory.is
    ∙ ap (λ es. option_map (put slot) (find (lies slot) es)) (sym c.as_slice-entries.ensures)
    ∙ ap (option_map (put slot)) (no_slot slot c.as_slice-entries.result.now
    (sym c.slot_position.ensures ∙ c.in-None.is))

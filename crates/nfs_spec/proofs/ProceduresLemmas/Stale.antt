-- Handles over steps: which stamps a step gives, and that a stale handle stays stale.
use Rattle.std.proofs.Common.{◌≡◌, ◌≢◌, inl, inr, ℕ, ◌-◌, ◌≤◌, sym, ap, subst, ◌∙◌, refl, Bool, true}
use Rattle.std.proofs.Common.{false}
use Rattle.std.proofs.Common.{cond, ◌&&◌, List, [], ◌∷◌, length, nat_eq, nat_lt, Option, Some, None}
use Rattle.std.proofs.Common.{Result, Ok, Err}
use Rattle.std.specs.Option.{option_map}
use Rattle.base.specs.declared.TheConstants.{HANDLE_BYTES}
use Rattle.nfs_types.specs.Fits.{CallFits}
use Rattle.nfs_types.specs.declared.call.Call.{Call}
use Rattle.nfs_types.specs.declared.ctx.Ctx.{Ctx}
use Rattle.nfs_types.specs.declared.ctx.Moment.{Moment}
use Rattle.nfs_types.specs.declared.handle.Stamp.{Stamp}
use Rattle.nfs_types.specs.declared.reply.Reply.{Reply}
use Rattle.nfs_types.specs.declared.status.Status.{Status}
use Rattle.nfs_types.specs.declared.status.Status.TheVariants as status
use Rattle.nfs_spec.specs.Model.Entry.{Entry}
use Rattle.nfs_spec.specs.Model.Find.{find_file, is_number, number_in, same_stamp, stamp_in, stamped}
use Rattle.nfs_spec.specs.Model.Node.{Node}
use Rattle.nfs_spec.specs.Model.Sound.{IsMadeBy}
use Rattle.nfs_spec.specs.Model.Tree.{Tree, node_at, with_node}
use Rattle.nfs_spec.proofs.ProceduresLemmas.Tests.{equal}
use Rattle.nfs_spec.proofs.ProceduresLemmas.Doing.{what_is_done}
use Rattle.nfs_spec.proofs.ProceduresLemmas.TreeChanges.{TreeChange, leaves, links, makes, named_is, removes, renames, sets}
use Rattle.nfs_spec.proofs.ProceduresLemmas.TreeChanges.{writes}
use Rattle.nfs_spec.proofs.ProceduresLemmas.Lacking.{equal_or_not, gone_change, put_change}
use Rattle.nfs_spec.specs.Procedures.Changes.{changed_at, departed, is_last_name, with_file, without_name}
use Rattle.nfs_spec.specs.Procedures.Changes.{without_node}
use Rattle.nfs_spec.specs.Procedures.After.{after}
use Rattle.nfs_spec.specs.Procedures.Histories.{IsGivenByNone, stamp_of}
use Rattle.nfs_spec.specs.Procedures.Link.{linked}
use Rattle.nfs_spec.specs.Procedures.Rename.{file_in, moved}
use Rattle.nfs_spec.specs.Procedures.Stamps.{IsPreservedOrMade}
use Rattle.nfs_spec.specs.Procedures.Step.{step}
use Rattle.nfs_spec.specs.Procedures.Write.{with_text, written}

-- What a handle tells of the file that it names.

pub record Found (tree : Tree) (handle : List ℕ) (found : ℕ × Node) : Type 0 where
  pub lawful : (nat_eq (length handle) HANDLE_BYTES && is_number tree (number_in handle)) ≡ true
  pub number : number_in handle ≡ found.0
  pub there : node_at tree found.0 ≡ Some found.1
  pub stamp : same_stamp (stamp_in handle) found.1.stamp ≡ true

chosen : (b : Bool) (x found : ℕ × Node) (e : Status) → cond b (Ok x) (Err e) ≡ Ok found
    → (b ≡ true) × (x ≡ found)
chosen true x found e is = (refl, cc)
chosen false x found e is = cc

found_by : (tree : Tree) (handle : List ℕ) (found : ℕ × Node) (at : Option Node)
    → (nat_eq (length handle) HANDLE_BYTES && is_number tree (number_in handle)) ≡ true
    → node_at tree (number_in handle) ≡ at → stamped (number_in handle) (stamp_in handle) at ≡ Ok found
    → Found tree handle found
found_by tree handle found None lawful there is = cc
found_by tree handle found (Some node) lawful there is =
    let parts = chosen (same_stamp (stamp_in handle) node.stamp)
    (number_in handle, node) found status.Stale is in
    let number : number_in handle ≡ found.0 = ap (λ f. f.0) parts.1 in
    let node_is : node ≡ found.1 = ap (λ f. f.1) parts.1 in
    record {
      lawful = lawful;
      number = number;
      there = ap (node_at tree) (sym number) ∙ there ∙ ap Some node_is;
      stamp = ap (λ n. same_stamp (stamp_in handle) n.stamp) (sym node_is) ∙ parts.0;
    }

found_of : (tree : Tree) (handle : List ℕ) (found : ℕ × Node) (lawful : Bool)
    → (nat_eq (length handle) HANDLE_BYTES && is_number tree (number_in handle)) ≡ lawful
    → cond lawful (stamped (number_in handle) (stamp_in handle) (node_at tree (number_in handle)))
    (Err status.BadHandle) ≡ Ok found → Found tree handle found
found_of tree handle found true lawful is =
    found_by tree handle found (node_at tree (number_in handle)) lawful refl is
found_of tree handle found false lawful is = cc

pub found_is : (tree : Tree) (handle : List ℕ) (found : ℕ × Node) → find_file tree handle ≡ Ok found
    → Found tree handle found
found_is tree handle found is = found_of tree handle found _ refl is

-- and back
pub is_found : (tree : Tree) (handle : List ℕ) (found : ℕ × Node) → Found tree handle found
    → find_file tree handle ≡ Ok found
is_found tree handle found f =
    ap (λ b. cond b (stamped (number_in handle) (stamp_in handle) (node_at tree (number_in handle)))
    (Err status.BadHandle)) f.lawful
    ∙ ap (stamped (number_in handle) (stamp_in handle)) (ap (node_at tree) f.number ∙ f.there)
    ∙ ap (λ b. cond b (Ok (number_in handle, found.1)) (Err status.Stale)) f.stamp
    ∙ ap (λ n. Ok (n, found.1)) f.number

-- A file that is changed keeps its handle.
pub refound : (tree : Tree) (handle : List ℕ) (found : ℕ × Node) (new : Node) → find_file tree handle ≡ Ok found
    → new.stamp ≡ found.1.stamp → find_file (with_node tree found.0 new) handle ≡ Ok (found.0, new)
refound tree handle found new is same =
    let f = found_is tree handle found is in
    is_found (with_node tree found.0 new) handle (found.0, new) (record {
      lawful = f.lawful;
      number = f.number;
      there = (put_change tree found.0 (Some found.1) new f.there).here;
      stamp = ap (same_stamp (stamp_in handle)) same ∙ f.stamp;
    })

-- Which stamps a change gives.

-- each file had its stamp before, or its number was unused and it has that of the context
pub record Follows (tree next : Tree) (mine : Stamp) : Type 0 where
  pub geometry : next.geometry ≡ tree.geometry
  pub stamps : (number : ℕ) (node : Node) → node_at next number ≡ Some node
      → IsPreservedOrMade tree number node.stamp mine

module _ (mine : Stamp) (tree : Tree) where
  pub stays : Follows tree tree mine
  stays = record {
    geometry = refl;
    stamps = λ number node is. inl (record { old = node; old_is = is; stamp_is = refl });
  }

  -- a file that keeps the stamp of the one before it, or has that of the context under an unused number
  pub puts : (middle : Tree) (number : ℕ) (new : Node) → Follows tree middle mine
      → IsPreservedOrMade tree number new.stamp mine → Follows tree (with_node middle number new) mine
  puts middle number new before given =
      let change = put_change middle number (node_at middle number) new refl in
      record {
        geometry = before.geometry;
        stamps = λ q node is.
            elim (equal_or_not q number) [
              | inl same ↦
                  let one : Some new ≡ Some node =
                  sym change.here ∙ ap (node_at (with_node middle number new)) (sym same) ∙ is in
                  let new_is : new ≡ node = cc in
                  subst (λ s. IsPreservedOrMade tree q s mine) (ap (λ (n : Node). n.stamp) new_is)
                  (subst (λ n. IsPreservedOrMade tree n new.stamp mine) (sym same) given)
              | inr apart ↦ before.stamps q node (sym (change.there q apart) ∙ is)
            ];
      }

  pub takes : (middle : Tree) (number : ℕ) → Follows tree middle mine
      → Follows tree (without_node middle number) mine
  takes middle number before =
      let change = gone_change middle number (node_at middle number) refl in
      record {
        geometry = before.geometry;
        stamps = λ q node is.
            elim (equal_or_not q number) [
              | inl same ↦
                  let never : None ≡ Some node =
                  sym change.here ∙ ap (node_at (without_node middle number)) (sym same) ∙ is in cc
              | inr apart ↦ before.stamps q node (sym (change.there q apart) ∙ is)
            ];
      }

  changes_by : (middle : Tree) (number : ℕ) (change : Node → Node) (at : Option Node)
      → node_at middle number ≡ at → Follows tree middle mine → ((node : Node)
      → (change node).stamp ≡ node.stamp)
      → Follows tree (with_file middle number (option_map change at)) mine
  changes_by middle number change None is before preserves = before
  changes_by middle number change (Some node) is before preserves =
      puts middle number (change node) before
      (subst (λ s. IsPreservedOrMade tree number s mine) (sym (preserves node)) (before.stamps number node is))

  pub changes : (middle : Tree) (number : ℕ) (change : Node → Node) → Follows tree middle mine
      → ((node : Node) → (change node).stamp ≡ node.stamp) → Follows tree (changed_at middle number change) mine
  changes middle number change before preserves =
      changes_by middle number change (node_at middle number) refl before preserves

  unnames_by : (last : Bool) (middle : Tree) (number : ℕ) (file fewer : Node) → Follows tree middle mine
      → node_at tree number ≡ Some file → file.stamp ≡ fewer.stamp
      → Follows tree (cond last (without_node middle number) (with_node middle number fewer)) mine
  unnames_by true middle number file fewer before is same = takes middle number before
  unnames_by false middle number file fewer before is same =
      puts middle number fewer before (inl (record { old = file; old_is = is; stamp_is = same }))

  -- a name that is taken away, with its file where that was the last
  unnames : (middle : Tree) (moment : Moment) (at : ℕ) (name : List ℕ) (found : Option (ℕ × Node))
      → Follows tree middle mine → ((file : ℕ × Node) → found ≡ Some file → node_at tree file.0 ≡ Some file.1)
      → Follows tree (without_name middle moment at name found) mine
  unnames middle moment at name None before stands = before
  unnames middle moment at name (Some file) before stands =
      unnames_by (is_last_name file.1) (changed_at middle at (departed moment name file.1.body)) file.0 file.1
      (record file.1 { nlink = file.1.nlink - 1; ctime = moment })
      (changes middle at (departed moment name file.1.body) before (λ node. refl)) (stands file refl) refl

written_stamp : (b : Bool) (node new : Node) → node.stamp ≡ new.stamp → node.stamp ≡ (cond b node new).stamp
written_stamp true node new e = refl
written_stamp false node new e = e

module _ (tree next : Tree) (ctx : Ctx) (fits : Type 0) where
  tree_change_follows : TreeChange tree ctx fits next → Follows tree next (stamp_of ctx)
  tree_change_follows (leaves same) = subst (λ t. Follows tree t (stamp_of ctx)) (sym same) (stays (stamp_of ctx) tree)
  tree_change_follows (sets d) =
      subst (λ t. Follows tree t (stamp_of ctx)) (sym d.leads)
      (puts (stamp_of ctx) tree tree d.number _ (stays (stamp_of ctx) tree) (inl (record { old = d.node; old_is = d.stands; stamp_is = refl })))
  tree_change_follows (writes d) =
      subst (λ t. Follows tree t (stamp_of ctx)) (sym d.leads)
      (puts (stamp_of ctx) tree tree d.number (written ctx.moment d.offset d.text d.node) (stays
      (stamp_of ctx) tree)
      (inl (record {
        old = d.node;
        old_is = d.stands;
        stamp_is = written_stamp (nat_eq (length d.text) 0) d.node (record d.node {
          mtime = ctx.moment;
          ctime = ctx.moment;
          body = with_text d.offset d.text d.node.body;
        }) refl;
      })))
  tree_change_follows (makes d) =
      subst (λ t. Follows tree t (stamp_of ctx)) (sym d.leads)
      (puts (stamp_of ctx) tree _ d.dirent.number _
      (changes (stamp_of ctx) tree tree d.at _ (stays (stamp_of ctx) tree) (λ node. refl))
      (inr (record { unused = d.unused.free; stamp_is = refl })))
  tree_change_follows (links d) =
      subst (λ t. Follows tree t (stamp_of ctx)) (sym d.leads)
      (changes (stamp_of ctx) tree _ d.number (linked ctx.moment)
      (changes (stamp_of ctx) tree tree d.at _ (stays (stamp_of ctx) tree) (λ node. refl)) (λ node. refl))
  tree_change_follows (removes d) =
      subst (λ t. Follows tree t (stamp_of ctx)) (sym d.leads)
      (unnames (stamp_of ctx) tree tree ctx.moment d.at d.name (Some d.file) (stays (stamp_of ctx) tree)
      (λ file same.
      let one : d.file ≡ file = cc in
      subst (λ f. node_at tree f.0 ≡ Some f.1) one (named_is tree d.directory d.name d.file d.found).stands))
  tree_change_follows (renames d) =
      subst (λ t. Follows tree t (stamp_of ctx)) (sym d.leads)
      (changes (stamp_of ctx) tree _ d.file.0 (moved ctx.moment d.target.number)
      (changes (stamp_of ctx) tree _ d.target.number _
      (unnames (stamp_of ctx) tree _ ctx.moment d.target.number d.target.name (file_in tree d.target)
      (changes (stamp_of ctx) tree tree d.source.number _ (stays (stamp_of ctx) tree) (λ node. refl))
      (λ file is. (named_is tree d.target.directory d.target.name file is).stands)) (λ node. refl))
      (λ node. refl))

-- A step gives no other stamp than that of its context.
pub step_follows : (tree next : Tree) (ctx : Ctx) (asked : Call) (given : Reply)
    → step tree ctx asked given next → Follows tree next (stamp_of ctx)
step_follows tree next ctx asked given step =
    tree_change_follows tree next ctx (CallFits asked)
    (what_is_done tree next ctx step.new asked given step.is_new step.leads)

-- No step gives the stamp of a later boot.
pub no_later : (boot : ℕ) (tree next : Tree) (ctx : Ctx) (asked : Call) (given : Reply) → IsMadeBy boot tree
    → ctx.boot ≤ boot → step tree ctx asked given next → IsMadeBy boot next
no_later boot tree next ctx asked given made now step number node is =
    elim ((step_follows tree next ctx asked given step).stamps number node is) [
      | inl was ↦ subst (λ s. s.boot ≤ boot) was.stamp_is (made number was.old was.old_is)
      | inr own ↦ subst (λ s. s.boot ≤ boot) (sym own.stamp_is) now
    ]

-- Stale handles.

pub stamps_are : (a b : Stamp) → same_stamp a b ≡ true → a ≡ b
stamps_are a b e =
    let parts = both (nat_eq a.boot b.boot) (nat_eq a.transaction b.transaction) e in
    let boots = equal a.boot b.boot parts.0 in
    let transactions = equal a.transaction b.transaction parts.1 in
    λ i. record { boot = boots i; transaction = transactions i }
  where
    both : (x y : Bool) → (x && y) ≡ true → (x ≡ true) × (y ≡ true)
    both true y e = (refl, e)
    both false y e = cc

outcome_stale : (number : ℕ) (stamp : Stamp) (at : Option Node)
    → ((found : ℕ × Node) → stamped number stamp at ≡ Ok found → ⊥) → stamped number stamp at ≡ Err status.Stale
outcome_stale number stamp None never = refl
outcome_stale number stamp (Some node) never = by (same_stamp stamp node.stamp) (number, node) never
  where
    by : (b : Bool) (file : ℕ × Node)
        → ((found : ℕ × Node) → cond b (Ok file) (Err status.Stale) ≡ Ok found → ⊥)
        → cond b (Ok file) (Err status.Stale) ≡ Err status.Stale
    by true file never = absurd (never file refl)
    by false file never = refl

lawful_by : (b : Bool) (r : Result (ℕ × Node) Status) → cond b r (Err status.BadHandle) ≡ Err status.Stale
    → b ≡ true
lawful_by true r is = refl
lawful_by false r is = cc

-- a handle that is stale in one tree, and names no file in another of the same numbers, is stale there
pub stale_too : (tree next : Tree) (handle : List ℕ) → next.geometry ≡ tree.geometry
    → find_file tree handle ≡ Err status.Stale → ((found : ℕ × Node) → find_file next handle ≡ Ok found → ⊥)
    → find_file next handle ≡ Err status.Stale
stale_too tree next handle same stale never =
    let lawful = lawful_by _ _ stale in
    let here : (nat_eq (length handle) HANDLE_BYTES && is_number next (number_in handle)) ≡ true =
    ap (λ g. nat_eq (length handle) HANDLE_BYTES && (nat_lt 0 (number_in handle) && nat_lt
    (number_in handle) g.inodes))
    same ∙ lawful in
    let is : find_file next handle ≡ stamped (number_in handle) (stamp_in handle) (node_at next
    (number_in handle)) =
    ap (λ b. cond b (stamped (number_in handle) (stamp_in handle) (node_at next (number_in handle)))
    (Err status.BadHandle)) here in
    is ∙ outcome_stale (number_in handle) (stamp_in handle) (node_at next (number_in handle))
    (λ found found_there. never found (is ∙ found_there))

step_stale : (tree next : Tree) (ctx : Ctx) (asked : Call) (given : Reply) (handle : List ℕ)
    → find_file tree handle ≡ Err status.Stale → stamp_of ctx ≢ stamp_in handle
    → step tree ctx asked given next → find_file next handle ≡ Err status.Stale
step_stale tree next ctx asked given handle stale other step =
    let follows = step_follows tree next ctx asked given step in
    stale_too tree next handle follows.geometry stale (λ found is.
    let f = found_is next handle found is in
    let mine = stamps_are (stamp_in handle) found.1.stamp f.stamp in
    elim (follows.stamps found.0 found.1 f.there) [
      | inl was ↦
          let found_then : find_file tree handle ≡ Ok (found.0, was.old) =
          is_found tree handle (found.0, was.old) (record {
            lawful = lawful_by _ _ stale;
            number = f.number;
            there = was.old_is;
            stamp = ap (same_stamp (stamp_in handle)) was.stamp_is ∙ f.stamp;
          }) in
          let never : Ok (found.0, was.old) ≡ Err status.Stale = sym found_then ∙ stale in cc
      | inr own ↦ absurd (other (sym (mine ∙ own.stamp_is)))
    ])

pub history_stale : (tree next : Tree) (entries : List Entry) (handle : List ℕ)
    → find_file tree handle ≡ Err status.Stale → IsGivenByNone (stamp_in handle) entries
    → after tree entries next
    → find_file next handle ≡ Err status.Stale
history_stale tree next [] handle stale none same = ap (λ t. find_file t handle) same ∙ stale
history_stale tree next (entry ∷ entries) handle stale none leads =
    history_stale leads.0 next entries handle
    (step_stale tree leads.0 entry.ctx entry.call entry.reply handle stale none.0 leads.1) none.1 leads.2

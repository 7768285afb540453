-- What a WRITE that is answered OK leaves, what a READ behind it gives, and what both take of the blocks.
use Rattle.std.proofs.Common.{◌≡◌, ℕ, ◌+◌, ◌-◌, ◌<◌, ◌≤◌, min, ◌⊎◌, inl, inr, not, nat_lt, sym, ap, subst}
use Rattle.std.proofs.Common.{◌∙◌, refl, Bool, true, false}
use Rattle.std.proofs.Common.{cond, ◌||◌, List, [], ◌∷◌, length, get_or, drop, nat_eq, Option, Some}
use Rattle.std.proofs.Common.{None}
use Rattle.std.proofs.Common.{Result, Ok, Err, arith, rules}
use Rattle.std.proofs.lemmas.Bool.Decides.{nat_tests}
use Rattle.std.proofs.lemmas.List.{ext_get_or, get_or-drop, get_or-take, length-drop, length-take}
use Rattle.std.specs.Cmp.{nat_cmp_total}
use Rattle.std.specs.FinMap.{nat_cmp-IsAntisymmetric}
use Rattle.std.specs.FinSet.{FinSet, contains, contains-insert, contains-items, insert, len}
use Rattle.std.specs.FinSet.{len-insert}
use Rattle.std.specs.Ordering.{eq_by_cmp, nat_cmp}
use Rattle.base.specs.declared.TheConstants.{TRANSFER_BYTES}
use Rattle.nfs_types.specs.declared.attributes.Attributes.{Attributes}
use Rattle.nfs_types.specs.declared.attributes.WeakCacheData.{WeakCacheData}
use Rattle.nfs_types.specs.declared.call.Stability.{Stability}
use Rattle.nfs_types.specs.declared.ctx.Ctx.{Ctx}
use Rattle.nfs_types.specs.declared.reply.ReadBytes.{ReadBytes}
use Rattle.nfs_types.specs.declared.reply.Written.{Written}
use Rattle.nfs_types.specs.declared.status.Status.{Status}
use Rattle.nfs_types.specs.declared.status.Status.TheVariants as status
use Rattle.nfs_spec.proofs.ModelLemmas.Answered.{found-stands}
use Rattle.nfs_spec.proofs.ModelLemmas.Costs.{more_cost}
use Rattle.nfs_spec.specs.Model.Cost.{cost, file_cost}
use Rattle.nfs_spec.specs.Model.Find.{find_file}
use Rattle.nfs_spec.specs.Model.Node.{Node, Body, Regular, Directory, Link}
use Rattle.nfs_spec.specs.Model.SetAttr.{is_regular}
use Rattle.nfs_spec.specs.Model.Tree.{Tree, need, used, with_node}
use Rattle.nfs_spec.proofs.ProceduresLemmas.Tests.{equal, not_above, passes}
use Rattle.nfs_spec.proofs.ProceduresLemmas.TreeChanges.{passed}
use Rattle.nfs_spec.proofs.ProceduresLemmas.Lacking.{put_change}
use Rattle.nfs_spec.proofs.ProceduresLemmas.Overwriting.{preserved_before, preserved_behind, length_overwritten, written_at}
use Rattle.nfs_spec.proofs.ProceduresLemmas.Parts.{insert_same}
use Rattle.nfs_spec.proofs.ProceduresLemmas.Stale.{refound}
use Rattle.nfs_spec.proofs.ProceduresLemmas.Sums.{need_of_one}
use Rattle.nfs_spec.specs.Procedures.Changes.{if_space, lacks_space}
use Rattle.nfs_spec.specs.Procedures.FirstTests.{found_then, unless}
use Rattle.nfs_spec.specs.Procedures.Read.{ReadStep, bytes_of, piece, read, read_bytes, read_refusal}
use Rattle.nfs_spec.specs.Procedures.StepForms.{Acts, Effect, answer_of, tree_after}
use Rattle.nfs_spec.specs.Procedures.Write.{WriteStep, is_wrong_count, mapped_with, overwritten, touched, with_text}
use Rattle.nfs_spec.specs.Procedures.Write.{write, write_refusal}
use Rattle.nfs_spec.specs.Procedures.Write.{written, written_reply}

-- Answers that aren't refusals.

-- what an answer that isn't a refusal comes from
pub record Acted {A : Type 0} (tree next : Tree) (handle : List ℕ) (act : ℕ → Node → Result (Effect A) Status)
    (answer : A) : Type 0 where
  pub found : ℕ × Node
  pub found_is : find_file tree handle ≡ Ok found
  pub effect : Effect A
  pub act_is : act found.0 found.1 ≡ Ok effect
  pub answer_is : answer ≡ effect.answer
  pub leads : next ≡ effect.next

by_effect : {A : Type 0} (tree next : Tree) (handle : List ℕ) (act : ℕ → Node → Result (Effect A) Status)
    (answer : A) (found : ℕ × Node) (result : Result (Effect A) Status) → find_file tree handle ≡ Ok found
    → act found.0 found.1 ≡ result → Ok answer ≡ answer_of result → next ≡ tree_after tree result
    → Acted tree next handle act answer
by_effect tree next handle act answer found (Ok effect) is act_is answered leads = record {
  found = found;
  found_is = is;
  effect = effect;
  act_is = act_is;
  answer_is = cc;
  leads = leads;
}
by_effect tree next handle act answer found (Err status) is act_is answered leads = cc

by_handle : {A : Type 0} (tree next : Tree) (handle : List ℕ) (act : ℕ → Node → Result (Effect A) Status)
    (answer : A) (found : Result (ℕ × Node) Status) → find_file tree handle ≡ found
    → Ok answer ≡ answer_of (found_then found act) → next ≡ tree_after tree (found_then found act)
    → Acted tree next handle act answer
by_handle tree next handle act answer (Ok found) is answered leads =
    by_effect tree next handle act answer found (act found.0 found.1) is refl answered leads
by_handle tree next handle act answer (Err status) is answered leads = cc

pub acted : {A : Type 0} (tree next : Tree) (handle : List ℕ) (act : ℕ → Node → Result (Effect A) Status)
    (answer : A) (file_attributes : WeakCacheData) → Acts tree handle act (Ok answer) file_attributes next
    → Acted tree next handle act answer
acted tree next handle act answer file_attributes s =
    by_handle tree next handle act answer (find_file tree handle) refl s.answered s.leads

pub unless_ok : {A : Type 0} (test : Option Status) (result : Result A Status) (answer : A)
    → unless test result ≡ Ok answer → (test ≡ None) × (result ≡ Ok answer)
unless_ok None result answer is = (refl, is)
unless_ok (Some status) result answer is = cc

space_ok : {A : Type 0} (lacks : Bool) (effect answer : Effect A)
    → cond lacks (Err status.NoSpc) (Ok effect) ≡ Ok answer → (lacks ≡ false) × (effect ≡ answer)
space_ok true effect answer is = cc
space_ok false effect answer is = (refl, cc)

few : (count : ℕ) (text : List ℕ) → is_wrong_count count text ≡ false → length text ≤ TRANSFER_BYTES
few count text right = by (nat_eq count (length text)) refl right
  where
    by : (b : Bool) → nat_eq count (length text) ≡ b → (not b || nat_lt TRANSFER_BYTES count) ≡ false
        → length text ≤ TRANSFER_BYTES
    by true same e =
        let most = not_above TRANSFER_BYTES count e in
        let count_is = equal count (length text) same in
        omega (arith, most, count_is)
    by false same e = cc

-- what a WRITE that is answered OK did
pub record Wrote (tree next : Tree) (ctx : Ctx) (handle : List ℕ) (offset : ℕ) (text : List ℕ) : Type 0 where
  pub found : ℕ × Node
  pub found_is : find_file tree handle ≡ Ok found
  pub regular : is_regular found.1.body ≡ true
  pub short : length text ≤ TRANSFER_BYTES
  pub leads : next ≡ with_node tree found.0 (written ctx.moment offset text found.1)

pub wrote : (tree next : Tree) (ctx : Ctx) (handle : List ℕ) (offset count : ℕ) (stability : Stability)
    (text : List ℕ) (answer : Written) (file_attributes : WeakCacheData)
    → WriteStep tree ctx handle offset count stability text (Ok answer) file_attributes next
    → Wrote tree next ctx handle offset text
wrote tree next ctx handle offset count stability text answer file_attributes s =
    let done = acted tree next handle (write tree ctx offset count stability text) answer file_attributes s in
    let effect : Effect Written = record {
      answer = written_reply ctx count stability;
      next = with_node tree done.found.0 (written ctx.moment offset text done.found.1);
    } in
    let tests = unless_ok (write_refusal ctx.credential offset count text done.found.1) (if_space tree effect)
    done.effect done.act_is in
    let has_space = space_ok (lacks_space tree effect.next) effect done.effect tests.1 in
    let kind = passed (not (is_regular done.found.1.body)) _ _ tests.0 in
    let right = passed (is_wrong_count count text) _ _ kind.1 in
    record {
      found = done.found;
      found_is = done.found_is;
      regular = passes _ kind.0;
      short = few count text right.0;
      leads = done.leads ∙ ap (λ e. e.next) (sym has_space.1);
    }

-- What is read.

query_gives : {A : Type 0} (found : Result (ℕ × Node) Status) (tell : ℕ → Node → Result A Status) (answer : A)
    (file : ℕ × Node) → found ≡ Ok file → Ok answer ≡ found_then found tell → Ok answer ≡ tell file.0 file.1
query_gives found tell answer file is answered = answered ∙ ap (λ f. found_then f tell) is

-- what a READ of a file gives that is answered OK
pub read_gives : (tree next : Tree) (ctx : Ctx) (handle : List ℕ) (offset count : ℕ) (answer : ReadBytes)
    (file_attributes : Option Attributes) (file : ℕ × Node) → find_file tree handle ≡ Ok file
    → ReadStep tree ctx handle offset count (Ok answer) file_attributes next
    → answer.bytes ≡ piece offset count (bytes_of file.1.body)
read_gives tree next ctx handle offset count answer file_attributes file is s =
    let given = query_gives (find_file tree handle) (read ctx.credential offset count) answer file is s.answered in
    let bytes = bytes_of file.1.body in
    let whole = unless_ok (read_refusal ctx.credential file.1) (Ok (read_bytes offset bytes
    (piece offset count bytes)))
    answer (sym given) in
    let same : read_bytes offset bytes (piece offset count bytes) ≡ answer = let one = whole.1 in cc in
    ap (λ r. r.bytes) (sym same)

stamp_stays : (b : Bool) (node new : Node) → new.stamp ≡ node.stamp → (cond b node new).stamp ≡ node.stamp
stamp_stays true node new e = refl
stamp_stays false node new e = e

-- the file as a WRITE leaves it is what the handle names then
pub found_again : (tree next : Tree) (ctx : Ctx) (handle : List ℕ) (offset : ℕ) (text : List ℕ)
    (done : Wrote tree next ctx handle offset text)
    → find_file next handle ≡ Ok (done.found.0, written ctx.moment offset text done.found.1)
found_again tree next ctx handle offset text done =
    ap (λ t. find_file t handle) done.leads
    ∙ refound tree handle done.found (written ctx.moment offset text done.found.1) done.found_is
    (stamp_stays (nat_eq (length text) 0) done.found.1 (record done.found.1 {
      mtime = ctx.moment;
      ctime = ctx.moment;
      body = with_text offset text done.found.1.body;
    }) refl)

-- The bytes of the file as a WRITE leaves it.

-- an item of a piece
item_of : (offset count index : ℕ) (bytes : List ℕ) → index < length (piece offset count bytes)
    → get_or (piece offset count bytes) index 0 ≡ get_or bytes (offset + index) 0
item_of offset count index bytes inside =
    let most = length-take (min count TRANSFER_BYTES) (drop offset bytes) in
    get_or-take (min count TRANSFER_BYTES) (drop offset bytes) index 0 (omega (arith, inside, most))
    ∙ get_or-drop offset bytes index 0

piece_written : (offset : ℕ) (text bytes : List ℕ) → length text ≤ TRANSFER_BYTES
    → piece offset (length text) (overwritten offset text bytes) ≡ text
piece_written offset text bytes short =
    let all = overwritten offset text bytes in
    let taken = length-take (min (length text) TRANSFER_BYTES) (drop offset all) in
    let left = length-drop offset all in
    let whole = length_overwritten offset text bytes in
    let long : length (piece offset (length text) all) ≡ length text =
    omega (arith, taken, left, whole, short) in
    ext_get_or 0 (piece offset (length text) all) text long (λ index inside.
    let here : offset + index - offset ≡ index = omega arith in
    item_of offset (length text) index all inside
    ∙ written_at offset (offset + index) text bytes (omega arith) (omega (arith, inside, long))
    ∙ ap (λ n. get_or text n 0) here)

nothing_asked : (offset : ℕ) (bytes : List ℕ) → piece offset 0 bytes ≡ []
nothing_asked offset bytes = search rules

no_text : (text : List ℕ) → nat_eq (length text) 0 ≡ true → text ≡ []
no_text [] e = refl
no_text (x ∷ xs) e = absurd (grind (arith, nat_tests, e))

bytes_with : (offset : ℕ) (text : List ℕ) (body : Body) → is_regular body ≡ true
    → bytes_of (with_text offset text body) ≡ overwritten offset text (bytes_of body)
bytes_with offset text (Regular bytes mapped) kind = refl
bytes_with offset text (Directory named span parent) kind = cc
bytes_with offset text (Link target) kind = cc

text_by : (b : Bool) (offset : ℕ) (text : List ℕ) (node new : Node) → nat_eq (length text) 0 ≡ b
    → length text ≤ TRANSFER_BYTES → bytes_of new.body ≡ overwritten offset text (bytes_of node.body)
    → piece offset (length text) (bytes_of (cond b node new).body) ≡ text
text_by true offset text node new none short is =
    let nothing = no_text text none in
    ap (λ t. piece offset (length t) (bytes_of node.body)) nothing ∙ nothing_asked offset (bytes_of node.body)
    ∙ sym nothing
text_by false offset text node new some short is =
    ap (piece offset (length text)) is ∙ piece_written offset text (bytes_of node.body) short

-- A READ of what was written gives it.
pub text_is_read : (tree middle last : Tree) (ctx later : Ctx) (handle : List ℕ) (offset count : ℕ)
    (stability : Stability) (text : List ℕ) (answer : Written) (given : ReadBytes) (file_attributes : WeakCacheData)
    (tells : Option Attributes) → WriteStep tree ctx handle offset count stability text (Ok answer) file_attributes middle
    → ReadStep middle later handle offset (length text) (Ok given) tells last → given.bytes ≡ text
text_is_read tree middle last ctx later handle offset count stability text answer given file_attributes tells write_is
    read_is =
    let done = wrote tree middle ctx handle offset count stability text answer file_attributes write_is in
    let node = done.found.1 in
    read_gives middle last later handle offset (length text) given tells
    (done.found.0, written ctx.moment offset text node) (found_again tree middle ctx handle offset text
    done) read_is
    ∙ text_by (nat_eq (length text) 0) offset text node (record node {
      mtime = ctx.moment;
      ctime = ctx.moment;
      body = with_text offset text node.body;
    }) refl done.short (bytes_with offset text node.body done.regular)

unaffected_by : (b : Bool) (offset at : ℕ) (text : List ℕ) (node new : Node) → nat_eq (length text) 0 ≡ b
    → (at < offset) ⊎ (offset + length text ≤ at)
    → bytes_of new.body ≡ overwritten offset text (bytes_of node.body)
    → get_or (bytes_of (cond b node new).body) at 0 ≡ get_or (bytes_of node.body) at 0
unaffected_by true offset at text node new none where_it_is is = refl
unaffected_by false offset at text node new some (inl before) is =
    ap (λ xs. get_or xs at 0) is ∙ preserved_before offset at text (bytes_of node.body) before
unaffected_by false offset at text node new some (inr behind) is =
    ap (λ xs. get_or xs at 0) is ∙ preserved_behind offset at text (bytes_of node.body) behind

-- A READ beside what was written gives what was there, and zeros where the file had ended.
pub rest_is_read : (tree middle last : Tree) (ctx later : Ctx) (handle : List ℕ)
    (offset count at asked index : ℕ) (stability : Stability) (text : List ℕ) (answer : Written)
    (given : ReadBytes) (file_attributes : WeakCacheData) (tells : Option Attributes) (file : ℕ × Node)
    → find_file tree handle ≡ Ok file → WriteStep tree ctx handle offset count stability text
    (Ok answer) file_attributes middle
    → ReadStep middle later handle at asked (Ok given) tells last → index < length given.bytes
    → (at + index < offset) ⊎ (offset + length text ≤ at + index)
    → get_or given.bytes index 0 ≡ get_or (bytes_of file.1.body) (at + index) 0
rest_is_read tree middle last ctx later handle offset count at asked index stability text answer given file_attributes
    tells
    file file_is write_is read_is inside where_it_is =
    let done = wrote tree middle ctx handle offset count stability text answer file_attributes write_is in
    let node = done.found.1 in
    let new : Node = written ctx.moment offset text node in
    let bytes = read_gives middle last later handle at asked given tells (done.found.0, new)
    (found_again tree middle ctx handle offset text done) read_is in
    let one : Ok done.found ≡ Ok file = sym done.found_is ∙ file_is in
    let file_same : done.found ≡ file = cc in
    ap (λ xs. get_or xs index 0) bytes
    ∙ item_of at asked index (bytes_of new.body) (subst (λ xs. index < length xs) bytes inside)
    ∙ unaffected_by (nat_eq (length text) 0) offset (at + index) text node (record node {
      mtime = ctx.moment;
      ctime = ctx.moment;
      body = with_text offset text node.body;
    }) refl where_it_is (bytes_with offset text node.body done.regular)
    ∙ ap (λ f. get_or (bytes_of f.1.body) (at + index) 0) file_same

-- Blocks.

or_more : (a b : Bool) → b ≡ true → (a || b) ≡ true
or_more true b e = refl
or_more false b e = e

grows : (b : Bool) (n : ℕ) → n ≤ cond b n (n + 1)
grows true n = omega arith
grows false n = omega arith

one_more_index : (mapped : FinSet nat_cmp) (index : ℕ) → file_cost mapped ≤ file_cost (insert mapped index)
one_more_index mapped index =
    let size = len-insert nat_cmp_total mapped index in
    more_cost mapped (insert mapped index)
    (λ q e. sym (contains-items (insert mapped index) q) ∙ contains-insert nat_cmp_total mapped index q
    ∙ or_more (eq_by_cmp nat_cmp q index) (contains mapped q) (contains-items mapped q ∙ e))
    (omega (arith, size, grows (contains mapped index) (len mapped)))

more_indexes : (indexes : List ℕ) (mapped : FinSet nat_cmp)
    → file_cost mapped ≤ file_cost (mapped_with indexes mapped)
more_indexes [] mapped = omega arith
more_indexes (index ∷ indexes) mapped =
    let one = one_more_index mapped index in
    let rest = more_indexes indexes (insert mapped index) in
    omega (arith, one, rest)

costs_more : (offset : ℕ) (text : List ℕ) (body : Body) → cost body ≤ cost (with_text offset text body)
costs_more offset text (Regular bytes mapped) = more_indexes (touched offset (length text)) mapped
costs_more offset text (Directory named span parent) = omega arith
costs_more offset text (Link target) = omega arith

written_costs : (b : Bool) (node new : Node) → cost node.body ≤ cost new.body
    → cost node.body ≤ cost (cond b node new).body
written_costs true node new more = omega arith
written_costs false node new more = more

-- A WRITE takes just the blocks that it was found to need.
pub write_takes : (tree next : Tree) (ctx : Ctx) (handle : List ℕ) (offset : ℕ) (text : List ℕ)
    → Wrote tree next ctx handle offset text → used next ≡ used tree + need tree next
write_takes tree next ctx handle offset text done =
    let node = done.found.1 in
    let new : Node = written ctx.moment offset text node in
    let there = found-stands tree handle done.found done.found_is in
    let change = put_change tree done.found.0 (Some node) new there in
    let sum = change.sums (λ dirent. cost dirent.1.body) in
    let needs = need_of_one tree done.found.0 node new there in
    let more = written_costs (nat_eq (length text) 0) node (record node {
      mtime = ctx.moment;
      ctime = ctx.moment;
      body = with_text offset text node.body;
    }) (costs_more offset text node.body) in
    let taken : used (with_node tree done.found.0 new) ≡ used tree + need tree
    (with_node tree done.found.0 new) =
    omega (arith, sum, needs, more) in
    subst (λ t. used t ≡ used tree + need tree t) (sym done.leads) taken

-- Without any byte the tree stays.
pub nothing_written : (tree next : Tree) (ctx : Ctx) (handle : List ℕ) (offset : ℕ)
    → Wrote tree next ctx handle offset [] → next ≡ tree
nothing_written tree next ctx handle offset done =
    let there = found-stands tree handle done.found done.found_is in
    done.leads
    ∙ λ i. record {
      geometry = tree.geometry;
      nodes = insert_same nat_cmp_total nat_cmp-IsAntisymmetric tree.nodes done.found.0 done.found.1 there i;
    }

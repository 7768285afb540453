-- No procedure answers IO or SERVERFAULT, and none but MKNOD NOTSUPP.
use Rattle.std.proofs.Common.{◌≡◌, ℕ, ap, ◌∙◌, refl, ◌+◌, Bool, true, false, cond, not, ◌&&◌}
use Rattle.std.proofs.Common.{List, [], ◌∷◌, ◌++◌, length, map}
use Rattle.std.proofs.Common.{Option, Some, None, Result, Ok, Err, nat_eq, nat_lt}
use Rattle.std.specs.FinMap as map
use Rattle.std.specs.List.{list_all}
use Rattle.std.specs.Option.{ok_or, option_map}
use Rattle.base.specs.declared.TheConstants.{EXCLUSIVE_MODE, NEW_FILE_MODE}
use Rattle.base.specs.declared.TheConstants.{HANDLE_BYTES, LARGEST_FILE, NEW_DIRECTORY_MODE, NEW_LINK_MODE}
use Rattle.nfs_types.specs.Verifier.{boot_verifier}
use Rattle.nfs_types.specs.declared.attributes.Attributes.{Attributes}
use Rattle.nfs_types.specs.declared.attributes.NewAttributes.{NewAttributes}
use Rattle.nfs_types.specs.declared.attributes.WeakCacheData.{WeakCacheData}
use Rattle.nfs_types.specs.declared.call.Call.{Call}
use Rattle.nfs_types.specs.declared.call.Call.TheVariants as call
use Rattle.nfs_types.specs.declared.call.CreateHow.{CreateHow}
use Rattle.nfs_types.specs.declared.call.CreateHow.TheVariants.{Unchecked, Guarded, Exclusive}
use Rattle.nfs_types.specs.declared.ctx.Credential.{Credential}
use Rattle.nfs_types.specs.declared.entries.ListedItem.{ListedItem}
use Rattle.nfs_types.specs.declared.verifier.Verifier.{Verifier}
use Rattle.nfs_types.specs.declared.ctx.Ctx.{Ctx}
use Rattle.nfs_types.specs.declared.ctx.Moment.{Moment}
use Rattle.nfs_types.specs.declared.handle.Stamp.{Stamp}
use Rattle.nfs_types.specs.declared.reply.Created.{Created}
use Rattle.nfs_types.specs.declared.reply.Reply.{Reply}
use Rattle.nfs_types.specs.declared.reply.Reply.TheVariants as reply
use Rattle.nfs_types.specs.declared.status.Status.{Status}
use Rattle.nfs_types.specs.declared.status.Status.TheVariants as status
use Rattle.nfs_spec.specs.Model.Calls.{is_answered_stable}
use Rattle.nfs_spec.specs.Model.Find.{find_file, is_number, number_in, same_stamp, stamp_in, stamped}
use Rattle.nfs_spec.specs.Model.GetAttr.{attributes_found}
use Rattle.nfs_spec.specs.Model.Node.{Node, Body, DirentValue, Regular, Directory, Link}
use Rattle.nfs_spec.specs.Model.Permissions.{may_write_file}
use Rattle.nfs_spec.specs.Model.Refused.{refused}
use Rattle.nfs_spec.specs.Model.SetAttr.{fails_guard, is_invalid, is_no_access, is_not_permitted}
use Rattle.nfs_spec.specs.Model.SetAttr.{SetFound, SetOrLeft, first_of_tests, given, is_regular, refusal}
use Rattle.nfs_spec.specs.Model.SetAttr.{with_attributes}
use Rattle.nfs_spec.specs.Model.Tree.{Tree, node_at, with_node}
use Rattle.nfs_spec.specs.Procedures.Changes.{if_dirent, if_space, lacks_space, without_name}
use Rattle.nfs_spec.specs.Procedures.Commit.{commit_refusal}
use Rattle.nfs_spec.specs.Procedures.Create.{becomes, create_at, create_new, create_over, is_made_with, no_bytes}
use Rattle.nfs_spec.specs.Procedures.Create.{only_size, resize}
use Rattle.nfs_spec.specs.Procedures.FirstTests.{found_then, is_no_directory, may_change}
use Rattle.nfs_spec.specs.Procedures.FirstTests.{may_list}
use Rattle.nfs_spec.specs.Procedures.FirstTests.{may_search, dentry_tests, unless}
use Rattle.nfs_spec.specs.Procedures.Fresh.{fresh, make, made, new_dirent, nothing_given, with_new, without_size}
use Rattle.nfs_spec.specs.Procedures.Kinds.{fails_with, is_failure, tells_failure, tells_one_of}
use Rattle.nfs_spec.specs.Procedures.Link.{link, link_refusal, link_tests, linking, with_link}
use Rattle.nfs_spec.specs.Procedures.Lookup.{found_under, lookup_result}
use Rattle.nfs_spec.specs.Procedures.MkDir.{mkdir_tests}
use Rattle.nfs_spec.specs.Procedures.Listing.{listed_bytes, listing_budget, fitting, is_bad_cookie, is_end, is_too_small}
use Rattle.nfs_spec.specs.Procedures.Listing.{listed_behind, listing_verifier}
use Rattle.nfs_spec.specs.Procedures.Places.{is_own_name, least_free_slot}
use Rattle.nfs_spec.specs.Procedures.Places.{named_file}
use Rattle.nfs_spec.specs.Procedures.Read.{bytes_of, may_read_file, piece, read_bytes, read_refusal}
use Rattle.nfs_spec.specs.Procedures.ReadDir.{listing_refusal}
use Rattle.nfs_spec.specs.Procedures.ReadDirPlus.{fitting_both, plus}
use Rattle.nfs_spec.specs.Procedures.Remove.{remove_refusal, remove_tests}
use Rattle.nfs_spec.specs.Procedures.RmDir.{rmdir_refusal, rmdir_tests}
use Rattle.nfs_spec.specs.Procedures.SymLink.{symlink_tests}
use Rattle.nfs_spec.specs.Procedures.Write.{is_wrong_count, write_refusal, written, written_reply}
use Rattle.nfs_spec.specs.Procedures.ReadLink.{target_of}
use Rattle.nfs_spec.specs.Procedures.Rename.{Dentry, file_in, move, move_refusal, new_slot, places_refusal, rename}
use Rattle.nfs_spec.specs.Procedures.Rename.{move_tests, path_tests, rename_file, renaming, right_tests}
use Rattle.nfs_spec.specs.Procedures.Rename.{with_moved}
use Rattle.nfs_spec.specs.Procedures.StepForms.{Acts, Effect, Tells, answer_of}
use Rattle.nfs_spec.specs.Procedures.Step.{numbered_step}

abbrev fails : {A : Type 0} → Result A Status → Bool
fails outcome = fails_with is_failure outcome

abbrev is_mknod : Call → Bool
is_mknod (call.MkNod _ _) = true
is_mknod _ = false

fails_test : Option Status → Bool
fails_test None = false
fails_test (Some status) = is_failure status

chosen : (b : Bool) (s : Status) (rest : Option Status) → is_failure s ≡ false → fails_test rest ≡ false
    → fails_test (cond b (Some s) rest) ≡ false
unfolding fails_test
chosen true s rest one two = one
chosen false s rest one two = two

abbrev are_fine : List (Bool × Status) → Bool
are_fine tests = list_all (λ test. not (is_failure test.1)) tests

first_of : (a b : Bool) → (a && b) ≡ true → a ≡ true
first_of true b e = refl
first_of false b e = cc

second_of : (a b : Bool) → (a && b) ≡ true → b ≡ true
second_of true b e = e
second_of false b e = cc

not_true : (b : Bool) → not b ≡ true → b ≡ false
not_true true e = cc
not_true false e = refl

by_tests : (tests : List (Bool × Status)) → are_fine tests ≡ true → fails_test (first_of_tests tests) ≡ false
unfolding fails_test
by_tests [] e = refl
by_tests (test ∷ tests) e =
    chosen test.0 test.1 (first_of_tests tests) (not_true _ (first_of _ _ e)) (by_tests tests
    (second_of _ _ e))

-- the tests of each list have other statuses
set_tests : (ctx : Ctx) (wanted : NewAttributes) (guard : Option Moment) (node : Node)
    → fails_test (refusal ctx wanted guard node) ≡ false
set_tests ctx wanted guard node = by_tests (
    (fails_guard guard node, status.NotSync)
    ∷ (is_invalid wanted node, status.Inval)
    ∷ (is_not_permitted ctx.credential wanted node, status.Perm)
    ∷ (is_no_access ctx.credential wanted node, status.Acces)
    ∷ (given wanted.size (λ size. nat_lt LARGEST_FILE size), status.FBig)
    ∷ []) refl

dentry_fine : (allowed : Bool) (directory : Node) (name : List ℕ) (more : List (Bool × Status))
    → are_fine more ≡ true → fails_test (first_of_tests (dentry_tests allowed directory name ++ more)) ≡ false
dentry_fine allowed directory name more e = by_tests (dentry_tests allowed directory name ++ more) e

by_lack : {A : Type 0} (b : Bool) (effect : Effect A) → fails (cond b (Err status.NoSpc) (Ok effect)) ≡ false
by_lack true effect = refl
by_lack false effect = refl

module _ {A : Type 0} where
  by_cond : (b : Bool) (x y : Result A Status) → fails x ≡ false → fails y ≡ false
      → fails (cond b x y) ≡ false
  by_cond true x y one two = one
  by_cond false x y one two = two

  by_unless : (test : Option Status) (r : Result A Status) → fails_test test ≡ false → fails r ≡ false
      → fails (unless test r) ≡ false
  unfolding fails_test
  by_unless None r one two = two
  by_unless (Some s) r one two = one

  by_ok : (test : Option Status) (answer : A) → fails_test test ≡ false
      → fails (unless test (Ok answer)) ≡ false
  by_ok test answer one = by_unless test (Ok answer) one refl

  by_found : (found : Result (ℕ × Node) Status) (rest : ℕ → Node → Result A Status) → fails found ≡ false
      → ((number : ℕ) (node : Node) → fails (rest number node) ≡ false)
      → fails (found_then found rest) ≡ false
  by_found (Ok found) rest one two = two found.0 found.1
  by_found (Err s) rest one two = one

  by_answer : (r : Result (Effect A) Status) → fails r ≡ false → fails (answer_of r) ≡ false
  by_answer (Ok effect) e = refl
  by_answer (Err s) e = e

  by_space : (tree : Tree) (effect : Effect A) → fails (if_space tree effect) ≡ false
  by_space tree effect = by_lack (lacks_space tree effect.next) effect

  by_dirent : (tree : Tree) (dirent : Option DirentValue) (effect : DirentValue → Effect A)
      → fails (if_dirent tree dirent effect) ≡ false
  by_dirent tree None effect = refl
  by_dirent tree (Some dirent) effect = by_space tree (effect dirent)

stamp_fine : (number : ℕ) (stamp : Stamp) (at : Option Node) → fails (stamped number stamp at) ≡ false
stamp_fine number stamp None = refl
stamp_fine number stamp (Some node) =
    by_cond (same_stamp stamp node.stamp) (Ok (number, node)) (Err status.Stale) refl refl

find_fine : (tree : Tree) (handle : List ℕ) → fails (find_file tree handle) ≡ false
find_fine tree handle =
    by_cond (nat_eq (length handle) HANDLE_BYTES && is_number tree (number_in handle))
    (stamped (number_in handle) (stamp_in handle) (node_at tree (number_in handle))) (Err status.BadHandle)
    (stamp_fine (number_in handle) (stamp_in handle) (node_at tree (number_in handle))) refl

query_fine : {A : Type 0} (tree next : Tree) (handle : List ℕ) (tell : ℕ → Node → Result A Status)
    (outcome : Result A Status) (object : Option Attributes) → Tells tree handle tell outcome object next
    → ((number : ℕ) (node : Node) → fails (tell number node) ≡ false) → fails outcome ≡ false
query_fine tree next handle tell outcome object s each =
    ap fails s.answered ∙ by_found (find_file tree handle) tell (find_fine tree handle) each

acted_fine : {A : Type 0} (tree next : Tree) (handle : List ℕ) (act : ℕ → Node → Result (Effect A) Status)
    (outcome : Result A Status) (file_attributes : WeakCacheData) → Acts tree handle act outcome file_attributes next
    → ((number : ℕ) (node : Node) → fails (act number node) ≡ false) → fails outcome ≡ false
acted_fine tree next handle act outcome file_attributes s each =
    ap fails s.answered
    ∙ by_answer (found_then (find_file tree handle) act)
    (by_found (find_file tree handle) act (find_fine tree handle) each)

attributes_fine : (found : Result (ℕ × Node) Status) → fails found ≡ false
    → fails (attributes_found found) ≡ false
attributes_fine (Ok found) e = refl
attributes_fine (Err s) e = e

set_tested : (tree next : Tree) (number : ℕ) (node new : Node) (test : Option Status)
    (outcome : Result (Unit {0}) Status) (file_attributes : WeakCacheData) → fails_test test ≡ false
    → SetOrLeft tree number node new test outcome file_attributes next → fails outcome ≡ false
unfolding fails_test
set_tested tree next number node new None outcome file_attributes e s = ap fails s.done
set_tested tree next number node new (Some status) outcome file_attributes e s = ap fails s.refused ∙ e

set_fine : (tree next : Tree) (ctx : Ctx) (wanted : NewAttributes) (guard : Option Moment)
    (found : Result (ℕ × Node) Status) (outcome : Result (Unit {0}) Status) (file_attributes : WeakCacheData)
    → fails found ≡ false → SetFound tree ctx wanted guard found outcome file_attributes next → fails outcome ≡ false
set_fine tree next ctx wanted guard (Ok found) outcome file_attributes e s =
    set_tested tree next found.0 found.1 (with_attributes ctx.moment wanted found.1)
    (refusal ctx wanted guard found.1) outcome file_attributes (set_tests ctx wanted guard found.1) s
set_fine tree next ctx wanted guard (Err status) outcome file_attributes e s = ap fails s.refused ∙ e

target_fine : (body : Body) → fails (target_of body) ≡ false
target_fine (Regular bytes mapped) = refl
target_fine (Directory named span parent) = refl
target_fine (Link target) = refl

ok_or_fine : {A : Type 0} (o : Option A) (s : Status) → is_failure s ≡ false → fails (ok_or o s) ≡ false
ok_or_fine None s e = e
ok_or_fine (Some x) s e = refl

make_fine : (tree : Tree) (ctx : Ctx) (number : Option ℕ) (at : ℕ) (directory : Node) (name : List ℕ)
    (wanted : NewAttributes) (node : Node) → fails (make tree ctx number at directory name wanted node)
    ≡ false
make_fine tree ctx number at directory name wanted node =
    by_unless (refusal ctx wanted None node)
    (if_dirent tree (new_dirent number (least_free_slot directory.body))
    (with_new tree ctx at name (made ctx wanted node))) (set_tests ctx wanted None node)
    (by_dirent tree (new_dirent number (least_free_slot directory.body))
    (with_new tree ctx at name (made ctx wanted node)))

new_fine : (tree : Tree) (ctx : Ctx) (number : Option ℕ) (at : ℕ) (directory : Node) (name : List ℕ)
    (how : CreateHow) → fails (create_new tree ctx number at directory name how) ≡ false
new_fine tree ctx number at directory name (Unchecked wanted) =
    make_fine tree ctx number at directory name wanted (fresh ctx NEW_FILE_MODE None no_bytes)
new_fine tree ctx number at directory name (Guarded wanted) =
    make_fine tree ctx number at directory name wanted (fresh ctx NEW_FILE_MODE None no_bytes)
new_fine tree ctx number at directory name (Exclusive verifier) =
    make_fine tree ctx number at directory name nothing_given (fresh ctx EXCLUSIVE_MODE
    (Some verifier) no_bytes)

resize_fine : (tree : Tree) (ctx : Ctx) (size : Option ℕ) (number : ℕ) (node : Node)
    → fails (resize tree ctx size number node) ≡ false
resize_fine tree ctx None number node = refl
resize_fine tree ctx (Some size) number node =
    by_unless (refusal ctx (only_size size) None node)
    (Ok (becomes tree number (with_attributes ctx.moment (only_size size) node))) (set_tests ctx
    (only_size size) None node) refl

over_fine : (tree : Tree) (ctx : Ctx) (how : CreateHow) (number : ℕ) (node : Node)
    → fails (create_over tree ctx how number node) ≡ false
over_fine tree ctx (Unchecked wanted) number node =
    by_cond (is_regular node.body) (resize tree ctx wanted.size number node) (Err status.Exist)
    (resize_fine tree ctx wanted.size number node) refl
over_fine tree ctx (Guarded wanted) number node = refl
over_fine tree ctx (Exclusive verifier) number node =
    by_cond (is_made_with verifier node) (resize tree ctx None number node) (Err status.Exist) refl refl

at_fine : (tree : Tree) (ctx : Ctx) (how : CreateHow) (number : Option ℕ) (at : ℕ) (directory : Node)
    (name : List ℕ) (found : Option (ℕ × Node))
    → fails (create_at tree ctx how number at directory name found) ≡ false
at_fine tree ctx how number at directory name None = new_fine tree ctx number at directory name how
at_fine tree ctx how number at directory name (Some file) = over_fine tree ctx how file.0 file.1

rename_file_fine : (tree : Tree) (ctx : Ctx) (source target : Dentry) (found replaced : Option (ℕ × Node))
    → fails (rename_file tree ctx source target found replaced) ≡ false
rename_file_fine tree ctx source target None replaced = refl
rename_file_fine tree ctx source target (Some file) replaced =
    by_cond (given replaced (λ other. nat_eq other.0 file.0)) (Ok (record { answer = tt; next = tree }))
    (move tree ctx file.0 file.1 source target replaced) refl
    (by_unless (move_refusal tree file.0 file.1 source target replaced)
    (if_dirent tree (new_dirent (Some file.0) (new_slot source target))
    (with_moved tree ctx.moment file.0 file.1 source target replaced))
    (by_tests (move_tests tree file source.number (target.number, target.directory) replaced) refl)
    (by_dirent tree (new_dirent (Some file.0) (new_slot source target))
    (with_moved tree ctx.moment file.0 file.1 source target replaced)))

rename_fine : (tree : Tree) (ctx : Ctx) (source target : Dentry)
    → fails (rename tree ctx source target) ≡ false
rename_fine tree ctx source target =
    by_unless (places_refusal tree ctx.credential source target)
    (rename_file tree ctx source target (file_in tree source) (file_in tree target)) (by_tests (
    path_tests source.directory source.name target.directory target.name
    ++ right_tests ctx.credential source.directory source.name target.directory target.name (file_in tree source))
    refl)
    (rename_file_fine tree ctx source target (file_in tree source) (file_in tree target))

link_fine : (tree : Tree) (ctx : Ctx) (name : List ℕ) (number : ℕ) (node : Node) (at : ℕ) (directory : Node)
    → fails (link tree ctx name number node at directory) ≡ false
link_fine tree ctx name number node at directory =
    by_unless (link_refusal tree ctx.credential name node directory)
    (if_dirent tree (new_dirent (Some number) (least_free_slot directory.body))
    (with_link tree ctx.moment name number node at)) (dentry_fine
    (may_change ctx.credential directory) directory name
    (link_tests name node (named_file tree directory name)) refl)
    (by_dirent tree (new_dirent (Some number) (least_free_slot directory.body))
    (with_link tree ctx.moment name number node at))

listing_fine : (caller : Credential) (cookie : ℕ) (verifier : Verifier) (count : ℕ) (directory : Node)
    (left some : List ListedItem)
    → fails_test (listing_refusal caller cookie verifier count directory left some) ≡ false
listing_fine caller cookie verifier count directory left some = by_tests (
    (is_no_directory directory, status.NotDir)
    ∷ (not (may_list caller directory), status.Acces)
    ∷ (is_bad_cookie cookie verifier, status.BadCookie)
    ∷ (is_too_small count left some, status.TooSmall)
    ∷ []) refl

pub untested : (tree next : Tree) (ctx : Ctx) (new : Option ℕ) (asked : Call) (answered : Reply)
    → is_mknod asked ≡ false → numbered_step tree ctx new asked answered next
    → tells_one_of is_failure answered ≡ false
untested tree next ctx new (call.GetAttr object) (reply.GetAttr outcome) e s =
    ap fails s.attributes_answered ∙ attributes_fine (find_file tree object.bytes) (find_fine tree object.bytes)
untested tree next ctx new (call.SetAttr object wanted guard) (reply.SetAttr outcome file_attributes) e s =
    set_fine tree next ctx wanted guard (find_file tree object.bytes) outcome file_attributes
    (find_fine tree object.bytes) s
untested tree next ctx new (call.Lookup name) (reply.Lookup outcome file_attributes) e s =
    query_fine tree next _ _ outcome file_attributes s (λ number directory. by_unless
    (first_of_tests (dentry_tests (may_search ctx.credential directory) directory name.name))
    (ok_or (option_map lookup_result (found_under tree number directory name.name)) status.NoEnt) (by_tests
    (dentry_tests (may_search ctx.credential directory) directory name.name) refl)
    (ok_or_fine _ status.NoEnt refl))
untested tree next ctx new (call.Access object bits) (reply.Access outcome file_attributes) e s =
    query_fine tree next _ _ outcome file_attributes s (λ _ _. refl)
untested tree next ctx new (call.ReadLink link) (reply.ReadLink outcome file_attributes) e s =
    query_fine tree next _ _ outcome file_attributes s (λ _ node. target_fine node.body)
untested tree next ctx new (call.Read file offset count) (reply.Read outcome file_attributes) e s =
    query_fine tree next _ _ outcome file_attributes s (λ number node. by_unless (read_refusal ctx.credential node)
    (Ok (read_bytes offset (bytes_of node.body) (piece offset count (bytes_of node.body)))) (by_tests (
    (not (is_regular node.body), status.Inval)
    ∷ (not (may_read_file ctx.credential node), status.Acces)
    ∷ []) refl) refl)
untested tree next ctx new (call.ReadDir directory cookie verifier count) (reply.ReadDir outcome file_attributes) e s =
    query_fine tree next _ _ outcome file_attributes s (λ number node.
    let left = listed_behind cookie number node.body in
    let some = fitting listed_bytes (listing_budget count) left in
    by_ok (listing_refusal ctx.credential cookie verifier count node left some)
    (record { verifier = listing_verifier; entries = some; eof = is_end left some })
    (listing_fine ctx.credential cookie verifier count node left some))
untested tree next ctx new (call.ReadDirPlus directory cookie verifier names_count count)
    (reply.ReadDirPlus outcome file_attributes) e s =
    query_fine tree next _ _ outcome file_attributes s (λ number node.
    let left = listed_behind cookie number node.body in
    let some = fitting_both names_count (listing_budget count) left in
    by_ok (listing_refusal ctx.credential cookie verifier count node left some)
    (record { verifier = listing_verifier; entries = map (plus tree) some; eof = is_end left some })
    (listing_fine ctx.credential cookie verifier count node left some))
untested tree next ctx new (call.FsStat object) (reply.FsStat outcome file_attributes) e s =
    query_fine tree next _ _ outcome file_attributes s (λ _ _. refl)
untested tree next ctx new (call.FsInfo object) (reply.FsInfo outcome file_attributes) e s =
    query_fine tree next _ _ outcome file_attributes s (λ _ _. refl)
untested tree next ctx new (call.PathConf object) (reply.PathConf outcome file_attributes) e s =
    query_fine tree next _ _ outcome file_attributes s (λ _ _. refl)
untested tree next ctx new (call.Write file offset count stability text) (reply.Write outcome file_attributes) e s =
    acted_fine tree next _ _ outcome file_attributes s (λ number node. by_unless
    (write_refusal ctx.credential offset count text node)
    (if_space tree (record {
      answer = written_reply ctx count stability;
      next = with_node tree number (written ctx.moment offset text node);
    })) (by_tests (
    (not (is_regular node.body), status.Inval)
    ∷ (is_wrong_count count text, status.Inval)
    ∷ (not (may_write_file ctx.credential node), status.Acces)
    ∷ (nat_lt LARGEST_FILE (offset + count), status.FBig)
    ∷ []) refl)
    (by_space tree _))
untested tree next ctx new (call.Create name how) (reply.Create outcome file_attributes) e s =
    acted_fine tree next _ _ outcome file_attributes s (λ at directory. by_unless
    (first_of_tests (dentry_tests (may_change ctx.credential directory) directory name.name
    ++ (is_own_name name.name, status.Exist) ∷ []))
    (create_at tree ctx how new at directory name.name (named_file tree directory name.name)) (dentry_fine
    (may_change ctx.credential directory) directory name.name
    ((is_own_name name.name, status.Exist) ∷ []) refl)
    (at_fine tree ctx how new at directory name.name (named_file tree directory name.name)))
untested tree next ctx new (call.MkDir name wanted) (reply.MkDir outcome file_attributes) e s =
    acted_fine tree next _ _ outcome file_attributes s (λ at directory. by_unless
    (first_of_tests (dentry_tests (may_change ctx.credential directory) directory name.name
    ++ mkdir_tests name.name directory (named_file tree directory name.name)))
    (make tree ctx new at directory name.name (without_size wanted)
    (fresh ctx NEW_DIRECTORY_MODE None (Directory map.empty 0 at))) (dentry_fine
    (may_change ctx.credential directory) directory name.name
    (mkdir_tests name.name directory (named_file tree directory name.name)) refl)
    (make_fine tree ctx new at directory name.name (without_size wanted)
    (fresh ctx NEW_DIRECTORY_MODE None (Directory map.empty 0 at))))
untested tree next ctx new (call.SymLink name wanted target) (reply.SymLink outcome file_attributes) e s =
    acted_fine tree next _ _ outcome file_attributes s (λ at directory. by_unless
    (first_of_tests (dentry_tests (may_change ctx.credential directory) directory name.name
    ++ symlink_tests name.name target (named_file tree directory name.name)))
    (make tree ctx new at directory name.name (without_size wanted) (fresh ctx NEW_LINK_MODE None
    (Link target)))
    (dentry_fine (may_change ctx.credential directory) directory name.name
    (symlink_tests name.name target (named_file tree directory name.name)) refl)
    (make_fine tree ctx new at directory name.name (without_size wanted)
    (fresh ctx NEW_LINK_MODE None (Link target))))
untested tree next ctx new (call.MkNod name special) (reply.MkNod outcome file_attributes) e s = cc
untested tree next ctx new (call.Remove name) (reply.Remove outcome file_attributes) e s =
    acted_fine tree next _ _ outcome file_attributes s (λ at directory. by_ok
    (remove_refusal ctx.credential directory name.name (named_file tree directory name.name))
    (record {
      answer = tt;
      next = without_name tree ctx.moment at name.name (named_file tree directory name.name);
    }) (dentry_fine (may_change ctx.credential directory) directory name.name
    (remove_tests name.name (named_file tree directory name.name)) refl))
untested tree next ctx new (call.RmDir name) (reply.RmDir outcome file_attributes) e s =
    acted_fine tree next _ _ outcome file_attributes s (λ at directory. by_ok
    (rmdir_refusal ctx.credential directory name.name (named_file tree directory name.name))
    (record {
      answer = tt;
      next = without_name tree ctx.moment at name.name (named_file tree directory name.name);
    }) (dentry_fine (may_change ctx.credential directory) directory name.name
    (rmdir_tests name.name (named_file tree directory name.name)) refl))
untested tree next ctx new (call.Commit file offset count) (reply.Commit outcome file_attributes) e s =
    acted_fine tree next _ _ outcome file_attributes s (λ number node. by_ok (commit_refusal ctx.credential node)
    (record { answer = boot_verifier ctx.boot; next = tree }) (by_tests (
    (not (is_regular node.body), status.Inval)
    ∷ (not (may_write_file ctx.credential node), status.Acces)
    ∷ []) refl))
untested tree next ctx new (call.Rename source target) (reply.Rename outcome file_attributes other_attributes) e s =
    ap fails s.answered
    ∙ by_answer (renaming tree ctx source.directory.bytes source.name target.directory.bytes target.name)
    (by_found (find_file tree source.directory.bytes) (λ number directory. found_then
    (find_file tree target.directory.bytes) (λ other parent.
    rename tree ctx (record { number = number; directory = directory; name = source.name })
    (record { number = other; directory = parent; name = target.name })))
    (find_fine tree source.directory.bytes)
    (λ number directory. by_found (find_file tree target.directory.bytes) (λ other parent.
    rename tree ctx (record { number = number; directory = directory; name = source.name })
    (record { number = other; directory = parent; name = target.name }))
    (find_fine tree target.directory.bytes)
    (λ other parent. rename_fine tree ctx
    (record { number = number; directory = directory; name = source.name })
    (record { number = other; directory = parent; name = target.name }))))
untested tree next ctx new (call.Link file name) (reply.Link outcome file_attributes other_attributes) e s =
    ap fails s.answered
    ∙ by_answer (linking tree ctx file.bytes name.directory.bytes name.name)
    (by_found (find_file tree file.bytes) (λ number node. found_then (find_file tree name.directory.bytes)
    (link tree ctx name.name number node)) (find_fine tree file.bytes)
    (λ number node. by_found (find_file tree name.directory.bytes) (link tree ctx name.name number node)
    (find_fine tree name.directory.bytes)
    (λ at directory. link_fine tree ctx name.name number node at directory)))
untested tree next ctx new _ _ e s = absurd s

-- ---- MKNOD is refused whatever it names

mknod_fine : (found : Result (ℕ × Node) Status) → fails found ≡ false
    → fails_with is_failure (answer_of {A = Created} (found_then found (λ _ _. Err status.NotSupp))) ≡ false
mknod_fine (Ok found) e = refl
mknod_fine (Err s) e = e

mknod_fails : (tree next : Tree) (ctx : Ctx) (new : Option ℕ) (asked : Call) (answered : Reply)
    → is_mknod asked ≡ true → numbered_step tree ctx new asked answered next → tells_failure answered ≡ false
mknod_fails tree next ctx new (call.MkNod name special) (reply.MkNod outcome file_attributes) e s =
    ap (fails_with is_failure) s.answered
    ∙ mknod_fine (find_file tree name.directory.bytes) (find_fine tree name.directory.bytes)
mknod_fails tree next ctx new (call.MkNod name special) _ e s = absurd s
mknod_fails tree next ctx new _ _ e s = cc

-- ---- no step tells of a failure

outcome_fine : {A : Type 0} (outcome : Result A Status) → fails outcome ≡ false
    → fails_with is_failure outcome ≡ false
outcome_fine (Ok answer) e = refl
outcome_fine (Err s) e = e

reply_fine : (given : Reply) → tells_one_of is_failure given ≡ false → tells_failure given ≡ false
reply_fine reply.Null e = refl
reply_fine (reply.GetAttr outcome) e = outcome_fine outcome e
reply_fine (reply.SetAttr outcome _) e = outcome_fine outcome e
reply_fine (reply.Lookup outcome _) e = outcome_fine outcome e
reply_fine (reply.Access outcome _) e = outcome_fine outcome e
reply_fine (reply.ReadLink outcome _) e = outcome_fine outcome e
reply_fine (reply.Read outcome _) e = outcome_fine outcome e
reply_fine (reply.Write outcome _) e = outcome_fine outcome e
reply_fine (reply.Create outcome _) e = outcome_fine outcome e
reply_fine (reply.MkDir outcome _) e = outcome_fine outcome e
reply_fine (reply.SymLink outcome _) e = outcome_fine outcome e
reply_fine (reply.MkNod outcome _) e = outcome_fine outcome e
reply_fine (reply.Remove outcome _) e = outcome_fine outcome e
reply_fine (reply.RmDir outcome _) e = outcome_fine outcome e
reply_fine (reply.Rename outcome _ _) e = outcome_fine outcome e
reply_fine (reply.Link outcome _ _) e = outcome_fine outcome e
reply_fine (reply.ReadDir outcome _) e = outcome_fine outcome e
reply_fine (reply.ReadDirPlus outcome _) e = outcome_fine outcome e
reply_fine (reply.FsStat outcome _) e = outcome_fine outcome e
reply_fine (reply.FsInfo outcome _) e = outcome_fine outcome e
reply_fine (reply.PathConf outcome _) e = outcome_fine outcome e
reply_fine (reply.Commit outcome _) e = outcome_fine outcome e

by_kind : (tree next : Tree) (ctx : Ctx) (new : Option ℕ) (asked : Call) (answered : Reply) (kind : Bool)
    → is_mknod asked ≡ kind → numbered_step tree ctx new asked answered next → tells_failure answered ≡ false
by_kind tree next ctx new asked answered true e s = mknod_fails tree next ctx new asked answered e s
by_kind tree next ctx new asked answered false e s =
    reply_fine answered (untested tree next ctx new asked answered e s)

pub no_failure : (tree next : Tree) (ctx : Ctx) (new : Option ℕ) (asked : Call) (answered : Reply)
    → numbered_step tree ctx new asked answered next → tells_failure answered ≡ false
no_failure tree next ctx new asked answered s = by_kind tree next ctx new asked answered (is_mknod asked) refl s

-- a call that is answered stable has a status, and so the reply with such a status tells of it
pub stable_tells_failure : (failure : Status) (asked : Call) → is_failure failure ≡ true
    → is_answered_stable asked ≡ true → tells_failure (refused failure asked) ≡ true
stable_tells_failure failure call.Null fails stable = cc
stable_tells_failure failure _ fails stable = fails

-- The one answer to a call where the number of a new file is known: it is a step, and each step is it.
use Rattle.std.proofs.Common.{◌≡◌, ◌≢◌, ℕ, ap, ◌∙◌, refl, List, Option, Result, Ok}
use Rattle.std.proofs.Common.{false, Err}
use Rattle.nfs_types.specs.declared.attributes.Attributes.{Attributes}
use Rattle.nfs_types.specs.declared.attributes.WeakCacheData.{WeakCacheData}
use Rattle.nfs_types.specs.declared.call.Call.{Call}
use Rattle.nfs_types.specs.declared.call.Call.TheVariants as call
use Rattle.nfs_types.specs.declared.ctx.Ctx.{Ctx}
use Rattle.nfs_types.specs.declared.reply.Reply.{Reply}
use Rattle.nfs_types.specs.declared.reply.Reply.TheVariants as reply
use Rattle.nfs_types.specs.declared.status.Status.{Status}
use Rattle.nfs_types.specs.declared.status.Status.TheVariants as status
use Rattle.nfs_spec.specs.Model.Find.{find_file}
use Rattle.nfs_spec.specs.Model.GetAttr.{attributes_found}
use Rattle.nfs_spec.specs.Model.Node.{Node}
use Rattle.nfs_spec.specs.Model.Tree.{Tree}
use Rattle.nfs_spec.proofs.ModelLemmas.Answered.{set_answer}
use Rattle.nfs_spec.proofs.ModelLemmas.Determined.{set_found}
use Rattle.nfs_spec.specs.Procedures.Access.{granted}
use Rattle.nfs_spec.specs.Procedures.Commit.{commit}
use Rattle.nfs_spec.specs.Procedures.Create.{create}
use Rattle.nfs_spec.specs.Procedures.FirstTests.{after_first, found_then}
use Rattle.nfs_spec.specs.Procedures.FsInfo.{file_system_info}
use Rattle.nfs_spec.specs.Procedures.FsStat.{space_of}
use Rattle.nfs_spec.specs.Procedures.Kinds.{may_make_file}
use Rattle.nfs_spec.specs.Procedures.Link.{linking}
use Rattle.nfs_spec.specs.Procedures.Lookup.{lookup_name}
use Rattle.nfs_spec.specs.Procedures.MkDir.{make_directory}
use Rattle.nfs_spec.specs.Procedures.PathConf.{path_limits}
use Rattle.nfs_spec.specs.Procedures.Read.{read}
use Rattle.nfs_spec.specs.Procedures.ReadDir.{list}
use Rattle.nfs_spec.specs.Procedures.ReadDirPlus.{list_plus}
use Rattle.nfs_spec.specs.Procedures.ReadLink.{target_of}
use Rattle.nfs_spec.specs.Procedures.Remove.{remove}
use Rattle.nfs_spec.specs.Procedures.Rename.{renaming}
use Rattle.nfs_spec.specs.Procedures.RmDir.{remove_directory}
use Rattle.nfs_spec.specs.Procedures.SymLink.{make_link}
use Rattle.nfs_spec.specs.Procedures.StepForms.{Acts, Effect, Tells, answer_of, change_between, attributes_in, tree_after}
use Rattle.nfs_spec.specs.Procedures.Step.{numbered_step}
use Rattle.nfs_spec.specs.Procedures.Write.{write}

module _ {A : Type 0} (tree : Tree) (handle : List ℕ) where
  module _ (put : Result A Status → Option Attributes → Reply) (tell : ℕ → Node → Result A Status) where
    abbrev query_reply_of : Reply × Tree
    query_reply_of = (put (found_then (find_file tree handle) tell) (attributes_in tree (find_file tree handle)), tree)

    is_query_reply : (outcome : Result A Status) (object : Option Attributes) (next : Tree)
        → Tells tree handle tell outcome object next → (put outcome object, next) ≡ query_reply_of
    is_query_reply outcome object next t = λ i. (put (t.answered i) (t.parts i), t.unchanged i)

  tells : (tell : ℕ → Node → Result A Status)
      → Tells tree handle tell (found_then (find_file tree handle) tell) (attributes_in tree
      (find_file tree handle)) tree
  tells tell = record { answered = refl; parts = refl; unchanged = refl }

  module _ (put : Result A Status → WeakCacheData → Reply) (act : ℕ → Node → Result (Effect A) Status) where
    abbrev acted_reply : Reply × Tree
    acted_reply =
        let result = found_then (find_file tree handle) act in (
          put (answer_of result) (change_between (tree_after tree result) (find_file tree handle)),
          tree_after tree result,
        )

    is_acted : (outcome : Result A Status) (file_attributes : WeakCacheData) (next : Tree)
        → Acts tree handle act outcome file_attributes next → (put outcome file_attributes, next) ≡ acted_reply
    is_acted outcome file_attributes next t =
        let parts = t.parts ∙ ap (λ n. change_between n (find_file tree handle)) t.leads in
        λ i. (put (t.answered i) (parts i), t.leads i)

  acts : (act : ℕ → Node → Result (Effect A) Status)
      → let result = found_then (find_file tree handle) act in
      Acts tree handle act (answer_of result) (change_between (tree_after tree result) (find_file tree handle))
      (tree_after tree result)
  acts act = record { answered = refl; leads = refl; parts = refl }

module _ (tree : Tree) (ctx : Ctx) (new : Option ℕ) where
  -- the reply and the next tree; NULL has neither
  abbrev pub answer : Call → Reply × Tree
  answer call.Null = (reply.Null, tree)
  answer (call.GetAttr object) = (reply.GetAttr (attributes_found (find_file tree object.bytes)), tree)
  answer (call.SetAttr object wanted guard) =
      let set = set_answer tree ctx wanted guard (find_file tree object.bytes) in
      (reply.SetAttr set.outcome set.file_attributes, set.next)
  answer (call.Lookup name) =
      query_reply_of tree name.directory.bytes reply.Lookup (lookup_name tree ctx.credential name.name)
  answer (call.Access object bits) = query_reply_of tree object.bytes reply.Access (granted ctx.credential bits)
  answer (call.ReadLink link) = query_reply_of tree link.bytes reply.ReadLink (λ _ node. target_of node.body)
  answer (call.Read file offset count) =
      query_reply_of tree file.bytes reply.Read (read ctx.credential offset count)
  answer (call.ReadDir directory cookie verifier count) =
      query_reply_of tree directory.bytes reply.ReadDir (list ctx.credential cookie verifier count)
  answer (call.ReadDirPlus directory cookie verifier names_count count) = query_reply_of tree directory.bytes
      reply.ReadDirPlus (list_plus tree ctx.credential cookie verifier names_count count)
  answer (call.FsStat object) = query_reply_of tree object.bytes reply.FsStat (λ _ _. Ok (space_of tree))
  answer (call.FsInfo object) = query_reply_of tree object.bytes reply.FsInfo (λ _ _. Ok file_system_info)
  answer (call.PathConf object) = query_reply_of tree object.bytes reply.PathConf (λ _ _. Ok path_limits)
  answer (call.Write file offset count stability text) =
      acted_reply tree file.bytes reply.Write (write tree ctx offset count stability text)
  answer (call.Create name how) =
      acted_reply tree name.directory.bytes reply.Create (create tree ctx name.name how new)
  answer (call.MkDir name wanted) =
      acted_reply tree name.directory.bytes reply.MkDir (make_directory tree ctx name.name wanted new)
  answer (call.SymLink name wanted target) =
      acted_reply tree name.directory.bytes reply.SymLink (make_link tree ctx name.name wanted target new)
  answer (call.MkNod name special) =
      acted_reply tree name.directory.bytes reply.MkNod (λ _ _. Err status.NotSupp)
  answer (call.Remove name) = acted_reply tree name.directory.bytes reply.Remove (remove tree ctx name.name)
  answer (call.RmDir name) =
      acted_reply tree name.directory.bytes reply.RmDir (remove_directory tree ctx name.name)
  answer (call.Commit file offset count) = acted_reply tree file.bytes reply.Commit (commit tree ctx)
  answer (call.Rename source target) =
      let result = renaming tree ctx source.directory.bytes source.name target.directory.bytes target.name in
      let next = tree_after tree result in
      let found = find_file tree source.directory.bytes in
      let other = after_first found (find_file tree target.directory.bytes) in
      (reply.Rename (answer_of result) (change_between next found) (change_between next other), next)
  answer (call.Link file name) =
      let result = linking tree ctx file.bytes name.directory.bytes name.name in
      let next = tree_after tree result in
      let found = find_file tree file.bytes in
      let other = after_first found (find_file tree name.directory.bytes) in
      (reply.Link (answer_of result) (attributes_in next found) (change_between next other), next)

  -- it is a step
  pub answered : (asked : Call) → asked ≢ call.Null
      → numbered_step tree ctx new asked (answer asked).0 (answer asked).1
  answered call.Null some = absurd (some refl)
  answered (call.GetAttr object) some = record { attributes_answered = refl; unchanged = refl }
  answered (call.SetAttr object wanted guard) some =
      (set_answer tree ctx wanted guard (find_file tree object.bytes)).is
  answered (call.Lookup name) some = tells tree name.directory.bytes (lookup_name tree ctx.credential name.name)
  answered (call.Access object bits) some = tells tree object.bytes (granted ctx.credential bits)
  answered (call.ReadLink link) some = tells tree link.bytes (λ _ node. target_of node.body)
  answered (call.Read file offset count) some = tells tree file.bytes (read ctx.credential offset count)
  answered (call.ReadDir directory cookie verifier count) some =
      tells tree directory.bytes (list ctx.credential cookie verifier count)
  answered (call.ReadDirPlus directory cookie verifier names_count count) some =
      tells tree directory.bytes (list_plus tree ctx.credential cookie verifier names_count count)
  answered (call.FsStat object) some = tells tree object.bytes (λ _ _. Ok (space_of tree))
  answered (call.FsInfo object) some = tells tree object.bytes (λ _ _. Ok file_system_info)
  answered (call.PathConf object) some = tells tree object.bytes (λ _ _. Ok path_limits)
  answered (call.Write file offset count stability text) some =
      acts tree file.bytes (write tree ctx offset count stability text)
  answered (call.Create name how) some = acts tree name.directory.bytes (create tree ctx name.name how new)
  answered (call.MkDir name wanted) some =
      acts tree name.directory.bytes (make_directory tree ctx name.name wanted new)
  answered (call.SymLink name wanted target) some =
      acts tree name.directory.bytes (make_link tree ctx name.name wanted target new)
  answered (call.MkNod name special) some = acts tree name.directory.bytes (λ _ _. Err status.NotSupp)
  answered (call.Remove name) some = acts tree name.directory.bytes (remove tree ctx name.name)
  answered (call.RmDir name) some = acts tree name.directory.bytes (remove_directory tree ctx name.name)
  answered (call.Commit file offset count) some = acts tree file.bytes (commit tree ctx)
  answered (call.Rename source target) some =
      record { answered = refl; leads = refl; parts = refl; new_parts = refl }
  answered (call.Link file name) some =
      record { answered = refl; leads = refl; parts = refl; directory_parts = refl }

  -- each step is it
  pub is_answer : (asked : Call) (given : Reply) (next : Tree) → numbered_step tree ctx new asked given next
      → (given, next) ≡ answer asked
  is_answer (call.GetAttr object) (reply.GetAttr outcome) next s =
      λ i. (reply.GetAttr (s.attributes_answered i), s.unchanged i)
  is_answer (call.SetAttr object wanted guard) (reply.SetAttr outcome file_attributes) next s =
      let set = set_answer tree ctx wanted guard (find_file tree object.bytes) in
      let same = set_found tree ctx wanted guard (find_file tree object.bytes) outcome set.outcome file_attributes set.file_attributes
      next set.next s set.is in
      λ i. (reply.SetAttr (same.outcome_is i) (same.attributes_same i), same.next_is i)
  is_answer (call.Lookup name) (reply.Lookup outcome file_attributes) next s =
      is_query_reply tree name.directory.bytes reply.Lookup
      (lookup_name tree ctx.credential name.name) outcome file_attributes next s
  is_answer (call.Access object bits) (reply.Access outcome file_attributes) next s =
      is_query_reply tree object.bytes reply.Access (granted ctx.credential bits) outcome file_attributes next s
  is_answer (call.ReadLink link) (reply.ReadLink outcome file_attributes) next s =
      is_query_reply tree link.bytes reply.ReadLink (λ _ node. target_of node.body) outcome file_attributes next s
  is_answer (call.Read file offset count) (reply.Read outcome file_attributes) next s =
      is_query_reply tree file.bytes reply.Read (read ctx.credential offset count) outcome file_attributes next s
  is_answer (call.ReadDir directory cookie verifier count) (reply.ReadDir outcome file_attributes) next s =
      is_query_reply tree directory.bytes reply.ReadDir
      (list ctx.credential cookie verifier count) outcome file_attributes next s
  is_answer (call.ReadDirPlus directory cookie verifier names_count count)
      (reply.ReadDirPlus outcome file_attributes) next s =
      is_query_reply tree directory.bytes reply.ReadDirPlus
      (list_plus tree ctx.credential cookie verifier names_count count) outcome file_attributes next s
  is_answer (call.FsStat object) (reply.FsStat outcome file_attributes) next s =
      is_query_reply tree object.bytes reply.FsStat (λ _ _. Ok (space_of tree)) outcome file_attributes next s
  is_answer (call.FsInfo object) (reply.FsInfo outcome file_attributes) next s =
      is_query_reply tree object.bytes reply.FsInfo (λ _ _. Ok file_system_info) outcome file_attributes next s
  is_answer (call.PathConf object) (reply.PathConf outcome file_attributes) next s =
      is_query_reply tree object.bytes reply.PathConf (λ _ _. Ok path_limits) outcome file_attributes next s
  is_answer (call.Write file offset count stability text) (reply.Write outcome file_attributes) next s =
      is_acted tree file.bytes reply.Write (write tree ctx offset count stability text) outcome file_attributes next s
  is_answer (call.Create name how) (reply.Create outcome file_attributes) next s =
      is_acted tree name.directory.bytes reply.Create (create tree ctx name.name how new) outcome file_attributes next s
  is_answer (call.MkDir name wanted) (reply.MkDir outcome file_attributes) next s =
      is_acted tree name.directory.bytes reply.MkDir
      (make_directory tree ctx name.name wanted new) outcome file_attributes next s
  is_answer (call.SymLink name wanted target) (reply.SymLink outcome file_attributes) next s =
      is_acted tree name.directory.bytes reply.SymLink
      (make_link tree ctx name.name wanted target new) outcome file_attributes next s
  is_answer (call.MkNod name special) (reply.MkNod outcome file_attributes) next s =
      is_acted tree name.directory.bytes reply.MkNod (λ _ _. Err status.NotSupp) outcome file_attributes next s
  is_answer (call.Remove name) (reply.Remove outcome file_attributes) next s =
      is_acted tree name.directory.bytes reply.Remove (remove tree ctx name.name) outcome file_attributes next s
  is_answer (call.RmDir name) (reply.RmDir outcome file_attributes) next s =
      is_acted tree name.directory.bytes reply.RmDir (remove_directory tree ctx name.name) outcome file_attributes next s
  is_answer (call.Commit file offset count) (reply.Commit outcome file_attributes) next s =
      is_acted tree file.bytes reply.Commit (commit tree ctx) outcome file_attributes next s
  is_answer (call.Rename source target) (reply.Rename outcome file_attributes other_attributes) next s =
      let found = find_file tree source.directory.bytes in
      let other = after_first found (find_file tree target.directory.bytes) in
      let parts = s.parts ∙ ap (λ n. change_between n found) s.leads in
      let new_parts = s.new_parts ∙ ap (λ n. change_between n other) s.leads in
      λ i. (reply.Rename (s.answered i) (parts i) (new_parts i), s.leads i)
  is_answer (call.Link file name) (reply.Link outcome file_attributes other_attributes) next s =
      let found = find_file tree file.bytes in
      let other = after_first found (find_file tree name.directory.bytes) in
      let parts = s.parts ∙ ap (λ n. attributes_in n found) s.leads in
      let directory_parts = s.directory_parts ∙ ap (λ n. change_between n other) s.leads in
      λ i. (reply.Link (s.answered i) (parts i) (directory_parts i), s.leads i)
  is_answer _ _ next s = absurd s

-- Where no file may be made, the number of a new one makes no difference.
pub any_number : (tree : Tree) (ctx : Ctx) (one other : Option ℕ) (asked : Call) → may_make_file asked ≡ false
    → answer tree ctx one asked ≡ answer tree ctx other asked
any_number tree ctx one other (call.Create name how) none = cc
any_number tree ctx one other (call.MkDir name wanted) none = cc
any_number tree ctx one other (call.SymLink name wanted target) none = cc
any_number tree ctx one other _ none = refl

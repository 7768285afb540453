-- Steps that leave the tree: those of refused calls, and those of calls that only tell something.
use Rattle.std.proofs.Common.{◌≡◌, ℕ, sym, ap, ◌∙◌, refl, true, List, Option, Some, None, Result, Ok, Err}
use Rattle.std.proofs.Common.{is_err}
use Rattle.nfs_types.specs.Verifier.{boot_verifier}
use Rattle.nfs_types.specs.declared.attributes.NewAttributes.{NewAttributes}
use Rattle.nfs_types.specs.declared.attributes.WeakCacheData.{WeakCacheData}
use Rattle.nfs_types.specs.declared.call.Call.{Call}
use Rattle.nfs_types.specs.declared.call.Call.TheVariants as call
use Rattle.nfs_types.specs.declared.ctx.Ctx.{Ctx}
use Rattle.nfs_types.specs.declared.ctx.Moment.{Moment}
use Rattle.nfs_types.specs.declared.reply.Created.{Created}
use Rattle.nfs_types.specs.declared.reply.Reply.{Reply}
use Rattle.nfs_types.specs.declared.reply.Reply.TheVariants as reply
use Rattle.nfs_types.specs.declared.status.Status.{Status}
use Rattle.nfs_types.specs.declared.status.Status.TheVariants as status
use Rattle.nfs_spec.specs.Model.Find.{find_file}
use Rattle.nfs_spec.specs.Model.Node.{Node}
use Rattle.nfs_spec.specs.Model.SetAttr.{SetFound, SetOrLeft, refusal, with_attributes}
use Rattle.nfs_spec.specs.Model.Tree.{Tree}
use Rattle.nfs_spec.specs.Procedures.Commit.{commit, commit_refusal}
use Rattle.nfs_spec.specs.Procedures.FirstTests.{found_then, unless}
use Rattle.nfs_spec.specs.Procedures.Kinds.{is_refusal, only_tells}
use Rattle.nfs_spec.specs.Procedures.Link.{linking}
use Rattle.nfs_spec.specs.Procedures.Rename.{renaming}
use Rattle.nfs_spec.specs.Procedures.StepForms.{Acts, Effect, answer_of, tree_after}
use Rattle.nfs_spec.specs.Procedures.Step.{numbered_step}

-- a result without an answer leaves the tree
refused_leaves : {A : Type 0} (tree : Tree) (result : Result (Effect A) Status)
    → is_err (answer_of result) ≡ true
    → tree_after tree result ≡ tree
refused_leaves tree (Ok effect) e = cc
refused_leaves tree (Err status) e = refl

acts_leaves : {A : Type 0} (tree : Tree) (handle : List ℕ) (act : ℕ → Node → Result (Effect A) Status)
    (outcome : Result A Status) (file_attributes : WeakCacheData) (next : Tree) → Acts tree handle act outcome file_attributes next
    → is_err outcome ≡ true → next ≡ tree
acts_leaves tree handle act outcome file_attributes next s e =
    s.leads ∙ refused_leaves tree (found_then (find_file tree handle) act) (ap is_err (sym s.answered) ∙ e)

module _ (tree next : Tree) (ctx : Ctx) (wanted : NewAttributes) (guard : Option Moment)
    (outcome : Result (Unit {0}) Status) (file_attributes : WeakCacheData) (refused : is_err outcome ≡ true) where
  set_tested : (number : ℕ) (node new : Node) (test : Option Status)
      → SetOrLeft tree number node new test outcome file_attributes next → next ≡ tree
  set_tested number node new None s = let no = ap is_err (sym s.done) ∙ refused in cc
  set_tested number node new (Some status) s = s.unchanged

  set_leaves : (found : Result (ℕ × Node) Status) → SetFound tree ctx wanted guard found outcome file_attributes next
      → next ≡ tree
  set_leaves (Ok found) s =
      set_tested found.0 found.1 (with_attributes ctx.moment wanted found.1)
      (refusal ctx wanted guard found.1) s
  set_leaves (Err status) s = s.unchanged

pub refusal_leaves : (tree next : Tree) (ctx : Ctx) (new : Option ℕ) (asked : Call) (given : Reply)
    → numbered_step tree ctx new asked given next → is_refusal given ≡ true → next ≡ tree
refusal_leaves tree next ctx new (call.GetAttr object) (reply.GetAttr outcome) s e = s.unchanged
refusal_leaves tree next ctx new (call.SetAttr object wanted guard) (reply.SetAttr outcome file_attributes) s e =
    set_leaves tree next ctx wanted guard outcome file_attributes e (find_file tree object.bytes) s
refusal_leaves tree next ctx new (call.Lookup name) (reply.Lookup outcome file_attributes) s e = s.unchanged
refusal_leaves tree next ctx new (call.Access object bits) (reply.Access outcome file_attributes) s e = s.unchanged
refusal_leaves tree next ctx new (call.ReadLink link) (reply.ReadLink outcome file_attributes) s e = s.unchanged
refusal_leaves tree next ctx new (call.Read file offset count) (reply.Read outcome file_attributes) s e = s.unchanged
refusal_leaves tree next ctx new (call.ReadDir directory cookie verifier count)
    (reply.ReadDir outcome file_attributes) s e = s.unchanged
refusal_leaves tree next ctx new (call.ReadDirPlus directory cookie verifier names_count count)
    (reply.ReadDirPlus outcome file_attributes) s e = s.unchanged
refusal_leaves tree next ctx new (call.FsStat object) (reply.FsStat outcome file_attributes) s e = s.unchanged
refusal_leaves tree next ctx new (call.FsInfo object) (reply.FsInfo outcome file_attributes) s e = s.unchanged
refusal_leaves tree next ctx new (call.PathConf object) (reply.PathConf outcome file_attributes) s e = s.unchanged
refusal_leaves tree next ctx new (call.Write file offset count stability text)
    (reply.Write outcome file_attributes) s e =
    acts_leaves tree _ _ outcome file_attributes next s e
refusal_leaves tree next ctx new (call.Create name how) (reply.Create outcome file_attributes) s e =
    acts_leaves tree _ _ outcome file_attributes next s e
refusal_leaves tree next ctx new (call.MkDir name wanted) (reply.MkDir outcome file_attributes) s e =
    acts_leaves tree _ _ outcome file_attributes next s e
refusal_leaves tree next ctx new (call.SymLink name wanted target) (reply.SymLink outcome file_attributes) s e =
    acts_leaves tree _ _ outcome file_attributes next s e
refusal_leaves tree next ctx new (call.MkNod name special) (reply.MkNod outcome file_attributes) s e =
    acts_leaves tree _ _ outcome file_attributes next s e
refusal_leaves tree next ctx new (call.Remove name) (reply.Remove outcome file_attributes) s e =
    acts_leaves tree _ _ outcome file_attributes next s e
refusal_leaves tree next ctx new (call.RmDir name) (reply.RmDir outcome file_attributes) s e =
    acts_leaves tree _ _ outcome file_attributes next s e
refusal_leaves tree next ctx new (call.Commit file offset count) (reply.Commit outcome file_attributes) s e =
    acts_leaves tree _ _ outcome file_attributes next s e
refusal_leaves tree next ctx new (call.Rename source target) (reply.Rename outcome file_attributes tells) s e =
    s.leads
    ∙ refused_leaves tree
    (renaming tree ctx source.directory.bytes source.name target.directory.bytes target.name)
    (ap is_err (sym s.answered) ∙ e)
refusal_leaves tree next ctx new (call.Link file name) (reply.Link outcome file_attributes tells) s e =
    s.leads ∙ refused_leaves tree (linking tree ctx file.bytes name.directory.bytes name.name)
    (ap is_err (sym s.answered) ∙ e)
refusal_leaves tree next ctx new _ _ s e = absurd s

commit_tested : (tree : Tree) (ctx : Ctx) (test : Option Status)
    → tree_after tree (unless test (Ok (record { answer = boot_verifier ctx.boot; next = tree }))) ≡ tree
commit_tested tree ctx None = refl
commit_tested tree ctx (Some status) = refl

commit_leaves : (tree : Tree) (ctx : Ctx) (found : Result (ℕ × Node) Status)
    → tree_after tree (found_then found (commit tree ctx)) ≡ tree
commit_leaves tree ctx (Ok found) = commit_tested tree ctx (commit_refusal ctx.credential found.1)
commit_leaves tree ctx (Err status) = refl

unsupported_leaves : (tree : Tree) (found : Result (ℕ × Node) Status)
    → tree_after {A = Created} tree (found_then found (λ _ _. Err status.NotSupp)) ≡ tree
unsupported_leaves tree (Ok found) = refl
unsupported_leaves tree (Err status) = refl

pub query_leaves : (tree next : Tree) (ctx : Ctx) (new : Option ℕ) (asked : Call) (given : Reply)
    → numbered_step tree ctx new asked given next → only_tells asked ≡ true → next ≡ tree
query_leaves tree next ctx new (call.GetAttr object) (reply.GetAttr outcome) s e = s.unchanged
query_leaves tree next ctx new (call.Lookup name) (reply.Lookup outcome file_attributes) s e = s.unchanged
query_leaves tree next ctx new (call.Access object bits) (reply.Access outcome file_attributes) s e = s.unchanged
query_leaves tree next ctx new (call.ReadLink link) (reply.ReadLink outcome file_attributes) s e = s.unchanged
query_leaves tree next ctx new (call.Read file offset count) (reply.Read outcome file_attributes) s e = s.unchanged
query_leaves tree next ctx new (call.ReadDir directory cookie verifier count)
    (reply.ReadDir outcome file_attributes) s e = s.unchanged
query_leaves tree next ctx new (call.ReadDirPlus directory cookie verifier names_count count)
    (reply.ReadDirPlus outcome file_attributes) s e = s.unchanged
query_leaves tree next ctx new (call.FsStat object) (reply.FsStat outcome file_attributes) s e = s.unchanged
query_leaves tree next ctx new (call.FsInfo object) (reply.FsInfo outcome file_attributes) s e = s.unchanged
query_leaves tree next ctx new (call.PathConf object) (reply.PathConf outcome file_attributes) s e = s.unchanged
query_leaves tree next ctx new (call.Commit file offset count) (reply.Commit outcome file_attributes) s e =
    s.leads ∙ commit_leaves tree ctx (find_file tree file.bytes)
query_leaves tree next ctx new (call.MkNod name special) (reply.MkNod outcome file_attributes) s e =
    s.leads ∙ unsupported_leaves tree (find_file tree name.directory.bytes)
query_leaves tree next ctx new (call.Write file offset count stability text) given s e = cc
query_leaves tree next ctx new (call.Create name how) given s e = cc
query_leaves tree next ctx new (call.MkDir name wanted) given s e = cc
query_leaves tree next ctx new (call.SymLink name wanted target) given s e = cc
query_leaves tree next ctx new (call.Remove name) given s e = cc
query_leaves tree next ctx new (call.RmDir name) given s e = cc
query_leaves tree next ctx new (call.SetAttr object wanted guard) given s e = cc
query_leaves tree next ctx new (call.Rename source target) given s e = cc
query_leaves tree next ctx new (call.Link file name) given s e = cc
query_leaves tree next ctx new _ _ s e = absurd s

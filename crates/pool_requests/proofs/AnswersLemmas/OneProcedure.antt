-- One reply answers no two procedures.
use Rattle.std.proofs.Common.{◌≡◌, ◌∙◌, refl, sym, ap, subst, ℕ, Bool, true, false, true≢false, Option}
use Rattle.disk.specs.Crash.{Image}
use Rattle.layout.specs.Stands.{Stands}
use Rattle.nfs_spec.specs.Model.Tree.{Tree}
use Rattle.nfs_types.specs.declared.call.Call.{Call}
use Rattle.nfs_types.specs.declared.call.Call.TheVariants as call
use Rattle.nfs_types.specs.declared.ctx.Ctx.{Ctx}
use Rattle.nfs_types.specs.declared.handle.Handle.{Handle}
use Rattle.nfs_types.specs.declared.reply.Reply.{Reply}
use Rattle.nfs_types.specs.declared.reply.Reply.TheVariants as reply
use Rattle.nfs_types.specs.declared.program.ProgramReply.TheVariants as program_replies
use Rattle.nfs_spec.specs.Procedures.Step.{numbered_step, step}
use Rattle.inode.specs.Read.{AreAsRead}
use Rattle.pool_requests.specs.Jobs.Sent.{Sent}
use Rattle.session_wire.specs.declared.message.ReplyBody.{ReplyBody}
use Rattle.session_wire.specs.declared.message.ReplyBody.TheVariants as body
use Rattle.txn.specs.Receipts.{Given}
use Rattle.procs.specs.Outcome.{Outcome}
use Rattle.pool_requests.specs.Answers.Evident.{Answered, IsCommitted, with_reply}
use Rattle.pool_requests.specs.Answers.MayGet.{MayGet}

-- the reply of a committed change is one that the call may get
pub may_get : (answer : Answered) (sent : Sent) (given : Given Outcome) (stable : Option ℕ)
    (is : IsCommitted answer sent given stable) (blocks : Image) (tree : Tree)
    → Stands is.finished.snap.geometry blocks tree → AreAsRead blocks given.change.read
    → MayGet tree given.change.ctx sent.job.call answer.body
may_get answer sent given stable is blocks tree stands read =
    let got = is.finished.step blocks tree is.finished.sound stands read in (
      given.change.reply,
      is.body_is,
      got.0,
      subst (λ (c : Call). step tree given.change.ctx c given.change.reply got.0) is.own.call got.1,
    )

-- it tells the attributes of a file alone
tells_attributes : Reply → Bool
tells_attributes reply.Null = false
tells_attributes (reply.GetAttr outcome) = true
tells_attributes (reply.SetAttr outcome object) = false
tells_attributes (reply.Lookup outcome directory) = false
tells_attributes (reply.Access outcome object) = false
tells_attributes (reply.ReadLink outcome link) = false
tells_attributes (reply.Read outcome file) = false
tells_attributes (reply.Write outcome file) = false
tells_attributes (reply.Create outcome directory) = false
tells_attributes (reply.MkDir outcome directory) = false
tells_attributes (reply.SymLink outcome directory) = false
tells_attributes (reply.MkNod outcome directory) = false
tells_attributes (reply.Remove outcome directory) = false
tells_attributes (reply.RmDir outcome directory) = false
tells_attributes (reply.Rename outcome source target) = false
tells_attributes (reply.Link outcome file directory) = false
tells_attributes (reply.ReadDir outcome directory) = false
tells_attributes (reply.ReadDirPlus outcome directory) = false
tells_attributes (reply.FsStat outcome object) = false
tells_attributes (reply.FsInfo outcome object) = false
tells_attributes (reply.PathConf outcome object) = false
tells_attributes (reply.Commit outcome file) = false

attributes : (tree next : Tree) (ctx : Ctx) (new : Option ℕ) (object : Handle) (response : Reply)
    → numbered_step tree ctx new (call.GetAttr object) response next → tells_attributes response ≡ true
unfolding tells_attributes
attributes tree next ctx new object reply.Null s = absurd s
attributes tree next ctx new object (reply.GetAttr outcome) s = refl
attributes tree next ctx new object (reply.SetAttr outcome about) s = absurd s
attributes tree next ctx new object (reply.Lookup outcome directory) s = absurd s
attributes tree next ctx new object (reply.Access outcome about) s = absurd s
attributes tree next ctx new object (reply.ReadLink outcome link) s = absurd s
attributes tree next ctx new object (reply.Read outcome file) s = absurd s
attributes tree next ctx new object (reply.Write outcome file) s = absurd s
attributes tree next ctx new object (reply.Create outcome directory) s = absurd s
attributes tree next ctx new object (reply.MkDir outcome directory) s = absurd s
attributes tree next ctx new object (reply.SymLink outcome directory) s = absurd s
attributes tree next ctx new object (reply.MkNod outcome directory) s = absurd s
attributes tree next ctx new object (reply.Remove outcome directory) s = absurd s
attributes tree next ctx new object (reply.RmDir outcome directory) s = absurd s
attributes tree next ctx new object (reply.Rename outcome source target) s = absurd s
attributes tree next ctx new object (reply.Link outcome file directory) s = absurd s
attributes tree next ctx new object (reply.ReadDir outcome directory) s = absurd s
attributes tree next ctx new object (reply.ReadDirPlus outcome directory) s = absurd s
attributes tree next ctx new object (reply.FsStat outcome about) s = absurd s
attributes tree next ctx new object (reply.FsInfo outcome about) s = absurd s
attributes tree next ctx new object (reply.PathConf outcome about) s = absurd s
attributes tree next ctx new object (reply.Commit outcome file) s = absurd s

no_attributes : (tree next : Tree) (ctx : Ctx) (new : Option ℕ) (asked : Handle) (offset count : ℕ) (response : Reply)
    → numbered_step tree ctx new (call.Commit asked offset count) response next → tells_attributes response ≡ false
unfolding tells_attributes
no_attributes tree next ctx new asked offset count reply.Null s = refl
no_attributes tree next ctx new asked offset count (reply.GetAttr outcome) s = absurd s
no_attributes tree next ctx new asked offset count (reply.SetAttr outcome about) s = refl
no_attributes tree next ctx new asked offset count (reply.Lookup outcome directory) s = refl
no_attributes tree next ctx new asked offset count (reply.Access outcome about) s = refl
no_attributes tree next ctx new asked offset count (reply.ReadLink outcome link) s = refl
no_attributes tree next ctx new asked offset count (reply.Read outcome file) s = refl
no_attributes tree next ctx new asked offset count (reply.Write outcome file) s = refl
no_attributes tree next ctx new asked offset count (reply.Create outcome directory) s = refl
no_attributes tree next ctx new asked offset count (reply.MkDir outcome directory) s = refl
no_attributes tree next ctx new asked offset count (reply.SymLink outcome directory) s = refl
no_attributes tree next ctx new asked offset count (reply.MkNod outcome directory) s = refl
no_attributes tree next ctx new asked offset count (reply.Remove outcome directory) s = refl
no_attributes tree next ctx new asked offset count (reply.RmDir outcome directory) s = refl
no_attributes tree next ctx new asked offset count (reply.Rename outcome source target) s = refl
no_attributes tree next ctx new asked offset count (reply.Link outcome file directory) s = refl
no_attributes tree next ctx new asked offset count (reply.ReadDir outcome directory) s = refl
no_attributes tree next ctx new asked offset count (reply.ReadDirPlus outcome directory) s = refl
no_attributes tree next ctx new asked offset count (reply.FsStat outcome about) s = refl
no_attributes tree next ctx new asked offset count (reply.FsInfo outcome about) s = refl
no_attributes tree next ctx new asked offset count (reply.PathConf outcome about) s = refl
no_attributes tree next ctx new asked offset count (reply.Commit outcome file) s = refl

reply_in : ReplyBody → Reply
reply_in (body.Done (program_replies.Nfs response)) = response
reply_in (body.Done (program_replies.Mount response)) = reply.Null
reply_in (body.Refused why) = reply.Null

same : {a b : Reply} → with_reply a ≡ with_reply b → a ≡ b
unfolding reply_in
same is = ap reply_in is

-- what GETATTR may get, no COMMIT may get
pub no_two : (tree other : Tree) (ctx later : Ctx) (object asked : Handle) (offset count : ℕ) (response : ReplyBody)
    → MayGet tree ctx (call.GetAttr object) response → MayGet other later (call.Commit asked offset count) response → ⊥
no_two tree other ctx later object asked offset count response one two =
    let alike = same (sym one.1 ∙ two.1) in
    true≢false (sym (attributes tree one.2 ctx one.3.new object one.0 one.3.leads)
    ∙ (ap tells_attributes alike ∙ no_attributes other two.2 later two.3.new asked offset count two.0 two.3.leads))

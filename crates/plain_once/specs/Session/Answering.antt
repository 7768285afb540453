-- What a record is answered, and which files it leaves.
use Rattle.std.specs.Prelude.{◌≡◌, ℕ, ◌+◌, ◌-◌, ◌<◌, ◌^◌, ◌⊎◌, min, true, false, List}
use Rattle.nfs_spec.specs.Model.Mount.{mount_reply}
use Rattle.nfs_spec.specs.Model.Sound.{Sound}
use Rattle.nfs_spec.specs.Model.Tree.{Tree}
use Rattle.nfs_types.specs.Fits.{CallFits}
use Rattle.nfs_types.specs.declared.call.Call.{Call}
use Rattle.nfs_types.specs.declared.ctx.Credential.{Credential}
use Rattle.nfs_types.specs.declared.ctx.Ctx.{Ctx}
use Rattle.nfs_types.specs.declared.ctx.Moment.{Moment}
use Rattle.nfs_types.specs.declared.program.ProgramCall.{ProgramCall}
use Rattle.nfs_types.specs.declared.program.ProgramCall.TheVariants as programs
use Rattle.nfs_types.specs.declared.program.ProgramReply.{ProgramReply}
use Rattle.nfs_types.specs.declared.program.ProgramReply.TheVariants as replied
use Rattle.nfs_types.specs.declared.reply.Reply.{Reply}
use Rattle.nfs_types.specs.declared.reply.Reply.TheVariants as reply
use Rattle.nfs_spec.specs.Procedures.Step.{step}
use Rattle.plain_tree.specs.Tree.Plain.{tree_of}
use Rattle.plain_once.specs.declared.session.answers.FakeClock.{FakeClock}
use Rattle.plain_once.specs.declared.session.answers.PlainFiles.{PlainFiles}
use Rattle.plain_steps.specs.Computed.{is_null}
use Rattle.rpc.specs.Records.{fragment}
use Rattle.rpc.specs.Refused.{refused}
use Rattle.rpc.specs.declared.refusal.Refusal.{Refusal}
use Rattle.rpc.specs.declared.refusal.Refusal.TheVariants.{SystemError}
use Rattle.session_wire.specs.Judging.{judged}
use Rattle.session_wire.specs.Replies.{IsTooLong, reply_bytes}
use Rattle.session_wire.specs.declared.message.Judged.{Judged}
use Rattle.session_wire.specs.declared.message.Judged.TheVariants as verdict
use Rattle.session_wire.specs.declared.message.ReplyBody.TheVariants as body

-- the moment at which a second begins
abbrev pub at_second : ℕ → Moment
at_second seconds = record { seconds = seconds; nanoseconds = 0 }

-- the pace behind the next call, whose second is the last one that can be told where none is left
abbrev pub risen : FakeClock → FakeClock
risen fake_clock = record { second = min (fake_clock.second + fake_clock.rise) (2 ^ 32 - 1); rise = fake_clock.rise }

-- the files of a session: their tree, when calls come, and how many calls took a number
pub record Files : Type 0 where
  pub tree : Tree
  pub fake_clock : FakeClock
  pub transactions : ℕ

abbrev pub files_of : PlainFiles → Files
files_of files = record {
  tree = tree_of files.tree;
  fake_clock = files.fake_clock;
  transactions = files.transactions;
}

-- the number of the next call, the last one again where none is left
abbrev pub next_number : Files → ℕ
next_number files = min (files.transactions + 1) (2 ^ 64 - 1)

-- the context of the next call of this caller, in the first boot
abbrev pub context : Files → Credential → Ctx
context files caller = record {
  credential = caller;
  moment = at_second files.fake_clock.second;
  boot = 1;
  transaction = next_number files;
}

-- the files with this tree behind the next call
abbrev pub next_files : Files → Tree → Files
next_files files tree = record { tree = tree; fake_clock = risen files.fake_clock; transactions = next_number files }

-- files that a server may have
pub record SoundFiles (files : Files) : Type 0 where
  pub tree : Sound files.tree
  pub second : files.fake_clock.second < 2 ^ 32

-- A call of NFS can be spelled, and is a step of the sequential server. The files of a session are sound: a
-- law.
pub record IsStep (before : Files) (caller : Credential) (call : Call) (response : Reply) (after : Files)
    : Type 0 where
  pub uid : caller.uid < 2 ^ 32
  pub gid : caller.gid < 2 ^ 32
  pub fits : CallFits call
  pub leads : SoundFiles before → step before.tree (context before caller) call response after.tree
  pub counted : after ≡ next_files before after.tree

-- what a call of NFS is replied; NULL takes no number and does nothing
pub record IsNfsReply (before : Files) (caller : Credential) (call : Call) (response : Reply) (after : Files)
    : Type 0 where
  pub null : is_null call ≡ true → (response ≡ reply.Null) × (after ≡ before)
  pub other : is_null call ≡ false → IsStep before caller call response after

-- what a call is replied; MOUNT takes no number and changes nothing
abbrev pub IsReply : Files → Credential → ProgramCall → ProgramReply → Files → Type 0
IsReply before caller (programs.Nfs call) (replied.Nfs response) after = IsNfsReply before caller call response after
IsReply before caller (programs.Nfs call) (replied.Mount response) after = ⊥
IsReply before caller (programs.Mount call) response after =
    (response ≡ replied.Mount (mount_reply call)) × (after ≡ before)

-- a call without a reply leaves the tree; one of NFS has its number all the same
abbrev pub IsUndone : Files → ProgramCall → Files → Type 0
IsUndone before (programs.Nfs call) after =
    (is_null call ≡ false) × (after ≡ next_files before before.tree)
IsUndone before (programs.Mount call) after = after ≡ before

-- the records that tell a result, and that a call is refused
abbrev pub result_record : ℕ → ProgramReply → List ℕ
result_record xid response = fragment true (reply_bytes xid (body.Done response))

abbrev pub refusal_record : ℕ → Refusal → List ℕ
refusal_record xid why = fragment true (refused xid why)

-- a result is told, or where it is too long for a record, that the system failed
abbrev pub IsReplyRecord : ℕ → ProgramReply → List ℕ → Type 0
IsReplyRecord xid response bytes = ((IsTooLong xid (body.Done response) → ⊥) × (bytes ≡ result_record xid response))
    ⊎ (IsTooLong xid (body.Done response) × (bytes ≡ refusal_record xid SystemError))

-- What a call is answered: its result; or, where memory fails before it is done, that the system failed: before
-- or behind its number was taken.
pub data IsCallAnswered (before : Files) (xid : ℕ) (caller : Credential) (call : ProgramCall)
    (bytes : List ℕ) (after : Files) : Type 0 where
  Done : (response : ProgramReply) → IsReply before caller call response after → IsReplyRecord xid response bytes
      → IsCallAnswered before xid caller call bytes after
  Undone : IsUndone before call after → bytes ≡ refusal_record xid SystemError
      → IsCallAnswered before xid caller call bytes after
  Unread : after ≡ before → bytes ≡ refusal_record xid SystemError
      → IsCallAnswered before xid caller call bytes after

-- what is answered, by what the message is
abbrev pub IsVerdictAnswered : Files → Judged → List ℕ → Files → Type 0
IsVerdictAnswered before verdict.Closed bytes after = ⊥
IsVerdictAnswered before (verdict.Refused xid why) bytes after =
    (bytes ≡ refusal_record xid why) × (after ≡ before)
IsVerdictAnswered before (verdict.Call xid caller call) bytes after =
    IsCallAnswered before xid caller call bytes after

-- the connection closes on this message
abbrev pub Closes : List ℕ → Type 0
Closes message = judged message ≡ verdict.Closed

-- a message on which it doesn't close, and the record of the reply to it
abbrev pub IsMessageAnswered : Files → List ℕ → List ℕ → Files → Type 0
IsMessageAnswered before message bytes after = IsVerdictAnswered before (judged message) bytes after

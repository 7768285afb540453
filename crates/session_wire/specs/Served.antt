-- What one thread answers to a stream of messages.
use Rattle.std.specs.Prelude.{◌≡◌, ℕ, ◌+◌, ◌^◌, ◌<◌, ◌≤◌, ◌⊎◌, Bool, true, false, List, [], ◌∷◌, ◌++◌}
use Rattle.std.specs.Prelude.{length}
use Rattle.std.specs.List.{AllByRecursion}
use Rattle.base.specs.declared.TheConstants.{CHANGED_BLOCKS}
use Rattle.nfs_types.specs.declared.call.Call as types
use Rattle.nfs_types.specs.declared.ctx.Credential.{Credential}
use Rattle.nfs_types.specs.declared.program.ProgramCall.{ProgramCall}
use Rattle.nfs_types.specs.declared.program.ProgramCall.TheVariants as program_calls
use Rattle.nfs_types.specs.declared.program.ProgramReply.{ProgramReply}
use Rattle.nfs_types.specs.declared.program.ProgramReply.TheVariants as program_replies
use Rattle.nfs_types.specs.declared.ctx.Moment.{Moment}
use Rattle.nfs_types.specs.declared.reply.Reply.{Reply}
use Rattle.nfs_types.specs.declared.status.Status.TheVariants as status
use Rattle.nfs_types.specs.Fits.{AreBytes}
use Rattle.nfs_spec.specs.Model.Calls.{begins_transaction, is_answered_stable, plain_reply}
use Rattle.nfs_spec.specs.Model.Refused as model
use Rattle.nfs_spec.specs.Model.Sound.{Sound, SoundTime}
use Rattle.nfs_spec.specs.Procedures.Step.{step}
use Rattle.nfs_spec.specs.Model.Tree.{Tree}
use Rattle.session_wire.specs.declared.message.Judged.{Judged}
use Rattle.session_wire.specs.declared.message.Judged.TheVariants.{Closed, Refused, Call}
use Rattle.rpc.specs.declared.refusal.Refusal.TheVariants.{SystemError}
use Rattle.session_wire.specs.Judging.{judged}
use Rattle.rpc.specs.Refused.{accepted, refused}
use Rattle.nfs_results.specs.Results.{result_bytes}

-- The boot number and the moment of all calls of a stream, and of the device under it whether its call of a
-- number failed, and whether it was a write or a barrier that did, the first of them being call 0. And of each
-- message that found no room for its change, how many log positions that takes, under the number that the next
-- transaction may have behind the message: the contract of a server ties it to the change.
pub record Serving : Type 0 where
  pub boot : ℕ
  pub moment : Moment
  pub failed : ℕ → Bool
  pub lost : ℕ → Bool
  pub added : ℕ → ℕ

-- How a stream stands between two messages: the tree so far, the least number that the next transaction may
-- have, how many places and log positions were given out, the device's clock, which is the count of its calls
-- so far, and whether a write or a barrier has failed since the opening. What is between two messages is
-- free: the contract of a server ties the last one to its device and its core.
pub record Standing : Type 0 where
  pub tree : Tree
  pub number : ℕ
  pub places : ℕ
  pub positions : ℕ
  pub clock : ℕ
  pub is_broken : Bool

-- one of the device's calls from this clock up to that one failed
pub record FailsWithin (s : Serving) (from to : ℕ) : Type 0 where
  pub call : ℕ
  pub since : from ≤ call
  pub before : call < to
  pub failed : s.failed call ≡ true

-- one of them failed, and was a write or a barrier
pub record LosesWithin (s : Serving) (from to : ℕ) : Type 0 where
  pub call : ℕ
  pub since : from ≤ call
  pub before : call < to
  pub failed : s.failed call ≡ true
  pub lost : s.lost call ≡ true

-- What a message may do besides its step: numbers of transactions, places, log positions and the device's clock
-- only rise, and a store breaks only as a write or a barrier of that message fails, which is never taken back.
-- A read that fails breaks nothing.
pub record IsLater (s : Serving) (old new : Standing) : Type 0 where
  pub numbers : old.number ≤ new.number
  pub places : old.places ≤ new.places
  pub positions : old.positions ≤ new.positions
  pub clock : old.clock ≤ new.clock
  pub breaks : old.is_broken ≡ false → new.is_broken ≡ true → LosesWithin s old.clock new.clock
  pub stays_broken : old.is_broken ≡ true → new.is_broken ≡ true

-- no step: the tree stays, and no place was given out
pub record Stays (s : Serving) (old new : Standing) : Type 0 where
  pub later : IsLater s old new
  pub tree : new.tree ≡ old.tree
  pub places : new.places ≡ old.places

-- not even a transaction was begun; what was changed before may have been settled
pub record Rests (s : Serving) (old new : Standing) : Type 0 where
  pub stays : Stays s old new
  pub numbers : new.number ≡ old.number

-- A step of the sequential server, with a number that no earlier transaction has. It takes the next place.
pub record Steps (s : Serving) (old : Standing) (credential : Credential) (call : types.Call) (reply : Reply)
    (new : Standing) : Type 0 where
  pub later : IsLater s old new
  pub number : ℕ
  pub fresh : old.number ≤ number
  pub rising : number < new.number
  pub place : new.places ≡ old.places + 1
  pub step : step old.tree (record {
    credential = credential;
    moment = s.moment;
    boot = s.boot;
    transaction = number;
  }) call reply new.tree

-- a device call of this message failed, or the store was broken before it
abbrev pub HasFailed : Serving → Standing → Standing → Type 0
HasFailed s old new = FailsWithin s old.clock new.clock ⊎ (old.is_broken ≡ true)

-- a write or a barrier of this message failed, or the store was broken before it
abbrev pub HasBroken : Serving → Standing → Standing → Type 0
HasBroken s old new = LosesWithin s old.clock new.clock ⊎ (old.is_broken ≡ true)

-- too few log positions are left for so many blocks: for one at least, and for no more than a transaction may change
pub record LacksPositions (at : Standing) (added : ℕ) : Type 0 where
  pub some : 0 < added
  pub few : added ≤ CHANGED_BLOCKS
  pub none : 2 ^ 64 ≤ at.positions + added

-- no place is left for a change of so many blocks, or too few log positions
abbrev pub LacksLogSpace : Standing → ℕ → Type 0
LacksLogSpace at added = (2 ^ 64 ≤ at.places + 1) ⊎ LacksPositions at added

-- There was no room for the change of the call: for that of a step of the sequential server from the tree, in a
-- transaction whose number no earlier one has. The step wasn't made.
pub record FindsNoLogSpace (s : Serving) (old : Standing) (credential : Credential) (call : types.Call)
    (new : Standing) : Type 0 where
  pub number : ℕ
  pub fresh : old.number ≤ number
  pub rising : number < new.number
  pub reply : Reply
  pub tree : Tree
  pub step : step old.tree (record {
    credential = credential;
    moment = s.moment;
    boot = s.boot;
    transaction = number;
  }) call reply tree
  pub lacks : LacksLogSpace new (s.added new.number)

-- Of a store that wasn't broken before the message, no number of a transaction is left, or no room for the change of
-- the call.
pub record IsSpent (s : Serving) (old : Standing) (credential : Credential) (call : types.Call)
    (new : Standing) : Type 0 where
  pub sound : old.is_broken ≡ false
  pub spent : (2 ^ 64 ≤ new.number) ⊎ FindsNoLogSpace s old credential call new

-- a procedure's reply behind the accepted header
abbrev pub done : ℕ → ProgramReply → List ℕ
done xid reply = accepted xid 0 ++ result_bytes reply

-- the reply to a call of NFS
abbrev pub nfs_done : ℕ → Reply → List ℕ
nfs_done xid reply = done xid (program_replies.Nfs reply)

-- What a call that begins a transaction is answered: the reply of its step. Or it made no step and is told why:
-- memory was refused, a counter is spent for this very call, or a device call failed. A write or a barrier may also
-- fail after its step, where the answer had to wait until what it changed is stable.
pub data IsTransactionReply (s : Serving) (old : Standing) (xid : ℕ) (credential : Credential)
    (call : types.Call) (bytes : List ℕ) (new : Standing) : Type 0 where
  Done : (reply : Reply) → Steps s old credential call reply new → bytes ≡ nfs_done xid reply
      → IsTransactionReply s old xid credential call bytes new
  NoMemory : Stays s old new → bytes ≡ refused xid SystemError
      → IsTransactionReply s old xid credential call bytes new
  Spent : Stays s old new → IsSpent s old credential call new
      → bytes ≡ nfs_done xid (model.refused status.ServerFault call)
      → IsTransactionReply s old xid credential call bytes new
  Failed : Stays s old new → HasFailed s old new → bytes ≡ nfs_done xid (model.refused status.Io call)
      → IsTransactionReply s old xid credential call bytes new
  Unsettled : (reply : Reply) → Steps s old credential call reply new → HasBroken s old new
      → is_answered_stable call ≡ true
      → bytes ≡ nfs_done xid (model.refused status.Io call)
      → IsTransactionReply s old xid credential call bytes new

-- what a call that begins none is answered: a function of the message alone, or that memory was refused
abbrev pub IsPlain : ℕ → ProgramCall → List ℕ → Type 0
IsPlain xid call bytes = (bytes ≡ done xid (plain_reply call)) ⊎ (bytes ≡ refused xid SystemError)

-- each call of NFS but NULL begins a transaction
abbrev pub IsNfsReply : Serving → Standing → Bool → ℕ → Credential → types.Call → List ℕ → Standing → Type 0
IsNfsReply s old true xid credential call bytes new = IsTransactionReply s old xid credential call bytes new
IsNfsReply s old false xid credential call bytes new =
    Rests s old new × IsPlain xid (program_calls.Nfs call) bytes

-- a call of MOUNT touches no store
abbrev pub IsCallReply : Serving → Standing → ℕ → Credential → ProgramCall → List ℕ → Standing → Type 0
IsCallReply s old xid credential (program_calls.Nfs call) bytes new =
    IsNfsReply s old (begins_transaction call) xid credential call bytes new
IsCallReply s old xid credential (program_calls.Mount call) bytes new =
    (new ≡ old) × IsPlain xid (program_calls.Mount call) bytes

-- what a message is answered, by what it is taken for: one on which the connection closes gets no reply
abbrev pub IsReplyTo : Serving → Standing → Judged → List ℕ → Standing → Type 0
IsReplyTo s old Closed bytes new = ⊥
IsReplyTo s old (Refused xid refusal) bytes new = (bytes ≡ refused xid refusal) × (new ≡ old)
IsReplyTo s old (Call xid credential call) bytes new =
    IsCallReply s old xid credential call bytes new

-- A stream of bytes that comes to a sound tree, with a number left for the transaction of each message.
pub record IsServable (s : Serving) (old : Standing) (messages : List (List ℕ)) : Type 0 where
  pub sound : Sound old.tree
  pub moment : SoundTime s.moment
  pub boot : s.boot < 2 ^ 64
  pub numbers : old.number + length messages ≤ 2 ^ 64
  pub bytes : AllByRecursion AreBytes messages

-- no message is left, or the connection closes on the next one
abbrev pub Ends : List (List ℕ) → Type 0
Ends [] = Unit {0}
Ends (message ∷ messages) = judged message ≡ Closed

-- A stream of messages is answered: one reply a message, each as this says, in order, up to the first on which
-- the connection closes.
abbrev pub streamed : (Standing → Judged → List ℕ → Standing → Type 0) → Standing → List (List ℕ)
    → List (List ℕ) → Standing → Type 0
streamed answers old messages [] new = Ends messages × (new ≡ old)
streamed answers old [] (reply ∷ replies) new = ⊥
streamed answers old (message ∷ messages) (reply ∷ replies) new =
    (middle : Standing) × answers old (judged message) reply middle × streamed answers middle messages replies new

-- the served stream
abbrev pub served : Serving → Standing → List (List ℕ) → List (List ℕ) → Standing → Type 0
served s old messages replies new = streamed (IsReplyTo s) old messages replies new

-- A message is answered and nothing fails: a call that begins a transaction makes its step and gets the reply of
-- it, any other call gets its plain reply, and what is refused its refusal.
abbrev pub IsNfsDone : Serving → Standing → Bool → ℕ → Credential → types.Call → List ℕ → Standing → Type 0
IsNfsDone s old true xid credential call bytes new =
    (reply : Reply) × Steps s old credential call reply new × (bytes ≡ nfs_done xid reply)
IsNfsDone s old false xid credential call bytes new =
    Rests s old new × (bytes ≡ done xid (plain_reply (program_calls.Nfs call)))

abbrev pub IsDone : Serving → Standing → Judged → List ℕ → Standing → Type 0
IsDone s old Closed bytes new = ⊥
IsDone s old (Refused xid refusal) bytes new = (bytes ≡ refused xid refusal) × (new ≡ old)
IsDone s old (Call xid credential (program_calls.Nfs call)) bytes new =
    IsNfsDone s old (begins_transaction call) xid credential call bytes new
IsDone s old (Call xid credential (program_calls.Mount call)) bytes new =
    (new ≡ old) × (bytes ≡ done xid (plain_reply (program_calls.Mount call)))

-- the served stream where nothing fails
abbrev pub all_done : Serving → Standing → List (List ℕ) → List (List ℕ) → Standing → Type 0
all_done s old messages replies new = streamed (IsDone s) old messages replies new

-- Memory was refused for a call: it makes no step, and is told so.
abbrev pub LacksMemory : Serving → Standing → Judged → List ℕ → Standing → Type 0
LacksMemory s old Closed bytes new = ⊥
LacksMemory s old (Refused xid refusal) bytes new = ⊥
LacksMemory s old (Call xid credential call) bytes new = Stays s old new × (bytes ≡ refused xid SystemError)

-- A message is answered and nothing fails but memory.
abbrev pub IsDoneOrLacking : Serving → Standing → Judged → List ℕ → Standing → Type 0
IsDoneOrLacking s old call bytes new = IsDone s old call bytes new ⊎ LacksMemory s old call bytes new

-- the served stream where nothing fails but memory
abbrev pub done_but_for_memory : Serving → Standing → List (List ℕ) → List (List ℕ) → Standing → Type 0
done_but_for_memory s old messages replies new = streamed (IsDoneOrLacking s) old messages replies new

-- No device call failed in the time of these messages, the store isn't broken before them, and behind them a number
-- is left, a place, and log positions for the change of each of them.
pub record HasNoCause (s : Serving) (old new : Standing) : Type 0 where
  pub whole : old.is_broken ≡ false
  pub none_fails : FailsWithin s old.clock new.clock → ⊥
  pub numbers : new.number < 2 ^ 64
  pub log_space : (number : ℕ) → old.number < number → number ≤ new.number → LacksLogSpace new (s.added number) → ⊥

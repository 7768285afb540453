-- The served stream, message by message.
use Rattle.std.proofs.Common.{◌≡◌, ◌≢◌, ℕ, ◌+◌, ◌^◌, ◌<◌, ◌≤◌, ◌⊎◌, inl, inr, Bool, true, false, List, []}
use Rattle.std.proofs.Common.{◌∷◌, ◌++◌, length}
use Rattle.std.proofs.Common.{refl, sym, ap, subst, ◌∙◌, arith}
use Rattle.nfs_types.specs.declared.call.Call as types
use Rattle.nfs_types.specs.declared.call.Call.TheVariants.{Null as null}
use Rattle.nfs_types.specs.declared.ctx.Credential.{Credential}
use Rattle.nfs_types.specs.declared.ctx.Ctx.{Ctx}
use Rattle.nfs_types.specs.declared.program.ProgramCall.{ProgramCall}
use Rattle.nfs_types.specs.declared.program.ProgramCall.TheVariants as program_calls
use Rattle.nfs_types.specs.Fits.{CallFits, ProgramCallFits}
use Rattle.nfs_spec.specs.Model.Calls.{begins_transaction, plain_reply}
use Rattle.nfs_spec.specs.Model.Sound.{Sound, SoundCtx}
use Rattle.nfs_spec.proofs.ProceduresLemmas.Served.{some_step}
use Rattle.nfs_spec.proofs.ProceduresLemmas.SoundSteps.{step_sound}
use Rattle.session_wire.specs.declared.message.Judged.{Judged}
use Rattle.session_wire.specs.declared.message.Judged.TheVariants.{Closed, Refused, Call}
use Rattle.session_wire.specs.declared.message.MessageCredential.{MessageCredential}
use Rattle.session_wire.specs.declared.message.MessageCredential.TheVariants.{Nobody, Caller}
use Rattle.rpc.specs.declared.refusal.Refusal.{Refusal}
use Rattle.rpc.specs.declared.refusal.Refusal.TheVariants.{SystemError}
use Rattle.session_wire.specs.Calls.{CredentialFits, caller_of}
use Rattle.session_wire.specs.Judging.{judged}
use Rattle.rpc.specs.Refused.{refused}
use Rattle.session_wire.specs.Served.{FailsWithin, HasBroken, HasFailed, HasNoCause, IsCallReply, IsDone, IsLater}
use Rattle.session_wire.specs.Served.{IsNfsDone, IsNfsReply, IsPlain, IsReplyTo, IsTransactionReply}
use Rattle.session_wire.specs.Served.{FindsNoLogSpace, IsServable, LacksMemory, LacksLogSpace, LosesWithin, Rests, Serving}
use Rattle.session_wire.specs.Served.{Standing, Stays}
use Rattle.session_wire.specs.Served.{Steps, all_done, done, done_but_for_memory, nfs_done, served}
use Rattle.session_wire.proofs.CallLaws.{judged_takes}

pub none : (s : Serving) (old new : Standing) (replies : List (List ℕ)) → served s old [] replies new
    → (replies ≡ []) × (new ≡ old)
none s old new [] all = (refl, all.1)
none s old new (reply ∷ replies) all = absurd all

pub closed : (s : Serving) (old new : Standing) (message : List ℕ) (messages replies : List (List ℕ))
    → judged message ≡ Closed
    → served s old (message ∷ messages) replies new → (replies ≡ []) × (new ≡ old)
closed s old new message messages [] is all = (refl, all.1)
closed s old new message messages (reply ∷ replies) is all =
    absurd (subst (λ (j : Judged). IsReplyTo s old j reply all.0) is all.1)

pub refusal : (s : Serving) (old new : Standing) (xid : ℕ) (why : Refusal) (message : List ℕ)
    (messages replies : List (List ℕ))
    → judged message ≡ Refused xid why → served s old (message ∷ messages) replies new
    → (others : List (List ℕ)) × (replies ≡ refused xid why ∷ others) × served s old messages others new
refusal s old new xid why message messages [] is all =
    let no : Refused xid why ≡ Closed = sym is ∙ all.0 in cc
refusal s old new xid why message messages (reply ∷ replies) is all =
    let proven : (reply ≡ refused xid why) × (all.0 ≡ old) =
    subst (λ (j : Judged). IsReplyTo s old j reply all.0) is all.1 in (
      replies,
      ap (λ r. r ∷ replies) proven.0,
      subst (λ middle. served s middle messages replies new) proven.1 all.2,
    )

pub joined : (s : Serving) (old middle new : Standing) (first second replies others : List (List ℕ))
    → length replies ≡ length first → served s old first replies middle → served s middle second others new
    → served s old (first ++ second) (replies ++ others) new
joined s old middle new [] second [] others same all more =
    subst (λ at. served s at second others new) all.1 more
joined s old middle new (message ∷ first) second [] others same all more = cc
joined s old middle new [] second (reply ∷ replies) others same all more = absurd all
joined s old middle new (message ∷ first) second (reply ∷ replies) others same all more =
    (all.0, all.1, joined s all.0 middle new first second replies others (omega arith) all.2 more)

-- ---- nothing is taken back

later_itself : (s : Serving) (at : Standing) → IsLater s at at
later_itself s at = record {
  numbers = omega arith;
  places = omega arith;
  positions = omega arith;
  clock = omega arith;
  breaks = λ no yes. cc;
  stays_broken = λ is. is;
}

pub same : (s : Serving) (old new : Standing) → new ≡ old → IsLater s old new
same s old new is = subst (λ (at : Standing). IsLater s old at) (sym is) (later_itself s old)

-- a failure in a part of a time is one in the time
fails_longer : (s : Serving) (a b c d : ℕ) → a ≤ b → c ≤ d → FailsWithin s b c → FailsWithin s a d
fails_longer s a b c d first last fails = record {
  call = fails.call;
  since = let h = fails.since in omega (arith, first, h);
  before = let h = fails.before in omega (arith, last, h);
  failed = fails.failed;
}

-- so is a write or a barrier that failed
loses_longer : (s : Serving) (a b c d : ℕ) → a ≤ b → c ≤ d → LosesWithin s b c → LosesWithin s a d
loses_longer s a b c d first last loses = record {
  call = loses.call;
  since = let h = loses.since in omega (arith, first, h);
  before = let h = loses.before in omega (arith, last, h);
  failed = loses.failed;
  lost = loses.lost;
}

-- and that is a failure
loses_fails : (s : Serving) (from to : ℕ) → LosesWithin s from to → FailsWithin s from to
loses_fails s from to loses = record {
  call = loses.call;
  since = loses.since;
  before = loses.before;
  failed = loses.failed;
}

breaks-on : (s : Serving) (a b c : Standing) → IsLater s a b → IsLater s b c → a.is_broken ≡ false
    → c.is_broken ≡ true → (v : Bool) → b.is_broken ≡ v → LosesWithin s a.clock c.clock
breaks-on s a b c first second was now true is =
    loses_longer s a.clock a.clock b.clock c.clock (omega arith) second.clock (first.breaks was is)
breaks-on s a b c first second was now false is =
    loses_longer s a.clock b.clock c.clock c.clock first.clock (omega arith) (second.breaks is now)

on : (s : Serving) (a b c : Standing) → IsLater s a b → IsLater s b c → IsLater s a c
on s a b c first second = record {
  numbers = let h = first.numbers in let k = second.numbers in omega (arith, h, k);
  places = let h = first.places in let k = second.places in omega (arith, h, k);
  positions = let h = first.positions in let k = second.positions in omega (arith, h, k);
  clock = let h = first.clock in let k = second.clock in omega (arith, h, k);
  breaks = λ was now. breaks-on s a b c first second was now b.is_broken refl;
  stays_broken = λ is. second.stays_broken (first.stays_broken is);
}

module _ (s : Serving) (old new : Standing) (bytes : List ℕ) where
  served-on : (xid : ℕ) (credential : Credential) (call : types.Call)
      → IsTransactionReply s old xid credential call bytes new → IsLater s old new
  served-on xid credential call (IsTransactionReply.Done reply taken proven) = taken.later
  served-on xid credential call (IsTransactionReply.NoMemory stays proven) = stays.later
  served-on xid credential call (IsTransactionReply.Spent stays spent proven) = stays.later
  served-on xid credential call (IsTransactionReply.Failed stays failed proven) = stays.later
  served-on xid credential call (IsTransactionReply.Unsettled reply taken failed waits proven) = taken.later

  nfs-on : (rules : Bool) (xid : ℕ) (credential : Credential) (call : types.Call)
      → IsNfsReply s old rules xid credential call bytes new → IsLater s old new
  nfs-on true xid credential call proven = served-on xid credential call proven
  nfs-on false xid credential call proven = proven.0.stays.later

  call-on : (xid : ℕ) (credential : Credential) (call : ProgramCall)
      → IsCallReply s old xid credential call bytes new → IsLater s old new
  call-on xid credential (program_calls.Nfs call) proven = nfs-on (begins_transaction call) xid credential call proven
  call-on xid credential (program_calls.Mount call) proven = same s old new proven.0

  reply-on : (j : Judged) → IsReplyTo s old j bytes new → IsLater s old new
  reply-on Closed proven = absurd proven
  reply-on (Refused xid why) proven = same s old new proven.1
  reply-on (Call xid credential call) proven = call-on xid credential call proven

pub later : (s : Serving) (old new : Standing) (messages replies : List (List ℕ))
    → served s old messages replies new → IsLater s old new
later s old new messages [] all = same s old new all.1
later s old new [] (reply ∷ replies) all = absurd all
later s old new (message ∷ messages) (reply ∷ replies) all =
    on s old all.0 new (reply-on s old all.0 reply (judged message) all.1)
    (later s all.0 new messages replies all.2)

-- ---- what is done is served

module _ (s : Serving) (old new : Standing) (bytes : List ℕ) where
  nfs_served : (rules : Bool) (xid : ℕ) (credential : Credential) (call : types.Call)
      → IsNfsDone s old rules xid credential call bytes new
      → IsNfsReply s old rules xid credential call bytes new
  nfs_served true xid credential call (reply, taken, proven) = IsTransactionReply.Done reply taken proven
  nfs_served false xid credential call (rests, proven) = (rests, inl proven)

  reply_served : (j : Judged) → IsDone s old j bytes new → IsReplyTo s old j bytes new
  reply_served Closed is = absurd is
  reply_served (Refused xid why) is = is
  reply_served (Call xid credential (program_calls.Nfs call)) is =
      nfs_served (begins_transaction call) xid credential call is
  reply_served (Call xid credential (program_calls.Mount call)) is = (is.0, inl is.1)

pub done_served : (s : Serving) (old new : Standing) (messages replies : List (List ℕ))
    → all_done s old messages replies new → served s old messages replies new
done_served s old new messages [] all = all
done_served s old new [] (reply ∷ replies) all = absurd all
done_served s old new (message ∷ messages) (reply ∷ replies) all =
    let first = reply_served s old all.0 reply (judged message) all.1 in
    (all.0, first, done_served s all.0 new messages replies all.2)

-- ---- without a cause nothing fails

-- what has no room has none later
lacks_on : (s : Serving) (old new : Standing) (added : ℕ) → IsLater s old new → LacksLogSpace old added
    → LacksLogSpace new added
lacks_on s old new added later (inl place) = inl (let places = later.places in omega (arith, places, place))
lacks_on s old new added later (inr lacks) = inr (record {
  some = lacks.some;
  few = lacks.few;
  none = let positions = later.positions in let none = lacks.none in omega (arith, positions, none);
})

not_true : (v : Bool) → (v ≡ true → ⊥) → v ≡ false
not_true true isnt = absurd (isnt refl)
not_true false isnt = refl

-- a first part and a last part of a time without a cause have none
first_part : (s : Serving) (old middle new : Standing) → IsLater s middle new → HasNoCause s old new
    → HasNoCause s old middle
first_part s old middle new later none = record {
  whole = none.whole;
  none_fails = λ fails. none.none_fails
      (fails_longer s old.clock old.clock middle.clock new.clock (omega arith) later.clock fails);
  numbers = let more = later.numbers in let left = none.numbers in omega (arith, more, left);
  log_space = λ number from to lacks. none.log_space number from
      (let more = later.numbers in omega (arith, to, more))
      (lacks_on s middle new (s.added number) later lacks);
}

last_part : (s : Serving) (old middle new : Standing) → IsLater s old middle → IsLater s middle new
    → HasNoCause s old new → HasNoCause s middle new
last_part s old middle new first later none = record {
  whole = not_true middle.is_broken (λ broken. none.none_fails
      (fails_longer s old.clock old.clock middle.clock new.clock (omega arith) later.clock
      (loses_fails s old.clock middle.clock (first.breaks none.whole broken))));
  none_fails = λ fails. none.none_fails
      (fails_longer s old.clock middle.clock new.clock new.clock first.clock (omega arith) fails);
  numbers = none.numbers;
  log_space = λ number from to lacks. none.log_space number
      (let more = first.numbers in omega (arith, from, more)) to lacks;
}

-- a failure would be a cause
not_failed : (s : Serving) (old new : Standing) → HasNoCause s old new → HasFailed s old new → ⊥
not_failed s old new none (inl fails) = none.none_fails fails
not_failed s old new none (inr broken) = let whole = none.whole in cc

not_broken : (s : Serving) (old new : Standing) → HasNoCause s old new → HasBroken s old new → ⊥
not_broken s old new none (inl loses) = none.none_fails (loses_fails s old.clock new.clock loses)
not_broken s old new none (inr broken) = let whole = none.whole in cc

-- a counter that is spent would be one
not_spent : (s : Serving) (old new : Standing) (credential : Credential) (call : types.Call) → HasNoCause s old new
    → (2 ^ 64 ≤ new.number) ⊎ FindsNoLogSpace s old credential call new → ⊥
not_spent s old new credential call none (inl number) = let left = none.numbers in omega (arith, number, left)
not_spent s old new credential call none (inr finds) =
    none.log_space new.number (let fresh = finds.fresh in let rising = finds.rising in omega (arith, fresh, rising))
    (omega arith) finds.lacks

module _ (s : Serving) (old new : Standing) (bytes : List ℕ) (none : HasNoCause s old new) where
  with_rules : (xid : ℕ) (credential : Credential) (call : types.Call)
      → IsTransactionReply s old xid credential call bytes new
      → IsNfsDone s old true xid credential call bytes new
      ⊎ (Stays s old new × (bytes ≡ refused xid SystemError))
  with_rules xid credential call (IsTransactionReply.Done reply taken proven) = inl (reply, taken, proven)
  with_rules xid credential call (IsTransactionReply.NoMemory stays proven) = inr (stays, proven)
  with_rules xid credential call (IsTransactionReply.Spent stays is proven) =
      absurd (not_spent s old new credential call none is.spent)
  with_rules xid credential call (IsTransactionReply.Failed stays failed proven) =
      absurd (not_failed s old new none failed)
  with_rules xid credential call (IsTransactionReply.Unsettled reply taken broken waits proven) =
      absurd (not_broken s old new none broken)

  of_nfs : (rules : Bool) (xid : ℕ) (credential : Credential) (call : types.Call)
      → IsNfsReply s old rules xid credential call bytes new
      → IsNfsDone s old rules xid credential call bytes new
      ⊎ (Stays s old new × (bytes ≡ refused xid SystemError))
  of_nfs true xid credential call proven = with_rules xid credential call proven
  of_nfs false xid credential call (rests, inl proven) = inl (rests, proven)
  of_nfs false xid credential call (rests, inr proven) = inr (rests.stays, proven)

  of_mount : (xid : ℕ) (call : ProgramCall) → new ≡ old → IsPlain xid call bytes
      → ((new ≡ old) × (bytes ≡ done xid (plain_reply call)))
      ⊎ (Stays s old new × (bytes ≡ refused xid SystemError))
  of_mount xid call is (inl proven) = inl (is, proven)
  of_mount xid call is (inr proven) = inr (
    record {
      later = same s old new is;
      tree = ap (λ (at : Standing). at.tree) is;
      places = ap (λ (at : Standing). at.places) is;
    },
    proven,
  )

  of_message : (j : Judged) → IsReplyTo s old j bytes new
      → IsDone s old j bytes new ⊎ LacksMemory s old j bytes new
  of_message Closed proven = absurd proven
  of_message (Refused xid why) proven = inl proven
  of_message (Call xid credential (program_calls.Nfs call)) proven =
      of_nfs (begins_transaction call) xid credential call proven
  of_message (Call xid credential (program_calls.Mount call)) proven =
      of_mount xid (program_calls.Mount call) proven.0 proven.1

pub without_cause : (s : Serving) (old new : Standing) (messages replies : List (List ℕ))
    → served s old messages replies new → HasNoCause s old new
    → done_but_for_memory s old messages replies new
without_cause s old new messages [] all none = all
without_cause s old new [] (reply ∷ replies) all none = absurd all
without_cause s old new (message ∷ messages) (reply ∷ replies) all none =
    let first = reply-on s old all.0 reply (judged message) all.1 in
    let rest = later s all.0 new messages replies all.2 in (
      all.0,
      of_message s old all.0 reply (first_part s old all.0 new rest none) (judged message) all.1,
      without_cause s all.0 new messages replies all.2 (last_part s old all.0 new first rest none),
    )

-- ---- there are replies

-- NULL begins no transaction
not_null : (call : types.Call) → begins_transaction call ≡ true → call ≢ null
not_null call is same =
    let no : false ≡ true = subst (λ c. begins_transaction c ≡ true) same is in
    cc

-- some answer to a message, with which the tree stays sound
record Answered (s : Serving) (old : Standing) (j : Judged) : Type 0 where
  bytes : List ℕ
  new : Standing
  is : IsReplyTo s old j bytes new
  well : IsDone s old j bytes new
  sound : Sound new.tree
  number : new.number ≤ old.number + 1

-- the same of a call of NFS
record Stepped (s : Serving) (old : Standing) (rules : Bool) (xid : ℕ) (credential : Credential)
    (call : types.Call) : Type 0 where
  bytes : List ℕ
  new : Standing
  is : IsNfsReply s old rules xid credential call bytes new
  well : IsNfsDone s old rules xid credential call bytes new
  sound : Sound new.tree
  number : new.number ≤ old.number + 1

module _ (s : Serving) (old : Standing) (xid : ℕ) (credential : Credential) (good : Sound old.tree) where
  abbrev ctx : Ctx
  ctx = record { credential = credential; moment = s.moment; boot = s.boot; transaction = old.number }

  at_rest : Rests s old old
  at_rest = record {
    stays = record { later = later_itself s old; tree = refl; places = refl };
    numbers = refl;
  }

  stepped : (call : types.Call) (rules : Bool) → begins_transaction call ≡ rules → SoundCtx ctx → CallFits call
      → Stepped s old rules xid credential call
  stepped call true is now fits =
      let a = some_step old.tree ctx call (not_null call is) in
      let new : Standing = record old { tree = a.1; number = old.number + 1; places = old.places + 1 } in
      let on : IsLater s old new = record {
        numbers = omega arith;
        places = omega arith;
        positions = omega arith;
        clock = omega arith;
        breaks = λ no yes. cc;
        stays_broken = λ is. is;
      } in
      let made : Steps s old credential call a.0 new = record {
        later = on;
        number = old.number;
        fresh = omega arith;
        rising = omega arith;
        place = refl;
        step = a.2;
      } in
      record {
        bytes = nfs_done xid a.0;
        new = new;
        is = IsTransactionReply.Done a.0 made refl;
        well = (a.0, made, refl);
        sound = step_sound old.tree a.1 ctx call a.0 good now fits a.2;
        number = omega arith;
      }
  stepped call false is now fits = record {
    bytes = done xid (plain_reply (program_calls.Nfs call));
    new = old;
    is = (at_rest, inl refl);
    well = (at_rest, refl);
    sound = good;
    number = omega arith;
  }

  called : (call : ProgramCall) → SoundCtx ctx → ProgramCallFits call
      → Answered s old (Call xid credential call)
  called (program_calls.Nfs call) now fits =
      let a = stepped call (begins_transaction call) refl now fits in
      record { bytes = a.bytes; new = a.new; is = a.is; well = a.well; sound = a.sound; number = a.number }
  called (program_calls.Mount call) now fits = record {
    bytes = done xid (plain_reply (program_calls.Mount call));
    new = old;
    is = (refl, inl refl);
    well = (refl, refl);
    sound = good;
    number = omega arith;
  }

-- a caller that was read is one that can be
pub record IsCaller (c : Credential) : Type 0 where
  pub uid : c.uid < 2 ^ 32
  pub gid : c.gid < 2 ^ 32

pub caller_is : (m : MessageCredential) → CredentialFits m → IsCaller (caller_of m)
caller_is Nobody fits = record { uid = omega arith; gid = omega arith }
caller_is (Caller stamp machine caller) fits = record { uid = fits.uid; gid = fits.gid }

replied : (s : Serving) (old : Standing) (message : List ℕ) (messages : List (List ℕ))
    → IsServable s old (message ∷ messages) → (j : Judged) → judged message ≡ j
    → (j ≡ Closed) ⊎ Answered s old j
replied s old message messages can Closed is = inl refl
replied s old message messages can (Refused xid why) is = inr (record {
  bytes = refused xid why;
  new = old;
  is = (refl, refl);
  well = (refl, refl);
  sound = can.sound;
  number = omega arith;
})
replied s old message messages can (Call xid credential call) is =
    let t = judged_takes message xid credential call can.bytes.0 is in
    let caller : IsCaller credential =
    subst IsCaller t.1.caller_is (caller_is t.0.credential t.1.spelled.credential_fits) in
    let fits : ProgramCallFits call = subst ProgramCallFits t.1.call_is t.1.spelled.call_fits in
    let left = can.numbers in
    inr (called s old xid credential can.sound call
    (record {
      uid = caller.uid;
      gid = caller.gid;
      moment = can.moment;
      stamp = record { boot = can.boot; transaction = omega (arith, left) };
    }) fits)

pub can_be_served : (s : Serving) (old : Standing) (messages : List (List ℕ)) → IsServable s old messages
    → (replies : List (List ℕ)) × (new : Standing) × served s old messages replies new
    × all_done s old messages replies new
can_be_served s old [] can = ([], old, (tt, refl), (tt, refl))
can_be_served s old (message ∷ messages) can =
    elim (replied s old message messages can (judged message) refl) [
      | inl closes ↦ ([], old, (closes, refl), (closes, refl))
      | inr proven ↦
          let rest = can_be_served s proven.new messages (record {
            sound = proven.sound;
            moment = can.moment;
            boot = can.boot;
            numbers = let left = can.numbers in let one = proven.number in omega (arith, left, one);
            bytes = can.bytes.1;
          }) in
          (proven.bytes ∷ rest.0, rest.1, (proven.new, proven.is, rest.2), (proven.new, proven.well, rest.3))
    ]

-- A reply has one spelling, and no two replies to one procedure share it.
use Rattle.std.proofs.Common.{◌≡◌, ℕ, ◌^◌, ◌<◌, ◌⊎◌, inl, inr, Bool, true, false, cond, List, [], ◌++◌}
use Rattle.std.proofs.Common.{Result, Ok, Err, refl}
use Rattle.std.proofs.Common.{sym, ap, subst, ◌∙◌, append_assoc, arith}
use Rattle.std.specs.Prelude.{◌==◌}
use Rattle.std.specs.Int.{w32}
use Rattle.std.proofs.lemmas.Bool.{eqb-true}
use Rattle.std.proofs.lemmas.List.{append-nil}
use Rattle.nfs_types.specs.declared.program.ProgramProcedure.{ProgramProcedure}
use Rattle.rpc.specs.declared.constants.TheConstants.{REPLY, RPC_VERSION, NFS_VERSION}
use Rattle.rpc.specs.declared.refusal.Refusal.{Refusal}
use Rattle.rpc.specs.declared.refusal.Refusal.TheVariants.{RpcMismatch, BadCredential}
use Rattle.rpc.specs.declared.refusal.Refusal.TheVariants.{RejectedCredential}
use Rattle.rpc.specs.declared.refusal.Refusal.TheVariants.{ProgramUnavailable, ProgramMismatch}
use Rattle.rpc.specs.declared.refusal.Refusal.TheVariants.{ProcedureUnavailable}
use Rattle.rpc.specs.declared.refusal.Refusal.TheVariants.{GarbageArguments, SystemError}
use Rattle.session_wire.specs.declared.message.ReplyBody.{ReplyBody}
use Rattle.session_wire.specs.declared.message.ReplyBody.TheVariants as bodies
use Rattle.session_wire.specs.declared.message.ReplyMessage.{ReplyMessage}
use Rattle.xdr.specs.declared.fault.XdrFault.{XdrFault}
use Rattle.xdr.specs.declared.fault.XdrFault.TheVariants.{Value}
use Rattle.xdr.specs.Items.{word}
use Rattle.xdr.specs.Reading.{◌>>=◌, number_at, end_at}
use Rattle.nfs_codec.specs.Procedures.{replied_to}
use Rattle.nfs_results.specs.Results.{result_bytes, reply_at}
use Rattle.nfs_results.proofs.ReplyLaws.{replies_are}
use Rattle.xdr.proofs.Lawful.{end_is}
use Rattle.session_wire.specs.Replies.{reply_bytes, BodyFits, RepliesTo, SpellsReply}
use Rattle.session_wire.specs.ReadingReplies.{this_at, versions_at, refusing, accepted_of}
use Rattle.session_wire.specs.ReadingReplies.{bad_credential_of, denied_of, accepted_at, denied_at, state_of}
use Rattle.session_wire.specs.ReadingReplies.{reply_of}
use Rattle.xdr.proofs.Coded.{IsBytes, bind_ok, holds_ok, ok_is, Takes, Takes-then, words}
use Rattle.session_wire.proofs.CodedHeaders.{whole}

chosen : {A : Type 0} (b : Bool) (x y z : Result A XdrFault) → cond b x y ≡ z → ((b ≡ true) × (x ≡ z))
    ⊎ ((b ≡ false) × (y ≡ z))
chosen true x y z e = inl (refl, e)
chosen false x y z e = inr (refl, e)

-- ---- this very number

this_takes : (w : ℕ) (bytes : List ℕ) (y : Unit {0} × List ℕ) → IsBytes bytes → this_at w bytes ≡ Ok y
    → Takes bytes (word w) y.1
this_takes w bytes y fits e =
    let a = bind_ok (number_at w32 bytes) (λ n. cond (n.0 == w) (Ok (tt, n.1)) (Err Value)) y e in
    let t = words.takes bytes a.0.0 a.0.1 fits a.1 in
    let h = holds_ok (a.0.0 == w) Value (Ok (tt, a.0.1)) y a.2 in
    let made : Unit {0} × List ℕ = (tt, a.0.1) in
    subst (λ (z : Unit {0} × List ℕ). Takes bytes (word w) z.1) (ok_is made y h.1)
    (subst (λ (n : ℕ). Takes bytes (word n) a.0.1) (eqb-true a.0.0 w h.0) t.0)

this_again : (w : ℕ) → (w == w) ≡ true → w < 2 ^ 32 → (rest : List ℕ)
    → this_at w (word w ++ rest) ≡ Ok (tt, rest)
this_again w same fits rest = rw (words.again w rest fits, same) refl

versions_take : (v : ℕ) (bytes : List ℕ) (y : Unit {0} × List ℕ) → IsBytes bytes → versions_at v bytes ≡ Ok y
    → Takes bytes (word v ++ word v) y.1
unfolding versions_at
versions_take v bytes y fits e =
    let a = bind_ok (this_at v bytes) (λ low. this_at v low.1) y e in
    let t = this_takes v bytes a.0 fits a.1 in
    Takes-then bytes (word v) a.0.1 (word v) y.1 t (this_takes v a.0.1 y t.rest_fits a.2)

versions_again : (v : ℕ) → (v == v) ≡ true → v < 2 ^ 32 → (rest : List ℕ)
    → versions_at v (word v ++ word v ++ rest) ≡ Ok (tt, rest)
unfolding versions_at
versions_again v same fits rest =
    ap (versions_at v) (append_assoc (word v) (word v) rest)
    ∙ rw (this_again v same fits (word v ++ rest), this_again v same fits rest) refl

word_end : (w : ℕ) → w < 2 ^ 32 → number_at w32 (word w) ≡ Ok (w, [])
word_end w fits = ap (number_at w32) (sym (append-nil (word w))) ∙ words.again w [] fits

versions_end : (v : ℕ) → (v == v) ≡ true → v < 2 ^ 32 → versions_at v (word v ++ word v) ≡ Ok (tt, [])
versions_end v same fits = ap (versions_at v) (sym (append-nil (word v ++ word v)))
    ∙ versions_again v same fits []

-- ---- the body of a reply, as it is read: its state, then a text

abbrev state : ReplyBody → ℕ
state (bodies.Done reply) = 0
state (bodies.Refused RpcMismatch) = 1
state (bodies.Refused BadCredential) = 1
state (bodies.Refused RejectedCredential) = 1
state (bodies.Refused ProgramUnavailable) = 0
state (bodies.Refused ProgramMismatch) = 0
state (bodies.Refused ProcedureUnavailable) = 0
state (bodies.Refused GarbageArguments) = 0
state (bodies.Refused SystemError) = 0

-- an empty verifier and a status
abbrev verified : ℕ → List ℕ
verified status = word 0 ++ word 0 ++ word status

abbrev text : ReplyBody → List ℕ
text (bodies.Done reply) = verified 0 ++ result_bytes reply
text (bodies.Refused RpcMismatch) = word 0 ++ (word RPC_VERSION ++ word RPC_VERSION)
text (bodies.Refused BadCredential) = word 1 ++ word 1
text (bodies.Refused RejectedCredential) = word 1 ++ word 2
text (bodies.Refused ProgramUnavailable) = verified 1
text (bodies.Refused ProgramMismatch) = verified 2 ++ (word NFS_VERSION ++ word NFS_VERSION)
text (bodies.Refused ProcedureUnavailable) = verified 3
text (bodies.Refused GarbageArguments) = verified 4
text (bodies.Refused SystemError) = verified 5

parted : (xid : ℕ) (b : ReplyBody)
    → reply_bytes xid b ≡ word xid ++ (word REPLY ++ (word (state b) ++ text b))
parted xid (bodies.Done reply) = simp append_assoc refl
parted xid (bodies.Refused RpcMismatch) = simp append_assoc refl
parted xid (bodies.Refused BadCredential) = simp append_assoc refl
parted xid (bodies.Refused RejectedCredential) = simp append_assoc refl
parted xid (bodies.Refused ProgramUnavailable) = simp append_assoc refl
parted xid (bodies.Refused ProgramMismatch) = simp append_assoc refl
parted xid (bodies.Refused ProcedureUnavailable) = simp append_assoc refl
parted xid (bodies.Refused GarbageArguments) = simp append_assoc refl
parted xid (bodies.Refused SystemError) = simp append_assoc refl

record IsBody (p : ProgramProcedure) (s : ℕ) (bytes : List ℕ) (y : ReplyBody × List ℕ) : Type 0 where
  of_state : state y.0 ≡ s
  took : Takes bytes (text y.0) y.1
  fits : BodyFits y.0
  answers : RepliesTo p y.0

-- ---- what is read is spelled so

plain : (p : ProgramProcedure) (s : ℕ) (bytes rest : List ℕ) (r : Refusal) (y : ReplyBody × List ℕ)
    → IsBody p s bytes (bodies.Refused r, rest) → refusing r rest ≡ Ok y → IsBody p s bytes y
plain p s bytes rest r y made e =
    let first : ReplyBody × List ℕ = (bodies.Refused r, rest) in
    subst (λ (z : ReplyBody × List ℕ). IsBody p s bytes z) (ok_is first y e) made

moved : (bytes rest : List ℕ) (f : ℕ → List ℕ) (n m : ℕ) → n ≡ m → Takes bytes (f n) rest
    → Takes bytes (f m) rest
moved bytes rest f n m e t = subst (λ (k : ℕ). Takes bytes (f k) rest) e t

accepted_is : (p : ProgramProcedure) (bytes : List ℕ) (s : ℕ) (r : List ℕ) (y : ReplyBody × List ℕ)
    → Takes bytes (verified s) r → accepted_of p s r ≡ Ok y → IsBody p 0 bytes y
accepted_is p bytes s r y t e =
    elim (chosen (s == 0) _ _ (Ok y) e) [
      | inl done ↦
          let a = bind_ok (reply_at p r) (λ x. Ok (bodies.Done x.0, x.1)) y done.1 in
          let u = (replies_are p).takes r a.0.0 a.0.1 t.rest_fits a.1 in
          let both = Takes-then bytes (verified 0) r (result_bytes a.0.0) a.0.1
          (moved bytes r verified s 0 (eqb-true s 0 done.0) t) u.0 in
          let made : ReplyBody × List ℕ = (bodies.Done a.0.0, a.0.1) in
          subst (λ (z : ReplyBody × List ℕ). IsBody p 0 bytes z) (ok_is made y a.2)
          (record { of_state = refl; took = both; fits = u.1.1; answers = u.1.0 })
      | inr not0 ↦ elim (chosen (s == 1) _ _ (Ok y) not0.1) [
        | inl unavailable ↦ plain p 0 bytes r ProgramUnavailable y
            (record {
              of_state = refl;
              took = moved bytes r verified s 1 (eqb-true s 1 unavailable.0) t;
              fits = tt;
              answers = tt;
            }) unavailable.1
        | inr not1 ↦ elim (chosen (s == 2) _ _ (Ok y) not1.1) [
          | inl mismatch ↦
              let a = bind_ok (versions_at NFS_VERSION r) (λ v. refusing ProgramMismatch v.1) y mismatch.1 in
              let u = versions_take NFS_VERSION r a.0 t.rest_fits a.1 in
              let both = Takes-then bytes (verified 2) r (word NFS_VERSION ++ word NFS_VERSION) a.0.1
              (moved bytes r verified s 2 (eqb-true s 2 mismatch.0) t) u in
              plain p 0 bytes a.0.1 ProgramMismatch y (record {
                of_state = refl;
                took = both;
                fits = tt;
                answers = tt;
              }) a.2
          | inr not2 ↦ elim (chosen (s == 3) _ _ (Ok y) not2.1) [
            | inl procedure ↦ plain p 0 bytes r ProcedureUnavailable y
                (record {
                  of_state = refl;
                  took = moved bytes r verified s 3 (eqb-true s 3 procedure.0) t;
                  fits = tt;
                  answers = tt;
                }) procedure.1
            | inr not3 ↦ elim (chosen (s == 4) _ _ (Ok y) not3.1) [
              | inl garbage ↦ plain p 0 bytes r GarbageArguments y
                  (record {
                    of_state = refl;
                    took = moved bytes r verified s 4 (eqb-true s 4 garbage.0) t;
                    fits = tt;
                    answers = tt;
                  }) garbage.1
              | inr not4 ↦
                  let h = holds_ok (s == 5) Value (refusing SystemError r) y not4.1 in
                  plain p 0 bytes r SystemError y
                  (record {
                    of_state = refl;
                    took = moved bytes r verified s 5 (eqb-true s 5 h.0) t;
                    fits = tt;
                    answers = tt;
                  }) h.1
            ]
          ]
        ]
      ]
    ]

accepted_takes : (p : ProgramProcedure) (bytes : List ℕ) (y : ReplyBody × List ℕ) → IsBytes bytes
    → accepted_at p bytes ≡ Ok y → IsBody p 0 bytes y
unfolding accepted_at
accepted_takes p bytes y fits e =
    let a = bind_ok (this_at 0 bytes) _ y e in
    let b = bind_ok (this_at 0 a.0.1) _ y a.2 in
    let c = bind_ok (number_at w32 b.0.1) (λ n. accepted_of p n.0 n.1) y b.2 in
    let t = this_takes 0 bytes a.0 fits a.1 in
    let u = this_takes 0 a.0.1 b.0 t.rest_fits b.1 in
    let v = words.takes b.0.1 c.0.0 c.0.1 u.rest_fits c.1 in
    let two = Takes-then bytes (word 0) a.0.1 (word 0) b.0.1 t u in
    let three = Takes-then bytes (word 0 ++ word 0) b.0.1 (word c.0.0) c.0.1 two v.0 in
    accepted_is p bytes c.0.0 c.0.1 y three c.2

bad_is : (p : ProgramProcedure) (bytes : List ℕ) (s : ℕ) (r : List ℕ) (y : ReplyBody × List ℕ)
    → Takes bytes (word 1 ++ word s) r → bad_credential_of s r ≡ Ok y → IsBody p 1 bytes y
bad_is p bytes s r y t e =
    elim (chosen (s == 1) _ _ (Ok y) e) [
      | inl bad ↦ plain p 1 bytes r BadCredential y
          (record {
            of_state = refl;
            took = moved bytes r (λ n. word 1 ++ word n) s 1 (eqb-true s 1 bad.0) t;
            fits = tt;
            answers = tt;
          }) bad.1
      | inr not1 ↦
          let h = holds_ok (s == 2) Value (refusing RejectedCredential r) y not1.1 in
          plain p 1 bytes r RejectedCredential y
          (record {
            of_state = refl;
            took = moved bytes r (λ n. word 1 ++ word n) s 2 (eqb-true s 2 h.0) t;
            fits = tt;
            answers =
                tt;
          }) h.1
    ]

denied_is : (p : ProgramProcedure) (bytes : List ℕ) (s : ℕ) (r : List ℕ) (y : ReplyBody × List ℕ)
    → Takes bytes (word s) r → denied_of s r ≡ Ok y → IsBody p 1 bytes y
denied_is p bytes s r y t e =
    elim (chosen (s == 0) _ _ (Ok y) e) [
      | inl mismatch ↦
          let a = bind_ok (versions_at RPC_VERSION r) (λ v. refusing RpcMismatch v.1) y mismatch.1 in
          let u = versions_take RPC_VERSION r a.0 t.rest_fits a.1 in
          let both = Takes-then bytes (word 0) r (word RPC_VERSION ++ word RPC_VERSION) a.0.1
          (moved bytes r word s 0 (eqb-true s 0 mismatch.0) t) u in
          plain p 1 bytes a.0.1 RpcMismatch y (record {
            of_state = refl;
            took = both;
            fits = tt;
            answers = tt;
          }) a.2
      | inr not0 ↦
          let h = holds_ok (s == 1) Value (number_at w32 r >>= λ n. bad_credential_of n.0 n.1) y not0.1 in
          let a = bind_ok (number_at w32 r) (λ n. bad_credential_of n.0 n.1) y h.1 in
          let u = words.takes r a.0.0 a.0.1 t.rest_fits a.1 in
          let both = Takes-then bytes (word 1) r (word a.0.0) a.0.1
          (moved bytes r word s 1 (eqb-true s 1 h.0) t) u.0 in
          bad_is p bytes a.0.0 a.0.1 y both a.2
    ]

denied_takes : (p : ProgramProcedure) (bytes : List ℕ) (y : ReplyBody × List ℕ) → IsBytes bytes
    → denied_at bytes ≡ Ok y → IsBody p 1 bytes y
unfolding denied_at
denied_takes p bytes y fits e =
    let a = bind_ok (number_at w32 bytes) (λ n. denied_of n.0 n.1) y e in
    let t = words.takes bytes a.0.0 a.0.1 fits a.1 in
    denied_is p bytes a.0.0 a.0.1 y t.0 a.2

state_takes : (p : ProgramProcedure) (s : ℕ) (bytes : List ℕ) (y : ReplyBody × List ℕ) → IsBytes bytes
    → state_of p s bytes ≡ Ok y → IsBody p s bytes y
state_takes p s bytes y fits e =
    elim (chosen (s == 0) _ _ (Ok y) e) [
      | inl accepts ↦ subst (λ (n : ℕ). IsBody p n bytes y) (sym (eqb-true s 0 accepts.0))
          (accepted_takes p bytes y fits accepts.1)
      | inr denies ↦
          let h = holds_ok (s == 1) Value (denied_at bytes) y denies.1 in
          subst (λ (n : ℕ). IsBody p n bytes y) (sym (eqb-true s 1 h.0)) (denied_takes p bytes y fits h.1)
    ]

abbrev pub read_reply : ReplyMessage → Result ReplyMessage XdrFault
read_reply m = Ok m

reply_is : (x y : ReplyMessage) → read_reply x ≡ read_reply y → x ≡ y
reply_is x y e = cc

stated_is : (bytes : List ℕ) (n : ℕ) (r : List ℕ) (m : ℕ) (t : List ℕ) → bytes ≡ word n ++ r → n ≡ m → r ≡ t
    → bytes ≡ word m ++ t
stated_is bytes n r m t e p q = cc

pub reply_takes : (p : ProgramProcedure) (bytes : List ℕ) (m : ReplyMessage) → IsBytes bytes
    → reply_of p bytes ≡ Ok m → SpellsReply p bytes m
unfolding reply_of
reply_takes p bytes m fits e =
    let a = bind_ok (number_at w32 bytes) _ m e in
    let b = bind_ok (this_at REPLY a.0.1) _ m a.2 in
    let c = bind_ok (number_at w32 b.0.1) _ m b.2 in
    let d = bind_ok (state_of p c.0.0 c.0.1) _ m c.2 in
    let z = bind_ok (end_at d.0.1) _ m d.2 in
    let t = words.takes bytes a.0.0 a.0.1 fits a.1 in
    let u = this_takes REPLY a.0.1 b.0 t.0.rest_fits b.1 in
    let v = words.takes b.0.1 c.0.0 c.0.1 u.rest_fits c.1 in
    let w = state_takes p c.0.0 c.0.1 d.0 v.0.rest_fits d.1 in
    let ended : c.0.1 ≡ text d.0.0 = whole c.0.1 (text d.0.0) d.0.1 w.took (end_is d.0.1 z.0 z.1) in
    let stated : b.0.1 ≡ word (state d.0.0) ++ text d.0.0 =
    stated_is b.0.1 c.0.0 c.0.1 (state d.0.0) (text d.0.0) v.0.parts (sym w.of_state) ended in
    let all : bytes ≡ word a.0.0 ++ (word REPLY ++ (word (state d.0.0) ++ text d.0.0)) = t.0.parts
    ∙ ap (λ (x : List ℕ). word a.0.0 ++ x) (u.parts ∙ ap (λ (x : List ℕ). word REPLY ++ x) stated) in
    let made : ReplyMessage = record { xid = a.0.0; body = d.0.0 } in
    subst (λ (x : ReplyMessage). SpellsReply p bytes x) (reply_is made m z.2)
    (record {
      xid = t.1;
      body_fits = w.fits;
      answers = w.answers;
      spelled = all
          ∙ sym (parted a.0.0 d.0.0);
    })

-- ---- what is spelled is read so

status_again : (p : ProgramProcedure) (status : ℕ) → status < 2 ^ 32 → (tail : List ℕ)
    → accepted_at p (verified status ++ tail) ≡ accepted_of p status tail
unfolding accepted_at
status_again p status fits tail =
    let regrouped : verified status ++ tail ≡ word 0 ++ (word 0 ++ (word status ++ tail)) =
    simp append_assoc refl in
    ap (accepted_at p) regrouped
    ∙ rw (
      this_again 0 refl (omega arith) (word 0 ++ (word status ++ tail)),
      this_again 0 refl (omega arith) (word status ++ tail),
      words.again status tail fits,
    ) refl

denied_again : (reason : ℕ) → reason < 2 ^ 32 → (tail : List ℕ)
    → denied_at (word reason ++ tail) ≡ denied_of reason tail
unfolding denied_at
denied_again reason fits tail = rw (words.again reason tail fits) refl

state_again : (p : ProgramProcedure) (b : ReplyBody) → BodyFits b → RepliesTo p b
    → state_of p (state b) (text b) ≡ Ok (b, [])
state_again p (bodies.Done reply) fits answers =
    let decoded : reply_at p (result_bytes reply) ≡ Ok (reply, []) =
    subst (λ (q : ProgramProcedure). reply_at q (result_bytes reply) ≡ Ok (reply, [])) answers
    (ap (reply_at (replied_to reply)) (sym (append-nil (result_bytes reply)))
    ∙ (replies_are (replied_to reply)).again reply [] (refl, fits)) in
    status_again p 0 (omega arith) (result_bytes reply) ∙ rw decoded refl
state_again p (bodies.Refused RpcMismatch) fits answers =
    denied_again 0 (omega arith) (word RPC_VERSION ++ word RPC_VERSION)
    ∙ rw (versions_end RPC_VERSION refl (omega arith)) refl
state_again p (bodies.Refused BadCredential) fits answers =
    denied_again 1 (omega arith) (word 1) ∙ rw (word_end 1 (omega arith)) refl
state_again p (bodies.Refused RejectedCredential) fits answers =
    denied_again 1 (omega arith) (word 2) ∙ rw (word_end 2 (omega arith)) refl
state_again p (bodies.Refused ProgramUnavailable) fits answers =
    ap (accepted_at p) (sym (append-nil (verified 1))) ∙ status_again p 1 (omega arith) []
state_again p (bodies.Refused ProgramMismatch) fits answers =
    status_again p 2 (omega arith) (word NFS_VERSION ++ word NFS_VERSION)
    ∙ rw (versions_end NFS_VERSION refl (omega arith)) refl
state_again p (bodies.Refused ProcedureUnavailable) fits answers =
    ap (accepted_at p) (sym (append-nil (verified 3))) ∙ status_again p 3 (omega arith) []
state_again p (bodies.Refused GarbageArguments) fits answers =
    ap (accepted_at p) (sym (append-nil (verified 4))) ∙ status_again p 4 (omega arith) []
state_again p (bodies.Refused SystemError) fits answers = ap (accepted_at p) (sym (append-nil (verified 5)))
    ∙ status_again p 5 (omega arith) []

state_fits : (b : ReplyBody) → state b < 2 ^ 32
state_fits (bodies.Done reply) = omega arith
state_fits (bodies.Refused RpcMismatch) = omega arith
state_fits (bodies.Refused BadCredential) = omega arith
state_fits (bodies.Refused RejectedCredential) = omega arith
state_fits (bodies.Refused ProgramUnavailable) = omega arith
state_fits (bodies.Refused ProgramMismatch) = omega arith
state_fits (bodies.Refused ProcedureUnavailable) = omega arith
state_fits (bodies.Refused GarbageArguments) = omega arith
state_fits (bodies.Refused SystemError) = omega arith

pub reply_again : (p : ProgramProcedure) (bytes : List ℕ) (m : ReplyMessage) → SpellsReply p bytes m
    → reply_of p bytes ≡ Ok m
unfolding reply_of
reply_again p bytes m s =
    let b = m.body in
    ap (reply_of p) (s.spelled ∙ parted m.xid b)
    ∙ rw (
      words.again m.xid (word REPLY ++ (word (state b) ++ text b)) s.xid,
      this_again REPLY refl (omega arith) (word (state b) ++ text b),
      words.again (state b) (text b) (state_fits b),
      state_again p b s.body_fits s.answers,
    ) refl

pub same_reply : (p : ProgramProcedure) (bytes : List ℕ) (m n : ReplyMessage) → SpellsReply p bytes m
    → SpellsReply p bytes n → m ≡ n
same_reply p bytes m n s t = reply_is m n (sym (reply_again p bytes m s) ∙ reply_again p bytes n t)

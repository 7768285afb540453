-- A call message has one spelling, no two share one, and what is judged to be a call is one that is spelled.
use Rattle.std.proofs.Common.{◌≡◌, ℕ, ◌^◌, ◌<◌, replicate, Bool, true, false, cond, List, ◌++◌}
use Rattle.std.proofs.Common.{length, Option, Some, None, Result, Ok, Err, refl, sym, ap, subst, ◌∙◌}
use Rattle.std.proofs.Common.{append_assoc, arith}
use Rattle.std.specs.Prelude.{◌==◌}
use Rattle.std.proofs.lemmas.Bool.{eqb-true}
use Rattle.nfs_types.specs.declared.ctx.Credential.{Credential}
use Rattle.nfs_types.specs.declared.program.Program.{Program}
use Rattle.nfs_types.specs.declared.program.ProgramCall.{ProgramCall}
use Rattle.nfs_types.specs.declared.program.ProgramProcedure.{ProgramProcedure}
use Rattle.nfs_types.specs.Fits.{ProgramCallFits}
use Rattle.rpc.specs.declared.constants.TheConstants.{CALL, RPC_VERSION}
use Rattle.rpc.specs.declared.constants.TheConstants.{NFS_VERSION}
use Rattle.rpc.specs.declared.header.Opening.{Opening}
use Rattle.rpc.specs.declared.refusal.Refusal.{Refusal}
use Rattle.rpc.specs.declared.refusal.Refusal.TheVariants.{RpcMismatch}
use Rattle.rpc.specs.declared.refusal.Refusal.TheVariants.{ProgramMismatch}
use Rattle.session_wire.specs.declared.message.Judged.{Judged}
use Rattle.session_wire.specs.declared.message.Judged.TheVariants.{Closed, Refused, Call}
use Rattle.session_wire.specs.declared.message.MessageCredential.{MessageCredential}
use Rattle.session_wire.specs.declared.message.MessageCredential.TheVariants.{Nobody, Caller}
use Rattle.session_wire.specs.declared.message.MessageVerifier.{MessageVerifier}
use Rattle.session_wire.specs.declared.message.CallMessage.{CallMessage}
use Rattle.xdr.specs.declared.fault.XdrFault.{XdrFault}
use Rattle.xdr.specs.Items.{word, opaque, padding}
use Rattle.rpc.specs.Headers.{opening_at, Heading, header_at}
use Rattle.rpc.specs.Credentials.{System, caller_at, credential_of}
use Rattle.nfs_codec.specs.Procedures.{procedure_number, procedure_of, called}
use Rattle.session_wire.specs.Programs.{program_number, program_of, program_with}
use Rattle.session_wire.specs.Calls.{CredentialFits, caller_of, call_bytes, SpellsCall}
use Rattle.nfs_codec.specs.Arguments.{arguments, call_of}
use Rattle.session_wire.specs.Judging.{on_arguments, on_procedure, on_program, on_credential}
use Rattle.session_wire.specs.Judging.{on_header}
use Rattle.session_wire.specs.Judging.{on_opening, judged}
use Rattle.xdr.proofs.Coded.{IsBytes}
use Rattle.xdr.proofs.Coded.{leading_bytes, back_bytes}
use Rattle.nfs_codec.proofs.CallLaws.{taken_whole, read_again}
use Rattle.session_wire.proofs.Numbered.{program_again, program_takes, program_fits, procedure_again}
use Rattle.session_wire.proofs.Numbered.{procedure_takes, number_fits}
use Rattle.session_wire.proofs.CodedHeaders.{opening_bytes, OpeningFits, openings, heading_bytes, HeadingFits}
use Rattle.session_wire.proofs.CodedHeaders.{headings, system_is, caller_again, flavor_of, body_of}
use Rattle.session_wire.proofs.CodedHeaders.{credential_is, credential_again, body-length, credential_takes}

-- ---- a message, as its header is read

abbrev pub opening_of : CallMessage → Opening
opening_of m = record { xid = m.xid; kind = CALL; rpc_version = RPC_VERSION }

abbrev pub heading_of : CallMessage → Heading
heading_of m = record {
  program = program_number (program_with (called m.call));
  version = NFS_VERSION;
  procedure = procedure_number (called m.call);
  flavor = flavor_of m.credential;
  body = body_of m.credential;
  verifier_flavor = m.verifier.flavor;
  verifier = m.verifier.body;
}

flavor_fits : (c : MessageCredential) → flavor_of c < 2 ^ 32
flavor_fits Nobody = omega arith
flavor_fits (Caller stamp machine caller) = omega arith

opening_fits : (bytes : List ℕ) (m : CallMessage) → SpellsCall bytes m → OpeningFits (opening_of m)
opening_fits bytes m s = record { xid = s.xid; kind = omega arith; rpc_version = omega arith }

heading_fits : (bytes : List ℕ) (m : CallMessage) → SpellsCall bytes m → HeadingFits (heading_of m)
heading_fits bytes m s = record {
  program = program_fits (program_with (called m.call));
  version = omega arith;
  procedure = number_fits (called m.call);
  flavor = flavor_fits m.credential;
  body = body-length m.credential s.credential_fits;
  verifier_flavor = s.verifier_flavor;
  verifier = s.verifier_body;
}

pub parted : (m : CallMessage) → call_bytes m ≡ opening_bytes (opening_of m)
    ++ (heading_bytes (heading_of m) ++ arguments m.call)
parted m = rw (credential_is m.credential) (simp append_assoc refl)

pub opens : (bytes : List ℕ) (m : CallMessage) → SpellsCall bytes m
    → opening_at bytes ≡ Ok (opening_of m, heading_bytes (heading_of m) ++ arguments m.call)
opens bytes m s = ap opening_at (s.spelled ∙ parted m)
    ∙ openings.again (opening_of m) (heading_bytes (heading_of m) ++ arguments m.call)
    (opening_fits bytes m s)

pub heads : (bytes : List ℕ) (m : CallMessage) → SpellsCall bytes m
    → header_at (heading_bytes (heading_of m) ++ arguments m.call) ≡ Ok (heading_of m, arguments m.call)
heads bytes m s = headings.again (heading_of m) (arguments m.call) (heading_fits bytes m s)

-- ---- what is spelled is judged to be so

pub judged_again : (bytes : List ℕ) (m : CallMessage) → SpellsCall bytes m
    → judged bytes ≡ Call m.xid (caller_of m.credential) m.call
judged_again bytes m s =
    rw (
      opens bytes m s,
      heads bytes m s,
      credential_again m.credential s.credential_fits,
      program_again (program_with (called m.call)),
      procedure_again (called m.call),
      read_again (called m.call) (arguments m.call) m.call refl s.call_fits refl,
    ) refl

-- ---- what is judged to be a call is spelled so

-- the bytes of the body of a credential
pub body_bytes : (h : Heading) (rest : List ℕ) → IsBytes (heading_bytes h ++ rest) → IsBytes h.body
unfolding opaque
body_bytes h rest fits =
    let a = leading_bytes (heading_bytes h) rest fits in
    let b = leading_bytes (word h.program ++ word h.version ++ word h.procedure ++ word h.flavor
    ++ opaque h.body ++ word h.verifier_flavor) (opaque h.verifier) a in
    let c = leading_bytes (word h.program ++ word h.version ++ word h.procedure ++ word h.flavor
    ++ opaque h.body) (word h.verifier_flavor) b in
    let d = back_bytes (word h.program ++ word h.version ++ word h.procedure ++ word h.flavor) (opaque h.body)
    c in
    let e = leading_bytes (word (length h.body) ++ h.body) (replicate (padding (length h.body)) 0) d in
    back_bytes (word (length h.body)) h.body e

-- a choice that ends in the second only where that isn't so
first_chosen : (b : Bool) (x y z : Judged) → (y ≡ z → ⊥) → cond b x y ≡ z → (b ≡ true) × (x ≡ z)
first_chosen true x y z never e = (refl, e)
first_chosen false x y z never e = absurd (never e)

of_arguments : (xid : ℕ) (c : Credential) (r : Result ProgramCall XdrFault) (xid' : ℕ) (c' : Credential)
    (call : ProgramCall) → on_arguments xid c r ≡ Call xid' c' call → (r ≡ Ok call) × (xid ≡ xid') × (c ≡ c')
of_arguments xid c (Ok x) xid' c' call e = (cc, cc, cc)
of_arguments xid c (Err d) xid' c' call e = absurd cc

of_procedure : (xid : ℕ) (c : Credential) (args : List ℕ) (o : Option ProgramProcedure) (xid' : ℕ)
    (c' : Credential) (call : ProgramCall) → on_procedure xid c args o ≡ Call xid' c' call
    → (p : ProgramProcedure) × (o ≡ Some p) × (call_of p args ≡ Ok call) × (xid ≡ xid') × (c ≡ c')
of_procedure xid c args (Some p) xid' c' call e =
    let a = of_arguments xid c (call_of p args) xid' c' call e in
    (p, refl, a.0, a.1, a.2)
of_procedure xid c args None xid' c' call e = absurd cc

record IsRequest (h : Heading) (args : List ℕ) (xid : ℕ) (c : Credential) (xid' : ℕ) (c' : Credential)
    (call : ProgramCall) : Type 0 where
  p : ProgramProcedure
  program : h.program ≡ program_number (program_with p)
  version : h.version ≡ NFS_VERSION
  procedure : h.procedure ≡ procedure_number p
  decoded : call_of p args ≡ Ok call
  same : xid ≡ xid'
  caller : c ≡ c'

of_program : (xid : ℕ) (c : Credential) (h : Heading) (args : List ℕ) (o : Option Program) (xid' : ℕ)
    (c' : Credential) (call : ProgramCall) → program_of h.program ≡ o
    → on_program xid c h args o ≡ Call xid' c' call → IsRequest h args xid c xid' c' call
of_program xid c h args (Some program) xid' c' call is e =
    let b = first_chosen (h.version == NFS_VERSION) _ (Refused xid ProgramMismatch) (Call xid' c' call)
    (λ f. cc) e in
    let d = of_procedure xid c args (procedure_of program h.procedure) xid' c' call b.1 in
    let n = procedure_takes program h.procedure d.0 d.1 in
    record {
      p = d.0;
      program = program_takes h.program program is ∙ ap program_number n.program_is;
      version = eqb-true _ _ b.0;
      procedure = n.number_is;
      decoded = d.2;
      same = d.3;
      caller = d.4;
    }
of_program xid c h args None xid' c' call is e = absurd cc

of_credential : (xid : ℕ) (h : Heading) (args : List ℕ) (r : Result Credential Refusal) (xid' : ℕ)
    (c' : Credential) (call : ProgramCall) → on_credential xid h args r ≡ Call xid' c' call
    → (r ≡ Ok c') × IsRequest h args xid c' xid' c' call
of_credential xid h args (Ok c) xid' c' call e =
    let q = of_program xid c h args (program_of h.program) xid' c' call refl e in (
      ap (λ (x : Credential). Ok x) q.caller,
      record {
        p = q.p;
        program = q.program;
        version = q.version;
        procedure = q.procedure;
        decoded = q.decoded;
        same = q.same;
        caller = refl;
      },
    )
of_credential xid h args (Err d) xid' c' call e = absurd cc

of_header : (xid : ℕ) (r : Result (Heading × List ℕ) XdrFault) (xid' : ℕ) (c' : Credential)
    (call : ProgramCall) → on_header xid r ≡ Call xid' c' call → (h : Heading × List ℕ) × (r ≡ Ok h)
    × (credential_of h.0.flavor h.0.body ≡ Ok c') × IsRequest h.0 h.1 xid c' xid' c' call
of_header xid (Ok h) xid' c' call e =
    let q = of_credential xid h.0 h.1 (credential_of h.0.flavor h.0.body) xid' c' call e in
    (h, refl, q.0, q.1)
of_header xid (Err d) xid' c' call e = absurd cc

of_opening : (r : Result (Opening × List ℕ) XdrFault) (xid' : ℕ) (c' : Credential) (call : ProgramCall)
    → on_opening r ≡ Call xid' c' call → (o : Opening × List ℕ) × (r ≡ Ok o) × (o.0.kind ≡ CALL)
    × (o.0.rpc_version ≡ RPC_VERSION) × (on_header o.0.xid (header_at o.1) ≡ Call xid' c' call)
of_opening (Ok o) xid' c' call e =
    let a = first_chosen (o.0.kind == CALL) _ Closed (Call xid' c' call) (λ f. cc) e in
    let b = first_chosen (o.0.rpc_version == RPC_VERSION) _ (Refused o.0.xid RpcMismatch) (Call xid' c' call)
    (λ f. cc) a.1 in
    (o, refl, eqb-true _ _ a.0, eqb-true _ _ b.0, b.1)
of_opening (Err d) xid' c' call e = absurd cc

pub same_opening : (o : Opening) (k v : ℕ) → o.kind ≡ k → o.rpc_version ≡ v
    → opening_bytes o ≡ opening_bytes (record { xid = o.xid; kind = k; rpc_version = v })
same_opening o k v p q = cc

pub same_heading : (h : Heading) (p v n f : ℕ) (b : List ℕ) → h.program ≡ p → h.version ≡ v → h.procedure ≡ n
    → h.flavor ≡ f → h.body ≡ b
    → heading_bytes h
    ≡ heading_bytes (record {
      program = p;
      version = v;
      procedure = n;
      flavor = f;
      body = b;
      verifier_flavor = h.verifier_flavor;
      verifier = h.verifier;
    })
same_heading h p v n f b p-is v-is n-is f-is b-is = cc

pub joined_parts : (a b c d e : List ℕ) → a ≡ b → c ≡ d → a ++ (c ++ e) ≡ b ++ (d ++ e)
joined_parts a b c d e p q = cc

-- the message that was judged
pub record IsJudgedCall (bytes : List ℕ) (xid : ℕ) (c : Credential) (call : ProgramCall)
    (m : CallMessage) : Type 0 where
  pub spelled : SpellsCall bytes m
  pub xid_is : m.xid ≡ xid
  pub caller_is : caller_of m.credential ≡ c
  pub call_is : m.call ≡ call

pub judged_takes : (bytes : List ℕ) (xid : ℕ) (c : Credential) (call : ProgramCall) → IsBytes bytes
    → judged bytes ≡ Call xid c call → (m : CallMessage) × IsJudgedCall bytes xid c call m
judged_takes bytes xid c call fits e =
    let o = of_opening (opening_at bytes) xid c call e in
    let t = openings.takes bytes o.0.0 o.0.1 fits o.1 in
    let h = of_header o.0.0.xid (header_at o.0.1) xid c call o.4 in
    let u = headings.takes o.0.1 h.0.0 h.0.1 t.0.rest_fits h.1 in
    let q = h.3 in
    let v = taken_whole q.p h.0.1 call u.0.rest_fits q.decoded in
    let body_fits : IsBytes h.0.0.body = body_bytes h.0.0 h.0.1 (subst IsBytes u.0.parts t.0.rest_fits) in
    let w = credential_takes h.0.0.flavor h.0.0.body c body_fits h.2 in
    let m : CallMessage =
    record {
      xid = o.0.0.xid;
      credential = w.0;
      verifier = record { flavor = h.0.0.verifier_flavor; body = h.0.0.verifier };
      call = call;
    } in
    let program : h.0.0.program ≡ program_number (program_with (called call)) =
    q.program ∙ ap (λ p. program_number (program_with p)) (sym v.0) in
    let number : h.0.0.procedure ≡ procedure_number (called call) =
    q.procedure ∙ ap procedure_number (sym v.0) in
    let opening_same : opening_bytes o.0.0 ≡ opening_bytes (opening_of m) =
    same_opening o.0.0 CALL RPC_VERSION o.2 o.3 in
    let heading_same : heading_bytes h.0.0 ≡ heading_bytes (heading_of m) =
    same_heading h.0.0 (program_number (program_with (called call))) NFS_VERSION
    (procedure_number (called call)) (flavor_of w.0) (body_of w.0) program q.version number w.1.flavor_is
    w.1.body_is in
    let spelled : bytes ≡ call_bytes m = t.0.parts
    ∙ ap (λ (x : List ℕ). opening_bytes o.0.0 ++ x) (u.0.parts
    ∙ ap (λ (x : List ℕ). heading_bytes h.0.0 ++ x) v.2)
    ∙ joined_parts (opening_bytes o.0.0) (opening_bytes (opening_of m)) (heading_bytes h.0.0)
    (heading_bytes (heading_of m)) (arguments call) opening_same heading_same ∙ sym (parted m) in (
      m,
      record {
        spelled = record {
          xid = t.1.xid;
          credential_fits = w.1.fits;
          verifier_flavor = u.1.verifier_flavor;
          verifier_body = u.1.verifier;
          call_fits = v.1;
          spelled = spelled;
        };
        xid_is = q.same;
        caller_is = w.1.caller_is;
        call_is = refl;
      },
    )

-- ---- no two messages share a spelling

made_same : (m n : CallMessage) → m.xid ≡ n.xid → m.credential ≡ n.credential → m.verifier ≡ n.verifier
    → m.call ≡ n.call → m ≡ n
made_same m n a b c d =
    let made : ℕ → MessageCredential → MessageVerifier → ProgramCall
    → CallMessage = λ xid credential verifier call. record {
      xid = xid;
      credential = credential;
      verifier = verifier;
      call = call;
    } in
    let whole : made m.xid m.credential m.verifier m.call ≡ made n.xid n.credential n.verifier n.call =
    cc (a, b, c, d) in
    whole

abbrev some : ProgramProcedure → Option ProgramProcedure
some p = Some p

abbrev read_opening : Opening × List ℕ → Result (Opening × List ℕ) XdrFault
read_opening x = Ok x

abbrev read_heading : Heading × List ℕ → Result (Heading × List ℕ) XdrFault
read_heading x = Ok x

some_is : (p q : ProgramProcedure) → some p ≡ some q → p ≡ q
some_is p q e = cc

opened_is : (x y : Opening × List ℕ) → read_opening x ≡ read_opening y → x ≡ y
opened_is x y e = cc

headed_is : (x y : Heading × List ℕ) → read_heading x ≡ read_heading y → x ≡ y
headed_is x y e = cc

same_credential : (a b : MessageCredential) → CredentialFits a → CredentialFits b → flavor_of a ≡ flavor_of b
    → body_of a ≡ body_of b → a ≡ b
same_credential Nobody Nobody p q f g = refl
same_credential Nobody (Caller stamp machine caller) p q f g = absurd (omega (arith, f))
same_credential (Caller stamp machine caller) Nobody p q f g = absurd (omega (arith, f))
same_credential (Caller s m c) (Caller s' m' c') p q f g =
    let one : System = record { stamp = s; machine = m; caller = c } in
    let two : System = record { stamp = s'; machine = m'; caller = c' } in
    let same : one ≡ two =
    system_is one two (sym (caller_again one p) ∙ ap caller_at g ∙ caller_again two q) in
    ap (λ (x : System). Caller x.stamp x.machine x.caller) same

abbrev found : Program → Option Program
found p = Some p

found_is : (p q : Program) → found p ≡ found q → p ≡ q
found_is p q e = cc

abbrev answer : ProgramCall → Result ProgramCall XdrFault
answer c = Ok c

answer_is : (a b : ProgramCall) → answer a ≡ answer b → a ≡ b
answer_is a b e = cc

same_call : (a b : ProgramCall) → ProgramCallFits a → ProgramCallFits b
    → program_number (program_with (called a)) ≡ program_number (program_with (called b))
    → procedure_number (called a) ≡ procedure_number (called b) → arguments a ≡ arguments b → a ≡ b
same_call a b p q same_program f g =
    let programs : program_with (called a) ≡ program_with (called b) =
    found_is (program_with (called a)) (program_with (called b))
    (sym (program_again (program_with (called a))) ∙ ap program_of same_program
    ∙ program_again (program_with (called b))) in
    let numbered : procedure_of (program_with (called a)) (procedure_number (called a))
    ≡ procedure_of (program_with (called b)) (procedure_number (called b)) = cc (programs, f) in
    let procedures : called a ≡ called b =
    some_is (called a) (called b) (sym (procedure_again (called a)) ∙ numbered
    ∙ procedure_again (called b)) in
    answer_is a b (sym (read_again (called a) (arguments a) a refl p refl)
    ∙ (let both : call_of (called a) (arguments a)
    ≡ call_of (called b) (arguments b) = cc (procedures, g) in both)
    ∙ read_again (called b) (arguments b) b refl q refl)

pub same_message : (bytes : List ℕ) (m n : CallMessage) → SpellsCall bytes m → SpellsCall bytes n → m ≡ n
same_message bytes m n s t =
    let opened = opened_is (opening_of m, heading_bytes (heading_of m) ++ arguments m.call) (
      opening_of n,
      heading_bytes (heading_of n) ++ arguments n.call,
    ) (sym (opens bytes m s) ∙ opens bytes n t) in
    let xids : m.xid ≡ n.xid = ap (λ (x : Opening × List ℕ). x.0.xid) opened in
    let behind : heading_bytes (heading_of m) ++ arguments m.call ≡ heading_bytes (heading_of n)
    ++ arguments n.call = ap (λ (x : Opening × List ℕ). x.1) opened in
    let headed = headed_is (heading_of m, arguments m.call) (heading_of n, arguments n.call)
    (sym (heads bytes m s) ∙ ap header_at behind ∙ heads bytes n t) in
    let flavors : flavor_of m.credential ≡ flavor_of n.credential =
    ap (λ (x : Heading × List ℕ). x.0.flavor) headed in
    let bodies : body_of m.credential ≡ body_of n.credential =
    ap (λ (x : Heading × List ℕ). x.0.body) headed in
    let verifiers : m.verifier ≡ n.verifier =
    ap (λ (x : Heading × List ℕ). record { flavor = x.0.verifier_flavor; body = x.0.verifier }) headed in
    let programs : program_number (program_with (called m.call))
    ≡ program_number (program_with (called n.call)) =
    ap (λ (x : Heading × List ℕ). x.0.program) headed in
    let numbers : procedure_number (called m.call) ≡ procedure_number (called n.call) =
    ap (λ (x : Heading × List ℕ). x.0.procedure) headed in
    let args : arguments m.call ≡ arguments n.call = ap (λ (x : Heading × List ℕ). x.1) headed in
    let credentials =
    same_credential m.credential n.credential s.credential_fits t.credential_fits flavors bodies in
    let calls = same_call m.call n.call s.call_fits t.call_fits programs numbers args in
    made_same m n xids credentials verifiers calls

-- Headers and credentials that are read are those that were spelled, and the other way round.
use Rattle.std.proofs.Common.{◌≡◌, ℕ, ◌+◌, ◌*◌, ◌^◌, ◌<◌, ◌≤◌, ◌⊎◌, inl, inr, replicate, Bool, true, false}
use Rattle.std.proofs.Common.{cond, ltb, List, [], ◌∷◌, ◌++◌, length, Result, Ok, Err, refl, sym, ap, subst}
use Rattle.std.proofs.Common.{◌∙◌, append_assoc, arith, length-append}
use Rattle.std.specs.Prelude.{◌==◌, flat_map}
use Rattle.std.specs.Int.{w32}
use Rattle.std.specs.List.{AllByRecursion}
use Rattle.std.proofs.lemmas.Bool.{ltb-false, le-ltb, eqb-true}
use Rattle.std.proofs.lemmas.List.{append-nil, nil_from_length, length-replicate}
use Rattle.std.proofs.lemmas.List.Concat.{flat_map-cons}
use Rattle.base.specs.declared.TheConstants.{MOST_AUTH_BYTES, MACHINE_NAME_BYTES, MOST_GIDS}
use Rattle.nfs_types.specs.declared.ctx.Credential.{Credential}
use Rattle.rpc.specs.declared.constants.TheConstants.{AUTH_NONE, AUTH_SYS}
use Rattle.rpc.specs.declared.header.Opening.{Opening}
use Rattle.rpc.specs.declared.refusal.Refusal.{Refusal}
use Rattle.rpc.specs.declared.refusal.Refusal.TheVariants.{BadCredential, RejectedCredential}
use Rattle.session_wire.specs.declared.message.MessageCredential.{MessageCredential}
use Rattle.session_wire.specs.declared.message.MessageCredential.TheVariants.{Nobody, Caller}
use Rattle.xdr.specs.declared.fault.XdrFault.{XdrFault}
use Rattle.xdr.specs.declared.fault.XdrFault.TheVariants.{Length}
use Rattle.xdr.specs.Items.{word, opaque, padding}
use Rattle.xdr.specs.Reading.{number_at, opaque_at, end_at}
use Rattle.rpc.specs.Headers.{opening_at, Heading, header_at}
use Rattle.rpc.specs.Credentials.{numbers_at, gids_at, System, caller_at, caller_or_bad}
use Rattle.rpc.specs.Credentials.{credential_of, no_caller}
use Rattle.session_wire.specs.Calls.{caller_bytes, CallerFits, credential, CredentialFits, caller_of}
use Rattle.xdr.proofs.Coded.{IsBytes, bind_ok, guard_ok, ok_is, Takes, Takes-then, Coded, words}
use Rattle.xdr.proofs.Coded.{strings}
use Rattle.xdr.proofs.Lawful.{end_is}
use Rattle.rpc.proofs.Lengths.{word-length}
use Rattle.rpc.proofs.Numbers.{numbers_take, numbers_again}

-- a text with nothing behind it
pub whole : (bytes text rest : List ℕ) → Takes bytes text rest → rest ≡ [] → bytes ≡ text
whole bytes text rest t e = t.parts ∙ ap (λ (r : List ℕ). text ++ r) e ∙ append-nil text

-- ---- the two parts of a header

abbrev pub opening_bytes : Opening → List ℕ
opening_bytes o = word o.xid ++ word o.kind ++ word o.rpc_version

pub record OpeningFits (o : Opening) : Type 0 where
  pub xid : o.xid < 2 ^ 32
  pub kind : o.kind < 2 ^ 32
  pub rpc_version : o.rpc_version < 2 ^ 32

abbrev pub heading_bytes : Heading → List ℕ
heading_bytes h = word h.program ++ word h.version ++ word h.procedure ++ word h.flavor ++ opaque h.body
    ++ word h.verifier_flavor ++ opaque h.verifier

pub record HeadingFits (h : Heading) : Type 0 where
  pub program : h.program < 2 ^ 32
  pub version : h.version < 2 ^ 32
  pub procedure : h.procedure < 2 ^ 32
  pub flavor : h.flavor < 2 ^ 32
  pub body : length h.body ≤ MOST_AUTH_BYTES
  pub verifier_flavor : h.verifier_flavor < 2 ^ 32
  pub verifier : length h.verifier ≤ MOST_AUTH_BYTES

auths : Coded opaque (λ text. length text ≤ MOST_AUTH_BYTES) (opaque_at MOST_AUTH_BYTES)
auths = strings MOST_AUTH_BYTES (omega arith)

machines : Coded opaque (λ text. length text ≤ MACHINE_NAME_BYTES) (opaque_at MACHINE_NAME_BYTES)
machines = strings MACHINE_NAME_BYTES (omega arith)

opening_takes : (bytes : List ℕ) (x : Opening) (rest : List ℕ) → IsBytes bytes
    → opening_at bytes ≡ Ok (x, rest) → Takes bytes (opening_bytes x) rest × OpeningFits x
unfolding opening_at
opening_takes bytes x rest fits e =
    let a1 = bind_ok (number_at w32 bytes) _ (x, rest) e in
    let t1 = words.takes bytes a1.0.0 a1.0.1 fits a1.1 in
    let a2 = bind_ok (number_at w32 a1.0.1) _ (x, rest) a1.2 in
    let t2 = words.takes a1.0.1 a2.0.0 a2.0.1 t1.0.rest_fits a2.1 in
    let a3 = bind_ok (number_at w32 a2.0.1) _ (x, rest) a2.2 in
    let t3 = words.takes a2.0.1 a3.0.0 a3.0.1 t2.0.rest_fits a3.1 in
    let u2 = Takes-then bytes (word a1.0.0) a1.0.1 (word a2.0.0) a2.0.1 t1.0 t2.0 in
    let u3 = Takes-then bytes (word a1.0.0 ++ word a2.0.0) a2.0.1 (word a3.0.0) a3.0.1 u2 t3.0 in
    let made : Opening × List ℕ = (record { xid = a1.0.0; kind = a2.0.0; rpc_version = a3.0.0 }, a3.0.1) in
    subst (λ (y : Opening × List ℕ). Takes bytes (opening_bytes y.0) y.1
    × OpeningFits y.0) (ok_is made (x, rest) a3.2) (
      u3,
      record {
        xid = t1.1;
        kind = t2.1;
        rpc_version = t3.1;
      },
    )

opening_again : (x : Opening) (rest : List ℕ) → OpeningFits x
    → opening_at (opening_bytes x ++ rest) ≡ Ok (x, rest)
unfolding opening_at
opening_again x rest fits =
    let regrouped : opening_bytes x ++ rest ≡ (word x.xid ++ (word x.kind ++ (word x.rpc_version ++ rest))) =
    simp append_assoc refl in
    ap opening_at regrouped
    ∙ rw (
      words.again x.xid (word x.kind ++ (word x.rpc_version ++ rest)) fits.xid,
      words.again x.kind (word x.rpc_version ++ rest) fits.kind,
      words.again x.rpc_version rest fits.rpc_version,
    ) refl

pub openings : Coded opening_bytes OpeningFits opening_at
openings = record { takes = opening_takes; again = opening_again }

heading_takes : (bytes : List ℕ) (x : Heading) (rest : List ℕ) → IsBytes bytes
    → header_at bytes ≡ Ok (x, rest) → Takes bytes (heading_bytes x) rest × HeadingFits x
unfolding header_at
heading_takes bytes x rest fits e =
    let a1 = bind_ok (number_at w32 bytes) _ (x, rest) e in
    let t1 = words.takes bytes a1.0.0 a1.0.1 fits a1.1 in
    let a2 = bind_ok (number_at w32 a1.0.1) _ (x, rest) a1.2 in
    let t2 = words.takes a1.0.1 a2.0.0 a2.0.1 t1.0.rest_fits a2.1 in
    let a3 = bind_ok (number_at w32 a2.0.1) _ (x, rest) a2.2 in
    let t3 = words.takes a2.0.1 a3.0.0 a3.0.1 t2.0.rest_fits a3.1 in
    let a4 = bind_ok (number_at w32 a3.0.1) _ (x, rest) a3.2 in
    let t4 = words.takes a3.0.1 a4.0.0 a4.0.1 t3.0.rest_fits a4.1 in
    let a5 = bind_ok (opaque_at MOST_AUTH_BYTES a4.0.1) _ (x, rest) a4.2 in
    let t5 = auths.takes a4.0.1 a5.0.0 a5.0.1 t4.0.rest_fits a5.1 in
    let a6 = bind_ok (number_at w32 a5.0.1) _ (x, rest) a5.2 in
    let t6 = words.takes a5.0.1 a6.0.0 a6.0.1 t5.0.rest_fits a6.1 in
    let a7 = bind_ok (opaque_at MOST_AUTH_BYTES a6.0.1) _ (x, rest) a6.2 in
    let t7 = auths.takes a6.0.1 a7.0.0 a7.0.1 t6.0.rest_fits a7.1 in
    let u2 = Takes-then bytes (word a1.0.0) a1.0.1 (word a2.0.0) a2.0.1 t1.0 t2.0 in
    let u3 = Takes-then bytes (word a1.0.0 ++ word a2.0.0) a2.0.1 (word a3.0.0) a3.0.1 u2 t3.0 in
    let u4 = Takes-then bytes (word a1.0.0 ++ word a2.0.0 ++ word a3.0.0) a3.0.1 (word a4.0.0) a4.0.1 u3
    t4.0 in
    let u5 = Takes-then bytes (word a1.0.0 ++ word a2.0.0 ++ word a3.0.0 ++ word a4.0.0) a4.0.1
    (opaque a5.0.0) a5.0.1 u4 t5.0 in
    let u6 = Takes-then bytes (word a1.0.0 ++ word a2.0.0 ++ word a3.0.0 ++ word a4.0.0 ++ opaque a5.0.0)
    a5.0.1 (word a6.0.0) a6.0.1 u5 t6.0 in
    let u7 = Takes-then bytes (word a1.0.0 ++ word a2.0.0 ++ word a3.0.0 ++ word a4.0.0 ++ opaque a5.0.0
    ++ word a6.0.0) a6.0.1 (opaque a7.0.0) a7.0.1 u6 t7.0 in
    let made : Heading × List ℕ = (
      record {
        program = a1.0.0;
        version = a2.0.0;
        procedure = a3.0.0;
        flavor = a4.0.0;
        body = a5.0.0;
        verifier_flavor = a6.0.0;
        verifier = a7.0.0;
      },
      a7.0.1,
    ) in
    subst (λ (y : Heading × List ℕ). Takes bytes (heading_bytes y.0) y.1
    × HeadingFits y.0) (ok_is made (x, rest) a7.2) (
      u7,
      record {
        program = t1.1;
        version = t2.1;
        procedure = t3.1;
        flavor = t4.1;
        body = t5.1;
        verifier_flavor = t6.1;
        verifier = t7.1;
      },
    )

heading_again : (x : Heading) (rest : List ℕ) → HeadingFits x
    → header_at (heading_bytes x ++ rest) ≡ Ok (x, rest)
unfolding header_at
heading_again x rest fits =
    let regrouped : heading_bytes x
    ++ rest ≡ (word x.program
    ++ (word x.version
    ++ (word x.procedure
    ++ (word x.flavor ++ (opaque x.body ++ (word x.verifier_flavor ++ (opaque x.verifier ++ rest))))))) =
    simp append_assoc refl in
    ap header_at regrouped
    ∙ rw (
      words.again x.program (word x.version
          ++ (word x.procedure
          ++ (word x.flavor ++ (opaque x.body ++ (word x.verifier_flavor ++ (opaque x.verifier ++ rest))))))
          fits.program,
      words.again x.version (word x.procedure
          ++ (word x.flavor ++ (opaque x.body ++ (word x.verifier_flavor ++ (opaque x.verifier ++ rest)))))
          fits.version,
      words.again x.procedure (word x.flavor
          ++ (opaque x.body ++ (word x.verifier_flavor ++ (opaque x.verifier ++ rest)))) fits.procedure,
      words.again x.flavor (opaque x.body ++ (word x.verifier_flavor ++ (opaque x.verifier ++ rest)))
          fits.flavor,
      auths.again x.body (word x.verifier_flavor ++ (opaque x.verifier ++ rest)) fits.body,
      words.again x.verifier_flavor (opaque x.verifier ++ rest) fits.verifier_flavor,
      auths.again x.verifier rest fits.verifier,
    ) refl

pub headings : Coded heading_bytes HeadingFits header_at
headings = record { takes = heading_takes; again = heading_again }

-- ---- the body of a credential

abbrev gids : List ℕ → List ℕ
gids ns = word (length ns) ++ flat_map word ns

record GidsFit (ns : List ℕ) : Type 0 where
  few : length ns ≤ MOST_GIDS
  each : AllByRecursion (λ n. n < 2 ^ 32) ns

gids_take : (bytes : List ℕ) (ns : List ℕ) (rest : List ℕ) → IsBytes bytes → gids_at bytes ≡ Ok (ns, rest)
    → Takes bytes (gids ns) rest × GidsFit ns
unfolding gids_at
gids_take bytes ns rest fits e =
    let a = bind_ok (number_at w32 bytes) _ (ns, rest) e in
    let t = words.takes bytes a.0.0 a.0.1 fits a.1 in
    let few = guard_ok (ltb MOST_GIDS a.0.0) Length (numbers_at a.0.0 a.0.1) (ns, rest) a.2 in
    let small : a.0.0 ≤ MOST_GIDS = ltb-false _ _ few.0 in
    let u = numbers_take a.0.0 a.0.1 (ns, rest) t.0.rest_fits few.1 in
    let both = Takes-then bytes (word a.0.0) a.0.1 (flat_map word ns) rest t.0 u.0 in (
      subst (λ (n : ℕ). Takes bytes (word n ++ flat_map word ns) rest) (sym u.1) both,
      record { few = omega (arith, u.1, small); each = u.2 },
    )

gids_again : (ns : List ℕ) (rest : List ℕ) → GidsFit ns → gids_at (gids ns ++ rest) ≡ Ok (ns, rest)
unfolding gids_at
gids_again ns rest fits =
    let few : ltb MOST_GIDS (length ns) ≡ false = le-ltb _ _ fits.few in
    ap gids_at (append_assoc (word (length ns)) (flat_map word ns) rest)
    ∙ rw (
      words.again (length ns) (flat_map word ns ++ rest) (omega (arith, fits.few)),
      few,
      numbers_again ns rest fits.each,
    ) refl

counted : Coded gids GidsFit gids_at
counted = record { takes = gids_take; again = gids_again }

abbrev system_bytes : System → List ℕ
system_bytes s = caller_bytes s.stamp s.machine s.caller

abbrev pub read_system : System → Result System XdrFault
read_system s = Ok s

pub system_is : (x y : System) → read_system x ≡ read_system y → x ≡ y
system_is x y e = cc

pub caller_takes : (bytes : List ℕ) (s : System) → IsBytes bytes → caller_at bytes ≡ Ok s
    → (bytes ≡ system_bytes s) × CallerFits s.stamp s.machine s.caller
unfolding caller_at
caller_takes bytes s fits e =
    let a1 = bind_ok (number_at w32 bytes) _ s e in
    let a2 = bind_ok (opaque_at MACHINE_NAME_BYTES a1.0.1) _ s a1.2 in
    let a3 = bind_ok (number_at w32 a2.0.1) _ s a2.2 in
    let a4 = bind_ok (number_at w32 a3.0.1) _ s a3.2 in
    let a5 = bind_ok (gids_at a4.0.1) _ s a4.2 in
    let a6 = bind_ok (end_at a5.0.1) _ s a5.2 in
    let t1 = words.takes bytes a1.0.0 a1.0.1 fits a1.1 in
    let t2 = machines.takes a1.0.1 a2.0.0 a2.0.1 t1.0.rest_fits a2.1 in
    let t3 = words.takes a2.0.1 a3.0.0 a3.0.1 t2.0.rest_fits a3.1 in
    let t4 = words.takes a3.0.1 a4.0.0 a4.0.1 t3.0.rest_fits a4.1 in
    let t5 = counted.takes a4.0.1 a5.0.0 a5.0.1 t4.0.rest_fits a5.1 in
    let u2 = Takes-then bytes (word a1.0.0) a1.0.1 (opaque a2.0.0) a2.0.1 t1.0 t2.0 in
    let u3 = Takes-then bytes (word a1.0.0 ++ opaque a2.0.0) a2.0.1 (word a3.0.0) a3.0.1 u2 t3.0 in
    let u4 = Takes-then bytes (word a1.0.0 ++ opaque a2.0.0 ++ word a3.0.0) a3.0.1 (word a4.0.0) a4.0.1 u3
    t4.0 in
    let u5 = Takes-then bytes (word a1.0.0 ++ opaque a2.0.0 ++ word a3.0.0 ++ word a4.0.0) a4.0.1
    (gids a5.0.0) a5.0.1 u4 t5.0 in
    let all = whole bytes (word a1.0.0 ++ opaque a2.0.0 ++ word a3.0.0 ++ word a4.0.0 ++ gids a5.0.0) a5.0.1
    u5 (end_is a5.0.1 a6.0 a6.1) in
    let made : System =
    record {
      stamp = a1.0.0;
      machine = a2.0.0;
      caller = record { uid = a3.0.0; gid = a4.0.0; gids = a5.0.0 };
    } in
    let flat : bytes ≡ system_bytes made = all
    ∙ sym (append_assoc (word a1.0.0 ++ opaque a2.0.0 ++ word a3.0.0 ++ word a4.0.0)
    (word (length a5.0.0)) (flat_map word a5.0.0)) in
    subst (λ (y : System). (bytes ≡ system_bytes y) × CallerFits y.stamp y.machine y.caller)
    (system_is made s a6.2) (
      flat,
      record {
        stamp_fits = t1.1;
        machine_fits = t2.1;
        uid = t3.1;
        gid = t4.1;
        few = t5.1.few;
        gids = t5.1.each;
      },
    )

pub caller_again : (s : System) → CallerFits s.stamp s.machine s.caller → caller_at (system_bytes s) ≡ Ok s
unfolding caller_at
caller_again s fits =
    let g = s.caller.gids in
    let regrouped : system_bytes s ≡ word s.stamp
    ++ (opaque s.machine ++ (word s.caller.uid ++ (word s.caller.gid ++ (gids g ++ [])))) =
    simp (append_assoc, append-nil) refl in
    ap caller_at regrouped
    ∙ rw (
      words.again s.stamp (opaque s.machine
          ++ (word s.caller.uid ++ (word s.caller.gid ++ (gids g ++ [])))) fits.stamp_fits,
      machines.again s.machine (word s.caller.uid ++ (word s.caller.gid ++ (gids g ++ []))) fits.machine_fits,
      words.again s.caller.uid (word s.caller.gid ++ (gids g ++ [])) fits.uid,
      words.again s.caller.gid (gids g ++ []) fits.gid,
      counted.again g [] (record { few = fits.few; each = fits.gids }),
    ) refl

-- ---- credentials

abbrev pub flavor_of : MessageCredential → ℕ
flavor_of Nobody = AUTH_NONE
flavor_of (Caller stamp machine caller) = AUTH_SYS

abbrev pub body_of : MessageCredential → List ℕ
body_of Nobody = []
body_of (Caller stamp machine caller) = caller_bytes stamp machine caller

pub credential_is : (m : MessageCredential) → credential m ≡ word (flavor_of m) ++ opaque (body_of m)
credential_is Nobody = refl
credential_is (Caller stamp machine caller) = refl

pub credential_again : (m : MessageCredential) → CredentialFits m
    → credential_of (flavor_of m) (body_of m) ≡ Ok (caller_of m)
credential_again Nobody fits = refl
credential_again (Caller stamp machine caller) fits =
    let s : System = record { stamp = stamp; machine = machine; caller = caller } in
    rw (caller_again s fits) refl

numbers-length : (ns : List ℕ) → length (flat_map word ns) ≡ 4 * length ns
numbers-length [] = refl
numbers-length (n ∷ ns) =
    rw flat_map-cons
    (omega (arith, length-append (word n) (flat_map word ns), word-length n, numbers-length ns))

opaque-length : (text : List ℕ) → length (opaque text) ≤ length text + 7
unfolding opaque
opaque-length text =
    omega (
      arith,
      length-append (word (length text) ++ text) (replicate (padding (length text)) 0),
      length-append (word (length text)) text,
      word-length (length text),
      length-replicate {A = ℕ} (padding (length text)) 0,
    )

pub body-length : (m : MessageCredential) → CredentialFits m → length (body_of m) ≤ MOST_AUTH_BYTES
body-length Nobody fits = omega arith
body-length (Caller stamp machine caller) fits =
    simp (length-append, word-length)
    (omega (arith, fits.machine_fits, fits.few, opaque-length machine, numbers-length caller.gids))

pub record IsCredential (flavor : ℕ) (body : List ℕ) (c : Credential) (m : MessageCredential) : Type 0 where
  pub flavor_is : flavor ≡ flavor_of m
  pub body_is : body ≡ body_of m
  pub fits : CredentialFits m
  pub caller_is : caller_of m ≡ c

abbrev found : Credential → Result Credential Refusal
found c = Ok c

found_is : (x y : Credential) → found x ≡ found y → x ≡ y
found_is x y e = cc

chosen : (b : Bool) (x y z : Result Credential Refusal) → cond b x y ≡ z → ((b ≡ true) × (x ≡ z))
    ⊎ ((b ≡ false) × (y ≡ z))
chosen true x y z e = inl (refl, e)
chosen false x y z e = inr (refl, e)

of_system : (body : List ℕ) (r : Result System XdrFault) (c : Credential) → caller_at body ≡ r → IsBytes body
    → caller_or_bad r ≡ Ok c → (m : MessageCredential) × IsCredential AUTH_SYS body c m
of_system body (Ok s) c is fits e =
    let t = caller_takes body s fits is in (
      Caller s.stamp s.machine s.caller,
      record {
        flavor_is = refl;
        body_is = t.0;
        fits = t.1;
        caller_is = found_is s.caller c e;
      },
    )
of_system body (Err d) c is fits e = absurd cc

pub credential_takes : (flavor : ℕ) (body : List ℕ) (c : Credential) → IsBytes body
    → credential_of flavor body ≡ Ok c → (m : MessageCredential) × IsCredential flavor body c m
credential_takes flavor body c fits e =
    elim (chosen (flavor == 0) (cond (length body == 0) (Ok no_caller) (Err BadCredential))
    (cond (flavor == 1) (caller_or_bad (caller_at body)) (Err RejectedCredential)) (Ok c) e) [
      | inl none ↦
          elim (chosen (length body == 0) (Ok no_caller) (Err BadCredential) (Ok c) none.1) [
            | inl empty ↦ (
              Nobody,
              record {
                flavor_is = eqb-true flavor 0 none.0;
                body_is = nil_from_length body (eqb-true _ _ empty.0);
                fits = tt;
                caller_is =
                    found_is no_caller c empty.1;
              },
            )
            | inr bad ↦ absurd (let f : Err BadCredential ≡ Ok c = bad.1 in cc)
          ]
      | inr some ↦
          elim (chosen (flavor == 1) (caller_or_bad (caller_at body)) (Err RejectedCredential) (Ok c) some.1) [
            | inl system ↦
                let found = of_system body (caller_at body) c refl fits system.1 in
                let one : flavor ≡ 1 = eqb-true flavor 1 system.0 in (
                  found.0,
                  record {
                    flavor_is = one ∙ found.1.flavor_is;
                    body_is = found.1.body_is;
                    fits = found.1.fits;
                    caller_is = found.1.caller_is;
                  },
                )
            | inr bad ↦ absurd (let f : Err RejectedCredential ≡ Ok c = bad.1 in cc)
          ]
    ]

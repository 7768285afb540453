-- Each stream of bytes has a cut, and its rest is empty, has begun, or announces too much.
use Rattle.std.proofs.Common.{◌≡◌, ℕ, zero, suc, ◌+◌, ◌%◌, ◌^◌, ◌<◌, ◌≤◌, Bool, true, false, List, []}
use Rattle.std.proofs.Common.{◌∷◌, ◌++◌, length, take, drop, Ok, refl, sym, ap, subst, ◌∙◌, arith}
use Rattle.std.proofs.Common.{append_assoc, inl, inr, length-append}
use Rattle.std.specs.Prelude.{◌⊎◌}
use Rattle.std.specs.Prelude.{flat_map}
use Rattle.std.specs.Int.{w32, from_be_bytes}
use Rattle.std.specs.List.{AllByRecursion}
use Rattle.std.proofs.lemmas.Bool.{cases_lt, le-ltb}
use Rattle.std.proofs.lemmas.List.{take-append-drop, length-take, get_or-drop}
use Rattle.base.specs.declared.TheConstants.{RECORD_BYTES}
use Rattle.nfs_types.specs.Fits.{AreBytes}
use Rattle.xdr.specs.Reading.{number_at}
use Rattle.xdr.proofs.Coded.{words}
use Rattle.rpc.specs.Records.{mark, fragment, joined, IsRecord, records, HasBegun, IsPart, IsRest, CutsOff}
use Rattle.rpc.specs.Records.IsPart.{BeforeMark, InFragment}
use Rattle.rpc.proofs.Marks.{marks}
use Rattle.rpc.proofs.RecordLaws.{cons_parts, cons_length, fragment-length, one_cut, rest_is_rest}

-- what stands at the front of a stream, behind fragments of so many bytes
data StreamBeginning (k : ℕ) (bytes : List ℕ) : Type 0 where
  Whole : (parts : List (List ℕ)) (last more : List ℕ) → k + length (joined parts) + length last ≤ RECORD_BYTES
      → AreBytes more → bytes ≡ flat_map (fragment false) parts ++ (fragment true last ++ more) → StreamBeginning k bytes
  Before : (parts : List (List ℕ)) (some : List ℕ) → k + length (joined parts) ≤ RECORD_BYTES → length some < 4
      → bytes ≡ flat_map (fragment false) parts ++ some → StreamBeginning k bytes
  Within : (parts : List (List ℕ)) (last : Bool) (announced : ℕ) (some : List ℕ)
      → k + length (joined parts) + announced ≤ RECORD_BYTES → length some < announced
      → bytes ≡ flat_map (fragment false) parts ++ (mark last announced ++ some) → StreamBeginning k bytes
  Long : (parts : List (List ℕ)) (last : Bool) (announced : ℕ) (more : List ℕ)
      → AllByRecursion (λ part. length part < 2 ^ 31) parts → announced < 2 ^ 31
      → RECORD_BYTES < k + length (joined parts) + announced
      → bytes ≡ flat_map (fragment false) parts ++ (mark last announced ++ more) → StreamBeginning k bytes

-- one more fragment before it
behind : (p : List ℕ) (ps : List (List ℕ)) (bytes more t : List ℕ) → bytes ≡ fragment false p ++ more
    → more ≡ flat_map (fragment false) ps ++ t → bytes ≡ flat_map (fragment false) (p ∷ ps) ++ t
behind p ps bytes more t e f = e ∙ ap (λ (x : List ℕ). fragment false p ++ x) f ∙ sym (cons_parts p ps t)

one_more : (k : ℕ) (p bytes more : List ℕ) → length p < 2 ^ 31 → bytes ≡ fragment false p ++ more
    → StreamBeginning (k + length p) more → StreamBeginning k bytes
one_more k p bytes more small e (Whole ps last others fits are cut) =
    Whole (p ∷ ps) last others (omega (arith, fits, cons_length p ps)) are
    (behind p ps bytes more (fragment true last ++ others) e cut)
one_more k p bytes more small e (Before ps some fits few cut) =
    Before (p ∷ ps) some (omega (arith, fits, cons_length p ps)) few (behind p ps bytes more some e cut)
one_more k p bytes more small e (Within ps l n some fits few cut) =
    Within (p ∷ ps) l n some (omega (arith, fits, cons_length p ps)) few
    (behind p ps bytes more (mark l n ++ some) e cut)
one_more k p bytes more small e (Long ps l n others each fits long cut) =
    Long (p ∷ ps) l n others (small, each) fits (omega (arith, long, cons_length p ps))
    (behind p ps bytes more (mark l n ++ others) e cut)

-- four bytes are a mark
record Marked (bytes : List ℕ) : Type 0 where
  last : Bool
  announced : ℕ
  fits : announced < 2 ^ 31
  cut : bytes ≡ mark last announced ++ drop 4 bytes
  behind_are : AreBytes (drop 4 bytes)

marked : (bytes : List ℕ) → AreBytes bytes → 4 ≤ length bytes → Marked bytes
marked bytes are long =
    let n : ℕ = from_be_bytes w32 (take 4 bytes) in
    let read : number_at w32 bytes ≡ Ok (n, drop 4 bytes) = rw (le-ltb (length bytes) 4 long) refl in
    let taken = words.takes bytes n (drop 4 bytes) are read in
    let m = marks n (n % 2 ^ 31) taken.1 refl in
    record {
      last = m.0;
      announced = n % 2 ^ 31;
      fits = m.1;
      cut = taken.0.parts ∙ ap (λ (x : List ℕ). x ++ drop 4 bytes) m.2;
      behind_are = taken.0.rest_fits;
    }

are_behind : (n : ℕ) (bytes : List ℕ) → AreBytes bytes → AreBytes (drop n bytes)
are_behind n bytes are i = rw get_or-drop (are (n + i))

fragment_there : (bytes : List ℕ) (m : Marked bytes) → m.announced ≤ length (drop 4 bytes)
    → bytes ≡ fragment m.last (take m.announced (drop 4 bytes)) ++ drop m.announced (drop 4 bytes)
fragment_there bytes m there =
    let rest = drop 4 bytes in
    let part = take m.announced rest in
    let len : length part ≡ m.announced = omega (arith, there, length-take m.announced rest) in
    m.cut ∙ ap (λ (x : List ℕ). mark m.last m.announced ++ x) (sym (take-append-drop m.announced rest))
    ∙ sym (append_assoc (mark m.last m.announced) part (drop m.announced rest))
    ∙ ap (λ (n : ℕ). (mark m.last n ++ part) ++ drop m.announced rest) (sym len)

last_or_more : (k : ℕ) (bytes : List ℕ) (last : Bool) (p more : List ℕ) → k + length p ≤ RECORD_BYTES
    → AreBytes more
    → bytes ≡ fragment last p ++ more → ((le : k + length p ≤ RECORD_BYTES) → StreamBeginning (k + length p) more)
    → StreamBeginning k bytes
last_or_more k bytes true p more le are e go = Whole [] p more (omega (arith, le)) are e
last_or_more k bytes false p more le are e go = one_more k p bytes more (omega (arith, le)) e (go le)

at_mark : (k : ℕ) (bytes : List ℕ) → k ≤ RECORD_BYTES → AreBytes bytes
    → ((n : ℕ) (more : List ℕ) → length more < length bytes → n ≤ RECORD_BYTES → AreBytes more → StreamBeginning n more)
    → Marked bytes → StreamBeginning k bytes
at_mark k bytes le are go m =
    let rest = drop 4 bytes in
    let p = take m.announced rest in
    let more = drop m.announced rest in
    elim (cases_lt RECORD_BYTES (k + m.announced)) [
      | inl long ↦ Long [] m.last m.announced rest tt m.fits (omega (arith, long)) m.cut
      | inr fits ↦ elim (cases_lt (length rest) m.announced) [
        | inl few ↦ Within [] m.last m.announced rest (omega (arith, fits)) few m.cut
        | inr there ↦
            let len : length p ≡ m.announced = omega (arith, there, length-take m.announced rest) in
            let cut = fragment_there bytes m there in
            let less : length more < length bytes = omega (
              arith,
              ap length cut,
              length-append (fragment m.last p) more,
              fragment-length m.last p,
            ) in
            let behind_are = are_behind m.announced rest m.behind_are in
            last_or_more k bytes m.last p more (omega (arith, fits, len)) behind_are cut
            (λ fit. go (k + length p) more less fit behind_are)
      ]
    ]

-- what stands there, where what stands behind the first fragment is known
step : (k : ℕ) (bytes : List ℕ) → k ≤ RECORD_BYTES → AreBytes bytes
    → ((n : ℕ) (more : List ℕ) → length more < length bytes → n ≤ RECORD_BYTES → AreBytes more → StreamBeginning n more)
    → StreamBeginning k bytes
step k bytes le are go =
    elim (cases_lt (length bytes) 4) [
      | inl few ↦ Before [] bytes (omega (arith, le)) few refl
      | inr whole ↦ at_mark k bytes le are go (marked bytes are whole)
    ]

leading : (fuel k : ℕ) (bytes : List ℕ) → length bytes ≤ fuel → k ≤ RECORD_BYTES → AreBytes bytes → StreamBeginning k bytes
leading zero k bytes short le are = step k bytes le are
    (λ n more less fits bytes_are. absurd (omega (arith, short, less)))
leading (suc fuel) k bytes short le are =
    step k bytes le are (λ n more less fits bytes_are. leading fuel n more (omega (arith, short, less))
    fits bytes_are)

-- ---- the cut

record_of : (bytes more last : List ℕ) (parts : List (List ℕ))
    → length (joined parts) + length last ≤ RECORD_BYTES
    → bytes ≡ flat_map (fragment false) parts ++ (fragment true last ++ more)
    → (text : List ℕ) × (bytes ≡ text ++ more) × IsRecord text (joined parts ++ last)
record_of bytes more last parts fits cut = (
  flat_map (fragment false) parts ++ fragment true last,
  cut ∙ sym (append_assoc (flat_map (fragment false) parts) (fragment true last) more),
  record {
    parts = parts;
    last = last;
    cut = refl;
    content_is = refl;
    bounded = omega (arith, fits, length-append (joined parts) last);
  },
)

record Cut (bytes : List ℕ) : Type 0 where
  list : List (List ℕ)
  rest : List ℕ
  cut : records bytes list rest
  is_rest : IsRest rest

only_rest : (bytes : List ℕ) → IsRest bytes → Cut bytes
only_rest bytes is = record { list = []; rest = bytes; cut = rest_is_rest bytes is; is_rest = is }

part_rest : (bytes : List ℕ) → IsPart bytes → IsRest bytes
part_rest [] part = inl refl
part_rest (b ∷ bs) part = inr (inl (record { some = omega arith; part = part }))

flat : (a b : List ℕ) (bytes c : List ℕ) → bytes ≡ a ++ (b ++ c) → bytes ≡ a ++ b ++ c
flat a b bytes c e = e ∙ sym (append_assoc a b c)

cut_step : (bytes : List ℕ) → StreamBeginning 0 bytes
    → ((more : List ℕ) → length more < length bytes → AreBytes more → Cut more) → Cut bytes
cut_step bytes (Whole ps last more fits are cut) go =
    let r = record_of bytes more last ps (omega (arith, fits)) cut in
    let less : length more < length bytes = omega (
      arith,
      ap length cut,
      length-append (flat_map (fragment false) ps) (fragment true last ++ more),
      length-append (fragment true last) more,
      fragment-length true last,
    ) in
    let others = go more less are in
    record {
      list = (joined ps ++ last) ∷ others.list;
      rest = others.rest;
      cut = (r.0, more, r.1, r.2, others.cut);
      is_rest = others.is_rest;
    }
cut_step bytes (Before ps some fits few cut) go =
    only_rest bytes (part_rest bytes (BeforeMark ps some (omega (arith, fits)) few cut))
cut_step bytes (Within ps l n some fits few cut) go =
    only_rest bytes (part_rest bytes (InFragment ps l n some (omega (arith, fits)) few
    (flat (flat_map (fragment false) ps) (mark l n) bytes some cut)))
cut_step bytes (Long ps l n more each fits long cut) go =
    only_rest bytes (inr (inr (record {
      parts = ps;
      last = l;
      announced = n;
      more = more;
      parts_marked = each;
      marked = fits;
      cut = flat (flat_map (fragment false) ps) (mark l n) bytes more cut;
      long = omega (arith, long);
    })))

cuts : (fuel : ℕ) (bytes : List ℕ) → length bytes ≤ fuel → AreBytes bytes → Cut bytes
cuts zero bytes short are =
    cut_step bytes (leading (length bytes) 0 bytes (omega arith) (omega arith) are)
    (λ more less more_are. absurd (omega (arith, short, less)))
cuts (suc fuel) bytes short are =
    cut_step bytes (leading (length bytes) 0 bytes (omega arith) (omega arith) are)
    (λ more less more_are. cuts fuel more (omega (arith, short, less)) more_are)

pub each_cut : (bytes : List ℕ) → AreBytes bytes → (list : List (List ℕ)) × (rest : List ℕ)
    × records bytes list rest
each_cut bytes are = let c = cuts (length bytes) bytes (omega arith) are in (c.list, c.rest, c.cut)

pub rests : (bytes : List ℕ) (list : List (List ℕ)) (rest : List ℕ) → AreBytes bytes → records bytes list rest
    → IsRest rest
rests bytes list rest are cut =
    let c = cuts (length bytes) bytes (omega arith) are in
    subst IsRest (one_cut bytes c.list list c.rest rest c.cut cut).1 c.is_rest

pub empty_or_begun : (bytes : List ℕ) → IsPart bytes → (bytes ≡ []) ⊎ HasBegun bytes
empty_or_begun [] part = inl refl
empty_or_begun (b ∷ bs) part = inr (record { some = omega arith; part = part })

-- a record takes bytes
pub takes_some : (text content old new : List ℕ) → IsRecord text content → old ≡ text ++ new
    → length new < length old
takes_some text content old new r e =
    omega (
      arith,
      ap length e,
      length-append text new,
      ap length r.cut,
      length-append (flat_map (fragment false) r.parts) (fragment true r.last),
      fragment-length true r.last,
    )

pub cut_on : (bytes left rest : List ℕ) (list others : List (List ℕ)) → CutsOff bytes list left
    → records left others rest → records bytes (list ++ others) rest
cut_on bytes left rest [] others cut on = subst (λ (b : List ℕ). records b others rest) (sym cut) on
cut_on bytes left rest (first ∷ list) others cut on =
    (cut.0, cut.1, cut.2, cut.3, cut_on cut.1 left rest list others cut.4 on)

-- A stream of bytes is cut into records in one way.
use Rattle.std.proofs.Common.{◌≡◌, ℕ, ◌+◌, ◌^◌, ◌<◌, ◌≤◌, inl, inr, Bool, true, false, List, [], ◌∷◌, ◌++◌}
use Rattle.std.proofs.Common.{length, take, drop, refl, sym, ap, subst, ◌∙◌, append_assoc, arith}
use Rattle.std.proofs.Common.{length-append}
use Rattle.std.specs.Prelude.{flat_map}
use Rattle.std.specs.Int.{w32}
use Rattle.std.specs.List.{AllByRecursion}
use Rattle.std.proofs.lemmas.List.{take_at, drop_at}
use Rattle.std.proofs.lemmas.List.Concat.{flat_map-cons}
use Rattle.base.specs.declared.TheConstants.{RECORD_BYTES}
use Rattle.xdr.specs.Items.{word}
use Rattle.xdr.specs.Reading.{number_at}
use Rattle.rpc.specs.Records.{mark, fragment, joined, IsRecord, records, IsTooLong, HasBegun, IsPart, IsRest}
use Rattle.rpc.specs.Records.IsPart.{BeforeMark, InFragment}
use Rattle.xdr.proofs.Coded.{words, alike}
use Rattle.rpc.proofs.Lengths.{word-length}

-- ---- marks and fragments

same_words : (m n : ℕ) (x y : List ℕ) → m < 2 ^ 32 → n < 2 ^ 32 → word m ++ x ≡ word n ++ y
    → (m ≡ n) × (x ≡ y)
same_words m n x y p q e = alike word (λ k. k < 2 ^ 32) (number_at w32) words m n x y p q e

pub marks_alike : (l k : Bool) (m n : ℕ) (x y : List ℕ) → m < 2 ^ 31 → n < 2 ^ 31
    → mark l m ++ x ≡ mark k n ++ y
    → (l ≡ k) × (m ≡ n) × (x ≡ y)
marks_alike false false m n x y p q e = let s = same_words m n x y (omega arith) (omega arith) e in
    (refl, s.0, s.1)
marks_alike true true m n x y p q e = let s =
    same_words (2 ^ 31 + m) (2 ^ 31 + n) x y (omega arith) (omega arith) e in (refl, omega (arith, s.0), s.1)
marks_alike false true m n x y p q e = let s = same_words m (2 ^ 31 + n) x y (omega arith) (omega arith) e in
    absurd (omega (arith, s.0))
marks_alike true false m n x y p q e = let s = same_words (2 ^ 31 + m) n x y (omega arith) (omega arith) e in
    absurd (omega (arith, s.0))

texts_alike : (a b x y : List ℕ) → length a ≡ length b → a ++ x ≡ b ++ y → (a ≡ b) × (x ≡ y)
texts_alike a b x y len e = (
  sym (take_at a x (length a) refl) ∙ ap (take (length a)) e
      ∙ take_at b y (length a) (sym len),
  sym (drop_at a x (length a) refl) ∙ ap (drop (length a)) e
      ∙ drop_at b y (length a) (sym len),
)

fragments_alike : (l k : Bool) (a b x y : List ℕ) → length a < 2 ^ 31 → length b < 2 ^ 31
    → fragment l a ++ x ≡ fragment k b ++ y → (l ≡ k) × (a ≡ b) × (x ≡ y)
fragments_alike l k a b x y p q e =
    let m = marks_alike l k (length a) (length b) (a ++ x) (b
    ++ y) p q (sym (append_assoc (mark l (length a)) a x) ∙ e ∙ append_assoc (mark k (length b)) b y) in
    let t = texts_alike a b x y m.1 m.2 in
    (m.0, t.0, t.1)

pub mark-length : (l : Bool) (n : ℕ) → length (mark l n) ≡ 4
mark-length false n = word-length n
mark-length true n = word-length (2 ^ 31 + n)

pub cons_parts : (p : List ℕ) (ps : List (List ℕ)) (t : List ℕ)
    → flat_map (fragment false) (p ∷ ps) ++ t ≡ fragment false p ++ (flat_map (fragment false) ps ++ t)
cons_parts p ps t = ap (λ (x : List ℕ). x ++ t) (flat_map-cons (fragment false) p ps)
    ∙ append_assoc (fragment false p) (flat_map (fragment false) ps) t

cons_joined : (p : List ℕ) (ps : List (List ℕ)) → joined (p ∷ ps) ≡ p ++ joined ps
cons_joined p ps = flat_map-cons (λ (x : List ℕ). x) p ps

pub cons_length : (p : List ℕ) (ps : List (List ℕ)) → length (joined (p ∷ ps)) ≡ length p + length (joined ps)
cons_length p ps = ap length (cons_joined p ps) ∙ length-append p (joined ps)

-- ---- records

apart : true ≡ false → ⊥
apart e = absurd cc

same_record : (ps qs : List (List ℕ)) (a b x y : List ℕ) → length (joined ps) + length a < 2 ^ 31
    → length (joined qs) + length b < 2 ^ 31
    → flat_map (fragment false) ps ++ (fragment true a ++ x) ≡ flat_map (fragment false) qs
    ++ (fragment true b ++ y) → (joined ps ++ a ≡ joined qs ++ b) × (x ≡ y)
same_record [] [] a b x y p q e =
    let f = fragments_alike true true a b x y (omega (arith, p)) (omega (arith, q)) e in
    (f.1, f.2)
same_record [] (c ∷ qs) a b x y p q e =
    let f = fragments_alike true false a c x (flat_map (fragment false) qs ++ (fragment true b ++ y))
    (omega (arith, p)) (omega (arith, q, cons_length c qs)) (e
    ∙ cons_parts c qs (fragment true b ++ y)) in
    absurd (apart f.0)
same_record (d ∷ ps) [] a b x y p q e =
    let f = fragments_alike true false b d y (flat_map (fragment false) ps ++ (fragment true a ++ x))
    (omega (arith, q)) (omega (arith, p, cons_length d ps)) (sym e
    ∙ cons_parts d ps (fragment true a ++ x)) in
    absurd (apart f.0)
same_record (d ∷ ps) (c ∷ qs) a b x y p q e =
    let f = fragments_alike false false d c (flat_map (fragment false) ps ++ (fragment true a ++ x))
    (flat_map (fragment false) qs ++ (fragment true b ++ y)) (omega (arith, p, cons_length d ps))
    (omega (arith, q, cons_length c qs)) (sym (cons_parts d ps (fragment true a ++ x)) ∙ e
    ∙ cons_parts c qs (fragment true b ++ y)) in
    let r = same_record ps qs a b x y (omega (arith, p, cons_length d ps))
    (omega (arith, q, cons_length c qs)) f.2 in
    let left : joined (d ∷ ps) ++ a ≡ d ++ (joined ps ++ a) = ap (λ (t : List ℕ). t ++ a) (cons_joined d ps)
    ∙ append_assoc d (joined ps) a in
    let right : joined (c ∷ qs) ++ b ≡ c ++ (joined qs ++ b) = ap (λ (t : List ℕ). t ++ b) (cons_joined c qs)
    ∙ append_assoc c (joined qs) b in
    let middle : d ++ (joined ps ++ a) ≡ c ++ (joined qs ++ b) = cc (f.1, r.0) in
    (left ∙ middle ∙ sym right, r.1)

record_fits : (text content : List ℕ) (r : IsRecord text content)
    → length (joined r.parts) + length r.last < 2 ^ 31
record_fits text content r =
    omega (arith, r.bounded, ap length r.content_is, length-append (joined r.parts) r.last)

spread : (text content more : List ℕ) (r : IsRecord text content)
    → text ++ more ≡ flat_map (fragment false) r.parts ++ (fragment true r.last ++ more)
spread text content more r = ap (λ (t : List ℕ). t ++ more) r.cut
    ∙ append_assoc (flat_map (fragment false) r.parts) (fragment true r.last) more

same_first : (text content more text' content' more' : List ℕ) → IsRecord text content
    → IsRecord text' content' → text ++ more ≡ text' ++ more' → (content ≡ content') × (more ≡ more')
same_first text content more text' content' more' r s e =
    let f = same_record r.parts s.parts r.last s.last more more' (record_fits text content r)
    (record_fits text' content' s) (sym (spread text content more r) ∙ e
    ∙ spread text' content' more' s) in
    (r.content_is ∙ f.0 ∙ sym s.content_is, f.1)

pub one_cut : (bytes : List ℕ) (list others : List (List ℕ)) (rest last : List ℕ) → records bytes list rest
    → records bytes others last → (list ≡ others) × (rest ≡ last)
one_cut bytes [] [] rest last r s = (refl, sym r.0 ∙ s.0)
one_cut bytes [] (f ∷ o) rest last r s = absurd (r.1 (s.0, f, s.1, sym r.0 ∙ s.2, s.3))
one_cut bytes (f ∷ o) [] rest last r s = absurd (s.1 (r.0, f, r.1, sym s.0 ∙ r.2, r.3))
one_cut bytes (f ∷ o) (g ∷ u) rest last r s =
    let first = same_first r.0 f r.1 s.0 g s.1 r.3 s.3 (sym r.2 ∙ s.2) in
    let behind = one_cut r.1 o u rest last r.4 (subst (λ (t : List ℕ). records t u last) (sym first.1) s.4) in
    (cc (first.0, behind.0), behind.1)

-- ---- what comes of the front of a stream

pub fragment-length : (l : Bool) (p : List ℕ) → length (fragment l p) ≡ 4 + length p
fragment-length l p = length-append (mark l (length p)) p
    ∙ ap (λ (n : ℕ). n + length p) (mark-length l (length p))

-- a fragment has a mark at least
pub has_mark : (l : Bool) (p t : List ℕ) → 4 ≤ length (fragment l p ++ t)
has_mark l p t = omega (arith, length-append (fragment l p) t, fragment-length l p)

-- a mark that isn't whole is none
no_mark : (qs : List (List ℕ)) (l : Bool) (q some t : List ℕ) → length some < 4
    → some ≡ flat_map (fragment false) qs ++ (fragment l q ++ t) → ⊥
no_mark [] l q some t few e = omega (arith, few, ap length e, has_mark l q t)
no_mark (r ∷ qs) l q some t few e =
    omega (
      arith,
      few,
      ap length e,
      ap length (cons_parts r qs (fragment l q ++ t)),
      has_mark false r (flat_map (fragment false) qs ++ (fragment l q ++ t)),
    )

pub strip : (p q : List ℕ) (ps qs : List (List ℕ)) (s t : List ℕ) → length p < 2 ^ 31 → length q < 2 ^ 31
    → flat_map (fragment false) (p ∷ ps) ++ s ≡ flat_map (fragment false) (q ∷ qs) ++ t
    → (p ≡ q) × (flat_map (fragment false) ps ++ s ≡ flat_map (fragment false) qs ++ t)
strip p q ps qs s t small fits e =
    let f = fragments_alike false false p q (flat_map (fragment false) ps ++ s)
    (flat_map (fragment false) qs ++ t) small fits (sym (cons_parts p ps s) ∙ e ∙ cons_parts q qs t) in
    (f.1, f.2)

-- a fragment that isn't the last stands where a last one stands
not_last : (p : List ℕ) (ps : List (List ℕ)) (s last t : List ℕ) → length p < 2 ^ 31 → length last < 2 ^ 31
    → flat_map (fragment false) (p ∷ ps) ++ s ≡ fragment true last ++ t → ⊥
not_last p ps s last t small fits e =
    let f = fragments_alike false true p last (flat_map (fragment false) ps ++ s) t small fits
    (sym (cons_parts p ps s) ∙ e) in
    apart (sym f.0)

-- bytes that end before a mark is whole begin with no record
before_mark : (ps qs : List (List ℕ)) (some last t : List ℕ) → length (joined ps) < 2 ^ 31
    → length (joined qs) + length last < 2 ^ 31 → length some < 4
    → flat_map (fragment false) ps ++ some ≡ flat_map (fragment false) qs ++ (fragment true last ++ t) → ⊥
before_mark [] qs some last t small fits few e = no_mark qs true last some t few e
before_mark (p ∷ ps) [] some last t small fits few e =
    not_last p ps some last t (omega (arith, small, cons_length p ps)) (omega (arith, fits)) e
before_mark (p ∷ ps) (q ∷ qs) some last t small fits few e =
    before_mark ps qs some last t (omega (arith, small, cons_length p ps))
    (omega (arith, fits, cons_length q qs)) few
    (strip p q ps qs some (fragment true last ++ t) (omega (arith, small, cons_length p ps))
    (omega (arith, fits, cons_length q qs)) e).1

-- the first fragment is longer than what is there
pub too_few : (l k : Bool) (n : ℕ) (some q t : List ℕ) → n < 2 ^ 31 → length q < 2 ^ 31 → length some < n
    → mark l n ++ some ≡ fragment k q ++ t → ⊥
too_few l k n some q t small fits few e =
    let m = marks_alike l k n (length q) some (q ++ t) small fits (e
    ∙ append_assoc (mark k (length q)) q t) in
    omega (arith, few, m.1, ap length m.2, length-append q t)

-- bytes that end inside a fragment begin with no record
in_fragment : (ps qs : List (List ℕ)) (l : Bool) (n : ℕ) (some last t : List ℕ)
    → length (joined ps) + n < 2 ^ 31 → length (joined qs) + length last < 2 ^ 31 → length some < n
    → flat_map (fragment false) ps ++ (mark l n ++ some) ≡ flat_map (fragment false) qs
    ++ (fragment true last ++ t) → ⊥
in_fragment [] [] l n some last t small fits few e =
    too_few l true n some last t (omega (arith, small)) (omega (arith, fits)) few e
in_fragment [] (q ∷ qs) l n some last t small fits few e =
    too_few l false n some q (flat_map (fragment false) qs ++ (fragment true last ++ t)) (omega (arith, small))
    (omega (arith, fits, cons_length q qs)) few (e ∙ cons_parts q qs (fragment true last ++ t))
in_fragment (p ∷ ps) [] l n some last t small fits few e =
    not_last p ps (mark l n ++ some) last t (omega (arith, small, cons_length p ps)) (omega (arith, fits)) e
in_fragment (p ∷ ps) (q ∷ qs) l n some last t small fits few e =
    in_fragment ps qs l n some last t (omega (arith, small, cons_length p ps))
    (omega (arith, fits, cons_length q qs)) few
    (strip p q ps qs (mark l n ++ some) (fragment true last ++ t) (omega (arith, small, cons_length p ps))
    (omega (arith, fits, cons_length q qs)) e).1

begun_is_rest : (bytes : List ℕ) → IsPart bytes → records bytes [] bytes
begun_is_rest bytes (BeforeMark ps some bounded few cut) = (
  refl,
  λ b. before_mark ps b.4.parts some b.4.last b.2 (omega (arith, bounded)) (record_fits b.0 b.1 b.4) few
      (sym cut ∙ b.3 ∙ spread b.0 b.1 b.2 b.4),
)
begun_is_rest bytes (InFragment ps l n some bounded few cut) = (
  refl,
  λ b. in_fragment ps b.4.parts l n some b.4.last b.2 (omega (arith, bounded)) (record_fits b.0 b.1 b.4) few
      (sym (append_assoc (flat_map (fragment false) ps) (mark l n) some) ∙ sym cut ∙ b.3
      ∙ spread b.0 b.1 b.2 b.4),
)

long_parts : (ps qs : List (List ℕ)) (l : Bool) (n k : ℕ) (more last behind : List ℕ)
    → AllByRecursion (λ p. length p < 2 ^ 31) ps → n < 2 ^ 31
    → RECORD_BYTES < k + length (joined ps) + n → k + length (joined qs) + length last ≤ RECORD_BYTES
    → flat_map (fragment false) ps ++ (mark l n ++ more) ≡ flat_map (fragment false) qs
    ++ (fragment true last ++ behind) → ⊥
long_parts [] [] l n k more last behind each small long fits e =
    let m = marks_alike l true n (length last) more (last ++ behind) small (omega (arith, fits)) (e
    ∙ append_assoc (mark true (length last)) last behind) in
    omega (arith, m.1, long, fits)
long_parts [] (q ∷ qs) l n k more last behind each small long fits e =
    let t = flat_map (fragment false) qs ++ (fragment true last ++ behind) in
    let m = marks_alike l false n (length q) more (q ++ t) small (omega (arith, fits, cons_length q qs)) (e
    ∙ cons_parts q qs (fragment true last ++ behind) ∙ append_assoc (mark false (length q)) q t) in
    omega (arith, m.1, long, fits, cons_length q qs)
long_parts (p ∷ ps) [] l n k more last behind each small long fits e =
    let f = fragments_alike true false last p behind (flat_map (fragment false) ps ++ (mark l n ++ more))
    (omega (arith, fits)) each.0 (sym e ∙ cons_parts p ps (mark l n ++ more)) in
    apart f.0
long_parts (p ∷ ps) (q ∷ qs) l n k more last behind each small long fits e =
    let f = fragments_alike false false p q (flat_map (fragment false) ps ++ (mark l n ++ more))
    (flat_map (fragment false) qs ++ (fragment true last ++ behind)) each.0
    (omega (arith, fits, cons_length q qs)) (sym (cons_parts p ps (mark l n ++ more)) ∙ e
    ∙ cons_parts q qs (fragment true last ++ behind)) in
    long_parts ps qs l n (k + length p) more last behind each.1 small (omega (arith, long, cons_length p ps))
    (omega (arith, fits, cons_length q qs, ap length f.1)) f.2

pub too_long_is_rest : (bytes : List ℕ) → IsTooLong bytes → records bytes [] bytes
too_long_is_rest bytes t = (
  refl,
  λ b.
      long_parts t.parts b.4.parts t.last t.announced 0 t.more b.4.last b.2 t.parts_marked t.marked
      (omega (arith, t.long))
      (omega (arith, b.4.bounded, ap length b.4.content_is, length-append (joined b.4.parts) b.4.last))
      (sym (append_assoc (flat_map (fragment false) t.parts) (mark t.last t.announced) t.more) ∙ sym t.cut
      ∙ b.3 ∙ spread b.0 b.1 b.2 b.4),
)

empty_is_rest : records [] [] []
empty_is_rest = begun_is_rest [] (BeforeMark [] [] (omega arith) (omega arith) refl)

pub rest_is_rest : (bytes : List ℕ) → IsRest bytes → records bytes [] bytes
rest_is_rest bytes (inl e) = subst (λ (b : List ℕ). records b [] b) (sym e) empty_is_rest
rest_is_rest bytes (inr (inl begun)) = begun_is_rest bytes begun.part
rest_is_rest bytes (inr (inr long)) = too_long_is_rest bytes long

pub longer : (bytes more : List ℕ) → IsTooLong bytes → IsTooLong (bytes ++ more)
longer bytes more t =
    record {
      parts = t.parts;
      last = t.last;
      announced = t.announced;
      more = t.more ++ more;
      parts_marked = t.parts_marked;
      marked = t.marked;
      cut = ap (λ (b : List ℕ). b ++ more) t.cut
          ∙ append_assoc (flat_map (fragment false) t.parts ++ mark t.last t.announced) t.more more;
      long = t.long;
    }

-- ---- a rest that has begun doesn't announce too much

-- the first fragment of a record that fits announces too much
first_long : (p : List ℕ) (ps : List (List ℕ)) (m : Bool) (a k : ℕ) (s t : List ℕ)
    → k + length (joined (p ∷ ps)) ≤ RECORD_BYTES → a < 2 ^ 31 → RECORD_BYTES < k + a
    → flat_map (fragment false) (p ∷ ps) ++ s ≡ mark m a ++ t → ⊥
first_long p ps m a k s t fits small long e =
    let f = marks_alike false m (length p) a (p ++ (flat_map (fragment false) ps ++ s)) t
    (omega (arith, fits, cons_length p ps)) small (sym (append_assoc (mark false (length p)) p
    (flat_map (fragment false) ps ++ s)) ∙ sym (cons_parts p ps s) ∙ e) in
    omega (arith, fits, long, f.1, cons_length p ps)

pub has_a_mark : (m : Bool) (a : ℕ) (t : List ℕ) → 4 ≤ length (mark m a ++ t)
has_a_mark m a t = omega (arith, length-append (mark m a) t, mark-length m a)

before_long : (ps qs : List (List ℕ)) (some : List ℕ) (m : Bool) (a k : ℕ) (t : List ℕ)
    → k + length (joined ps) ≤ RECORD_BYTES → AllByRecursion (λ q. length q < 2 ^ 31) qs → a < 2 ^ 31
    → RECORD_BYTES < k + length (joined qs) + a → length some < 4
    → flat_map (fragment false) ps ++ some ≡ flat_map (fragment false) qs ++ (mark m a ++ t) → ⊥
before_long [] [] some m a k t fits each small long few e =
    omega (arith, few, ap length e, has_a_mark m a t)
before_long [] (q ∷ qs) some m a k t fits each small long few e =
    omega (
      arith,
      few,
      ap length e,
      ap length (cons_parts q qs (mark m a ++ t)),
      has_mark false q (flat_map (fragment false) qs ++ (mark m a ++ t)),
    )
before_long (p ∷ ps) [] some m a k t fits each small long few e =
    first_long p ps m a k some t fits small (omega (arith, long)) e
before_long (p ∷ ps) (q ∷ qs) some m a k t fits each small long few e =
    let f = strip p q ps qs some (mark m a ++ t) (omega (arith, fits, cons_length p ps)) each.0 e in
    before_long ps qs some m a (k + length p) t (omega (arith, fits, cons_length p ps)) each.1 small
    (omega (arith, long, cons_length q qs, ap length f.0)) few f.1

inside_long : (ps qs : List (List ℕ)) (l : Bool) (n : ℕ) (some : List ℕ) (m : Bool) (a k : ℕ) (t : List ℕ)
    → k + length (joined ps) + n ≤ RECORD_BYTES → AllByRecursion (λ q. length q < 2 ^ 31) qs → a < 2 ^ 31
    → RECORD_BYTES < k + length (joined qs) + a → length some < n
    → flat_map (fragment false) ps ++ (mark l n ++ some) ≡ flat_map (fragment false) qs ++ (mark m a ++ t) → ⊥
inside_long [] [] l n some m a k t fits each small long few e =
    let f = marks_alike l m n a some t (omega (arith, fits)) small e in
    omega (arith, fits, long, f.1)
inside_long [] (q ∷ qs) l n some m a k t fits each small long few e =
    too_few l false n some q (flat_map (fragment false) qs ++ (mark m a ++ t)) (omega (arith, fits)) each.0 few
    (e ∙ cons_parts q qs (mark m a ++ t))
inside_long (p ∷ ps) [] l n some m a k t fits each small long few e =
    first_long p ps m a k (mark l n ++ some) t (omega (arith, fits)) small (omega (arith, long)) e
inside_long (p ∷ ps) (q ∷ qs) l n some m a k t fits each small long few e =
    let f = strip p q ps qs (mark l n ++ some) (mark m a ++ t)
    (omega (arith, fits, cons_length p ps)) each.0 e in
    inside_long ps qs l n some m a (k + length p) t (omega (arith, fits, cons_length p ps)) each.1 small
    (omega (arith, long, cons_length q qs, ap length f.0)) few f.1

long_cut : (rest : List ℕ) (t : IsTooLong rest)
    → rest ≡ flat_map (fragment false) t.parts ++ (mark t.last t.announced ++ t.more)
long_cut rest t = t.cut ∙ append_assoc (flat_map (fragment false) t.parts) (mark t.last t.announced) t.more

part_not_long : (rest : List ℕ) → IsPart rest → IsTooLong rest → ⊥
part_not_long rest (BeforeMark ps some bounded few cut) t =
    before_long ps t.parts some t.last t.announced 0 t.more (omega (arith, bounded)) t.parts_marked t.marked
    (omega (arith, t.long)) few (sym cut ∙ long_cut rest t)
part_not_long rest (InFragment ps l n some bounded few cut) t =
    inside_long ps t.parts l n some t.last t.announced 0 t.more (omega (arith, bounded)) t.parts_marked t.marked
    (omega (arith, t.long)) few
    (sym (append_assoc (flat_map (fragment false) ps) (mark l n) some) ∙ sym cut ∙ long_cut rest t)

pub begun_not_long : (rest : List ℕ) → HasBegun rest → IsTooLong rest → ⊥
begun_not_long rest begun long = part_not_long rest begun.part long

pub empty_not_long : IsTooLong [] → ⊥
empty_not_long long = part_not_long [] (BeforeMark [] [] (omega arith) (omega arith) refl) long

pub empty_not_begun : HasBegun [] → ⊥
empty_not_begun begun = omega (arith, begun.some)

-- A stream begins with a record, or announces too much, or neither, in one way.
use Rattle.std.proofs.Common.{◌≡◌, ℕ, ◌+◌, ◌<◌, ◌≤◌, ◌^◌, Bool, true, false, List, [], ◌∷◌, ◌++◌}
use Rattle.std.proofs.Common.{length, take, drop, ap, sym, refl, ◌∙◌, append_assoc, arith, inl, inr, length-append}
use Rattle.std.specs.Int.{w32, from_be_bytes}
use Rattle.std.proofs.lemmas.List.{take_at, drop_at}
use Rattle.std.proofs.lemmas.List.Concat.{flat_map-cons}
use Rattle.std.proofs.lemmas.Nat.{from_be_bytes-to_be_bytes_4}
use Rattle.base.specs.declared.TheConstants.{RECORD_BYTES}
use Rattle.plain_once.specs.Session.Records.{Begins, EndsInFragment, EndsInMark, IsMarked, IsTooLong, NeedsMore}
use Rattle.plain_once.specs.Session.Records.{fragment, fragments, joined, mark}
use Rattle.plain_once.specs.Session.Serving.{IsFirst}
use Rattle.plain_once.proofs.SessionLemmas.Answered.{word-length}
use Rattle.xdr.specs.Items.{word}

-- ---- marks and fragments

texts_alike : (a b x y : List ℕ) → length a ≡ length b → a ++ x ≡ b ++ y → (a ≡ b) × (x ≡ y)
texts_alike a b x y same e = (
  sym (take_at a x (length a) refl) ∙ ap (take (length a)) e ∙ take_at b y (length a) (sym same),
  sym (drop_at a x (length a) refl) ∙ ap (drop (length a)) e ∙ drop_at b y (length a) (sym same),
)

same_number : (m n : ℕ) → m < 2 ^ 32 → n < 2 ^ 32 → word m ≡ word n → m ≡ n
unfolding word
same_number m n p q e =
    sym (from_be_bytes-to_be_bytes_4 m p) ∙ ap (λ (l : List ℕ). from_be_bytes w32 l) e
    ∙ from_be_bytes-to_be_bytes_4 n q

words_alike : (m n : ℕ) (x y : List ℕ) → m < 2 ^ 32 → n < 2 ^ 32 → word m ++ x ≡ word n ++ y
    → (m ≡ n) × (x ≡ y)
words_alike m n x y p q e =
    let t = texts_alike (word m) (word n) x y (word-length m ∙ sym (word-length n)) e in
    (same_number m n p q t.0, t.1)

marks_alike : (l k : Bool) (m n : ℕ) (x y : List ℕ) → m < 2 ^ 31 → n < 2 ^ 31 → mark l m ++ x ≡ mark k n ++ y
    → (l ≡ k) × (m ≡ n) × (x ≡ y)
marks_alike false false m n x y p q e =
    let s = words_alike m n x y (omega arith) (omega arith) e in (refl, s.0, s.1)
marks_alike true true m n x y p q e =
    let s = words_alike (2 ^ 31 + m) (2 ^ 31 + n) x y (omega arith) (omega arith) e in
    (refl, omega (arith, s.0), s.1)
marks_alike false true m n x y p q e =
    let s = words_alike m (2 ^ 31 + n) x y (omega arith) (omega arith) e in absurd (omega (arith, s.0))
marks_alike true false m n x y p q e =
    let s = words_alike (2 ^ 31 + m) n x y (omega arith) (omega arith) e in absurd (omega (arith, s.0))

fragments_alike : (l k : Bool) (a b x y : List ℕ) → length a < 2 ^ 31 → length b < 2 ^ 31
    → fragment l a ++ x ≡ fragment k b ++ y → (l ≡ k) × (a ≡ b) × (x ≡ y)
fragments_alike l k a b x y p q e =
    let m = marks_alike l k (length a) (length b) (a ++ x) (b ++ y) p q
    (sym (append_assoc (mark l (length a)) a x) ∙ e ∙ append_assoc (mark k (length b)) b y) in
    let t = texts_alike a b x y m.1 m.2 in
    (m.0, t.0, t.1)

mark-length : (l : Bool) (n : ℕ) → length (mark l n) ≡ 4
mark-length false n = word-length n
mark-length true n = word-length (2 ^ 31 + n)

cons_parts : (p : List ℕ) (ps : List (List ℕ)) (t : List ℕ)
    → fragments (p ∷ ps) ++ t ≡ fragment false p ++ (fragments ps ++ t)
cons_parts p ps t = ap (λ (x : List ℕ). x ++ t) (flat_map-cons (fragment false) p ps)
    ∙ append_assoc (fragment false p) (fragments ps) t

cons_length : (p : List ℕ) (ps : List (List ℕ)) → length (joined (p ∷ ps)) ≡ length p + length (joined ps)
cons_length p ps = ap length (flat_map-cons (λ (x : List ℕ). x) p ps) ∙ length-append p (joined ps)

-- ---- where the fragments before the last one end

-- behind so many bytes stands no further fragment that isn't the last one and fits
abbrev Halts : ℕ → List ℕ → Type 0
Halts held next =
    (part rest : List ℕ) → next ≡ fragment false part ++ rest → held + length part ≤ RECORD_BYTES → ⊥

one_way : (held : ℕ) (ps qs : List (List ℕ)) (x y : List ℕ) → fragments ps ++ x ≡ fragments qs ++ y
    → held + length (joined ps) ≤ RECORD_BYTES → held + length (joined qs) ≤ RECORD_BYTES
    → Halts (held + length (joined ps)) x → Halts (held + length (joined qs)) y → (ps ≡ qs) × (x ≡ y)
one_way held [] [] x y same a b hx hy = (refl, same)
one_way held [] (q ∷ qs) x y same a b hx hy =
    absurd (hx q (fragments qs ++ y) (same ∙ cons_parts q qs y) (omega (arith, b, cons_length q qs)))
one_way held (p ∷ ps) [] x y same a b hx hy =
    absurd (hy p (fragments ps ++ x) (sym same ∙ cons_parts p ps x) (omega (arith, a, cons_length p ps)))
one_way held (p ∷ ps) (q ∷ qs) x y same a b hx hy =
    let f = fragments_alike false false p q (fragments ps ++ x) (fragments qs ++ y)
    (omega (arith, a, cons_length p ps)) (omega (arith, b, cons_length q qs))
    (sym (cons_parts p ps x) ∙ same ∙ cons_parts q qs y) in
    let long = ap length f.1 in
    let r = one_way (held + length p) ps qs x y f.2 (omega (arith, a, cons_length p ps))
    (omega (arith, b, cons_length q qs, long))
    (λ part rest is fits. hx part rest is (omega (arith, fits, cons_length p ps)))
    (λ part rest is fits. hy part rest is (omega (arith, fits, cons_length q qs, long))) in
    let head : p ≡ q = f.1 in
    let tail : ps ≡ qs = r.0 in
    (cc, r.1)

-- the parts before the last one, and what stands behind them
record CutEnd (bytes : List ℕ) (parts : List (List ℕ)) (next : List ℕ) : Type 0 where
  begins : Begins bytes parts next
  halts : Halts (length (joined parts)) next

one_cut_end : (bytes : List ℕ) (ps qs : List (List ℕ)) (x y : List ℕ) → CutEnd bytes ps x → CutEnd bytes qs y
    → (ps ≡ qs) × (x ≡ y)
one_cut_end bytes ps qs x y a b =
    one_way 0 ps qs x y (sym a.begins.cut ∙ b.begins.cut) (omega (arith, a.begins.bounded))
    (omega (arith, b.begins.bounded))
    (λ part rest is fits. a.halts part rest is (omega (arith, fits)))
    (λ part rest is fits. b.halts part rest is (omega (arith, fits)))

-- where a mark stands next, it is that of the next fragment
marked_alike : (next behind part rest : List ℕ) (l k : Bool) (count : ℕ) → IsMarked next l count behind
    → length part < 2 ^ 31 → next ≡ fragment k part ++ rest
    → (l ≡ k) × (count ≡ length part) × (behind ≡ part ++ rest)
marked_alike next behind part rest l k count is small e =
    marks_alike l k count (length part) behind (part ++ rest) is.marked small
    (sym is.cut ∙ e ∙ append_assoc (mark k (length part)) part rest)

in_mark : (bytes : List ℕ) (e : EndsInMark bytes) → CutEnd bytes e.parts e.next
in_mark bytes e = record {
  begins = e.begins;
  halts = λ part rest is fits. let long = ap length is in
      omega (arith, e.part, long, mark-length false (length part), length-append {A = ℕ});
}

in_fragment : (bytes : List ℕ) (e : EndsInFragment bytes) → CutEnd bytes e.parts e.next
in_fragment bytes e = record {
  begins = e.begins;
  halts = λ part rest is fits.
      let short : length part < 2 ^ 31 = omega (arith, fits) in
      let m = marked_alike e.next e.behind part rest e.last false e.count e.announced short is in
      let long = ap length m.2 in
      omega (arith, e.part, m.1, long, length-append part rest);
}

too_long : (bytes : List ℕ) (e : IsTooLong bytes) → CutEnd bytes e.parts e.next
too_long bytes e = record {
  begins = e.begins;
  halts = λ part rest is fits.
      let short : length part < 2 ^ 31 = omega (arith, fits) in
      let m = marked_alike e.next e.behind part rest e.last false e.count e.announced short is in
      omega (arith, e.long, m.1, fits);
}

apart : true ≡ false → ⊥
apart e = absurd cc

small : (bytes message behind : List ℕ) (f : IsFirst bytes message behind)
    → length (joined f.is.parts) + length f.is.last ≤ RECORD_BYTES
small bytes message behind f =
    let long = ap length f.is.is in
    omega (arith, f.is.bounded, long, length-append (joined f.is.parts) f.is.last)

whole : (bytes message behind : List ℕ) (f : IsFirst bytes message behind)
    → CutEnd bytes f.is.parts (fragment true f.is.last ++ behind)
whole bytes message behind f = record {
  begins = record {
    cut = f.cut ∙ ap (λ (l : List ℕ). l ++ behind) f.is.begins.cut
        ∙ append_assoc (fragments f.is.parts) (fragment true f.is.last) behind;
    bounded = f.is.begins.bounded;
  };
  halts = λ part rest is fits.
      let s = small bytes message behind f in
      let short : length part < 2 ^ 31 = omega (arith, fits) in
      apart (fragments_alike true false f.is.last part behind rest (omega (arith, s)) short is).0;
}

-- ---- the law

pub one_record : (bytes message other behind rest : List ℕ) → IsFirst bytes message behind
    → IsFirst bytes other rest → (message ≡ other) × (behind ≡ rest)
one_record bytes message other behind rest f g =
    let s = one_cut_end bytes _ _ _ _ (whole bytes message behind f) (whole bytes other rest g) in
    let t = fragments_alike true true f.is.last g.is.last behind rest
    (omega (arith, small bytes message behind f)) (omega (arith, small bytes other rest g)) s.1 in
    let parts : f.is.parts ≡ g.is.parts = s.0 in
    let last : f.is.last ≡ g.is.last = t.1 in
    let a : message ≡ joined f.is.parts ++ f.is.last = f.is.is in
    let b : other ≡ joined g.is.parts ++ g.is.last = g.is.is in
    (cc, t.2)

pub whole_or_more : (bytes message behind : List ℕ) → IsFirst bytes message behind → NeedsMore bytes → ⊥
whole_or_more bytes message behind f (inl e) =
    let s = one_cut_end bytes _ _ _ _ (whole bytes message behind f) (in_mark bytes e) in
    let long = ap length s.1 in
    omega (arith, e.part, long, mark-length true (length f.is.last), length-append {A = ℕ})
whole_or_more bytes message behind f (inr e) =
    let s = one_cut_end bytes _ _ _ _ (whole bytes message behind f) (in_fragment bytes e) in
    let m = marked_alike e.next e.behind f.is.last behind e.last true e.count e.announced
    (omega (arith, small bytes message behind f)) (sym s.1) in
    let long = ap length m.2 in
    omega (arith, e.part, m.1, long, length-append f.is.last behind)

pub whole_or_long : (bytes message behind : List ℕ) → IsFirst bytes message behind → IsTooLong bytes → ⊥
whole_or_long bytes message behind f e =
    let s = one_cut_end bytes _ _ _ _ (whole bytes message behind f) (too_long bytes e) in
    let m = marked_alike e.next e.behind f.is.last behind e.last true e.count e.announced
    (omega (arith, small bytes message behind f)) (sym s.1) in
    let held = ap (λ (ps : List (List ℕ)). length (joined ps)) s.0 in
    omega (arith, e.long, m.1, held, small bytes message behind f)

pub more_or_long : (bytes : List ℕ) → NeedsMore bytes → IsTooLong bytes → ⊥
more_or_long bytes (inl a) e =
    let s = one_cut_end bytes _ _ _ _ (in_mark bytes a) (too_long bytes e) in
    let long = ap length (s.1 ∙ e.announced.cut) in
    omega (arith, a.part, long, mark-length e.last e.count, length-append {A = ℕ})
more_or_long bytes (inr a) e =
    let s = one_cut_end bytes _ _ _ _ (in_fragment bytes a) (too_long bytes e) in
    let m = marks_alike a.last e.last a.count e.count a.behind e.behind a.announced.marked e.announced.marked
    (sym a.announced.cut ∙ s.1 ∙ e.announced.cut) in
    let held = ap (λ (ps : List (List ℕ)). length (joined ps)) s.0 in
    omega (arith, a.bounded, e.long, m.1, held)

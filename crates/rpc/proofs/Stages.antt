-- How the cutting of a stream goes from stage to stage.
use Rattle.std.proofs.Common.{◌≡◌, ℕ, ◌+◌, ◌-◌, ◌^◌, ◌<◌, ◌≤◌, Bool, true, false, List, [], ◌∷◌, ◌++◌, length}
use Rattle.std.proofs.Common.{take, drop}
use Rattle.std.proofs.Common.{refl, sym, ap, subst, ◌∙◌, append_assoc, arith, length-append}
use Rattle.std.specs.Prelude.{flat_map}
use Rattle.std.specs.List.{AllByRecursion}
use Rattle.std.specs.Prelude.{◌==◌}
use Rattle.std.proofs.lemmas.Bool.{ne_eqb}
use Rattle.std.proofs.lemmas.List.{append-nil, take-append-drop, length-take, drop_all}
use Rattle.std.proofs.lemmas.List.Concat.{flat_map-cons, flat_map-append}
use Rattle.base.specs.declared.TheConstants.{RECORD_BYTES}
use Rattle.rpc.specs.declared.stage.Stage.{Stage}
use Rattle.rpc.specs.declared.stage.Stage.TheVariants.{Fresh, Between, Inside}
use Rattle.rpc.specs.Records.{mark, fragment, joined, IsRecord, IsPart, IsTooLong, held_of}
use Rattle.rpc.specs.Records.IsPart.{BeforeMark, InFragment}
use Rattle.rpc.specs.Cutting.{AreFragments, IsBetween, IsInside, IsAt, IsOutside}
use Rattle.rpc.proofs.RecordLaws.{mark-length, cons_length, fragment-length}

-- outside of a fragment whole fragments were taken
pub outside : (stage : Stage) (taken content : List ℕ) → IsOutside stage → IsAt stage taken content
    → AreFragments taken content
outside Fresh taken content out at =
    record { parts = []; taken_is = at.0; content_is = at.1; bounded = omega (arith, ap length at.1) }
outside Between taken content out at = at.fragments
outside (Inside last left) taken content out at = absurd out

-- a mark is taken
pub marked : (taken content leading : List ℕ) (last : Bool) (n : ℕ) → AreFragments taken content
    → leading ≡ mark last n → length content + n ≤ RECORD_BYTES → IsInside last n (taken ++ leading) content
marked taken content leading last n at is fits =
    record {
      parts = at.parts;
      come = [];
      taken_is = ap (λ (t : List ℕ). t ++ leading) at.taken_is
          ∙ ap (λ (t : List ℕ). flat_map (fragment false) at.parts ++ t) is
          ∙ ap (λ (m : ℕ). flat_map (fragment false) at.parts ++ mark last m) (omega arith)
          ∙ sym (append-nil (flat_map (fragment false) at.parts ++ mark last (length {A = ℕ} [] + n)));
      content_is = at.content_is ∙ sym (append-nil (joined at.parts));
      bounded = fits;
    }

-- bytes of a fragment are taken
pub filled : (last : Bool) (left : ℕ) (taken content some : List ℕ) → IsInside last left taken content
    → length some ≤ left → IsInside last (left - length some) (taken ++ some) (content ++ some)
filled last left taken content some at le =
    let total : length at.come + left ≡ length (at.come ++ some) + (left - length some) =
    omega (arith, le, length-append at.come some) in
    record {
      parts = at.parts;
      come = at.come ++ some;
      taken_is = ap (λ (t : List ℕ). t ++ some) at.taken_is
          ∙ append_assoc (flat_map (fragment false) at.parts ++ mark last (length at.come + left)) at.come some
          ∙ ap (λ (n : ℕ). flat_map (fragment false) at.parts ++ mark last n ++ (at.come ++ some)) total;
      content_is = ap (λ (t : List ℕ). t ++ some) at.content_is
          ∙ append_assoc (joined at.parts) at.come some;
      bounded = omega (arith, le, at.bounded, length-append content some);
    }

whole_fragment : (last : Bool) (taken content : List ℕ) → (at : IsInside last 0 taken content)
    → taken ≡ flat_map (fragment false) at.parts ++ fragment last at.come
whole_fragment last taken content at =
    at.taken_is
    ∙ append_assoc (flat_map (fragment false) at.parts) (mark last (length at.come + 0)) at.come
    ∙ ap (λ (n : ℕ). flat_map (fragment false) at.parts ++ (mark last n ++ at.come)) (omega arith)

one_part : (f : List ℕ → List ℕ) (p : List ℕ) → flat_map f (p ∷ []) ≡ f p
one_part f p = flat_map-cons f p [] ∙ append-nil (f p)

-- a fragment that isn't the last is whole
pub between : (taken content : List ℕ) → IsInside false 0 taken content → IsBetween taken content
between taken content at =
    let is = whole_fragment false taken content at in
    record {
      some = omega (
        arith,
        ap length is,
        length-append (flat_map (fragment false) at.parts) (fragment false at.come),
        fragment-length false at.come,
      );
      fragments = record {
        parts = at.parts ++ at.come ∷ [];
        taken_is = is ∙ ap (λ (t : List ℕ). flat_map (fragment false) at.parts ++ t)
            (sym (one_part (fragment false) at.come))
            ∙ sym (flat_map-append (fragment false) at.parts (at.come ∷ []));
        content_is = at.content_is ∙ ap (λ (t : List ℕ). joined at.parts ++ t)
            (sym (one_part (λ (x : List ℕ). x) at.come))
            ∙ sym (flat_map-append (λ (x : List ℕ). x) at.parts (at.come ∷ []));
        bounded = omega (arith, at.bounded);
      };
    }

-- the last fragment is whole
pub whole : (taken content : List ℕ) → IsInside true 0 taken content → IsRecord taken content
whole taken content at =
    record {
      parts = at.parts;
      last = at.come;
      cut = whole_fragment true taken content at;
      content_is = at.content_is;
      bounded = omega (arith, at.bounded);
    }

-- a record isn't whole, and so many bytes of it are content
abbrev pub Waits : List ℕ → ℕ → Type 0
Waits text n = (part : IsPart text) × (n ≡ held_of part)

-- the next mark isn't whole
pub before_mark : (taken content some : List ℕ) → AreFragments taken content → length some < 4
    → Waits (taken ++ some) (length content + length some)
unfolding held_of
before_mark taken content some at few = (
  BeforeMark at.parts some (omega (arith, at.bounded, ap length at.content_is)) few
      (ap (λ (t : List ℕ). t ++ some) at.taken_is),
  ap (λ (t : List ℕ). length t + length some) at.content_is,
)

-- a fragment isn't whole
pub in_fragment : (last : Bool) (left : ℕ) (taken content : List ℕ) → IsInside last left taken content
    → 0 < left → Waits taken (length content)
unfolding held_of
in_fragment last left taken content at more = (
  InFragment at.parts last (length at.come + left) at.come
      (omega (arith, at.bounded, ap length at.content_is, length-append (joined at.parts) at.come))
      (omega (arith, more)) at.taken_is,
  ap length at.content_is ∙ length-append (joined at.parts) at.come,
)

each_bounded : (parts : List (List ℕ)) → length (joined parts) < 2 ^ 31
    → AllByRecursion (λ part. length part < 2 ^ 31) parts
each_bounded [] bounded = tt
each_bounded (p ∷ ps) bounded = (
  omega (arith, bounded, cons_length p ps),
  each_bounded ps (omega (arith, bounded, cons_length p ps)),
)

-- the next mark announces too much
pub too_long : (taken content leading behind : List ℕ) (last : Bool) (n : ℕ) → AreFragments taken content
    → leading ≡ mark last n → n < 2 ^ 31 → RECORD_BYTES < length content + n
    → IsTooLong (taken ++ (leading ++ behind))
too_long taken content leading behind last n at is small long =
    record {
      parts = at.parts;
      last = last;
      announced = n;
      more = behind;
      parts_marked = each_bounded at.parts (omega (arith, at.bounded, ap length at.content_is));
      marked = small;
      cut = ap (λ (t : List ℕ). t ++ (leading ++ behind)) at.taken_is
          ∙ ap (λ (t : List ℕ). flat_map (fragment false) at.parts ++ (t ++ behind)) is
          ∙ sym (append_assoc (flat_map (fragment false) at.parts) (mark last n) behind);
      long = omega (arith, long, ap length at.content_is);
    }

-- a stage that isn't fresh has taken something
pub not_fresh : (stage : Stage) (taken content : List ℕ) → IsAt stage taken content
    → (stage ≡ Fresh → ⊥) → 0 < length taken
not_fresh Fresh taken content at other = absurd (other refl)
not_fresh Between taken content at other = at.some
not_fresh (Inside last left) taken content at other =
    omega (
      arith,
      ap length at.taken_is,
      length-append (flat_map (fragment false) at.parts ++ mark last (length at.come + left)) at.come,
      length-append (flat_map (fragment false) at.parts) (mark last (length at.come + left)),
      mark-length last (length at.come + left),
    )

-- ---- what a step leaves

pub same_text : (n : ℕ) (taken pending : List ℕ)
    → (taken ++ take n pending) ++ drop n pending ≡ taken ++ pending
same_text n taken pending = append_assoc taken (take n pending) (drop n pending)
    ∙ ap (λ (t : List ℕ). taken ++ t) (take-append-drop n pending)

came : (n : ℕ) (pending : List ℕ) → n ≤ length pending → length (take n pending) ≡ n
came n pending le = omega (arith, le, length-take n pending)

pub fills : (last : Bool) (left n : ℕ) (taken content pending : List ℕ) → IsInside last left taken content
    → n ≤ left → n ≤ length pending
    → IsInside last (left - n) (taken ++ take n pending) (content ++ take n pending)
fills last left n taken content pending at le there =
    subst (λ (m : ℕ). IsInside last (left - m) (taken ++ take n pending) (content ++ take n pending))
    (came n pending there)
    (filled last left taken content (take n pending) at (omega (arith, le, came n pending there)))

pub fills_all : (last : Bool) (left n : ℕ) (taken content pending : List ℕ) → IsInside last left taken content
    → n ≤ left → n ≤ length pending → left ≤ n
    → IsInside last 0 (taken ++ take n pending) (content ++ take n pending)
fills_all last left n taken content pending at le there all =
    subst (λ (m : ℕ). IsInside last m (taken ++ take n pending) (content ++ take n pending))
    (omega (arith, le, all))
    (fills last left n taken content pending at le there)

no_more : (n : ℕ) (pending : List ℕ) → length pending ≤ n → drop n pending ≡ []
no_more n pending le = drop_all n pending le

pub fills_part : (last : Bool) (left n : ℕ) (taken content pending : List ℕ) → IsInside last left taken content
    → n < left → n ≡ length pending
    → Waits ((taken ++ take n pending) ++ drop n pending)
    (length (content ++ take n pending) + length (drop n pending))
fills_part last left n taken content pending at less all =
    let at_new = fills last left n taken content pending at (omega (arith, less)) (omega (arith, all)) in
    let none = no_more n pending (omega (arith, all)) in
    let waits = in_fragment last (left - n) (taken ++ take n pending) (content ++ take n pending) at_new
    (omega (arith, less)) in
    rw none (
    subst (λ (t : List ℕ). Waits t (length (content ++ take n pending) + 0))
    (sym (append-nil (taken ++ take n pending)))
    (subst (λ (m : ℕ). Waits (taken ++ take n pending) m) (omega arith) waits)
    )

pub not_empty : (taken pending : List ℕ) → 0 < length taken → false ≡ (length (taken ++ pending) == 0)
not_empty taken pending some = sym (ne_eqb _ _ (λ e. omega (arith, some, e, length-append taken pending)))

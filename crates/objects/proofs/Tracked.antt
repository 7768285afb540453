-- Lemmas: each block that nobody needs is noted, and so there are no more of them than are noted.
use Rattle.std.proofs.Common.{◌≡◌, refl, ap, sym, subst, ◌∙◌, ℕ, ◌-◌, ◌<◌, ◌≤◌, Bool, true, false, not, cond}
use Rattle.std.proofs.Common.{◌||◌, if◌then◌else◌, nat_eq, nat_lt, List, [], ◌∷◌, ◌++◌, All, length}
use Rattle.std.proofs.Common.{Option, Some, None, is_none, arith}
use Rattle.std.specs.Prelude.{is_some}
use Rattle.std.specs.List.{AllByRecursion, IsDistinct, filter, list_any}
use Rattle.std.proofs.lemmas.Bool.{eqb-true, lt-ltb}
use Rattle.std.proofs.lemmas.Cmp.{nat_eq_equiv}
use Rattle.std.proofs.lemmas.List.{length-map}
use Rattle.std.proofs.lemmas.List.Elements.{All-cons, All-head, All-map, All-nil, All-push, All-tail, All-weaker}
use Rattle.std.proofs.lemmas.Bool.Decides.{nat_tests}
use Rattle.std.proofs.lemmas.Map.Keys.{IsDistinct-cons}
use Rattle.std.proofs.lemmas.Map.Made.{length-le_from_is_member}
use Rattle.disk.specs.Device.{Content}
use Rattle.disk.specs.declared.block.BlockNo.{BlockNo}
use Rattle.objects.specs.Indexed.{numbers as numbers_of}
use Rattle.objects.specs.Pins.{is_wanted, once_at}
use Rattle.objects.specs.Present.{IsOnce, filled, filled_in, present_of, renewed, renewed_content, renewed_resident}
use Rattle.objects.specs.Present.{with_block}
use Rattle.objects.specs.Recent.{is_tracked}
use Rattle.objects.specs.Unneeded.{AreTracked}
use Rattle.objects.specs.declared.present.Present.{Present}
use Rattle.objects.proofs.Residents.{once_filter, same_block}
use Rattle.objects.proofs.Wanted.{or_true, still_wanted}

-- a resident that nobody needs is noted
abbrev pub IsTracked : List ℕ → (BlockNo → ℕ) → Present → Type 0
IsTracked numbers pins resident = (is_tracked numbers resident.block || is_wanted pins resident) ≡ true

either : (a b c d : Bool) → (a ≡ true → c ≡ true) → (b ≡ true → d ≡ true) → (a || b) ≡ true → (c || d) ≡ true
either true b c d f g h = ap (λ t. t || d) (f refl)
either false b c d f g h = ap (λ t. c || t) (g h) ∙ or_true c

-- by more pins, and with more noted
pub tracked_more : (some more : List ℕ) (few many : BlockNo → ℕ)
    → ((at : BlockNo) → is_tracked some at ≡ true → is_tracked more at ≡ true) → ((at : BlockNo) → few at ≤ many at)
    → (blocks : List Present) → AreTracked some few blocks → AreTracked more many blocks
tracked_more some more few many tracked le =
    All-weaker (IsTracked some few) (IsTracked more many)
    (λ resident h. either (is_tracked some resident.block) (is_wanted few resident) (is_tracked more resident.block)
    (is_wanted many resident) (tracked resident.block) (still_wanted few many resident (le resident.block)) h)

-- a filter leaves what is so of those that it keeps
pub all_preserved : (P Q : Present → Type 0) (keep : Present → Bool)
    → ((resident : Present) → keep resident ≡ true → P resident → Q resident) → (blocks : List Present)
    → All P blocks → All Q (filter keep blocks)
all_preserved P Q keep f [] h = All-nil Q
all_preserved P Q keep f (x ∷ xs) h =
    go (all_preserved P Q keep f xs (All-tail P x xs h)) (keep x) (λ e. f x e (All-head P x xs h))
  where
    go : All Q (filter keep xs) → (t : Bool) → (t ≡ true → Q x) → All Q (cond t (x ∷ filter keep xs) (filter keep xs))
    go rest true here = All-cons Q x (filter keep xs) (here refl) rest
    go rest false here = rest

module _ (block : BlockNo) (numbers : List ℕ) where
  -- a pin less of the block
  pub tracked_unpinned : (old new : BlockNo → ℕ) → ((at : BlockNo) → new at ≡ old at - once_at block at)
      → (blocks : List Present) → AreTracked numbers old blocks → AreTracked (block.0 ∷ numbers) new blocks
  tracked_unpinned old new less =
      All-weaker (IsTracked numbers old) (IsTracked (block.0 ∷ numbers) new)
      (λ resident h. go resident (nat_eq resident.block.0 block.0) refl h)
    where
      same : (n : Bool) (a b : ℕ) → a ≡ b → (n || nat_lt 0 a) ≡ (n || nat_lt 0 b)
      same n a b e = ap (λ m. n || nat_lt 0 m) e

      go : (resident : Present) (t : Bool) → nat_eq resident.block.0 block.0 ≡ t → IsTracked numbers old resident
          → ((t || is_tracked numbers resident.block) || is_wanted new resident) ≡ true
      go resident true e h = refl
      go resident false e h =
          let none : once_at block resident.block ≡ 0 = ap (λ t. if t then 1 else 0) e in
          let stay : new resident.block ≡ old resident.block = omega (arith, less resident.block, none) in
          ap (λ w. is_tracked numbers resident.block || w)
          (same (is_none resident.content) (new resident.block) (old resident.block) stay) ∙ h

  -- where the block is pinned
  pub tracked_pinned : (pins : BlockNo → ℕ) → 0 < pins block → (blocks : List Present)
      → AreTracked (block.0 ∷ numbers) pins blocks → AreTracked numbers pins blocks
  tracked_pinned pins some =
      All-weaker (IsTracked (block.0 ∷ numbers) pins) (IsTracked numbers pins)
      (λ resident h. go resident (nat_eq resident.block.0 block.0) refl h)
    where
      go : (resident : Present) (t : Bool) → nat_eq resident.block.0 block.0 ≡ t
          → ((t || is_tracked numbers resident.block) || is_wanted pins resident) ≡ true → IsTracked numbers pins resident
      go resident true e h =
          let here : pins resident.block ≡ pins block =
          ap pins (same_block resident.block block (eqb-true resident.block.0 block.0 e)) in
          let wanted : is_wanted pins resident ≡ true =
          ap (λ t. is_none resident.content || t) (lt-ltb 0 (pins resident.block) (omega (arith, here, some)))
          ∙ or_true (is_none resident.content) in
          ap (λ t. is_tracked numbers resident.block || t) wanted ∙ or_true (is_tracked numbers resident.block)
      go resident false e h = h

  -- where the block is gone, or its fetch is pending
  pub tracked_gone : (pins : BlockNo → ℕ) (keep : Present → Bool)
      → ((resident : Present) → nat_eq resident.block.0 block.0 ≡ true → keep resident ≡ true
      → is_none resident.content ≡ true) → (blocks : List Present) → AreTracked (block.0 ∷ numbers) pins blocks
      → AreTracked numbers pins (filter keep blocks)
  tracked_gone pins keep gone =
      all_preserved (IsTracked (block.0 ∷ numbers) pins) (IsTracked numbers pins) keep
      (λ resident kept h. go resident (nat_eq resident.block.0 block.0) refl kept h)
    where
      go : (resident : Present) (t : Bool) → nat_eq resident.block.0 block.0 ≡ t → keep resident ≡ true
          → ((t || is_tracked numbers resident.block) || is_wanted pins resident) ≡ true → IsTracked numbers pins resident
      go resident true e kept h =
          ap (λ t. is_tracked numbers resident.block || (t || nat_lt 0 (pins resident.block))) (gone resident e kept)
          ∙ or_true (is_tracked numbers resident.block)
      go resident false e kept h = h

  -- once its content is there
  pub tracked_filled : (pins : BlockNo → ℕ) (content : Content) (blocks : List Present) → AreTracked numbers pins blocks
      → AreTracked (block.0 ∷ numbers) pins (filled blocks block content)
  tracked_filled pins content [] h = All-nil (IsTracked (block.0 ∷ numbers) pins)
  tracked_filled pins content (x ∷ xs) h =
      go (tracked_filled pins content xs (All-tail (IsTracked numbers pins) x xs h)) (nat_eq x.block.0 block.0) refl
    where
      one : Present
      one = record { block = x.block; content = filled_in x.content content }

      wider : (ys : List Present) → AreTracked numbers pins ys → AreTracked (block.0 ∷ numbers) pins ys
      wider =
          tracked_more numbers (block.0 ∷ numbers) pins pins
          (λ at e. ap (λ t. nat_eq at.0 block.0 || t) e ∙ or_true (nat_eq at.0 block.0)) (λ at. omega arith)

      go : AreTracked (block.0 ∷ numbers) pins (filled xs block content) → (t : Bool) → nat_eq x.block.0 block.0 ≡ t
          → AreTracked (block.0 ∷ numbers) pins (if t then one ∷ xs else x ∷ filled xs block content)
      go rest true e =
          All-cons (IsTracked (block.0 ∷ numbers) pins) one xs
          (ap (λ t. (t || is_tracked numbers x.block) || is_wanted pins one) e)
          (wider xs (All-tail (IsTracked numbers pins) x xs h))
      go rest false e =
          All-cons (IsTracked (block.0 ∷ numbers) pins) x (filled xs block content)
          (All-head (IsTracked (block.0 ∷ numbers) pins) x xs (wider (x ∷ xs) h)) rest

module _ (block : BlockNo) (numbers : List ℕ) (pins : BlockNo → ℕ) where
  -- one that is brought is pinned
  pub tracked_brought : (content : Option Content) → 0 < pins block → (blocks : List Present)
      → AreTracked numbers pins blocks → AreTracked numbers pins (with_block blocks block content)
  tracked_brought content some blocks h = go (is_some (present_of blocks block))
    where
      one : Present
      one = record { block = block; content = content }

      here : IsTracked numbers pins one
      here =
          ap (λ t. is_tracked numbers block || (is_none content || t)) (lt-ltb 0 (pins block) some)
          ∙ ap (λ t. is_tracked numbers block || t) (or_true (is_none content)) ∙ or_true (is_tracked numbers block)

      go : (t : Bool) → AreTracked numbers pins (if t then blocks else blocks ++ one ∷ [])
      go true = h
      go false = All-push (IsTracked numbers pins) blocks one h here

  -- with another content
  pub tracked_renewed : (content : Content) (blocks : List Present) → AreTracked numbers pins blocks
      → AreTracked numbers pins (renewed blocks block content)
  tracked_renewed content blocks h =
      All-map (IsTracked numbers pins) (renewed_resident block content) blocks
      (All-weaker (IsTracked numbers pins) (λ resident. IsTracked numbers pins (renewed_resident block content resident))
      one blocks h)
    where
      there : (old : Option Content) → is_none (renewed_content old content) ≡ is_none old
      there None = refl
      there (Some c) = refl

      same : (t : Bool) (old : Option Content) → is_none (if t then renewed_content old content else old) ≡ is_none old
      same true old = there old
      same false old = refl

      one : (resident : Present) → IsTracked numbers pins resident
          → IsTracked numbers pins (renewed_resident block content resident)
      one resident h =
          ap (λ t. is_tracked numbers resident.block || (t || nat_lt 0 (pins resident.block)))
          (same (nat_eq resident.block.0 block.0) resident.content) ∙ h

-- Numbers of which no two are equal.
absent_below : (xs : List Present) (block : BlockNo) → present_of xs block ≡ None
    → AllByRecursion (λ n. nat_eq block.0 n ≡ false) (numbers_of xs)
absent_below [] block e = tt
absent_below (x ∷ xs) block e = go (absent_below xs block) (nat_eq x.block.0 block.0) refl e
  where
    differs : (a b : ℕ) → nat_eq a b ≡ false → nat_eq b a ≡ false
    differs a b e = grind (arith, nat_tests)

    go : (present_of xs block ≡ None → AllByRecursion (λ n. nat_eq block.0 n ≡ false) (numbers_of xs)) → (t : Bool)
        → nat_eq x.block.0 block.0 ≡ t → cond t (Some x) (present_of xs block) ≡ None
        → AllByRecursion (λ n. nat_eq block.0 n ≡ false) (numbers_of (x ∷ xs))
    go rest true is e = absurd (cc)
    go rest false is e = (differs x.block.0 block.0 is, rest e)

distinct : (xs : List Present) → IsOnce xs → IsDistinct nat_eq (numbers_of xs)
unfolding IsDistinct
distinct [] h = tt
distinct (x ∷ xs) h =
    IsDistinct-cons nat_eq x.block.0 (numbers_of xs) (absent_below xs x.block h.0) (distinct xs h.1)

module _ (numbers : List ℕ) (pins : BlockNo → ℕ) where
  abbrev is_unneeded : Present → Bool
  is_unneeded resident = not (is_wanted pins resident)

  listed : (blocks : List Present) → AreTracked numbers pins blocks → (q : ℕ)
      → list_any (nat_eq q) (numbers_of (filter is_unneeded blocks)) ≡ true → list_any (nat_eq q) numbers ≡ true
  listed [] h q e = absurd (cc)
  listed (x ∷ xs) h q e =
      go (listed xs (All-tail (IsTracked numbers pins) x xs h) q) (is_wanted pins x)
      (All-head (IsTracked numbers pins) x xs h) e
    where
      here : (t : Bool) → nat_eq q x.block.0 ≡ t → (is_tracked numbers x.block || false) ≡ true
          → (list_any (nat_eq q) (numbers_of (filter is_unneeded xs)) ≡ true → list_any (nat_eq q) numbers ≡ true)
          → (t || list_any (nat_eq q) (numbers_of (filter is_unneeded xs))) ≡ true → list_any (nat_eq q) numbers ≡ true
      here true is tracked rest e =
          let same : x.block.0 ≡ q = sym (eqb-true q x.block.0 is) in
          subst (λ n. list_any (nat_eq n) numbers ≡ true) same (drop_false (is_tracked numbers x.block) tracked)
        where
          drop_false : (t : Bool) → (t || false) ≡ true → t ≡ true
          drop_false true e = refl
          drop_false false e = e
      here false is tracked rest e = rest e

      go : (list_any (nat_eq q) (numbers_of (filter is_unneeded xs)) ≡ true → list_any (nat_eq q) numbers ≡ true)
          → (w : Bool) → (is_tracked numbers x.block || w) ≡ true
          → list_any (nat_eq q)
          (numbers_of (cond (not w) (x ∷ filter is_unneeded xs) (filter is_unneeded xs))) ≡ true
          → list_any (nat_eq q) numbers ≡ true
      go rest true tracked e = rest e
      go rest false tracked e = here (nat_eq q x.block.0) refl tracked rest e

  -- there are no more of them than are noted
  pub unneeded_tracked : (blocks : List Present) → IsOnce blocks → AreTracked numbers pins blocks
      → length (filter is_unneeded blocks) ≤ length numbers
  unneeded_tracked blocks once tracked =
      let size : length (numbers_of (filter is_unneeded blocks)) ≡ length (filter is_unneeded blocks) =
      length-map (filter is_unneeded blocks) (λ (resident : Present). resident.block.0) in
      let least : length (numbers_of (filter is_unneeded blocks)) ≤ length numbers =
      length-le_from_is_member nat_eq_equiv (numbers_of (filter is_unneeded blocks)) numbers
      (distinct (filter is_unneeded blocks) (once_filter is_unneeded blocks once)) (listed blocks tracked) in
      omega (arith, size, least)

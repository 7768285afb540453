-- Lemmas on the blocks in memory, of which each has one resident.
use Rattle.std.proofs.Common.{◌≡◌, ℕ, Bool, true, false, cond, if◌then◌else◌, nat_eq, List, [], ◌∷◌, ◌++◌}
use Rattle.std.proofs.Common.{Option, Some, None, All, refl, sym, ap, ◌∙◌, ne_eqb}
use Rattle.std.specs.List.{filter}
use Rattle.std.proofs.lemmas.Bool.{eq-eqb}
use Rattle.std.proofs.lemmas.List.Elements.{All-cons, All-head, All-tail}
use Rattle.disk.specs.Device.{Content}
use Rattle.disk.specs.declared.block.BlockNo.{BlockNo}
use Rattle.objects.specs.Present.{present_of, content_in, IsOnce, filled_in, filled}
use Rattle.objects.specs.declared.present.Present.{Present}
use Rattle.objects.proofs.Found.{find_none, find_push_none}

-- a resident of this block
abbrev pub is_of : BlockNo → Present → Bool
is_of block resident = nat_eq resident.block.0 block.0

pub same_block : (one other : BlockNo) → one.0 ≡ other.0 → one ≡ other
same_block one other e = let f : ℕ → BlockNo = λ number. record { 0 = number } in ap f e

pub once_filter : (q : Present → Bool) (xs : List Present) → IsOnce xs → IsOnce (filter q xs)
once_filter q [] h = tt
once_filter q (x ∷ xs) h = go (once_filter q xs h.1) (q x)
  where
    go : IsOnce (filter q xs) → (t : Bool) → IsOnce (cond t (x ∷ filter q xs) (filter q xs))
    go rest true = (find_none (is_of x.block) q xs h.0, rest)
    go rest false = rest

pub once_push : (xs : List Present) (resident : Present) → present_of xs resident.block ≡ None → IsOnce xs
    → IsOnce (xs ++ resident ∷ [])
once_push [] resident absent h = (refl, tt)
once_push (x ∷ xs) resident absent h =
    go (λ e. once_push xs resident e h.1) (nat_eq x.block.0 resident.block.0) refl absent
  where
    differs : nat_eq x.block.0 resident.block.0 ≡ false → resident.block.0 ≡ x.block.0 → ⊥
    differs is same =
        let there : nat_eq x.block.0 resident.block.0 ≡ true = eq-eqb x.block.0 resident.block.0 (sym same) in
        let no : true ≡ false = sym there ∙ is in
        absurd (cc)

    go : (present_of xs resident.block ≡ None → IsOnce (xs ++ resident ∷ [])) → (t : Bool)
        → nat_eq x.block.0 resident.block.0 ≡ t → cond t (Some x) (present_of xs resident.block) ≡ None
        → IsOnce (x ∷ xs ++ resident ∷ [])
    go rest true is e = absurd (cc)
    go rest false is e = (
      find_push_none (is_of x.block) xs (resident ∷ []) h.0
          ∙ ap (λ b. cond b (Some resident) None) (ne_eqb resident.block.0 x.block.0 (differs is)),
      rest e,
    )

module _ (block : BlockNo) (content : Content) where
  abbrev pub filled_one : Present → Present
  filled_one x = record { block = x.block; content = filled_in x.content content }

  stays : (there : Option Content) (c : Content) → there ≡ Some c → filled_in there content ≡ Some c
  stays (Some d) c e = e
  stays None c e = absurd (cc)

  -- a content that is there stays
  pub filled_content : (xs : List Present) (at : BlockNo) (c : Content) → content_in (present_of xs at) ≡ Some c
      → content_in (present_of (filled xs block content) at) ≡ Some c
  filled_content [] at c e = e
  filled_content (x ∷ xs) at c e = go (filled_content xs at c) (nat_eq x.block.0 block.0)
    where
      here : (u : Bool) → content_in (cond u (Some x) (present_of xs at)) ≡ Some c
          → content_in (cond u (Some (filled_one x)) (present_of xs at)) ≡ Some c
      here true e = stays x.content c e
      here false e = e

      later : (content_in (present_of xs at) ≡ Some c
          → content_in (present_of (filled xs block content) at) ≡ Some c) → (u : Bool)
          → content_in (cond u (Some x) (present_of xs at)) ≡ Some c
          → content_in (cond u (Some x) (present_of (filled xs block content) at)) ≡ Some c
      later rest true e = e
      later rest false e = rest e

      go : (content_in (present_of xs at) ≡ Some c
          → content_in (present_of (filled xs block content) at) ≡ Some c) → (t : Bool)
          → content_in (present_of (if t then filled_one x ∷ xs else x ∷ filled xs block content) at) ≡ Some c
      go rest true = here (nat_eq x.block.0 at.0) e
      go rest false = later rest (nat_eq x.block.0 at.0) e

  -- a block without a resident gets none
  pub filled_absent : (xs : List Present) (at : BlockNo) → present_of xs at ≡ None
      → present_of (filled xs block content) at ≡ None
  filled_absent [] at e = e
  filled_absent (x ∷ xs) at e = go (filled_absent xs at) (nat_eq x.block.0 block.0)
    where
      here : (u : Bool) → cond u (Some x) (present_of xs at) ≡ None
          → cond u (Some (filled_one x)) (present_of xs at) ≡ None
      here true e = absurd (cc)
      here false e = e

      later : (present_of xs at ≡ None → present_of (filled xs block content) at ≡ None) → (u : Bool)
          → cond u (Some x) (present_of xs at) ≡ None
          → cond u (Some x) (present_of (filled xs block content) at) ≡ None
      later rest true e = absurd (cc)
      later rest false e = rest e

      go : (present_of xs at ≡ None → present_of (filled xs block content) at ≡ None) → (t : Bool)
          → present_of (if t then filled_one x ∷ xs else x ∷ filled xs block content) at ≡ None
      go rest true = here (nat_eq x.block.0 at.0) e
      go rest false = later rest (nat_eq x.block.0 at.0) e

  pub once_filled : (xs : List Present) → IsOnce xs → IsOnce (filled xs block content)
  once_filled [] h = tt
  once_filled (x ∷ xs) h = go (once_filled xs h.1) (nat_eq x.block.0 block.0)
    where
      go : IsOnce (filled xs block content) → (t : Bool)
          → IsOnce (if t then filled_one x ∷ xs else x ∷ filled xs block content)
      go rest true = h
      go rest false = (filled_absent xs x.block h.0, rest)

  -- what holds of each resident, and of one of a block with a content, holds once it is filled in
  pub each_filled : (P : Present → Type 0) → ((x : Present) → P x → P (filled_one x)) → (xs : List Present)
      → All P xs → All P (filled xs block content)
  each_filled P made [] h = h
  each_filled P made (x ∷ xs) h = go (each_filled P made xs (All-tail P x xs h)) (nat_eq x.block.0 block.0)
    where
      go : All P (filled xs block content) → (t : Bool)
          → All P (if t then filled_one x ∷ xs else x ∷ filled xs block content)
      go rest true = All-cons P (filled_one x) xs (made x (All-head P x xs h)) (All-tail P x xs h)
      go rest false = All-cons P x (filled xs block content) (All-head P x xs h) rest

-- A block has one resident still, whatever is let go, added or renewed.
use Rattle.std.proofs.Common.{◌≡◌, Bool, true, false, not, cond, nat_eq, List, [], ◌∷◌, ◌++◌, Some, None}
use Rattle.std.proofs.Common.{ℕ, if◌then◌else◌, Option, refl, ap, option_map, ◌∙◌}
use Rattle.std.proofs.lemmas.Bool.{eq-eqb}
use Rattle.std.specs.List.{find, items_where_true}
use Rattle.disk.specs.Device.{Content}
use Rattle.disk.specs.declared.block.BlockNo.{BlockNo}
use Rattle.std.specs.Prelude.{is_some}
use Rattle.objects.specs.Present.{present_of, IsOnce, renewed_resident, renewed, with_block, without_block}
use Rattle.objects.specs.declared.present.Present.{Present}
use Rattle.objects.proofs.Residents.{is_of}

-- nothing is found where it wasn't, once some are let go
none_retained : {X : Type 0} (p : X → Bool) (bs : List Bool) (xs : List X) → find p xs ≡ None
    → find p (items_where_true bs xs) ≡ None
none_retained p [] xs e = refl
none_retained p (b ∷ bs) [] e = refl
none_retained p (true ∷ bs) (x ∷ xs) e = go (none_retained p bs xs) (p x) refl e
  where
    go : (find p xs ≡ None → find p (items_where_true bs xs) ≡ None) → (t : Bool) → p x ≡ t
        → cond t (Some x) (find p xs) ≡ None → find p (x ∷ items_where_true bs xs) ≡ None
    go rest true is e = absurd (cc)
    go rest false is e = ap (λ b. cond b (Some x) (find p (items_where_true bs xs))) is ∙ rest e
none_retained p (false ∷ bs) (x ∷ xs) e = go (none_retained p bs xs) (p x) e
  where
    go : (find p xs ≡ None → find p (items_where_true bs xs) ≡ None) → (t : Bool)
        → cond t (Some x) (find p xs) ≡ None → find p (items_where_true bs xs) ≡ None
    go rest true e = absurd (cc)
    go rest false e = rest e

pub once_retained : (bs : List Bool) (xs : List Present) → IsOnce xs → IsOnce (items_where_true bs xs)
once_retained [] xs h = tt
once_retained (b ∷ bs) [] h = tt
once_retained (true ∷ bs) (x ∷ xs) h = (none_retained (is_of x.block) bs xs h.0, once_retained bs xs h.1)
once_retained (false ∷ bs) (x ∷ xs) h = once_retained bs xs h.1

module _ (block : BlockNo) (content : Content) where
  present_of-renewed : (xs : List Present) (at : BlockNo)
      → present_of (renewed xs block content) at ≡ option_map (renewed_resident block content) (present_of xs at)
  present_of-renewed [] at = refl
  present_of-renewed (x ∷ xs) at = go (present_of-renewed xs at) (nat_eq x.block.0 at.0)
    where
      go : present_of (renewed xs block content) at ≡ option_map (renewed_resident block content) (present_of xs at)
          → (t : Bool) → cond t (Some (renewed_resident block content x)) (present_of (renewed xs block content) at)
          ≡ option_map (renewed_resident block content) (cond t (Some x) (present_of xs at))
      go rest true = refl
      go rest false = rest

  pub once_renewed : (xs : List Present) → IsOnce xs → IsOnce (renewed xs block content)
  once_renewed [] h = tt
  once_renewed (x ∷ xs) h = (
    present_of-renewed xs x.block ∙ ap (option_map (renewed_resident block content)) h.0,
    once_renewed xs h.1,
  )

-- a block that is taken back leaves what there was before it came
taken_back : (xs : List Present) (block : BlockNo) (content : Option Content) → present_of xs block ≡ None
    → without_block (xs ++ record { block = block; content = content } ∷ []) block ≡ xs
taken_back [] block content absent =
    ap (λ t. cond (not t) (record { block = block; content = content } ∷ []) []) (same block.0)
  where
    same : (n : ℕ) → nat_eq n n ≡ true
    same n = eq-eqb n n refl
taken_back (x ∷ xs) block content absent =
    go (taken_back xs block content) (nat_eq x.block.0 block.0) refl absent
  where
    go : (present_of xs block ≡ None
        → without_block (xs ++ record { block = block; content = content } ∷ []) block ≡ xs) → (t : Bool)
        → nat_eq x.block.0 block.0 ≡ t → cond t (Some x) (present_of xs block) ≡ None
        → without_block (x ∷ xs ++ record { block = block; content = content } ∷ []) block ≡ x ∷ xs
    go rest true is e = absurd (cc)
    go rest false is e =
        ap (λ t. cond (not t) (x ∷ without_block (xs ++ record { block = block; content = content } ∷ []) block)
        (without_block (xs ++ record { block = block; content = content } ∷ []) block)) is
        ∙ ap (λ ys. x ∷ ys) (rest e)

pub none_of : (resident : Option Present) → is_some resident ≡ false → resident ≡ None
none_of None e = refl
none_of (Some there) e = absurd (cc)

-- where it wasn't there, what is pinned in vain and taken back leaves what there was
pub with_absent : (xs : List Present) (block : BlockNo) (content : Option Content) → present_of xs block ≡ None
    → with_block xs block content ≡ xs ++ record { block = block; content = content } ∷ []
with_absent xs block content absent =
    ap (λ (there : Option Present). if is_some there then xs
    else xs ++ record { block = block; content = content } ∷ []) absent

pub back_as_before : (xs : List Present) (block : BlockNo) (content : Option Content)
    → present_of xs block ≡ None → without_block (with_block xs block content) block ≡ xs
back_as_before xs block content absent =
    ap (λ (ys : List Present). without_block ys block) (with_absent xs block content absent)
    ∙ taken_back xs block content absent

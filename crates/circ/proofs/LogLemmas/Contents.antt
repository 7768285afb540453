-- Lemmas: what a call of the device keeps of the contents of its blocks.
use Rattle.std.proofs.Common.{◌≡◌, ℕ, ◌+◌, ◌-◌, ◌<◌, inl, inr, Bool, true, false, List, [], ◌∷◌, ◌++◌, length}
use Rattle.std.proofs.Common.{drop, get_or, sym, ap, subst, ◌∙◌, arith, Result, Ok, Err, if◌then◌else◌}
use Rattle.std.proofs.lemmas.List.{get_or-drop, length-drop, length-append, get_or_default}
use Rattle.std.proofs.lemmas.List.Elements.{Contains-append_cases}
use Rattle.std.proofs.Math.Seq.{get_or-append_seam}
use Rattle.std.specs.Prelude.{Contains}
use Rattle.disk.specs.declared.block.Side.{Side}
use Rattle.disk.specs.declared.device.Failed.{Failed}
use Rattle.disk.specs.Device.{Content, Device, current, newest, newest_only, is_on, Appends, Settles}
use Rattle.disk.specs.Device.{HasRead, HasWritten, HasSettled}
use Rattle.circ.specs.Log.Law.{LeavesOnly}

-- A block of which no content was added, and whose newest stayed.
pub record PreservesContent (old new : Device) (block : ℕ) : Type 0 where
  pub within : (content : Content) → Contains (current new block) content
      → Contains (current old block) content
  pub newest : newest (current new block) ≡ newest (current old block)

pub preserves_same : (old new : Device) (block : ℕ) → current new block ≡ current old block → PreservesContent old new block
preserves_same old new block e = record {
  within = λ content h. subst (λ (xs : List Content). Contains xs content) e h;
  newest = ap newest e;
}

pub leaves_preserved : (old new : Device) (block : ℕ) (P : Content → Type 0) → PreservesContent old new block
    → LeavesOnly old block P → LeavesOnly new block P
leaves_preserved old new block P preserves h content there = h content (preserves.within content there)

newest_settled : (contents : List Content) → newest (newest_only contents) ≡ newest contents
newest_settled contents =
    let n : ℕ = length contents - 1 in
    let len : length (drop n contents) ≡ length contents - n = length-drop n contents in
    let at : n + (length (drop n contents) - 1) ≡ length contents - 1 = omega (arith, len) in
    get_or-drop n contents (length (drop n contents) - 1) [] ∙ ap (λ (i : ℕ). get_or contents i []) at

-- a member of what is settled was a member
settled_within : (contents : List Content) (content : Content) → Contains (newest_only contents) content
    → Contains contents content
settled_within contents content (i, h, e) =
    let len : length (drop (length contents - 1) contents) ≡ length contents - (length contents - 1) =
    length-drop (length contents - 1) contents in (
      length contents - 1 + i,
      omega (arith, len),
      sym (get_or-drop (length contents - 1) contents i content)
          ∙ e,
    )

-- and is the newest
settled_newest : (contents : List Content) (content : Content) → Contains (newest_only contents) content
    → content ≡ newest contents
settled_newest contents content (i, h, e) =
    let len : length (drop (length contents - 1) contents) ≡ length contents - (length contents - 1) =
    length-drop (length contents - 1) contents in
    let at : length contents - 1 + i ≡ length contents - 1 = omega (arith, len) in
    let some : length contents - 1 < length contents = omega (arith, len) in
    sym e ∙ get_or-drop (length contents - 1) contents i content ∙ ap (λ n. get_or contents n content) at
    ∙ get_or_default contents (length contents - 1) content [] some

settles_within : (side : Side) (block : ℕ) (r : Result Unit Failed) (old new : List Content)
    → Settles side block old r new
    → ((content : Content) → Contains new content → Contains old content) × (newest new ≡ newest old)
settles_within side block (Err u) old new h =
    (λ content there. subst (λ (xs : List Content). Contains xs content) h there, ap newest h)
settles_within side block (Ok u) old new h =
    elim (is_on side block) as (λ on. new ≡ (if on then newest_only old else old)
    → ((content : Content) → Contains new content → Contains old content) × (newest new ≡ newest old)) [
      | true ↦ λ e. (
        λ content there. settled_within old content
            (subst (λ (xs : List Content). Contains xs content) e there),
        ap newest e ∙ newest_settled old,
      )
      | false ↦ λ e. (
        λ content there. subst (λ (xs : List Content). Contains xs content) e there,
        ap newest e,
      )
    ] h

-- a barrier keeps each block
pub preserves_settled : (old new : Device) (side : Side) (r : Result Unit Failed) (block : ℕ)
    → HasSettled old side r new → PreservesContent old new block
preserves_settled old new side r block h =
    let p = settles_within side block r (current old block) (current new block) (h.contents block) in
    record { within = p.0; newest = p.1 }

pub preserves_read : (old new : Device) (block : ℕ) → HasRead old new → PreservesContent old new block
preserves_read old new block h = preserves_same old new block (h.contents block)

-- a barrier of its side leaves of a block only the newest
pub leaves_newest : (old new : Device) (side : Side) (block : ℕ) (P : Content → Type 0)
    → HasSettled old side (Ok tt) new → is_on side block ≡ true
    → P (newest (current old block)) → LeavesOnly new block P
leaves_newest old new side block P h on holds content there =
    let e : current new block ≡ newest_only (current old block) = h.contents block
    ∙ ap (λ (t : Bool). if t then newest_only (current old block) else current old block) on in
    let is : content ≡ newest (current old block) =
    settled_newest (current old block) content
    (subst (λ (xs : List Content). Contains xs content) e there) in
    subst P (sym is) holds

pub one_member : (one other : Content) → Contains (one ∷ []) other → one ≡ other
one_member one other (i, h, e) = let at : i ≡ 0 = omega (arith, h) in
    ap (λ n. get_or (one ∷ []) n other) (sym at) ∙ e

-- a write leaves of its block what it left before, and what it wrote
pub leaves_written : (old new : Device) (block : ℕ) (wrote : Content) (r : Result Unit Failed)
    (P : Content → Type 0)
    → HasWritten old block wrote r new
    → P wrote → LeavesOnly old block P → LeavesOnly new block P
leaves_written old new block wrote r P h holds before content there = appended r h.written
  where
    same : current new block ≡ current old block → P content
    same e = before content (subst (λ (xs : List Content). Contains xs content) e there)

    more : current new block ≡ current old block ++ wrote ∷ [] → P content
    more e =
        elim (Contains-append_cases (current old block) (wrote ∷ []) content
        (subst (λ (xs : List Content). Contains xs content) e there)) [
          | inl earlier ↦ before content earlier
          | inr it ↦ subst P (one_member wrote content it) holds
        ]

    appended : (r : Result Unit Failed) → Appends (current old block) wrote r (current new block) → P content
    appended (Ok u) e = more e
    appended (Err u) (inl e) = same e
    appended (Err u) (inr e) = more e

-- what was written is the newest
pub newest_written : (old new : Device) (block : ℕ) (wrote : Content) → HasWritten old block wrote (Ok tt) new
    → newest (current new block) ≡ wrote
newest_written old new block wrote h =
    let n : length (current old block ++ wrote ∷ []) ≡ length (current old block) + 1 =
    length-append (current old block) (wrote ∷ []) in
    let at : length (current old block ++ wrote ∷ []) - 1 ≡ length (current old block) = omega (arith, n) in
    ap newest h.written ∙ ap (λ i. get_or (current old block ++ wrote ∷ []) i []) at
    ∙ get_or-append_seam (current old block) wrote [] []

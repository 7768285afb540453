-- Bytes that are put where others were put, and bytes that are put where they lie.
use Rattle.std.proofs.Common.{◌≡◌, ℕ, ◌+◌, ◌≤◌, inl, inr, sym, ap, ◌∙◌, subst, List, ◌++◌, length, take, drop}
use Rattle.std.proofs.Common.{length-append, arith}
use Rattle.std.proofs.Math.Seq.{drop-append_seam, take-add}
use Rattle.std.proofs.lemmas.Bool.{cases_eq}
use Rattle.std.proofs.lemmas.List.{length-take-le, take-append-drop}
use Rattle.disk.specs.Crash.{Image}
use Rattle.objects.specs.Spliced.{spliced}
use Rattle.objects.proofs.Splices.{ahead}
use Rattle.layout.specs.Parts.{with_bytes}
use Rattle.layout.proofs.Fits.{part-length}
use Rattle.layout.proofs.Written.{elsewhere, here}

spliced_again : (content old new : List ℕ) (offset : ℕ) → length old ≡ length new
    → offset + length old ≤ length content
    → spliced (spliced content offset old) offset new ≡ spliced content offset new
spliced_again content old new offset same has_space =
    λ i. ahead content old offset has_space 0 offset (omega arith) i ++ new ++ behind i
  where
    seam : offset + length new ≡ length (take offset content ++ old)
    seam =
        let both = length-append (take offset content) old in
        let first = length-take-le offset content (omega (arith, has_space)) in
        omega (arith, both, first, same)

    behind : drop (offset + length new) (spliced content offset old) ≡ drop (offset + length new) content
    behind = ap (λ k. drop k (spliced content offset old)) seam
        ∙ drop-append_seam (take offset content ++ old) (drop (offset + length old) content)
        ∙ ap (λ k. drop (offset + k) content) same

spliced_same : (content : List ℕ) (offset len : ℕ) → offset + len ≤ length content
    → spliced content offset (take len (drop offset content)) ≡ content
spliced_same content offset len has_space =
    (λ i. sym (take-add offset len content) i ++ drop (offset + part-length len offset content has_space i) content)
    ∙ take-append-drop (offset + len) content

-- what is put last stays
pub put_again : (image : Image) (at offset : ℕ) (old new : List ℕ) → length old ≡ length new
    → offset + length old ≤ length (image at)
    → with_bytes (with_bytes image at offset old) at offset new ≡ with_bytes image at offset new
put_again image at offset old new same has_space = λ i block. one block i
  where
    one : (block : ℕ) → with_bytes (with_bytes image at offset old) at offset new block
        ≡ with_bytes image at offset new block
    one block = elim (cases_eq block at) [
      | inl is ↦
          subst (λ k. with_bytes (with_bytes image at offset old) at offset new k ≡ with_bytes image at offset new k)
          (sym is)
          (here (with_bytes image at offset old) at offset new
          ∙ ap (λ content. spliced content offset new) (here image at offset old)
          ∙ spliced_again (image at) old new offset same has_space ∙ sym (here image at offset new))
      | inr not ↦
          elsewhere (with_bytes image at offset old) at offset new block not
          ∙ elsewhere image at offset old block not ∙ sym (elsewhere image at offset new block not)
    ]

-- what is put where it lies changes nothing
pub put_same : (image : Image) (at offset len : ℕ) → offset + len ≤ length (image at)
    → with_bytes image at offset (take len (drop offset (image at))) ≡ image
put_same image at offset len has_space = λ i block. one block i
  where
    one : (block : ℕ) → with_bytes image at offset (take len (drop offset (image at))) block ≡ image block
    one block = elim (cases_eq block at) [
      | inl is ↦
          subst (λ k. with_bytes image at offset (take len (drop offset (image at))) k ≡ image k) (sym is)
          (here image at offset (take len (drop offset (image at))) ∙ spliced_same (image at) offset len has_space)
      | inr not ↦ elsewhere image at offset (take len (drop offset (image at))) block not
    ]

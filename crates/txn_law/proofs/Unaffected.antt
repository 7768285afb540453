-- Lemmas: what lies beside the bytes that are laid over a block stays.
use Rattle.std.proofs.Common.{◌≡◌, ◌+◌, ◌≤◌, Bool, true, false, if◌then◌else◌, nat_eq, ◌⊎◌, inl, inr}
use Rattle.std.proofs.Common.{List, [], ◌∷◌, length, take, drop, All, refl, sym, ◌∙◌, arith}
use Rattle.std.proofs.lemmas.Bool.{eqb-true, cases_lt}
use Rattle.std.proofs.lemmas.List.Elements.{All-head, All-tail}
use Rattle.base.specs.declared.TheConstants.{BLOCK_BYTES}
use Rattle.disk.specs.Crash.{Image}
use Rattle.objects.specs.Addr.{Overlap}
use Rattle.objects.specs.Spliced.{spliced}
use Rattle.objects.specs.declared.addr.Addr.{Addr}
use Rattle.objects.proofs.Splices.{spliced-length, ahead, behind}
use Rattle.objects.specs.Object.{ObjectBytes}
use Rattle.txn_law.specs.Window.{object_at, with_object, with_objects}
use Rattle.objects.proofs.Residents.{same_block}

-- an object that shares no byte with those that are laid over a block
module _ (addr : Addr) where
  abbrev IsApart : ObjectBytes → Type 0
  IsApart object = Overlap object.addr addr → ⊥

  abbrev IsSized : ObjectBytes → Type 0
  IsSized object = length object.bytes ≡ object.addr.len

  one_apart : (image : Image) (object : ObjectBytes) → IsApart object → IsSized object
      → length (image addr.block.0) ≡ BLOCK_BYTES
      → (object_at (with_object image object) addr ≡ object_at image addr)
      × (length (with_object image object addr.block.0) ≡ BLOCK_BYTES)
  one_apart image object apart size whole = go (nat_eq addr.block.0 object.addr.block.0) refl
    where
      fits : object.addr.offset + length object.bytes ≤ length (image addr.block.0)
      fits = let w = object.addr.within in omega (arith, w, size, whole)

      side : addr.block.0 ≡ object.addr.block.0 → (addr.offset + addr.len ≤ object.addr.offset)
          ⊎ (object.addr.offset + length object.bytes ≤ addr.offset)
      side same = elim (cases_lt object.addr.offset (addr.offset + addr.len)) [
        | inr more ↦ inl more
        | inl less ↦ elim (cases_lt addr.offset (object.addr.offset + object.addr.len)) [
          | inr more ↦ inr (omega (arith, more, size))
          | inl also ↦ absurd (apart (same_block object.addr.block addr.block (sym same), less, also))
        ]
      ]

      go : (t : Bool) → nat_eq addr.block.0 object.addr.block.0 ≡ t
          → (take addr.len (drop addr.offset (if t then spliced (image addr.block.0)
          object.addr.offset object.bytes
          else image addr.block.0)) ≡ object_at image addr)
          × (length (if t then spliced (image addr.block.0) object.addr.offset object.bytes
          else image addr.block.0) ≡ BLOCK_BYTES)
      go false other = (refl, whole)
      go true same = (
        elim (side (eqb-true addr.block.0 object.addr.block.0 same)) [
          | inl less ↦ ahead (image addr.block.0) object.bytes object.addr.offset fits addr.offset addr.len less
          | inr more ↦ behind (image addr.block.0) object.bytes object.addr.offset fits
              addr.offset addr.len more
        ],
        spliced-length (image addr.block.0) object.bytes object.addr.offset fits ∙ whole,
      )

  pub stays_unaffected : (image : Image) (objects : List ObjectBytes) → All IsApart objects → All IsSized objects
      → length (image addr.block.0) ≡ BLOCK_BYTES
      → object_at (with_objects image objects) addr ≡ object_at image addr
  stays_unaffected image [] apart sizes whole = refl
  stays_unaffected image (o ∷ os) apart sizes whole =
      let (same, still) = one_apart image o (All-head IsApart o os apart) (All-head IsSized o os sizes) whole in
      stays_unaffected (with_object image o) os (All-tail IsApart o os apart)
      (All-tail IsSized o os sizes) still ∙ same

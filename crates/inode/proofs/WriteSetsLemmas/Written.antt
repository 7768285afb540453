-- What is written over blocks lies in them, and all else is as before.
use Rattle.std.proofs.Common.{◌≡◌, ℕ, ◌+◌, ◌<◌, ◌≤◌, inl, inr, sym, ap, ◌∙◌, refl, subst, true, false}
use Rattle.std.proofs.Common.{◌&&◌, List, [], ◌∷◌, ◌++◌, length, take, drop, Contains, arith}
use Rattle.std.proofs.lemmas.Bool.{cases_eq, eq-eqb}
use Rattle.base.specs.declared.TheConstants.{BLOCK_BYTES}
use Rattle.disk.specs.Crash.{Image}
use Rattle.objects.specs.declared.addr.Addr.{Addr}
use Rattle.objects.specs.Spliced.{spliced}
use Rattle.objects.proofs.Splices.{there, ahead, behind, spliced-length}
use Rattle.layout.specs.declared.geometry.Geometry.{Geometry}
use Rattle.layout.specs.Objects.{IsObject}
use Rattle.layout.specs.Parts.{with_bytes}
use Rattle.layout.proofs.OnGrid.{apart, at_home}
use Rattle.layout.proofs.Written.{elsewhere, here}
use Rattle.objects.specs.Object.{ObjectBytes}
use Rattle.txn_law.specs.Window.{object_at, with_object, with_objects}
use Rattle.inode.specs.Snap.{same_addr}
use Rattle.inode.specs.WriteSets.WriteSetContents.{WriteSetContents, Shows}
use Rattle.inode.specs.WriteSets.Upserted.{upserted}
use Rattle.inode.proofs.WriteSetsLemmas.UpsertedObjects.{upserted_cases}

-- objects laid over blocks one after another
pub behind_others : (blocks : Image) (written : List ObjectBytes) (object : ObjectBytes)
    → with_objects blocks (written ++ object ∷ []) ≡ with_object (with_objects blocks written) object
behind_others blocks [] object = refl
behind_others blocks (first ∷ written) object = behind_others (with_object blocks first) written object

module _ (image : Image) (addr : Addr) (bytes : List ℕ) (long : length (image addr.block.0) ≡ BLOCK_BYTES)
    (size : length bytes ≡ addr.len) where
  abbrev written : Image
  written = with_bytes image addr.block.0 addr.offset bytes

  has_space : addr.offset + length bytes ≤ length (image addr.block.0)
  has_space = let within = addr.within in omega (arith, long, size, within)

  pub itself : object_at written addr ≡ bytes
  itself =
      ap (λ content. take addr.len (drop addr.offset content)) (here image addr.block.0 addr.offset bytes)
      ∙ ap (λ k. take k (drop addr.offset (spliced (image addr.block.0) addr.offset bytes))) (sym size)
      ∙ there (image addr.block.0) bytes addr.offset has_space

  -- another object of the image
  pub other : (g : Geometry) (one : Addr) → IsObject g addr → IsObject g one → same_addr one addr ≡ false
      → object_at written one ≡ object_at image one
  other g one is also differs = elim (cases_eq one.block.0 addr.block.0) [
    | inr not ↦ ap (λ content. take one.len (drop one.offset content))
        (elsewhere image addr.block.0 addr.offset bytes one.block.0 not)
    | inl same ↦ (elim (apart g one addr same also is) [
      | inl equal ↦ absurd (let clash : true ≡ false = sym (λ i. eq-eqb one.block.0 addr.block.0 same i
          && eq-eqb one.offset addr.offset equal.0 i && eq-eqb one.len addr.len equal.1 i) ∙ differs in cc)
      | inr differ ↦ moved same ∙ (elim differ [
        | inl before ↦ ahead (image addr.block.0) bytes addr.offset has_space one.offset one.len before
        | inr after ↦ behind (image addr.block.0) bytes addr.offset has_space one.offset one.len
            (omega (arith, after, size))
      ]) ∙ ap (λ k. take one.len (drop one.offset (image k))) (sym same)
    ])
  ]
    where
      moved : one.block.0 ≡ addr.block.0
          → object_at written one
          ≡ take one.len (drop one.offset (spliced (image addr.block.0) addr.offset bytes))
      moved same = ap (λ k. take one.len (drop one.offset (written k))) same
          ∙ ap (λ content. take one.len (drop one.offset content)) (here image addr.block.0 addr.offset bytes)

pub long_still : (image : Image) (addr : Addr) (bytes : List ℕ) (blocks : ℕ)
    → ((number : ℕ) → number < blocks → length (image number) ≡ BLOCK_BYTES) → length bytes ≡ addr.len
    → (number : ℕ) → number < blocks
    → length (with_bytes image addr.block.0 addr.offset bytes number) ≡ BLOCK_BYTES
long_still image addr bytes blocks long size number less = elim (cases_eq number addr.block.0) [
  | inl same ↦
      let whole = long addr.block.0 (subst (λ k. k < blocks) same less) in
      let within = addr.within in
      ap (λ k. length (with_bytes image addr.block.0 addr.offset bytes k)) same
      ∙ ap (λ (l : List ℕ). length l) (here image addr.block.0 addr.offset bytes)
      ∙ spliced-length (image addr.block.0) bytes addr.offset (omega (arith, whole, size, within)) ∙ whole
  | inr not ↦ ap (λ (l : List ℕ). length l) (elsewhere image addr.block.0 addr.offset bytes number not)
      ∙ long number less
]

-- a write set after an object was laid in its place
pub shows_upserted : (write_set next : WriteSetContents) (addr : Addr) (bytes : List ℕ) (image : Image)
    → next.there.geometry ≡ write_set.there.geometry
    → next.there.objects.items ≡ upserted write_set.there.objects.items (record { addr = addr; bytes = bytes })
    → length bytes ≡ addr.len → Shows write_set image → IsObject write_set.there.geometry addr
    → Shows next (with_bytes image addr.block.0 addr.offset bytes)
shows_upserted write_set next addr bytes image geometry objects size shows is = record {
  long = λ number less.
      long_still image addr bytes write_set.there.geometry.blocks shows.long size number
      (subst (λ (g : Geometry). number < g.blocks) geometry less);
  grid = λ one has.
      subst (λ (g : Geometry). IsObject g one.addr) (sym geometry)
      (elim (upserted_cases write_set.there.objects.items (record { addr = addr; bytes = bytes }) one
      (subst (λ l. Contains l one) objects has)) [
        | inl itself ↦ subst (λ (o : ObjectBytes). IsObject write_set.there.geometry o.addr) (sym itself) is
        | inr kept ↦ shows.grid one kept.0
      ]);
  saw = λ one has.
      elim (upserted_cases write_set.there.objects.items (record { addr = addr; bytes = bytes }) one
      (subst (λ l. Contains l one) objects has)) [
        | inl same ↦ subst
            (λ (o : ObjectBytes). object_at (with_bytes image addr.block.0 addr.offset bytes) o.addr
            ≡ o.bytes) (sym same)
            (itself image addr bytes whole size)
        | inr kept ↦ other image addr bytes whole size write_set.there.geometry one.addr is
            (shows.grid one kept.0) kept.1 ∙ shows.saw one kept.0
      ];
}
  where
    whole : length (image addr.block.0) ≡ BLOCK_BYTES
    whole = shows.long addr.block.0 (at_home write_set.there.geometry addr is).1

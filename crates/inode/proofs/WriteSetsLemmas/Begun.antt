-- A write set in which nothing is written yet.
use Rattle.std.proofs.Common.{◌≡◌, ◌<◌, sym, ◌∙◌, refl, subst, Bool, true, false, cond, ◌||◌, List, [], ◌∷◌}
use Rattle.std.proofs.Common.{filter, nat_eq, Contains, All}
use Rattle.std.proofs.lemmas.Bool.{eqb-true}
use Rattle.std.proofs.lemmas.List.Elements.{All-contains, All-contains_itself, All-filter, All-nil, filter_passes}
use Rattle.disk.specs.Crash.{Image}
use Rattle.nfs_spec.specs.Model.Tree.{Tree}
use Rattle.objects.specs.declared.addr.Addr.{Addr}
use Rattle.layout.specs.declared.geometry.Geometry.{Geometry}
use Rattle.layout.specs.Holds.{Holds}
use Rattle.layout.specs.Objects.{IsObject}
use Rattle.objects.specs.Object.{ObjectBytes}
use Rattle.inode.specs.declared.snap.Snap.{Snap}
use Rattle.inode.specs.Read.{Saw}
use Rattle.inode.specs.Snap.{MayWrite, is_seen, same_addr}
use Rattle.inode.proofs.AllTests.{all_three}
use Rattle.inode.specs.WriteSets.WriteSetContents.{IsAfter, IsWriteSet, IsValidWriteSet}
use Rattle.layout_records.specs.OnGrid.{is_on_grid, is_part}
use Rattle.layout_records.proofs.OnGrid.{is_object, on_grid}

abbrev of_image : Geometry → ObjectBytes → Bool
of_image g object = is_on_grid g object.addr

same_test : (g : Geometry) (a b : Addr) → same_addr a b ≡ true → is_on_grid g a ≡ is_on_grid g b
same_test g a b same =
    let all = all_three (nat_eq a.block.0 b.block.0) (nat_eq a.offset b.offset) (nat_eq a.len b.len) same in
    let block = eqb-true a.block.0 b.block.0 all.0 in
    let offset = eqb-true a.offset b.offset all.1 in
    let len = eqb-true a.len b.len all.2 in
    λ i. is_part g (block i) (offset i) (len i)

or_false : (a b : Bool) → (a || b) ≡ false → (a ≡ false) × (b ≡ false)
or_false true b e = cc
or_false false b e = (refl, e)

neither : (a b : Bool) → a ≡ false → b ≡ false → (a || b) ≡ false
neither a b one two = λ i. one i || two i

-- an object of the image that isn't among those that are kept wasn't read
seen_preserved : (g : Geometry) (addr : Addr) → IsObject g addr → (items : List ObjectBytes)
    → is_seen addr (filter (of_image g) items) ≡ false → is_seen addr items ≡ false
seen_preserved g addr is [] none = refl
seen_preserved g addr is (o ∷ items) none =
    by_test (seen_preserved g addr is items) (is_on_grid g o.addr) refl none
  where
    other : is_on_grid g o.addr ≡ false → (same : Bool) → same_addr addr o.addr ≡ same → same ≡ false
    other off true same =
        let clash : true ≡ false = sym (on_grid g addr is) ∙ same_test g addr o.addr same ∙ off in cc
    other off false same = refl

    by_test : (is_seen addr (filter (of_image g) items) ≡ false → is_seen addr items ≡ false)
        → (test : Bool) → is_on_grid g o.addr ≡ test
        → is_seen addr (cond test (o ∷ filter (of_image g) items) (filter (of_image g) items)) ≡ false
        → (same_addr addr o.addr || is_seen addr items) ≡ false
    by_test rest true at e =
        let both = or_false (same_addr addr o.addr) (is_seen addr (filter (of_image g) items)) e in
        neither (same_addr addr o.addr) (is_seen addr items) both.0 (rest both.1)
    by_test rest false at e =
        neither (same_addr addr o.addr) (is_seen addr items) (other at (same_addr addr o.addr) refl) (rest e)

module _ (seen there : Snap) (geometry : there.geometry ≡ seen.geometry)
    (claims : there.claims.items ≡ seen.claims.items) (exclusives : there.exclusives.items ≡ seen.exclusives.items)
    (objects : there.objects.items ≡ filter (of_image seen.geometry) seen.objects.items) where
  begun_after : IsAfter seen there
  begun_after = record {
    geometry = geometry;
    claims = claims;
    exclusives = exclusives;
    all = λ addr is none. seen_preserved seen.geometry addr (subst (λ (g : Geometry). IsObject g addr) geometry is)
        seen.objects.items (subst (λ l. is_seen addr l ≡ false) objects none);
  }

  pub begun_preserved : (written : List ObjectBytes) → written ≡ []
      → IsValidWriteSet (record { seen = seen; there = there; written = written })
  begun_preserved written none = record {
    after = begun_after;
    grid = subst (All (λ (object : ObjectBytes). IsObject there.geometry object.addr)) (sym none)
        (All-nil (λ (object : ObjectBytes). IsObject there.geometry object.addr));
    given = subst (All (λ (object : ObjectBytes). MayWrite seen object.addr)) (sym none)
        (All-nil (λ (object : ObjectBytes). MayWrite seen object.addr));
  }

  of_preserved : (object : ObjectBytes) → Contains there.objects.items object
      → (is_on_grid seen.geometry object.addr ≡ true) × Contains seen.objects.items object
  of_preserved object has =
      let kept : Contains (filter (of_image seen.geometry) seen.objects.items) object =
      subst (λ (l : List ObjectBytes). Contains l object) objects has in (
        All-contains (λ one. of_image seen.geometry one ≡ true)
            (filter (of_image seen.geometry) seen.objects.items) object
            (filter_passes (of_image seen.geometry) seen.objects.items) kept,
        All-contains (Contains seen.objects.items) (filter (of_image seen.geometry) seen.objects.items) object
            (All-filter (of_image seen.geometry) (Contains seen.objects.items) seen.objects.items
            (All-contains_itself seen.objects.items)) kept,
      )

  pub begun_write_set : (written : List ObjectBytes) → written ≡ [] → (blocks : Image) (tree : Tree)
      → Holds seen.geometry blocks tree → Saw blocks seen
      → IsWriteSet (record { seen = seen; there = there; written = written }) blocks tree
  begun_write_set written none blocks tree holds saw =
      subst (λ (w : List ObjectBytes). IsWriteSet (record { seen = seen; there = there; written = w }) blocks tree)
      (sym none) (record {
        shows = record {
          long = λ number less.
              (holds.bytes number (subst (λ (g : Geometry). number < g.blocks) geometry less)).0;
          grid = λ object has.
              subst (λ (g : Geometry). IsObject g object.addr) (sym geometry)
              (is_object seen.geometry object.addr (of_preserved object has).0);
          saw = λ object has. saw object (of_preserved object has).1;
        };
        holds = subst (λ (g : Geometry). Holds g blocks tree) (sym geometry) holds;
      })

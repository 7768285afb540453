-- A write set stays what it is where its parts are other values with the same items.
use Rattle.std.proofs.Common.{◌≡◌, sym, subst, All, List}
use Rattle.layout.specs.Objects.{IsObject}
use Rattle.layout.specs.declared.geometry.Geometry.{Geometry}
use Rattle.objects.specs.Object.{ObjectBytes}
use Rattle.inode.specs.declared.snap.Snap.{Snap}
use Rattle.inode.specs.Snap.{MayWrite, is_seen}
use Rattle.std.proofs.Common.{false, ◌∙◌}
use Rattle.inode.specs.WriteSets.WriteSetContents.{IsValidWriteSet}

pub preserved_with : (seen old new : Snap) → new.geometry ≡ old.geometry → new.claims.items ≡ old.claims.items
    → new.exclusives.items ≡ old.exclusives.items
    → new.objects.items ≡ old.objects.items → (before after : List ObjectBytes) → after ≡ before
    → IsValidWriteSet (record { seen = seen; there = old; written = before })
    → IsValidWriteSet (record { seen = seen; there = new; written = after })
preserved_with seen old new geometry claims exclusives objects before after same kept = record {
  after = record {
    geometry = geometry ∙ kept.after.geometry;
    claims = claims ∙ kept.after.claims;
    exclusives = exclusives ∙ kept.after.exclusives;
    all = λ addr is none. kept.after.all addr (subst (λ (g : Geometry). IsObject g addr) geometry is)
        (subst (λ l. is_seen addr l ≡ false) objects none);
  };
  grid = subst (λ (g : Geometry). All (λ (one : ObjectBytes). IsObject g one.addr) after) (sym geometry)
      (subst (All (λ (one : ObjectBytes). IsObject old.geometry one.addr)) (sym same) kept.grid);
  given = subst (All (λ (one : ObjectBytes). MayWrite seen one.addr)) (sym same) kept.given;
}

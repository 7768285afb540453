-- What was read, by its address.
use Rattle.std.proofs.Common.{◌≡◌, ℕ, ◌∙◌, sym, ap, refl, Bool, true, false, ◌||◌, ◌&&◌, List, [], ◌∷◌, Contains}
use Rattle.std.proofs.Common.{nat_eq, length, get_or, zero, suc, ◌<◌, arith}
use Rattle.std.proofs.lemmas.Bool.{eq-eqb}
use Rattle.std.specs.List.{list_any}
use Rattle.std.proofs.lemmas.List.Folds.{list_any_at}
use Rattle.base.specs.declared.TheConstants.{BLOCK_BYTES}
use Rattle.disk.specs.Crash.{Image}
use Rattle.objects.specs.declared.addr.Addr.{Addr}
use Rattle.layout.specs.declared.geometry.Geometry.{Geometry}
use Rattle.layout_records.specs.OnGrid.{IsInodeAt}
use Rattle.objects.specs.Object.{ObjectBytes}
use Rattle.inode.specs.declared.snap.Snap.{Snap}
use Rattle.inode.specs.Snap.{is_seen, same_addr}
use Rattle.inode.proofs.AllTests.{all_three, same_number}
use Rattle.inode.proofs.ReadThere.{whole_there}
use Rattle.inode.specs.Read.{Saw}

-- the addresses are one
pub record IsSame (a b : Addr) : Type 0 where
  pub block : a.block.0 ≡ b.block.0
  pub offset : a.offset ≡ b.offset
  pub len : a.len ≡ b.len

pub same : (a b : Addr) → same_addr a b ≡ true → IsSame a b
same a b is =
    let all = all_three (nat_eq a.block.0 b.block.0) (nat_eq a.offset b.offset) (nat_eq a.len b.len) is in record {
      block = same_number a.block.0 b.block.0 all.0;
      offset = same_number a.offset b.offset all.1;
      len = same_number a.len b.len all.2;
    }

-- addresses that are one were both read
pub seen_same : (a b : Addr) (objects : List ObjectBytes) → IsSame a b → is_seen a objects ≡ is_seen b objects
seen_same a b objects is =
    λ i. list_any (λ (object : ObjectBytes). nat_eq (is.block i) object.addr.block.0 && nat_eq (is.offset i) object.addr.offset
    && nat_eq (is.len i) object.addr.len) objects

-- an address is that of an object that was read
pub seen_of : (a : Addr) (object : ObjectBytes) (objects : List ObjectBytes) → Contains objects object
    → same_addr a object.addr ≡ true → is_seen a objects ≡ true
seen_of a object objects there is =
    list_any_at (λ (one : ObjectBytes). same_addr a one.addr) objects there.0 object there.1
    (ap (λ (one : ObjectBytes). same_addr a one.addr) there.2 ∙ is)

-- the object of an address that was read
pub seen_there : (a : Addr) (objects : List ObjectBytes) → is_seen a objects ≡ true
    → (k : ℕ) × (k < length objects) × ((d : ObjectBytes) → same_addr a (get_or objects k d).addr ≡ true)
seen_there a [] none = let clash : false ≡ true = none in cc
seen_there a (x ∷ xs) some = go (seen_there a xs) (same_addr a x.addr) refl some
  where
    go : (is_seen a xs ≡ true
        → (k : ℕ) × (k < length xs) × ((d : ObjectBytes) → same_addr a (get_or xs k d).addr ≡ true)) → (t : Bool)
        → same_addr a x.addr ≡ t → (t || is_seen a xs) ≡ true
        → (k : ℕ) × (k < suc (length xs)) × ((d : ObjectBytes) → same_addr a (get_or (x ∷ xs) k d).addr ≡ true)
    go rest true is some = (0, omega arith, λ d. is)
    go rest false is some =
        let found = rest some in let less = found.1 in (suc found.0, omega (arith, less), λ d. found.2 d)

-- the inode of a number lies at an address that is the same
pub inode_same : (g : Geometry) (number : ℕ) (a b : Addr) → IsSame a b → IsInodeAt g number a → IsInodeAt g number b
inode_same g number a b is at = record {
  less = at.less;
  block = sym is.block ∙ at.block;
  offset = sym is.offset ∙ at.offset;
  len = sym is.len ∙ at.len;
}

-- a data block that was read has the bytes of its number
pub block_there : (snap : Snap) (blocks : Image) (number : ℕ) (a : Addr) (object : ObjectBytes)
    → a.block.0 ≡ number → a.offset ≡ 0 → a.len ≡ BLOCK_BYTES
    → Contains snap.objects.items object → same_addr a object.addr ≡ true → Saw blocks snap
    → length (blocks number) ≡ BLOCK_BYTES → object.bytes ≡ blocks number
block_there snap blocks number a object block offset len there is saw long =
    let one = same a object.addr is in
    whole_there blocks number object.addr object.bytes (sym one.block ∙ block) (sym one.offset ∙ offset)
    (sym one.len ∙ len) (saw object there) long

pub same_self : (a : Addr) → same_addr a a ≡ true
same_self a =
    λ i. eq-eqb a.block.0 a.block.0 refl i && eq-eqb a.offset a.offset refl i && eq-eqb a.len a.len refl i

-- an item of a list is the same whatever stands for none
pub one_item : {X : Type 0} (xs : List X) (k : ℕ) (d e : X) → k < length xs → get_or xs k d ≡ get_or xs k e
one_item [] k d e less = absurd (omega (arith, less))
one_item (x ∷ xs) zero d e less = refl
one_item (x ∷ xs) (suc k) d e less = one_item xs k d e (omega (arith, less))

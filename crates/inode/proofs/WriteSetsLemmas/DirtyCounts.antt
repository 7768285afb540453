-- How a count of what was written goes on by one object.
use Rattle.std.proofs.Common.{◌≡◌, ℕ, ◌+◌, ◌≤◌, sym, ap, ◌∙◌, refl, Bool, true, false, cond, not, ◌||◌, ◌&&◌}
use Rattle.std.proofs.Common.{List, [], ◌∷◌, ◌++◌, nat_eq, arith}
use Rattle.std.proofs.lemmas.Bool.{eqb-true}
use Rattle.std.proofs.lemmas.Bool.Decides.{nat_tests}
use Rattle.base.specs.declared.TheConstants.{INODE_BYTES}
use Rattle.objects.specs.declared.addr.Addr.{Addr}
use Rattle.layout.specs.declared.geometry.Geometry.{Geometry}
use Rattle.layout.specs.declared.grid.TheConstants.{PIECE_BYTES}
use Rattle.layout.specs.Places.{inode_block, inode_offset}
use Rattle.objects.specs.Object.{ObjectBytes}
use Rattle.inode.proofs.AllTests.{all_three}
use Rattle.inode.specs.WriteSets.WriteSetContents.{WriteSetContents, fresh, fresh_inode, is_address, is_dirty_object, is_written, dirty_count, dirty_in}

-- ---- addresses of one place

module _ (block offset len : ℕ) (addr : Addr) (same : is_address block offset len addr ≡ true) where
  parts : (nat_eq block addr.block.0 ≡ true) × (nat_eq offset addr.offset ≡ true) × (nat_eq len addr.len ≡ true)
  parts = all_three (nat_eq block addr.block.0) (nat_eq offset addr.offset) (nat_eq len addr.len) same

  pub same_block : block ≡ addr.block.0
  same_block = eqb-true block addr.block.0 parts.0

  same_offset : offset ≡ addr.offset
  same_offset = eqb-true offset addr.offset parts.1

  pub same_len : len ≡ addr.len
  same_len = eqb-true len addr.len parts.2

pub same_written : (block offset len : ℕ) (addr : Addr) (objects : List ObjectBytes)
    → is_address block offset len addr ≡ true
    → is_written block offset len objects ≡ is_written addr.block.0 addr.offset addr.len objects
same_written block offset len addr objects same = λ i.
    is_written (same_block block offset len addr same i) (same_offset block offset len addr same i)
    (same_len block offset len addr same i) objects

address_itself : (addr : Addr) → is_address addr.block.0 addr.offset addr.len addr ≡ true
address_itself addr = all_same addr.block.0 addr.offset addr.len
  where
    all_same : (n m k : ℕ) → (nat_eq n n && nat_eq m m && nat_eq k k) ≡ true
    all_same n m k = grind (arith, nat_tests)

-- what is of one place is so both ways
turned : (a b : Addr) → is_address a.block.0 a.offset a.len b ≡ is_address b.block.0 b.offset b.len a
turned a b = λ i. other a.block.0 b.block.0 i && other a.offset b.offset i && other a.len b.len i
  where
    other : (n m : ℕ) → nat_eq n m ≡ nat_eq m n
    other n m = grind (arith, nat_tests)

-- ---- one object more

or_more : (a b c : Bool) → (a || (b || c)) ≡ ((a || b) || c)
or_more true b c = refl
or_more false b c = refl

pub written_more : (block offset len : ℕ) (objects : List ObjectBytes) (object : ObjectBytes)
    → is_written block offset len (objects ++ object ∷ [])
    ≡ (is_written block offset len objects || is_address block offset len object.addr)
written_more block offset len [] object = last (is_address block offset len object.addr)
  where
    last : (t : Bool) → (t || false) ≡ t
    last true = refl
    last false = refl
written_more block offset len (first ∷ objects) object =
    ap (λ t. is_address block offset len first.addr || t) (written_more block offset len objects object)
    ∙ or_more (is_address block offset len first.addr) (is_written block offset len objects)
    (is_address block offset len object.addr)

-- whether an inode or a data block is counted, before these objects
abbrev counts : ObjectBytes → List ObjectBytes → Bool
counts object objects =
    is_dirty_object object && not (is_written object.addr.block.0 object.addr.offset object.addr.len objects)

abbrev one_if : Bool → ℕ
one_if t = cond t 1 0

-- the first is not of the object's place: it counts as before
apart : (s b more : Bool) → more ≡ (b || false) → one_if (s && not more) ≤ one_if (s && not b)
apart true true true e = omega arith
apart true true false e = cc
apart true false true e = cc
apart true false false e = omega arith
apart false b more e = omega arith

-- it is: it counts no longer
none_left : (s b more : Bool) → more ≡ (b || true) → one_if (s && not more) ≡ 0
none_left true true true e = refl
none_left true true false e = cc
none_left true false true e = refl
none_left true false false e = cc
none_left false b more e = refl

-- one object before others
module _ (first object : ObjectBytes) (objects : List ObjectBytes) where
  abbrev same : Bool
  same = is_address object.addr.block.0 object.addr.offset object.addr.len first.addr

  abbrev before : Bool
  before = is_written first.addr.block.0 first.addr.offset first.addr.len objects

  abbrev object_before : Bool
  object_before = is_written object.addr.block.0 object.addr.offset object.addr.len objects

  behind : is_written first.addr.block.0 first.addr.offset first.addr.len (objects ++ object ∷ [])
      ≡ (before || same)
  behind = written_more first.addr.block.0 first.addr.offset first.addr.len objects object
      ∙ ap (λ t. before || t) (turned first.addr object.addr)

  one_before : (t : Bool) → same ≡ t
      → dirty_in (objects ++ object ∷ []) ≤ dirty_in objects + one_if (counts object objects)
      → one_if (counts first (objects ++ object ∷ [])) + dirty_in (objects ++ object ∷ [])
      ≤ one_if (counts first objects) + dirty_in objects + one_if (is_dirty_object object && not (same || object_before))
  one_before false e rest =
      let first_less = apart (is_dirty_object first) before
      (is_written first.addr.block.0 first.addr.offset first.addr.len (objects ++ object ∷ []))
      (behind ∙ ap (λ t. before || t) e) in
      let last : ◌≡◌ {A = ℕ} (one_if (is_dirty_object object && not (same || object_before)))
      (one_if (counts object objects)) = ap (λ t. one_if (is_dirty_object object && not (t || object_before))) e in
      omega (arith, first_less, last, rest)
  one_before true e rest =
      let gone = none_left (is_dirty_object first) before
      (is_written first.addr.block.0 first.addr.offset first.addr.len (objects ++ object ∷ []))
      (behind ∙ ap (λ t. before || t) e) in
      let one : ◌≡◌ {A = ℕ} (one_if (counts first objects)) (one_if (counts object objects)) =
      sym (λ i. one_if (not (nat_eq (same_len object.addr.block.0 object.addr.offset object.addr.len first.addr e i) PIECE_BYTES)
      && not (same_written object.addr.block.0 object.addr.offset object.addr.len first.addr objects e i))) in
      omega (arith, gone, one, rest)

dirty_more : (objects : List ObjectBytes) (object : ObjectBytes)
    → dirty_in (objects ++ object ∷ []) ≤ dirty_in objects + one_if (counts object objects)
dirty_more [] object = omega arith
dirty_more (first ∷ objects) object =
    one_before first object objects (is_address object.addr.block.0 object.addr.offset object.addr.len first.addr) refl
    (dirty_more objects object)

-- ---- what a write set spends by it

at_most_one : (s b : Bool) → one_if (s && not b) ≤ cond b 0 1
at_most_one true true = omega arith
at_most_one true false = omega arith
at_most_one false b = omega arith

at_most : (s b : Bool) → one_if (not s && not b) ≤ cond s 0 1
at_most true b = omega arith
at_most false true = omega arith
at_most false false = omega arith

pub dirty_by : (objects : List ObjectBytes) (object : ObjectBytes)
    → dirty_in (objects ++ object ∷ []) ≤ dirty_in objects + cond (nat_eq object.addr.len PIECE_BYTES) 0 1
dirty_by objects object =
    let more = dirty_more objects object in
    let most = at_most (nat_eq object.addr.len PIECE_BYTES)
    (is_written object.addr.block.0 object.addr.offset object.addr.len objects) in
    omega (arith, more, most)

-- it is counted only where nothing of its place was written, and then it is
pub dirty_once : (objects : List ObjectBytes) (object : ObjectBytes)
    → dirty_in (objects ++ object ∷ [])
    + cond (is_written object.addr.block.0 object.addr.offset object.addr.len (objects ++ object ∷ [])) 0 1
    ≤ dirty_in objects + cond (is_written object.addr.block.0 object.addr.offset object.addr.len objects) 0 1
dirty_once objects object =
    let more = dirty_more objects object in
    let most = at_most_one (is_dirty_object object)
    (is_written object.addr.block.0 object.addr.offset object.addr.len objects) in
    let now : ◌≡◌ {A = ℕ} (cond
    (is_written object.addr.block.0 object.addr.offset object.addr.len (objects ++ object ∷ [])) 0 1) 0 =
    ap (λ t. cond t 0 1)
    (written_more object.addr.block.0 object.addr.offset object.addr.len objects object
    ∙ ap (λ t. is_written object.addr.block.0 object.addr.offset object.addr.len objects || t)
    (address_itself object.addr) ∙ either (is_written object.addr.block.0 object.addr.offset object.addr.len objects)) in
    omega (arith, more, most, now)
  where
    either : (t : Bool) → (t || true) ≡ true
    either true = refl
    either false = refl

pub stays_written : (block offset len : ℕ) (objects : List ObjectBytes) (object : ObjectBytes)
    → cond (is_written block offset len (objects ++ object ∷ [])) 0 1 ≤ cond (is_written block offset len objects) 0 1
stays_written block offset len objects object =
    let same : ◌≡◌ {A = ℕ} (cond (is_written block offset len (objects ++ object ∷ [])) 0 1)
    (cond (is_written block offset len objects || is_address block offset len object.addr) 0 1) =
    ap (λ t. cond t 0 1) (written_more block offset len objects object) in
    let less = fewer (is_written block offset len objects) (is_address block offset len object.addr) in
    omega (arith, same, less)
  where
    fewer : (a b : Bool) → cond (a || b) 0 1 ≤ cond a 0 1
    fewer true b = omega arith
    fewer false true = omega arith
    fewer false false = omega arith

pub more_dirty : (old new : List ObjectBytes) (object : ObjectBytes) (addr : Addr) → object.addr ≡ addr
    → new ≡ old ++ object ∷ [] → dirty_in new ≤ dirty_in old + cond (nat_eq addr.len PIECE_BYTES) 0 1
more_dirty old new object addr is more =
    let by = dirty_by old object in
    let count : dirty_in new ≡ dirty_in (old ++ object ∷ []) = ap dirty_in more in
    let len : ◌≡◌ {A = ℕ} (cond (nat_eq object.addr.len PIECE_BYTES) 0 1) (cond (nat_eq addr.len PIECE_BYTES) 0 1) =
    ap (λ (a : Addr). cond (nat_eq a.len PIECE_BYTES) 0 1) is in
    omega (arith, by, count, len)

-- ---- write sets

module _ (old new : WriteSetContents) where
  -- nothing more was written
  pub same_fresh : (block offset len : ℕ) → new.written ≡ old.written
      → fresh block offset len new ≤ fresh block offset len old
  unfolding fresh
  same_fresh block offset len same =
      let is : ◌≡◌ {A = ℕ} (cond (is_written block offset len new.written) 0 1)
      (cond (is_written block offset len old.written) 0 1) =
      ap (λ l. cond (is_written block offset len l) 0 1) same in omega (arith, is)

  pub same_once : (block offset len : ℕ) → new.written ≡ old.written
      → dirty_count new + fresh block offset len new ≤ dirty_count old + fresh block offset len old
  unfolding fresh
  same_once block offset len same =
      let is : ◌≡◌ {A = ℕ} (dirty_in new.written + cond (is_written block offset len new.written) 0 1)
      (dirty_in old.written + cond (is_written block offset len old.written) 0 1) =
      ap (λ l. dirty_in l + cond (is_written block offset len l) 0 1) same in omega (arith, is)

  -- an object of this address was written
  module _ (object : ObjectBytes) (addr : Addr) (is : object.addr ≡ addr)
      (more : new.written ≡ old.written ++ object ∷ []) where
    pub more_fresh : (block offset len : ℕ) → fresh block offset len new ≤ fresh block offset len old
    unfolding fresh
    more_fresh block offset len =
        let less = stays_written block offset len old.written object in
        let all : ◌≡◌ {A = ℕ} (cond (is_written block offset len new.written) 0 1)
        (cond (is_written block offset len (old.written ++ object ∷ [])) 0 1) =
        ap (λ l. cond (is_written block offset len l) 0 1) more in omega (arith, less, all)

    pub more_once : dirty_count new + fresh addr.block.0 addr.offset addr.len new
        ≤ dirty_count old + fresh addr.block.0 addr.offset addr.len old
    unfolding fresh
    more_once =
        let by = dirty_once old.written object in
        let count : dirty_in new.written ≡ dirty_in (old.written ++ object ∷ []) = ap dirty_in more in
        let after : ◌≡◌ {A = ℕ} (cond (is_written addr.block.0 addr.offset addr.len new.written) 0 1)
        (cond (is_written object.addr.block.0 object.addr.offset object.addr.len (old.written ++ object ∷ [])) 0 1) =
        ap (λ l. cond (is_written addr.block.0 addr.offset addr.len l) 0 1) more
        ∙ ap (λ (a : Addr). cond (is_written a.block.0 a.offset a.len (old.written ++ object ∷ [])) 0 1) (sym is) in
        let before : ◌≡◌ {A = ℕ} (cond (is_written addr.block.0 addr.offset addr.len old.written) 0 1)
        (cond (is_written object.addr.block.0 object.addr.offset object.addr.len old.written) 0 1) =
        ap (λ (a : Addr). cond (is_written a.block.0 a.offset a.len old.written) 0 1) (sym is) in
        omega (arith, by, count, after, before)

  module _ (n : ℕ) (geometry : new.there.geometry ≡ old.there.geometry) where
    pub inode_stays : ((block offset len : ℕ) → fresh block offset len new ≤ fresh block offset len old)
        → fresh_inode new n ≤ fresh_inode old n
    unfolding fresh_inode
    inode_stays stays =
        let same : ◌≡◌ {A = ℕ} (fresh (inode_block new.there.geometry n) (inode_offset n) INODE_BYTES new)
        (fresh (inode_block old.there.geometry n) (inode_offset n) INODE_BYTES new) =
        ap (λ (g : Geometry). fresh (inode_block g n) (inode_offset n) INODE_BYTES new) geometry in
        let less = stays (inode_block old.there.geometry n) (inode_offset n) INODE_BYTES in
        omega (arith, same, less)

    pub inode_once : (addr : Addr) → addr.block.0 ≡ inode_block old.there.geometry n
        → addr.offset ≡ inode_offset n → addr.len ≡ INODE_BYTES
        → dirty_count new + fresh addr.block.0 addr.offset addr.len new
        ≤ dirty_count old + fresh addr.block.0 addr.offset addr.len old
        → dirty_count new + fresh_inode new n ≤ dirty_count old + fresh_inode old n
    unfolding fresh_inode
    inode_once addr block offset len once =
        let one : ◌≡◌ {A = ℕ} (fresh addr.block.0 addr.offset addr.len new)
        (fresh (inode_block new.there.geometry n) (inode_offset n) INODE_BYTES new) =
        (λ i. fresh (block i) (offset i) (len i) new)
        ∙ ap (λ (g : Geometry). fresh (inode_block g n) (inode_offset n) INODE_BYTES new) (sym geometry) in
        let two : ◌≡◌ {A = ℕ} (fresh addr.block.0 addr.offset addr.len old)
        (fresh (inode_block old.there.geometry n) (inode_offset n) INODE_BYTES old) =
        (λ i. fresh (block i) (offset i) (len i) old) in
        omega (arith, one, two, once)

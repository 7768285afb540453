-- What a piece spends for its file: its own block, and the inode, the indirect block and the double indirect block
-- where they are new.
use Rattle.std.proofs.Common.{◌≡◌, ℕ, ◌+◌, ◌≤◌, ap, Bool, true, false, cond, nat_eq, arith}
use Rattle.base.specs.declared.TheConstants.{BLOCK_BYTES}
use Rattle.objects.specs.declared.addr.Addr.{Addr}
use Rattle.layout.specs.declared.geometry.Geometry.{Geometry}
use Rattle.layout.specs.Places.{is_data}
use Rattle.inode.specs.WriteSets.WriteSetContents.{WriteSetContents, fresh, fresh_block, fresh_inode, is_written, dirty_count}
use Rattle.inode.proofs.WriteSetsLemmas.DirtyCounts.{inode_stays}
use Rattle.inode_data.specs.CleanCounts.{fresh_or_none, clean_count}
use Rattle.inode_data.proofs.PieceWritten.{not_zero}

one_at_most : (t : Bool) → cond t 0 1 ≤ 1
one_at_most true = omega arith
one_at_most false = omega arith

fresh_few : (block offset len : ℕ) (write_set : WriteSetContents) → fresh block offset len write_set ≤ 1
unfolding fresh
fresh_few block offset len write_set = one_at_most (is_written block offset len write_set.written)

inode_few : (write_set : WriteSetContents) (n : ℕ) → fresh_inode write_set n ≤ 1
unfolding fresh_inode
inode_few write_set n = fresh_few _ _ _ write_set

block_few : (write_set : WriteSetContents) (indirect_block : ℕ) → fresh_block write_set indirect_block ≤ 1
unfolding fresh_block
block_few write_set indirect_block = fresh_few _ _ _ write_set

-- a whole block that is written
pub block_once : (old new : WriteSetContents) (n : ℕ) (addr : Addr) → addr.block.0 ≡ n → addr.offset ≡ 0
    → addr.len ≡ BLOCK_BYTES
    → dirty_count new + fresh addr.block.0 addr.offset addr.len new
    ≤ dirty_count old + fresh addr.block.0 addr.offset addr.len old
    → dirty_count new + fresh_block new n ≤ dirty_count old + fresh_block old n
unfolding fresh_block
block_once old new n addr block offset len once =
    let one : ◌≡◌ {A = ℕ} (fresh addr.block.0 addr.offset addr.len new) (fresh n 0 BLOCK_BYTES new) =
    (λ i. fresh (block i) (offset i) (len i) new) in
    let two : ◌≡◌ {A = ℕ} (fresh addr.block.0 addr.offset addr.len old) (fresh n 0 BLOCK_BYTES old) =
    (λ i. fresh (block i) (offset i) (len i) old) in
    omega (arith, one, two, once)

or_few : (write_set : WriteSetContents) (indirect_block : ℕ) → fresh_or_none write_set indirect_block ≤ 1
or_few write_set indirect_block = by_test (nat_eq indirect_block 0) (fresh_block write_set indirect_block) (block_few write_set indirect_block)
  where
    by_test : (t : Bool) (k : ℕ) → k ≤ 1 → cond t 1 k ≤ 1
    by_test true k few = omega arith
    by_test false k few = few

-- all at most
pub unspent_few : (write_set : WriteSetContents) (n indirect_block double : ℕ) → clean_count write_set n indirect_block double ≤ 3
unfolding clean_count
unspent_few write_set n indirect_block double =
    let one = inode_few write_set n in
    let two = or_few write_set indirect_block in
    let three = or_few write_set double in omega (arith, one, two, three)

-- where there is none yet, as much is left as any block leaves
none_first : (write_set : WriteSetContents) (indirect_block none : ℕ) → nat_eq none 0 ≡ true
    → fresh_or_none write_set indirect_block ≤ fresh_or_none write_set none
none_first write_set indirect_block none is =
    let new : ◌≡◌ {A = ℕ} (cond (nat_eq none 0) 1 (fresh_block write_set none)) 1 =
    ap (λ t. cond t 1 (fresh_block write_set none)) is in
    let few = or_few write_set indirect_block in omega (arith, new, few)

-- a file that has no indirect block yet takes this one, and one that has no double one
pub unspent_first : (write_set : WriteSetContents) (n indirect_block none double : ℕ) → nat_eq none 0 ≡ true
    → clean_count write_set n indirect_block double ≤ clean_count write_set n none double
unfolding clean_count
unspent_first write_set n indirect_block none double is = let less = none_first write_set indirect_block none is in omega (arith, less)

pub unspent_double : (write_set : WriteSetContents) (n indirect_block double none : ℕ) → nat_eq none 0 ≡ true
    → clean_count write_set n indirect_block double ≤ clean_count write_set n indirect_block none
unfolding clean_count
unspent_double write_set n indirect_block double none is = let less = none_first write_set double none is in omega (arith, less)

module _ (old new : WriteSetContents) (n indirect_block double : ℕ) (geometry : new.there.geometry ≡ old.there.geometry)
    (stays : (block offset len : ℕ) → fresh block offset len new ≤ fresh block offset len old) where
  block_stays : (q : ℕ) → fresh_block new q ≤ fresh_block old q
  unfolding fresh_block
  block_stays q = stays q 0 BLOCK_BYTES

  or_stays : (q : ℕ) → fresh_or_none new q ≤ fresh_or_none old q
  or_stays q = by_test (nat_eq q 0) (fresh_block new q) (fresh_block old q) (block_stays q)
    where
      by_test : (t : Bool) (j k : ℕ) → j ≤ k → cond t 1 j ≤ cond t 1 k
      by_test true j k less = omega arith
      by_test false j k less = less

  -- behind a block that was written whole
  or_once : (g : Geometry) (q : ℕ) → is_data g q ≡ true → dirty_count new + fresh_block new q ≤ dirty_count old + fresh_block old q
      → dirty_count new + fresh_or_none new q ≤ dirty_count old + fresh_or_none old q
  or_once g q lies once =
      let is : ◌≡◌ {A = ℕ} (cond (nat_eq q 0) 1 (fresh_block new q)) (fresh_block new q) =
      ap (λ t. cond t 1 (fresh_block new q)) (not_zero g q lies) in
      let was : ◌≡◌ {A = ℕ} (cond (nat_eq q 0) 1 (fresh_block old q)) (fresh_block old q) =
      ap (λ t. cond t 1 (fresh_block old q)) (not_zero g q lies) in omega (arith, is, was, once)

  pub unspent_stays : clean_count new n indirect_block double ≤ clean_count old n indirect_block double
  unfolding clean_count
  unspent_stays =
      let one = inode_stays old new n geometry stays in
      let two = or_stays indirect_block in
      let three = or_stays double in omega (arith, one, two, three)

  -- behind a write that spends nothing
  pub nothing_dirty : dirty_count new ≤ dirty_count old
      → dirty_count new + clean_count new n indirect_block double ≤ dirty_count old + clean_count old n indirect_block double
  nothing_dirty less = let one = unspent_stays in omega (arith, one, less)

  -- behind a block of one's own
  pub one_dirty : dirty_count new ≤ dirty_count old + 1
      → dirty_count new + clean_count new n indirect_block double ≤ dirty_count old + clean_count old n indirect_block double + 1
  one_dirty less = let one = unspent_stays in omega (arith, one, less)

  -- behind the inode
  pub inode_dirty : dirty_count new + fresh_inode new n ≤ dirty_count old + fresh_inode old n
      → dirty_count new + clean_count new n indirect_block double ≤ dirty_count old + clean_count old n indirect_block double
  unfolding clean_count
  inode_dirty once =
      let one = or_stays indirect_block in let two = or_stays double in omega (arith, one, two, once)

  -- behind the indirect block
  pub indirect_dirty : (g : Geometry) → is_data g indirect_block ≡ true
      → dirty_count new + fresh_block new indirect_block ≤ dirty_count old + fresh_block old indirect_block
      → dirty_count new + clean_count new n indirect_block double ≤ dirty_count old + clean_count old n indirect_block double
  unfolding clean_count
  indirect_dirty g lies once =
      let here = or_once g indirect_block lies once in
      let one = inode_stays old new n geometry stays in
      let two = or_stays double in omega (arith, here, one, two)

  -- behind the double indirect block
  pub double_dirty : (g : Geometry) → is_data g double ≡ true
      → dirty_count new + fresh_block new double ≤ dirty_count old + fresh_block old double
      → dirty_count new + clean_count new n indirect_block double ≤ dirty_count old + clean_count old n indirect_block double
  unfolding clean_count
  double_dirty g lies once =
      let here = or_once g double lies once in
      let one = inode_stays old new n geometry stays in
      let two = or_stays indirect_block in omega (arith, here, one, two)

-- The blocks of a file that was taken away hold the tree without it.
use Rattle.std.proofs.Common.{◌≡◌, ℕ, ◌<◌, ◌≤◌, inl, inr, sym, ap, ◌∙◌, refl, subst, true, false}
use Rattle.std.proofs.Common.{cond, ◌||◌, List, [], ◌∷◌, length, nat_le, nat_lt, All, Some, None}
use Rattle.std.proofs.Common.{Ok, Err, arith}
use Rattle.std.specs.Cmp.{nat_cmp_total}
use Rattle.std.specs.FinMap.{get-remove}
use Rattle.std.specs.List.{AllByRecursion}
use Rattle.std.specs.Ordering.{nat_cmp, eq_by_cmp}
use Rattle.std.proofs.lemmas.Bool.{cases_eq, eq-eqb, lt-ltb}
use Rattle.std.proofs.lemmas.Bool.Decides.{nat_tests}
use Rattle.std.proofs.lemmas.List.Elements.{All-from_recursion, All-weaker}
use Rattle.base.specs.declared.TheConstants.{BLOCK_BYTES}
use Rattle.disk.specs.Crash.{Image}
use Rattle.nfs_spec.specs.Model.Tree.{Tree, node_at}
use Rattle.nfs_spec.proofs.ModelLemmas.Sets.{itself}
use Rattle.nfs_spec.specs.Procedures.Changes.{without_node}
use Rattle.layout.specs.declared.fault.LayoutFault.TheVariants.{Range}
use Rattle.layout.specs.declared.geometry.Geometry.{Geometry}
use Rattle.layout.specs.declared.inode.Inode.{Inode}
use Rattle.layout.specs.Decode.{IsFile, body_of, file_of, inode_at, node_with}
use Rattle.layout.specs.Geometry.{data_at}
use Rattle.layout.specs.Holds.{Holds, PartsHold}
use Rattle.layout.specs.Owners.{is_marked_inode, is_used, owned_by}
use Rattle.layout.specs.Parts.{Parts, content_in, parts_of, put}
use Rattle.layout.specs.Places.{is_data}
use Rattle.layout.proofs.Frame.{ChangesOne, changed_files}
use Rattle.layout.proofs.FreshFiles.{not_below, not_equal}
use Rattle.layout.proofs.OnGrid.{data_within}
use Rattle.layout.proofs.Written.{not_same}
use Rattle.bitmap.proofs.Held.{are_data}
use Rattle.inode.proofs.WriteSetsLemmas.Marks.{TakesAndDrops, moved_marks, times}
use Rattle.inode.proofs.WriteSetsLemmas.OneFile.{numbered}
use Rattle.bitmap.specs.Inodes.Frees.{Clears, without}
use Rattle.bitmap.proofs.InodesLemmas.Without.{held_by, without_others, without_them}

-- ---- the tree without a file

pub none_here : (tree : Tree) (n : ℕ) → node_at (without_node tree n) n ≡ None
none_here tree n = get-remove nat_cmp_total tree.nodes n n
    ∙ ap (λ b. cond b None (node_at tree n)) (itself n)

pub others_there : (tree : Tree) (n m : ℕ) → (m ≡ n → ⊥) → node_at (without_node tree n) m ≡ node_at tree m
others_there tree n m not = get-remove nat_cmp_total tree.nodes n m
    ∙ ap (λ b. cond b None (node_at tree m)) (not_equal m n not (eq_by_cmp nat_cmp m n) refl)

-- a file that isn't there
pub none_removed : (g : Geometry) (image : Image) (tree : Tree) (n : ℕ) → Holds g image tree
    → node_at tree n ≡ None → Holds g image (without_node tree n)
none_removed g image tree n holds none = record {
  bytes = holds.bytes;
  parts = record {
    geometry = holds.parts.geometry;
    unnumbered = same 0 ∙ holds.parts.unnumbered;
    has = record { inodes = holds.parts.has.inodes; files = λ m. same m ∙ holds.parts.has.files m };
    marked = holds.parts.marked;
  };
}
  where
    same : (m : ℕ) → node_at (without_node tree n) m ≡ node_at tree m
    same m = elim (cases_eq m n) [
      | inl is ↦ subst (λ k. node_at (without_node tree n) k ≡ node_at tree k) (sym is)
          (none_here tree n ∙ sym none)
      | inr not ↦ others_there tree n m not
    ]

pub nothing_else : (content : Image) (numbers : List ℕ) → AllByRecursion (λ b. content b ≡ content b) numbers
nothing_else content [] = tt
nothing_else content (n ∷ numbers) = (refl, nothing_else content numbers)

module _ (g : Geometry) (old : Image) (tree : Tree) (n : ℕ) (inode : Inode) (numbers : List ℕ)
    (holds : Holds g old tree) (less : n < g.inodes) (read : inode_at g old n ≡ Ok (Some inode))
    (are : numbers ≡ owned_by (content_in g old) (Ok (Some inode))) where
  abbrev was : Parts
  was = parts_of g old

  abbrev new : Parts
  new = record was {
    table = put was.table n (Ok None);
    block_bits = without numbers was.block_bits;
    inode_bits = put was.inode_bits n false;
  }

  table_is : was.table n ≡ Ok (Some inode)
  table_is = ap (λ b. cond b (inode_at g old n) (Err Range)) (lt-ltb n g.inodes less) ∙ read

  at_n : new.table n ≡ Ok None
  at_n = ap (λ b. cond b (Ok None) (was.table n)) (eq-eqb n n refl)

  one : ChangesOne was new n
  one = record {
    table = λ m not. ap (λ b. cond b (Ok None) (was.table m)) (not_same m n not);
    content = λ m not. nothing_else was.content (owned_by was.content (was.table m));
  }

  some : 0 < n
  some = numbered g was tree n (node_with inode (body_of g.inodes was.content inode.kind inode)) holds.parts
      (holds.parts.has.files n ∙ ap (file_of g.inodes was.content) table_is)

  -- ---- its blocks

  old_blocks : owned_by was.content (was.table n) ≡ numbers
  old_blocks = ap (owned_by was.content) table_is ∙ sym are

  no_blocks : owned_by new.content (new.table n) ≡ []
  no_blocks = ap (owned_by was.content) at_n

  all_data : AllByRecursion (λ b. is_data g b ≡ true) numbers
  all_data = subst (AllByRecursion (λ b. is_data g b ≡ true)) (sym are)
      (subst (λ r. AllByRecursion (λ b. is_data g b ≡ true) (owned_by was.content r)) table_is
      (are_data g old tree holds n less (was.table n) refl))

  pub all_below : All (λ b. b < g.blocks) numbers
  all_below = All-weaker (λ b. is_data g b ≡ true) (λ b. b < g.blocks) (λ b is. (data_within g b is).1) numbers
      (All-from_recursion (λ b. is_data g b ≡ true) numbers all_data)

  inside : (b : ℕ) → is_data g b ≡ true → (nat_lt b (data_at g.blocks g.inodes) || nat_le g.blocks b) ≡ false
  inside b is =
      let within = data_within g b is in
      λ i. not_below b (data_at g.blocks g.inodes) within.0 i || not_past g.blocks b within.1 i
    where
      not_past : (a b : ℕ) → b < a → nat_le a b ≡ false
      not_past a b less = grind (arith, nat_tests)

  -- ---- the marks

  moves : TakesAndDrops g was new n
  moves = record {
    once = λ b. let none = ap (times b) no_blocks in omega (arith, none);
    free = λ b has hadnt. let none = ap (times b) no_blocks in absurd (omega (arith, has, none));
    has = λ b low has. let none = ap (times b) no_blocks in absurd (omega (arith, has, none));
    dropped = λ b low hasnt had.
        let in_it : 1 ≤ times b numbers = subst (λ l. 1 ≤ times b l) old_blocks had in
        without_them numbers was.block_bits b in_it
        ∙ sym (inside b (held_by (λ k. is_data g k ≡ true) numbers b all_data in_it));
    others = λ b low hasnt hadnt.
        without_others numbers was.block_bits b (subst (λ l. times b l ≡ 0) old_blocks hadnt);
    inodes = λ m not. ap (λ t. cond t false (was.inode_bits m)) (not_same m n not);
    itself = λ low. ap (λ t. cond t false (was.inode_bits n)) (eq-eqb n n refl) ∙ sym unmarked;
  }
    where
      not_past : (a b : ℕ) → b < a → nat_le a b ≡ false
      not_past a b less = grind (arith, nat_tests)

      unmarked : is_marked_inode g new n ≡ false
      unmarked = λ i. not_same n 0 (λ is. let more = some in omega (arith, is, more)) i
          || not_past g.inodes n less i || is_used (at_n i)

  parts_hold : PartsHold g new (without_node tree n)
  parts_hold = record {
    geometry = holds.parts.geometry;
    unnumbered = others_there tree n 0 (λ is. let more = some in omega (arith, is, more))
        ∙ holds.parts.unnumbered;
    has = changed_files g was new n one tree (without_node tree n) holds.parts.has
        (λ low. subst (IsFile g was.content) (sym at_n) tt)
        (none_here tree n ∙ sym (ap (file_of g.inodes was.content) at_n)) (others_there tree n);
    marked = moved_marks g was new n one less holds.parts.marked moves;
  }

  pub removed : (last : Image) → Clears g n numbers old last
      → ((number : ℕ) → number < g.blocks → length (last number) ≡ BLOCK_BYTES)
      → Holds g last (without_node tree n)
  removed last clears long = record {
    bytes = λ number low. (long number low, clears.bytes (λ k under. (holds.bytes k under).1) number low);
    parts = subst (λ parts. PartsHold g parts (without_node tree n)) (sym clears.parts) parts_hold;
  }

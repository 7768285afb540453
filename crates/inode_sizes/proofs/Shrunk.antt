-- A file that has fewer blocks, or other bytes in its own, in the place of what was there.
use Rattle.std.proofs.Common.{◌≡◌, ℕ, ◌+◌, ◌*◌, ◌<◌, ◌≤◌, inl, inr, sym, ap, ◌∙◌, refl, subst, Bool}
use Rattle.std.proofs.Common.{true, false, cond, ◌||◌, List, nat_eq, nat_lt, nat_le}
use Rattle.std.proofs.Common.{Some, Ok, Err, arith}
use Rattle.std.specs.List.{AllByRecursion}
use Rattle.std.proofs.lemmas.Bool.{cases_lt, eq-eqb, lt-ltb}
use Rattle.std.proofs.lemmas.Bool.Decides.{nat_tests}
use Rattle.base.specs.declared.TheConstants.{BITS_PER_BLOCK}
use Rattle.disk.specs.Crash.{Image}
use Rattle.nfs_spec.specs.Model.Node.{Node}
use Rattle.nfs_spec.specs.Model.Tree.{Tree, with_node}
use Rattle.layout.specs.declared.fault.LayoutFault.TheVariants.{Range}
use Rattle.layout.specs.declared.geometry.Geometry.{Geometry}
use Rattle.layout.specs.declared.inode.Inode.{Inode}
use Rattle.layout.specs.Decode.{IsFile, IsOfKind, body_of, file_of, inode_at, node_with}
use Rattle.layout.specs.Geometry.{bitmap_blocks, data_at}
use Rattle.layout.specs.Holds.{Holds, PartsHold}
use Rattle.layout.specs.Owners.{is_used, owned_by}
use Rattle.layout.specs.Parts.{Parts, content_in, parts_of, put}
use Rattle.layout.specs.Places.{is_data}
use Rattle.layout.proofs.Frame.{ChangesOne}
use Rattle.layout.proofs.FreshFiles.{not_below}
use Rattle.layout.proofs.OnGrid.{data_within}
use Rattle.layout.proofs.Written.{not_same}
use Rattle.bitmap.proofs.Gained.{all_so, own_part, own_parts}
use Rattle.bitmap.proofs.Held.{are_data}
use Rattle.inode.proofs.WriteSetsLemmas.Marks.{TakesAndDrops, unmarked_is_free, moved_marks, times}
use Rattle.inode.proofs.WriteSetsLemmas.OneFile.{numbered, one_file}
use Rattle.bitmap.specs.Inodes.Frees.{without}
use Rattle.bitmap.proofs.InodesLemmas.Without.{held_by, without_others, without_them}

module _ (g : Geometry) (image : Image) (tree : Tree) (n : ℕ) (inode new_inode : Inode) (content : Image)
    (dropped : List ℕ) (holds : Holds g image tree) (less : n < g.inodes)
    (read : inode_at g image n ≡ Ok (Some inode))
    (same : (b : ℕ) → times b (owned_by (content_in g image) (Ok (Some inode))) ≡ 0
    → content b ≡ content_in g image b)
    (fewer : (b : ℕ) → times b (owned_by content (Ok (Some new_inode))) + times b dropped
    ≡ times b (owned_by (content_in g image) (Ok (Some inode))))
    (rules : IsOfKind g content new_inode.kind new_inode) where
  abbrev was : Parts
  was = parts_of g image

  abbrev new : Parts
  new = record was {
    table = put was.table n (Ok (Some new_inode));
    content = content;
    block_bits = without dropped was.block_bits;
  }

  abbrev node : Node
  node = node_with new_inode (body_of g.inodes content new_inode.kind new_inode)

  table_is : was.table n ≡ Ok (Some inode)
  table_is = ap (λ b. cond b (inode_at g image n) (Err Range)) (lt-ltb n g.inodes less) ∙ read

  at_n : new.table n ≡ Ok (Some new_inode)
  at_n = ap (λ b. cond b (Ok (Some new_inode)) (was.table n)) (eq-eqb n n refl)

  some : 0 < n
  some = numbered g was tree n (node_with inode (body_of g.inodes was.content inode.kind inode)) holds.parts
      (holds.parts.has.files n ∙ ap (file_of g.inodes was.content) table_is)

  module _ (b : ℕ) where
    abbrev x : ℕ
    x = times b (owned_by was.content (was.table n))

    abbrev x' : ℕ
    x' = times b (owned_by content (new.table n))

    sums : x' + times b dropped ≡ x
    sums = ap (λ t. times b (owned_by content t) + times b dropped) at_n ∙ fewer b
        ∙ sym (ap (λ t. times b (owned_by was.content t)) table_is)

    few : x ≤ 1
    few = let own = own_part g was n b less in let once = holds.parts.marked.once b in omega (arith, own, once)

  others_same : (m : ℕ) → (m ≡ n → ⊥) → (b : ℕ) → 1 ≤ times b (owned_by was.content (was.table m))
      → content b ≡ was.content b
  others_same m not b has = elim (cases_lt m g.inodes) [
    | inl low ↦ same b (
        let both = own_parts g was n m b not less low in
        let once = holds.parts.marked.once b in
        let its = ap (λ t. times b (owned_by was.content t)) table_is in
        omega (arith, both, once, has, its))
    | inr past ↦ (
        let none : times b (owned_by was.content (was.table m)) ≡ 0 =
        ap (λ t. times b (owned_by was.content (cond t (inode_at g image m) (Err Range))))
        (not_below m g.inodes past) in
        absurd (omega (arith, has, none)))
  ]

  one : ChangesOne was new n
  one = record {
    table = λ m not. ap (λ b. cond b (Ok (Some new_inode)) (was.table m)) (not_same m n not);
    content = λ m not. all_so (λ b. content b ≡ was.content b) (owned_by was.content (was.table m))
        (others_same m not);
  }

  all_data : AllByRecursion (λ b. is_data g b ≡ true) (owned_by was.content (was.table n))
  all_data = are_data g image tree holds n less (was.table n) refl

  inside : (b : ℕ) → is_data g b ≡ true → (nat_lt b (data_at g.blocks g.inodes) || nat_le g.blocks b) ≡ false
  inside b is =
      let within = data_within g b is in
      λ i. not_below b (data_at g.blocks g.inodes) within.0 i || not_past g.blocks b within.1 i
    where
      not_past : (a b : ℕ) → b < a → nat_le a b ≡ false
      not_past a b less = grind (arith, nat_tests)

  -- the bit of what it had is set
  had_bit : (b : ℕ) → b < BITS_PER_BLOCK * bitmap_blocks g.blocks → 1 ≤ x b → was.block_bits b ≡ true
  had_bit b low had = by_bit (was.block_bits b) refl
    where
      by_bit : (t : Bool) → was.block_bits b ≡ t → t ≡ true
      by_bit true is = refl
      by_bit false is =
          let none = unmarked_is_free g was b holds.parts.marked low is in
          let own = own_part g was n b less in
          absurd (omega (arith, none, own, had))

  moves : TakesAndDrops g was new n
  moves = record {
    once = λ b. let s = sums b in let f = few b in omega (arith, s, f);
    free = λ b has hadnt. let s = sums b in absurd (omega (arith, s, has, hadnt));
    has = λ b low has.
        let s = sums b in let f = few b in
        without_others dropped was.block_bits b (omega (arith, s, f, has))
        ∙ had_bit b low (omega (arith, s, has));
    dropped = λ b low hasnt had.
        let s = sums b in
        without_them dropped was.block_bits b (omega (arith, s, hasnt, had))
        ∙ sym (inside b (held_by (λ k. is_data g k ≡ true) (owned_by was.content (was.table n)) b all_data had));
    others = λ b low hasnt hadnt.
        without_others dropped was.block_bits b (let s = sums b in omega (arith, s, hasnt, hadnt));
    inodes = λ m not. refl;
    itself = λ low. holds.parts.marked.inodes_marked n low
        ∙ ap (λ t. nat_eq n 0 || nat_le g.inodes n || is_used t) table_is
        ∙ sym (ap (λ t. nat_eq n 0 || nat_le g.inodes n || is_used t) at_n);
  }

  pub shrunk : PartsHold g new (with_node tree n node)
  shrunk = one_file g was new n tree node one holds.parts some
      (subst (IsFile g content) (sym at_n) rules) (sym (ap (file_of g.inodes content) at_n))
      (moved_marks g was new n one less holds.parts.marked moves)

-- A file that has blocks more than before, which were free: the parts with its new inode, what its blocks have
-- now and the new marks hold the tree with this file.
use Rattle.std.proofs.Common.{◌≡◌, ℕ, zero, suc, ◌+◌, ◌*◌, ◌<◌, ◌≤◌, inl, inr, sym, ap, ◌∙◌, refl, subst}
use Rattle.std.proofs.Common.{Bool, true, false, cond, ◌||◌, List, [], ◌∷◌, nat_eq, nat_le, sum_by}
use Rattle.std.proofs.Common.{Some, None, Ok, Err, arith}
use Rattle.std.specs.List.{AllByRecursion, range_with_len}
use Rattle.std.proofs.lemmas.Bool.{cases_eq, cases_lt, eq-eqb, le-ltb, lt-ltb}
use Rattle.std.proofs.lemmas.List.Sums.{sum_by-cons}
use Rattle.base.specs.declared.TheConstants.{BITS_PER_BLOCK}
use Rattle.disk.specs.Crash.{Image}
use Rattle.nfs_spec.specs.Model.Node.{Node}
use Rattle.nfs_spec.specs.Model.Tree.{Tree, node_at, with_node}
use Rattle.layout.specs.declared.fault.LayoutFault.TheVariants.{Range}
use Rattle.layout.specs.declared.geometry.Geometry.{Geometry}
use Rattle.layout.specs.declared.inode.Inode.{Inode}
use Rattle.layout.specs.Decode.{IsFile, IsOfKind, body_of, file_of, inode_at, node_with}
use Rattle.layout.specs.Geometry.{bitmap_blocks}
use Rattle.layout.specs.Holds.{Holds, PartsHold}
use Rattle.layout.specs.Owners.{is_marked_inode, is_used, owned, owned_by}
use Rattle.layout.specs.Parts.{Parts, content_in, parts_of, put}
use Rattle.layout.specs.Stands.{file_at}
use Rattle.layout.proofs.Frame.{ChangesOne, counts}
use Rattle.layout.proofs.Written.{not_same}
use Rattle.inode.proofs.WriteSetsLemmas.Marks.{TakesAndDrops, unmarked_is_free, moved_marks, times}
use Rattle.inode.proofs.WriteSetsLemmas.OneFile.{one_file}
use Rattle.bitmap.specs.NewBlock.{IsFreeBlock, marking}
use Rattle.bitmap.proofs.NewBlocks.{marking_others, marking_them, of_each}

-- ---- shares of a sum

past_first : (a n : ℕ) → a ≤ n → (a ≡ n → ⊥) → a + 1 ≤ n
past_first a n from not = omega (arith, from, not)

pub part : (f : ℕ → ℕ) (n a k : ℕ) → a ≤ n → n < a + k → f n ≤ sum_by f (range_with_len a k)
part f n a zero from to = absurd (omega (arith, from, to))
part f n a (suc k) from to =
    let here = sum_by-cons f a (range_with_len (a + 1) k) in
    elim (cases_eq a n) [
      | inl is ↦ let same : f a ≡ f n = ap f is in omega (arith, here, same)
      | inr not ↦
          let rest : f n ≤ sum_by f (range_with_len (a + 1) k) =
          part f n (a + 1) k (past_first a n from not) (omega (arith, to)) in
          omega (arith, here, rest)
    ]

pub two_parts : (f : ℕ → ℕ) (n m a k : ℕ) → (m ≡ n → ⊥) → a ≤ n → n < a + k → a ≤ m → m < a + k
    → f n + f m ≤ sum_by f (range_with_len a k)
two_parts f n m a zero not from to low high = absurd (omega (arith, from, to))
two_parts f n m a (suc k) not from to low high =
    let here = sum_by-cons f a (range_with_len (a + 1) k) in
    elim (cases_eq a n) [
      | inl is ↦
          let same : f a ≡ f n = ap f is in
          let rest : f m ≤ sum_by f (range_with_len (a + 1) k) =
          part f m (a + 1) k (past_first a m low (λ e. not (sym e ∙ is))) (omega (arith, high)) in
          omega (arith, here, same, rest)
      | inr other ↦ (elim (cases_eq a m) [
        | inl is ↦
            let same : f a ≡ f m = ap f is in
            let rest : f n ≤ sum_by f (range_with_len (a + 1) k) =
            part f n (a + 1) k (past_first a n from other) (omega (arith, to)) in
            omega (arith, here, same, rest)
        | inr differ ↦
            let rest : f n + f m ≤ sum_by f (range_with_len (a + 1) k) =
            two_parts f n m (a + 1) k not (past_first a n from other) (omega (arith, to))
            (past_first a m low differ) (omega (arith, high)) in
            omega (arith, here, rest)
      ])
    ]

one_first : (b x : ℕ) (xs : List ℕ) → times b (x ∷ xs) ≡ cond (nat_eq x b) 1 0 + times b xs
one_first b x xs = sum_by-cons (λ one. cond (nat_eq one b) 1 0) x xs

-- what is so of each number that is in a list is so of all
pub all_so : (P : ℕ → Type 0) (xs : List ℕ) → ((b : ℕ) → 1 ≤ times b xs → P b) → AllByRecursion P xs
all_so P [] so = tt
all_so P (x ∷ xs) so = (
  so x (let first = one_first x x xs in
      let one = ap {B = ℕ} (λ (t : Bool). cond t 1 0) (eq-eqb x x refl) in omega (arith, first, one)),
  all_so P xs (λ b some. so b (let first = one_first b x xs in omega (arith, first, some))),
)

-- ---- shares of what is owned

module _ (g : Geometry) (parts : Parts) where
  pub own_part : (m b : ℕ) → m < g.inodes
      → times b (owned_by parts.content (parts.table m)) ≤ times b (owned g parts)
  unfolding owned
  own_part m b less =
      let are = counts (λ one. nat_eq one b) (λ k. owned_by parts.content (parts.table k))
      (range_with_len 0 g.inodes) in
      let low = part (λ k. times b (owned_by parts.content (parts.table k))) m 0 g.inodes (omega arith)
      (omega (arith, less)) in
      omega (arith, are, low)

  pub own_parts : (n m b : ℕ) → (m ≡ n → ⊥) → n < g.inodes → m < g.inodes
      → times b (owned_by parts.content (parts.table n)) + times b (owned_by parts.content (parts.table m))
      ≤ times b (owned g parts)
  unfolding owned
  own_parts n m b not one two =
      let are = counts (λ one. nat_eq one b) (λ k. owned_by parts.content (parts.table k))
      (range_with_len 0 g.inodes) in
      let low = two_parts (λ k. times b (owned_by parts.content (parts.table k))) n m 0 g.inodes not
      (omega arith) (omega (arith, one)) (omega arith) (omega (arith, two)) in
      omega (arith, are, low)

-- What the new parts are, where file n has blocks more than in the base, which were free.
pub record Gains (g : Geometry) (base : Image) (n : ℕ) (gained : List ℕ) (new : Parts) : Type 0 where
  pub were_free : AllByRecursion (IsFreeBlock g base) gained
  pub once : (b : ℕ) → times b gained ≤ 1
  pub table : (m : ℕ) → (m ≡ n → ⊥) → new.table m ≡ (parts_of g base).table m
  -- blocks that it didn't have and doesn't get are as they were
  pub content : (b : ℕ) → times b (owned_by (content_in g base) ((parts_of g base).table n)) ≡ 0
      → times b gained ≡ 0 → new.content b ≡ content_in g base b
  pub counted : (b : ℕ) → times b (owned_by new.content (new.table n))
      ≡ times b gained + times b (owned_by (content_in g base) ((parts_of g base).table n))
  pub block_bits : (b : ℕ) → new.block_bits b ≡ marking gained (parts_of g base).block_bits b
  pub inode_bits : (m : ℕ) → (m ≡ n → ⊥) → new.inode_bits m ≡ (parts_of g base).inode_bits m
  pub itself : n < BITS_PER_BLOCK * bitmap_blocks g.inodes → new.inode_bits n ≡ is_marked_inode g new n

module _ (g : Geometry) (base : Image) (tree : Tree) (n : ℕ) (gained : List ℕ) (new : Parts)
    (holds : Holds g base tree) (less : n < g.inodes) (gains : Gains g base n gained new) where
  abbrev old : Parts
  old = parts_of g base

  -- what was gained was nobody's
  nobodys : (b : ℕ) → 1 ≤ times b gained → times b (owned g old) ≡ 0
  nobodys b some = (of_each (IsFreeBlock g base) gained b gains.were_free some).unowned

  -- past the last inode nothing is owned
  none_past : (m : ℕ) → g.inodes ≤ m → owned_by old.content (old.table m) ≡ []
  none_past m past =
      ap (λ b. owned_by old.content (cond b (inode_at g base m) (Err Range))) (le-ltb m g.inodes past)

  no_others : (m : ℕ) → (m ≡ n → ⊥) → (b : ℕ) → 1 ≤ times b (owned_by old.content (old.table m))
      → new.content b ≡ old.content b
  no_others m not b some = elim (cases_lt m g.inodes) [
    | inl low ↦
        let two = own_parts g old n m b not less low in
        let few = holds.parts.marked.once b in
        let own = own_part g old m b low in
        gains.content b (omega (arith, two, few, some)) (none_gained own (times b gained) refl)
    | inr past ↦ (let none = ap (times b) (none_past m past) in absurd (omega (arith, some, none)))
  ]
    where
      none_gained : times b (owned_by old.content (old.table m)) ≤ times b (owned g old) → (k : ℕ)
          → times b gained ≡ k → k ≡ 0
      none_gained own zero e = refl
      none_gained own (suc k) e =
          let free = nobodys b (omega (arith, e)) in absurd (omega (arith, own, some, free))

  pub one : ChangesOne old new n
  one = record {
    table = gains.table;
    content = λ m not. all_so (λ b. new.content b ≡ old.content b) (owned_by old.content (old.table m))
        (no_others m not);
  }

  abbrev had : ℕ → ℕ
  had b = times b (owned_by old.content (old.table n))

  -- a block that a file has is marked
  was_marked : (b : ℕ) → b < BITS_PER_BLOCK * bitmap_blocks g.blocks → 1 ≤ had b → old.block_bits b ≡ true
  was_marked b low some = by_bit (old.block_bits b) refl
    where
      by_bit : (t : Bool) → old.block_bits b ≡ t → t ≡ true
      by_bit true e = refl
      by_bit false e =
          let free = unmarked_is_free g old b holds.parts.marked low e in
          let own = own_part g old n b less in
          absurd (omega (arith, free, own, some))

  pub moves : TakesAndDrops g old new n
  moves = record {
    once = λ b. few b (times b gained) refl;
    free = λ b has hadnt. nobodys b (let sum = gains.counted b in omega (arith, sum, has, hadnt));
    has = λ b low has. gains.block_bits b ∙ marked b low has (times b gained) refl;
    dropped = λ b low hasnt some. let sum = gains.counted b in absurd (omega (arith, sum, hasnt, some));
    others = λ b low hasnt hadnt. gains.block_bits b
        ∙ marking_others gained old.block_bits b (let sum = gains.counted b in omega (arith, sum, hasnt));
    inodes = gains.inode_bits;
    itself = gains.itself;
  }
    where
      few : (b k : ℕ) → times b gained ≡ k → times b (owned_by new.content (new.table n)) ≤ 1
      few b zero e =
          let sum = gains.counted b in
          let own = own_part g old n b less in
          let once = holds.parts.marked.once b in omega (arith, sum, e, own, once)
      few b (suc k) e =
          let sum = gains.counted b in
          let own = own_part g old n b less in
          let free = nobodys b (omega (arith, e)) in
          let once = gains.once b in omega (arith, sum, own, free, once)

      marked : (b : ℕ) → b < BITS_PER_BLOCK * bitmap_blocks g.blocks
          → 1 ≤ times b (owned_by new.content (new.table n)) → (k : ℕ) → times b gained ≡ k
          → marking gained old.block_bits b ≡ true
      marked b low has zero e =
          marking_others gained old.block_bits b e
          ∙ was_marked b low (let sum = gains.counted b in omega (arith, sum, e, has))
      marked b low has (suc k) e = marking_them gained old.block_bits b (omega (arith, e))

  -- the parts hold the tree with the file
  pub gained_file : (node : Node) → 0 < n → IsFile g new.content (new.table n) → Some node ≡ file_at g new n
      → PartsHold g new (with_node tree n node)
  gained_file node some rules file =
      one_file g old new n tree node one holds.parts some rules file
      (moved_marks g old new n one less holds.parts.marked moves)

-- the parts of the base with another inode under the number, other content, and the bits of what was gained set
abbrev pub grown : Geometry → Image → ℕ → Inode → Image → List ℕ → Parts
grown g base n inode content gained = record (parts_of g base) {
  table = put (parts_of g base).table n (Ok (Some inode));
  content = content;
  block_bits = marking gained (parts_of g base).block_bits;
}

-- The common case: a file that is there, of this inode, whose new inode is another.
module _ (g : Geometry) (base : Image) (tree : Tree) (n : ℕ) (inode new_inode : Inode) (gained : List ℕ)
    (content : Image) (holds : Holds g base tree) (less : n < g.inodes)
    (read : inode_at g base n ≡ Ok (Some inode))
    (were_free : AllByRecursion (IsFreeBlock g base) gained) (once : (b : ℕ) → times b gained ≤ 1)
    (others : (b : ℕ) → times b (owned_by (content_in g base) (Ok (Some inode))) ≡ 0 → times b gained ≡ 0
    → content b ≡ content_in g base b)
    (counted : (b : ℕ) → times b (owned_by content (Ok (Some new_inode)))
    ≡ times b gained + times b (owned_by (content_in g base) (Ok (Some inode))))
    (rules : IsOfKind g content new_inode.kind new_inode) where
  abbrev was : Parts
  was = parts_of g base

  abbrev after : Parts
  after = grown g base n new_inode content gained

  abbrev node : Node
  node = node_with new_inode (body_of g.inodes content new_inode.kind new_inode)

  table_is : was.table n ≡ Ok (Some inode)
  table_is = ap (λ b. cond b (inode_at g base n) (Err Range)) (lt-ltb n g.inodes less) ∙ read

  at_n : after.table n ≡ Ok (Some new_inode)
  at_n = ap (λ b. cond b (Ok (Some new_inode)) (was.table n)) (eq-eqb n n refl)

  some : 0 < n
  some = elim (cases_lt 0 n) [
    | inl positive ↦ positive
    | inr none ↦
        (let there : node_at tree n ≡ Some (node_with inode (body_of g.inodes was.content inode.kind inode)) =
        holds.parts.has.files n ∙ ap (file_of g.inodes was.content) table_is in
        let clash : None ≡ Some (node_with inode (body_of g.inodes was.content inode.kind inode)) =
        sym holds.parts.unnumbered ∙ ap (node_at tree) (zero_is none) ∙ there in cc)
  ]
    where
      zero_is : n ≤ 0 → 0 ≡ n
      zero_is low = omega (arith, low)

  gains : Gains g base n gained after
  gains = record {
    were_free = were_free;
    once = once;
    table = λ m not. ap (λ b. cond b (Ok (Some new_inode)) (was.table m)) (not_same m n not);
    content = λ b hadnt new. others b (subst (λ r. times b (owned_by was.content r) ≡ 0) table_is hadnt) new;
    counted = λ b. ap (λ r. times b (owned_by content r)) at_n ∙ counted b
        ∙ ap (λ r. times b gained + times b (owned_by was.content r)) (sym table_is);
    block_bits = λ b. refl;
    inode_bits = λ m not. refl;
    itself = λ low. holds.parts.marked.inodes_marked n low
        ∙ ap (λ r. nat_eq n 0 || nat_le g.inodes n || is_used r) table_is
        ∙ sym (ap (λ r. nat_eq n 0 || nat_le g.inodes n || is_used r) at_n);
  }

  pub grown_holds : PartsHold g after (with_node tree n node)
  grown_holds =
      gained_file g base tree n gained after holds less gains node some
      (subst (IsFile g content) (sym at_n) rules) (sym (ap (file_of g.inodes content) at_n))

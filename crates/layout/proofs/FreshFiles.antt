-- The files of a fresh image, who owns its blocks, and what its bitmaps mark.
use Rattle.std.proofs.Common.{◌≡◌, ℕ, zero, suc, ◌+◌, ◌/◌, ◌<◌, ◌≤◌, inl, inr, Bool, true, false, cond, ◌||◌}
use Rattle.std.proofs.Common.{List, [], ◌++◌, Some, None, Ok, Err, ◌&&◌, ◌*◌, nat_eq, nat_lt, nat_le}
use Rattle.std.proofs.Common.{count_by, refl, sym, ap, ◌∙◌, subst, arith}
use Rattle.std.specs.Cmp.{nat_cmp_total}
use Rattle.std.specs.Cmp.Lexicographic.{slice_cmp}
use Rattle.std.specs.FinMap.{empty, get-insert, get-empty, len-empty}
use Rattle.std.specs.List.{flat_map, list_any, range_with_len}
use Rattle.std.specs.Ordering.{nat_cmp, eq_by_cmp}
use Rattle.std.proofs.lemmas.Bool.{lt-ltb, le-leb, cases_eq, cases_lt}
use Rattle.std.proofs.lemmas.Bool.Decides.{leb_tells, eqb_tells}
use Rattle.base.specs.declared.TheConstants.{BITS_PER_BLOCK, FIRST_HOME_BLOCK, ROOT}
use Rattle.disk.specs.Crash.{Image}
use Rattle.nfs_types.specs.declared.ctx.Moment.{Moment}
use Rattle.nfs_spec.specs.Model.Format.{format_tree, format_root}
use Rattle.nfs_spec.specs.Model.Node.{DirentValue}
use Rattle.nfs_spec.specs.Model.Sound.{SoundTime}
use Rattle.nfs_spec.specs.Model.Tree.{node_at}
use Rattle.nfs_spec.proofs.ModelLemmas.Sets.{eq_by_cmp-is}
use Rattle.layout.specs.declared.fault.LayoutFault.TheVariants.{Range}
use Rattle.layout.specs.declared.geometry.Geometry.{Geometry}
use Rattle.layout.specs.Decode.{IsFile, IsDirectory, file_of, inode_at, is_used_pointer, named_in}
use Rattle.layout.specs.Fresh.{HasFreshHomes, root_inode, is_outside}
use Rattle.layout.specs.Owners.{IsMarked, owned, owned_by, is_used, is_marked_block, is_marked_inode}
use Rattle.layout.specs.Parts.{Parts, parts_of, table_of, content_in, bit_at}
use Rattle.layout.specs.InodeForm.{is_data_block_or_none}
use Rattle.layout.specs.Geometry.{IsLawful, bitmap_blocks, inode_bitmap_at, data_at}
use Rattle.layout.specs.Stands.{geometry_of, file_at}
use Rattle.layout.proofs.FreshBits.{bit_is}
use Rattle.layout.proofs.FreshInodes.{free_at, root_at}
use Rattle.layout.proofs.FileNumbers.{direct_owned, direct_pass, pass_indirect_pointer}

-- ---- the two inodes

module _ (g : Geometry) (image : Image) (moment : Moment) where
  root_preserved : IsDirectory g image (root_inode moment)
  unfolding named_in
  root_preserved = record {
    mapped = record {
      pointers = pass_indirect_pointer image (root_inode moment) refl (is_data_block_or_none g) refl refl refl;
      numbers = direct_pass image (root_inode moment) refl refl (is_data_block_or_none g) refl refl;
      used = pass_indirect_pointer image (root_inode moment) refl (is_used_pointer image) refl refl refl;
    };
    spans = direct_pass image (root_inode moment) refl refl (λ number. nat_eq number 0) refl refl;
    slots = λ k d less. absurd (omega (arith, less));
    once = len-empty (slice_cmp nat_cmp) DirentValue;
  }

  free_preserved : IsFile g image (Ok None)
  free_preserved = tt

  root_file : file_of g.inodes image (Ok (Some (root_inode moment))) ≡ Some (format_root moment)
  unfolding named_in
  root_file = refl

  no_file : file_of g.inodes image (Ok None) ≡ None
  no_file = refl

  root_owns : owned_by image (Ok (Some (root_inode moment))) ≡ []
  root_owns = direct_owned image (root_inode moment) refl refl

  free_owns : owned_by image (Ok None) ≡ []
  free_owns = refl

  free_unused : is_used (Ok None) ≡ false
  free_unused = refl

-- ---- lists and tests

no_parts : (f : ℕ → List ℕ) (a n : ℕ) → ((k : ℕ) → k < a + n → f k ≡ [])
    → flat_map f (range_with_len a n) ≡ []
no_parts f a zero none = refl
no_parts f a (suc n) none = λ i. none a (omega arith) i
    ++ no_parts f (a + 1) n (λ k less. none k (omega (arith, less))) i

pub not_below : (a b : ℕ) → b ≤ a → nat_lt a b ≡ false
not_below a b less = elim (leb_tells (suc a) b) [ inl is ↦ absurd (omega (arith, is.1)) | inr isnt ↦ isnt.0 ]

pub not_equal : (a b : ℕ) → (a ≡ b → ⊥) → (v : Bool) → eq_by_cmp nat_cmp a b ≡ v → v ≡ false
not_equal a b not false is = refl
not_equal a b not true is = absurd (not (eq_by_cmp-is a b is))

not_le : (a b : ℕ) → b < a → nat_le a b ≡ false
not_le a b less = elim (leb_tells a b) [ inl is ↦ absurd (omega (arith, is.1, less)) | inr isnt ↦ isnt.0 ]

not_same : (a b : ℕ) → b < a → nat_eq a b ≡ false
not_same a b less = elim (eqb_tells a b) [ inl is ↦ absurd (omega (arith, is.1, less)) | inr isnt ↦ isnt.0 ]

at_least : (n : ℕ) → (n ≡ 0 → ⊥) → 1 ≤ n
at_least n some = elim (cases_lt 0 n) [ inl is ↦ is | inr none ↦ absurd (some (omega (arith, none))) ]

least : (n : ℕ) → n < 2 → (n ≡ 1 → ⊥) → n ≡ 0
least n low not =
    elim (cases_eq n 0) [ inl is ↦ is | inr some ↦ absurd (not (omega (arith, low, at_least n some))) ]

or_false : (a : Bool) → (a || false) ≡ a
or_false true = refl
or_false false = refl

or_true : (a : Bool) → (a || true) ≡ true
or_true true = refl
or_true false = refl

module _ (g : Geometry) (moment : Moment) (image : Image) (lawful : IsLawful g.blocks g.inodes)
    (now : SoundTime moment) (fresh : HasFreshHomes g moment image) where
  one_below : 1 < g.inodes
  one_below = let few = lawful.1.0 in omega (arith, few)

  abbrev parts : Parts
  parts = parts_of g image

  abbrev content : Image
  content = content_in g image

  table_below : (number : ℕ) → number < g.inodes → table_of g image number ≡ inode_at g image number
  table_below number less =
      ap (λ b. cond b (inode_at g image number) (Err Range)) (lt-ltb number g.inodes less)

  root_is : table_of g image 1 ≡ Ok (Some (root_inode moment))
  root_is = table_below 1 one_below ∙ root_at g moment image lawful now fresh

  free_is : (number : ℕ) → number < g.inodes → (number ≡ 1 → ⊥) → table_of g image number ≡ Ok None
  free_is number less not = table_below number less ∙ free_at g moment image lawful now fresh number less not

  root_there : (number : ℕ) → number ≡ 1 → table_of g image number ≡ Ok (Some (root_inode moment))
  root_there number is = ap (table_of g image) is ∙ root_is

  -- ---- files

  pub mapped : (number : ℕ) → number < g.inodes → IsFile g content (table_of g image number)
  mapped number less = elim (cases_eq number 1) [
    | inl is ↦ subst (IsFile g content) (sym (root_there number is)) (root_preserved g content moment)
    | inr not ↦ subst (IsFile g content) (sym (free_is number less not)) (free_preserved g content moment)
  ]

  in_tree : (number : ℕ)
      → node_at (format_tree (geometry_of g) moment) number
      ≡ cond (eq_by_cmp nat_cmp number ROOT) (Some (format_root moment)) None
  in_tree number = get-insert nat_cmp_total empty ROOT (format_root moment) number
      ∙ ap (cond (eq_by_cmp nat_cmp number ROOT) (Some (format_root moment))) (get-empty nat_cmp number)

  file_past : (number : ℕ) → g.inodes ≤ number → file_at g parts number ≡ None
  file_past number past =
      ap (λ b. file_of g.inodes content (cond b (inode_at g image number) (Err Range)))
      (not_below number g.inodes past)

  file_root : (number : ℕ) → number ≡ 1
      → node_at (format_tree (geometry_of g) moment) number ≡ file_at g parts number
  file_root number is =
      in_tree number ∙ ap (λ n. cond (eq_by_cmp nat_cmp n ROOT) (Some (format_root moment)) None) is
      ∙ sym (ap (file_of g.inodes content) (root_there number is) ∙ root_file g content moment)

  file_other : (number : ℕ) → (number ≡ 1 → ⊥) → file_at g parts number ≡ None
  file_other number not = elim (cases_lt number g.inodes) [
    | inl less ↦ ap (file_of g.inodes content) (free_is number less not) ∙ no_file g content moment
    | inr past ↦ file_past number past
  ]

  pub files : (number : ℕ) → node_at (format_tree (geometry_of g) moment) number ≡ file_at g parts number
  files number = elim (cases_eq number 1) [
    | inl is ↦ file_root number is
    | inr not ↦
        in_tree number
        ∙ ap (λ b. cond b (Some (format_root moment)) None)
        (not_equal number ROOT not (eq_by_cmp nat_cmp number ROOT) refl)
        ∙ sym (file_other number not)
  ]

  -- ---- owners

  owns_none : (number : ℕ) → number < 0 + g.inodes → owned_by content (table_of g image number) ≡ []
  owns_none number less = elim (cases_eq number 1) [
    | inl is ↦ ap (owned_by content) (root_there number is) ∙ root_owns g content moment
    | inr not ↦ ap (owned_by content) (free_is number (omega (arith, less)) not) ∙ free_owns g content moment
  ]

  none_owned : owned g parts ≡ []
  unfolding owned
  none_owned = no_parts (λ number. owned_by content (table_of g image number)) 0 g.inodes owns_none

  -- ---- bitmaps

  block_marks : (number : ℕ)
      → is_outside (data_at g.blocks g.inodes) g.blocks number ≡ is_marked_block g parts number
  block_marks number =
      sym (ap (λ list. is_outside (data_at g.blocks g.inodes) g.blocks number
      || list_any (λ one. nat_eq one number) list) none_owned
      ∙ or_false (is_outside (data_at g.blocks g.inodes) g.blocks number))

  root_marked : (number : ℕ) → number ≡ 1 → is_marked_inode g parts number ≡ true
  root_marked number is =
      ap (λ inode. nat_eq number 0 || nat_le g.inodes number || is_used inode) (root_there number is)
      ∙ or_true (nat_eq number 0 || nat_le g.inodes number)

  low_marked : (number : ℕ) → number < 2 → is_marked_inode g parts number ≡ true
  low_marked number low = elim (cases_eq number 1) [
    | inl is ↦ root_marked number is
    | inr not ↦ let none : number ≡ 0 = least number low not in ap (is_marked_inode g parts) none
  ]

  free_marked : (number : ℕ) → 2 ≤ number → number < g.inodes → is_marked_inode g parts number ≡ false
  free_marked number more less =
      ap (λ inode. nat_eq number 0 || nat_le g.inodes number || is_used inode)
      (free_is number less (λ is. omega (arith, more, is)))
      ∙ ap (λ used. nat_eq number 0 || nat_le g.inodes number || used) (free_unused g image moment)
      ∙ or_false (nat_eq number 0 || nat_le g.inodes number)
      ∙ (λ i. not_same number 0 (omega (arith, more)) i || not_le g.inodes number less i)

  past_marked : (number : ℕ) → g.inodes ≤ number → is_marked_inode g parts number ≡ true
  past_marked number past =
      ap (λ b. nat_eq number 0 || b || is_used (table_of g image number)) (le-leb g.inodes number past)
      ∙ ap (λ b. b || is_used (table_of g image number)) (or_true (nat_eq number 0))

  inode_marks : (number : ℕ) → is_outside (ROOT + 1) g.inodes number ≡ is_marked_inode g parts number
  inode_marks number = elim (cases_lt number 2) [
    | inl low ↦ ap (λ b. b || nat_le g.inodes number) (lt-ltb number 2 low) ∙ sym (low_marked number low)
    | inr more ↦ (elim (cases_lt number g.inodes) [
      | inl less ↦ (λ i. not_below number 2 more i || not_le g.inodes number less i)
          ∙ sym (free_marked number more less)
      | inr past ↦ ap (λ b. nat_lt number 2 || b) (le-leb g.inodes number past) ∙ or_true (nat_lt number 2)
          ∙ sym (past_marked number past)
    ])
  ]

  pub marked : IsMarked g parts
  marked = record {
    once = λ number. let none : count_by (λ one. nat_eq one number) (owned g parts) ≡ 0 =
        ap (count_by (λ one. nat_eq one number)) none_owned in omega (arith, none);
    blocks_marked = λ number less.
        ap (λ b. b && bit_at image FIRST_HOME_BLOCK number)
        (lt-ltb number (BITS_PER_BLOCK * bitmap_blocks g.blocks) less)
        ∙ bit_is image FIRST_HOME_BLOCK number (is_outside (data_at g.blocks g.inodes) g.blocks)
        (fresh.blocks (number / BITS_PER_BLOCK) (omega (arith, less)))
        ∙ block_marks number;
    inodes_marked = λ number less.
        ap (λ b. b && bit_at image (inode_bitmap_at g.blocks) number)
        (lt-ltb number (BITS_PER_BLOCK * bitmap_blocks g.inodes) less)
        ∙ bit_is image (inode_bitmap_at g.blocks) number (is_outside (ROOT + 1) g.inodes)
        (fresh.inodes (number / BITS_PER_BLOCK) (omega (arith, less)))
        ∙ inode_marks number;
  }

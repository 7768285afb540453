-- A regular file of which the end was cut off, in its blocks.
use Rattle.std.proofs.Common.{◌≡◌, ℕ, zero, suc, ◌+◌, ◌-◌, ◌*◌, ◌<◌, ◌≤◌, inl, inr, sym, ap, ◌∙◌, refl, subst}
use Rattle.std.proofs.Common.{Bool, true, false, cond, ◌&&◌, List, [], ◌∷◌, ◌++◌, length, take, drop, get_or}
use Rattle.std.proofs.Common.{replicate, nat_eq, nat_le, nat_lt, append-nil, Some, Ok, arith}
use Rattle.std.specs.FinSet.{retain}
use Rattle.std.specs.List.{list_all}
use Rattle.std.proofs.Math.Seq.{drop-append_seam}
use Rattle.std.proofs.lemmas.Bool.{cases_lt, eq-eqb, le-leb, lt-ltb}
use Rattle.std.proofs.lemmas.List.{length-take-le, take_all, take-append-le}
use Rattle.base.specs.declared.TheConstants.{BLOCK_BYTES, DIRECT_INDEXES, FILE_INDEXES, LARGEST_FILE}
use Rattle.disk.specs.Crash.{Image}
use Rattle.nfs_spec.specs.Model.Cost.{cost}
use Rattle.nfs_spec.specs.Model.Node as model
use Rattle.nfs_spec.specs.Model.SetAttr.{mapped_of_size, resized, with_length}
use Rattle.nfs_spec.specs.Model.Tree.{Tree}
use Rattle.layout.specs.declared.geometry.Geometry.{Geometry}
use Rattle.layout.specs.declared.inode.Inode.{Inode}
use Rattle.layout.specs.Decode.{IsMapped, IsOfKind, IsRegular, body_of, bytes_of, content_of, mapped_of, numbers_of}
use Rattle.layout.specs.Decode.{regular_in}
use Rattle.layout.specs.Fields.{is_zeros}
use Rattle.layout.specs.InodeForm.{SoundInode, is_data_block_or_none, is_sound_file, is_sound_inode, is_sound_kind}
use Rattle.layout.specs.InodeForm.{is_sound_map, is_sound_regular}
use Rattle.layout.specs.Owners.{owned_by}
use Rattle.layout.specs.Parts.{content_in}
use Rattle.layout.proofs.Used.{regular_held}
use Rattle.inode.proofs.AllTests.{all_three, all_two}
use Rattle.inode.specs.WriteSets.Attributes.{attributed}
use Rattle.inode_data.proofs.Owned.{numbers_apart, own_number}
use Rattle.inode_sizes.specs.Cut.{count_before, first_of, last_of, left_in, with_zeros, zeroed}
use Rattle.inode_sizes.specs.CutBlocks.{IsCutOf}
use Rattle.inode_sizes.specs.declared.cuts.CutPointers.{CutPointers}
use Rattle.inode_sizes.proofs.CutBytes.{cut_bytes}
use Rattle.inode_sizes.proofs.CutContent as cuts
use Rattle.inode_sizes.proofs.CutNumbers.{all_stay, before, past, still_mapped}
use Rattle.inode_sizes.proofs.CutOwned as owned
use Rattle.inode_sizes.proofs.FirstOnes.{more_zeros}
use Rattle.inode_sizes.proofs.InnersCut.{how_often}
use Rattle.inode_sizes.proofs.ReadBack.{small_all, small_one, zeros_else, zeros_here}
use Rattle.inode_sizes.proofs.RegularThere as file
use Rattle.inode_sizes.proofs.RegularThere.{IsRegularThere}

zeros_taken : (s m : ℕ) → s ≤ m → take s (replicate {A = ℕ} m 0) ≡ replicate s 0
zeros_taken zero m low = refl
zeros_taken (suc s) zero low = absurd (omega (arith, low))
zeros_taken (suc s) (suc m) low = ap (λ l. 0 ∷ l) (zeros_taken s m (omega (arith, low)))

zeroed_zeros : (s : ℕ) → s ≤ BLOCK_BYTES → replicate BLOCK_BYTES 0 ≡ zeroed s (replicate BLOCK_BYTES 0)
zeroed_zeros s most =
    let sums : s + (BLOCK_BYTES - s) ≡ BLOCK_BYTES = omega (arith, most) in
    sym (ap (λ l. l ++ replicate (BLOCK_BYTES - s) 0) (zeros_taken s BLOCK_BYTES most)
    ∙ more_zeros s (BLOCK_BYTES - s) ∙ ap (λ k. replicate {A = ℕ} k 0) sums)

are_zero : (n : ℕ) → is_zeros (replicate n 0) ≡ true
are_zero zero = refl
are_zero (suc n) = are_zero n

module _ (g : Geometry) (image : Image) (tree : Tree) (n : ℕ) (inode : Inode) (size : ℕ)
    (has : IsRegularThere g image tree n inode) (less : size < inode.size) (cut : CutPointers)
    (is : IsCutOf (content_in g image) inode (count_before size) cut) where
  abbrev pub content : Image
  content = content_in g image

  abbrev pub numbers : List ℕ
  numbers = numbers_of content inode

  abbrev pub k : ℕ
  k = count_before size

  abbrev pub left_over : List ℕ
  left_over = first_of k numbers

  abbrev pub last : ℕ
  last = last_of k numbers

  abbrev zs : Image
  zs = with_zeros content last (left_in size)

  count : length numbers ≡ FILE_INDEXES
  count = file.count g image tree n inode has

  pub low : k ≤ length numbers
  low =
      let many = count in let most = file.size_fits g image tree n inode has in
      omega (arith, many, most, less)

  pub at_low : k - 1 < length numbers
  at_low = let few = low in let many = count in omega (arith, few, many)

  -- ---- the last that stays

  last_is : (j : ℕ) → suc j ≡ k → last ≡ get_or numbers j 0
  last_is j same =
      let there : k - 1 ≡ j = omega (arith, same) in
      ap (λ q. get_or left_over q 0) there ∙ before numbers k low j (omega (arith, same))

  some_last : nat_eq last 0 ≡ false → 0 < k
  some_last some = elim (cases_lt 0 k) [
    | inl more ↦ more
    | inr none ↦
        let zero_is : last ≡ 0 = past numbers k low (k - 1) (omega (arith, none)) in
        let clash : true ≡ false = sym (eq-eqb last 0 zero_is) ∙ some in cc
  ]

  pub last_there : nat_eq last 0 ≡ false → get_or numbers (k - 1) 0 ≡ last
  last_there some =
      let more = some_last some in
      sym (last_is (k - 1) (omega (arith, more)))

  abbrev pub after : Image
  after = cuts.after g image tree n inode has k cut is last (left_in size) (k - 1) at_low last_there

  -- ---- the blocks

  -- what it hasn't is as it was
  pub outside : (b : ℕ) → how_often b (owned_by content (Ok (Some inode))) ≡ 0 → after b ≡ content b
  outside b none =
      cuts.unwritten g image tree n inode has k cut is last (left_in size) (k - 1) at_low last_there b
      (λ some same. not_own b cut.indirect_part.pointer none same
      (cuts.indirect_own g image tree n inode has k cut is some))
      (λ some same. not_own b cut.double.inners.part none same
      (cuts.part_own g image tree n inode has k cut is some))
      (λ some same. not_own b cut.double.pointer none same
      (cuts.double_own g image tree n inode has k cut is some))
      ∙ zeros_else content last (left_in size) b
      (λ some same. not_own b last none same
      (let there = last_there some in
      subst (λ q. 1 ≤ how_often q (owned_by content (Ok (Some inode)))) there
      (own_number g image tree n inode (file.mapped g image tree n inode has) (k - 1) at_low
      (ap (λ q. nat_eq q 0) there ∙ some))))
    where
      not_own : (b q : ℕ) → how_often b (owned_by content (Ok (Some inode))) ≡ 0 → b ≡ q
          → 1 ≤ how_often q (owned_by content (Ok (Some inode))) → ⊥
      not_own b q none same some =
          let there = ap (λ x. how_often x (owned_by content (Ok (Some inode)))) same in
          absurd (omega (arith, none, there, some))

  module _ (j : ℕ) (inside : suc j ≤ k) (some : nat_eq (get_or numbers j 0) 0 ≡ false) where
    abbrev one : ℕ
    one = get_or numbers j 0

    j_low : j < length numbers
    j_low = let few = low in omega (arith, few, inside)

    not_pointers : after one ≡ zs one
    not_pointers =
        cuts.number_unwritten g image tree n inode has k cut is last (left_in size) (k - 1) at_low last_there j
        j_low some

    other_last : suc j < k → nat_eq last 0 ≡ false → one ≡ last → ⊥
    other_last ahead some_of same =
        numbers_apart g image tree n inode (file.mapped g image tree n inode has) j (k - 1)
        (λ e. omega (arith, e, ahead)) j_low at_low (same ∙ sym (last_there some_of))
        (ap (λ q. nat_eq q 0) (last_there some_of) ∙ some_of)

    same_block : suc j < k → after one ≡ content one
    same_block ahead = not_pointers ∙ zeros_else content last (left_in size) one (other_last ahead)

    last_block : suc j ≡ k → after one ≡ zeroed (size - BLOCK_BYTES * j) (content one)
    last_block ends =
        let same = last_is j ends in
        let left : left_in size ≡ size - BLOCK_BYTES * j = ap (λ q. size - BLOCK_BYTES * q) (count_is ends) in
        not_pointers ∙ ap zs (sym same)
        ∙ zeros_here content last (left_in size) (ap (λ x. nat_eq x 0) same ∙ some)
        ∙ (λ i. zeroed (left i) (content (same i)))
      where
        count_is : suc j ≡ k → k - 1 ≡ j
        count_is ends = omega (arith, ends)

  others : (j : ℕ) → suc j < k
      → content_of after (get_or numbers j 0) ≡ content_of content (get_or numbers j 0)
  others j ahead = by_test (nat_eq (get_or numbers j 0) 0) refl
    where
      by_test : (t : Bool) → nat_eq (get_or numbers j 0) 0 ≡ t
          → cond t (replicate BLOCK_BYTES 0) (after (get_or numbers j 0))
          ≡ cond t (replicate BLOCK_BYTES 0) (content (get_or numbers j 0))
      by_test true e = refl
      by_test false e = same_block j (omega (arith, ahead)) e ahead

  at_end : (j : ℕ) → suc j ≡ k → content_of after (get_or numbers j 0)
      ≡ zeroed (size - BLOCK_BYTES * j) (content_of content (get_or numbers j 0))
  at_end j ends = by_test (nat_eq (get_or numbers j 0) 0) refl
    where
      by_test : (t : Bool) → nat_eq (get_or numbers j 0) 0 ≡ t
          → cond t (replicate BLOCK_BYTES 0) (after (get_or numbers j 0))
          ≡ zeroed (size - BLOCK_BYTES * j) (cond t (replicate BLOCK_BYTES 0) (content (get_or numbers j 0)))
      by_test true e = zeroed_zeros (size - BLOCK_BYTES * j) (omega (arith, ends))
      by_test false e = last_block j (omega (arith, ends)) e ends

  one_long : (q : ℕ) → length (content_of content q) ≡ BLOCK_BYTES
  one_long q = by_test (nat_eq q 0)
    where
      by_test : (none : Bool) → length (cond none (replicate BLOCK_BYTES 0) (content q)) ≡ BLOCK_BYTES
      by_test true = refl
      by_test false = file.long_content g image tree n inode has q

  abbrev all : List ℕ
  all = bytes_of content numbers

  bytes_now : bytes_of after left_over ≡ take size all ++ replicate (BLOCK_BYTES * length numbers - size) 0
  unfolding bytes_of
  bytes_now = cut_bytes (content_of content) (content_of after) refl one_long numbers k size low (omega arith)
      (omega arith) others at_end

  -- ---- its numbers

  placed : list_all (is_data_block_or_none g) left_over ≡ true
  placed = all_stay (is_data_block_or_none g) k numbers (file.rules g image tree n inode has).mapped.numbers refl

  module _ (looks : Inode) where
    abbrev pub shown : Inode
    shown = attributed inode looks

    abbrev pub new : Inode
    new = cuts.new g image tree n inode has k cut is last (left_in size) (k - 1) at_low last_there shown size

    pub numbers_now : numbers_of after new ≡ left_over
    numbers_now =
        cuts.numbers_now g image tree n inode has k cut is last (left_in size) (k - 1) at_low last_there shown size

    pub fewer : (b : ℕ) → how_often b (owned_by after (Ok (Some new))) + how_often b cut.gone.items
        ≡ how_often b (owned_by content (Ok (Some inode)))
    fewer = owned.fewer g image tree n inode has k cut is last (left_in size) (k - 1) at_low last_there shown size

    -- ---- its rules

    eight : length cut.direct_part.numbers.items ≡ DIRECT_INDEXES
    eight = cuts.direct_long g image tree n inode has k cut is

    abbrev whole_size : ℕ
    whole_size = BLOCK_BYTES * length numbers

    pub all_long : length all ≡ LARGEST_FILE
    all_long = file.bytes_count g image tree n inode has

    cut_long : length (take size all) ≡ size
    cut_long = length-take-le size all
        (let every = all_long in let most = file.size_fits g image tree n inode has in
        omega (arith, every, most, less))

    bytes_are : bytes_of after (numbers_of after new) ≡ take size all ++ replicate (whole_size - size) 0
    bytes_are = ap (bytes_of after) numbers_now ∙ bytes_now

    is_mapped : IsMapped g after new
    is_mapped = record {
      pointers = cuts.all_pointers_placed g image tree n inode has k cut is last (left_in size) (k - 1) at_low
          last_there shown size;
      numbers = ap (list_all (is_data_block_or_none g)) numbers_now ∙ placed;
      used = cuts.pointers_used g image tree n inode has k cut is last (left_in size) (k - 1) at_low last_there
          shown size;
    }

    is_regular : IsRegular g after new
    is_regular = record {
      mapped = is_mapped;
      zeros = ap (λ l. is_zeros (drop size l)) bytes_are
          ∙ ap (λ m. is_zeros (drop m (take size all ++ replicate (whole_size - size) 0))) (sym cut_long)
          ∙ ap is_zeros (drop-append_seam (take size all) (replicate (whole_size - size) 0))
          ∙ are_zero (whole_size - size);
    }

    pub rules : IsOfKind g after new.kind new
    rules = subst (λ kind. IsOfKind g after kind new) (sym has.regular) is_regular

    -- ---- it is sound

    pub new_sound : SoundInode g shown → SoundInode g new
    unfolding is_sound_inode
    new_sound sound =
        let old = subst (λ kind. is_sound_kind g kind shown ≡ true) has.regular sound.good in
        let three = all_three (is_sound_file shown) (is_sound_map g shown) (is_sound_regular shown) old in
        let two = all_two (nat_le shown.size LARGEST_FILE) (nat_eq shown.parent 0) three.2 in
        let first = cuts.direct_placed g image tree n inode has k cut is in
        let is_indirect_placed = cuts.indirect_part_placed g image tree n inode has k cut is in
        let double_is_placed = cuts.double_placed g image tree n inode has k cut is in
        let allowed = cuts.double_allowed g image tree n inode has k cut is in
        let most = file.size_fits g image tree n inode has in
        record {
          fits = record {
            mode = sound.fits.mode;
            uid = sound.fits.uid;
            gid = sound.fits.gid;
            nlink = sound.fits.nlink;
            size = omega (arith, most, less);
            atime = sound.fits.atime;
            mtime = sound.fits.mtime;
            ctime = sound.fits.ctime;
            boot = sound.fits.boot;
            transaction = sound.fits.transaction;
            parent = sound.fits.parent;
            verifier = sound.fits.verifier;
            count = eight;
            direct = small_all g cut.direct_part.numbers.items first;
            indirect = small_one g (nat_eq cut.indirect_part.pointer 0) cut.indirect_part.pointer refl is_indirect_placed;
            double = small_one g (nat_eq cut.double.pointer 0) cut.double.pointer refl double_is_placed;
          };
          good = subst (λ kind. is_sound_kind g kind new ≡ true) (sym has.regular)
              (λ i. three.0 i && (first i && is_indirect_placed i && double_is_placed i && allowed i)
              && (le-leb size LARGEST_FILE (omega (arith, most, less)) i && two.1 i));
        }

    -- ---- what is in it

    take_less : (xs : List ℕ) (a b : ℕ) → a ≤ b → take a (take b xs) ≡ take a xs
    take_less xs zero b less = refl
    take_less [] (suc a) zero less = absurd (omega (arith, less))
    take_less [] (suc a) (suc b) less = refl
    take_less (x ∷ xs) (suc a) zero less = absurd (omega (arith, less))
    take_less (x ∷ xs) (suc a) (suc b) less = ap (λ l. x ∷ l) (take_less xs a b (omega (arith, less)))

    old_long : length (take inode.size all) ≡ inode.size
    old_long = length-take-le inode.size all
        (let every = all_long in let most = file.size_fits g image tree n inode has in omega (arith, every, most))

    cut_is : take size (bytes_of after (numbers_of after new)) ≡ resized size (take inode.size all)
    cut_is =
        let none : size - inode.size ≡ 0 = omega (arith, less) in
        let long = cut_long in
        ap (take size) bytes_are
        ∙ take-append-le size (take size all) (replicate (whole_size - size) 0) (omega (arith, long))
        ∙ take_all size (take size all) (omega (arith, long))
        ∙ sym (append-nil (take size all))
        ∙ (λ i. sym (take_less all size inode.size (omega (arith, less))) i
        ++ replicate {A = ℕ} (sym (ap (λ m. size - m) old_long ∙ none) i) 0)

    mapped_is : mapped_of (numbers_of after new)
        ≡ mapped_of_size size (take inode.size all) (mapped_of numbers)
    mapped_is =
        ap mapped_of numbers_now ∙ still_mapped numbers size low
        ∙ sym (ap (λ t. cond t (retain (mapped_of numbers) (λ index. nat_lt (index * BLOCK_BYTES) size))
        (mapped_of numbers))
        (lt-ltb size (length (take inode.size all)) (let long = old_long in omega (arith, long, less))))

    shown_is : regular_in content shown ≡ model.Regular (take inode.size all) (mapped_of numbers)
    unfolding numbers_of
    shown_is = refl

    cut_body : regular_in after new ≡ with_length (Some size) (regular_in content shown)
    cut_body = (λ i. model.Regular (cut_is i) (mapped_is i)) ∙ sym (ap (with_length (Some size)) shown_is)

    pub body_now : body_of g.inodes after new.kind new
        ≡ with_length (Some size) (body_of g.inodes content shown.kind shown)
    body_now = subst (λ kind. body_of g.inodes after kind new
        ≡ with_length (Some size) (body_of g.inodes content kind shown)) (sym has.regular) cut_body

    pub cost_now : cost (with_length (Some size) (body_of g.inodes content shown.kind shown))
        ≡ cut.direct_part.count + cut.indirect_part.used + cut.double.used
    cost_now =
        sym (ap cost body_now) ∙ ap (λ kind. cost (body_of g.inodes after kind new)) has.regular
        ∙ regular_held g after new eight is_mapped
        ∙ owned.counted g image tree n inode has k cut is last (left_in size) (k - 1) at_low last_there shown size

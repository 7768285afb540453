-- What a file owns of which the end was cut off: what it has still, and what is gone.
use Rattle.std.proofs.Common.{◌≡◌, ℕ, ◌+◌, ◌-◌, ◌<◌, ap, ◌∙◌, false, List, [], ◌∷◌, ◌++◌, drop, get_or, length}
use Rattle.std.proofs.Common.{filter, count_by, nat_eq, Some, Ok, arith}
use Rattle.base.specs.declared.TheConstants.{DIRECT_INDEXES, FIRST_DOUBLE_INDEX}
use Rattle.disk.specs.Crash.{Image}
use Rattle.nfs_spec.specs.Model.Tree.{Tree}
use Rattle.layout.specs.declared.geometry.Geometry.{Geometry}
use Rattle.layout.specs.declared.inode.Inode.{Inode}
use Rattle.layout.specs.Decode.{doubled_in, numbers_in, numbers_of, pointer_blocks}
use Rattle.layout.specs.Fields.{count_of}
use Rattle.layout.specs.Owners.{owned_by}
use Rattle.layout.specs.Parts.{content_in}
use Rattle.layout.proofs.FileNumbers.{in_parts, pointers_are}
use Rattle.inode_sizes.specs.Cut.{first_of, is_some, lost}
use Rattle.inode_sizes.specs.CutBlocks.{IsCutOf}
use Rattle.inode_sizes.specs.Doubles.{times}
use Rattle.inode_sizes.specs.declared.cuts.CutPointers.{CutPointers}
use Rattle.inode_sizes.proofs.CutContent.{after, all_left, new, numbers_now, pointers_now}
use Rattle.inode_sizes.proofs.FirstOnes.{count_both, count_first, left_over_or_lost, parted, times_both, times_first}
use Rattle.inode_sizes.proofs.InnersCut.{how_often, often_both, row_parted}
use Rattle.inode_sizes.proofs.RegularThere.{IsRegularThere, numbers, was}

-- as many of a number in the parts of a file's numbers
in_all : (q : ℕ) (content : Image) (inode : Inode) → times q (numbers_of content inode)
    ≡ times q inode.direct + times q (numbers_in content inode.indirect) + times q (doubled_in content inode.double)
in_all q content inode =
    let one = ap (times q) (in_parts content inode)
    ∙ times_both q (inode.direct ++ numbers_in content inode.indirect) (doubled_in content inode.double) in
    let two = times_both q inode.direct (numbers_in content inode.indirect) in omega (arith, one, two)

in_pointers : (q a b : ℕ) (inner : List ℕ) → times q (a ∷ b ∷ inner)
    ≡ times q (a ∷ []) + (times q (b ∷ []) + times q inner)
in_pointers q a b inner =
    let one = times_first q a (b ∷ inner) in
    let two = times_first q b inner in omega (arith, one, two)

module _ (g : Geometry) (image : Image) (tree : Tree) (n : ℕ) (inode : Inode)
    (has : IsRegularThere g image tree n inode) (k : ℕ) (cut : CutPointers)
    (is : IsCutOf (content_in g image) inode k cut) where
  abbrev content : Image
  content = was g image tree n inode has

  abbrev all : List ℕ
  all = numbers g image tree n inode has

  abbrev news : List ℕ
  news = cut.double.inners.numbers.items

  abbrev c : ℕ
  c = k - FIRST_DOUBLE_INDEX

  abbrev doubled : List ℕ
  doubled = doubled_in content inode.double

  inners_gone : (q : ℕ)
      → how_often q is.further.between + (times q news + times q (first_of c doubled))
      ≡ how_often q is.between + (times q (numbers_in content inode.double) + times q doubled)
  unfolding doubled_in
  inners_gone q = is.further.inners.gone_are q

  inners_used : cut.double.inners.used ≡ count_by is_some news + count_by is_some (first_of c doubled)
  unfolding doubled_in
  inners_used = is.further.inners.used_is

  double_gone : (q : ℕ) → how_often q cut.gone.items + times q (cut.double.pointer ∷ [])
      ≡ how_often q is.further.between + times q (inode.double ∷ [])
  double_gone q =
      let one = ap (how_often q) is.further.gone_are
      ∙ often_both q is.further.between (filter is_some (lost inode.double news ∷ [])) in
      let two = left_over_or_lost q inode.double news in
      let three = ap (λ x. times q (x ∷ [])) is.further.pointer_is in omega (arith, one, two, three)

  module _ (last from at : ℕ) (low : at < length all)
      (last_is : nat_eq last 0 ≡ false → get_or all at 0 ≡ last) (shown : Inode) (size : ℕ) where
    abbrev behind : Image
    behind = after g image tree n inode has k cut is last from at low last_is

    abbrev now : Inode
    now = new g image tree n inode has k cut is last from at low last_is shown size

    numbers_are : numbers_of behind now ≡ first_of k all
    numbers_are = numbers_now g image tree n inode has k cut is last from at low last_is shown size

    pointers_are_now : pointer_blocks behind now ≡ cut.indirect_part.pointer ∷ cut.double.pointer ∷ news
    pointers_are_now = pointers_now g image tree n inode has k cut is last from at low last_is shown size

    pub fewer : (q : ℕ) → how_often q (owned_by behind (Ok (Some now))) + how_often q cut.gone.items
        ≡ how_often q (owned_by content (Ok (Some inode)))
    fewer q =
        let was_all = times_both q (pointer_blocks content inode) all in
        let was_pointers = ap (times q) (pointers_are content inode)
        ∙ in_pointers q inode.indirect inode.double (numbers_in content inode.double) in
        let was_numbers = in_all q content inode in
        let now_all = times_both q (pointer_blocks behind now) (numbers_of behind now) in
        let now_pointers = ap (times q) pointers_are_now ∙ in_pointers q cut.indirect_part.pointer cut.double.pointer news in
        let stay = ap (times q) numbers_are in
        let direct_part = parted q k inode.direct in
        let indirect_part = row_parted q inode.indirect (numbers_in content inode.indirect) (k - DIRECT_INDEXES)
        (filter is_some (drop k inode.direct)) cut.indirect_part.pointer cut.indirect_part.numbers.items cut.indirect_part.used is.between is.indirect_part in
        let inner = inners_gone q in
        let double = double_gone q in
        let parts = left_over_parts in
        let direct_is = ap (times q) is.direct_part in
        let indirect_is = ap (times q) is.indirect_part.numbers_are in
        omega (
          arith,
          was_all,
          was_pointers,
          was_numbers,
          now_all,
          now_pointers,
          stay,
          direct_part,
          indirect_part,
          inner,
          double,
          parts,
          direct_is,
          indirect_is,
        )
      where
        left_over_parts : times q (first_of k all)
            ≡ times q cut.direct_part.numbers.items + times q cut.indirect_part.numbers.items + times q (first_of c doubled)
        left_over_parts =
            let one = ap (times q) (all_left g image tree n inode has k cut is last from at low last_is shown size)
            ∙ times_both q (cut.direct_part.numbers.items ++ cut.indirect_part.numbers.items) (first_of c doubled) in
            let two = times_both q cut.direct_part.numbers.items cut.indirect_part.numbers.items in omega (arith, one, two)

    -- as many as were counted
    pub counted : count_of (numbers_of behind now) + count_of (pointer_blocks behind now)
        ≡ cut.direct_part.count + cut.indirect_part.used + cut.double.used
    counted =
        let one = ap (λ (l : List ℕ). count_by is_some l) (numbers_are
        ∙ all_left g image tree n inode has k cut is last from at low last_is shown size)
        ∙ count_both (cut.direct_part.numbers.items ++ cut.indirect_part.numbers.items) (first_of c doubled) in
        let two = count_both cut.direct_part.numbers.items cut.indirect_part.numbers.items in
        let three = ap (λ (l : List ℕ). count_by is_some l) pointers_are_now
        ∙ count_first cut.indirect_part.pointer (cut.double.pointer ∷ news) in
        let four = count_first cut.double.pointer news in
        let five = inners_used in
        let direct_part = is.direct_part_count in
        let indirect_part = is.indirect_part.used_is in
        let double = is.further.used_is in
        omega (arith, one, two, three, four, five, direct_part, indirect_part, double)

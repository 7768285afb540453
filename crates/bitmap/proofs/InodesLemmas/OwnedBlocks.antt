-- The blocks that a file owns, gathered from its inode and its pointer blocks.
use Rattle.std.proofs.Common.{◌≡◌, ℕ, ◌+◌, ◌<◌, sym, ap, ◌∙◌, refl, List, [], ◌∷◌, ◌++◌, filter, get_or, length, take}
use Rattle.std.proofs.Common.{Some, Ok, append-nil, nat_eq, Bool, true, false, cond}
use Rattle.std.specs.List.{flat_map}
use Rattle.std.proofs.lemmas.List.{append_assoc, flat_map_more, take_more}
use Rattle.std.proofs.lemmas.List.Elements.{filter-append}
use Rattle.disk.specs.Crash.{Image}
use Rattle.layout.specs.declared.inode.Inode.{Inode}
use Rattle.layout.specs.Decode.{doubled_in, numbers_in, numbers_of, pointer_blocks}
use Rattle.layout.specs.Owners.{owned_by}
use Rattle.layout.proofs.NumbersIn.{no_double_left, none_left}
use Rattle.bitmap.specs.Inodes.Frees.{is_some, named_by}

module _ (content : Image) where
  abbrev named : ℕ → List ℕ
  named = named_by content

  retained_of_each : (pointers : List ℕ)
      → flat_map named pointers ≡ filter is_some (flat_map (numbers_in content) pointers)
  retained_of_each [] = refl
  retained_of_each (n ∷ pointers) =
      ap (λ l. named n ++ l) (retained_of_each pointers)
      ∙ sym (filter-append is_some (numbers_in content n) (flat_map (numbers_in content) pointers))

  -- with those of one pointer block more
  pub one_more : (before all numbers now : List ℕ) (index : ℕ) → index < length all
      → numbers ≡ before ++ flat_map named (take index all) → now ≡ numbers ++ named (get_or all index 0)
      → now ≡ before ++ flat_map named (take (index + 1) all)
  one_more before all numbers now index less was is =
      is ∙ ap (λ l. l ++ named (get_or all index 0)) was
      ∙ flat_map_more named before (take index all) (get_or all index 0)
      ∙ ap (λ l. before ++ flat_map named l) (sym (take_more all index 0 less))

  -- one number more before what is kept
  retained_once_more : (some : Bool) (n : ℕ) (l : List ℕ) → is_some n ≡ some → filter is_some l ≡ l
      → filter is_some (cond some (n ∷ l) l) ≡ cond some (n ∷ l) l
  retained_once_more true n l is is_preserved = ap (λ t. cond t (n ∷ filter is_some l) (filter is_some l)) is ∙ ap (λ k. n ∷ k) is_preserved
  retained_once_more false n l is is_preserved = is_preserved

  retained_twice : (l : List ℕ) → filter is_some (filter is_some l) ≡ filter is_some l
  retained_twice [] = refl
  retained_twice (n ∷ l) = retained_once_more (is_some n) n (filter is_some l) refl (retained_twice l)

  -- those that the indirect block names are kept, behind others
  pub indirect_remaining : (before : List ℕ) (inode : Inode)
      → filter is_some (before ++ named inode.indirect)
      ≡ filter is_some (before ++ numbers_in content inode.indirect)
  indirect_remaining before inode =
      filter-append is_some before (named inode.indirect)
      ∙ ap (λ l. filter is_some before ++ l) (retained_twice (numbers_in content inode.indirect))
      ∙ sym (filter-append is_some before (numbers_in content inode.indirect))

  -- all of them
  pub all_owned : (inode : Inode)
      → filter is_some (inode.indirect ∷ inode.double ∷ numbers_in content inode.double ++ inode.direct
      ++ numbers_in content inode.indirect) ++ flat_map named (numbers_in content inode.double)
      ≡ owned_by content (Ok (Some inode))
  unfolding numbers_of doubled_in pointer_blocks
  all_owned inode =
      let pointers : List ℕ = inode.indirect ∷ inode.double ∷ numbers_in content inode.double in
      let indirect_part : List ℕ = numbers_in content inode.indirect in
      let further : List ℕ = flat_map (numbers_in content) (numbers_in content inode.double) in
      ap (λ l. filter is_some (pointers ++ inode.direct ++ indirect_part) ++ l) (retained_of_each (numbers_in content inode.double))
      ∙ sym (filter-append is_some (pointers ++ inode.direct ++ indirect_part) further)
      ∙ ap (filter is_some)
      (ap (λ l. l ++ further) (append_assoc pointers inode.direct indirect_part)
      ∙ append_assoc pointers (inode.direct ++ indirect_part) further)

  -- without a double indirect block they are those that no inner block names
  pub direct_owned : (inode : Inode) → nat_eq inode.double 0 ≡ true
      → filter is_some (inode.indirect ∷ inode.double ∷ inode.direct ++ numbers_in content inode.indirect)
      ≡ owned_by content (Ok (Some inode))
  unfolding numbers_of pointer_blocks
  direct_owned inode none =
      let first : List ℕ = inode.indirect ∷ inode.double ∷ [] in
      let lower_part : List ℕ = inode.direct ++ numbers_in content inode.indirect in
      let inner : List ℕ = numbers_in content inode.double in
      let below : List ℕ = doubled_in content inode.double in
      sym (filter-append is_some (first ++ inner) (lower_part ++ below)
      ∙ (λ i. filter-append is_some first inner i ++ filter-append is_some lower_part below i)
      ∙ (λ i. (filter is_some first ++ none_left content inode.double none i)
      ++ (filter is_some lower_part ++ no_double_left content inode.double none i))
      ∙ (λ i. append-nil (filter is_some first) i ++ append-nil (filter is_some lower_part) i)
      ∙ sym (filter-append is_some first lower_part))

-- A directory has no double indirect block: what it spans lies in front of it.
use Rattle.std.proofs.Common.{◌≡◌, ℕ, ◌*◌, ◌≤◌, sym, ap, ◌∙◌, refl, subst, Bool, true, false, not, ◌&&◌}
use Rattle.std.proofs.Common.{length, length-append, take, drop, nat_eq, arith}
use Rattle.std.specs.List.{list_all}
use Rattle.std.proofs.lemmas.List.{drop-append-le}
use Rattle.std.proofs.lemmas.List.Folds.{list_all-append}
use Rattle.base.specs.declared.TheConstants.{DIRECT_INDEXES, FIRST_DOUBLE_INDEX, SLOTS_PER_BLOCK}
use Rattle.disk.specs.Crash.{Image}
use Rattle.layout.specs.declared.inode.Inode.{Inode}
use Rattle.layout.specs.Decode.{bytes_of, doubled_in, numbers_in, numbers_of, span_of}
use Rattle.layout.specs.InodeForm.{names_first}
use Rattle.layout.proofs.AllNumbers.{all-length}
use Rattle.layout.proofs.FileNumbers.{first_ones, in_parts}
use Rattle.layout.proofs.NumbersIn.{in_length, no_double_pass}
use Rattle.image_read.specs.Files.RowNumbers.{numbers_before_double}
use Rattle.image_read.specs.Files.Slots.{AreSlots, IsSpanned}

and_true : (a b : Bool) → b ≡ true → (a && b) ≡ a
and_true true b is = is
and_true false b is = refl

module _ (content : Image) (inode : Inode) (direct : length inode.direct ≡ DIRECT_INDEXES)
    (none : nat_eq inode.double 0 ≡ true) where
  pub long_before_double : length (numbers_before_double content inode) ≡ FIRST_DOUBLE_INDEX
  long_before_double =
      let indirect_part = in_length content inode.indirect in
      let first = length-append inode.direct (numbers_in content inode.indirect) in
      omega (arith, first, indirect_part, direct)

  -- so many blocks are named first by the ones just where they are by the others
  names_same : (count : ℕ) → count ≤ FIRST_DOUBLE_INDEX
      → names_first count (numbers_of content inode) ≡ names_first count (numbers_before_double content inode)
  names_same count few =
      let long = long_before_double in
      (λ i. list_all (λ number. not (nat_eq number 0)) (first_ones content inode direct count few i)
      && list_all (λ number. nat_eq number 0) (drop count (in_parts content inode i)))
      ∙ ap (λ l. list_all (λ number. not (nat_eq number 0)) (take count (numbers_before_double content inode))
      && list_all (λ number. nat_eq number 0) l)
      (drop-append-le count (numbers_before_double content inode) (doubled_in content inode.double) (omega (arith, few, long)))
      ∙ ap (λ t. list_all (λ number. not (nat_eq number 0)) (take count (numbers_before_double content inode)) && t)
      (list_all-append (λ number. nat_eq number 0) (drop count (numbers_before_double content inode))
      (doubled_in content inode.double)
      ∙ and_true (list_all (λ number. nat_eq number 0) (drop count (numbers_before_double content inode)))
      (list_all (λ number. nat_eq number 0) (doubled_in content inode.double))
      (no_double_pass content inode.double none (λ number. nat_eq number 0) refl))

  module _ (inodes : ℕ) (few : span_of inode ≤ FIRST_DOUBLE_INDEX) where
    pub spanned_all : IsSpanned inodes content inode (numbers_before_double content inode)
        → IsSpanned inodes content inode (numbers_of content inode)
    spanned_all is = record {
      few = let all = all-length content inode direct in omega (arith, few, all);
      first = names_same (span_of inode) few ∙ is.first;
      slots = subst (λ l. AreSlots inodes (bytes_of content l) (SLOTS_PER_BLOCK * span_of inode))
          (sym (first_ones content inode direct (span_of inode) few)) is.slots;
    }

    -- and back
    pub spanned_before_double : IsSpanned inodes content inode (numbers_of content inode)
        → IsSpanned inodes content inode (numbers_before_double content inode)
    spanned_before_double is = record {
      few = let long = long_before_double in omega (arith, few, long);
      first = sym (names_same (span_of inode) few) ∙ is.first;
      slots = subst (λ l. AreSlots inodes (bytes_of content l) (SLOTS_PER_BLOCK * span_of inode))
          (first_ones content inode direct (span_of inode) few) is.slots;
    }

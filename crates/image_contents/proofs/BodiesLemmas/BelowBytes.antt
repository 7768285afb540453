-- The bytes below a double indirect block past a size, one inner block after another.
use Rattle.std.proofs.Common.{◌≡◌, ℕ, ◌+◌, ◌-◌, ◌*◌, ◌<◌, ap, ◌∙◌, Bool, true, ◌&&◌}
use Rattle.std.proofs.Common.{List, [], ◌∷◌, length, take, drop, get_or, nat_eq, arith, length-append, suc}
use Rattle.std.specs.List.{flat_map}
use Rattle.std.proofs.lemmas.List.{length-take-le}
use Rattle.base.specs.declared.TheConstants.{BLOCK_BYTES, DIRECT_INDEXES, FIRST_DOUBLE_INDEX, INDIRECT_INDEXES}
use Rattle.disk.specs.Crash.{Image}
use Rattle.layout.specs.declared.inode.Inode.{Inode}
use Rattle.layout.specs.Decode.{bytes_of, doubled_in, numbers_in, numbers_of}
use Rattle.layout.specs.Fields.{is_zeros}
use Rattle.layout.proofs.FileNumbers.{in_parts}
use Rattle.layout.proofs.NumbersIn.{in_length, none_at, none_in}
use Rattle.layout.proofs.Pieces.{pieces-length}
use Rattle.image_read.specs.Files.Content.{AreLong}
use Rattle.image_read.specs.Files.RowNumbers.{numbers_before_double}
use Rattle.image_read.proofs.FilesLemmas.Rows.{rows_more, rows_of}
use Rattle.image_read.proofs.FilesLemmas.TailBytes.{none_yet, zero_bytes, zeros_both}
use Rattle.image_contents.specs.Bodies.Inner.{is_zero_below, is_zero_row}

both_true : (a b : Bool) → a ≡ true → b ≡ true → (a && b) ≡ true
both_true a b one other = λ i. one i && other i

module _ (content : Image) (long : AreLong content) where
  -- an inner block that isn't there has zeros alone
  pub zero_row : (from pointer : ℕ) → nat_eq pointer 0 ≡ true
      → is_zeros (drop from (bytes_of content (numbers_in content pointer))) ≡ true
  zero_row from pointer none =
      ap (λ l. is_zeros (drop from (bytes_of content l))) (none_in content pointer none)
      ∙ zero_bytes content long from (length (numbers_in content pointer))

  zero_rows : (from : ℕ) (inner : List ℕ) → ((i : ℕ) → i < length inner → nat_eq (get_or inner i 0) 0 ≡ true)
      → is_zeros (drop from (bytes_of content (flat_map (numbers_in content) inner))) ≡ true
  zero_rows from [] none = none_yet content long from []
  zero_rows from (pointer ∷ inner) none =
      zeros_both content long from (numbers_in content pointer) (flat_map (numbers_in content) inner)
      ∙ both_true (is_zeros (drop from (bytes_of content (numbers_in content pointer))))
      (is_zeros (drop (from - BLOCK_BYTES * length (numbers_in content pointer))
      (bytes_of content (flat_map (numbers_in content) inner))))
      (zero_row from pointer (none 0 (omega arith)))
      (zero_rows (from - BLOCK_BYTES * length (numbers_in content pointer)) inner
      (λ i less. none (suc i) (omega (arith, less))))

  -- so has what a double indirect block reaches that isn't there
  pub zero_doubled : (from double : ℕ) → nat_eq double 0 ≡ true
      → is_zeros (drop from (bytes_of content (doubled_in content double))) ≡ true
  unfolding doubled_in
  zero_doubled from double none =
      zero_rows from (numbers_in content double)
      (λ i less. ap (λ n. nat_eq n 0) (none_at content double none i))

  -- one inner block more
  pub rows_zero : (size index_within : ℕ) (inner : List ℕ) → index_within < length inner
      → is_zeros (drop (size - BLOCK_BYTES * FIRST_DOUBLE_INDEX) (bytes_of content (rows_of content inner (index_within + 1))))
      ≡ (is_zeros (drop (size - BLOCK_BYTES * FIRST_DOUBLE_INDEX) (bytes_of content (rows_of content inner index_within)))
      && is_zero_row content size (get_or inner index_within 0) index_within)
  rows_zero size index_within inner less =
      let from : ℕ = size - BLOCK_BYTES * FIRST_DOUBLE_INDEX in
      let number = get_or inner index_within 0 in
      let few = length-take-le index_within inner (omega (arith, less)) in
      let count = pieces-length (numbers_in content) INDIRECT_INDEXES (in_length content) (take index_within inner) in
      let at : (size - BLOCK_BYTES * FIRST_DOUBLE_INDEX) - BLOCK_BYTES * length (rows_of content inner index_within)
      ≡ size - BLOCK_BYTES * (FIRST_DOUBLE_INDEX + INDIRECT_INDEXES * index_within) =
      omega (arith, few, count) in
      ap (λ l. is_zeros (drop from (bytes_of content l))) (rows_more content inner index_within less)
      ∙ zeros_both content long from (rows_of content inner index_within) (numbers_in content number)
      ∙ ap (λ n. is_zeros (drop from (bytes_of content (rows_of content inner index_within)))
      && is_zeros (drop n (bytes_of content (numbers_in content number)))) at

  -- nothing lies past a file's size where nothing does in its first blocks and in those below the double indirect block
  pub whole_zeros : (inode : Inode) → length inode.direct ≡ DIRECT_INDEXES
      → is_zeros (drop inode.size (bytes_of content (numbers_of content inode)))
      ≡ (is_zeros (drop inode.size (bytes_of content (numbers_before_double content inode))) && is_zero_below content inode)
  whole_zeros inode direct =
      let indirect_part = in_length content inode.indirect in
      let first = length-append inode.direct (numbers_in content inode.indirect) in
      let count : length (numbers_before_double content inode) ≡ FIRST_DOUBLE_INDEX = omega (arith, first, indirect_part, direct) in
      ap (λ l. is_zeros (drop inode.size (bytes_of content l))) (in_parts content inode)
      ∙ zeros_both content long inode.size (numbers_before_double content inode) (doubled_in content inode.double)
      ∙ ap (λ n. is_zeros (drop inode.size (bytes_of content (numbers_before_double content inode)))
      && is_zeros (drop (inode.size - BLOCK_BYTES * n) (bytes_of content (doubled_in content inode.double)))) count

-- How many blocks a file's numbers are those of, part by part.
use Rattle.std.proofs.Common.{◌≡◌, ℕ, ◌+◌, ◌<◌, sym, ap, ◌∙◌, cond, not, List, ◌++◌, length, get_or, nat_eq}
use Rattle.std.proofs.lemmas.List.Sums.{sum_by-append}
use Rattle.disk.specs.Crash.{Image}
use Rattle.layout.specs.declared.inode.Inode.{Inode}
use Rattle.layout.specs.Decode.{doubled_in, numbers_in, numbers_of}
use Rattle.layout.specs.Fields.{count_of}
use Rattle.layout.proofs.FileNumbers.{counted_parts}
use Rattle.image_read.specs.Files.RowNumbers.{numbers_before_double}
use Rattle.image_read.proofs.FilesLemmas.Rows.{rows_more, rows_of}

both_counted : (xs ys : List ℕ) → count_of (xs ++ ys) ≡ count_of xs + count_of ys
both_counted xs ys = sum_by-append (λ n. cond (not (nat_eq n 0)) 1 0) xs ys

-- one inner block more
pub counted_more : (content : Image) (inner : List ℕ) (index_within : ℕ) → index_within < length inner
    → count_of (rows_of content inner (index_within + 1))
    ≡ count_of (rows_of content inner index_within) + count_of (numbers_in content (get_or inner index_within 0))
counted_more content inner index_within less =
    ap count_of (rows_more content inner index_within less)
    ∙ both_counted (rows_of content inner index_within) (numbers_in content (get_or inner index_within 0))

-- those in front of the double indirect block, and those that it reaches
pub counted_all : (content : Image) (inode : Inode)
    → count_of (numbers_of content inode)
    ≡ count_of (numbers_before_double content inode) + count_of (doubled_in content inode.double)
counted_all content inode =
    counted_parts content inode
    ∙ ap (λ k. k + count_of (doubled_in content inode.double))
    (sym (both_counted inode.direct (numbers_in content inode.indirect)))

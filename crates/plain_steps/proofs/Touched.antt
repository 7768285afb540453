-- Indexes that are mapped one after another.
use Rattle.std.proofs.Common.{◌≡◌, ℕ, zero, suc, ◌+◌, ◌-◌, ◌≤◌, sym, ap, ◌∙◌, arith}
use Rattle.std.specs.FinSet.{FinSet, insert}
use Rattle.std.specs.List.{range_with_len}
use Rattle.std.specs.Ordering.{nat_cmp}
use Rattle.nfs_spec.specs.Procedures.Write.{mapped_with}

one_more : (mapped : FinSet nat_cmp) (first n : ℕ)
    → mapped_with (range_with_len first (suc n)) mapped
    ≡ insert (mapped_with (range_with_len first n) mapped) (first + n)
one_more mapped first zero =
    let same : first ≡ first + 0 = omega arith in ap (insert mapped) same
one_more mapped first (suc n) =
    let same : first + 1 + n ≡ first + suc n = omega arith in
    one_more (insert mapped first) (first + 1) n
    ∙ ap (insert (mapped_with (range_with_len first (suc n)) mapped)) same

pub mapped_more : (mapped : FinSet nat_cmp) (first index : ℕ) → first ≤ index
    → insert (mapped_with (range_with_len first (index - first)) mapped) index
    ≡ mapped_with (range_with_len first (index + 1 - first)) mapped
mapped_more mapped first index order =
    let here : index ≡ first + (index - first) = omega arith in
    let count : suc (index - first) ≡ index + 1 - first = omega arith in
    ap (insert (mapped_with (range_with_len first (index - first)) mapped)) here
    ∙ sym (one_more mapped first (index - first))
    ∙ ap (λ n. mapped_with (range_with_len first n) mapped) count

-- What files take of the data blocks. Blocks come into it as a count alone.
use Rattle.std.specs.Prelude.{ℕ, ◌+◌, ◌*◌, Bool, cond, ◌&&◌, nat_le, nat_lt, count_by}
use Rattle.std.specs.List.{list_any, range_with_len}
use Rattle.std.specs.Ordering.{nat_cmp}
use Rattle.std.specs.FinSet.{FinSet, len, items}
use Rattle.base.specs.declared.TheConstants.{DIRECT_INDEXES, FIRST_DOUBLE_INDEX, INDIRECT_INDEXES}
use Rattle.nfs_spec.specs.Model.Node.{Body, Regular, Directory, Link}

-- an index that the indirect block names
abbrev pub is_indirect : ℕ → Bool
is_indirect index = nat_le DIRECT_INDEXES index && nat_lt index FIRST_DOUBLE_INDEX

-- an index that the double indirect block reaches
abbrev pub is_double : ℕ → Bool
is_double index = nat_le FIRST_DOUBLE_INDEX index

-- an index that the inner block of this number names
abbrev pub is_inner : ℕ → ℕ → Bool
is_inner inner index =
    nat_le (FIRST_DOUBLE_INDEX + INDIRECT_INDEXES * inner) index
    && nat_lt index (FIRST_DOUBLE_INDEX + INDIRECT_INDEXES * inner + INDIRECT_INDEXES)

-- how many of so many inner blocks name a mapped index
unfoldable pub inner_cost : ℕ → FinSet nat_cmp → ℕ
inner_cost count mapped = count_by (λ inner. list_any (is_inner inner) (items mapped)) (range_with_len 0 count)

-- A block for each mapped index, and for each block of numbers that has one of theirs: the indirect block, the
-- double indirect block, and its inner blocks.
abbrev pub file_cost : FinSet nat_cmp → ℕ
file_cost mapped =
    len mapped + cond (list_any is_indirect (items mapped)) 1 0 + cond (list_any is_double (items mapped)) 1 0
    + inner_cost INDIRECT_INDEXES mapped

-- the blocks that a file uses
abbrev pub cost : Body → ℕ
cost (Regular bytes mapped) = file_cost mapped
cost (Directory entries span parent) = span + cond (nat_lt DIRECT_INDEXES span) 1 0
cost (Link target) = 1

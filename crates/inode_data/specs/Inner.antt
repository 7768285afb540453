-- Where an index lies that the double indirect block reaches.
use Rattle.std.specs.Prelude.{ℕ, ◌-◌, ◌/◌, ◌%◌}
use Rattle.base.specs.declared.TheConstants.{FIRST_DOUBLE_INDEX, INDIRECT_INDEXES}

-- the inner block that names it, and the place of its number there
abbrev pub inner_of : ℕ → ℕ
inner_of index = (index - FIRST_DOUBLE_INDEX) / INDIRECT_INDEXES

abbrev pub index_in_inner : ℕ → ℕ
index_in_inner index = (index - FIRST_DOUBLE_INDEX) % INDIRECT_INDEXES

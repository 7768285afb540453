-- What a piece may still have to write for its file besides its own block.
use Rattle.std.specs.Prelude.{ℕ, ◌+◌, cond, nat_eq}
use Rattle.inode.specs.WriteSets.WriteSetContents.{WriteSetContents, fresh_block, fresh_inode}

-- 1 for a block that wasn't written yet: where there is none, it counts
abbrev pub fresh_or_none : WriteSetContents → ℕ → ℕ
fresh_or_none write_set number = cond (nat_eq number 0) 1 (fresh_block write_set number)

-- how many of the file's inode, its indirect block and its double indirect block weren't written yet
unfoldable pub clean_count : WriteSetContents → ℕ → ℕ → ℕ → ℕ
clean_count write_set number indirect_block double =
    fresh_inode write_set number + fresh_or_none write_set indirect_block + fresh_or_none write_set double

-- The numbers of a file's blocks where some indexes have got one.
use Rattle.std.specs.Prelude.{ℕ, zero, suc, ◌+◌, ◌-◌, ◌&&◌, max, cond, List, get_or, set, take, drop, nat_eq, nat_le}
use Rattle.std.specs.Prelude.{nat_lt, count_by}
use Rattle.base.specs.declared.TheConstants.{DIRECT_INDEXES, FIRST_DOUBLE_INDEX}
use Rattle.disk.specs.Crash.{Image}
use Rattle.layout.specs.declared.inode.Inode.{Inode}
use Rattle.layout.specs.Decode.{numbers_in}
use Rattle.inode_data.specs.Inner.{inner_of}

-- a number that is that of a block
abbrev pub some_number : ℕ → ℕ
some_number number = cond (nat_eq number 0) 1 number

-- the numbers with some at each of so many indexes
abbrev pub filled_up : List ℕ → ℕ → ℕ → List ℕ
filled_up numbers first zero = numbers
filled_up numbers first (suc count) =
    set (filled_up numbers first count) (first + count)
    (some_number (get_or (filled_up numbers first count) (first + count) 0))

-- how many of so many numbers from one on are those of no block
abbrev pub missing_between : List ℕ → ℕ → ℕ → ℕ
missing_between numbers first count = count_by (λ number. nat_eq number 0) (take count (drop first numbers))

-- 1 where a file without an indirect block gets one, by blocks from one index to another
abbrev pub new_indirect : Inode → ℕ → ℕ → ℕ
new_indirect inode first last =
    cond (nat_eq inode.indirect 0 && nat_lt first FIRST_DOUBLE_INDEX && nat_le DIRECT_INDEXES last) 1 0

-- the same of its double indirect block, and of inner blocks
abbrev pub new_inner : Image → Inode → ℕ → ℕ → ℕ
new_inner content inode first last =
    cond (nat_eq inode.double 0) 1 0
    + missing_between (numbers_in content inode.double) (inner_of (max first FIRST_DOUBLE_INDEX))
    (inner_of last + 1 - inner_of (max first FIRST_DOUBLE_INDEX))

-- how many pointer blocks it gets so
abbrev pub new_pointers : Image → Inode → ℕ → ℕ → ℕ
new_pointers content inode first last =
    new_indirect inode first last + cond (nat_lt last FIRST_DOUBLE_INDEX) 0 (new_inner content inode first last)

-- What a file's blocks and its inode are, where a piece of bytes was written in one of them.
use Rattle.std.specs.Prelude.{◌≡◌, ℕ, ◌+◌, ◌/◌, ◌%◌, ◌<◌, ◌≤◌, ◌^◌, max, true, false, not, ◌||◌, ◌++◌, List}
use Rattle.std.specs.Prelude.{length, get_or, set, filter, nat_eq, count_by, Some, Ok}
use Rattle.std.specs.List.{AllByRecursion, list_all}
use Rattle.base.specs.declared.TheConstants.{BLOCK_BYTES, DIRECT_INDEXES, LARGEST_FILE}
use Rattle.disk.specs.Crash.{Image}
use Rattle.objects.specs.Spliced.{spliced}
use Rattle.nfs_spec.specs.Model.Tree.{Tree}
use Rattle.layout.specs.declared.geometry.Geometry.{Geometry}
use Rattle.layout.specs.declared.inode.Inode.{Inode}
use Rattle.layout.specs.declared.inode.InodeKind.TheVariants as kinds
use Rattle.layout.specs.declared.version.FormatVersion.TheVariants.{Second}
use Rattle.layout.specs.Decode.{IsMapped, content_of, inode_at, is_used_pointer, numbers_of, pointer_blocks}
use Rattle.layout.specs.Holds.{Holds}
use Rattle.layout.specs.InodeForm.{is_data_block_or_none}
use Rattle.layout.specs.Owners.{owned_by}
use Rattle.layout.specs.Parts.{content_in}
use Rattle.layout.specs.Places.{is_data}
use Rattle.layout.specs.Version.{has_double}
use Rattle.bitmap.specs.NewBlock.{IsFreeBlock}

-- The blocks of an image of the newest version hold the tree, in which a regular file has this inode under this number.
pub record HasRegular (g : Geometry) (base : Image) (tree : Tree) (n : ℕ) (inode : Inode) : Type 0 where
  pub holds : Holds g base tree
  pub less : n < g.inodes
  pub read : inode_at g base n ≡ Ok (Some inode)
  pub regular : inode.kind ≡ kinds.Regular
  pub newest : g.version ≡ Second

-- The blocks hold the tree, in which a file has this inode under this number, that has blocks by their indexes.
pub record HasMapped (g : Geometry) (base : Image) (tree : Tree) (n : ℕ) (inode : Inode) : Type 0 where
  pub holds : Holds g base tree
  pub less : n < g.inodes
  pub read : inode_at g base n ≡ Ok (Some inode)
  pub mapped : IsMapped g (content_in g base) inode

-- The bytes lie in one block of a file.
pub record IsPiece (offset : ℕ) (piece : List ℕ) : Type 0 where
  pub some : 0 < length piece
  pub within : offset % BLOCK_BYTES + length piece ≤ BLOCK_BYTES
  pub small : offset + length piece ≤ LARGEST_FILE

-- the size of a file of so many bytes after such a piece was written
abbrev pub grown_size : ℕ → ℕ → List ℕ → ℕ
grown_size size offset piece = max size (offset + length piece)

-- the inode with these numbers of blocks and this size
abbrev pub mapping : Inode → ℕ → List ℕ → ℕ → ℕ → Inode
mapping inode size numbers indirect_block double =
    record inode { size = size; direct = numbers; indirect = indirect_block; double = double }

-- The block b is at the piece's index, and has what the file's block there had, with the piece. Each block that
-- was gained was free, and what is in all others is as it was.
pub record Fills (g : Geometry) (base : Image) (inode : Inode) (offset : ℕ) (piece : List ℕ) (b : ℕ)
    (numbers : List ℕ) (indirect_block double : ℕ) (content : Image) (gained : List ℕ) : Type 0 where
  pub now : numbers_of content (mapping inode (grown_size inode.size offset piece) numbers indirect_block double)
      ≡ set (numbers_of (content_in g base) inode) (offset / BLOCK_BYTES) b
  pub lies : is_data g b ≡ true
  pub here : content b
      ≡ spliced (content_of (content_in g base) (get_or (numbers_of (content_in g base) inode) (offset / BLOCK_BYTES)
      0))
      (offset % BLOCK_BYTES) piece
  pub others : (j : ℕ) → j < length (numbers_of (content_in g base) inode) → (j ≡ offset / BLOCK_BYTES → ⊥)
      → nat_eq (get_or (numbers_of (content_in g base) inode) j 0) 0 ≡ false
      → content (get_or (numbers_of (content_in g base) inode) j 0)
      ≡ content_in g base (get_or (numbers_of (content_in g base) inode) j 0)
  pub used : list_all (is_used_pointer content)
      (pointer_blocks content (mapping inode (grown_size inode.size offset piece) numbers indirect_block double)) ≡ true
  pub count : length numbers ≡ DIRECT_INDEXES
  pub fit : AllByRecursion (λ number. number < 2 ^ 32) numbers
  pub placed : list_all (is_data_block_or_none g) numbers ≡ true
  pub indirect_fits : indirect_block < 2 ^ 32
  pub double_fits : double < 2 ^ 32
  pub pointers_placed : list_all (is_data_block_or_none g)
      (pointer_blocks content (mapping inode (grown_size inode.size offset piece) numbers indirect_block double)) ≡ true
  pub has_double : (nat_eq double 0 || has_double g.version) ≡ true
  pub outside : (q : ℕ) → count_by (λ one. nat_eq one q) (owned_by (content_in g base) (Ok (Some inode))) ≡ 0
      → count_by (λ one. nat_eq one q) gained ≡ 0 → content q ≡ content_in g base q
  pub counted : (q : ℕ)
      → count_by (λ one. nat_eq one q) (filter (λ number. not (nat_eq number 0))
      (pointer_blocks content (mapping inode (grown_size inode.size offset piece) numbers indirect_block double)
      ++ set (numbers_of (content_in g base) inode) (offset / BLOCK_BYTES) b))
      ≡ count_by (λ one. nat_eq one q) gained
      + count_by (λ one. nat_eq one q) (owned_by (content_in g base) (Ok (Some inode)))
  pub were_free : AllByRecursion (IsFreeBlock g base) gained
  pub once : (q : ℕ) → count_by (λ one. nat_eq one q) gained ≤ 1

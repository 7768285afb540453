-- Which trees the server may have.
use Rattle.std.specs.Prelude.{◌≡◌, ◌≢◌, ℕ, ◌+◌, ◌*◌, ◌/◌, ◌%◌, ◌^◌, ◌<◌, ◌≤◌, true, false, List, [], ◌∷◌}
use Rattle.std.specs.Prelude.{length, get_or, All, Contains, Option, Some, None, IfSome, IsSome}
use Rattle.std.specs.Ordering.{nat_cmp}
use Rattle.std.specs.FinMap as map
use Rattle.std.specs.FinSet as set
use Rattle.base.specs.declared.TheConstants.{ROOT, BLOCK_BYTES, FILE_INDEXES, INODES_PER_BLOCK}
use Rattle.base.specs.declared.TheConstants.{LARGEST_FILE, LEAST_DATA_BLOCKS, LEAST_INODES, MODE_BITS}
use Rattle.base.specs.declared.TheConstants.{MOST_BLOCKS, MOST_INODES, MOST_LINKS, MOST_SPAN, NAME_BYTES}
use Rattle.base.specs.declared.TheConstants.{NANOSECONDS, SLOTS_PER_BLOCK, TARGET_BYTES}
use Rattle.nfs_types.specs.declared.ctx.Ctx.{Ctx}
use Rattle.nfs_types.specs.declared.ctx.Moment.{Moment}
use Rattle.nfs_types.specs.declared.handle.Stamp.{Stamp}
use Rattle.nfs_types.specs.declared.verifier.Verifier.{Verifier}
use Rattle.nfs_types.specs.Fits.{AreBytes, VerifierFits}
use Rattle.nfs_spec.specs.Model.Node.{Node, Body, DirentValue, Entries, Regular, Directory, Link}
use Rattle.nfs_spec.specs.Model.Tree.{Geometry, Tree, node_at, used}
use Rattle.nfs_spec.specs.Model.Names.{names_of, child_directories, is_directory, ancestor, entries_of, names_in}
use Rattle.nfs_spec.specs.Model.Names.{parent_of}

-- the character that parts names, which no name has
abbrev pub SLASH : ℕ
SLASH = 47

-- the character of `.` and `..`
abbrev pub DOT : ℕ
DOT = 46

-- a name that a file may be given (RFC 1813, section 3.2): `.` and `..` are the directory's own
pub record SoundName (name : List ℕ) : Type 0 where
  pub bytes : AreBytes name
  pub some : 0 < length name
  pub short : length name ≤ NAME_BYTES
  pub no_slash : Contains name SLASH → ⊥
  pub no_zero : Contains name 0 → ⊥
  pub not_itself : name ≢ DOT ∷ []
  pub not_parent : name ≢ DOT ∷ DOT ∷ []

-- a time as a file has it
pub record SoundTime (time : Moment) : Type 0 where
  pub seconds : time.seconds < 2 ^ 32
  pub nanoseconds : time.nanoseconds < NANOSECONDS

pub record SoundStamp (stamp : Stamp) : Type 0 where
  pub boot : stamp.boot < 2 ^ 64
  pub transaction : stamp.transaction < 2 ^ 64

-- who calls and when, and the stamp of what the call makes
pub record SoundCtx (ctx : Ctx) : Type 0 where
  pub uid : ctx.credential.uid < 2 ^ 32
  pub gid : ctx.credential.gid < 2 ^ 32
  pub moment : SoundTime ctx.moment
  pub stamp : SoundStamp (record { boot = ctx.boot; transaction = ctx.transaction })

-- The bytes of a regular file: no more than the largest file has, and zero wherever no block is mapped. An
-- index may be mapped past the size.
pub record SoundBytes (bytes : List ℕ) (mapped : set.FinSet nat_cmp) : Type 0 where
  pub each : AreBytes bytes
  pub size : length bytes ≤ LARGEST_FILE
  pub indexes : (index : ℕ) → set.contains mapped index ≡ true → index < FILE_INDEXES
  pub zeros : (offset : ℕ) → set.contains mapped (offset / BLOCK_BYTES) ≡ false → get_or bytes offset 0 ≡ 0

-- The entries of a directory: under lawful names, each in a slot of its own among those that the directory
-- spans.
pub record SoundEntries (entries : Entries) (span : ℕ) : Type 0 where
  pub blocks : span ≤ MOST_SPAN
  pub names : (name : List ℕ) (dirent : DirentValue) → map.get entries name ≡ Some dirent → SoundName name
  pub slots : (name : List ℕ) (dirent : DirentValue) → map.get entries name ≡ Some dirent
      → dirent.slot < SLOTS_PER_BLOCK * span
  pub distinct : (one other : List ℕ) (a b : DirentValue) → map.get entries one ≡ Some a
      → map.get entries other ≡ Some b → a.slot ≡ b.slot → one ≡ other

-- the target of a link
pub record SoundTarget (target : List ℕ) : Type 0 where
  pub bytes : AreBytes target
  pub some : 0 < length target
  pub short : length target ≤ TARGET_BYTES

abbrev pub SoundBody : Body → Type 0
SoundBody (Regular bytes mapped) = SoundBytes bytes mapped
SoundBody (Directory entries span parent) = SoundEntries entries span
SoundBody (Link target) = SoundTarget target

-- Only a regular file has a create verifier, since an exclusive CREATE makes nothing else (RFC 1813, section
-- 3.3.8).
abbrev pub SoundVerifier : Body → Option Verifier → Type 0
SoundVerifier (Regular bytes mapped) verifier = IfSome verifier VerifierFits
SoundVerifier (Directory entries span parent) verifier = verifier ≡ None
SoundVerifier (Link target) verifier = verifier ≡ None

-- a file by itself
pub record SoundNode (node : Node) : Type 0 where
  pub mode : node.mode ≤ MODE_BITS
  pub uid : node.uid < 2 ^ 32
  pub gid : node.gid < 2 ^ 32
  pub nlink : node.nlink ≤ MOST_LINKS
  pub atime : SoundTime node.atime
  pub mtime : SoundTime node.mtime
  pub ctime : SoundTime node.ctime
  pub stamp : SoundStamp node.stamp
  pub verifier : SoundVerifier node.body node.verifier
  pub body : SoundBody node.body

-- how many blocks and files there may be
pub record SoundGeometry (geometry : Geometry) : Type 0 where
  pub blocks : LEAST_DATA_BLOCKS ≤ geometry.data_blocks
  pub most_blocks : geometry.data_blocks < MOST_BLOCKS
  pub inodes : LEAST_INODES ≤ geometry.inodes
  pub most_inodes : geometry.inodes ≤ MOST_INODES
  pub whole_blocks : geometry.inodes % INODES_PER_BLOCK ≡ 0

-- What is no directory has as many links as entries name it, and at least one.
pub record SoundFileLinks (tree : Tree) (number : ℕ) (node : Node) : Type 0 where
  pub counted : node.nlink ≡ names_of tree number
  pub named : 0 < node.nlink

-- The root is its own parent, and no entry names it.
pub record SoundRoot (tree : Tree) (body : Body) : Type 0 where
  pub unnamed : names_of tree ROOT ≡ 0
  pub parent : parent_of body ≡ ROOT

-- Any other directory is named once, by its parent.
pub record SoundChild (tree : Tree) (number : ℕ) (body : Body) : Type 0 where
  pub once : names_of tree number ≡ 1
  pub parent : Node
  pub parent_is : node_at tree (parent_of body) ≡ Some parent
  pub by_parent : names_in number parent.body ≡ 1

-- A directory has its own name, its `.`, and the `..` of each directory in it as links, and is reached from
-- the root.
pub record SoundDirectoryLinks (tree : Tree) (number : ℕ) (node : Node) : Type 0 where
  pub counted : node.nlink ≡ 2 + child_directories tree node.body
  pub root : number ≡ ROOT → SoundRoot tree node.body
  pub child : number ≢ ROOT → SoundChild tree number node.body
  pub reached : (steps : ℕ) × (ancestor tree steps number ≡ ROOT)

-- A file where it stands in the tree.
pub record SoundAt (tree : Tree) (number : ℕ) (node : Node) : Type 0 where
  pub least : 0 < number
  pub most : number < tree.geometry.inodes
  pub itself : SoundNode node
  pub names : All (λ dirent. IsSome (node_at tree dirent.1.number)) (entries_of node.body)
  pub links : is_directory node.body ≡ false → SoundFileLinks tree number node
  pub directory : is_directory node.body ≡ true → SoundDirectoryLinks tree number node

-- A tree that the server may have: its root is a directory that no transaction made, each of its files is
-- sound, and they use no more blocks than there are.
pub record Sound (tree : Tree) : Type 0 where
  pub geometry : SoundGeometry tree.geometry
  pub root : Node
  pub root_is : node_at tree ROOT ≡ Some root
  pub root_directory : is_directory root.body ≡ true
  pub root_stamp : root.stamp ≡ record { boot = 0; transaction = 0 }
  pub files : (number : ℕ) (node : Node) → node_at tree number ≡ Some node → SoundAt tree number node
  pub has_space : used tree ≤ tree.geometry.data_blocks

-- no file has the stamp of a later boot than this one
abbrev pub IsMadeBy : ℕ → Tree → Type 0
IsMadeBy boot tree = (number : ℕ) (node : Node) → node_at tree number ≡ Some node → node.stamp.boot ≤ boot

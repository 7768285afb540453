-- What is known of the inodes of a table, and where their parents lead.
use Rattle.std.proofs.Common.{◌≡◌, ℕ, ◌+◌, ◌<◌, ◌≤◌, inl, inr, sym, ap, ◌∙◌, refl, true, cond, ◌&&◌}
use Rattle.std.proofs.Common.{List, length, take, drop, get_or, min, nat_le, nat_lt, Option, Some, None}
use Rattle.std.proofs.Common.{Result, Ok, Err, arith}
use Rattle.std.proofs.lemmas.Bool.{cases_lt, le-ltb, lt-ltb}
use Rattle.std.proofs.lemmas.Bool.Decides.{nat_tests}
use Rattle.base.specs.declared.TheConstants.{BLOCK_BYTES, INODE_BYTES}
use Rattle.base.specs.declared.TheConstants.{MODE_BITS, MOST_LINKS}
use Rattle.disk.specs.Crash.{Image}
use Rattle.nfs_types.specs.Fits.{AreBytes}
use Rattle.nfs_spec.specs.Model.Names.{ancestor, parent_in, parent_of}
use Rattle.nfs_spec.specs.Model.Tree.{node_at}
use Rattle.layout.specs.declared.fault.LayoutFault.{LayoutFault}
use Rattle.layout.specs.declared.fault.LayoutFault.TheVariants.{Range}
use Rattle.layout.specs.declared.geometry.Geometry.{Geometry}
use Rattle.layout.specs.declared.inode.Inode.{Inode}
use Rattle.layout.specs.declared.inode.InodeKind.{InodeKind}
use Rattle.layout.specs.declared.inode.InodeKind.TheVariants.{Directory, Link, Regular}
use Rattle.layout.specs.Decode.{body_of, file_of, inode_at}
use Rattle.layout.specs.InodeForm.{SoundInode, is_sound_directory, is_sound_file, is_sound_inode, is_sound_kind}
use Rattle.layout.specs.InodeForm.{is_sound_link, is_sound_map, is_sound_regular, is_time}
use Rattle.layout.specs.Parts.{content_in, table_of}
use Rattle.layout.specs.Places.{inode_block, inode_offset}
use Rattle.layout.proofs.Fits.{part-length, read_fits}
use Rattle.layout.proofs.WrittenBytes.{dropped, taken}
use Rattle.inode.proofs.AllTests.{all_five, all_three, all_two, no_more}
use Rattle.image_read.specs.ImageCounts.Iterated.{iterated}
use Rattle.image_read.specs.Laws.TreeOf.{tree_of}
use Rattle.image_read.specs.Laws.Whole.{named}
use Rattle.image_read.proofs.LawsLemmas.Made.{files_are}
use Rattle.image_read.proofs.LawsLemmas.SoundKinds.{parent_inside}
use Rattle.image_read.proofs.LawsLemmas.Reached.{as_iterated}
use Rattle.image_read.specs.declared.counts.links.Links.{Links}
use Rattle.image_read.specs.Counts.Linked.{is_directory_kind, parent_below}
use Rattle.image_read.proofs.CountsLemmas.Parents as parents
use Rattle.image_contents.specs.Found.Counted.{IsCounted}

-- ---- counts that stop

-- a count that is no more than a file may have links is exact
pub exact : (links count : ℕ) → links ≤ MOST_LINKS → links ≡ min count (MOST_LINKS + 1) → count ≡ links
exact links count few is = omega (arith, few, is)

pub stays : (count : ℕ) → count ≤ MOST_LINKS → min count (MOST_LINKS + 1) ≡ count
stays count few = omega (arith, few)

less_is : (a b : ℕ) → a < b → nat_lt a b ≡ true
less_is a b less = grind (arith, nat_tests)

pub same_option : (one other : Option Inode) → ◌≡◌ {A = Result (Option Inode) LayoutFault} (Ok one) (Ok other)
    → one ≡ other
same_option one other e = cc

-- ---- inodes of an image

module _ (g : Geometry) (blocks : Image) where
  pub below : (number : ℕ) (inode : Inode) → table_of g blocks number ≡ Ok (Some inode) → number < g.inodes
  below number inode is = elim (cases_lt number g.inodes) [
    | inl less ↦ less
    | inr past ↦ (let none = ap (λ b. cond b (inode_at g blocks number) (Err Range)) (le-ltb number g.inodes past) in
        absurd (clash (sym none ∙ is)))
  ]
    where
      clash : ◌≡◌ {A = Result (Option Inode) LayoutFault} (Err Range) (Ok (Some inode)) → ⊥
      clash e = cc

  read_as : (number : ℕ) (inode : Inode) → table_of g blocks number ≡ Ok (Some inode)
      → inode_at g blocks number ≡ Ok (Some inode)
  read_as number inode is =
      ap (λ b. cond b (inode_at g blocks number) (Err Range)) (sym (lt-ltb number g.inodes (below number inode is)))
      ∙ is

  module _ (bytes : (n : ℕ) → n < g.blocks → (length (blocks n) ≡ BLOCK_BYTES) × AreBytes (blocks n)) (number : ℕ)
      (inode : Inode) (is : table_of g blocks number ≡ Ok (Some inode)) where
    on_disk : inode_block g number < g.blocks
    on_disk =
        let has_space = g.lawful.1.3 in
        let whole = g.lawful.1.2 in
        let less = below number inode is in
        omega (arith, has_space, less, whole)

    part_bytes : (len from : ℕ) (part : List ℕ) → AreBytes part → AreBytes (take len (drop from part))
    part_bytes len from part are = (taken len (dropped from (record { are = are }))).are

    pub sound : SoundInode g inode
    unfolding inode_at
    sound =
        read_fits g (take INODE_BYTES (drop (inode_offset number) (blocks (inode_block g number))))
        (part_bytes INODE_BYTES (inode_offset number) (blocks (inode_block g number))
        (bytes (inode_block g number) on_disk).1)
        (part-length INODE_BYTES (inode_offset number) (blocks (inode_block g number))
        (let whole = (bytes (inode_block g number) on_disk).0 in omega (arith, whole))) inode (read_as number inode is)

    good : is_sound_kind g inode.kind inode ≡ true
    unfolding is_sound_inode
    good = sound.good

    first_rule : (kind : InodeKind) → is_sound_kind g kind inode ≡ true → is_sound_file inode ≡ true
    first_rule Regular e = (all_three (is_sound_file inode) (is_sound_map g inode) (is_sound_regular inode) e).0
    first_rule Directory e = (all_three (is_sound_file inode) (is_sound_map g inode) (is_sound_directory g inode) e).0
    first_rule Link e = (all_three (is_sound_file inode) (is_sound_map g inode) (is_sound_link inode) e).0

    pub few_links : inode.nlink ≤ MOST_LINKS
    few_links =
        let last = all_two (nat_le inode.mode MODE_BITS && nat_le 1 inode.nlink && nat_le inode.nlink MOST_LINKS
        && is_time inode.atime && is_time inode.mtime) (is_time inode.ctime) (first_rule inode.kind good) in
        let rules = all_five (nat_le inode.mode MODE_BITS) (nat_le 1 inode.nlink) (nat_le inode.nlink MOST_LINKS)
        (is_time inode.atime) (is_time inode.mtime) last.0 in
        no_more inode.nlink MOST_LINKS rules.2

    within_by : (kind : InodeKind) → kind ≡ Directory → is_sound_kind g kind inode ≡ true → inode.parent < g.inodes
    within_by Directory kind e = parent_inside g inode e
    within_by Regular kind e = absurd (let clash : Regular ≡ Directory = kind in cc)
    within_by Link kind e = absurd (let clash : Link ≡ Directory = kind in cc)

    pub parent_within : inode.kind ≡ Directory → inode.parent < g.inodes
    parent_within kind = within_by inode.kind kind good

-- ---- with what was counted

module _ (g : Geometry) (blocks : Image) (table : List (Option Inode)) (links : Links)
    (bytes : (n : ℕ) → n < g.blocks → (length (blocks n) ≡ BLOCK_BYTES) × AreBytes (blocks n))
    (counted : IsCounted g blocks table links) where
  pub entry : (number : ℕ) (inode : Inode) → table_of g blocks number ≡ Ok (Some inode)
      → get_or table number None ≡ Some inode
  entry number inode is =
      same_option (get_or table number None) (Some inode)
      (sym (counted.inodes number (below g blocks number inode is)) ∙ is)

  pub names_at : (number : ℕ) → number < g.inodes
      → get_or links.names number 0 ≡ min (named g blocks number) (MOST_LINKS + 1)
  names_at number less = let size = counted.sizes.names in counted.names number (omega (arith, less, size))

  by_kind : (inode : Inode) (kind : InodeKind) → (kind ≡ Directory → inode.parent < length table)
      → parent_of (body_of g.inodes (content_in g blocks) kind inode)
      ≡ cond (is_directory_kind kind && nat_lt inode.parent (length table)) inode.parent 0
  by_kind inode Directory within =
      sym (ap (λ b. cond b inode.parent 0) (less_is inode.parent (length table) (within refl)))
  by_kind inode Regular within = refl
  by_kind inode Link within = refl

  same_parent : (number : ℕ) (o : Option Inode) → table_of g blocks number ≡ Ok o
      → parent_in (file_of g.inodes (content_in g blocks) (Ok o)) ≡ parent_below (length table) o
  same_parent number None is = refl
  same_parent number (Some inode) is =
      by_kind inode inode.kind (λ kind.
      let within = parent_within g blocks bytes number inode is kind in
      let long = counted.long in omega (arith, within, long))

  -- a parent in the tree is that of the table
  up_same : (number : ℕ) → number < g.inodes
      → parent_in (node_at (tree_of g blocks) number) ≡ parents.up table number
  up_same number less =
      ap parent_in
      (files_are g blocks number ∙ ap (file_of g.inodes (content_in g blocks)) (counted.inodes number less))
      ∙ same_parent number (get_or table number None) (counted.inodes number less)

  up_within : (number : ℕ) → number < g.inodes → parent_in (node_at (tree_of g blocks) number) < g.inodes
  up_within number less =
      let long = counted.long in
      let low = parents.below (length table) (get_or table number None) (omega (arith, less, long)) in
      let same = up_same number less in
      omega (arith, low, same, long)

  -- so steps lead to the same numbers
  pub ancestor_is : (steps number : ℕ) → number < g.inodes
      → ancestor (tree_of g blocks) steps number ≡ iterated (parents.up table) steps number
  ancestor_is steps number less =
      as_iterated (tree_of g blocks) steps number
      ∙ parents.iterated_same (λ n. parent_in (node_at (tree_of g blocks) n)) (parents.up table) g.inodes up_within up_same
      steps number less

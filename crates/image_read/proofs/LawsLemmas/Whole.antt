-- An image whose inodes are files', whose bitmaps mark what is in use, and that is whole, stands for its tree.
use Rattle.std.proofs.Common.{◌≡◌, ℕ, ◌+◌, ◌<◌, ◌≤◌, inl, inr, sym, ap, ◌∙◌, refl, subst, Bool, true, false, cond}
use Rattle.std.proofs.Common.{◌&&◌, List, length, get_or, replicate, nat_eq, nat_le, nat_lt, arith}
use Rattle.std.proofs.Common.{All, Option, Some, None, Result, Ok, Err, IsSome}
use Rattle.std.proofs.lemmas.Bool.{cases_lt, eq-eqb, le-ltb, lt-ltb}
use Rattle.std.proofs.lemmas.List.{get_or-replicate, get_or_past}
use Rattle.std.proofs.lemmas.List.Sums.{get_or-le-sum_by}
use Rattle.base.specs.declared.TheConstants.{BLOCK_BYTES, MODE_BITS, MOST_LINKS, ROOT}
use Rattle.disk.specs.Crash.{Image}
use Rattle.nfs_types.specs.Fits.{AreBytes}
use Rattle.nfs_spec.specs.Model.Names.{entries_of, is_directory, is_directory_at, names_of}
use Rattle.nfs_spec.specs.Model.Node.{DirentValue, Node}
use Rattle.nfs_spec.specs.Model.Sound.{Sound, SoundAt, SoundDirectoryLinks, SoundFileLinks}
use Rattle.nfs_spec.specs.Model.Tree.{Tree, node_at}
use Rattle.nfs_spec.proofs.ProceduresLemmas.Adding.{names_in_of}
use Rattle.layout.specs.declared.fault.LayoutFault.{LayoutFault}
use Rattle.layout.specs.declared.fault.LayoutFault.TheVariants.{Range}
use Rattle.layout.specs.declared.geometry.Geometry.{Geometry}
use Rattle.layout.specs.declared.inode.Inode.{Inode}
use Rattle.layout.specs.declared.inode.InodeKind.{InodeKind}
use Rattle.layout.specs.declared.inode.InodeKind.TheVariants.{Directory, Link, Regular}
use Rattle.layout.specs.Decode.{IsFile, IsOfKind, body_of, file_of, inode_at, node_with}
use Rattle.layout.specs.Geometry.{data_at}
use Rattle.layout.specs.Holds.{Holds}
use Rattle.layout.specs.InodeForm.{SoundInode, is_sound_directory, is_sound_file, is_sound_kind, is_sound_link, is_sound_map}
use Rattle.layout.specs.InodeForm.{is_sound_regular, is_time}
use Rattle.layout.specs.Owners.{IsMarked, is_used}
use Rattle.layout.specs.Parts.{content_in, parts_of, table_of}
use Rattle.layout.specs.Places.{is_data}
use Rattle.layout.specs.Stands.{HasFiles, Stands}
use Rattle.image_read.specs.Laws.TreeOf.{tree_of}
use Rattle.image_read.specs.Laws.Whole.{IsWhole, named}
use Rattle.inode.proofs.AllTests.{all_five, all_three, all_two, is_less, no_more}
use Rattle.inode.proofs.InodeThere as there
use Rattle.image_read.proofs.LawsLemmas.Made.{files_are, made_has}
use Rattle.dir.proofs.Members.{none_some, same}
use Rattle.image_read.proofs.LawsLemmas.NamedInImage.{counted_once, names_in_image, of_kind}
use Rattle.image_read.proofs.LawsLemmas.Nodes.{sound_node}
use Rattle.image_read.proofs.LawsLemmas.OwnedFit.{there_is_space}

module _ (g : Geometry) (blocks : Image)
    (bytes : (number : ℕ) → number < g.blocks → (length (blocks number) ≡ BLOCK_BYTES) × AreBytes (blocks number))
    (each : (number : ℕ) → number < g.inodes → IsFile g (content_in g blocks) (table_of g blocks number))
    (marked : IsMarked g (parts_of g blocks)) (whole : IsWhole g blocks) where
  abbrev tree : Tree
  tree = tree_of g blocks

  abbrev content : Image
  content = content_in g blocks

  has : HasFiles g (parts_of g blocks) tree
  has = made_has g blocks each

  holds : Holds g blocks tree
  holds = record {
    bytes = bytes;
    parts = record {
      geometry = refl;
      unnumbered = files_are g blocks 0 ∙ ap (file_of g.inodes content) whole.zero;
      has = has;
      marked = marked;
    };
  }

  -- ---- an inode in use

  abbrev node_of : Inode → Node
  node_of inode = node_with inode (body_of g.inodes content inode.kind inode)

  got : (number : ℕ) (inode : Inode) → table_of g blocks number ≡ Ok (Some inode) → node_at tree number ≡ Some (node_of inode)
  got number inode is = files_are g blocks number ∙ ap (file_of g.inodes content) is

  from_file : (r : Result (Option Inode) LayoutFault) (node : Node) → file_of g.inodes content r ≡ Some node
      → (inode : Inode) × (r ≡ Ok (Some inode)) × (node_of inode ≡ node)
  from_file (Ok (Some inode)) node e = (inode, refl, same (node_of inode) node e)
  from_file (Ok None) node e = absurd (none_some node e)
  from_file (Err fault) node e = absurd (none_some node e)

  below : (number : ℕ) (inode : Inode) → table_of g blocks number ≡ Ok (Some inode) → number < g.inodes
  below number inode is = elim (cases_lt number g.inodes) [
    | inl less ↦ less
    | inr past ↦ (let none = ap (λ b. cond b (inode_at g blocks number) (Err Range)) (le-ltb number g.inodes past) in
        absurd (clash (sym none ∙ is)))
  ]
    where
      clash : ◌≡◌ {A = Result (Option Inode) LayoutFault} (Err Range) (Ok (Some inode)) → ⊥
      clash e = cc

  read_as : (number : ℕ) (inode : Inode) → table_of g blocks number ≡ Ok (Some inode)
      → inode_at g blocks number ≡ Ok (Some inode)
  read_as number inode is =
      ap (λ b. cond b (inode_at g blocks number) (Err Range)) (sym (lt-ltb number g.inodes (below number inode is))) ∙ is

  content_bytes : (n : ℕ) → AreBytes (content n)
  content_bytes n = by_test (is_data g n) refl
    where
      zeros : AreBytes (replicate BLOCK_BYTES 0)
      zeros index = elim (cases_lt index BLOCK_BYTES) [
        | inl less ↦ (let is = get_or-replicate {A = ℕ} BLOCK_BYTES index 0 0 less in omega (arith, is))
        | inr past ↦ (let is = get_or_past {X = ℕ} (replicate BLOCK_BYTES 0) index 0 past in omega (arith, is))
      ]

      by_test : (b : Bool) → is_data g n ≡ b → AreBytes (cond b (blocks n) (replicate BLOCK_BYTES 0))
      by_test true is =
          let both = all_two (nat_le (data_at g.blocks g.inodes) n) (nat_lt n g.blocks) is in
          (bytes n (is_less n g.blocks both.1)).1
      by_test false is = zeros

  module _ (number : ℕ) (inode : Inode) (is : table_of g blocks number ≡ Ok (Some inode)) where
    less : number < g.inodes
    less = below number inode is

    read : inode_at g blocks number ≡ Ok (Some inode)
    read = read_as number inode is

    sound : SoundInode g inode
    sound = there.is_read g blocks tree number inode holds less read

    good : is_sound_kind g inode.kind inode ≡ true
    good = there.is_sound g blocks tree number inode holds less read

    file : IsOfKind g content inode.kind inode
    file = there.is_of_kind g blocks tree number inode holds less read

    names : names_of tree number ≡ named g blocks number
    names = names_in_image g blocks tree has number

    used_there : (n : ℕ) (r : Result (Option Inode) LayoutFault) → table_of g blocks n ≡ r → is_used r ≡ true
        → IsSome (node_at tree n)
    used_there n (Ok (Some one)) e used = subst IsSome (sym (got n one e)) refl
    used_there n (Ok None) e used = cc
    used_there n (Err fault) e used = cc

    all_there : All (λ (dirent : List ℕ × DirentValue). IsSome (node_at tree dirent.1.number))
        (entries_of (body_of g.inodes content inode.kind inode))
    all_there k d inside =
        let body = body_of g.inodes content inode.kind inode in
        let es = entries_of body in
        let q = (get_or es k d).1.number in
        let one = get_or-le-sum_by (λ (e : List ℕ × DirentValue). cond (nat_eq e.1.number q) 1 0) es k d inside in
        let here : cond (nat_eq (get_or es k d).1.number q) 1 0 ≡ 1 = ap (λ b. cond b 1 0) (eq-eqb q q refl) in
        let most = names_in_of tree number q (node_of inode) (got number inode is) in
        let count = names_in_image g blocks tree has q in
        used_there q (table_of g blocks q) refl (whole.there q (some one here most count))
      where
        some : {a b c d : ℕ} → a ≤ b → a ≡ 1 → b ≤ c → c ≡ d → 0 < d
        some one here most count = omega (arith, one, here, most, count)

    -- ---- its links

    first_rule : (kind : InodeKind) → is_sound_kind g kind inode ≡ true → is_sound_file inode ≡ true
    first_rule Regular e = (all_three (is_sound_file inode) (is_sound_map g inode) (is_sound_regular inode) e).0
    first_rule Directory e = (all_three (is_sound_file inode) (is_sound_map g inode) (is_sound_directory g inode) e).0
    first_rule Link e = (all_three (is_sound_file inode) (is_sound_map g inode) (is_sound_link inode) e).0

    some_links : 1 ≤ inode.nlink
    some_links =
        let last = all_two (nat_le inode.mode MODE_BITS && nat_le 1 inode.nlink && nat_le inode.nlink MOST_LINKS
        && is_time inode.atime && is_time inode.mtime) (is_time inode.ctime) (first_rule inode.kind good) in
        let rules = all_five (nat_le inode.mode MODE_BITS) (nat_le 1 inode.nlink) (nat_le inode.nlink MOST_LINKS)
        (is_time inode.atime) (is_time inode.mtime) last.0 in
        no_more 1 inode.nlink rules.1

    file_links : (inode.kind ≡ Directory → ⊥) → SoundFileLinks tree number (node_of inode)
    file_links other = record {
      counted = whole.files number inode is other ∙ sym names;
      named = some_links;
    }

    directory_links : inode.kind ≡ Directory → IsOfKind g content Directory inode
        → SoundDirectoryLinks tree number (node_with inode (body_of g.inodes content Directory inode))
    directory_links kind of_directory =
        let linked = whole.directories number inode is kind in record {
          counted = linked.counted ∙ ap (λ k. 2 + k) (sym (counted_once g content inode of_directory
              (λ (e : List ℕ × DirentValue). is_directory_at (node_at tree e.1.number))));
          root = λ at. record {
            unnamed = names_in_image g blocks tree has ROOT ∙ (linked.root at).0;
            parent = (linked.root at).1;
          };
          child = λ other.
              let parent = linked.parent other in
              record {
                once = names ∙ linked.once other;
                parent = node_of parent.0;
                parent_is = got inode.parent parent.0 parent.1;
                by_parent = of_kind g content number parent.0 parent.0.kind
                    (there.is_of_kind g blocks tree inode.parent parent.0 holds (below inode.parent parent.0 parent.1)
                    (read_as inode.parent parent.0 parent.1)) ∙ parent.2;
              };
          reached = linked.reached;
        }

    not_directory : (kind : InodeKind) → is_directory (body_of g.inodes content kind inode) ≡ false → kind ≡ Directory → ⊥
    not_directory Regular e k = cc
    not_directory Directory e k = cc
    not_directory Link e k = cc

    by_kind : (kind : InodeKind) → inode.kind ≡ kind → IsOfKind g content kind inode
        → is_directory (body_of g.inodes content kind inode) ≡ true
        → SoundDirectoryLinks tree number (node_with inode (body_of g.inodes content kind inode))
    by_kind Regular k of e = cc
    by_kind Directory k of e = directory_links k of
    by_kind Link k of e = cc

    sound_at : SoundAt tree number (node_of inode)
    sound_at = record {
      least = elim (cases_lt 0 number) [
        | inl some ↦ some
        | inr none ↦ absurd (not_free (ap (table_of g blocks) (zero_is none) ∙ is))
      ];
      most = less;
      itself = sound_node g content (there.long g blocks tree number inode holds less read) content_bytes inode sound
          (whole.names number inode is);
      names = all_there;
      links = λ e. file_links (not_directory inode.kind e);
      directory = λ e. by_kind inode.kind refl file e;
    }
      where
        zero_is : number ≤ 0 → 0 ≡ number
        zero_is none = omega (arith, none)

        not_free : table_of g blocks 0 ≡ Ok (Some inode) → ⊥
        not_free e = let clash : ◌≡◌ {A = Result (Option Inode) LayoutFault} (Ok None) (Ok (Some inode)) = sym whole.zero ∙ e in cc

  -- ---- the tree

  sound_tree : Sound tree
  sound_tree =
      let size = g.lawful.0 in let count = g.lawful.1 in record {
        geometry = record {
          blocks = omega (arith, count.3);
          most_blocks = omega (arith, size.1, size.0);
          inodes = count.0;
          most_inodes = count.1;
          whole_blocks = count.2;
        };
        root = node_of whole.root;
        root_is = got ROOT whole.root whole.root_is;
        root_directory = ap (λ k. is_directory (body_of g.inodes content k whole.root)) whole.root_directory;
        root_stamp = whole.root_stamp;
        files = λ number node e.
            let found = from_file (table_of g blocks number) node (sym (files_are g blocks number) ∙ e) in
            subst (SoundAt tree number) found.2 (sound_at number found.0 found.1);
        has_space = there_is_space g blocks tree holds;
      }

  pub stands_whole : Stands g blocks tree
  stands_whole = record {
    bytes = bytes;
    parts = record { geometry = refl; sound = sound_tree; has = has; marked = marked };
  }

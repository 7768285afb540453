-- An image that stands for a tree is whole.
use Rattle.std.proofs.Common.{◌≡◌, ℕ, ◌+◌, ◌<◌, inl, inr, sym, ap, ◌∙◌, refl, subst, true, false, cond}
use Rattle.std.proofs.Common.{List, get_or, nat_eq, arith, is_some}
use Rattle.std.proofs.Common.{Option, Some, None, Result, Ok, Err, IsSome}
use Rattle.std.specs.Cmp.Lexicographic.{nat_list_cmp_total}
use Rattle.std.specs.FinMap as map
use Rattle.std.proofs.lemmas.Bool.{cases_lt, le-ltb, ne_eqb}
use Rattle.base.specs.declared.TheConstants.{ROOT}
use Rattle.disk.specs.Crash.{Image}
use Rattle.nfs_spec.specs.Model.Names.{entries_of, is_directory, is_directory_at, names_in, names_of}
use Rattle.nfs_spec.specs.Model.Node.{DirentValue, Node}
use Rattle.nfs_spec.specs.Model.Sound.{Sound, SoundAt, SoundBody, SoundDirectoryLinks}
use Rattle.nfs_spec.specs.Model.Tree.{Tree, node_at}
use Rattle.nfs_spec.proofs.ProceduresLemmas.NameChanges.{names_apart}
use Rattle.nfs_spec.proofs.ProceduresLemmas.Parts.{sum_none}
use Rattle.nfs_spec.proofs.ProceduresLemmas.Sums.{got_at}
use Rattle.layout.specs.declared.fault.LayoutFault.{LayoutFault}
use Rattle.layout.specs.declared.fault.LayoutFault.TheVariants.{Range}
use Rattle.layout.specs.declared.geometry.Geometry.{Geometry}
use Rattle.layout.specs.declared.inode.Inode.{Inode}
use Rattle.layout.specs.declared.inode.InodeKind.{InodeKind}
use Rattle.layout.specs.declared.inode.InodeKind.TheVariants.{Directory, Link, Regular}
use Rattle.layout.specs.Decode.{IsDirectory, IsFile, IsOfKind, body_of, dirent_in, file_of, inode_at, named_in, node_with}
use Rattle.layout.specs.Decode.{slot_bytes}
use Rattle.layout.specs.Owners.{is_used}
use Rattle.layout.specs.Parts.{content_in, parts_of, table_of}
use Rattle.layout.specs.SlotForm.{read_slot}
use Rattle.layout.specs.Stands.{HasFiles, Stands}
use Rattle.image_read.specs.Laws.TreeOf.{HasNames, tree_of}
use Rattle.image_read.specs.Laws.Whole.{IsLinkedDirectory, IsWhole, named}
use Rattle.dir.proofs.Distinct.{found_once}
use Rattle.layout.proofs.Holding.{unnumbered}
use Rattle.image_read.proofs.LawsLemmas.Made.{files_are, one_made}
use Rattle.dir.proofs.Members.{in_range, none_some, same}
use Rattle.image_read.proofs.LawsLemmas.NamedInImage.{counted_once, names_in_image, of_kind}

module _ (g : Geometry) (blocks : Image) (stands : Stands g blocks (tree_of g blocks)) where
  abbrev tree : Tree
  tree = tree_of g blocks

  abbrev content : Image
  content = content_in g blocks

  abbrev node_of : Inode → Node
  node_of inode = node_with inode (body_of g.inodes content inode.kind inode)

  sound : Sound tree
  sound = stands.parts.sound

  has : HasFiles g (parts_of g blocks) tree
  has = stands.parts.has

  got : (number : ℕ) (inode : Inode) → table_of g blocks number ≡ Ok (Some inode)
      → node_at tree number ≡ Some (node_of inode)
  got number inode is = files_are g blocks number ∙ ap (file_of g.inodes content) is

  from_file : (r : Result (Option Inode) LayoutFault) (node : Node) → file_of g.inodes content r ≡ Some node
      → (inode : Inode) × (r ≡ Ok (Some inode)) × (node_of inode ≡ node)
  from_file (Ok (Some inode)) node e = (inode, refl, same (node_of inode) node e)
  from_file (Ok None) node e = absurd (none_some node e)
  from_file (Err fault) node e = absurd (none_some node e)

  found : (number : ℕ) (node : Node) → node_at tree number ≡ Some node
      → (inode : Inode) × (table_of g blocks number ≡ Ok (Some inode)) × (node_of inode ≡ node)
  found number node e = from_file (table_of g blocks number) node (sym (files_are g blocks number) ∙ e)

  below : (number : ℕ) (inode : Inode) → table_of g blocks number ≡ Ok (Some inode) → number < g.inodes
  below number inode is = elim (cases_lt number g.inodes) [
    | inl less ↦ less
    | inr past ↦ (let none = ap (λ b. cond b (inode_at g blocks number) (Err Range)) (le-ltb number g.inodes past) in
        absurd (clash (sym none ∙ is)))
  ]
    where
      clash : ◌≡◌ {A = Result (Option Inode) LayoutFault} (Err Range) (Ok (Some inode)) → ⊥
      clash e = cc

  file : (number : ℕ) (inode : Inode) → table_of g blocks number ≡ Ok (Some inode) → IsOfKind g content inode.kind inode
  file number inode is = subst (IsFile g content) is (has.inodes number (below number inode is))

  at : (number : ℕ) (inode : Inode) → table_of g blocks number ≡ Ok (Some inode) → SoundAt tree number (node_of inode)
  at number inode is = sound.files number (node_of inode) (got number inode is)

  -- ---- number 0

  zero_by : (r : Result (Option Inode) LayoutFault) → table_of g blocks 0 ≡ r → r ≡ Ok None
  zero_by (Ok (Some inode)) e = absurd (none_some (node_of inode) (sym (unnumbered tree sound) ∙ got 0 inode e))
  zero_by (Ok None) e = refl
  zero_by (Err fault) e =
      let some = g.lawful.1.0 in absurd (subst (IsFile g content) e (has.inodes 0 (omega (arith, some))))

  -- ---- names

  -- no entry names a number that no file has
  unnamed : (number : ℕ) → node_at tree number ≡ None → names_of tree number ≡ 0
  unnamed number none =
      sum_none (λ dirent. names_in number dirent.1.body) (map.entries tree.nodes) (λ index d inside.
      let dirent = get_or (map.entries tree.nodes) index d in
      let here = sound.files dirent.0 dirent.1 (got_at tree.nodes d index inside) in
      sum_none (λ e. cond (nat_eq e.1.number number) 1 0) (entries_of dirent.1.body) (λ index_within e within.
      ap (λ b. cond b 1 0) (ne_eqb _ _ (other _ (here.names index_within e within)))))
    where
      other : (p : ℕ) → IsSome (node_at tree p) → p ≡ number → ⊥
      other p some is = let never : false ≡ true = sym (ap is_some (ap (node_at tree) is ∙ none)) ∙ some in cc

  names_are : (number : ℕ) → names_of tree number ≡ named g blocks number
  names_are number = names_in_image g blocks tree has number

  used_by : (number : ℕ) → 0 < named g blocks number → (r : Result (Option Inode) LayoutFault)
      → table_of g blocks number ≡ r → is_used r ≡ true
  used_by number some (Ok (Some inode)) e = refl
  used_by number some (Ok None) e =
      let none = unnamed number (files_are g blocks number ∙ ap (file_of g.inodes content) e) in
      let is = names_are number in absurd (omega (arith, some, none, is))
  used_by number some (Err fault) e =
      let none = unnamed number (files_are g blocks number ∙ ap (file_of g.inodes content) e) in
      let is = names_are number in absurd (omega (arith, some, none, is))

  -- a name in a slot of a directory is one
  slot_names : (inode : Inode) → IsDirectory g content inode → SoundBody (body_of g.inodes content Directory inode)
      → HasNames g content inode
  unfolding named_in
  slot_names inode is body index slot less e =
      let dirent : DirentValue = record { number = slot.number; slot = index } in
      let there = in_range (λ k. dirent_in k (read_slot g.inodes (slot_bytes content inode k))) 0
      _ index (slot.name, dirent) (omega arith) (omega (arith, less)) (ap (dirent_in index) e) in
      body.names slot.name dirent
      (map.get-from_entries nat_list_cmp_total (named_in g.inodes content inode) slot.name
      ∙ found_once nat_list_cmp_total names_apart (named_in g.inodes content inode) is.once slot.name dirent there)

  -- ---- links

  is_kind : (kind : InodeKind) (inode : Inode) → is_directory (body_of g.inodes content kind inode) ≡ true
      → kind ≡ Directory
  is_kind Regular inode e = cc
  is_kind Directory inode e = refl
  is_kind Link inode e = cc

  other_kind : (kind : InodeKind) (inode : Inode) → (kind ≡ Directory → ⊥)
      → is_directory (body_of g.inodes content kind inode) ≡ false
  other_kind Regular inode not = refl
  other_kind Directory inode not = absurd (not refl)
  other_kind Link inode not = refl

  linked : (number : ℕ) (inode : Inode) → table_of g blocks number ≡ Ok (Some inode) → inode.kind ≡ Directory
      → IsLinkedDirectory g blocks number inode
  linked number inode is kind =
      let dir : is_directory (body_of g.inodes content inode.kind inode) ≡ true =
      ap (λ k. is_directory (body_of g.inodes content k inode)) kind in
      let links = subst (λ k. SoundDirectoryLinks tree number (node_with inode (body_of g.inodes content k inode))) kind
      ((at number inode is).directory dir) in
      let of_directory = subst (λ k. IsOfKind g content k inode) kind (file number inode is) in
      record {
        counted = links.counted ∙ ap (λ k. 2 + k) (counted_once g content inode of_directory
            (λ (e : List ℕ × DirentValue). is_directory_at (node_at tree e.1.number)));
        root = λ here. (sym (names_are ROOT) ∙ (links.root here).unnamed, (links.root here).parent);
        once = λ other. sym (names_are number) ∙ (links.child other).once;
        parent = λ other.
            let child = links.child other in
            let above = found inode.parent child.parent child.parent_is in (
              above.0,
              above.1,
              sym (of_kind g content number above.0 above.0.kind (file inode.parent above.0 above.1))
                  ∙ ap (λ (n : Node). names_in number n.body) above.2 ∙ child.by_parent,
            );
        reached = links.reached;
      }

  is_whole : IsWhole g blocks
  is_whole =
      let root = found ROOT sound.root sound.root_is in record {
        zero = zero_by (table_of g blocks 0) refl;
        root = root.0;
        root_is = root.1;
        root_directory = is_kind root.0.kind root.0
            (ap (λ (n : Node). is_directory n.body) root.2 ∙ sound.root_directory);
        root_stamp = ap (λ (n : Node). n.stamp) root.2 ∙ sound.root_stamp;
        names = λ number inode is kind. slot_names inode
            (subst (λ k. IsOfKind g content k inode) kind (file number inode is))
            (subst (λ k. SoundBody (body_of g.inodes content k inode)) kind (at number inode is).itself.body);
        there = λ number some. used_by number some (table_of g blocks number) refl;
        files = λ number inode is other.
            ((at number inode is).links (other_kind inode.kind inode other)).counted ∙ names_are number;
        directories = linked;
      }

pub whole_of : (g : Geometry) (blocks : Image) (tree : Tree) → Stands g blocks tree → IsWhole g blocks
whole_of g blocks tree stands =
    is_whole g blocks
    (subst (Stands g blocks) (one_made g blocks tree stands.parts.geometry stands.parts.has) stands)

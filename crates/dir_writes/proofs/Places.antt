-- Where a name lies that the entries of a directory have, and what a file has that doesn't have it.
use Rattle.std.proofs.Common.{◌≡◌, ℕ, ◌*◌, ◌<◌, inl, inr, sym, ap, ◌∙◌, refl, subst, Bool, true, false, cond}
use Rattle.std.proofs.Common.{List, Option, Some, None, Result, Ok, Err, arith}
use Rattle.std.specs.Cmp.Lexicographic.{nat_list_cmp_total, slice_cmp}
use Rattle.std.specs.FinMap as map
use Rattle.std.specs.Option.{option_map}
use Rattle.std.specs.Ordering.{eq_by_cmp, nat_cmp}
use Rattle.std.proofs.lemmas.Bool.{cases_eq}
use Rattle.base.specs.declared.TheConstants.{SLOTS_PER_BLOCK}
use Rattle.disk.specs.Crash.{Image}
use Rattle.nfs_spec.specs.Model.Node.{Body, DirentValue, Entries, Node}
use Rattle.nfs_spec.specs.Model.Node as nodes
use Rattle.nfs_spec.specs.Model.Tree.{Tree, node_at, with_node}
use Rattle.nfs_spec.specs.Procedures.Changes.{without_dirent}
use Rattle.layout.specs.declared.fault.LayoutFault.{LayoutFault}
use Rattle.layout.specs.declared.geometry.Geometry.{Geometry}
use Rattle.layout.specs.declared.inode.Inode.{Inode}
use Rattle.layout.specs.declared.slot.Slot.{Slot}
use Rattle.layout.specs.Decode.{entries_in, dirent_in, named_in, span_of}
use Rattle.layout.specs.Holds.{Holds}
use Rattle.layout.specs.SlotForm.{number_under}
use Rattle.procs_files.specs.declared.dirent.SlotDirent.{SlotDirent}
use Rattle.procs_files.specs.Heads.{dirent_of}
use Rattle.dir.specs.Slots.{slot_at}
use Rattle.dir.proofs.Distinct.{found_in, itself, tied}
use Rattle.dir.proofs.FoundIn.{entries}
use Rattle.dir.proofs.Members.{from_range, same}
use Rattle.inode.proofs.WriteSetsLemmas.OneFile.{here_next, there_next}
use Rattle.dir_writes.proofs.Lost.{exact}

pub record LiesAt (inodes : ℕ) (content : Image) (inode : Inode) (name : List ℕ) (slot number : ℕ) : Type 0 where
  pub less : slot < SLOTS_PER_BLOCK * span_of inode
  pub is : number_under name (slot_at inodes content inode slot) ≡ Ok (Some number)

dirent_is : (i : ℕ) (read : Result (Option Slot) LayoutFault) (name : List ℕ) (dirent : DirentValue)
    → dirent_in i read ≡ Some (name, dirent)
    → (dirent.slot ≡ i) × (number_under name read ≡ Ok (Some dirent.number))
dirent_is i (Ok (Some one)) name dirent e =
    let pair : (one.name, record { number = one.number; slot = i }) ≡ (name, dirent) =
    same (one.name, record { number = one.number; slot = i }) (name, dirent) e in
    let key : one.name ≡ name = ap (λ (p : List ℕ × DirentValue). p.0) pair in (
      sym (ap (λ (p : List ℕ × DirentValue). p.1.slot) pair),
      ap (λ k. Ok (cond (eq_by_cmp (slice_cmp nat_cmp) k one.name) (Some one.number) None)) (sym key)
          ∙ ap (λ t. Ok (cond t (Some one.number) None)) (itself nat_list_cmp_total one.name)
          ∙ ap (λ k. Ok (Some k)) (ap (λ (p : List ℕ × DirentValue). p.1.number) pair),
    )
dirent_is i (Ok None) name dirent e = cc
dirent_is i (Err fault) name dirent e = cc

pub lies_at : (inodes : ℕ) (content : Image) (inode : Inode) (name : List ℕ) (search_hit : SlotDirent)
    → option_map dirent_of (Some search_hit) ≡ map.get (entries_in inodes content inode) name
    → LiesAt inodes content inode name search_hit.slot search_hit.number
unfolding named_in
lies_at inodes content inode name search_hit found =
    let end : ℕ = SLOTS_PER_BLOCK * span_of inode in
    let es : List (List ℕ × DirentValue) = entries (slot_at inodes content inode) 0 end in
    let member = found_in nat_list_cmp_total exact es name (dirent_of search_hit)
    (sym (map.get-from_entries nat_list_cmp_total es name) ∙ sym found) in
    let at = from_range (λ index. dirent_in index (slot_at inodes content inode index)) 0 end (name, dirent_of search_hit)
    member in
    let both = dirent_is at.0 (slot_at inodes content inode at.0) name (dirent_of search_hit) at.3 in
    let high = at.2 in
    let here = both.0 in
    record {
      less = omega (arith, high, here);
      is = subst (λ k. number_under name (slot_at inodes content inode k) ≡ Ok (Some search_hit.number)) (sym here)
          both.1;
    }

-- ---- a file without the name

without_none : (entries : Entries) (name : List ℕ) → map.get entries name ≡ None → map.remove entries name ≡ entries
without_none entries name none = map.same_map nat_list_cmp_total exact (map.remove entries name) entries
    (λ q. map.get-remove nat_list_cmp_total entries name q ∙ by_test q (eq_by_cmp (slice_cmp nat_cmp) q name) refl)
  where
    by_test : (q : List ℕ) (t : Bool) → eq_by_cmp (slice_cmp nat_cmp) q name ≡ t
        → cond t None (map.get entries q) ≡ map.get entries q
    by_test q true e = sym (ap (map.get entries) (tied exact q name e) ∙ none)
    by_test q false e = refl

pub same_holds : (g : Geometry) (image : Image) (tree : Tree) (n : ℕ) (node new : Node) → Holds g image tree
    → node_at tree n ≡ Some node → new ≡ node → Holds g image (with_node tree n new)
same_holds g image tree n node new holds was is = record {
  bytes = holds.bytes;
  parts = record {
    geometry = holds.parts.geometry;
    unnumbered = alike 0 ∙ holds.parts.unnumbered;
    has = record { inodes = holds.parts.has.inodes; files = λ m. alike m ∙ holds.parts.has.files m };
    marked = holds.parts.marked;
  };
}
  where
    alike : (m : ℕ) → node_at (with_node tree n new) m ≡ node_at tree m
    alike m = elim (cases_eq m n) [
      | inl same ↦ subst (λ k. node_at (with_node tree n new) k ≡ node_at tree k) (sym same)
          (here_next tree n new ∙ ap (λ (one : Node). Some one) is ∙ sym was)
      | inr not ↦ there_next tree n new m not
    ]

pub lost_none : (entries : Entries) (span parent : ℕ) (name : List ℕ) → map.get entries name ≡ None
    → without_dirent name (nodes.Directory entries span parent) ≡ nodes.Directory entries span parent
lost_none entries span parent name none = ap (λ es. nodes.Directory es span parent) (without_none entries name none)

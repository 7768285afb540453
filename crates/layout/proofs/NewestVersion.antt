-- Blocks stand for the same tree whether their image has an older version or the newest one.
use Rattle.std.proofs.Common.{◌≡◌, ℕ, ◌<◌, inl, inr, sym, ap, ◌∙◌, refl, subst, Bool, true, false, cond, ◌&&◌, ◌||◌}
use Rattle.std.proofs.Common.{List, Option, Some, None, Result, Ok, Err, nat_eq, nat_lt, take, drop}
use Rattle.std.specs.List.{list_all}
use Rattle.std.proofs.lemmas.Bool.{cases_lt, le-ltb}
use Rattle.base.specs.declared.TheConstants.{INODE_BYTES}
use Rattle.disk.specs.Crash.{Image}
use Rattle.nfs_spec.specs.Model.Tree.{Tree}
use Rattle.layout.specs.declared.fault.LayoutFault.{LayoutFault}
use Rattle.layout.specs.declared.fault.LayoutFault.TheVariants.{Range}
use Rattle.layout.specs.declared.geometry.Geometry.{Geometry}
use Rattle.layout.specs.declared.inode.Inode.{Inode}
use Rattle.layout.specs.declared.inode.InodeKind.{InodeKind}
use Rattle.layout.specs.declared.inode.InodeKind.TheVariants.{Regular, Directory, Link}
use Rattle.layout.specs.declared.version.FormatVersion.TheVariants.{Second}
use Rattle.layout.specs.Decode.{IsFile, IsMapped, IsOfKind, inode_at}
use Rattle.layout.specs.Fields.{four_at, is_zeros}
use Rattle.layout.specs.InodeForm.{fields_of, inode_of_kind, is_data_block_or_none, is_sound_directory, is_sound_file}
use Rattle.layout.specs.InodeForm.{is_sound_inode, is_sound_kind, is_sound_link, is_sound_map, is_sound_regular}
use Rattle.layout.specs.InodeForm.{kind_of_number, read_inode, rest_is_zero}
use Rattle.layout.specs.Newest.{newest}
use Rattle.layout.specs.Owners.{IsMarked, owned}
use Rattle.layout.specs.Parts.{Parts, content_in, parts_of, table_of}
use Rattle.layout.specs.Places.{inode_block, inode_offset}
use Rattle.layout.specs.Stands.{PartsStand, Stands}
use Rattle.layout.specs.Version.{has_double}
use Rattle.layout.proofs.OneGeometry.{one_geometry}
use Rattle.layout.proofs.Respelled.{all_four, all_three}

or_true : (a : Bool) → (a || true) ≡ true
or_true true = refl
or_true false = refl

module _ (g : Geometry) where
  -- ---- what is read of an inode

  map_alike : (inode : Inode) → is_sound_map g inode ≡ true → is_sound_map (newest g) inode ≡ true
  map_alike inode e =
      let four = all_four (list_all (is_data_block_or_none g) inode.direct) (is_data_block_or_none g inode.indirect)
      (is_data_block_or_none g inode.double) (nat_eq inode.double 0 || has_double g.version) e in
      λ i. four.0 i && four.1 i && four.2 i && or_true (nat_eq inode.double 0) i

  sound_alike : (kind : InodeKind) (inode : Inode) → is_sound_kind g kind inode ≡ true
      → is_sound_kind (newest g) kind inode ≡ true
  sound_alike Regular inode e =
      let three = all_three (is_sound_file inode) (is_sound_map g inode) (is_sound_regular inode) e in
      λ i. three.0 i && map_alike inode three.1 i && three.2 i
  sound_alike Directory inode e =
      let three = all_three (is_sound_file inode) (is_sound_map g inode) (is_sound_directory g inode) e in
      λ i. three.0 i && map_alike inode three.1 i && three.2 i
  sound_alike Link inode e =
      let three = all_three (is_sound_file inode) (is_sound_map g inode) (is_sound_link inode) e in
      λ i. three.0 i && map_alike inode three.1 i && three.2 i

  -- what isn't refused is read alike
  abbrev IsGiven : Result (Option Inode) LayoutFault → Type 0
  IsGiven (Ok one) = Unit {0}
  IsGiven (Err fault) = ⊥

  module _ (bytes : List ℕ) where
    kind_alike : (kind : InodeKind) (rest sound : Bool) → rest_is_zero bytes ≡ rest
        → is_sound_kind g kind (fields_of kind bytes) ≡ sound
        → IsGiven (cond (rest && sound) (Ok (Some (fields_of kind bytes))) (Err Range))
        → (rest_is_zero bytes && is_sound_kind (newest g) kind (fields_of kind bytes)) ≡ (rest && sound)
    kind_alike kind true true zero good given = λ i. zero i && sound_alike kind (fields_of kind bytes) good i
    kind_alike kind true false zero good given = absurd given
    kind_alike kind false sound zero good given = absurd given

    of_kind_alike : (kind : Option InodeKind) → IsGiven (inode_of_kind g kind bytes)
        → inode_of_kind (newest g) kind bytes ≡ inode_of_kind g kind bytes
    unfolding is_sound_inode fields_of
    of_kind_alike None given = absurd given
    of_kind_alike (Some kind) given =
        ap {B = Result (Option Inode) LayoutFault}
        (λ b. cond b (Ok (Some (fields_of kind bytes))) (Err Range))
        (kind_alike kind (rest_is_zero bytes) (is_sound_kind g kind (fields_of kind bytes)) refl refl given)

    by_zeros : (zeros : Bool)
        → IsGiven (cond zeros (Ok None) (inode_of_kind g (kind_of_number (four_at 0 bytes)) bytes))
        → cond zeros (Ok None) (inode_of_kind (newest g) (kind_of_number (four_at 0 bytes)) bytes)
        ≡ cond zeros (Ok None) (inode_of_kind g (kind_of_number (four_at 0 bytes)) bytes)
    by_zeros true given = refl
    by_zeros false given = of_kind_alike (kind_of_number (four_at 0 bytes)) given

    read_alike : IsGiven (read_inode g bytes) → read_inode (newest g) bytes ≡ read_inode g bytes
    unfolding read_inode
    read_alike given = by_zeros (is_zeros bytes) given

  -- ---- what is read of an image

  module _ (blocks : Image) where
    at_alike : (number : ℕ) → IsGiven (inode_at g blocks number)
        → inode_at (newest g) blocks number ≡ inode_at g blocks number
    unfolding inode_at
    at_alike number given = read_alike (take INODE_BYTES (drop (inode_offset number) (blocks (inode_block g number)))) given

    given_by : (content : Image) (read : Result (Option Inode) LayoutFault) → IsFile g content read → IsGiven read
    given_by content (Ok one) is = tt
    given_by content (Err fault) is = is

    by_number : (number : ℕ) (there : Bool)
        → (there ≡ true → IsGiven (inode_at g blocks number))
        → cond there (inode_at (newest g) blocks number) (Err Range) ≡ cond there (inode_at g blocks number) (Err Range)
    by_number number true given = at_alike number (given refl)
    by_number number false given = refl

    module _ (files : (number : ℕ) → number < g.inodes → IsFile g (content_in g blocks) (table_of g blocks number)) where
      given_at : (number : ℕ) → nat_lt number g.inodes ≡ true → IsGiven (inode_at g blocks number)
      given_at number there = elim (cases_lt number g.inodes) [
        | inl less ↦ subst (λ b. IsGiven (cond b (inode_at g blocks number) (Err Range))) there
            (given_by (content_in g blocks) (table_of g blocks number) (files number less))
        | inr past ↦ let clash : true ≡ false = sym there ∙ le-ltb number g.inodes past in cc
      ]

      table_alike : (number : ℕ) → table_of (newest g) blocks number ≡ table_of g blocks number
      table_alike number = by_number number (nat_lt number g.inodes) (given_at number)

      parts_alike : parts_of (newest g) blocks ≡ parts_of g blocks
      parts_alike = λ i. record (parts_of g blocks) { table = λ number. table_alike number i }

  -- ---- what parts stand for

  mapped_alike : (content : Image) (inode : Inode) → IsMapped g content inode → IsMapped (newest g) content inode
  mapped_alike content inode is =
      record { pointers = is.pointers; numbers = is.numbers; used = is.used }

  of_kind : (content : Image) (kind : InodeKind) (inode : Inode) → IsOfKind g content kind inode
      → IsOfKind (newest g) content kind inode
  of_kind content Regular inode is = record { mapped = mapped_alike content inode is.mapped; zeros = is.zeros }
  of_kind content Directory inode is = record {
    mapped = mapped_alike content inode is.mapped;
    spans = is.spans;
    slots = is.slots;
    once = is.once;
  }
  of_kind content Link inode is = is

  file_alike : (content : Image) (read : Result (Option Inode) LayoutFault) → IsFile g content read
      → IsFile (newest g) content read
  file_alike content (Ok (Some inode)) is = of_kind content inode.kind inode is
  file_alike content (Ok None) is = is
  file_alike content (Err fault) is = is

  marked_alike : (parts : Parts) → IsMarked g parts → IsMarked (newest g) parts
  unfolding owned
  marked_alike parts is =
      record { once = is.once; blocks_marked = is.blocks_marked; inodes_marked = is.inodes_marked }

  parts_stand : (parts : Parts) (tree : Tree) → PartsStand g parts tree → PartsStand (newest g) parts tree
  parts_stand parts tree is = record {
    geometry = is.geometry;
    sound = is.sound;
    has = record {
      inodes = λ number less. file_alike parts.content (parts.table number) (is.has.inodes number less);
      files = is.has.files;
    };
    marked = marked_alike parts is.marked;
  }

  pub newest_stands : (blocks : Image) (tree : Tree) → Stands g blocks tree → Stands (newest g) blocks tree
  newest_stands blocks tree is = record {
    bytes = is.bytes;
    parts = subst (λ parts. PartsStand (newest g) parts tree) (sym (parts_alike blocks is.parts.has.inodes))
        (parts_stand (parts_of g blocks) tree is.parts);
  }

pub stands_alike : (g h : Geometry) (blocks : Image) (tree : Tree) → h.version ≡ Second → h.blocks ≡ g.blocks
    → h.inodes ≡ g.inodes → Stands g blocks tree → Stands h blocks tree
stands_alike g h blocks tree version size inodes is =
    subst (λ k. Stands k blocks tree) (one_geometry (newest g) h (sym version) (sym size) (sym inodes))
    (newest_stands g blocks tree is)

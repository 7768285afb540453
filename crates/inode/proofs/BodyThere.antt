-- The kind, the size, the blocks and the parent that an inode shows are those of what is in its file.
use Rattle.std.proofs.Common.{refl, ◌≡◌, ℕ, sym, ap, ◌∙◌, ◌%◌, ◌/◌, length, nat_eq, nat_le, nat_lt}
use Rattle.std.proofs.Common.{cond, not, min, true, is_none}
use Rattle.base.specs.declared.TheConstants.{BLOCK_BYTES, DIRECT_INDEXES, LARGEST_DIRECTORY, LARGEST_FILE}
use Rattle.base.specs.declared.TheConstants.{TARGET_BYTES}
use Rattle.disk.specs.Crash.{Image}
use Rattle.layout.specs.declared.geometry.Geometry.{Geometry}
use Rattle.layout.specs.declared.inode.Inode.{Inode}
use Rattle.layout.specs.declared.inode.InodeKind.{InodeKind}
use Rattle.layout.specs.declared.inode.InodeKind.TheVariants.{Regular, Directory, Link}
use Rattle.layout.specs.Decode.{IsOfKind, body_of}
use Rattle.layout.specs.InodeForm.{is_sound_kind, is_sound_file, is_sound_map, is_sound_regular}
use Rattle.layout.specs.InodeForm.{is_sound_directory, is_sound_link, names_first}
use Rattle.inode.specs.Shown.{IsShown, file_kind}
use Rattle.inode.proofs.AllTests.{all_three, all_two, all_five, all_seven, no_more, same_number}
use Rattle.inode.proofs.FileSizes.{regular_size, directory_size, link_size}
use Rattle.inode.proofs.UsedBlocks.{counted, regular_counted, directory_counted, link_counted}

module _ (g : Geometry) (content : Image) (i : Inode) (k : ℕ)
    (long : (number : ℕ) → length (content number) ≡ BLOCK_BYTES)
    (direct : length i.direct ≡ DIRECT_INDEXES)
    (used : k ≡ counted content i) where
  pub has_body : (kind : InodeKind) → i.kind ≡ kind → is_sound_kind g kind i ≡ true
      → IsOfKind g content kind i → IsShown i k (body_of g.inodes content kind i)
  has_body Regular is good file =
      let three = all_three (is_sound_file i) (is_sound_map g i) (is_sound_regular i) good in
      let small = all_two (nat_le i.size LARGEST_FILE) (nat_eq i.parent 0) three.2 in
      record {
        kind = ap file_kind (sym is);
        size = regular_size content i direct long (no_more i.size LARGEST_FILE small.0);
        used = regular_counted g content i direct file.mapped ∙ sym used;
        parent = sym (same_number i.parent 0 small.1);
      }
  has_body Directory is good file =
      let three = all_three (is_sound_file i) (is_sound_map g i)
      (is_sound_directory g i) good in
      let rules = all_seven (nat_le 2 i.nlink) (nat_le i.size LARGEST_DIRECTORY)
      (nat_eq (i.size % BLOCK_BYTES) 0)
      (nat_lt 0 i.parent) (nat_lt i.parent g.inodes)
      (names_first (min (i.size / BLOCK_BYTES) DIRECT_INDEXES) i.direct)
      (cond (nat_lt DIRECT_INDEXES (i.size / BLOCK_BYTES)) (not (nat_eq i.indirect 0)) (nat_eq i.indirect 0))
      (all_two _ (nat_eq i.double 0) (all_two _ (is_none i.verifier) three.2).0).0 in
      record {
        kind = ap file_kind (sym is);
        size = directory_size i.size (same_number (i.size % BLOCK_BYTES) 0 rules.2);
        used = directory_counted g content i direct file.spans
            (no_more i.size LARGEST_DIRECTORY rules.1) rules.6
            (all_two _ (nat_eq i.double 0) (all_two _ (is_none i.verifier) three.2).0).1
            ∙ sym used;
        parent = refl;
      }
  has_body Link is good file =
      let three = all_three (is_sound_file i) (is_sound_map g i) (is_sound_link i) good in
      let rules = all_five (nat_le 1 i.size) (nat_le i.size TARGET_BYTES) (nat_eq i.parent 0)
      (names_first 1 i.direct) (nat_eq i.indirect 0)
      (all_two _ (nat_eq i.double 0) (all_two _ (is_none i.verifier) three.2).0).0 in
      record {
        kind = ap file_kind (sym is);
        size = link_size content i direct long (no_more i.size TARGET_BYTES rules.1);
        used = link_counted g content i direct rules.3 rules.4
            (all_two _ (nat_eq i.double 0) (all_two _ (is_none i.verifier) three.2).0).1
            ∙ sym used;
        parent = sym (same_number i.parent 0 rules.2);
      }

-- A file's node and rules look at the file's own blocks alone.
use Rattle.std.proofs.Common.{◌≡◌, ℕ, zero, suc, sym, ap, ◌∙◌, refl, subst, Bool, true, false, cond, not}
use Rattle.std.proofs.Common.{◌||◌, ◌&&◌, List, [], ◌∷◌, ◌++◌, length, take, drop, nat_eq, replicate, filter, All}
use Rattle.std.proofs.Common.{IsOk, Ok, Err, Result, Option, Some, None, ◌*◌, arith}
use Rattle.std.specs.List.{AllByRecursion, filter_map, list_all, list_any}
use Rattle.std.specs.Cmp.Lexicographic.{slice_cmp}
use Rattle.std.specs.Ordering.{nat_cmp}
use Rattle.std.specs.FinMap as map
use Rattle.std.proofs.lemmas.List.{take_all}
use Rattle.base.specs.declared.TheConstants.{BLOCK_BYTES}
use Rattle.disk.specs.Crash.{Image}
use Rattle.layout.specs.declared.fault.LayoutFault.{LayoutFault}
use Rattle.layout.specs.declared.geometry.Geometry.{Geometry}
use Rattle.layout.specs.declared.inode.Inode.{Inode}
use Rattle.layout.specs.declared.inode.InodeKind.{InodeKind}
use Rattle.layout.specs.declared.inode.InodeKind.TheVariants.{Regular, Directory, Link}
use Rattle.layout.specs.Decode.{numbers_of, content_of, bytes_of, mapped_of, span_of, slot_bytes}
use Rattle.layout.specs.declared.slot.TheConstants.{SLOT_BYTES}
use Rattle.layout.specs.Decode.{slots_of, dirent_in, named_in, node_with, body_of, file_of, IsMapped}
use Rattle.layout.specs.Decode.{IsOfKind, IsFile, is_used_pointer, numbers_in, pointer_blocks}
use Rattle.layout.specs.Fields.{is_zeros}
use Rattle.layout.specs.InodeForm.{is_data_block_or_none, names_first}
use Rattle.layout.specs.Owners.{owned_by}
use Rattle.layout.specs.SlotForm.{read_slot}
use Rattle.layout.proofs.ChangedNumbers.{ArePointersSame, same_numbers, same_pointers}
use Rattle.layout.proofs.FileNumbers.{first_numbers}
use Rattle.layout.proofs.NumbersIn.{either}
use Rattle.nfs_spec.specs.Model.Node as model

module _ (P : ℕ → Type 0) where
  all_take : (k : ℕ) (xs : List ℕ) → AllByRecursion P xs → AllByRecursion P (take k xs)
  all_take zero [] all = tt
  all_take zero (x ∷ xs) all = tt
  all_take (suc k) [] all = tt
  all_take (suc k) (x ∷ xs) all = (all.0, all_take k xs all.1)

  first : (t : Bool) (x : ℕ) (xs : List ℕ) → AllByRecursion P (cond (not t) (x ∷ xs) xs)
      → (t ≡ false → P x) × AllByRecursion P xs
  first true x xs all = (λ no. cc, all)
  first false x xs all = (λ no. all.0, all.1)

abbrev dirent_count : List (List ℕ × model.DirentValue) → ℕ
dirent_count entries = map.len (map.from_entries {R = slice_cmp nat_cmp} entries)

module _ (a b : Image) where
  abbrev IsSame : ℕ → Type 0
  IsSame number = b number ≡ a number

  abbrev IsAlike : ℕ → Type 0
  IsAlike number = content_of b number ≡ content_of a number

  abbrev AreSame : List ℕ → Type 0
  AreSame numbers = AllByRecursion IsSame numbers

  abbrev some : List ℕ → List ℕ
  some numbers = filter (λ number. not (nat_eq number 0)) numbers

  parted : (pointers numbers : List ℕ) → AreSame (some (pointers ++ numbers))
      → ArePointersSame a b pointers × AreSame (some numbers)
  parted [] numbers same = (tt, same)
  parted (n ∷ pointers) numbers same =
      let one = first IsSame (nat_eq n 0) n (some (pointers ++ numbers)) same in
      let rest = parted pointers numbers one.1 in
      ((one.0, rest.0), rest.1)

  same_parts : (numbers : List ℕ) → AreSame (some numbers) → AllByRecursion IsAlike numbers
  same_parts [] same = tt
  same_parts (n ∷ numbers) same =
      let parts = first IsSame (nat_eq n 0) n (some numbers) same in
      (either (nat_eq n 0) (replicate BLOCK_BYTES 0) (b n) (a n) parts.0, same_parts numbers parts.1)

  same_bytes : (numbers : List ℕ) → AllByRecursion IsAlike numbers → bytes_of b numbers ≡ bytes_of a numbers
  unfolding bytes_of
  same_bytes [] same = refl
  same_bytes (n ∷ numbers) same = λ i. same.0 i ++ same_bytes numbers same.1 i

  -- pointer blocks in which the same numbers lie are used alike
  used_alike : (pointers : List ℕ) → AllByRecursion (λ number. numbers_in b number ≡ numbers_in a number) pointers
      → list_all (is_used_pointer b) pointers ≡ list_all (is_used_pointer a) pointers
  used_alike [] same = refl
  used_alike (n ∷ pointers) same =
      λ i. (nat_eq n 0 || list_any (λ one. not (nat_eq one 0)) (same.0 i)) && used_alike pointers same.1 i

  module _ (inode : Inode) (same : AreSame (owned_by a (Ok (Some inode)))) where
    both : ArePointersSame a b (pointer_blocks a inode) × AreSame (some (numbers_of a inode))
    both = parted (pointer_blocks a inode) (numbers_of a inode) same

    is_preserved : (numbers_of b inode ≡ numbers_of a inode) × (pointer_blocks b inode ≡ pointer_blocks a inode)
    is_preserved = same_numbers a b inode both.0

    numbers : numbers_of b inode ≡ numbers_of a inode
    numbers = is_preserved.0

    each : AllByRecursion IsAlike (numbers_of a inode)
    each = same_parts (numbers_of a inode) both.1

    bytes : bytes_of b (numbers_of b inode) ≡ bytes_of a (numbers_of a inode)
    bytes = ap (bytes_of b) numbers ∙ same_bytes (numbers_of a inode) each

    spanned : (k : ℕ) → bytes_of b (take k (numbers_of b inode)) ≡ bytes_of a (take k (numbers_of a inode))
    spanned k = ap (λ ns. bytes_of b (take k ns)) numbers
        ∙ same_bytes (take k (numbers_of a inode)) (all_take IsAlike k (numbers_of a inode) each)

    each_direct : AllByRecursion IsAlike inode.direct
    each_direct = subst (AllByRecursion IsAlike)
        (first_numbers a inode (length inode.direct) (omega arith)
        ∙ take_all (length inode.direct) inode.direct (omega arith))
        (all_take IsAlike (length inode.direct) (numbers_of a inode) each)

    target : bytes_of b (take 1 inode.direct) ≡ bytes_of a (take 1 inode.direct)
    target = same_bytes (take 1 inode.direct) (all_take IsAlike 1 inode.direct each_direct)

    slot : slot_bytes b inode ≡ slot_bytes a inode
    unfolding slot_bytes
    slot = λ i index. take SLOT_BYTES (drop (SLOT_BYTES * index) (spanned (span_of inode) i))

    named : (inodes : ℕ) → named_in inodes b inode ≡ named_in inodes a inode
    unfolding named_in
    named inodes =
        λ i. filter_map (λ index. dirent_in index (read_slot inodes (slot i index))) (slots_of inode)

    mapped : (g : Geometry) → IsMapped g a inode → IsMapped g b inode
    mapped g m = record {
      pointers = ap (list_all (is_data_block_or_none g)) is_preserved.1 ∙ m.pointers;
      numbers = ap (list_all (is_data_block_or_none g)) numbers ∙ m.numbers;
      used = ap (list_all (is_used_pointer b)) is_preserved.1
          ∙ used_alike (pointer_blocks a inode) (same_pointers a b (pointer_blocks a inode) both.0) ∙ m.used;
    }

    of_kind : (g : Geometry) (kind : InodeKind) → IsOfKind g a kind inode → IsOfKind g b kind inode
    of_kind g Regular is = record {
      mapped = mapped g is.mapped;
      zeros = ap (λ bs. is_zeros (drop inode.size bs)) bytes ∙ is.zeros;
    }
    of_kind g Directory is = record {
      mapped = mapped g is.mapped;
      spans = ap (names_first (span_of inode)) numbers ∙ is.spans;
      slots = subst (λ (f : ℕ → List ℕ). All (λ index. IsOk (read_slot g.inodes (f index))) (slots_of inode))
          (sym slot) is.slots;
      once = ap dirent_count (named g.inodes) ∙ is.once ∙ ap length (sym (named g.inodes));
    }
    of_kind g Link is = record { zeros = ap (λ bs. is_zeros (drop inode.size bs)) target ∙ is.zeros }

    body : (inodes : ℕ) (kind : InodeKind) → body_of inodes b kind inode ≡ body_of inodes a kind inode
    body inodes Regular = λ i. model.Regular (take inode.size (bytes i)) (mapped_of (numbers i))
    body inodes Directory =
        λ i. model.Directory (map.from_entries (named inodes i)) (span_of inode) inode.parent
    body inodes Link = λ i. model.Link (take inode.size (target i))

    owned_same : owned_by b (Ok (Some inode)) ≡ owned_by a (Ok (Some inode))
    owned_same = λ i. some (is_preserved.1 i ++ is_preserved.0 i)

  -- its rules, its node and its blocks, where its blocks are the same
  pub same_rules : (g : Geometry) (read : Result (Option Inode) LayoutFault) → AreSame (owned_by a read)
      → IsFile g a read → IsFile g b read
  same_rules g (Ok (Some inode)) same is = of_kind inode same g inode.kind is
  same_rules g (Ok None) same is = is
  same_rules g (Err fault) same is = is

  pub same_file : (inodes : ℕ) (read : Result (Option Inode) LayoutFault) → AreSame (owned_by a read)
      → file_of inodes b read ≡ file_of inodes a read
  same_file inodes (Ok (Some inode)) same =
      ap (λ what. Some (node_with inode what)) (body inode same inodes inode.kind)
  same_file inodes (Ok None) same = refl
  same_file inodes (Err fault) same = refl

  pub same_owned : (read : Result (Option Inode) LayoutFault) → AreSame (owned_by a read)
      → owned_by b read ≡ owned_by a read
  same_owned (Ok (Some inode)) same = owned_same inode same
  same_owned (Ok None) same = refl
  same_owned (Err fault) same = refl

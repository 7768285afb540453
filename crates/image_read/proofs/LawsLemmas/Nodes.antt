-- A file of an image is sound by itself, where its inode and its blocks are as its kind has them, and the names
-- in its slots are names.
use Rattle.std.proofs.Common.{◌≡◌, ℕ, zero, suc, ◌+◌, ◌*◌, ◌/◌, ◌%◌, ◌<◌, ◌≤◌, inl, inr, sym, ap, ◌∙◌, refl, subst}
use Rattle.std.proofs.Common.{Bool, true, false, cond, not, List, [], ◌∷◌, ◌++◌, length, take, get_or, replicate}
use Rattle.std.proofs.Common.{◌&&◌, length-append, length-take, Option, Some, None, Result, Ok, Err, nat_eq, nat_le}
use Rattle.std.proofs.Common.{is_none, arith}
use Rattle.std.specs.FinMap as map
use Rattle.std.specs.FinSet as set
use Rattle.std.specs.List.{flat_map}
use Rattle.std.specs.Cmp.Lexicographic.{nat_list_cmp_total}
use Rattle.std.proofs.lemmas.Bool.{cases_lt}
use Rattle.std.proofs.lemmas.List.{get_or-append-add, get_or-replicate, get_or-take, get_or_append_left, get_or_past}
use Rattle.std.proofs.lemmas.List.{length-take-le}
use Rattle.base.specs.declared.TheConstants.{BLOCK_BYTES, FILE_INDEXES}
use Rattle.base.specs.declared.TheConstants.{LARGEST_FILE, MODE_BITS, MOST_LINKS, MOST_SPAN, NANOSECONDS}
use Rattle.base.specs.declared.TheConstants.{SLOTS_PER_BLOCK, TARGET_BYTES}
use Rattle.disk.specs.Crash.{Image}
use Rattle.nfs_types.specs.Fits.{AreBytes}
use Rattle.nfs_spec.specs.Model.Node.{DirentValue}
use Rattle.nfs_spec.specs.Model.Sound.{SoundBody, SoundBytes, SoundEntries, SoundName, SoundNode, SoundTarget, SoundVerifier}
use Rattle.layout.specs.declared.fault.LayoutFault.{LayoutFault}
use Rattle.layout.specs.declared.geometry.Geometry.{Geometry}
use Rattle.layout.specs.declared.inode.Inode.{Inode}
use Rattle.layout.specs.declared.inode.InodeKind.{InodeKind}
use Rattle.layout.specs.declared.inode.InodeKind.TheVariants.{Directory, Link, Regular}
use Rattle.layout.specs.declared.slot.Slot.{Slot}
use Rattle.layout.specs.Decode.{body_of, bytes_of, content_of, entries_in, dirent_in, mapped_of}
use Rattle.layout.specs.Decode.{named_in, node_with, numbers_of, slot_bytes, span_of}
use Rattle.layout.specs.InodeForm.{SoundInode, is_sound_directory, is_sound_file, is_sound_inode, is_sound_kind}
use Rattle.layout.specs.InodeForm.{is_sound_link, is_sound_map, is_sound_regular, is_time}
use Rattle.layout.specs.SlotForm.{read_slot}
use Rattle.layout.proofs.AllNumbers as all_numbers
use Rattle.layout.proofs.Mapped.{is_some}
use Rattle.inode.proofs.AllTests.{all_five, all_three, all_two, is_less, no_more}
use Rattle.nfs_spec.proofs.ProceduresLemmas.NameChanges.{names_apart}
use Rattle.inode_data.proofs.OneNumber.{is_mapped, none_mapped}
use Rattle.dir.proofs.Distinct.{found_in}
use Rattle.dir.proofs.Members.{from_range, none_some, same}
use Rattle.image_read.specs.Laws.TreeOf.{HasNames}
use Rattle.image_read.proofs.LawsLemmas.SoundKinds.{few_spanned, no_verifier_of_directory, no_verifier_of_link, short_target}
use Rattle.image_read.proofs.LawsLemmas.SoundKinds.{some_target}

module _ (content : Image) (long : (n : ℕ) → length (content n) ≡ BLOCK_BYTES) (are : (n : ℕ) → AreBytes (content n)) where
  -- ---- the bytes of blocks

  by_number : (none : Bool) (n : ℕ) → (length (cond none (replicate BLOCK_BYTES 0) (content n)) ≡ BLOCK_BYTES)
      × AreBytes (cond none (replicate BLOCK_BYTES 0) (content n))
  by_number true n = (refl, zeros)
    where
      zeros : AreBytes (replicate BLOCK_BYTES 0)
      zeros index = elim (cases_lt index BLOCK_BYTES) [
        | inl less ↦ (let is = get_or-replicate {A = ℕ} BLOCK_BYTES index 0 0 less in omega (arith, is))
        | inr past ↦ (let is = get_or_past {X = ℕ} (replicate BLOCK_BYTES 0) index 0 past in omega (arith, is))
      ]
  by_number false n = (long n, are n)

  one_long : (n : ℕ) → length (content_of content n) ≡ BLOCK_BYTES
  one_long n = (by_number (nat_eq n 0) n).0

  byte_in : (numbers : List ℕ) (i j : ℕ) → i < length numbers → j < BLOCK_BYTES
      → get_or (flat_map (content_of content) numbers) (BLOCK_BYTES * i + j) 0
      ≡ get_or (content_of content (get_or numbers i 0)) j 0
  byte_in [] i j less in_one = absurd (omega (arith, less))
  byte_in (n ∷ numbers) zero j less in_one =
      let all = one_long n in
      let at : BLOCK_BYTES * 0 + j ≡ j = omega arith in
      ap (λ k. get_or (content_of content n ++ flat_map (content_of content) numbers) k 0) at
      ∙ get_or_append_left {A = ℕ} (content_of content n) (flat_map (content_of content) numbers) 0 j (omega (arith, all, in_one))
  byte_in (n ∷ numbers) (suc i) j less in_one =
      let all = one_long n in
      let at : BLOCK_BYTES * suc i + j ≡ length (content_of content n) + (BLOCK_BYTES * i + j) = omega (arith, all) in
      ap (λ k. get_or (content_of content n ++ flat_map (content_of content) numbers) k 0) at
      ∙ get_or-append-add {A = ℕ} (content_of content n) (flat_map (content_of content) numbers) (BLOCK_BYTES * i + j) 0
      ∙ byte_in numbers i j (omega (arith, less)) in_one

  all_long : (numbers : List ℕ) → length (bytes_of content numbers) ≡ BLOCK_BYTES * length numbers
  unfolding bytes_of
  all_long [] = refl
  all_long (n ∷ numbers) =
      let rest = all_long numbers in
      let here = one_long n in
      let both = length-append (content_of content n) (flat_map (content_of content) numbers) in
      omega (arith, both, here, rest)

  pub byte_at : (numbers : List ℕ) (offset : ℕ) → offset / BLOCK_BYTES < length numbers
      → get_or (bytes_of content numbers) offset 0
      ≡ get_or (content_of content (get_or numbers (offset / BLOCK_BYTES) 0)) (offset % BLOCK_BYTES) 0
  unfolding bytes_of
  byte_at numbers offset less =
      let index_within : offset ≡ BLOCK_BYTES * (offset / BLOCK_BYTES) + offset % BLOCK_BYTES = omega arith in
      ap (λ k. get_or (flat_map (content_of content) numbers) k 0) index_within
      ∙ byte_in numbers (offset / BLOCK_BYTES) (offset % BLOCK_BYTES) less (omega arith)

  all_bytes : (numbers : List ℕ) → AreBytes (bytes_of content numbers)
  all_bytes numbers offset = elim (cases_lt (offset / BLOCK_BYTES) (length numbers)) [
    | inl less ↦
        (let is = byte_at numbers offset less in
        let small = (by_number (nat_eq (get_or numbers (offset / BLOCK_BYTES) 0) 0)
        (get_or numbers (offset / BLOCK_BYTES) 0)).1 (offset % BLOCK_BYTES) in
        omega (arith, is, small))
    | inr past ↦
        (let count = all_long numbers in
        let is = get_or_past {X = ℕ} (bytes_of content numbers) offset 0 (omega (arith, count, past)) in
        omega (arith, is))
  ]

  taken : (size : ℕ) (numbers : List ℕ) → AreBytes (take size (bytes_of content numbers))
  taken size numbers offset = elim (cases_lt offset size) [
    | inl less ↦
        (let is = get_or-take {A = ℕ} size (bytes_of content numbers) offset 0 less in
        let small = all_bytes numbers offset in omega (arith, is, small))
    | inr past ↦
        (let few = length-take size (bytes_of content numbers) in
        let is = get_or_past {X = ℕ} (take size (bytes_of content numbers)) offset 0 (omega (arith, few, past)) in
        omega (arith, is))
  ]

  -- ---- a regular file

  none_there : (n : ℕ) → is_some n ≡ false → content_of content n ≡ replicate BLOCK_BYTES 0
  none_there n is = ap (λ b. cond b (replicate BLOCK_BYTES 0) (content n)) (turned (nat_eq n 0) is)
    where
      turned : (b : Bool) → not b ≡ false → b ≡ true
      turned true e = refl
      turned false e = cc

  unmapped : (numbers : List ℕ) (size offset : ℕ)
      → set.contains (mapped_of numbers) (offset / BLOCK_BYTES) ≡ false
      → get_or (take size (bytes_of content numbers)) offset 0 ≡ 0
  unmapped numbers size offset none = elim (cases_lt offset size) [
    | inl before ↦ get_or-take {A = ℕ} size (bytes_of content numbers) offset 0 before ∙ whole
    | inr past ↦
        (let few = length-take size (bytes_of content numbers) in
        get_or_past {X = ℕ} (take size (bytes_of content numbers)) offset 0 (omega (arith, few, past)))
  ]
    where
      whole : get_or (bytes_of content numbers) offset 0 ≡ 0
      whole = elim (cases_lt (offset / BLOCK_BYTES) (length numbers)) [
        | inl less ↦
            byte_at numbers offset less
            ∙ ap (λ l. get_or l (offset % BLOCK_BYTES) 0)
            (none_there (get_or numbers (offset / BLOCK_BYTES) 0)
            (sym (is_mapped numbers (offset / BLOCK_BYTES) less) ∙ none))
            ∙ get_or-replicate {A = ℕ} BLOCK_BYTES (offset % BLOCK_BYTES) 0 0 (omega arith)
        | inr past ↦
            (let count = all_long numbers in
            get_or_past {X = ℕ} (bytes_of content numbers) offset 0 (omega (arith, count, past)))
      ]

  pub sound_bytes : (numbers : List ℕ) (size : ℕ) → length numbers ≡ FILE_INDEXES → size ≤ LARGEST_FILE
      → SoundBytes (take size (bytes_of content numbers)) (mapped_of numbers)
  sound_bytes numbers size count few = record {
    each = taken size numbers;
    size = let is = length-take size (bytes_of content numbers) in omega (arith, is, few);
    indexes = λ index is. elim (cases_lt index FILE_INDEXES) [
      | inl less ↦ less
      | inr past ↦ (let no : true ≡ false = sym is ∙ none_mapped numbers index (omega (arith, count, past)) in cc)
    ];
    zeros = λ offset none. unmapped numbers size offset none;
  }

  pub sound_target : (numbers : List ℕ) (size : ℕ) → length numbers ≡ 1 → 1 ≤ size → size ≤ TARGET_BYTES
      → SoundTarget (take size (bytes_of content numbers))
  sound_target numbers size one some few =
      let is = length-take-le size (bytes_of content numbers) (let count = all_long numbers in omega (arith, count, one, few)) in
      record {
        bytes = taken size numbers;
        some = omega (arith, is, some);
        short = omega (arith, is, few);
      }

-- ---- a directory

module _ (inodes : ℕ) (content : Image) (inode : Inode)
    (names : (index : ℕ) (slot : Slot) → index < SLOTS_PER_BLOCK * span_of inode
    → read_slot inodes (slot_bytes content inode index) ≡ Ok (Some slot) → SoundName slot.name) where
  -- the slot in which an entry lies
  pub record LiesIn (name : List ℕ) (dirent : DirentValue) : Type 0 where
    pub less : dirent.slot < SLOTS_PER_BLOCK * span_of inode
    pub is : dirent_in dirent.slot (read_slot inodes (slot_bytes content inode dirent.slot)) ≡ Some (name, dirent)

  lies_at : (index : ℕ) (r : Result (Option Slot) LayoutFault) (name : List ℕ) (dirent : DirentValue)
      → dirent_in index r ≡ Some (name, dirent) → (index ≡ dirent.slot) × ((slot : Slot) × (r ≡ Ok (Some slot)) × (slot.name ≡ name))
  lies_at index (Ok (Some slot)) name dirent e =
      let pair : (slot.name, record { number = slot.number; slot = index }) ≡ (name, dirent) = same _ _ e in
      (ap (λ (p : List ℕ × DirentValue). p.1.slot) pair, (slot, refl, ap (λ (p : List ℕ × DirentValue). p.0) pair))
  lies_at index (Ok None) name dirent e = absurd (none_some (name, dirent) e)
  lies_at index (Err fault) name dirent e = absurd (none_some (name, dirent) e)

  lies_in : (name : List ℕ) (dirent : DirentValue) → map.get (entries_in inodes content inode) name ≡ Some dirent
      → LiesIn name dirent
  unfolding named_in
  lies_in name dirent e =
      let there = found_in nat_list_cmp_total names_apart (named_in inodes content inode) name dirent
      (sym (map.get-from_entries nat_list_cmp_total (named_in inodes content inode) name) ∙ e) in
      let at = from_range (λ index. dirent_in index (read_slot inodes (slot_bytes content inode index))) 0
      (SLOTS_PER_BLOCK * span_of inode) (name, dirent) there in
      let index_within = (lies_at at.0 (read_slot inodes (slot_bytes content inode at.0)) name dirent at.3).0 in
      let end = at.2 in
      record {
        less = omega (arith, end, index_within);
        is = subst (λ k. dirent_in k (read_slot inodes (slot_bytes content inode k)) ≡ Some (name, dirent)) index_within at.3;
      }

  pub sound_entries : span_of inode ≤ MOST_SPAN → SoundEntries (entries_in inodes content inode) (span_of inode)
  sound_entries few = record {
    blocks = few;
    names = λ name dirent e.
        let lies = lies_in name dirent e in
        let slot = (lies_at dirent.slot (read_slot inodes (slot_bytes content inode dirent.slot)) name dirent lies.is).1 in
        subst SoundName slot.2 (names dirent.slot slot.0 lies.less slot.1);
    slots = λ name dirent e. (lies_in name dirent e).less;
    distinct = λ one other a b at_one at_other same_slot.
        let first = (lies_in one a at_one).is in
        let second = (lies_in other b at_other).is in
        let both : Some (one, a) ≡ Some (other, b) =
        sym first ∙ ap (λ k. dirent_in k (read_slot inodes (slot_bytes content inode k))) same_slot ∙ second in
        ap (λ (p : List ℕ × DirentValue). p.0) (same _ _ both);
  }

-- ---- a node

is_none_is : {A : Type 0} (o : Option A) → is_none o ≡ true → o ≡ None
is_none_is None e = refl
is_none_is (Some x) e = cc

module _ (g : Geometry) (content : Image) (long : (n : ℕ) → length (content n) ≡ BLOCK_BYTES)
    (are : (n : ℕ) → AreBytes (content n)) (inode : Inode) (sound : SoundInode g inode) where
  count : length (numbers_of content inode) ≡ FILE_INDEXES
  count = all_numbers.all-length content inode sound.fits.count

  abbrev BodyOf : InodeKind → Type 0
  BodyOf kind = SoundBody (body_of g.inodes content kind inode)
      × SoundVerifier (body_of g.inodes content kind inode) inode.verifier × (is_sound_file inode ≡ true)

  body : (kind : InodeKind) → is_sound_kind g kind inode ≡ true → (kind ≡ Directory → HasNames g content inode) → BodyOf kind
  body Regular good names =
      let three = all_three (is_sound_file inode) (is_sound_map g inode) (is_sound_regular inode) good in
      let rules = all_two (nat_le inode.size LARGEST_FILE) (nat_eq inode.parent 0) three.2 in (
        sound_bytes content long are (numbers_of content inode) inode.size count
            (no_more inode.size LARGEST_FILE rules.0),
        sound.fits.verifier,
        three.0,
      )
  body Directory good names =
      let few = few_spanned g inode good in (
        sound_entries g.inodes content inode (names refl) (omega (arith, few)),
        is_none_is inode.verifier (no_verifier_of_directory g inode good),
        (all_three (is_sound_file inode) (is_sound_map g inode) (is_sound_directory g inode) good).0,
      )
  body Link good names =
      let direct = sound.fits.count in (
        sound_target content long are (take 1 inode.direct) inode.size
            (length-take-le 1 inode.direct (omega (arith, direct)))
            (some_target g inode good) (short_target g inode good),
        is_none_is inode.verifier (no_verifier_of_link g inode good),
        (all_three (is_sound_file inode) (is_sound_map g inode) (is_sound_link inode) good).0,
      )

  pub sound_node : (inode.kind ≡ Directory → HasNames g content inode) → SoundNode (node_with inode (body_of g.inodes content inode.kind inode))
  unfolding is_sound_inode
  sound_node names =
      let is = body inode.kind sound.good names in
      let last = all_two (nat_le inode.mode MODE_BITS && nat_le 1 inode.nlink && nat_le inode.nlink MOST_LINKS
      && is_time inode.atime && is_time inode.mtime) (is_time inode.ctime) is.2 in
      let rules = all_five (nat_le inode.mode MODE_BITS) (nat_le 1 inode.nlink) (nat_le inode.nlink MOST_LINKS)
      (is_time inode.atime) (is_time inode.mtime) last.0 in
      record {
        mode = no_more inode.mode MODE_BITS rules.0;
        uid = sound.fits.uid;
        gid = sound.fits.gid;
        nlink = no_more inode.nlink MOST_LINKS rules.2;
        atime = record { seconds = sound.fits.atime.0; nanoseconds = is_less inode.atime.nanoseconds NANOSECONDS rules.3 };
        mtime = record { seconds = sound.fits.mtime.0; nanoseconds = is_less inode.mtime.nanoseconds NANOSECONDS rules.4 };
        ctime = record { seconds = sound.fits.ctime.0; nanoseconds = is_less inode.ctime.nanoseconds NANOSECONDS last.1 };
        stamp = record { boot = sound.fits.boot; transaction = sound.fits.transaction };
        verifier = is.1;
        body = is.0;
      }

-- The names of a directory of which a slot got other bytes.
use Rattle.std.proofs.Common.{◌≡◌, ℕ, zero, suc, ◌+◌, ◌*◌, ◌/◌, ◌<◌, ◌≤◌, inl, inr, sym, ap, ◌∙◌, refl, subst}
use Rattle.std.proofs.Common.{Bool, true, false, cond, not, List, [], ◌∷◌, length, take, drop, get_or}
use Rattle.std.proofs.Common.{nat_eq, IsOk, Option, Ok, arith}
use Rattle.std.specs.Cmp.Lexicographic.{slice_cmp}
use Rattle.std.specs.FinMap as map
use Rattle.std.specs.List.{cons_option, flat_map, list_all}
use Rattle.std.specs.Ordering.{nat_cmp}
use Rattle.std.proofs.lemmas.Bool.{cases_eq, eq-eqb}
use Rattle.std.proofs.lemmas.List.{get_or-take, length-take-le}
use Rattle.std.proofs.lemmas.List.FromFn.{get_or-range_with_len, length-range_with_len}
use Rattle.std.proofs.lemmas.List.Elements.{All-from_get_or}
use Rattle.base.specs.declared.TheConstants.{BLOCK_BYTES, SLOTS_PER_BLOCK}
use Rattle.disk.specs.Crash.{Image}
use Rattle.layout.specs.declared.geometry.Geometry.{Geometry}
use Rattle.layout.specs.declared.inode.Inode.{Inode}
use Rattle.layout.specs.declared.slot.Slot.{Slot}
use Rattle.layout.specs.declared.slot.TheConstants.{SLOT_BYTES}
use Rattle.layout.specs.Decode.{IsDirectory, bytes_of, content_of, entries_in, dirent_in, is_used_pointer, named_in}
use Rattle.layout.specs.Decode.{numbers_of, pointer_blocks}
use Rattle.layout.specs.Decode.{slot_bytes, slots_of, span_of}
use Rattle.layout.specs.InodeForm.{is_data_block_or_none, names_first}
use Rattle.layout.specs.SlotForm.{read_slot}
use Rattle.layout.proofs.ChangedNumbers as changed
use Rattle.layout.proofs.ChangedNumbers.{ArePointersSame}
use Rattle.layout.proofs.Written.{not_same}
use Rattle.inode.proofs.AllTests.{all_two}
use Rattle.dir.specs.Slots.{Lying, slot_at}
use Rattle.dir.proofs.FoundIn.{entries}
use Rattle.inode_data.proofs.Owned.{each_index_within, used_alike}
use Rattle.dir_writes.specs.Clearing.{HasOnce, slot_block}
use Rattle.dir_writes.specs.SlotWrites.{slotted}
use Rattle.dir_writes.proofs.Lost.{IsOnce}
use Rattle.dir_writes.proofs.SlotPut.{itself, other_block, others}

pub some_at : (numbers : List ℕ) (index : ℕ) → index < length numbers
    → list_all (λ number. not (nat_eq number 0)) numbers ≡ true → nat_eq (get_or numbers index 0) 0 ≡ false
some_at [] index less all = absurd (omega (arith, less))
some_at (n ∷ numbers) zero less all =
    negated (nat_eq n 0) (all_two (not (nat_eq n 0)) (list_all (λ number. not (nat_eq number 0)) numbers) all).0
  where
    negated : (b : Bool) → not b ≡ true → b ≡ false
    negated true e = cc
    negated false e = refl
some_at (n ∷ numbers) (suc index) less all =
    some_at numbers index (omega (arith, less))
    (all_two (not (nat_eq n 0)) (list_all (λ number. not (nat_eq number 0)) numbers) all).1

pub alike_entries : (lies other : Lying) (a n : ℕ) → ((k : ℕ) → a ≤ k → k < a + n → lies k ≡ other k)
    → entries lies a n ≡ entries other a n
alike_entries lies other a zero same = refl
alike_entries lies other a (suc n) same = λ i.
    cons_option (dirent_in a (same a (omega arith) (omega arith) i))
    (alike_entries lies other (a + 1) n (λ k low less. same k (omega (arith, low)) (omega (arith, less))) i)

-- slots of which one is now this
abbrev pub relaid : Lying → ℕ → Option Slot → Lying
relaid lies s read k = cond (nat_eq k s) (Ok read) (lies k)

module _ (g : Geometry) (content : Image) (inode : Inode) (s : ℕ) (bytes : List ℕ) (read : Option Slot)
    (count : length bytes ≡ SLOT_BYTES) (reads : read_slot g.inodes bytes ≡ Ok read)
    (long : (block : ℕ) → length (content block) ≡ BLOCK_BYTES)
    (spans : span_of inode ≤ length (numbers_of content inode)) (dir : IsDirectory g content inode)
    (less : s < SLOTS_PER_BLOCK * span_of inode) (once : HasOnce content inode (slot_block content inode s)) where
  abbrev numbers : List ℕ
  numbers = numbers_of content inode

  abbrev spanned : List ℕ
  spanned = take (span_of inode) numbers

  abbrev b : ℕ
  b = slot_block content inode s

  abbrev after : Image
  after = slotted content inode s bytes

  abbrev lies : Lying
  lies = slot_at g.inodes content inode

  abbrev end : ℕ
  end = SLOTS_PER_BLOCK * span_of inode

  spanned_long : length spanned ≡ span_of inode
  spanned_long = length-take-le (span_of inode) numbers spans

  index : s / SLOTS_PER_BLOCK < span_of inode
  index = omega (arith, less)

  b_is : b ≡ get_or spanned (s / SLOTS_PER_BLOCK) 0
  b_is = sym (get_or-take (span_of inode) numbers (s / SLOTS_PER_BLOCK) 0 index)

  some : nat_eq b 0 ≡ false
  some = ap (λ n. nat_eq n 0) b_is
      ∙ some_at spanned (s / SLOTS_PER_BLOCK) (let all = spanned_long in let low = index in omega (arith, all, low))
      (all_two (list_all (λ n. not (nat_eq n 0)) spanned)
      (list_all (λ n. nat_eq n 0) (drop (span_of inode) numbers)) dir.spans).0

  within : s / SLOTS_PER_BLOCK < length spanned
  within = let all = spanned_long in let low = index in omega (arith, all, low)

  exclusives : (j : ℕ) → j < length spanned → get_or spanned j 0 ≡ b → j ≡ s / SLOTS_PER_BLOCK
  exclusives j low e =
      let all = spanned_long in let first = index in
      once.index j (s / SLOTS_PER_BLOCK) (omega (arith, low, all, spans)) (omega (arith, first, spans))
      (sym (get_or-take (span_of inode) numbers j 0 (omega (arith, low, all))) ∙ e) refl

  pointers_preserved : ArePointersSame content after (pointer_blocks content inode)
  pointers_preserved =
      each_index_within (λ number. nat_eq number 0 ≡ false → after number ≡ content number) (pointer_blocks content inode)
      (λ i low mapped. other_block content spanned s b bytes count long b_is some within exclusives
      (get_or (pointer_blocks content inode) i 0) (once.pointer i low))

  pub same_numbers : numbers_of after inode ≡ numbers
  same_numbers = (changed.same_numbers content after inode pointers_preserved).0

  pub same_pointers : pointer_blocks after inode ≡ pointer_blocks content inode
  same_pointers = (changed.same_numbers content after inode pointers_preserved).1

  -- ---- its slots

  bytes_after : (k : ℕ) → slot_bytes after inode k
      ≡ take SLOT_BYTES (drop (SLOT_BYTES * k) (flat_map (content_of after) spanned))
  unfolding slot_bytes bytes_of
  bytes_after k = ap (λ ns. take SLOT_BYTES (drop (SLOT_BYTES * k)
      (flat_map (content_of after) (take (span_of inode) ns)))) same_numbers

  bytes_before : (k : ℕ) → slot_bytes content inode k
      ≡ take SLOT_BYTES (drop (SLOT_BYTES * k) (flat_map (content_of content) spanned))
  unfolding slot_bytes bytes_of
  bytes_before k = refl

  alike : (k : ℕ) → k < end → slot_at g.inodes after inode k ≡ relaid lies s read k
  alike k low = elim (cases_eq k s) [
    | inl same ↦
        ap (λ j. slot_at g.inodes after inode j) same
        ∙ ap (read_slot g.inodes) (bytes_after s
        ∙ itself content spanned s b bytes count long b_is some within exclusives)
        ∙ reads
        ∙ sym (ap (λ t. cond t (Ok read) (lies k)) (eq-eqb k s same))
    | inr differ ↦
        ap (read_slot g.inodes) (bytes_after k
        ∙ others content spanned s b bytes count long b_is some within exclusives k
        (let all = spanned_long in omega (arith, low, all)) differ ∙ sym (bytes_before k))
        ∙ sym (ap (λ t. cond t (Ok read) (lies k)) (not_same k s differ))
  ]

  pub named : named_in g.inodes after inode ≡ entries (relaid lies s read) 0 end
  unfolding named_in
  named = alike_entries (slot_at g.inodes after inode) (relaid lies s read) 0 end
      (λ k low high. alike k (omega (arith, high)))

  pub was_once : IsOnce (entries lies 0 end)
  unfolding named_in
  was_once = dir.once

  pub made_of : entries_in g.inodes after inode
      ≡ map.from_entries {R = slice_cmp nat_cmp} (entries (relaid lies s read) 0 end)
  made_of = ap (λ es. map.from_entries {R = slice_cmp nat_cmp} es) named

  pub was_made : entries_in g.inodes content inode ≡ map.from_entries {R = slice_cmp nat_cmp} (entries lies 0 end)
  unfolding named_in
  was_made = refl

  slot_ok : (k : ℕ) → k < end → IsOk (slot_at g.inodes after inode k)
  slot_ok k low = subst (λ r. IsOk r) (sym (alike k low)) (by_test (nat_eq k s))
    where
      all : length (slots_of inode) ≡ end
      all = length-range_with_len 0 end

      was : IsOk (lies k)
      was = subst (λ j. IsOk (lies j)) (get_or-range_with_len 0 end k 0 low ∙ plus)
          (dir.slots k 0 (let count = all in omega (arith, low, count)))
        where
          plus : 0 + k ≡ k
          plus = omega arith

      by_test : (t : Bool) → IsOk (cond t (Ok read) (lies k))
      by_test true = refl
      by_test false = was

  pub rules : IsOnce (entries (relaid lies s read) 0 end) → IsDirectory g after inode
  rules is_once = record {
    mapped = record {
      pointers = ap (list_all (is_data_block_or_none g)) same_pointers ∙ dir.mapped.pointers;
      numbers = ap (list_all (is_data_block_or_none g)) same_numbers ∙ dir.mapped.numbers;
      used = ap (list_all (is_used_pointer after)) same_pointers
          ∙ used_alike content after (pointer_blocks content inode)
          (changed.same_pointers content after (pointer_blocks content inode) pointers_preserved) ∙ dir.mapped.used;
    };
    spans = ap (names_first (span_of inode)) same_numbers ∙ dir.spans;
    slots = All-from_get_or (λ k. IsOk (read_slot g.inodes (slot_bytes after inode k))) (slots_of inode) 0
        (λ k low.
        let count = length-range_with_len 0 end in
        let inside : k < end = omega (arith, low, count) in
        subst (λ j. IsOk (slot_at g.inodes after inode j))
        (sym (get_or-range_with_len 0 end k 0 inside ∙ plus k)) (slot_ok k inside));
    once = subst (λ es. map.len (map.from_entries {R = slice_cmp nat_cmp} es) ≡ length es) (sym named) is_once;
  }
    where
      plus : (k : ℕ) → 0 + k ≡ k
      plus k = omega arith

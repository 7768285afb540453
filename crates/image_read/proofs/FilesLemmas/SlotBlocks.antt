-- The slots of directories, one after another and block by block.
use Rattle.std.proofs.Common.{◌≡◌, ℕ, zero, suc, ◌+◌, ◌-◌, ◌*◌, ◌<◌, inl, inr, sym, ap, ◌∙◌, refl, subst, true}
use Rattle.std.proofs.Common.{◌&&◌, List, [], ◌∷◌, ◌++◌, length, take, drop, get_or, nat_lt, Option, Some, None, Result, Ok, IsOk, arith}
use Rattle.std.specs.List.{cons_option, filter_map, list_all, range_with_len}
use Rattle.std.proofs.lemmas.Bool.{cases_lt, lt-ltb}
use Rattle.std.proofs.lemmas.List.{append-nil, append_assoc}
use Rattle.std.proofs.lemmas.List.Folds.{list_all-append}
use Rattle.std.proofs.lemmas.List.Elements.{filter_map-append}
use Rattle.base.specs.declared.TheConstants.{BLOCK_BYTES, SLOTS_PER_BLOCK}
use Rattle.disk.specs.Crash.{Image}
use Rattle.layout.specs.declared.fault.LayoutFault.{LayoutFault}
use Rattle.layout.specs.declared.slot.Slot.{Slot}
use Rattle.layout.specs.declared.slot.TheConstants.{SLOT_BYTES}
use Rattle.layout.specs.Decode.{bytes_of, content_of}
use Rattle.layout.specs.SlotForm.{read_slot}
use Rattle.inode.proofs.Pieces.{in_block}
use Rattle.image_read.specs.Files.Slots.{ArePushed, AreSlots, HasSlots, IsPushed, in_use, slot_at, used_slots}

-- ---- numbers in a row

pub range_more : (a n : ℕ) → range_with_len a (suc n) ≡ range_with_len a n ++ (a + n) ∷ []
range_more a zero = let same : a ≡ a + 0 = omega arith in ap (λ k. k ∷ []) same
range_more a (suc n) =
    let same : a + 1 + n ≡ a + suc n = omega arith in
    ap (λ l. a ∷ l) (range_more (a + 1) n ∙ ap (λ k. range_with_len (a + 1) n ++ k ∷ []) same)

range_both : (a n m : ℕ) → range_with_len a (n + m) ≡ range_with_len a n ++ range_with_len (a + n) m
range_both a zero m =
    let none : 0 + m ≡ m = omega arith in
    let same : a ≡ a + 0 = omega arith in
    ap (range_with_len a) none ∙ ap (λ k. range_with_len k m) same
range_both a (suc n) m =
    let one : suc n + m ≡ suc (n + m) = omega arith in
    let same : a + 1 + n ≡ a + suc n = omega arith in
    ap (range_with_len a) one
    ∙ ap (λ l. a ∷ l) (range_both (a + 1) n m ∙ ap (λ k. range_with_len (a + 1) n ++ range_with_len k m) same)

same_used : (f h : ℕ → Option Slot) (a b n : ℕ) → ((i : ℕ) → i < n → f (a + i) ≡ h (b + i))
    → filter_map f (range_with_len a n) ≡ filter_map h (range_with_len b n)
same_used f h a b zero same = refl
same_used f h a b (suc n) same =
    let first : a ≡ a + 0 = omega arith in
    let other : b + 0 ≡ b = omega arith in
    let here : f a ≡ h b = ap f first ∙ same 0 (omega arith) ∙ ap h other in
    let rest : filter_map f (range_with_len (a + 1) n) ≡ filter_map h (range_with_len (b + 1) n) =
    same_used f h (a + 1) (b + 1) n (λ i less. next f a i ∙ same (suc i) (omega (arith, less)) ∙ sym (next h b i)) in
    λ i. cons_option (here i) (rest i)
  where
    next : (k : ℕ → Option Slot) (c i : ℕ) → k (c + 1 + i) ≡ k (c + suc i)
    next k c i = let same : c + 1 + i ≡ c + suc i = omega arith in ap k same

module _ (inodes : ℕ) (bytes : List ℕ) (old : List Slot) where
  -- a slot that is in use comes behind the others
  pub some_pushed : (new : List Slot) (slot : Slot)
      → ◌≡◌ {A = Result (Option Slot) LayoutFault} (Ok (Some slot)) (read_slot inodes bytes)
      → new ≡ old ++ slot ∷ [] → slot.number < inodes → IsPushed inodes bytes old new
  some_pushed new slot is pushed less =
      let small = lt-ltb slot.number inodes less in
      record {
        is = subst (λ r. IsOk r) is refl;
        used = pushed ∙ ap (λ r. old ++ cons_option (in_use r) []) is;
        within = λ each.
            ap (list_all (λ (s : Slot). nat_lt s.number inodes)) pushed
            ∙ list_all-append (λ (s : Slot). nat_lt s.number inodes) old (slot ∷ [])
            ∙ (λ i. each i && (small i && true));
      }

  -- a free one doesn't
  pub free_pushed : ◌≡◌ {A = Result (Option Slot) LayoutFault} (Ok None) (read_slot inodes bytes)
      → IsPushed inodes bytes old old
  free_pushed is = record {
    is = subst (λ r. IsOk r) is refl;
    used = sym (append-nil old) ∙ ap (λ r. old ++ cons_option (in_use r) []) is;
    within = λ each. each;
  }

module _ (inodes : ℕ) (block : List ℕ) where
  pub none_pushed : (old : List Slot) → ArePushed inodes block 0 old old
  unfolding used_slots
  none_pushed old = record {
    are = λ index less. absurd (omega (arith, less));
    used = sym (append-nil old);
    within = λ all. all;
  }

  pub one_pushed : (count : ℕ) (old middle new : List Slot) (bytes : List ℕ) → ArePushed inodes block count old middle
      → bytes ≡ take SLOT_BYTES (drop (SLOT_BYTES * count) block) → IsPushed inodes bytes middle new
      → ArePushed inodes block (count + 1) old new
  unfolding used_slots
  one_pushed count old middle new bytes before is pushed =
      let one : count + 1 ≡ suc count = omega arith in
      let here : read_slot inodes bytes ≡ slot_at inodes block count = ap (read_slot inodes) is in
      let all : used_slots inodes block (count + 1)
      ≡ used_slots inodes block count ++ cons_option (in_use (slot_at inodes block count)) [] =
      ap (λ n. filter_map (λ index. in_use (slot_at inodes block index)) (range_with_len 0 n)) one
      ∙ ap (filter_map (λ index. in_use (slot_at inodes block index))) (range_more 0 count)
      ∙ filter_map-append (λ index. in_use (slot_at inodes block index)) (range_with_len 0 count) ((0 + count) ∷ [])
      ∙ ap (λ n. used_slots inodes block count ++ cons_option (in_use (slot_at inodes block n)) []) (zero_add count) in
      record {
        are = λ index less. elim (cases_lt index count) [
          | inl sooner ↦ before.are index sooner
          | inr past ↦
              let at : count ≡ index = omega (arith, less, past) in
              subst (λ r. IsOk r) (here ∙ ap (slot_at inodes block) at) pushed.is
        ];
        used = pushed.used ∙ (λ i. before.used i ++ cons_option (in_use (here i)) [])
            ∙ append_assoc old (used_slots inodes block count) (cons_option (in_use (slot_at inodes block count)) [])
            ∙ ap (λ l. old ++ l) (sym all);
        within = λ each. pushed.within (before.within each);
      }
    where
      zero_add : (count : ℕ) → 0 + count ≡ count
      zero_add count = omega arith

  pub refused_there : (count index_within : ℕ) (bytes : List ℕ) → index_within < count
      → bytes ≡ take SLOT_BYTES (drop (SLOT_BYTES * index_within) block) → (IsOk (read_slot inodes bytes) → ⊥)
      → AreSlots inodes block count → ⊥
  refused_there count index_within bytes less is refused are =
      refused (subst (λ r. IsOk r) (sym (ap (read_slot inodes) is)) (are index_within less))

module _ (inodes : ℕ) (content : Image) (long : (number : ℕ) → length (content number) ≡ BLOCK_BYTES)
    (numbers : List ℕ) where
  abbrev all : List ℕ
  all = bytes_of content numbers

  pub no_slots : HasSlots inodes (bytes_of content numbers) 0 []
  unfolding used_slots
  no_slots = record { are = λ index less. absurd (omega (arith, less)); used = refl }

  module _ (index_within : ℕ) (less : index_within < length numbers) (block : List ℕ)
      (is : block ≡ content_of content (get_or numbers index_within 0)) where
    -- a slot is that of its place in its block
    there : (slot : ℕ) → slot < SLOTS_PER_BLOCK
        → slot_at inodes all (SLOTS_PER_BLOCK * index_within + slot) ≡ slot_at inodes block slot
    unfolding bytes_of
    there slot within =
        let offset : SLOT_BYTES * (SLOTS_PER_BLOCK * index_within + slot) ≡ BLOCK_BYTES * index_within + SLOT_BYTES * slot = omega arith in
        ap (λ k. read_slot inodes (take SLOT_BYTES (drop k (bytes_of content numbers)))) offset
        ∙ ap (read_slot inodes) (in_block content long numbers index_within (SLOT_BYTES * slot) SLOT_BYTES less
        (omega (arith, within)))
        ∙ ap (λ b. slot_at inodes b slot) (sym is)

    pub more_slots : (old new : List Slot) → HasSlots inodes all (SLOTS_PER_BLOCK * index_within) old
        → ArePushed inodes block SLOTS_PER_BLOCK old new → HasSlots inodes all (SLOTS_PER_BLOCK * (index_within + 1)) new
    unfolding used_slots
    more_slots old new before pushed =
        let f : ℕ → Option Slot = λ index. in_use (slot_at inodes all index) in
        let h : ℕ → Option Slot = λ index. in_use (slot_at inodes block index) in
        let count : SLOTS_PER_BLOCK * (index_within + 1) ≡ SLOTS_PER_BLOCK * index_within + SLOTS_PER_BLOCK = omega arith in
        record {
          are = λ index within. elim (cases_lt index (SLOTS_PER_BLOCK * index_within)) [
            | inl sooner ↦ before.are index sooner
            | inr past ↦
                let slot : ℕ = index - SLOTS_PER_BLOCK * index_within in
                let small : slot < SLOTS_PER_BLOCK = omega (arith, within, past) in
                let at : SLOTS_PER_BLOCK * index_within + slot ≡ index = omega (arith, past) in
                subst (λ r. IsOk r) (sym (there slot small) ∙ ap (slot_at inodes all) at) (pushed.are slot small)
          ];
          used =
              pushed.used ∙ ap (λ l. l ++ used_slots inodes block SLOTS_PER_BLOCK) before.used
              ∙ ap (λ l. used_slots inodes all (SLOTS_PER_BLOCK * index_within) ++ l)
              (sym (same_used f h (0 + SLOTS_PER_BLOCK * index_within) 0 SLOTS_PER_BLOCK (λ i within.
              ap f (moved index_within i) ∙ ap in_use (there i within) ∙ ap h (index_from_zero i))))
              ∙ sym (ap (λ n. filter_map f (range_with_len 0 n)) count
              ∙ ap (filter_map f) (range_both 0 (SLOTS_PER_BLOCK * index_within) SLOTS_PER_BLOCK)
              ∙ filter_map-append f (range_with_len 0 (SLOTS_PER_BLOCK * index_within))
              (range_with_len (0 + SLOTS_PER_BLOCK * index_within) SLOTS_PER_BLOCK));
        }
      where
        moved : (index_within i : ℕ) → 0 + SLOTS_PER_BLOCK * index_within + i ≡ SLOTS_PER_BLOCK * index_within + i
        moved index_within i = omega arith

        index_from_zero : (i : ℕ) → i ≡ 0 + i
        index_from_zero i = omega arith

    -- where the layout refuses none of all slots, it refuses none of a block
    pub block_too : AreSlots inodes all (SLOTS_PER_BLOCK * length numbers) → AreSlots inodes block SLOTS_PER_BLOCK
    block_too are slot within =
        subst (λ r. IsOk r) (there slot within) (are (SLOTS_PER_BLOCK * index_within + slot) (omega (arith, less, within)))

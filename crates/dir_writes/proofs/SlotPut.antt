-- The bytes of a directory's slots in blocks in which one got these bytes.
use Rattle.std.proofs.Common.{◌≡◌, ℕ, ◌+◌, ◌*◌, ◌/◌, ◌%◌, ◌<◌, ◌≤◌, inl, inr, sym, ap, ◌∙◌, refl, Bool, true}
use Rattle.std.proofs.Common.{false}
use Rattle.std.proofs.Common.{cond, List, length, take, drop, get_or, replicate, nat_eq, arith}
use Rattle.std.specs.List.{flat_map}
use Rattle.std.proofs.lemmas.Bool.{cases_eq, cases_lt, eq-eqb}
use Rattle.base.specs.declared.TheConstants.{BLOCK_BYTES, SLOTS_PER_BLOCK}
use Rattle.disk.specs.Crash.{Image}
use Rattle.objects.specs.Spliced.{spliced}
use Rattle.objects.proofs.Splices as splices
use Rattle.layout.specs.declared.slot.TheConstants.{SLOT_BYTES}
use Rattle.layout.specs.Decode.{content_of}
use Rattle.layout.specs.Parts.{put}
use Rattle.layout.proofs.Written.{not_same}
use Rattle.inode.proofs.Pieces.{in_block}

module _ (content : Image) (numbers : List ℕ) (s b : ℕ) (bytes : List ℕ) (count : length bytes ≡ SLOT_BYTES)
    (long : (n : ℕ) → length (content n) ≡ BLOCK_BYTES)
    (b_is : b ≡ get_or numbers (s / SLOTS_PER_BLOCK) 0) (some : nat_eq b 0 ≡ false)
    (within : s / SLOTS_PER_BLOCK < length numbers)
    (once : (j : ℕ) → j < length numbers → get_or numbers j 0 ≡ b → j ≡ s / SLOTS_PER_BLOCK) where
  abbrev offset : ℕ
  offset = SLOT_BYTES * (s % SLOTS_PER_BLOCK)

  abbrev after : Image
  after = put content b (spliced (content b) offset bytes)

  has_space : offset + length bytes ≤ length (content b)
  has_space = let all = long b in let few = count in omega (arith, all, few)

  long_after : (n : ℕ) → length (after n) ≡ BLOCK_BYTES
  long_after n = by_test (nat_eq n b)
    where
      by_test : (t : Bool) → length (cond t (spliced (content b) offset bytes) (content n)) ≡ BLOCK_BYTES
      by_test true = splices.spliced-length (content b) bytes offset has_space ∙ long b
      by_test false = long n

  abbrev part : Image → ℕ → List ℕ
  part c k = take SLOT_BYTES (drop (SLOT_BYTES * k) (flat_map (content_of c) numbers))

  abbrev piece : List ℕ → ℕ → List ℕ
  piece block k = take SLOT_BYTES (drop (SLOT_BYTES * (k % SLOTS_PER_BLOCK)) block)

  at_slot_within : (c : Image) → ((n : ℕ) → length (c n) ≡ BLOCK_BYTES) → (k : ℕ)
      → k / SLOTS_PER_BLOCK < length numbers
      → part c k ≡ piece (content_of c (get_or numbers (k / SLOTS_PER_BLOCK) 0)) k
  at_slot_within c longs k less =
      let offsets_agree : SLOT_BYTES * k ≡ BLOCK_BYTES * (k / SLOTS_PER_BLOCK) + SLOT_BYTES * (k % SLOTS_PER_BLOCK) =
      omega arith in
      ap (λ p. take SLOT_BYTES (drop p (flat_map (content_of c) numbers))) offsets_agree
      ∙ in_block c longs numbers (k / SLOTS_PER_BLOCK) (SLOT_BYTES * (k % SLOTS_PER_BLOCK)) SLOT_BYTES less
      (omega arith)

  here : content_of after b ≡ spliced (content b) offset bytes
  here = ap (λ t. cond t (replicate BLOCK_BYTES 0) (after b)) some
      ∙ ap (λ t. cond t (spliced (content b) offset bytes) (content b)) (eq-eqb b b refl)

  before : content_of content b ≡ content b
  before = ap (λ t. cond t (replicate BLOCK_BYTES 0) (content b)) some

  pub other_block : (n : ℕ) → (n ≡ b → ⊥) → after n ≡ content n
  other_block n not = ap (λ t. cond t (spliced (content b) offset bytes) (content n)) (not_same n b not)

  pub itself : part after s ≡ bytes
  itself =
      at_slot_within after long_after s within ∙ ap (λ n. piece (content_of after n) s) (sym b_is)
      ∙ ap (λ block. piece block s) here
      ∙ ap (λ n. take n (drop offset (spliced (content b) offset bytes))) (sym count)
      ∙ splices.there (content b) bytes offset has_space

  log_unchanged : (k : ℕ) → k / SLOTS_PER_BLOCK ≡ s / SLOTS_PER_BLOCK → (k ≡ s → ⊥)
      → piece (spliced (content b) offset bytes) k ≡ piece (content b) k
  log_unchanged k same not = elim (cases_lt (k % SLOTS_PER_BLOCK) (s % SLOTS_PER_BLOCK)) [
    | inl low ↦ splices.ahead (content b) bytes offset has_space (SLOT_BYTES * (k % SLOTS_PER_BLOCK)) SLOT_BYTES
        (omega (arith, low))
    | inr high ↦ splices.behind (content b) bytes offset has_space (SLOT_BYTES * (k % SLOTS_PER_BLOCK)) SLOT_BYTES
        (let few = count in
        let more : s % SLOTS_PER_BLOCK + 1 ≤ k % SLOTS_PER_BLOCK =
        later (s % SLOTS_PER_BLOCK) (k % SLOTS_PER_BLOCK) high (λ is. not (omega (arith, is, same))) in
        omega (arith, more, few))
  ]
    where
      later : (a b : ℕ) → a ≤ b → (b ≡ a → ⊥) → a + 1 ≤ b
      later a b low not = omega (arith, low, not)

  at_index : (k : ℕ) → k / SLOTS_PER_BLOCK < length numbers → (k ≡ s → ⊥)
      → piece (content_of after (get_or numbers (k / SLOTS_PER_BLOCK) 0)) k
      ≡ piece (content_of content (get_or numbers (k / SLOTS_PER_BLOCK) 0)) k
  at_index k less not = elim (cases_eq (k / SLOTS_PER_BLOCK) (s / SLOTS_PER_BLOCK)) [
    | inl same ↦
        let is : get_or numbers (k / SLOTS_PER_BLOCK) 0 ≡ b = ap (λ j. get_or numbers j 0) same ∙ sym b_is in
        ap (λ n. piece (content_of after n) k) is ∙ ap (λ block. piece block k) here ∙ log_unchanged k same not
        ∙ ap (λ block. piece block k) (sym before) ∙ ap (λ n. piece (content_of content n) k) (sym is)
    | inr differ ↦
        ap (λ block. piece (cond (nat_eq (get_or numbers (k / SLOTS_PER_BLOCK) 0) 0) (replicate BLOCK_BYTES 0)
        block) k) (other_block (get_or numbers (k / SLOTS_PER_BLOCK) 0)
        (λ is. differ (once (k / SLOTS_PER_BLOCK) less is)))
  ]

  pub others : (k : ℕ) → k / SLOTS_PER_BLOCK < length numbers → (k ≡ s → ⊥) → part after k ≡ part content k
  others k less not =
      at_slot_within after long_after k less ∙ at_index k less not ∙ sym (at_slot_within content long k less)

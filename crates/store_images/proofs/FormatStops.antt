-- What each stop leaves while an image is made.
use Rattle.std.proofs.Common.{arith, ◌≡◌, ◌∙◌, refl, sym, ap, subst, ℕ, ◌+◌, ◌<◌, ◌≤◌, ◌⊎◌, inl, inr, List}
use Rattle.std.proofs.Common.{[], ◌∷◌}
use Rattle.std.proofs.Common.{◌++◌, Ok, Err, Result, Bool, true, false, ◌||◌, ◌&&◌, nat_eq, length, replicate}
use Rattle.std.specs.List.{Contains}
use Rattle.std.proofs.lemmas.Bool.{cases_lt, cases_order}
use Rattle.std.proofs.lemmas.Bool.Decides.{nat_tests}
use Rattle.std.specs.Prelude.{OnOk, if◌then◌else◌}
use Rattle.std.proofs.lemmas.List.Elements.{All-contains, Contains-push_cases}
use Rattle.base.specs.declared.TheConstants.{BLOCK_BYTES, FIRST_HOME_BLOCK, LOG_HEADER_BLOCK, START_BLOCK}
use Rattle.base.specs.declared.TheConstants.{SUPER_BLOCK}
use Rattle.nfs_types.specs.declared.ctx.Moment.{Moment}
use Rattle.disk.specs.Blocks.{AreBlocks, IsBlock}
use Rattle.disk.specs.Crash.{Image, IsAtRest, IsCrashImage}
use Rattle.disk.specs.Device.{Appends, Content, Device, HasSettled, HasWritten, OneLater, current, is_on}
use Rattle.disk.specs.Device.{newest_only}
use Rattle.disk.specs.Device.{Settles}
use Rattle.disk.specs.declared.block.Side.{Side}
use Rattle.disk.specs.declared.block.Side.TheVariants.{Home, Log}
use Rattle.disk.specs.declared.device.Failed.{Failed}
use Rattle.layout.specs.declared.geometry.Geometry.{Geometry}
use Rattle.layout.specs.Fresh.{IsFresh, fresh}
use Rattle.layout.specs.Geometry.{data_at, inode_bitmap_at, table_at}
use Rattle.layout.specs.SuperForm.{HasMagic}
use Rattle.layout.proofs.FreshBytes.{is_fresh}
use Rattle.circ.proofs.LogLemmas.Contents.{one_member}
use Rattle.store_promise.specs.Openings.{HasFailedToFormat, IsFormatted, IsLeftByFormat}
use Rattle.store_promise.specs.Openings.{IsMaking}
use Rattle.store_images.specs.Formatting.{HasWrittenUpTo, IsBlank, IsMade, IsMadeBehind, LeavesSuper}
use Rattle.store_images.specs.Formatting.{Stops, is_slot}
use Rattle.store_promise.proofs.Later.{past_more, past_none, past_one}
use Rattle.store_images.proofs.Later.{blocks_before, earlier, one_stop_more, some_image}
use Rattle.store_images.proofs.Formatted.{made_behind, made_on, made_still, settles}

abbrev zeros : Content
zeros = replicate BLOCK_BYTES 0

-- a block of zeros has no magic number
no_magic : (content : Content) → content ≡ zeros → HasMagic content → ⊥
no_magic content is magic = zeros_have_none (subst HasMagic is magic)
  where
    zeros_have_none : HasMagic zeros → ⊥
    zeros_have_none magic = cc

-- ---- the super block stays

pub super_stays : (now : Device) → LeavesSuper now now
super_stays now = record {
  past = past_none now;
  super = λ clock above below.
      ap (λ n. now.contents n SUPER_BLOCK) (same clock above below);
}
  where
    same : (clock : ℕ) → now.clock ≤ clock → clock ≤ now.clock → clock ≡ now.clock
    same clock above below = omega (arith, above, below)

pub super_stays_on : (old now next : Device) → LeavesSuper old now → OneLater now next
    → current next SUPER_BLOCK ≡ current now SUPER_BLOCK → LeavesSuper old next
super_stays_on old now next so later same = record {
  past = past_more old now next so.past (past_one now next later);
  super = λ clock above below. elim (cases_order clock (now.clock + 1)) [
    | inl at ↦ ap (λ n. next.contents n SUPER_BLOCK) (at ∙ sym later.clock) ∙ same
        ∙ so.super now.clock so.past.clock (omega arith)
    | inr (inl before) ↦ later.past clock SUPER_BLOCK (omega (arith, before))
        ∙ so.super clock above (omega (arith, before))
    | inr (inr after) ↦ absurd (omega (arith, after, below, later.clock))
  ];
}

-- so does what another write does,
super_unaffected : (old now next : Device) (block : ℕ) (content : Content) (r : Result Unit Failed)
    → (SUPER_BLOCK ≡ block → ⊥) → LeavesSuper old now → HasWritten now block content r next
    → LeavesSuper old next
super_unaffected old now next block content r other so write =
    super_stays_on old now next so write.later (write.others SUPER_BLOCK other)

-- what comes after it,
super_more : (old now next : Device) → LeavesSuper old now → LeavesSuper now next → LeavesSuper old next
super_more old now next one two = record {
  past = past_more old now next one.past two.past;
  super = λ clock above below. elim (cases_lt clock now.clock) [
    | inl before ↦ two.past.past clock SUPER_BLOCK (omega (arith, before))
        ∙ one.super clock above (omega (arith, before))
    | inr after ↦ two.super clock after below ∙ one.super now.clock one.past.clock (omega arith)
  ];
}

-- and a barrier, where it has one content
pub super_barrier : (old now next : Device) (side : Side) (content : Content) (r : Result Unit Failed)
    → current old SUPER_BLOCK ≡ content ∷ [] → LeavesSuper old now → HasSettled now side r next
    → LeavesSuper old next
super_barrier old now next side content r one so settled = super_stays_on old now next so settled.later
    (same_newest r (current next SUPER_BLOCK) (settled.contents SUPER_BLOCK))
  where
    only_this_content : current now SUPER_BLOCK ≡ content ∷ []
    only_this_content = so.super now.clock so.past.clock (omega arith) ∙ one

    either : (on : Bool) → (if on then newest_only (current now SUPER_BLOCK) else current now SUPER_BLOCK)
        ≡ current now SUPER_BLOCK
    either true = subst (λ (cs : List Content). newest_only cs ≡ cs) (sym only_this_content) refl
    either false = refl

    same_newest : (answer : Result Unit Failed) (new : List Content)
        → Settles side SUPER_BLOCK (current now SUPER_BLOCK) answer new → new ≡ current now SUPER_BLOCK
    same_newest (Ok u) new is = is ∙ either (is_on side SUPER_BLOCK)
    same_newest (Err u) new is = is

-- the log's own blocks are written, and then others
pub super_filled : (old first second now : Device) (header start : Content) (r s : Result Unit Failed)
    → HasWritten old LOG_HEADER_BLOCK header r first → HasWritten first START_BLOCK start s second
    → LeavesSuper second now → LeavesSuper old now
super_filled old first second now header start r s one two rest =
    super_more old second now
    (super_unaffected old first second START_BLOCK start s (λ same. cc)
    (super_unaffected old old first LOG_HEADER_BLOCK header r (λ same. cc) (super_stays old) one) two) rest

-- ---- the stops of a format

module _ (before : Device) (g : Geometry) (moment : Moment) where
  -- before the first call
  pub at_first : Stops before before g moment
  at_first = record {
    past = past_none before;
    stops = λ clock image above below is.
        inl (subst (λ (n : ℕ). IsCrashImage before n image) (same clock above below) is);
  }
    where
      same : (clock : ℕ) → before.clock ≤ clock → clock ≤ before.clock → clock ≡ before.clock
      same clock above below = omega (arith, above, below)

  -- one call more
  pub one_more_stop : (now next : Device) → Stops before now g moment → OneLater now next
      → ((image : Image) → IsCrashImage next next.clock image → IsLeftByFormat before g moment image)
      → Stops before next g moment
  one_more_stop now next so later left = record {
    past = past_more before now next so.past (past_one now next later);
    stops = one_stop_more (IsLeftByFormat before g moment) before now next later so.stops left;
  }

  -- the super block's place stays blank
  pub blank_stops : (from now : Device) → Stops before from g moment → LeavesSuper from now
      → current from SUPER_BLOCK ≡ zeros ∷ [] → SUPER_BLOCK < now.size → Stops before now g moment
  blank_stops from now so stays blank some = record {
    past = past_more before from now so.past stays.past;
    stops = λ clock image above below is. elim (cases_order clock from.clock) [
      | inl at ↦ left clock image (omega (arith, at)) below is
      | inr (inl past) ↦ so.stops clock image above (omega (arith, past))
          (earlier from now stays.past clock image (omega (arith, past)) is)
      | inr (inr after) ↦ left clock image (omega (arith, after)) below is
    ];
  }
    where
      left : (clock : ℕ) (image : Image) → from.clock ≤ clock → clock ≤ now.clock → IsCrashImage now clock image
          → IsLeftByFormat before g moment image
      left clock image above below is =
          let found = subst (λ (cs : List Content). Contains cs (image SUPER_BLOCK))
          (stays.super clock above below ∙ blank) (is SUPER_BLOCK some) in
          inr (inl (no_magic (image SUPER_BLOCK) (sym (one_member zeros (image SUPER_BLOCK) found))))

  -- what a stop leaves where no block has changed, it left before
  same_stop : (now next : Device) → Stops before now g moment → OneLater now next
      → ((block : ℕ) → current next block ≡ current now block) → Stops before next g moment
  same_stop now next so later same =
      one_more_stop now next so later (λ image is. so.stops now.clock image so.past.clock (omega arith)
      (λ block within. subst (λ (cs : List Content). Contains cs (image block)) (same block)
      (is block (omega (arith, within, later.size)))))

  -- the super block is made blank
  pub first_written : (next : Device) (answer : Result Unit Failed) → SUPER_BLOCK < before.size
      → HasWritten before SUPER_BLOCK zeros answer next → Stops before next g moment
  first_written next answer some write =
      one_more_stop before next at_first write.later (λ image is. left image is answer write.written)
    where
      old_one : (image : Image) → IsCrashImage next next.clock image
          → Contains (current before SUPER_BLOCK) (image SUPER_BLOCK) → IsLeftByFormat before g moment image
      old_one image is has = inl (λ block within. at image is has block within (cases_order block SUPER_BLOCK))
        where
          at : (image : Image) → IsCrashImage next next.clock image
              → Contains (current before SUPER_BLOCK) (image SUPER_BLOCK) → (block : ℕ) → block < before.size
              → (block ≡ SUPER_BLOCK) ⊎ ((block < SUPER_BLOCK) ⊎ (SUPER_BLOCK < block))
              → Contains (current before block) (image block)
          at image is has block within (inl same) =
              subst (λ (n : ℕ). Contains (current before n) (image n)) (sym same) has
          at image is has block within (inr (inl less)) = absurd (omega (arith, less))
          at image is has block within (inr (inr more)) =
              subst (λ (cs : List Content). Contains cs (image block))
              (write.others block (λ (e : block ≡ SUPER_BLOCK). omega (arith, more, e)))
              (is block (omega (arith, within, write.later.size)))

      one_or_blank : (image : Image) → IsCrashImage next next.clock image
          → current next SUPER_BLOCK ≡ current before SUPER_BLOCK ++ zeros ∷ []
          → IsLeftByFormat before g moment image
      one_or_blank image is e = elim (Contains-push_cases (current before SUPER_BLOCK) zeros (image SUPER_BLOCK)
          (subst (λ (cs : List Content). Contains cs (image SUPER_BLOCK)) e
          (is SUPER_BLOCK (omega (arith, some, write.later.size))))) [
            | inl has ↦ old_one image is has
            | inr blank ↦ inr (inl (no_magic (image SUPER_BLOCK) (sym blank)))
          ]

      left : (image : Image) → IsCrashImage next next.clock image → (r : Result Unit Failed)
          → Appends (current before SUPER_BLOCK) zeros r (current next SUPER_BLOCK)
          → IsLeftByFormat before g moment image
      left image is (Ok u) e = one_or_blank image is e
      left image is (Err f) (inr e) = one_or_blank image is e
      left image is (Err f) (inl e) = old_one image is
          (subst (λ (cs : List Content). Contains cs (image SUPER_BLOCK)) e
          (is SUPER_BLOCK (omega (arith, some, write.later.size))))

  -- it is settled, or that failed
  pub first_settled : (now next : Device) (answer : Result Unit Failed) → Stops before now g moment
      → HasSettled now Home answer next → SUPER_BLOCK < next.size
      → ((answer ≡ Ok tt) → current next SUPER_BLOCK ≡ zeros ∷ []) → Stops before next g moment
  first_settled now next (Ok tt) so settled some blank =
      one_more_stop now next so settled.later (λ image is. inr (inl (no_magic (image SUPER_BLOCK)
      (sym (one_member zeros (image SUPER_BLOCK)
      (subst (λ (cs : List Content). Contains cs (image SUPER_BLOCK)) (blank refl) (is SUPER_BLOCK some)))))))
  first_settled now next (Err f) so settled some blank = same_stop now next so settled.later settled.contents

  -- ---- behind the first block all is made

  module _ (now : Device) (sizes : now.size ≡ g.blocks) (blocks : AreBlocks now)
      (rest : IsMadeBehind now g moment) where
    made_at : (image : Image) → IsCrashImage now now.clock image → (number : ℕ) → SUPER_BLOCK < number
        → number < data_at g.blocks g.inodes → is_slot number ≡ false → image number ≡ fresh g moment number
    made_at image is number above below free =
        let rules = g.lawful.1 in
        sym (one_member (fresh g moment number) (image number)
        (subst (λ (cs : List Content). Contains cs (image number)) (rest number above below free)
        (is number (omega (arith, below, rules.3, sizes)))))

    home_free : (number : ℕ) → FIRST_HOME_BLOCK ≤ number → is_slot number ≡ false
    home_free number home = grind (arith, nat_tests)

    made_home : (image : Image) → IsCrashImage now now.clock image → (number : ℕ) → FIRST_HOME_BLOCK ≤ number
        → number < data_at g.blocks g.inodes → image number ≡ fresh g moment number
    made_home image is number home below =
        made_at image is number (omega (arith, home)) below (home_free number home)

    whole : (image : Image) → IsCrashImage now now.clock image → (number : ℕ) → number < g.blocks
        → IsBlock (image number)
    whole image is number below =
        All-contains IsBlock (now.contents now.clock number) (image number)
        (blocks.blocks now.clock number (omega arith) (omega (arith, below, sizes)))
        (is number (omega (arith, below, sizes)))

    pub left_fresh : (image : Image) → IsCrashImage now now.clock image
        → image SUPER_BLOCK ≡ fresh g moment SUPER_BLOCK → IsFresh g moment image
    left_fresh image is super =
        let model = is_fresh g moment in
        let rules = g.lawful.1 in
        let table : table_at g.blocks g.inodes < data_at g.blocks g.inodes = omega (arith, rules.0) in
        record {
          super = super ∙ model.super;
          header = made_at image is LOG_HEADER_BLOCK (omega arith) (omega arith) refl ∙ model.header;
          start = made_at image is START_BLOCK (omega arith) (omega arith) refl ∙ model.start;
          homes = record {
            bytes = λ number home less. whole image is number less;
            blocks = λ k less.
                made_home image is (FIRST_HOME_BLOCK + k) (omega arith) (omega (arith, less))
                ∙ model.homes.blocks k less;
            inodes = λ k less.
                made_home image is (inode_bitmap_at g.blocks + k) (omega arith) (omega (arith, less))
                ∙ model.homes.inodes k less;
            root = made_home image is (table_at g.blocks g.inodes) (omega arith) table ∙ model.homes.root;
            free = λ k some less.
                made_home image is (table_at g.blocks g.inodes + k) (omega arith) (omega (arith, less))
                ∙ model.homes.free k some less;
          };
        }

    -- a blank first block, or the new one
    pub left_made : (image : Image) → IsCrashImage now now.clock image
        → (image SUPER_BLOCK ≡ zeros) ⊎ (image SUPER_BLOCK ≡ fresh g moment SUPER_BLOCK)
        → IsLeftByFormat before g moment image
    left_made image is (inl blank) = inr (inl (no_magic (image SUPER_BLOCK) blank))
    left_made image is (inr super) = inr (inr (left_fresh image is super))

  -- the super block is written
  pub super_written : (now next : Device) (answer : Result Unit Failed) → Stops before now g moment
      → next.size ≡ g.blocks → AreBlocks next → IsMadeBehind next g moment
      → current now SUPER_BLOCK ≡ zeros ∷ []
      → HasWritten now SUPER_BLOCK (fresh g moment SUPER_BLOCK) answer next → Stops before next g moment
  super_written now next answer so sizes blocks rest blank write =
      one_more_stop now next so write.later (λ image is. left image is answer write.written)
    where
      some : SUPER_BLOCK < next.size
      some = let rules = g.lawful.1 in omega (arith, sizes, rules.3)

      both : (image : Image) → IsCrashImage next next.clock image
          → current next SUPER_BLOCK ≡ (zeros ∷ []) ++ fresh g moment SUPER_BLOCK ∷ []
          → IsLeftByFormat before g moment image
      both image is e = left_made next sizes blocks rest image is
          (elim (Contains-push_cases (zeros ∷ []) (fresh g moment SUPER_BLOCK) (image SUPER_BLOCK)
          (subst (λ (cs : List Content). Contains cs (image SUPER_BLOCK)) e (is SUPER_BLOCK some))) [
            | inl has ↦ inl (sym (one_member zeros (image SUPER_BLOCK) has))
            | inr super ↦ inr (sym super)
          ])

      with_new : (cs : List Content) → cs ≡ zeros ∷ []
          → cs ++ fresh g moment SUPER_BLOCK ∷ [] ≡ (zeros ∷ []) ++ fresh g moment SUPER_BLOCK ∷ []
      with_new cs e = ap (λ (xs : List Content). xs ++ fresh g moment SUPER_BLOCK ∷ []) e

      left : (image : Image) → IsCrashImage next next.clock image → (r : Result Unit Failed)
          → Appends (current now SUPER_BLOCK) (fresh g moment SUPER_BLOCK) r (current next SUPER_BLOCK)
          → IsLeftByFormat before g moment image
      left image is (Ok u) e = both image is (e ∙ with_new (current now SUPER_BLOCK) blank)
      left image is (Err f) (inr e) = both image is (e ∙ with_new (current now SUPER_BLOCK) blank)
      left image is (Err f) (inl e) = left_made next sizes blocks rest image is (inl (sym (one_member zeros
          (image SUPER_BLOCK) (subst (λ (cs : List Content). Contains cs (image SUPER_BLOCK)) (e ∙ blank)
          (is SUPER_BLOCK some)))))

  -- it is settled, or that failed
  pub super_settled : (now next : Device) (answer : Result Unit Failed) → Stops before now g moment
      → next.size ≡ g.blocks → AreBlocks next → IsMadeBehind next g moment
      → HasSettled now Home answer next
      → ((answer ≡ Ok tt) → current next SUPER_BLOCK ≡ fresh g moment SUPER_BLOCK ∷ [])
      → Stops before next g moment
  super_settled now next (Ok tt) so sizes blocks rest settled made =
      let rules = g.lawful.1 in
      one_more_stop now next so settled.later (λ image is. left_made next sizes blocks rest image is
      (inr (sym (one_member (fresh g moment SUPER_BLOCK) (image SUPER_BLOCK)
      (subst (λ (cs : List Content). Contains cs (image SUPER_BLOCK)) (made refl)
      (is SUPER_BLOCK (omega (arith, sizes, rules.3))))))))
  super_settled now next (Err f) so sizes blocks rest settled made =
      same_stop now next so settled.later settled.contents

-- ---- the first step: the super block's place is blank

abbrev done : Result Unit Failed
done = Ok tt

blank_settled : (old mid new : Device) → HasWritten old SUPER_BLOCK zeros done mid
    → HasSettled mid Home done new → IsBlank new
blank_settled old mid new write settled =
    settles mid new Home SUPER_BLOCK zeros settled refl (current old SUPER_BLOCK, write.written)

pub blanked_stops : (old mid new : Device) (answer : Result Unit Failed) → SUPER_BLOCK < old.size
    → HasWritten old SUPER_BLOCK zeros done mid → HasSettled mid Home answer new
    → (g : Geometry) (moment : Moment) → Stops old new g moment
blanked_stops old mid new (Ok u) some write settled g moment =
    first_settled old g moment mid new done (first_written old g moment mid done some write) settled
    (omega (arith, some, write.later.size, settled.later.size))
    (λ _. blank_settled old mid new write settled)
blanked_stops old mid new (Err e) some write settled g moment =
    first_settled old g moment mid new (Err e) (first_written old g moment mid done some write) settled
    (omega (arith, some, write.later.size, settled.later.size)) (λ is. absurd (cc))

-- ---- at rest

abbrev IsOne : Device → ℕ → Type 0
IsOne d number = length (current d number) ≡ 1

single_newest : (cs : List Content) → length cs ≡ 1 → length (newest_only cs) ≡ 1
single_newest [] none = absurd (omega (arith, none))
single_newest (c ∷ []) one = refl
single_newest (c ∷ (d ∷ later)) many = absurd (omega (arith, many))

one_settled : (old new : Device) (side : Side) (number : ℕ) → HasSettled old side done new → IsOne old number
    → IsOne new number
one_settled old new side number settled one = by_side (is_on side number) (settled.contents number)
  where
    by_side : (on : Bool) → current new number
        ≡ (if on then newest_only (current old number) else current old number)
        → IsOne new number
    by_side true now = ap (λ (cs : List Content). length cs) now ∙ single_newest (current old number) one
    by_side false now = ap (λ (cs : List Content). length cs) now ∙ one

one_made : (d : Device) (number : ℕ) (content : Content) → current d number ≡ content ∷ [] → IsOne d number
one_made d number content is = ap (λ (cs : List Content). length cs) is

uncertain_no_more : (old new : Device) (block : ℕ) (content : Content) → HasWritten old block content done new
    → (number : ℕ) → new.uncertain number ≡ old.uncertain number
uncertain_no_more old new block content write number = write.uncertain number ∙ none (old.uncertain number)
  where
    none : (b : Bool) → (b || (false && nat_eq number block)) ≡ b
    none true = refl
    none false = refl

-- ---- the second step: all other blocks are written and settled

module _ (a b c d e f : Device) (g : Geometry) (moment : Moment) (blank : IsBlank a)
    (header : HasWritten a LOG_HEADER_BLOCK (fresh g moment LOG_HEADER_BLOCK) done b)
    (start : HasWritten b START_BLOCK (fresh g moment START_BLOCK) done c)
    (parts : HasWrittenUpTo c g moment (data_at g.blocks g.inodes) d) (log : HasSettled d Log done e) where
  pub filled : (answer : Result Unit Failed) → HasSettled e Home answer f
      → OnOk answer (IsMadeBehind f g moment)
  filled (Ok u) home = made_behind a b c d e f g moment header start parts log home
  filled (Err failed) home = tt

  -- a block that isn't written is left as it was
  unwritten : (number : ℕ) → LOG_HEADER_BLOCK < number
      → (number < START_BLOCK) ⊎ (data_at g.blocks g.inodes ≤ number) → current d number ≡ current a number
  unwritten number above (inl slot) =
      parts.before number (omega (arith, slot))
      ∙ start.others number (λ (is : number ≡ START_BLOCK). omega (arith, is, slot))
      ∙ header.others number (λ (is : number ≡ LOG_HEADER_BLOCK). omega (arith, is, above))
  unwritten number above (inr data_block) =
      parts.behind number data_block
      ∙ start.others number (λ (is : number ≡ START_BLOCK). omega (arith, is, data_block))
      ∙ header.others number (λ (is : number ≡ LOG_HEADER_BLOCK). omega (arith, is, above))

  first_left : current d SUPER_BLOCK ≡ current a SUPER_BLOCK
  first_left =
      parts.before SUPER_BLOCK (omega arith)
      ∙ start.others SUPER_BLOCK (λ (is : SUPER_BLOCK ≡ START_BLOCK). omega arith)
      ∙ header.others SUPER_BLOCK (λ (is : SUPER_BLOCK ≡ LOG_HEADER_BLOCK). omega arith)

  slot_or_not : (slot : Bool) (number : ℕ) → is_slot number ≡ slot
      → (slot ≡ false) ⊎ ((LOG_HEADER_BLOCK < number) × (number < START_BLOCK))
  slot_or_not false number is = inl refl
  slot_or_not true number is = inr (grind (arith, nat_tests), grind (arith, nat_tests))

  pub filled_rest : (answer : Result Unit Failed) → HasSettled e Home answer f
      → OnOk answer (IsAtRest a → IsAtRest f)
  filled_rest (Err failed) home = tt
  filled_rest (Ok u) home = λ rest. record {
    one = λ number within. elim (cases_order number SUPER_BLOCK) [
      | inl first ↦ subst (IsOne f) (sym first) (one_settled e f Home SUPER_BLOCK home
          (one_settled d e Log SUPER_BLOCK log (one_made d SUPER_BLOCK zeros (first_left ∙ blank))))
      | inr (inl none) ↦ absurd (omega arith)
      | inr (inr above) ↦ elim (cases_order number (data_at g.blocks g.inodes)) [
        | inl at ↦ left rest number within (omega (arith, at)) (inr (omega (arith, at)))
        | inr (inl below) ↦ elim (slot_or_not (is_slot number) number refl) [
          | inl free ↦ one_made f number (fresh g moment number)
              (made_behind a b c d e f g moment header start parts log home number above below free)
          | inr slot ↦ left rest number within slot.0 (inl slot.1)
        ]
        | inr (inr past) ↦ left rest number within (omega (arith, past)) (inr (omega (arith, past)))
      ]
    ];
    certain = λ number. home.uncertain number ∙ log.uncertain number ∙ parts.uncertain number
        ∙ uncertain_no_more b c START_BLOCK (fresh g moment START_BLOCK) start number
        ∙ uncertain_no_more a b LOG_HEADER_BLOCK (fresh g moment LOG_HEADER_BLOCK) header number
        ∙ rest.certain number;
  }
    where
      left : IsAtRest a → (number : ℕ) → number < f.size → LOG_HEADER_BLOCK < number
          → (number < START_BLOCK) ⊎ (data_at g.blocks g.inodes ≤ number) → IsOne f number
      left rest number within above which =
          one_settled e f Home number home (one_settled d e Log number log
          (ap (λ (cs : List Content). length cs) (unwritten number above which)
          ∙ rest.one number (omega (
            arith,
            within,
            home.later.size,
            log.later.size,
            parts.size,
            start.later.size,
            header.later.size,
          ))))

-- ---- the last step: the super block

module _ (before f h : Device) (g : Geometry) (moment : Moment) (sizes : g.blocks ≡ f.size) (blank : IsBlank f)
    (behind : IsMadeBehind f g moment) (so : Stops before f g moment) where
  pub named_or_not : (answer : Result Unit Failed)
      → HasWritten f SUPER_BLOCK (fresh g moment SUPER_BLOCK) answer h → AreBlocks h → Stops before h g moment
  named_or_not answer write blocks =
      super_written before g moment f h answer so (write.later.size ∙ sym sizes) blocks
      (made_on f h g moment (fresh g moment SUPER_BLOCK) answer behind write) blank write

  pub named : (i : Device) (answer : Result Unit Failed)
      → HasWritten f SUPER_BLOCK (fresh g moment SUPER_BLOCK) done h → HasSettled h Home answer i → AreBlocks i
      → Stops before i g moment
  named i answer write settled blocks =
      super_settled before g moment h i answer
      (named_or_not done write (blocks_before h i (past_one h i settled.later) blocks))
      (settled.later.size ∙ write.later.size ∙ sym sizes) blocks
      (made_still h i g moment answer (made_on f h g moment (fresh g moment SUPER_BLOCK) done behind
      write) settled)
      settled (new_only answer settled)
    where
      new_only : (r : Result Unit Failed) → HasSettled h Home r i → r ≡ done
          → current i SUPER_BLOCK ≡ fresh g moment SUPER_BLOCK ∷ []
      new_only (Ok u) settles_it is =
          settles h i Home SUPER_BLOCK (fresh g moment SUPER_BLOCK) settles_it refl
          (current f SUPER_BLOCK, write.written)
      new_only (Err failed) settles_it is = cc

-- ---- the whole

pub making_of : (before now : Device) (g : Geometry) (moment : Moment) → g.blocks ≡ before.size → AreBlocks now
    → Stops before now g moment → IsMaking before now g moment
making_of before now g moment sizes blocks so = record {
  past = so.past;
  size = so.past.size ∙ sym sizes;
  left = some_image before now blocks;
  stops = so.stops;
}

-- whatever a crash leaves of what was made is fresh
pub left_of_made : (now : Device) (g : Geometry) (moment : Moment) → now.size ≡ g.blocks → AreBlocks now
    → IsMade now g moment → (image : Image) → IsCrashImage now now.clock image → IsFresh g moment image
left_of_made now g moment sizes blocks made image is =
    let rules = g.lawful.1 in
    left_fresh now g moment now sizes blocks (λ number above below free. made number below free) image is
    (sym (one_member (fresh g moment SUPER_BLOCK) (image SUPER_BLOCK)
    (subst (λ (cs : List Content). Contains cs (image SUPER_BLOCK))
    (made SUPER_BLOCK (omega arith) refl) (is SUPER_BLOCK (omega (arith, sizes, rules.3))))))

-- of the blank place, and of what is written behind it
pub behind_blank : (before from now : Device) (g : Geometry) (moment : Moment) → g.blocks ≡ before.size
    → Stops before from g moment → IsBlank from → LeavesSuper from now → Stops before now g moment
behind_blank before from now g moment sizes so blank stays =
    let rules = g.lawful.1 in
    blank_stops before g moment from now so stays blank
    (omega (arith, sizes, so.past.size, stays.past.size, rules.3))

pub formatted : (before now : Device) (g : Geometry) (moment : Moment) → g.blocks ≡ before.size → AreBlocks now
    → (AreBlocks now → Stops before now g moment) → now.failures ≡ before.failures
    → (IsAtRest before → IsAtRest now) → IsMade now g moment → IsFormatted before now g moment
formatted before now g moment sizes blocks so none rest made =
    let making = making_of before now g moment sizes blocks (so blocks) in
    record {
      making = making;
      failures = none;
      rest = rest;
      fresh = left_of_made now g moment making.size blocks made;
    }

pub not_formatted : (before now : Device) (g : Geometry) (moment : Moment) → g.blocks ≡ before.size
    → AreBlocks now → (AreBlocks now → Stops before now g moment) → now.failures ≡ before.failures + 1
    → HasFailedToFormat before now g moment
not_formatted before now g moment sizes blocks so one = record {
  making = making_of before now g moment sizes blocks (so blocks);
  failures = omega (arith, one);
}

-- Lemmas: the group that the core makes of a commit.
use Rattle.std.proofs.Common.{◌≡◌, ◌≢◌, ℕ, ◌+◌, inl, inr, Bool, true, false, ◌||◌, nat_eq, if◌then◌else◌}
use Rattle.std.proofs.Common.{List, [], ◌∷◌, ◌++◌, length, take, drop, All, Option, Some, None, refl, sym, ap}
use Rattle.std.proofs.Common.{subst, ◌∙◌, arith, ne_eqb}
use Rattle.std.specs.Option.{is_some}
use Rattle.std.specs.List.{list_any}
use Rattle.std.proofs.lemmas.Bool.{eqb-true, eqb-false, eq-eqb}
use Rattle.std.proofs.lemmas.List.{drop_all, length-replicate}
use Rattle.std.proofs.lemmas.List.Elements.{All-head, All-tail, All-nil, All-cons}
use Rattle.base.specs.declared.TheConstants.{BLOCK_BYTES}
use Rattle.disk.specs.Device.{Content}
use Rattle.disk.specs.Crash.{Image}
use Rattle.disk.specs.declared.block.BlockNo.{BlockNo}
use Rattle.circ.specs.Log.Log.{Log, newest, or_else, blocks_of as group_blocks}
use Rattle.circ.specs.Log.Overlay.{content_or}
use Rattle.circ.specs.Log.Effects.{newest_in}
use Rattle.objects.specs.Spliced.{spliced}
use Rattle.txn_law.specs.Group.{is_among, blocks_after, overlaid_content, base_in, IsOverlaid}
use Rattle.objects.specs.Object.{ObjectBytes}
use Rattle.objects.specs.Present.{present_of, content_in}
use Rattle.txn_law.specs.Records.{lies_in}
use Rattle.txn_law.specs.Window.{Footprint, with_object, with_objects}
use Rattle.objects.specs.declared.present.Present.{Present}
use Rattle.txn_law.specs.Steps.{IsBrought, IsCovered, IsWholeIn, IsMade}

eqb-sym : (a b : ℕ) → nat_eq a b ≡ nat_eq b a
eqb-sym a b = go (nat_eq a b) refl
  where
    go : (t : Bool) → nat_eq a b ≡ t → nat_eq a b ≡ nat_eq b a
    go true e = let same : b ≡ a = sym (eqb-true a b e) in e ∙ sym (eq-eqb b a same)
    go false e = let differs : a ≢ b = eqb-false a b e in e ∙ sym (ne_eqb b a (λ same. differs (sym same)))

-- laid over the current content of a block, the objects lead to what they lead to
overlaid_is : (now : Image) (objects : List ObjectBytes) (block : BlockNo)
    → overlaid_content (now block.0) objects block ≡ with_objects now objects block.0
overlaid_is now [] block = refl
overlaid_is now (o ∷ os) block =
    ap (λ (t : Bool). overlaid_content (if t then spliced (now block.0) o.addr.offset o.bytes else now block.0) os block)
    (eqb-sym o.addr.block.0 block.0)
    ∙ overlaid_is (with_object now o) os block

-- objects of other blocks change nothing
untouched : (content : Content) (objects : List ObjectBytes) (block : BlockNo) → lies_in objects block ≡ false
    → overlaid_content content objects block ≡ content
untouched content [] block e = refl
untouched content (o ∷ os) block e = go (untouched content os block) (nat_eq o.addr.block.0 block.0) e
  where
    go : (lies_in os block ≡ false → overlaid_content content os block ≡ content) → (t : Bool)
        → (t || lies_in os block) ≡ false
        → overlaid_content (if t then spliced content o.addr.offset o.bytes else content) os block ≡ content
    go rest true e = absurd (cc)
    go rest false e = rest e

-- whole blocks hide what they are laid over
whole : (one other : Content) (objects : List ObjectBytes) (block : BlockNo) → length one ≡ BLOCK_BYTES
    → length other ≡ BLOCK_BYTES → All (IsWholeIn block) objects → lies_in objects block ≡ true
    → overlaid_content one objects block ≡ overlaid_content other objects block
whole one other [] block n m h e = absurd (cc)
whole one other (o ∷ os) block n m h e =
    go (whole one other os block n m (All-tail (IsWholeIn block) o os h)) (nat_eq o.addr.block.0 block.0) refl
    e
  where
    hidden : (content : Content) → length content ≡ BLOCK_BYTES → o.addr.block.0 ≡ block.0
        → spliced content o.addr.offset o.bytes ≡ o.bytes ++ []
    hidden content size same =
        let (start, bytes) = All-head (IsWholeIn block) o os h same in
        ap (λ k. take k content ++ o.bytes ++ drop (k + length o.bytes) content) start
        ∙ ap (λ xs. o.bytes ++ xs) (drop_all (0 + length o.bytes) content (omega (arith, size, bytes)))

    go : (lies_in os block ≡ true → overlaid_content one os block ≡ overlaid_content other os block) → (t : Bool)
        → nat_eq o.addr.block.0 block.0 ≡ t → (t || lies_in os block) ≡ true
        → overlaid_content (if t then spliced one o.addr.offset o.bytes else one) os block
        ≡ overlaid_content (if t then spliced other o.addr.offset o.bytes else other) os block
    go rest true is e = let same = eqb-true o.addr.block.0 block.0 is in
        ap (λ c. overlaid_content c os block) (hidden one n same ∙ sym (hidden other m same))
    go rest false is e = rest e

or-true : (a : Bool) → (a || true) ≡ true
or-true true = refl
or-true false = refl

or-false : (a : Bool) → (a || false) ≡ a
or-false true = refl
or-false false = refl

or-assoc : (a b c : Bool) → ((a || b) || c) ≡ (a || (b || c))
or-assoc true b c = refl
or-assoc false b c = refl

among-push : (block other : BlockNo) (blocks : List BlockNo)
    → is_among block (blocks ++ other ∷ []) ≡ (is_among block blocks || nat_eq other.0 block.0)
among-push block other [] = or-false (nat_eq other.0 block.0)
among-push block other (b ∷ bs) = ap (λ t. nat_eq b.0 block.0 || t) (among-push block other bs)
    ∙ sym (or-assoc (nat_eq b.0 block.0) (is_among block bs) (nat_eq other.0 block.0))

-- a block is among those of the objects where one of them lies in it
pub among_after : (block : BlockNo) (blocks : List BlockNo) (objects : List ObjectBytes)
    → is_among block (blocks_after blocks objects) ≡ (is_among block blocks || lies_in objects block)
among_after block blocks [] = sym (or-false (is_among block blocks))
among_after block blocks (o ∷ os) =
    go (is_among o.addr.block blocks) refl (among_after block blocks os)
    (among_after block (blocks ++ o.addr.block ∷ []) os)
  where
    known : is_among o.addr.block blocks ≡ true → (t : Bool) → nat_eq o.addr.block.0 block.0 ≡ t
        → (is_among block blocks || lies_in os block) ≡ (is_among block blocks || (t || lies_in os block))
    known has true e =
        let same : o.addr.block.0 ≡ block.0 = eqb-true o.addr.block.0 block.0 e in
        let there : is_among block blocks ≡ true =
        ap (λ (n : ℕ). list_any (λ b. nat_eq b.0 n) blocks) (sym same) ∙ has in
        ap (λ t. t || lies_in os block) there ∙ sym (ap (λ t. t || true) there)
    known has false e = refl

    go : (t : Bool) → is_among o.addr.block blocks ≡ t
        → is_among block (blocks_after blocks os) ≡ (is_among block blocks || lies_in os block)
        → is_among block (blocks_after (blocks ++ o.addr.block ∷ []) os)
        ≡ (is_among block (blocks ++ o.addr.block ∷ []) || lies_in os block)
        → is_among block (blocks_after (if t then blocks else blocks ++ o.addr.block ∷ []) os)
        ≡ (is_among block blocks || (nat_eq o.addr.block.0 block.0 || lies_in os block))
    go true has first second = first ∙ known has (nat_eq o.addr.block.0 block.0) refl
    go false has first second = second
        ∙ ap (λ t. t || lies_in os block) (among-push block o.addr.block blocks)
        ∙ or-assoc (is_among block blocks) (nat_eq o.addr.block.0 block.0) (lies_in os block)

-- and a block of a group has a content there
pub among_group : (group : List (BlockNo × Content)) (block : BlockNo)
    → is_among block (group_blocks group) ≡ is_some (newest_in group block.0)
among_group [] block = refl
among_group (change ∷ group) block = ap (λ t. nat_eq change.0.0 block.0 || t) (among_group group block)
    ∙ go (newest_in group block.0) (nat_eq change.0.0 block.0)
  where
    go : (later : Option Content) (t : Bool)
        → (t || is_some later) ≡ is_some (or_else later (if t then Some change.1 else None))
    go (Some c) true = refl
    go (Some c) false = refl
    go None true = refl
    go None false = refl

-- what holds of each change of a group holds of the newest
of_newest : (P : BlockNo × Content → Type 0) (group : List (BlockNo × Content)) (block : BlockNo)
    (content : Content) → All P group → newest_in group block.0 ≡ Some content → P (block, content)
of_newest P [] block content h e = absurd (cc)
of_newest P (change ∷ group) block content h e =
    go (of_newest P group block content (All-tail P change group h)) (newest_in group block.0) refl
    (nat_eq change.0.0 block.0) refl e
  where
    go : (newest_in group block.0 ≡ Some content → P (block, content)) → (later : Option Content)
        → newest_in group block.0 ≡ later → (t : Bool) → nat_eq change.0.0 block.0 ≡ t
        → or_else later (if t then Some change.1 else None) ≡ Some content → P (block, content)
    go rest (Some c) is t same e = rest (is ∙ e)
    go rest None is true same e =
        let at : change.0.0 ≡ block.0 = eqb-true change.0.0 block.0 same in
        let f : ℕ → BlockNo = λ number. record { 0 = number } in
        let one : change.1 ≡ content = cc in
        subst (λ (b : BlockNo). P (b, content)) (ap f at)
        (subst (λ (c : Content). P (change.0, c)) one (All-head P change group h))
    go rest None is false same e = absurd (cc)

is_some-has : (o : Option Content) → is_some o ≡ true → (content : Content) × (o ≡ Some content)
is_some-has (Some c) e = (c, refl)
is_some-has None e = absurd (cc)

pub brought : (present : List Present) (log : Log) (now : Image) (commit : Footprint)
    (group : List (BlockNo × Content)) → IsMade present log now commit group → IsBrought now commit group
brought present log now commit group h = record {
  read = h.read;
  overlaid_content = λ block. at (record { 0 = block }) (newest_in group block) refl;
  covered = covers commit.written (λ block e. e);
}
  where
    lies : (block : BlockNo) → is_some (newest_in group block.0) ≡ lies_in commit.written block
    lies block = sym (among_group group block) ∙ ap (is_among block) h.blocks
        ∙ among_after block [] commit.written

    at : (block : BlockNo) (found : Option Content) → newest_in group block.0 ≡ found
        → content_or found (now block.0) ≡ with_objects now commit.written block.0
    at block None e = sym (untouched (now block.0) commit.written block (sym (lies block) ∙ ap is_some e))
        ∙ overlaid_is now commit.written block
    at block (Some content) e =
        let under : Content = base_in (content_in (present_of present block)) (newest log block.0) in
        let there : lies_in commit.written block ≡ true = sym (lies block) ∙ ap is_some e in
        let it : content ≡ overlaid_content under commit.written block =
        of_newest (IsOverlaid present log commit.written) group block content h.contents e in
        elim (h.known block there) as (λ _. content ≡ with_objects now commit.written block.0) [
          | inl current ↦ it ∙ ap (λ c. overlaid_content c commit.written block) current
              ∙ overlaid_is now commit.written block
          | inr hidden ↦ it
              ∙ whole under (now block.0) commit.written block
              (omega (arith, ap length hidden.0, length-replicate {A = ℕ} BLOCK_BYTES 0)) hidden.1
              hidden.2 there
              ∙ overlaid_is now commit.written block
        ]

    covers : (objects : List ObjectBytes)
        → ((block : BlockNo) → lies_in objects block ≡ true → lies_in commit.written block ≡ true)
        → All (IsCovered group) objects
    covers [] within = All-nil (IsCovered group)
    covers (o ∷ os) within = All-cons (IsCovered group) o os
        (is_some-has (newest_in group o.addr.block.0) (lies o.addr.block
        ∙ within o.addr.block
        (ap (λ t. t || lies_in os o.addr.block) (eq-eqb o.addr.block.0 o.addr.block.0 refl))))
        (covers os (λ block e. within block (ap (λ t. nat_eq o.addr.block.0 block.0 || t) e
        ∙ or-true (nat_eq o.addr.block.0 block.0))))

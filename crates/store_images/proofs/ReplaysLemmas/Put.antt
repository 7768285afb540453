-- Blocks that are written at home, one after another.
use Rattle.std.proofs.Common.{◌≡◌, ◌∙◌, refl, sym, ap, subst, ℕ, ◌+◌, ◌-◌, ◌<◌, arith, Bool, true, false, nat_eq}
use Rattle.std.proofs.Common.{if◌then◌else◌, ◌||◌, ◌&&◌, nat_le, nat_lt, List, [], ◌∷◌, ◌++◌, length, take}
use Rattle.std.proofs.Common.{get_or, replicate, Result, Ok, Err, All, Some, None}
use Rattle.std.specs.Prelude.{OnOk}
use Rattle.std.proofs.lemmas.Bool.Decides.{nat_tests}
use Rattle.std.proofs.lemmas.List.{get_or-map, length-drop, length-map, take_more}
use Rattle.std.proofs.lemmas.List.Elements.{All-get_or}
use Rattle.base.specs.declared.TheConstants.{BLOCK_BYTES, LOG_HEADER_BLOCK, START_BLOCK, SUPER_BLOCK}
use Rattle.disk.specs.Crash.{Image, IsAtRest}
use Rattle.disk.specs.Device.{Content, Device, HasRead, HasSettled, current, is_on, newest, newest_only}
use Rattle.disk.specs.declared.block.BlockNo.{BlockNo}
use Rattle.disk.specs.declared.block.Side.TheVariants.{Home, Log}
use Rattle.disk.specs.declared.device.Failed.{Failed}
use Rattle.disk.proofs.OverlapLemmas.{newest_settled}
use Rattle.objects.specs.Object.{ObjectBytes}
use Rattle.objects.specs.Spliced.{spliced}
use Rattle.txn_law.specs.Window.{with_object, with_objects}
use Rattle.circ.specs.Log.EightBytes.{with_number}
use Rattle.circ.specs.Log.Effects.{newest_in}
use Rattle.circ.specs.Log.Law.{with_changes, with_home}
use Rattle.circ.specs.Log.Log.{IsHomeOn, blocks_of, changes_of, newest_of, or_else}
use Rattle.circ.specs.Log.Overlay.{content_or}
use Rattle.circ.specs.Log.Recovery.{IsCertain, image_of}
use Rattle.circ.specs.declared.log.change.LogChange.{LogChange}
use Rattle.circ.proofs.LogLemmas.Newest.{newest_of-append}
use Rattle.store_images.specs.Replays.Putting.{HasComeHome, HasPut, with_log_home}

pub put_none : (d : Device) → HasPut d d (image_of d)
put_none d = record { newest = refl; uncertain = λ block. refl; some = λ block some. some; log = λ block on. refl }

pub put_then : (a b c : Device) (one two : Image) → HasPut a b one → HasPut b c two → HasPut a c two
put_then a b c one two first second = record {
  newest = second.newest;
  uncertain = λ block. second.uncertain block ∙ first.uncertain block;
  some = λ block some. second.some block (first.some block some);
  log = λ block on. second.log block on ∙ first.log block on;
}

pub put_clean : (a b : Device) (image : Image) → HasPut a b image → IsCertain a → IsCertain b
put_clean a b image put clean block = put.uncertain block ∙ clean block

-- ---- a block of the home side lies there

same_number : (a b : ℕ) → nat_eq a b ≡ true → a ≡ b
same_number a b is = grind (arith, nat_tests)

pub behind_log : (size : ℕ) (block : BlockNo) → IsHomeOn size block → is_on Log block.0 ≡ false
behind_log size block home = by_test (nat_lt block.0 START_BLOCK) refl
  where
    last : (a : Bool) → (a && false) ≡ false
    last true = refl
    last false = refl

    by_test : (t : Bool) → nat_lt block.0 START_BLOCK ≡ t → is_on Log block.0 ≡ false
    by_test true is =
        let below : block.0 < START_BLOCK = grind (arith, nat_tests) in
        let from = home.0 in absurd (omega (arith, below, from))
    by_test false is = ap (λ t. nat_le LOG_HEADER_BLOCK block.0 && t) is ∙ last (nat_le LOG_HEADER_BLOCK block.0)

-- ---- an object

module _ (image : Image) (object : ObjectBytes) (number : ℕ) (at : number ≡ object.addr.block.0) where
  abbrev overlaid_content : ℕ → Content
  overlaid_content block = spliced (image block) object.addr.offset object.bytes

  unaffected_by_write : (block : ℕ) (t : Bool) → nat_eq block number ≡ t
      → (if t then overlaid_content number else image block) ≡ (if t then overlaid_content block else image block)
  unaffected_by_write block true is = ap overlaid_content (sym (same_number block number is))
  unaffected_by_write block false is = refl

  overlaid_there : (block : ℕ) → with_home image number (overlaid_content number) block ≡ with_object image object block
  overlaid_there block =
      unaffected_by_write block (nat_eq block number) refl
      ∙ ap (λ n. if nat_eq block n then overlaid_content block else image block) at

  pub object_overlaid : with_home image number (overlaid_content number) ≡ with_object image object
  object_overlaid = λ i block. overlaid_there block i

read_same : (a b : Device) → HasRead a b → image_of b ≡ image_of a
read_same a b read = λ i block. newest (read.contents block i)

-- a block was read, an object laid over it, and it was written
pub put_overlaid : (a b c : Device) (object : ObjectBytes) (number : ℕ) (out content : Content)
    (answer : Result Unit Failed) → number ≡ object.addr.block.0 → HasRead a b → out ≡ image_of a number
    → content ≡ spliced out object.addr.offset object.bytes
    → OnOk answer (HasPut b c (with_home (image_of b) number content))
    → OnOk answer (HasPut a c (with_object (image_of a) object))
put_overlaid a b c object number out content (Err error) at read came overlaid_content put = tt
put_overlaid a b c object number out content (Ok _) at read came overlaid_content put = record {
  newest = put.newest
      ∙ ap (λ (image : Image). with_home image number content) (read_same a b read)
      ∙ ap (λ (bytes : Content). with_home (image_of a) number bytes)
      (overlaid_content ∙ ap (λ (bytes : Content). spliced bytes object.addr.offset object.bytes) came)
      ∙ object_overlaid (image_of a) object number at;
  uncertain = λ block. put.uncertain block ∙ read.uncertain block;
  some = λ block some. put.some block (subst (λ (cs : List Content). 0 < length cs) (sym (read.contents block))
      some);
  log = λ block on. put.log block on ∙ read.contents block;
}

with_more : (image : Image) (objects : List ObjectBytes) (object : ObjectBytes)
    → with_object (with_objects image objects) object ≡ with_objects image (objects ++ object ∷ [])
with_more image [] object = refl
with_more image (first ∷ objects) object = with_more (with_object image first) objects object

-- one object more
pub objects_more : (a b c : Device) (objects : List ObjectBytes) (index : ℕ) (object : ObjectBytes)
    → index < length objects → object ≡ get_or objects index object
    → HasPut a b (with_objects (image_of a) (take index objects))
    → HasPut b c (with_object (image_of b) object)
    → HasPut a c (with_objects (image_of a) (take (index + 1) objects))
objects_more a b c objects index object less is before more =
    subst (λ (image : Image). HasPut a c image)
    (ap (λ (image : Image). with_object image object) before.newest
    ∙ with_more (image_of a) (take index objects) object
    ∙ ap (λ (x : ObjectBytes). with_objects (image_of a) (take index objects ++ x ∷ [])) is
    ∙ ap (λ (os : List ObjectBytes). with_objects (image_of a) os) (sym (take_more objects index object less)))
    (put_then a b c (with_objects (image_of a) (take index objects)) (with_object (image_of b) object) before more)

-- ---- blocks of a log

changes_append : (xs : List (BlockNo × Content)) (x : BlockNo × Content)
    → changes_of 0 (xs ++ x ∷ []) ≡ changes_of 0 xs ++ changes_of 0 (x ∷ [])
changes_append [] x = refl
changes_append (y ∷ xs) x =
    ap (λ (cs : List LogChange). record { place = 0; block = y.0; content = y.1 } ∷ cs) (changes_append xs x)

turned : (a b : ℕ) → nat_eq a b ≡ nat_eq b a
turned a b = by_test (nat_eq a b) (nat_eq b a) refl refl
  where
    by_test : (s t : Bool) → nat_eq a b ≡ s → nat_eq b a ≡ t → s ≡ t
    by_test true true one other = refl
    by_test false false one other = refl
    by_test true false one other = absurd (grind (arith, nat_tests))
    by_test false true one other = absurd (grind (arith, nat_tests))

one_over : (xs : List (BlockNo × Content)) (x : BlockNo × Content) (image : Image) (block : ℕ)
    → with_home (with_changes image (changes_of 0 xs)) x.0.0 x.1 block ≡ with_changes image (changes_of 0 (xs ++ x ∷ [])) block
one_over xs x image block =
    ap (λ (t : Bool). if t then x.1 else with_changes image (changes_of 0 xs) block) (turned block x.0.0)
    ∙ by_test (nat_eq x.0.0 block)
    ∙ sym (ap (λ (cs : List LogChange). content_or (newest_of cs block) (image block)) (changes_append xs x)
    ∙ ap (λ found. content_or found (image block))
    (newest_of-append (changes_of 0 xs) (changes_of 0 (x ∷ [])) block))
  where
    by_test : (t : Bool) → (if t then x.1 else with_changes image (changes_of 0 xs) block)
        ≡ content_or (or_else (if t then Some x.1 else None) (newest_in xs block)) (image block)
    by_test true = refl
    by_test false = refl

-- one block more
pub blocks_more : (a b c : Device) (logged : List (BlockNo × Content)) (index : ℕ) (change : BlockNo × Content)
    → index < length logged → change ≡ get_or logged index change
    → HasPut a b (with_changes (image_of a) (changes_of 0 (take index logged)))
    → HasPut b c (with_home (image_of b) change.0.0 change.1)
    → HasPut a c (with_changes (image_of a) (changes_of 0 (take (index + 1) logged)))
blocks_more a b c logged index change less is before more =
    subst (λ (image : Image). HasPut a c image)
    (ap (λ (image : Image). with_home image change.0.0 change.1) before.newest
    ∙ (λ i block. one_over (take index logged) change (image_of a) block i)
    ∙ ap (λ (x : BlockNo × Content). with_changes (image_of a) (changes_of 0 (take index logged ++ x ∷ []))) is
    ∙ ap (λ (xs : List (BlockNo × Content)). with_changes (image_of a) (changes_of 0 xs)) (sym (take_more logged index change less)))
    (put_then a b c (with_changes (image_of a) (changes_of 0 (take index logged))) (with_home (image_of b) change.0.0 change.1)
    before more)

pub home_of : (size : ℕ) (logged : List (BlockNo × Content)) (index : ℕ) (change : BlockNo × Content)
    → index < length logged → change ≡ get_or logged index change → All (IsHomeOn size) (blocks_of logged)
    → IsHomeOn size change.0
home_of size logged index change less is homes =
    let first : BlockNo × Content → BlockNo = λ (x : BlockNo × Content). x.0 in
    subst (IsHomeOn size)
    (get_or-map first logged index change change.0 less ∙ ap first (sym is))
    (All-get_or (IsHomeOn size) (blocks_of logged) index change.0
    (let many = length-map logged first in omega (arith, many, less)) homes)

-- ---- and settled

not_log : (block : ℕ) → is_on Log block ≡ false → is_on Home block ≡ true
not_log block off = by_test (nat_le LOG_HEADER_BLOCK block) (nat_lt block START_BLOCK) refl refl off
  where
    by_test : (a b : Bool) → nat_le LOG_HEADER_BLOCK block ≡ a → nat_lt block START_BLOCK ≡ b → (a && b) ≡ false
        → is_on Home block ≡ true
    by_test true true le lt off = cc
    by_test true false le lt off =
        let from : nat_le START_BLOCK block ≡ true = grind (arith, nat_tests) in
        ap (λ t. nat_lt block LOG_HEADER_BLOCK || t) from ∙ last (nat_lt block LOG_HEADER_BLOCK)
      where
        last : (t : Bool) → (t || true) ≡ true
        last true = refl
        last false = refl
    by_test false b le lt off =
        let below : nat_lt block LOG_HEADER_BLOCK ≡ true = grind (arith, nat_tests) in
        ap (λ t. t || nat_le START_BLOCK block) below

single_newest_left : (cs : List Content) → 0 < length cs → length (newest_only cs) ≡ 1
single_newest_left cs some = let gone = length-drop (length cs - 1) cs in omega (arith, gone, some)

either_newest : (on : Bool) (old new : List Content) → new ≡ (if on then newest_only old else old)
    → newest new ≡ newest old
either_newest true old new is = ap newest is ∙ newest_settled old
either_newest false old new is = ap newest is

module _ (a b c : Device) (image : Image) (put : HasPut a b image) (settled : HasSettled b Home (Ok tt) c)
    (rest : IsAtRest a) where
  one_there : (block : ℕ) → length (current a block) ≡ 1 → (log : Bool) → is_on Log block ≡ log
      → length (current c block) ≡ 1
  one_there block one true is = is_preserved (is_on Home block) (settled.contents block)
    where
      same : current b block ≡ current a block
      same = put.log block is

      is_preserved : (on : Bool) → current c block ≡ (if on then newest_only (current b block) else current b block)
          → length (current c block) ≡ 1
      is_preserved true now =
          ap (λ (cs : List Content). length cs) now
          ∙ single_newest_left (current b block) (omega (arith, ap (λ (cs : List Content). length cs) same, one))
      is_preserved false now =
          ap (λ (cs : List Content). length cs) now ∙ ap (λ (cs : List Content). length cs) same ∙ one
  one_there block one false is =
      ap (λ (cs : List Content). length cs) (settled.contents block
      ∙ ap (λ t. if t then newest_only (current b block) else current b block) (not_log block is))
      ∙ single_newest_left (current b block) (put.some block (omega (arith, one)))

  at_rest : a.size ≡ c.size → IsAtRest c
  at_rest size = record {
    one = λ block within. one_there block (rest.one block (omega (arith, within, size))) (is_on Log block) refl;
    certain = λ block. settled.uncertain block ∙ put.uncertain block ∙ rest.certain block;
  }

pub comes_home : (a b c : Device) (image : Image) (answer : Result Unit Failed) → c.size ≡ a.size
    → HasPut a b image → HasSettled b Home answer c → OnOk answer (HasComeHome a c image)
comes_home a b c image (Err error) size put settled = tt
comes_home a b c image (Ok _) size put settled = record {
  newest = (λ i block. either_newest (is_on Home block) (current b block) (current c block)
      (settled.contents block) i)
      ∙ put.newest;
  rest = λ rest. at_rest a b c image put settled rest (sym size);
}

-- ---- what a beginning writes

pub begun_put : (a b c d : Device) (logged : List (BlockNo × Content)) (end : ℕ) (incremented start super : Content)
    → start ≡ with_number (replicate BLOCK_BYTES 0) 0 end → super ≡ incremented
    → HasPut a b (with_changes (image_of a) (changes_of 0 logged))
    → HasPut b c (with_home (image_of b) START_BLOCK start)
    → HasPut c d (with_home (image_of c) SUPER_BLOCK super) → HasPut a d (with_log_home (image_of a) logged end incremented)
begun_put a b c d logged end incremented start super start_is super_is first second third =
    let homes : Image = with_changes (image_of a) (changes_of 0 logged) in
    let started : Image = with_home homes START_BLOCK (with_number (replicate BLOCK_BYTES 0) 0 end) in
    subst (λ (image : Image). HasPut a d image)
    (ap (λ (image : Image). with_home image SUPER_BLOCK super)
    (second.newest
    ∙ ap (λ (image : Image). with_home image START_BLOCK start) first.newest
    ∙ ap (λ (bytes : Content). with_home homes START_BLOCK bytes) start_is)
    ∙ ap (λ (bytes : Content). with_home started SUPER_BLOCK bytes) super_is)
    (put_then a c d (with_home (image_of b) START_BLOCK start) (with_home (image_of c) SUPER_BLOCK super)
    (put_then a b c homes (with_home (image_of b) START_BLOCK start) first second) third)

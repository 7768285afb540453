-- Lemmas: what is in memory, and which fetches are pending, once the list of blocks has changed.
use Rattle.std.proofs.Common.{◌≡◌, Bool, true, false, not, cond, ◌&&◌, ◌||◌, if◌then◌else◌, nat_eq, List, []}
use Rattle.std.proofs.Common.{◌∷◌}
use Rattle.std.proofs.Common.{◌++◌, Option, Some, None, is_none, option_map, refl, sym, ap, ◌∙◌, ne_eqb}
use Rattle.std.specs.Prelude.{is_some}
use Rattle.std.specs.List.{filter}
use Rattle.std.proofs.lemmas.Bool.{eqb-true, eq-eqb}
use Rattle.objects.specs.Present.{filled_in}
use Rattle.disk.specs.Device.{Content}
use Rattle.disk.specs.declared.block.BlockNo.{BlockNo}
use Rattle.circ.specs.Log.Log.{Log, newest}
use Rattle.txn_law.specs.Commit.{refreshed_content, refreshed_resident, refreshed}
use Rattle.objects.specs.Present.{filled, without_pending}
use Rattle.txn_law.specs.Holds.{is_taken}
use Rattle.objects.specs.Present.{with_block}
use Rattle.objects.specs.Present.{present_of, content_in, is_pending}
use Rattle.txn_law.specs.Records.{is_read_by_uninstalled, is_left, swept}
use Rattle.objects.specs.Present.{IsOnce}
use Rattle.txn_law.specs.Window.{Footprint}
use Rattle.txn_law.specs.declared.hold.Hold.{Hold}
use Rattle.objects.specs.declared.present.Present.{Present}
use Rattle.txn_law.proofs.Claims.{found_by}
use Rattle.txn_law.proofs.Residents.{present_of-refreshed}
use Rattle.objects.proofs.Residents.{is_of, same_block, filled_one}
use Rattle.objects.proofs.Found.{find_none, find_retained, find_push_some, find_push_none}
use Rattle.txn_law.proofs.Swept.{or-true}

-- a resident, where it passes the test
abbrev pub retained_if : (Present → Bool) → Option Present → Option Present
retained_if q None = None
retained_if q (Some x) = cond (q x) (Some x) None

pub present_filter : (q : Present → Bool) (xs : List Present) (block : BlockNo) → IsOnce xs
    → present_of (filter q xs) block ≡ retained_if q (present_of xs block)
present_filter q [] block once = refl
present_filter q (x ∷ xs) block once =
    go (present_filter q xs block once.1) (nat_eq x.block.0 block.0) refl (q x) refl
  where
    go : present_of (filter q xs) block ≡ retained_if q (present_of xs block) → (t : Bool)
        → nat_eq x.block.0 block.0 ≡ t → (u : Bool) → q x ≡ u
        → present_of (cond u (x ∷ filter q xs) (filter q xs)) block ≡ retained_if q
        (cond t (Some x) (present_of xs block))
    go rest true is true kept = ap (λ b. cond b (Some x) (present_of (filter q xs) block)) is
        ∙ sym (ap (λ b. cond b (Some x) None) kept)
    go rest true is false kept =
        let at : x.block ≡ block = same_block x.block block (eqb-true x.block.0 block.0 is) in
        find_none (is_of block) q xs (sym (ap (present_of xs) at) ∙ once.0)
        ∙ sym (ap (λ b. cond b (Some x) None) kept)
    go rest false is true kept = ap (λ b. cond b (Some x) (present_of (filter q xs) block)) is ∙ rest
    go rest false is false kept = rest

-- the resident that is found is the block's
pub found_at : (xs : List Present) (block : BlockNo) (x : Present) → present_of xs block ≡ Some x
    → x.block ≡ block
found_at xs block x e =
    let (same, there) = found_by (is_of block) xs x e in
    same_block x.block block (eqb-true x.block.0 block.0 same)

-- What is in memory after a sweep.
module _ (spare : Present → Bool) (holds : List Hold) (records : List Footprint) (present : List Present)
    (block : BlockNo) (once : IsOnce present) where
  abbrev stays : Present → Bool
  stays = is_left spare holds records

  pub swept_fetches : is_pending (present_of (swept spare holds records present) block)
      ≡ is_pending (present_of present block)
  swept_fetches = ap is_pending (present_filter stays present block once) ∙ go (present_of present block)
    where
      one : (x : Present) (c : Option Content) → x.content ≡ c → (u : Bool) → stays x ≡ u
          → is_pending (cond u (Some x) None) ≡ is_none x.content
      one x c e true is = refl
      one x (Some d) e false is = sym (ap is_none e)
      one x None e false is =
          absurd (let yes : stays x ≡ true = ap (λ (o : Option Content). spare x
          || (is_none o || is_taken holds x.block || is_read_by_uninstalled records x.block)) e ∙ or-true (spare x) in cc)

      go : (o : Option Present) → is_pending (retained_if stays o) ≡ is_pending o
      go None = refl
      go (Some x) = one x x.content refl (stays x) refl

  pub swept_comes : (c : Content) → content_in (present_of (swept spare holds records present) block) ≡ Some c
      → content_in (present_of present block) ≡ Some c
  swept_comes c e =
      go (present_of present block) (sym (ap content_in (present_filter stays present block once)) ∙ e)
    where
      one : (x : Present) (u : Bool) → content_in (cond u (Some x) None) ≡ Some c → x.content ≡ Some c
      one x true e = e
      one x false e = absurd (cc)

      go : (o : Option Present) → content_in (retained_if stays o) ≡ Some c → content_in o ≡ Some c
      go None e = e
      go (Some x) e = one x (stays x) e

or-both : (a b c : Bool) → (b || c) ≡ true → (a || b || c) ≡ true
or-both true b c e = refl
or-both false b c e = e

-- a block that is needed stays in memory
pub swept_stays : (spare : Present → Bool) (holds : List Hold) (records : List Footprint)
    (present : List Present) (block : BlockNo)
    (c : Content) → content_in (present_of present block) ≡ Some c
    → (is_taken holds block || is_read_by_uninstalled records block) ≡ true
    → content_in (present_of (swept spare holds records present) block) ≡ Some c
swept_stays spare holds records present block c e is = go (present_of present block) refl e
  where
    go : (o : Option Present) → present_of present block ≡ o → content_in o ≡ Some c
        → content_in (present_of (swept spare holds records present) block) ≡ Some c
    go None there e = absurd (cc)
    go (Some x) there e =
        let at : x.block ≡ block = found_at present block x there in
        let kept : is_left spare holds records x ≡ true =
        ap (λ (b : BlockNo). spare x || (is_none x.content || is_taken holds b || is_read_by_uninstalled records b)) at
        ∙ ap (λ t. spare x || t) (or-both (is_none x.content) (is_taken holds block) (is_read_by_uninstalled records block) is)
        ∙ or-true (spare x) in
        ap content_in (find_retained (is_of block) (is_left spare holds records) present x there kept) ∙ e

-- What is in memory once a block is there too.
module _ (present : List Present) (block : BlockNo) (content : Option Content) (at : BlockNo) where
  abbrev new_one : Present
  new_one = record { block = block; content = content }

  pub other_block : nat_eq at.0 block.0 ≡ false
      → present_of (with_block present block content) at ≡ present_of present at
  other_block differ = go (is_some (present_of present block)) (present_of present at) refl
    where
      away : nat_eq block.0 at.0 ≡ false
      away = ne_eqb block.0 at.0
          (λ same. absurd (let yes : nat_eq at.0 block.0 ≡ true = eq-eqb at.0 block.0 (sym same) in cc))

      go : (t : Bool) (o : Option Present) → present_of present at ≡ o
          → present_of (if t then present else present ++ new_one ∷ []) at ≡ present_of present at
      go true o e = refl
      go false (Some x) e = find_push_some (is_of at) present (new_one ∷ []) x e ∙ sym e
      go false None e = find_push_none (is_of at) present (new_one ∷ []) e
          ∙ ap (λ b. cond b (Some new_one) None) away ∙ sym e

  -- the block itself, where it has a resident and where it has none
  pub own_block : (x : Present) → present_of present block ≡ Some x
      → present_of (with_block present block content) block ≡ Some x
  own_block x e = ap (λ (o : Option Present). present_of
      (if is_some o then present else present ++ new_one ∷ []) block) e
      ∙ e

  pub new_block : present_of present block ≡ None
      → present_of (with_block present block content) block ≡ Some new_one
  new_block e = ap (λ (o : Option Present). present_of
      (if is_some o then present else present ++ new_one ∷ []) block) e
      ∙ find_push_none (is_of block) present (new_one ∷ []) e
      ∙ ap (λ b. cond b (Some new_one) None) (eq-eqb block.0 block.0 refl)

-- What is in memory once a block is filled in.
pub present_of-filled : (xs : List Present) (block : BlockNo) (content : Content) (at : BlockNo)
    → present_of (filled xs block content) at
    ≡ (if nat_eq at.0 block.0 then option_map (filled_one block content) (present_of xs at)
    else present_of xs at)
present_of-filled [] block content at = go (nat_eq at.0 block.0)
  where
    go : (t : Bool) → None ≡ (if t then option_map (filled_one block content) None else None)
    go true = refl
    go false = refl
present_of-filled (x ∷ xs) block content at =
    go (present_of-filled xs block content at) (nat_eq x.block.0 block.0) refl (nat_eq x.block.0 at.0) refl
    (nat_eq at.0 block.0) refl
  where
    go : present_of (filled xs block content) at
        ≡ (if nat_eq at.0 block.0 then option_map (filled_one block content) (present_of xs at)
        else present_of xs at)
        → (t : Bool) → nat_eq x.block.0 block.0 ≡ t → (u : Bool) → nat_eq x.block.0 at.0 ≡ u
        → (v : Bool) → nat_eq at.0 block.0 ≡ v
        → present_of (if t then filled_one block content x ∷ xs else x ∷ filled xs block content) at
        ≡ (if v then option_map (filled_one block content) (cond u (Some x) (present_of xs at))
        else cond u (Some x) (present_of xs at))
    go rest true a true b true c = ap (λ k. cond k (Some (filled_one block content x)) (present_of xs at)) b
    go rest true a true b false c =
        absurd (let same : at.0 ≡ block.0 = sym (eqb-true x.block.0 at.0 b) ∙ eqb-true x.block.0 block.0 a in
        let yes : nat_eq at.0 block.0 ≡ true = eq-eqb at.0 block.0 same in cc)
    go rest true a false b true c =
        absurd (let same : x.block.0 ≡ at.0 = eqb-true x.block.0 block.0 a ∙ sym (eqb-true at.0 block.0 c) in
        let yes : nat_eq x.block.0 at.0 ≡ true = eq-eqb x.block.0 at.0 same in cc)
    go rest true a false b false c = ap (λ k. cond k (Some (filled_one block content x)) (present_of xs at)) b
    go rest false a true b true c =
        absurd (let same : x.block.0 ≡ block.0 = eqb-true x.block.0 at.0 b ∙ eqb-true at.0 block.0 c in
        let yes : nat_eq x.block.0 block.0 ≡ true = eq-eqb x.block.0 block.0 same in cc)
    go rest false a true b false c = ap (λ k. cond k (Some x) (present_of (filled xs block content) at)) b
    go rest false a false b true c = ap (λ k. cond k (Some x) (present_of (filled xs block content) at)) b
        ∙ rest ∙ ap (λ (k : Bool). if k then option_map (filled_one block content) (present_of xs at)
        else present_of xs at) c
    go rest false a false b false c = ap (λ k. cond k (Some x) (present_of (filled xs block content) at)) b
        ∙ rest ∙ ap (λ (k : Bool). if k then option_map (filled_one block content) (present_of xs at)
        else present_of xs at) c

pub filled_memory : (xs : List Present) (block : BlockNo) (content : Content) (at : BlockNo)
    → content_in (present_of (filled xs block content) at)
    ≡ (if is_pending (present_of xs block) then (if nat_eq at.0 block.0 then Some content
    else content_in (present_of xs at)) else content_in (present_of xs at))
filled_memory xs block content at = ap content_in (present_of-filled xs block content at)
    ∙ go (nat_eq at.0 block.0) refl
  where
    own : (o : Option Present)
        → content_in (option_map (filled_one block content) o)
        ≡ (if is_pending o then Some content else content_in o)
    own None = refl
    own (Some x) = by x.content
      where
        by : (c : Option Content) → filled_in c content ≡ (if is_none c then Some content else c)
        by None = refl
        by (Some d) = refl

    else_same : (t : Bool) (o : Option Content) → o ≡ (if t then o else o)
    else_same true o = refl
    else_same false o = refl

    go : (v : Bool) → nat_eq at.0 block.0 ≡ v
        → content_in (if v then option_map (filled_one block content) (present_of xs at) else present_of xs at)
        ≡ (if is_pending (present_of xs block) then (if v then Some content else content_in (present_of xs at))
        else content_in (present_of xs at))
    go true same = own (present_of xs at)
        ∙ ap (λ (b : BlockNo). if is_pending (present_of xs b) then Some content else content_in
        (present_of xs at))
        (same_block at block (eqb-true at.0 block.0 same))
    go false other = else_same (is_pending (present_of xs block)) (content_in (present_of xs at))

pub filled_fetches : (xs : List Present) (block : BlockNo) (content : Content) (at : BlockNo)
    → is_pending (present_of (filled xs block content) at)
    ≡ (not (nat_eq at.0 block.0) && is_pending (present_of xs at))
filled_fetches xs block content at = ap is_pending (present_of-filled xs block content at)
    ∙ go (nat_eq at.0 block.0)
  where
    own : (o : Option Present) → is_pending (option_map (filled_one block content) o) ≡ false
    own None = refl
    own (Some x) = by x.content
      where
        by : (c : Option Content) → is_none (filled_in c content) ≡ false
        by None = refl
        by (Some d) = refl

    go : (v : Bool)
        → is_pending (if v then option_map (filled_one block content) (present_of xs at) else present_of xs at)
        ≡ (not v && is_pending (present_of xs at))
    go true = own (present_of xs at)
    go false = refl

-- What is in memory where a fetch has failed.
module _ (xs : List Present) (block : BlockNo) (at : BlockNo) (once : IsOnce xs) where
  abbrev stays_with : Present → Bool
  stays_with resident = not (nat_eq resident.block.0 block.0) || is_some resident.content

  pub failed_memory : content_in (present_of (without_pending xs block) at) ≡ content_in (present_of xs at)
  failed_memory = ap content_in (present_filter stays_with xs at once) ∙ go (present_of xs at)
    where
      one : (x : Present) (c : Option Content) → x.content ≡ c → (u : Bool) → stays_with x ≡ u
          → content_in (cond u (Some x) None) ≡ x.content
      one x c e true is = refl
      one x None e false is = sym e
      one x (Some d) e false is =
          absurd (let yes : stays_with x ≡ true =
          ap (λ (o : Option Content). not (nat_eq x.block.0 block.0) || is_some o) e
          ∙ or-true (not (nat_eq x.block.0 block.0)) in cc)

      go : (o : Option Present) → content_in (retained_if stays_with o) ≡ content_in o
      go None = refl
      go (Some x) = one x x.content refl (stays_with x) refl

  pub failed_fetches : is_pending (present_of (without_pending xs block) at)
      ≡ (not (nat_eq at.0 block.0) && is_pending (present_of xs at))
  failed_fetches = ap is_pending (present_filter stays_with xs at once) ∙ go (present_of xs at) refl
    where
      and-false : (t : Bool) → false ≡ (t && false)
      and-false true = refl
      and-false false = refl

      one : (x : Present) (t : Bool) (c : Option Content)
          → is_pending (cond (t || is_some c) (Some (record { block = x.block; content = c })) None)
          ≡ (t && is_none c)
      one x true c = refl
      one x false None = refl
      one x false (Some d) = refl

      go : (o : Option Present) → present_of xs at ≡ o
          → is_pending (retained_if stays_with o) ≡ (not (nat_eq at.0 block.0) && is_pending o)
      go None e = and-false (not (nat_eq at.0 block.0))
      go (Some x) e = one x (not (nat_eq x.block.0 block.0)) x.content
          ∙ ap (λ (b : BlockNo). not (nat_eq b.0 block.0) && is_none x.content) (found_at xs at x e)

-- What is in memory once it has what the log has.
module _ (log : Log) (xs : List Present) (at : BlockNo) where
  pub refreshed_memory : content_in (present_of (refreshed log xs) at)
      ≡ refreshed_content (content_in (present_of xs at)) (newest log at.0)
  refreshed_memory = ap content_in (present_of-refreshed log xs at) ∙ go (present_of xs at) refl
    where
      go : (o : Option Present) → present_of xs at ≡ o
          → content_in (option_map (refreshed_resident log) o) ≡ refreshed_content (content_in o) (newest log at.0)
      go None e = refl
      go (Some x) e = ap (λ (b : BlockNo). refreshed_content x.content (newest log b.0)) (found_at xs at x e)

  pub refreshed_fetches : is_pending (present_of (refreshed log xs) at) ≡ is_pending (present_of xs at)
  refreshed_fetches = ap is_pending (present_of-refreshed log xs at) ∙ go (present_of xs at)
    where
      by : (c l : Option Content) → is_none (refreshed_content c l) ≡ is_none c
      by None l = refl
      by (Some d) l = refl

      go : (o : Option Present) → is_pending (option_map (refreshed_resident log) o) ≡ is_pending o
      go None = refl
      go (Some x) = by x.content (newest log x.block.0)

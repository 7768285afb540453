-- What a stop leaves of an open store.
use Rattle.std.proofs.Common.{◌≡◌, ℕ, zero, suc, ◌+◌, ◌-◌, ◌<◌, ◌≤◌, ◌⊎◌, inl, inr, ap, sym, ◌∙◌, refl, arith}
use Rattle.std.proofs.Common.{Bool, true, false, if◌then◌else◌, ◌&&◌, List, [], ◌∷◌, Some, None, length}
use Rattle.std.proofs.Common.{take, drop, nat_eq, nat_le, nat_lt, All}
use Rattle.std.proofs.lemmas.Bool.Decides.{nat_tests}
use Rattle.base.specs.declared.TheConstants.{FIRST_HOME_BLOCK}
use Rattle.base.specs.declared.TheConstants.{START_BLOCK}
use Rattle.disk.specs.Crash.{Image}
use Rattle.disk.specs.Device.{Content}
use Rattle.disk.specs.declared.block.BlockNo.{BlockNo}
use Rattle.objects.specs.Spliced.{spliced}
use Rattle.nfs_spec.specs.Model.Entry.{Entry}
use Rattle.nfs_spec.specs.Procedures.After.{after}
use Rattle.nfs_spec.specs.Model.Tree.{Tree}
use Rattle.layout.specs.declared.geometry.Geometry.{Geometry}
use Rattle.layout.specs.Homes.{is_home}
use Rattle.layout.specs.Stands.{Stands}
use Rattle.circ.specs.declared.log.change.LogChange.{LogChange}
use Rattle.circ.specs.Log.Effects.{newest_in}
use Rattle.circ.specs.Log.Law.{IsAfter, IsBoundary, IsOutside, pairs_of, with_changes}
use Rattle.circ.specs.Log.Log.{IsHomeOn, IsLawful, Log, newest_of, or_else}
use Rattle.circ.specs.Log.Overlay.{content_or, logged_in, over}
use Rattle.txn_law.specs.Object.{ObjectBytes}
use Rattle.txn_law.specs.Window.{AreInLog, Footprint, IsInLog, after_commits}
use Rattle.txn_law.specs.Window.{with_object, with_objects}
use Rattle.store_promise.specs.OpenStore.{IsChain}
use Rattle.store_promise.proofs.Chains.{chain_leads}

-- ---- a chain holds up to each of its commits, and leads on from there

pub chain_to : (g : Geometry) (blocks : Image) (tree : Tree) (commits : List Footprint) (entries : List Entry)
    (last : Tree) (k : ℕ)
    → IsChain g blocks tree commits entries last → k ≤ length commits
    → (left : Tree) × after tree (take k entries) left × Stands g (after_commits blocks (take k commits)) left
    × after left (drop k entries) last
chain_to g blocks tree [] [] last zero chain fits = (tree, refl, chain.0, chain.1)
chain_to g blocks tree [] [] last (suc k) chain fits = absurd (omega (arith, fits))
chain_to g blocks tree (commit ∷ commits) (entry ∷ entries) last zero chain fits =
    (tree, refl, chain.0, chain_leads g blocks tree (commit ∷ commits) (entry ∷ entries) last chain)
chain_to g blocks tree (commit ∷ commits) (entry ∷ entries) last (suc k) chain fits =
    let rest = chain_to g (with_objects blocks commit.written) chain.1 commits entries last k chain.3
    (omega (arith, fits)) in (rest.0, (chain.1, chain.2, rest.1), rest.2, rest.3)
chain_to g blocks tree [] (entry ∷ entries) last k chain fits = absurd chain
chain_to g blocks tree (commit ∷ commits) [] last k chain fits = absurd chain

pub chain_long : (g : Geometry) (blocks : Image) (tree : Tree) (commits : List Footprint) (entries : List Entry)
    (last : Tree) → IsChain g blocks tree commits entries last → length commits ≡ length entries
chain_long g blocks tree [] [] last chain = refl
chain_long g blocks tree (commit ∷ commits) (entry ∷ entries) last chain =
    ap suc (chain_long g (with_objects blocks commit.written) chain.1 commits entries last chain.3)
chain_long g blocks tree [] (entry ∷ entries) last chain = absurd chain
chain_long g blocks tree (commit ∷ commits) [] last chain = absurd chain

-- ---- a block after commits comes of that block alone

with_same : (objects : List ObjectBytes) (one other : Image) (block : ℕ) → one block ≡ other block
    → with_objects one objects block ≡ with_objects other objects block
with_same [] one other block same = same
with_same (object ∷ objects) one other block same =
    with_same objects (with_object one object) (with_object other object) block
    (ap (λ (content : Content). if nat_eq block object.addr.block.0
    then spliced content object.addr.offset object.bytes else content) same)

pub after_same : (commits : List Footprint) (one other : Image) (block : ℕ) → one block ≡ other block
    → after_commits one commits block ≡ after_commits other commits block
after_same [] one other block same = same
after_same (commit ∷ commits) one other block same =
    after_same commits (with_objects one commit.written) (with_objects other commit.written) block
    (with_same commit.written one other block same)

-- ---- and is as it was, where no commit writes it

first_of_all : {A : Type 0} (P : A → Type 0) (x : A) (xs : List A) → All P (x ∷ xs) → P x
first_of_all P x xs all = all zero x (omega arith)

rest_of_all : {A : Type 0} (P : A → Type 0) (x : A) (xs : List A) → All P (x ∷ xs) → All P xs
rest_of_all P x xs all = λ k d less. all (suc k) d (omega (arith, less))

module _ (changes : List LogChange) (block : ℕ) (none : newest_of changes block ≡ None) where
  other_block : (object : ObjectBytes) → IsInLog changes object → nat_eq block object.addr.block.0 ≡ false
  other_block object is = by_test (nat_eq block object.addr.block.0) refl
    where
      by_test : (same : Bool) → nat_eq block object.addr.block.0 ≡ same → same ≡ false
      by_test false e = refl
      by_test true e =
          let here : object.addr.block.0 ≡ block = grind (arith, nat_tests) in
          let found = ap (newest_of changes) here in
          let content = is.1 in cc

  objects_aside : (objects : List ObjectBytes) (blocks : Image) → All (IsInLog changes) objects
      → with_objects blocks objects block ≡ blocks block
  objects_aside [] blocks all = refl
  objects_aside (object ∷ objects) blocks all =
      objects_aside objects (with_object blocks object) (rest_of_all (IsInLog changes) object objects all)
      ∙ ap (λ b. if b then spliced (blocks block) object.addr.offset object.bytes else blocks block)
      (other_block object (first_of_all (IsInLog changes) object objects all))

  pub commits_aside : (commits : List Footprint) (k : ℕ) (blocks : Image) → All (AreInLog changes) commits
      → after_commits blocks (take k commits) block ≡ blocks block
  commits_aside commits zero blocks all = refl
  commits_aside [] (suc k) blocks all = refl
  commits_aside (commit ∷ commits) (suc k) blocks all =
      commits_aside commits k (with_objects blocks commit.written)
      (rest_of_all (AreInLog changes) commit commits all)
      ∙ objects_aside commit.written blocks (first_of_all (AreInLog changes) commit commits all)

-- ---- the log has homes alone

differs : (a b : ℕ) → (a ≡ b → ⊥) → nat_eq a b ≡ false
differs a b e = grind (arith, nat_tests)

pub no_change : (size block : ℕ) → (FIRST_HOME_BLOCK ≤ block → block < size → ⊥) → (changes : List LogChange)
    (n : ℕ) → All (λ (change : LogChange). IsHomeOn size change.block) changes
    → newest_of (take n changes) block ≡ None
no_change size block outside changes zero all = refl
no_change size block outside [] (suc n) all = refl
no_change size block outside (change ∷ later) (suc n) all =
    let home = first_of_all (λ (one : LogChange). IsHomeOn size one.block) change later all in
    let other : nat_eq change.block.0 block ≡ false =
    differs change.block.0 block (λ same. outside (omega (arith, home.0, same))
    (omega (arith, home.1, same))) in
    let rest = no_change size block outside later n
    (rest_of_all (λ (one : LogChange). IsHomeOn size one.block) change later all) in
    λ i. or_else (rest i) (if other i then Some change.content else None)

-- ---- homes

all_two : (a b : Bool) → (a && b) ≡ true → (a ≡ true) × (b ≡ true)
all_two true true h = (refl, refl)
all_two true false h = cc
all_two false b h = cc

both_true : (a b : Bool) → a ≡ true → b ≡ true → (a && b) ≡ true
both_true true true x y = refl
both_true true false x y = cc
both_true false b x y = cc

pub outside_of : (size number : ℕ) → is_home size number ≡ true → IsOutside size number
outside_of size number is =
    let tests = all_two (nat_le FIRST_HOME_BLOCK number) (nat_lt number size) is in
    (below number size tests.1, inr (above number tests.0))
  where
    below : (number size : ℕ) → nat_lt number size ≡ true → number < size
    below number size is = grind (arith, nat_tests)

    from : (number : ℕ) → nat_le FIRST_HOME_BLOCK number ≡ true → FIRST_HOME_BLOCK ≤ number
    from number is = grind (arith, nat_tests)

    above : (number : ℕ) → nat_le FIRST_HOME_BLOCK number ≡ true → START_BLOCK < number
    above number is = let first = from number is in omega (arith, first)

pub not_home : (size number : ℕ) → is_home size number ≡ false → FIRST_HOME_BLOCK ≤ number → number < size → ⊥
not_home size number is from less =
    let home : is_home size number ≡ true =
    both_true (nat_le FIRST_HOME_BLOCK number) (nat_lt number size) (grind (arith, nat_tests))
    (grind (arith, nat_tests)) in cc

pub take_len : (xs : List LogChange) → take (length xs) xs ≡ xs
take_len [] = refl
take_len (x ∷ xs) = ap (λ (ys : List LogChange). x ∷ ys) (take_len xs)

-- ---- so the log that an image shows lays nothing over a block that is none

all_behind : {A : Type 0} (P : A → Type 0) (n : ℕ) (xs : List A) → All P xs → All P (drop n xs)
all_behind P zero xs all = all
all_behind P (suc n) [] all = all
all_behind P (suc n) (x ∷ xs) all = all_behind P n xs (rest_of_all P x xs all)

no_pair : (size block : ℕ) → (FIRST_HOME_BLOCK ≤ block → block < size → ⊥) → (n : ℕ)
    (changes : List LogChange) → All (λ (change : LogChange). IsHomeOn size change.block) changes
    → newest_in (pairs_of (take n changes)) block ≡ None
no_pair size block outside zero changes all = refl
no_pair size block outside (suc n) [] all = refl
no_pair size block outside (suc n) (change ∷ later) all =
    let home = first_of_all (λ (one : LogChange). IsHomeOn size one.block) change later all in
    let other : nat_eq change.block.0 block ≡ false =
    differs change.block.0 block (λ same. outside (omega (arith, home.0, same))
    (omega (arith, home.1, same))) in
    let rest = no_pair size block outside n later
    (rest_of_all (λ (one : LogChange). IsHomeOn size one.block) change later all) in
    λ i. or_else (rest i) (if other i then Some change.content else None)

pub shows_nothing : (log : Log) (base image : Image) (block : ℕ)
    → (FIRST_HOME_BLOCK ≤ block → block < log.blocks → ⊥) → IsLawful log → IsBoundary base log image
    → over image block ≡ image block
shows_nothing log base image block outside lawful boundary =
    let shown = boundary.positions in
    let none : newest_in (logged_in image) block ≡ None =
    ap (λ (pairs : List (BlockNo × Content)). newest_in pairs block) shown.changes
    ∙ no_pair log.blocks block outside (shown.end - shown.first) (drop shown.first log.changes)
    (all_behind (λ (change : LogChange). IsHomeOn log.blocks change.block) shown.first log.changes
    lawful.homes) in
    ap (λ found. content_or found (image block)) none

pub as_at_home : (log : Log) (base image : Image) (block : ℕ)
    → (FIRST_HOME_BLOCK ≤ block → block < log.blocks → ⊥) → IsOutside log.blocks block → IsLawful log
    → IsBoundary base log image → image block ≡ base block
as_at_home log base image block outside within lawful boundary =
    sym (shows_nothing log base image block outside lawful boundary) ∙ by_groups boundary.blocks
  where
    bare : (n : ℕ) → with_changes base (take n log.changes) block ≡ base block
    bare n = ap (λ found. content_or found (base block))
        (no_change log.blocks block outside log.changes n lawful.homes)

    by_groups : IsAfter base log log.logged image ⊎ IsAfter base log (log.logged + log.taken) image
        → over image block ≡ base block
    by_groups (inl after) = after block within ∙ bare log.logged
    by_groups (inr after) = after block within ∙ bare (log.logged + log.taken)

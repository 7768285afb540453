-- Lemmas: a commit keeps the window.
use Rattle.std.proofs.Common.{◌≡◌, ℕ, ◌+◌, ◌<◌, ◌≤◌, Bool, true, false, ◌&&◌, nat_eq, nat_lt, if◌then◌else◌}
use Rattle.std.proofs.Common.{List, [], ◌∷◌, ◌++◌, length, length-append, take, drop, All, Option, Some, None}
use Rattle.std.proofs.Common.{refl, sym, ap, subst, ◌∙◌, arith}
use Rattle.std.proofs.lemmas.Bool.{eqb-true, lt-ltb}
use Rattle.std.proofs.lemmas.List.{drop-append-le, drop_all, take-append-le, take_all, length-drop}
use Rattle.std.proofs.lemmas.Bool.Decides.{nat_tests}
use Rattle.std.proofs.lemmas.List.Elements.{All-nil, All-push, All-weaker}
use Rattle.disk.specs.Device.{Content}
use Rattle.disk.specs.Crash.{Image}
use Rattle.disk.specs.declared.block.BlockNo.{BlockNo}
use Rattle.circ.specs.Log.Law.{with_changes}
use Rattle.circ.specs.Log.Log.{Log, IsLawful, newest_of, or_else, place_before, installed_place}
use Rattle.circ.specs.Log.Overlay.{content_or}
use Rattle.circ.specs.Log.Effects.{newest_in}
use Rattle.circ.proofs.LogLemmas.Newest.{place_before-all}
use Rattle.circ.specs.Log.Grows.{recovered, GrowsBy}
use Rattle.objects.specs.Object.{ObjectBytes}
use Rattle.txn_law.specs.Window.{Footprint, Follow, with_objects, after_commits}
use Rattle.txn_law.specs.Window.{opening, now_of, GroupEnd, at_first, at_installed, at_logged}
use Rattle.txn_law.specs.Window.{at_taken, at_last, ArePlaced, commits_among, LeadsTo, IsInLog, AreInLog}
use Rattle.txn_law.specs.Window.{ArePinned, IsCurrent, IsWindowOver}
use Rattle.txn_law.specs.Steps.{IsBrought, IsCovered, with_commit}
use Rattle.circ.proofs.LogLemmas.Ends.{no_changes, empty_list, place_le}
use Rattle.txn_law.proofs.Commits.{after_commits-append, follow-append, placed-append}

pub take_nil : {X : Type 0} (n : ℕ) → take {A = X} n [] ≡ []
take_nil {X} n = take_all {A = X} n [] (omega arith)

-- a log without changes has the window of no commits
pub none_window : (base : Image) (log : Log) (held : List (ℕ × Content)) → log.changes ≡ []
    → All (IsCurrent base) held → IsWindowOver base log [] held
none_window base log held e memory = record {
  follow = tt;
  placed = tt;
  all = omega (arith, ap (λ xs. place_before xs log.places) e);
  opened = λ some. ap (λ xs. recovered (drop log.installing xs)) e
      ∙ ap recovered (drop_all log.installing [] (omega arith));
  group = λ count end clean block. ap (λ xs. with_changes base (take count xs) block) e ∙ none count block
      ∙ sym (ap (λ xs. with_changes base (recovered xs) block) e ∙ refl)
      ∙ sym (ap (λ (xs : List Footprint). after_commits (opening base log) xs block)
      (take_nil (commits_among log count)));
  written = λ count end. subst (λ xs. All (AreInLog (drop count log.changes)) xs)
      (sym (drop_all (commits_among log count) [] (omega arith)))
      (All-nil (AreInLog (drop count log.changes)));
  memory = subst (λ (b : Image). All (IsCurrent b) held) (sym (ap (λ xs. with_changes base (recovered xs)) e))
      memory;
  pinned = All-nil (ArePinned held);
}
  where
    none : (count block : ℕ) → with_changes base (take count []) block ≡ base block
    none count block = ap (λ xs. with_changes base xs block) (take_nil count)

content_or-or_else : (a b : Option Content) (c : Content)
    → content_or (or_else a b) c ≡ content_or a (content_or b c)
content_or-or_else (Some a) b c = refl
content_or-or_else None b c = refl

not_below : (a b : ℕ) → b ≤ a → nat_lt a b ≡ false
not_below a b h = grind (arith, nat_tests)

below : (a b : ℕ) → a < b → nat_lt a b ≡ true
below a b h = lt-ltb a b h

-- an end of the new log that isn't behind its last change is one of the old
data Which (old new : Log) (count : ℕ) : Type 0 where
  older : GroupEnd old count → count ≤ old.logged + old.taken → Which old new count
  newer : count ≡ length new.changes → Which old new count

both-true : (a b : Bool) → (a && b) ≡ true → (a ≡ true) × (b ≡ true)
both-true true true e = (refl, refl)
both-true true false e = absurd (cc)
both-true false b e = absurd (cc)

module _ (base : Image) (old new : Log) (commits : List Footprint) (held kept : List (ℕ × Content))
    (commit : Footprint) (group : List (BlockNo × Content))
    (lawful : IsLawful old) (grows : GrowsBy old group new) (at : commit.place ≡ new.places)
    (brought : IsBrought (now_of base old commits) commit group)
    (memory : All (IsCurrent (with_objects (now_of base old commits) commit.written)) kept)
    (window : IsWindowOver base old commits held) where
  which : (count : ℕ) → GroupEnd new count → Which old new count
  which count (at_first e) = older (at_first e) (omega arith)
  which count (at_installed e) =
      older (at_installed (e ∙ grows.installing)) (omega (arith, grows.installing, lawful.installing))
  which count (at_logged e) = older (at_logged (e ∙ grows.logged)) (omega (arith, grows.logged))
  which count (at_taken e) = let same : count ≡ old.logged + old.taken =
      omega (arith, grows.logged, grows.taken) in older (at_taken same) (omega arith)
  which count (at_last e) = newer e

  from : opening base new ≡ opening base old
  from = ap (λ xs. with_changes base xs) (grows.opened 0 (omega arith))

  -- the log and the group were empty
  at_once : nat_eq (length old.changes) 0 ≡ true → nat_eq (length group) 0 ≡ true
      → IsWindowOver base new (with_commit new commit commits) kept
  at_once no_change no_group =
      let none : old.changes ≡ [] = empty_list old.changes no_change in
      let nothing : group ≡ [] = empty_list group no_group in
      let place : installed_place new ≡ old.places + 1 = grows.place 0 (omega arith)
      ∙ ap (λ (t : Bool). if t && nat_eq (length group) 0 then old.places + 1 else installed_place old)
      no_change ∙ ap (λ (t : Bool). if t then old.places + 1 else installed_place old) no_group in
      let was : installed_place old ≡ old.places = ap (λ xs. place_before xs old.places) none in
      let few : length commits ≡ 0 = omega (arith, window.all) in
      let empty : commits ≡ [] = empty_list commits (ap (λ n. nat_eq n 0) few) in
      let preserved_out : with_commit new commit commits ≡ [] =
      ap (λ (t : Bool). if t then commits ++ commit ∷ [] else commits)
      (not_below (installed_place new) commit.place (omega (arith, at, grows.places, place))) ∙ empty in
      let changes : new.changes ≡ [] =
      no_changes new.changes (λ block. grows.behind 0 (omega arith) block
      ∙ ap (λ g. or_else (newest_in g block) (newest_of old.changes block)) nothing
      ∙ ap (λ xs. newest_of xs block) none) in
      let now : (block : ℕ) → with_objects (now_of base old commits) commit.written block ≡ base block =
      λ block. sym (brought.overlaid_content block)
      ∙ ap (λ g. content_or (newest_in g block) (now_of base old commits block)) nothing
      ∙ ap (λ cs. now_of base old cs block) empty ∙ ap (λ xs. with_changes base (recovered xs) block) none in
      let memory' : All (IsCurrent base) kept =
      All-weaker (IsCurrent (with_objects (now_of base old commits) commit.written)) (IsCurrent base)
      (λ resident same. same ∙ now resident.0) kept memory in
      subst (λ cs. IsWindowOver base new cs kept) (sym preserved_out) (none_window base new kept changes memory')

  now_new : now_of base new (commits ++ commit ∷ []) ≡ with_objects (now_of base old commits) commit.written
  now_new = ap (λ b. after_commits b (commits ++ commit ∷ [])) from
      ∙ after_commits-append (opening base old) commits (commit ∷ [])

  -- the old log leads to the old commits
  pub all_now : (block : ℕ) → with_changes base old.changes block ≡ now_of base old commits block
  all_now block =
      let end : ℕ = length old.changes in
      let clean : recovered (drop end old.changes) ≡ [] =
      ap recovered (drop_all end old.changes (omega arith)) in
      let place : place_before (drop end old.changes) old.places ≡ old.places =
      place_before-all old.changes end old.places (omega arith) in
      let n : length commits ≤ commits_among old end = omega (arith, place, window.all) in
      ap (λ xs. with_changes base xs block) (sym (take_all end old.changes (omega arith)))
      ∙ window.group end (at_last refl) clean block
      ∙ ap (λ xs. after_commits (opening base old) xs block) (take_all (commits_among old end) commits n)

  pub all_new : (block : ℕ)
      → with_changes base new.changes block ≡ with_objects (now_of base old commits) commit.written block
  all_new block = ap (λ o. content_or o (base block)) (grows.behind 0 (omega arith) block)
      ∙ content_or-or_else (newest_in group block) (newest_of old.changes block) (base block)
      ∙ ap (λ c. content_or (newest_in group block) c) (all_now block) ∙ brought.overlaid_content block

  size : length (commits ++ commit ∷ []) ≡ length commits + 1
  size = length-append commits (commit ∷ [])

  -- the commit is kept
  more : (pinned : All (ArePinned kept) (commits ++ commit ∷ [])) → installed_place new ≡ installed_place old
      → IsWindowOver base new (commits ++ commit ∷ []) kept
  more pinned place = record {
    follow = subst (λ b. Follow b (commits ++ commit ∷ [])) (sym from)
        (follow-append (opening base old) commits commit window.follow brought.read);
    placed = subst (λ (p : ℕ). ArePlaced (p + 1) (commits ++ commit ∷ [])) (sym place)
        (placed-append (installed_place old + 1) commits commit window.placed
        (omega (arith, at, grows.places, window.all)));
    all = omega (arith, place, size, window.all, grows.places);
    opened = λ some. grows.opened new.installing (omega (arith, grows.installing, lawful.installing))
        ∙ ap (λ n. recovered (drop n old.changes)) grows.installing
        ∙ window.opened (omega (arith, some, grows.installing));
    group = λ count end clean. group_of count clean (which count end);
    written = λ count end. written_of count (which count end);
    memory = subst (λ (b : Image). All (IsCurrent b) kept) (sym now_new) memory;
    pinned = pinned;
  }
    where
      is_last : ℕ → Bool
      is_last count = nat_eq (length (drop count old.changes)) 0 && nat_eq (length group) 0

      behind_all : (count : ℕ) → place_before (drop count new.changes) new.places ≡ old.places + 1
          → length (commits ++ commit ∷ []) ≤ commits_among new count
      behind_all count e = omega (arith, e, place, size, window.all)

      -- where all the commits are among the changes
      leads_all : (count : ℕ) → place_before (drop count new.changes) new.places ≡ old.places + 1
          → ((block : ℕ)
          → with_changes base (take count new.changes) block
          ≡ with_objects (now_of base old commits) commit.written block)
          → LeadsTo base new (commits ++ commit ∷ []) count
      leads_all count e same block = same block ∙ sym (ap (λ (b : Image). b block) now_new)
          ∙ sym (ap (λ xs. after_commits (opening base new) xs block)
          (take_all (commits_among new count) (commits ++ commit ∷ []) (behind_all count e)))

      written_all : (count : ℕ) → place_before (drop count new.changes) new.places ≡ old.places + 1
          → All (AreInLog (drop count new.changes)) (drop (commits_among new count) (commits ++ commit ∷ []))
      written_all count e =
          subst (λ xs. All (AreInLog (drop count new.changes)) xs)
          (sym (drop_all (commits_among new count) (commits ++ commit ∷ []) (behind_all count e)))
          (All-nil (AreInLog (drop count new.changes)))

      few : (count : ℕ) → commits_among old count ≤ length commits
      few count = omega (arith, place_le old.changes old.places count lawful.rising, window.all)

      among : (count : ℕ)
          → place_before (drop count new.changes) new.places
          ≡ place_before (drop count old.changes) old.places
          → commits_among new count ≡ commits_among old count
      among count e = omega (arith, e, place)

      end_of : (count : ℕ) → length new.changes ≤ count
          → place_before (drop count new.changes) new.places ≡ old.places + 1
      end_of count le = place_before-all new.changes count new.places le ∙ grows.places

      group_older : (count : ℕ) → recovered (drop count new.changes) ≡ [] → GroupEnd old count
          → count ≤ old.logged + old.taken → (t : Bool) → is_last count ≡ t
          → LeadsTo base new (commits ++ commit ∷ []) count
      group_older count clean end le true e block =
          let both = both-true (nat_eq (length (drop count old.changes)) 0) (nat_eq (length group) 0) e in
          let past : length (drop count old.changes) ≡ 0 =
          eqb-true (length (drop count old.changes)) 0 both.0 in
          let nothing : group ≡ [] = empty_list group both.1 in
          let whole : length old.changes ≤ count = omega (arith, length-drop count old.changes) in
          leads_all count (grows.place count le
          ∙ ap (λ (t : Bool). if t then old.places + 1
          else place_before (drop count old.changes) old.places) e)
          (λ block. ap (λ xs. with_changes base xs block) (grows.leading count le
          ∙ take_all count old.changes whole) ∙ all_now block
          ∙ ap (λ g. content_or (newest_in g block) (now_of base old commits block)) (sym nothing)
          ∙ brought.overlaid_content block) block
      group_older count clean end le false e block =
          let p : place_before (drop count new.changes) new.places
          ≡ place_before (drop count old.changes) old.places =
          grows.place count le
          ∙ ap (λ (t : Bool). if t then old.places + 1
          else place_before (drop count old.changes) old.places) e in
          ap (λ xs. with_changes base xs block) (grows.leading count le)
          ∙ window.group count end (sym (grows.opened count le) ∙ clean) block
          ∙ ap (λ (b : Image). after_commits b (take (commits_among old count) commits) block) (sym from)
          ∙ ap (λ xs. after_commits (opening base new) xs block)
          (sym (ap (λ n. take n (commits ++ commit ∷ [])) (among count p)
          ∙ take-append-le (commits_among old count) commits (commit ∷ []) (few count)))

      group_of : (count : ℕ) → recovered (drop count new.changes) ≡ [] → Which old new count
          → LeadsTo base new (commits ++ commit ∷ []) count
      group_of count clean (older end le) = group_older count clean end le (is_last count) refl
      group_of count clean (newer e) =
          leads_all count (end_of count (omega arith))
          (λ block. ap (λ xs. with_changes base xs block) (take_all count new.changes (omega arith))
          ∙ all_new block)

      in_either : (found a b : Option Content) (content : Content) → found ≡ or_else a b → b ≡ Some content
          → (c : Content) × (found ≡ Some c)
      in_either found (Some c) b content e has = (c, e)
      in_either found None b content e has = (content, e ∙ has)

      in_group : (found a b : Option Content) (content : Content) → found ≡ or_else a b → a ≡ Some content
          → (c : Content) × (found ≡ Some c)
      in_group found a b content e has = (content, e ∙ ap (λ o. or_else o b) has)

      written_older : (count : ℕ) → GroupEnd old count → count ≤ old.logged + old.taken → (t : Bool)
          → is_last count ≡ t
          → All (AreInLog (drop count new.changes)) (drop (commits_among new count) (commits ++ commit ∷ []))
      written_older count end le true e =
          written_all count (grows.place count le
          ∙ ap (λ (t : Bool). if t then old.places + 1 else place_before (drop count old.changes) old.places)
          e)
      written_older count end le false e =
          let p : place_before (drop count new.changes) new.places
          ≡ place_before (drop count old.changes) old.places =
          grows.place count le
          ∙ ap (λ (t : Bool). if t then old.places + 1
          else place_before (drop count old.changes) old.places) e in
          let split : drop (commits_among new count) (commits ++ commit ∷ [])
          ≡ drop (commits_among old count) commits ++ commit ∷ [] =
          ap (λ n. drop n (commits ++ commit ∷ [])) (among count p)
          ∙ drop-append-le (commits_among old count) commits (commit ∷ []) (few count) in
          let older : (object : ObjectBytes) → IsInLog (drop count old.changes) object
          → IsInLog (drop count new.changes) object =
          λ object has. in_either (newest_of (drop count new.changes) object.addr.block.0)
          (newest_in group object.addr.block.0) (newest_of (drop count old.changes) object.addr.block.0)
          has.0 (grows.behind count le object.addr.block.0) has.1 in
          let newer : (object : ObjectBytes) → IsCovered group object
          → IsInLog (drop count new.changes) object =
          λ object has. in_group (newest_of (drop count new.changes) object.addr.block.0)
          (newest_in group object.addr.block.0) (newest_of (drop count old.changes) object.addr.block.0)
          has.0 (grows.behind count le object.addr.block.0) has.1 in
          subst (λ xs. All (AreInLog (drop count new.changes)) xs) (sym split)
          (All-push (AreInLog (drop count new.changes)) (drop (commits_among old count) commits) commit
          (All-weaker (AreInLog (drop count old.changes)) (AreInLog (drop count new.changes))
          (λ x has. All-weaker (IsInLog (drop count old.changes)) (IsInLog (drop count new.changes)) older
          x.written has)
          (drop (commits_among old count) commits) (window.written count end))
          (All-weaker (IsCovered group) (IsInLog (drop count new.changes)) newer commit.written
          brought.covered))

      written_of : (count : ℕ) → Which old new count
          → All (AreInLog (drop count new.changes)) (drop (commits_among new count) (commits ++ commit ∷ []))
      written_of count (older end le) = written_older count end le (is_last count) refl
      written_of count (newer e) = written_all count (end_of count (omega arith))

  -- either way
  pub preserved_by_commit : All (ArePinned kept) (with_commit new commit commits)
      → IsWindowOver base new (with_commit new commit commits) kept
  preserved_by_commit pinned = go (nat_eq (length old.changes) 0 && nat_eq (length group) 0) refl
    where
      go : (t : Bool) → (nat_eq (length old.changes) 0 && nat_eq (length group) 0) ≡ t
          → IsWindowOver base new (with_commit new commit commits) kept
      go true e = let both = both-true (nat_eq (length old.changes) 0) (nat_eq (length group) 0) e in
          at_once both.0 both.1
      go false e =
          let place : installed_place new ≡ installed_place old = grows.place 0 (omega arith)
          ∙ ap (λ (t : Bool). if t then old.places + 1 else installed_place old) e in
          let le : installed_place old ≤ old.places = place_le old.changes old.places 0 lawful.rising in
          let same : with_commit new commit commits ≡ commits ++ commit ∷ [] =
          ap (λ (t : Bool). if t then commits ++ commit ∷ [] else commits)
          (below (installed_place new) commit.place (omega (arith, at, grows.places, place, le))) in
          subst (λ cs. IsWindowOver base new cs kept) (sym same)
          (more (subst (λ cs. All (ArePinned kept) cs) same pinned) place)

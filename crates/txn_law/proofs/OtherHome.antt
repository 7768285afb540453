-- Lemmas: a block that the log doesn't have, nobody has in memory and no kept commit read may be anything at
-- home.
use Rattle.std.proofs.Common.{◌≡◌, ℕ, Bool, true, false, if◌then◌else◌, nat_eq, List, [], ◌∷◌}
use Rattle.std.proofs.Common.{take, drop, All, Option, Some, None, refl, sym, ap, subst, ◌∙◌, arith, zero, suc}
use Rattle.std.proofs.Common.{get_or}
use Rattle.std.specs.Prelude.{Contains}
use Rattle.std.specs.List.{AllByRecursion}
use Rattle.std.proofs.lemmas.Bool.{eqb-true, eq-eqb}
use Rattle.std.proofs.lemmas.List.Elements.{All-head, All-tail, All-weaker, All-take, All-contains_itself}
use Rattle.disk.specs.Device.{Content}
use Rattle.disk.specs.Crash.{Image}
use Rattle.circ.specs.declared.log.change.LogChange.{LogChange}
use Rattle.circ.specs.Log.Grows.{recovered}
use Rattle.circ.specs.Log.Law.{with_changes, with_home}
use Rattle.circ.specs.Log.Log.{Log, newest, newest_of, or_else}
use Rattle.circ.specs.Log.Overlay.{content_or}
use Rattle.objects.specs.Spliced.{spliced}
use Rattle.objects.specs.Object.{ObjectBytes}
use Rattle.txn_law.specs.Window.{Footprint, Follow, IsAsRead, part, with_object, with_objects, after_commits}
use Rattle.txn_law.specs.Window.{opening, now_of, at_first, commits_among, AreInLog, IsInLog}
use Rattle.txn_law.specs.Window.{IsCurrent, IsWindowOver}

pub either : (a b : Option Content) → or_else a b ≡ None → (a ≡ None) × (b ≡ None)
either (Some c) b e = absurd (cc)
either None b e = (refl, e)

-- a block that no change has is in no part of the changes
none_recovered : (xs : List LogChange) (block : ℕ) → newest_of xs block ≡ None
    → newest_of (recovered xs) block ≡ None
none_recovered [] block e = refl
none_recovered (x ∷ xs) block e =
    let (later, here) = either (newest_of xs block)
    (if nat_eq x.block.0 block then Some x.content else None) e in
    go (none_recovered xs block later) here (nat_eq x.place 0)
  where
    go : newest_of (recovered xs) block ≡ None
        → ◌≡◌ {A = Option Content} (if nat_eq x.block.0 block then Some x.content else None) None
        → (t : Bool) → newest_of (if t then x ∷ recovered xs else recovered xs) block ≡ None
    go rest here true = ap (λ o. or_else o
        (if nat_eq x.block.0 block then Some x.content else None)) rest ∙ here
    go rest here false = rest

none_taken : (xs : List LogChange) (n block : ℕ) → newest_of xs block ≡ None
    → newest_of (take n xs) block ≡ None
none_taken xs zero block e = refl
none_taken [] (suc n) block e = refl
none_taken (x ∷ xs) (suc n) block e =
    let (later, here) = either (newest_of xs block)
    (if nat_eq x.block.0 block then Some x.content else None) e in
    ap (λ o. or_else o (if nat_eq x.block.0 block then Some x.content else None)) (none_taken xs n block later)
    ∙ here

module _ (at : ℕ) where
  -- the blocks but this one are the same
  abbrev pub AreSame : Image → Image → Type 0
  AreSame f g = (block : ℕ) → (block ≡ at → ⊥) → f block ≡ g block

  -- the object lies elsewhere
  abbrev pub IsElsewhere : ObjectBytes → Type 0
  IsElsewhere object = object.addr.block.0 ≡ at → ⊥

  abbrev pub AreElsewhere : Footprint → Type 0
  AreElsewhere commit = All IsElsewhere commit.read × All IsElsewhere commit.written

  same_object : (f g : Image) (o : ObjectBytes) → AreSame f g → AreSame (with_object f o) (with_object g o)
  same_object f g o same block else' =
      ap (λ (c : Content). if nat_eq block o.addr.block.0 then spliced c o.addr.offset o.bytes else c)
      (same block else')

  same_objects : (f g : Image) (os : List ObjectBytes) → AreSame f g
      → AreSame (with_objects f os) (with_objects g os)
  same_objects f g [] same = same
  same_objects f g (o ∷ os) same =
      same_objects (with_object f o) (with_object g o) os (same_object f g o same)

  same_commits : (f g : Image) (cs : List Footprint) → AreSame f g
      → AreSame (after_commits f cs) (after_commits g cs)
  same_commits f g [] same = same
  same_commits f g (c ∷ cs) same =
      same_commits (with_objects f c.written) (with_objects g c.written) cs (same_objects f g c.written same)

  left_object : (f : Image) (o : ObjectBytes) → IsElsewhere o → with_object f o at ≡ f at
  left_object f o else' = go (nat_eq at o.addr.block.0) refl
    where
      go : (t : Bool) → nat_eq at o.addr.block.0 ≡ t
          → (if t then spliced (f at) o.addr.offset o.bytes else f at) ≡ f at
      go true e = absurd (else' (sym (eqb-true at o.addr.block.0 e)))
      go false e = refl

  left_objects : (f : Image) (os : List ObjectBytes) → All IsElsewhere os → with_objects f os at ≡ f at
  left_objects f [] h = refl
  left_objects f (o ∷ os) h =
      left_objects (with_object f o) os (All-tail IsElsewhere o os h)
      ∙ left_object f o (All-head IsElsewhere o os h)

  left_commits : (f : Image) (cs : List Footprint) → All AreElsewhere cs → after_commits f cs at ≡ f at
  left_commits f [] h = refl
  left_commits f (c ∷ cs) h =
      left_commits (with_objects f c.written) cs (All-tail AreElsewhere c cs h)
      ∙ left_objects f c.written (All-head AreElsewhere c cs h).1

  read_same : (f g : Image) (os : List ObjectBytes) → AreSame f g → All IsElsewhere os
      → AllByRecursion (IsAsRead f) os → AllByRecursion (IsAsRead g) os
  read_same f g [] same h r = tt
  read_same f g (o ∷ os) same h r = (
    ap (λ (c : Content). part c o.addr) (sym (same o.addr.block.0 (All-head IsElsewhere o os h))) ∙ r.0,
    read_same f g os same (All-tail IsElsewhere o os h) r.1,
  )

  follow_same : (f g : Image) (cs : List Footprint) → AreSame f g → All AreElsewhere cs
      → Follow f cs → Follow g cs
  follow_same f g [] same h r = tt
  follow_same f g (c ∷ cs) same h r = (
    read_same f g c.read same (All-head AreElsewhere c cs h).0 r.0,
    follow_same (with_objects f c.written) (with_objects g c.written) cs (same_objects f g c.written same)
        (All-tail AreElsewhere c cs h) r.1,
  )

module _ (base : Image) (log : Log) (commits : List Footprint) (held : List (ℕ × Content)) (at : ℕ)
    (content : Content) (none : newest log at ≡ None)
    (away : (c : Content) → Contains held (at, c) → ⊥) (h : IsWindowOver base log commits held) where
  abbrev pub there : Image
  there = with_home base at content

  same_base : AreSame at base there
  same_base block else' = go (nat_eq block at) refl
    where
      go : (t : Bool) → nat_eq block at ≡ t → base block ≡ (if t then content else base block)
      go true e = absurd (else' (eqb-true block at e))
      go false e = refl

  new_there : there at ≡ content
  new_there = ap (λ (t : Bool). if t then content else base at) (eq-eqb at at refl)

  same_under : (xs : List LogChange) → AreSame at (with_changes base xs) (with_changes there xs)
  same_under xs block else' = ap (λ c. content_or (newest_of xs block) c) (same_base block else')

  bare : (xs : List LogChange) → newest_of xs at ≡ None → with_changes there xs at ≡ content
  bare xs e = ap (λ o. content_or o (there at)) e ∙ new_there

  first : commits_among log 0 ≡ 0
  first = omega arith

  not_written : (object : ObjectBytes) → object.addr.block.0 ≡ at → IsInLog log.changes object → ⊥
  not_written object found here =
      let clash : None ≡ Some here.0 = sym none ∙ ap (newest log) (sym found) ∙ here.1 in absurd (cc)

  all_away : All (AreElsewhere at) commits
  all_away k d lt = (
    λ i o less found. away (h.pinned k d lt i o less).0
        (subst (λ (n : ℕ). Contains held (n, (h.pinned k d lt i o less).0)) found (h.pinned k d lt i o less).1),
    λ i o less found. not_written (get_or (get_or commits k d).written i o) found
        ((subst (λ (n : ℕ). All (AreInLog log.changes) (drop n commits)) first
        (h.written 0 (at_first refl))) k d lt i o less),
  )

  leads : (n : ℕ) (cs : List Footprint) → All (AreElsewhere at) cs
      → ((block : ℕ) → with_changes base (take n log.changes) block ≡ after_commits (opening base log) cs block)
      → (block : ℕ) → with_changes there (take n log.changes) block ≡ after_commits (opening there log) cs block
  leads n cs elsewhere old block = go (nat_eq block at) refl
    where
      go : (t : Bool) → nat_eq block at ≡ t
          → with_changes there (take n log.changes) block ≡ after_commits (opening there log) cs block
      go true e =
          let is : block ≡ at = eqb-true block at e in
          subst (λ (b : ℕ). with_changes there (take n log.changes) b ≡ after_commits (opening there log)
          cs b) (sym is)
          (bare (take n log.changes) (none_taken log.changes n at none)
          ∙ sym (left_commits at (opening there log) cs elsewhere
          ∙ bare (recovered log.changes) (none_recovered log.changes at none)))
      go false e =
          let else' : block ≡ at → ⊥ = λ is. absurd
          (let yes : nat_eq block at ≡ true = eq-eqb block at is in cc) in
          sym (same_under (take n log.changes) block else') ∙ old block
          ∙ same_commits at (opening base log) (opening there log) cs
          (same_under (recovered log.changes)) block else'

  pub other_home : IsWindowOver there log commits held
  other_home = record {
    follow = follow_same at (opening base log) (opening there log) commits
        (same_under (recovered log.changes)) all_away h.follow;
    placed = h.placed;
    all = h.all;
    opened = h.opened;
    group = λ count end clean. leads count (take (commits_among log count) commits)
        (All-take (AreElsewhere at) (commits_among log count) commits all_away) (h.group count end clean);
    written = h.written;
    memory = All-weaker (λ resident. IsCurrent (now_of base log commits) resident × Contains held resident)
        (IsCurrent (now_of there log commits))
        (λ resident both. both.0 ∙ same_commits at (opening base log) (opening there log) commits
        (same_under (recovered log.changes)) resident.0
        (λ is. away resident.1 (subst (λ (n : ℕ). Contains held (n, resident.1)) is both.1))) held
        (λ k d lt. (h.memory k d lt, All-contains_itself held k d lt));
    pinned = h.pinned;
  }

-- Lemmas: a block that the log has no change of is written beside it.
use Rattle.std.proofs.Common.{◌≡◌, ◌≢◌, ℕ, ◌+◌, ◌<◌, ◌≤◌, ◌⊎◌, inl, inr, Bool, true, false, List, [], ◌∷◌}
use Rattle.std.proofs.Common.{◌++◌, take, drop, Option, Some, None, refl, sym, ap, subst, ◌∙◌, arith, nat_eq}
use Rattle.std.proofs.Common.{if◌then◌else◌, Result, Ok, Err}
use Rattle.std.specs.Prelude.{Contains}
use Rattle.std.proofs.lemmas.Bool.{eqb-true, eqb-false, eq-eqb, ne_eqb}
use Rattle.std.proofs.lemmas.List.{take-append-drop}
use Rattle.std.proofs.lemmas.List.Elements.{Contains-append_cases}
use Rattle.base.specs.declared.TheConstants.{LOG_HEADER_BLOCK, START_BLOCK}
use Rattle.disk.specs.Device.{Content, Device, current, Appends, HasWritten, HasSettled}
use Rattle.disk.specs.Crash.{Image, IsCrashImage}
use Rattle.disk.specs.declared.block.Side.TheVariants.{Home}
use Rattle.disk.specs.declared.device.Failed.{Failed}
use Rattle.circ.specs.declared.log.change.LogChange.{LogChange}
use Rattle.circ.specs.Log.Log.{Log, IsLawful, newest_of, newest as newest_in_log, or_else}
use Rattle.circ.specs.Log.Overlay.{content_or}
use Rattle.circ.specs.Log.Effects.{brought_home}
use Rattle.circ.specs.Log.Law.{LeavesOnly, IsOutside, IsStartBehind, HomeAgrees, Agrees, with_changes}
use Rattle.circ.specs.Log.Law.{with_home, IsBoundary}
use Rattle.circ.specs.Log.Calls.{Pending, idle, out, was_made, HasMadeInstCall, IsInstallerAt, AgreesWithPending}
use Rattle.circ.proofs.LogLemmas.Newest.{newest_of-append}
use Rattle.circ.proofs.LogLemmas.Boundary.{crash_boundary}
use Rattle.circ.proofs.LogLemmas.Contents.{PreservesContent, preserves_same, preserves_settled, leaves_preserved, leaves_newest}
use Rattle.circ.proofs.LogLemmas.Contents.{newest_written, one_member}
use Rattle.circ.proofs.LogLemmas.LogCalls.{PreservesOwn, own_preserved, log_made_preserved}
use Rattle.circ.proofs.LogLemmas.HomeCalls.{on_home}
use Rattle.circ.proofs.LogLemmas.Unaffected.{logger_as}

neither : (a b : Option Content) → or_else a b ≡ None → b ≡ None
neither (Some a) b h = absurd (cc)
neither None b h = h

-- what the log has no change of isn't brought home
not_brought : (log : Log) (block : ℕ) → newest_in_log log block ≡ None → brought_home log block ≡ None
not_brought log block h =
    neither (newest_of (drop log.installing log.changes) block) (brought_home log block)
    (sym (ap (λ xs. newest_of xs block) (sym (take-append-drop log.installing log.changes))
    ∙ newest_of-append (take log.installing log.changes) (drop log.installing log.changes) block) ∙ h)

-- a disk on which a block is another, and the others are as they were
module _ (old new : Device) (base : Image) (log : Log) (block : ℕ) (content : Content) (lawful : IsLawful log)
    (outside : IsOutside log.blocks block) (none : newest_in_log log block ≡ None)
    (size : new.size ≡ old.size) (preserves : (other : ℕ) → other ≢ block
    → PreservesContent old new other) (only : LeavesOnly new block (λ c. c ≡ content)) where
  abbrev base' : Image
  base' = with_home base block content

  at_block : base' block ≡ content
  at_block = ap (λ (t : Bool). if t then content else base block) (eq-eqb block block refl)

  at_other : (other : ℕ) → other ≢ block → base' other ≡ base other
  at_other other differs = ap (λ (t : Bool). if t then content else base other) (ne_eqb other block differs)

  not_own : (other : ℕ) → LOG_HEADER_BLOCK ≤ other → other < START_BLOCK + 1 → other ≢ block
  not_own other low high e =
      elim (outside.1) as (λ _. ⊥) [ inl below ↦ omega (arith, e) | inr above ↦ omega (arith, e) ]

  preserves_own : PreservesOwn old new
  preserves_own other low high = preserves other (not_own other low (omega arith))

  preserves_start : PreservesContent old new START_BLOCK
  preserves_start = preserves START_BLOCK (not_own START_BLOCK (omega arith) (omega arith))

  abbrev Either : Image → ℕ → Content → Type 0
  Either b other c = (c ≡ b other) ⊎ (brought_home log other ≡ Some c)

  abbrev Brought : Image → ℕ → Content → Type 0
  Brought b other c = c ≡ with_changes b (take log.installing log.changes) other

  not_it : (other : ℕ) (c : Content) → brought_home log other ≡ Some c → other ≢ block
  not_it other c is e =
      absurd (let no : None ≡ Some c = sym (ap (brought_home log) e ∙ not_brought log block none) ∙ is in cc)

  home_at_block : (other : ℕ) → other ≡ block → LeavesOnly new other (Either base' other)
  home_at_block other e =
      subst (λ n. LeavesOnly new n (Either base' n)) (sym e) (λ c there. inl (only c there ∙ sym at_block))

  home_at_other : (other : ℕ) → other ≢ block → LeavesOnly old other (Either base other)
      → LeavesOnly new other (Either base' other)
  home_at_other other differs h c there =
      elim (h c ((preserves other differs).within c there)) as (λ _. Either base' other c)
      [ inl is ↦ inl (is ∙ sym (at_other other differs)) | inr is ↦ inr is ]

  brought_at_block : (other : ℕ) → other ≡ block → LeavesOnly new other (Brought base' other)
  brought_at_block other e =
      subst (λ n. LeavesOnly new n (Brought base' n)) (sym e)
      (λ c there. only c there ∙ sym at_block
      ∙ ap (λ o. content_or o (base' block)) (sym (not_brought log block none)))

  brought_at_other : (other : ℕ) → other ≢ block → LeavesOnly old other (Brought base other)
      → LeavesOnly new other (Brought base' other)
  brought_at_other other differs h c there =
      h c ((preserves other differs).within c there)
      ∙ ap (λ b. content_or (brought_home log other) b) (sym (at_other other differs))

  home_at : (other : ℕ) → LeavesOnly old other (Either base other) → LeavesOnly new other (Either base' other)
  home_at other h = go (nat_eq other block) refl
    where
      go : (t : Bool) → nat_eq other block ≡ t → LeavesOnly new other (Either base' other)
      go true e = home_at_block other (eqb-true other block e)
      go false e = home_at_other other (eqb-false other block e) h

  brought_at : (other : ℕ) → LeavesOnly old other (Brought base other)
      → LeavesOnly new other (Brought base' other)
  brought_at other h = go (nat_eq other block) refl
    where
      go : (t : Bool) → nat_eq other block ≡ t → LeavesOnly new other (Brought base' other)
      go true e = brought_at_block other (eqb-true other block e)
      go false e = brought_at_other other (eqb-false other block e) h

  homes_with : HomeAgrees old base log → HomeAgrees new base' log
  homes_with h = record {
    chosen = h.chosen;
    home = λ before other at. home_at other (h.home before other at);
    written = λ before other at past c is. (preserves other (not_it other c is)).newest
        ∙ h.written before other at past c is;
    start = λ before. leaves_preserved old new START_BLOCK (IsStartBehind log 0) preserves_start (h.start before);
    brought = λ later other at. brought_at other (h.brought later other at);
    advanced_start =
        λ later. leaves_preserved old new START_BLOCK (λ c. IsStartBehind log 0 c
        ⊎ IsStartBehind log log.installing c) preserves_start (h.advanced_start later);
    newest_start =
        λ end. subst (IsStartBehind log log.installing) (sym preserves_start.newest) (h.newest_start end);
  }

  pub agrees_with : Agrees old base log → Agrees new base' log
  agrees_with a = record {
    size = size ∙ a.size;
    own = own_preserved old new log preserves_own a.own;
    homes = homes_with a.homes;
  }

  -- a change that the installer has out isn't of the block
  not_change : (change : LogChange) → log.inst_step < log.installing
      → brought_home log change.block.0 ≡ Some change.content → change.block.0 ≢ block
  not_change change lt is = not_it change.block.0 change.content is

  inst_made_with : HomeAgrees old base log → HasMadeInstCall old base log → HasMadeInstCall new base' log
  inst_made_with a h = record {
    home = λ lt change is. (preserves change.block.0 (not_change change lt (a.chosen lt change is))).newest
        ∙ h.home lt change is;
    home_barrier = λ at other there. brought_at other (h.home_barrier at other there);
    start = λ at. subst (IsStartBehind log log.installing) (sym preserves_start.newest) (h.start at);
    start_barrier =
        λ at. leaves_preserved old new START_BLOCK (IsStartBehind log log.installing) preserves_start
        (h.start_barrier at);
  }

  installer_with : (p : Pending) → HomeAgrees old base log → IsInstallerAt old base log p
      → IsInstallerAt new base' log p
  installer_with idle a h = h
  installer_with (out io) a h = h
  installer_with (was_made io (Ok u)) a h = (h.0, h.1, inst_made_with a h.2)
  installer_with (was_made io (Err u)) a h = h

  pub stands_with : (p q : Pending) → AgreesWithPending old base log p q → AgreesWithPending new base' log p q
  stands_with p q s = record {
    agrees = agrees_with s.agrees;
    logger = logger_as old new log log p refl (λ io h. h) (log_made_preserved old new log preserves_own) s.logger;
    installer = installer_with q s.agrees.homes s.installer;
  }

-- the write and the barrier behind it were made
pub home_settled : (old middle new : Device) (base : Image) (log : Log) (block : ℕ) (content : Content)
    (p q : Pending)
    → IsLawful log → IsOutside log.blocks block → newest_in_log log block ≡ None
    → HasWritten old block content (Ok tt) middle → HasSettled middle Home (Ok tt) new
    → AgreesWithPending old base log p q → AgreesWithPending new (with_home base block content) log p q
home_settled old middle new base log block content p q lawful outside none wrote settled s =
    stands_with old new base log block content lawful outside none (settled.later.size ∙ wrote.later.size)
    (λ other differs. both other (preserves_same old middle other (wrote.others other differs))
    (preserves_settled middle new Home (Ok tt) other settled))
    (leaves_newest middle new Home block (λ c. c ≡ content) settled (on_home log.blocks block outside)
    (newest_written old middle block content wrote))
    p q s
  where
    both : (other : ℕ) → PreservesContent old middle other → PreservesContent middle new other → PreservesContent old new other
    both other one two = record {
      within = λ c there. one.within c (two.within c there);
      newest = two.newest ∙ one.newest;
    }

-- the device, if the block had this content alone
abbrev only_this : Device → ℕ → Content → Device
only_this d block content =
    record d { contents = λ clock other. if nat_eq other block then content ∷ [] else d.contents clock other }

this_there : (d : Device) (block : ℕ) (content : Content)
    → current (only_this d block content) block ≡ content ∷ []
this_there d block content =
    ap (λ (t : Bool). if t then content ∷ [] else current d block) (eq-eqb block block refl)

others_there : (d : Device) (block : ℕ) (content : Content) (other : ℕ) → other ≢ block
    → current (only_this d block content) other ≡ current d other
others_there d block content other differs =
    ap (λ (t : Bool). if t then content ∷ [] else current d other) (ne_eqb other block differs)

-- a crash in the middle of them leaves a boundary over the old home, or over the new
pub home_written : (old new : Device) (base : Image) (log : Log) (block : ℕ) (content : Content)
    (r : Result Unit Failed) (image : Image)
    → IsLawful log → IsOutside log.blocks block
    → newest_in_log log block ≡ None → HasWritten old block content r new → Agrees old base log
    → IsCrashImage new new.clock image
    → IsBoundary base log image ⊎ IsBoundary (with_home base block content) log image
home_written old new base log block content r image lawful outside none wrote a crash = cases r wrote.written
  where
    within : block < new.size
    within = omega (arith, outside.0, a.size, wrote.later.size)

    others : (other : ℕ) → other ≢ block → other < old.size → Contains (current old other) (image other)
    others other differs lt =
        subst (λ (xs : List Content). Contains xs (image other)) (wrote.others other differs)
        (crash other (omega (arith, lt, wrote.later.size)))

    -- the old home
    old_one : Contains (current old block) (image block) → IsBoundary base log image
    old_one there = crash_boundary old base log image lawful a crash_old
      where
        at : (t : Bool) (other : ℕ) → nat_eq other block ≡ t → other < old.size
            → Contains (current old other) (image other)
        at true other e lt =
            subst (λ n. Contains (current old n) (image n)) (sym (eqb-true other block e)) there
        at false other e lt = others other (eqb-false other block e) lt

        crash_old : IsCrashImage old old.clock image
        crash_old other lt = at (nat_eq other block) other refl lt

    -- the new
    new_one : image block ≡ content → IsBoundary (with_home base block content) log image
    new_one is = crash_boundary (only_this old block content) (with_home base block content) log image lawful
        agrees crash_new
      where
        agrees : Agrees (only_this old block content) (with_home base block content) log
        agrees =
            agrees_with old (only_this old block content) base log block content lawful outside none refl
            (λ other differs. preserves_same old (only_this old block content) other
            (others_there old block content other differs))
            (λ c there. sym
            (one_member content c
            (subst (λ (xs : List Content). Contains xs c) (this_there old block content) there))) a

        only_content : Contains (current (only_this old block content) block) (image block)
        only_content = subst (λ (xs : List Content). Contains xs (image block)) (sym (this_there old block content))
            (0, omega arith, sym is)

        at : (t : Bool) (other : ℕ) → nat_eq other block ≡ t → other < old.size
            → Contains (current (only_this old block content) other) (image other)
        at true other e lt =
            subst (λ n. Contains (current (only_this old block content) n) (image n))
            (sym (eqb-true other block e)) only_content
        at false other e lt =
            subst (λ (xs : List Content). Contains xs (image other))
            (sym (others_there old block content other (eqb-false other block e)))
            (others other (eqb-false other block e) lt)

        crash_new : IsCrashImage (only_this old block content) (only_this old block content).clock image
        crash_new other lt = at (nat_eq other block) other refl lt

    same : current new block ≡ current old block
        → IsBoundary base log image ⊎ IsBoundary (with_home base block content) log image
    same e = inl (old_one (subst (λ (xs : List Content). Contains xs (image block)) e (crash block within)))

    more : current new block ≡ current old block ++ content ∷ []
        → IsBoundary base log image ⊎ IsBoundary (with_home base block content) log image
    more e =
        elim (Contains-append_cases (current old block) (content ∷ []) (image block)
        (subst (λ (xs : List Content). Contains xs (image block)) e (crash block within))) [
          | inl earlier ↦ inl (old_one earlier)
          | inr it ↦ inr (new_one (sym (one_member content (image block) it)))
        ]

    cases : (r : Result Unit Failed) → Appends (current old block) content r (current new block)
        → IsBoundary base log image ⊎ IsBoundary (with_home base block content) log image
    cases (Ok u) e = more e
    cases (Err u) (inl e) = same e
    cases (Err u) (inr e) = more e

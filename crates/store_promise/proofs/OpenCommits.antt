-- A commit leaves a store open, with its entry.
use Rattle.std.proofs.Common.{◌≡◌, ℕ, ◌+◌, ◌<◌, ◌≤◌, ◌⊎◌, inl, inr, ap, sym, ◌∙◌, refl, subst, arith}
use Rattle.std.proofs.Common.{Bool, true, false, if◌then◌else◌, ◌&&◌, List, [], ◌∷◌, ◌++◌}
use Rattle.std.proofs.Common.{length, length-append, take, drop, nat_eq, nat_lt}
use Rattle.std.proofs.lemmas.Bool.Decides.{nat_tests}
use Rattle.std.proofs.lemmas.List.{drop-append-le, drop_all, length-drop, take-append-le, take_all}
use Rattle.std.proofs.lemmas.List.Elements.{All-contains}
use Rattle.disk.specs.Crash.{Image}
use Rattle.disk.specs.Device.{Content, Device}
use Rattle.disk.specs.declared.block.BlockNo.{BlockNo}
use Rattle.nfs_types.specs.declared.call.Call.{Call}
use Rattle.nfs_types.specs.declared.ctx.Ctx.{Ctx}
use Rattle.nfs_types.specs.declared.reply.Reply.{Reply}
use Rattle.nfs_spec.specs.Model.Entry.{Entry}
use Rattle.nfs_spec.specs.Procedures.After.{after}
use Rattle.nfs_spec.specs.Model.Sound.{IsMadeBy}
use Rattle.nfs_spec.specs.Procedures.Step.{step}
use Rattle.nfs_spec.specs.Model.Tree.{Tree}
use Rattle.nfs_spec.proofs.ProceduresLemmas.Joined.{push}
use Rattle.layout.specs.declared.geometry.Geometry.{Geometry}
use Rattle.layout.specs.Homes.{homes_of}
use Rattle.layout.specs.Stands.{Stands}
use Rattle.inode.specs.Read.{AreAsRead}
use Rattle.txn.specs.Outcomes.{TakesPlace}
use Rattle.circ.specs.declared.log.change.LogChange.{LogChange}
use Rattle.circ.specs.Log.Calls.{Pending}
use Rattle.circ.specs.Log.Effects.{is_all_home}
use Rattle.circ.specs.Log.Law.{with_changes}
use Rattle.circ.specs.Log.Log.{blocks_of, installed_place, place_before}
use Rattle.circ.proofs.LogLemmas.Ends.{empty_list, place_le}
use Rattle.txn_law.specs.Commit.{IsReadBy, Planned, with_record}
use Rattle.txn_law.specs.Core.{CoreState}
use Rattle.txn_law.specs.Group as group
use Rattle.txn_law.specs.HomeRead.{IsReadable}
use Rattle.txn_law.specs.Object.{ObjectBytes}
use Rattle.txn_law.specs.Window.{Footprint, after_commits, opening, with_objects}
use Rattle.txn_law.proofs.Commits.{after_commits-append}
use Rattle.store_promise.specs.OpenSince.{IsOpenSince, IsSoundCore, TellsOf, blocks_after, file_blocks}
use Rattle.store_promise.specs.OpenStore.{HasFilesOver, IsChain, IsOpenOver}
use Rattle.store_promise.proofs.FileBlocks.{held_now, less, stands_now}
use Rattle.store_promise.proofs.Chains.{after_both, chain_leads, chain_more, stamps_more}
use Rattle.store_promise.proofs.Opened.{of_boot}

-- ---- small facts

not_less : (a b : ℕ) → a ≡ b → nat_lt a b ≡ false
not_less a b is = grind (arith, nat_tests)

pub all_both : (a b : Bool) → (a && b) ≡ true → (a ≡ true) × (b ≡ true)
all_both true true h = (refl, refl)
all_both true false h = cc
all_both false b h = cc

no_entries : {X : Type 0} (xs : List X) → length xs ≡ 0 → xs ≡ []
no_entries [] none = refl
no_entries (x ∷ xs) none = absurd (omega (arith, none))

longer : (blocks : List BlockNo) (objects : List ObjectBytes)
    → length blocks ≤ length (group.blocks_after blocks objects)
longer blocks [] = omega arith
longer blocks (o ∷ os) =
    go (group.is_among o.addr.block blocks) (longer blocks os) (longer (blocks ++ o.addr.block ∷ []) os)
  where
    go : (t : Bool) → length blocks ≤ length (group.blocks_after blocks os)
        → length (blocks ++ o.addr.block ∷ []) ≤ length (group.blocks_after (blocks ++ o.addr.block ∷ []) os)
        → length blocks ≤ length (group.blocks_after (if t then blocks else blocks ++ o.addr.block ∷ []) os)
    go true same more = same
    go false same more = let long = length-append blocks (o.addr.block ∷ []) in omega (arith, more, long)

-- what is written lies in some block
no_writes : (objects : List ObjectBytes) → group.blocks_of objects ≡ [] → objects ≡ []
no_writes [] none = refl
no_writes (o ∷ os) none =
    let some = longer (o.addr.block ∷ []) os in
    let zero = ap (λ (blocks : List BlockNo). length blocks) none in
    absurd (omega (arith, some, zero))

-- ---- what a commit leaves, and the plan of it is a step from the files as they are

module _ (base : Image) (d : Device) (old new : CoreState) (logging installing : Pending) (boot : ℕ)
    (first last : Tree) (entries : List Entry) (tx place : ℕ) (plan : Planned)
    (since : IsOpenSince base d old logging installing boot first entries last)
    (took : TakesPlace old tx plan place new) where
  abbrev pub files : HasFilesOver base old boot since.home (drop (installed_place old.log) entries) last
  files = since.over.files

  abbrev pub g : Geometry
  g = files.super.geometry

  abbrev pub homes : Image
  homes = homes_of old.log.blocks (opening base old.log)

  abbrev pub now : Image
  now = file_blocks base old

  abbrev commit : Footprint
  commit = record { place = new.log.places; read = plan.read; written = plan.written }

  homes_are : homes ≡ homes_of new.log.blocks (opening base new.log)
  homes_are = sym (ap (λ (n : ℕ). homes_of n (opening base new.log)) took.still.blocks
      ∙ ap (λ (changes : List LogChange). homes_of old.log.blocks (with_changes base changes))
      (took.group.grown.opened 0 (omega arith)))

  within : installed_place old.log ≤ length entries
  within = let a = place_le old.log.changes old.log.places 0 since.over.lawful.rising in
      let b = since.counted in omega (arith, a, b)

  records_are : new.records ≡ with_record new.log new.log.places plan old.records
  records_are = ap (λ (core : CoreState). core.records) took.only

  -- it has a change that isn't home
  pub record HasChange : Type 0 where
    pub same : installed_place new.log ≡ installed_place old.log
    pub records : new.records ≡ old.records ++ commit ∷ []

  -- it has none, and all before it is home
  pub record IsHomeAtOnce : Type 0 where
    pub all : installed_place new.log ≡ new.log.places
    pub none : old.log.changes ≡ []
    pub writes : plan.written ≡ []
    pub records : new.records ≡ old.records

  by_test : (t : Bool) → (is_all_home old.log && nat_eq (length took.group.group) 0) ≡ t
      → HasChange ⊎ IsHomeAtOnce
  by_test true is =
      let tests = all_both (is_all_home old.log) (nat_eq (length took.group.group) 0) is in
      let empty = empty_list took.group.group tests.1 in
      let all : installed_place new.log ≡ new.log.places =
      took.group.seen.installed ∙ ap (λ (t : Bool). if t then new.log.places else installed_place old.log) is in
      inr (record {
        all = all;
        none = empty_list old.log.changes tests.0;
        writes = no_writes plan.written
            (sym took.group.blocks ∙ ap (λ (xs : List (BlockNo × Content)). blocks_of xs) empty);
        records = records_are ∙ ap (λ (t : Bool). if t then old.records ++ commit ∷ [] else old.records)
            (not_less (installed_place new.log) new.log.places all);
      })
  by_test false is =
      let same : installed_place new.log ≡ installed_place old.log =
      took.group.seen.installed ∙ ap (λ (t : Bool). if t then new.log.places else installed_place old.log) is in
      let below : installed_place new.log < new.log.places =
      (let a = within in let b = since.counted in let c = took.places in omega (arith, a, b, c, same)) in
      inl (record {
        same = same;
        records = records_are ∙ ap (λ (t : Bool). if t then old.records ++ commit ∷ [] else old.records)
            (less (installed_place new.log) new.log.places below);
      })

  pub either : HasChange ⊎ IsHomeAtOnce
  either = by_test (is_all_home old.log && nat_eq (length took.group.group) 0) refl

  -- the files' blocks after it
  after_it : HasChange ⊎ IsHomeAtOnce → after_commits homes new.records ≡ with_objects now plan.written
  after_it (inl has) = ap (λ (rs : List Footprint). after_commits homes rs) has.records
      ∙ after_commits-append homes old.records (commit ∷ [])
  after_it (inr at_once) = ap (λ (rs : List Footprint). after_commits homes rs) at_once.records
      ∙ sym (ap (λ (os : List ObjectBytes). with_objects now os) at_once.writes)

  pub blocks_now : file_blocks base new ≡ with_objects now plan.written
  blocks_now = ap (λ (image : Image). after_commits image new.records) (sym homes_are) ∙ after_it either

  -- and those after each earlier commit
  pub blocks_preserved : (count : ℕ) → count ≤ length old.records
      → blocks_after base new count ≡ blocks_after base old count
  blocks_preserved count early =
      ap (λ (image : Image). after_commits image (take count new.records)) (sym homes_are) ∙ by_case either
    where
      by_case : HasChange ⊎ IsHomeAtOnce
          → after_commits homes (take count new.records) ≡ after_commits homes (take count old.records)
      by_case (inl has) = ap (λ (rs : List Footprint). after_commits homes (take count rs)) has.records
          ∙ ap (λ (rs : List Footprint). after_commits homes rs)
          (take-append-le count old.records (commit ∷ []) early)
      by_case (inr at_once) = ap (λ (rs : List Footprint). after_commits homes (take count rs)) at_once.records

  module _ (entry : Entry) (tells : TellsOf boot plan entry)
      (one_geometry : (g h : Geometry) → g.version ≡ h.version → g.blocks ≡ h.blocks → g.inodes ≡ h.inodes
      → g ≡ h) where
    geometry_is : tells.geometry ≡ g
    geometry_is = one_geometry tells.geometry g (tells.newest ∙ sym files.newest)
        (sym tells.blocks ∙ took.tried.own.blocks ∙ sym files.blocks_are)
        (sym tells.inodes ∙ took.tried.own.inodes ∙ sym files.inodes_are)

    as_read : AreAsRead now plan.read
    as_read object there = held_now base d old logging installing boot first last entries since tx object
        (All-contains (IsReadBy old tx) plan.read object took.tried.own.read there)

    pub transition : (next : Tree) × step last entry.ctx entry.call entry.reply next
        × Stands g (with_objects now plan.written) next
    transition = subst (λ (h : Geometry). (next : Tree) × step last entry.ctx entry.call entry.reply next
        × Stands h (with_objects now plan.written) next) geometry_is
        (tells.step now last tells.sound (subst (λ (h : Geometry). Stands h now last) (sym geometry_is)
        (stands_now base d old logging installing boot first last entries since)) as_read)

    module _ (sound : IsSoundCore base new)
        (makes_none : (tree next : Tree) (ctx : Ctx) (asked : Call) (reply : Reply)
        → IsMadeBy boot tree → ctx.boot ≤ boot → step tree ctx asked reply next → IsMadeBy boot next)
        (readable : IsReadable d new.log installing) where
      abbrev more : List Entry
      more = entries ++ entry ∷ []

      early : entry.ctx.boot ≤ boot
      early = let is = tells.boot_is in omega (arith, is)

      counted : length more ≡ new.log.places
      counted = let a = length-append entries (entry ∷ []) in let b = since.counted in let c = took.places in
          omega (arith, a, b, c)

      build : (home : Tree) (rs : List Footprint) (left : List Entry) → new.records ≡ rs
          → drop (installed_place new.log) more ≡ left → after first (take (installed_place new.log) more) home
          → IsChain g homes home rs left transition.0
          → ((count : ℕ) (tree : Tree) → after home (take count left) tree → IsMadeBy boot tree)
          → IsOpenSince base d new logging installing boot first more transition.0
      build home rs left records rest leads chain stamps = record {
        counted = counted;
        boot_is = ap (λ (core : CoreState). core.boot) took.only ∙ since.boot_is;
        home = home;
        leads = leads;
        over = subst (λ (es : List Entry). IsOpenOver base d new logging installing boot home es
            transition.0) (sym rest)
            (record {
              lawful = sound.lawful;
              agrees = took.law d base logging installing since.over.agrees;
              readable = readable;
              well_formed = sound.well_formed;
              files = record {
                home = sound.home;
                super = files.super;
                is_super = files.is_super;
                boot_is = files.boot_is;
                newest = files.newest;
                blocks_are = files.blocks_are ∙ sym took.still.blocks;
                inodes_are = files.inodes_are ∙ sym (ap (λ (core : CoreState). core.inodes) took.only);
                chain = subst (λ (xs : List Footprint). IsChain g
                    (homes_of new.log.blocks (opening base new.log)) home xs
                    left transition.0) (sym records)
                    (subst (λ (image : Image). IsChain g image home rs left transition.0) homes_are chain);
                stamps = stamps;
              };
            });
      }

      with_change : HasChange → IsOpenSince base d new logging installing boot first more transition.0
      with_change has =
          let n = installed_place old.log in
          build since.home (old.records ++ commit ∷ []) (drop n entries ++ entry ∷ []) has.records
          (ap (λ (k : ℕ). drop k more) has.same ∙ drop-append-le n entries (entry ∷ []) within)
          (subst (λ (es : List Entry). after first es since.home)
          (sym (ap (λ (k : ℕ). take k more) has.same
          ∙ take-append-le n entries (entry ∷ []) within)) since.leads)
          (chain_more g homes since.home old.records (drop n entries) last transition.0 commit entry
          files.chain transition.1 transition.2)
          (stamps_more boot makes_none (drop n entries) since.home entry early files.stamps)

      without_change : IsHomeAtOnce → IsOpenSince base d new logging installing boot first more transition.0
      without_change at_once =
          let all = at_once.all in
          let n = installed_place old.log in
          let there : n ≡ old.log.places = ap (λ (xs : List LogChange). place_before xs old.log.places)
          at_once.none in
          let few = files.home.window.all in
          let is_preserved : old.records ≡ [] = no_entries old.records (omega (arith, there, few)) in
          let through : after first (take (n + length entries) entries) last =
          after_both first since.home last n (length entries) entries since.leads
          (subst (λ (es : List Entry). after since.home es last)
          (sym (take_all (length entries) (drop n entries) (short n)))
          (chain_leads g homes since.home old.records (drop n entries) last files.chain)) in
          let whole : after first entries last =
          subst (λ (es : List Entry). after first es last) (take_all (n + length entries) entries (omega arith))
          through in
          let made : IsMadeBy boot last = files.stamps (length entries) last
          (subst (λ (es : List Entry). after since.home es last)
          (sym (take_all (length entries) (drop n entries) (short n)))
          (chain_leads g homes since.home old.records (drop n entries) last files.chain)) in
          let long = counted in
          build transition.0 [] []
          (at_once.records ∙ is_preserved)
          (drop_all (installed_place new.log) more (omega (arith, all, long)))
          (subst (λ (es : List Entry). after first es transition.0)
          (sym (take_all (installed_place new.log) more (omega (arith, all, long))))
          (push first last transition.0 entries entry whole transition.1)) (
            subst (λ (image : Image). Stands g image transition.0)
                (ap (λ (xs : List Footprint). with_objects (after_commits homes xs) plan.written) is_preserved
                ∙ ap (λ (os : List ObjectBytes). with_objects homes os) at_once.writes) transition.2,
            refl,
          )
          (of_boot boot transition.0 (makes_none last transition.0 entry.ctx entry.call entry.reply made early transition.1))
        where
          short : (n : ℕ) → length (drop n entries) ≤ length entries
          short n = let a = length-drop n entries in omega (arith, a)

      go_on : HasChange ⊎ IsHomeAtOnce → IsOpenSince base d new logging installing boot first more transition.0
      go_on (inl has) = with_change has
      go_on (inr at_once) = without_change at_once

      pub open_with : IsOpenSince base d new logging installing boot first more transition.0
      open_with = go_on either

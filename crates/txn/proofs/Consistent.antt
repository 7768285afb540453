-- Lemmas: what keeps the lists of a core consistent.
use Rattle.std.proofs.Common.{◌≡◌, refl, sym, ◌∙◌, subst, ℕ, ◌+◌, ◌^◌, ◌<◌, ◌≤◌, Bool, true, false, not}
use Rattle.std.proofs.Common.{◌||◌, ◌&&◌, if◌then◌else◌, nat_eq, nat_lt, List, [], ◌∷◌, ◌++◌, length, All}
use Rattle.std.proofs.Common.{Option, None, arith}
use Rattle.std.proofs.lemmas.Bool.{ltb-true, lt-ltb, eqb-true}
use Rattle.std.proofs.lemmas.List.Elements.{All-nil, All-cons, All-weaker, All-filter, All-append, filter_passes}
use Rattle.std.specs.Prelude.{is_some, Result, Ok, Err, OnOk, OnErr}
use Rattle.disk.specs.Device.{Content}
use Rattle.disk.specs.declared.block.BlockNo.{BlockNo}
use Rattle.circ.specs.Log.Log.{Log, installed_place, place_before}
use Rattle.circ.specs.Log.Effects.{is_all_home, HasAppended, HasGoneOn}
use Rattle.circ.specs.declared.log.change.LogChange.{LogChange}
use Rattle.txn_law.specs.Commit.{Planned, footprint, with_record, refreshed}
use Rattle.txn_law.specs.Core.{past}
use Rattle.objects.specs.Pins.{Residents, Pins, PinsStay, Unpins, is_wanted, pins_of, spared}
use Rattle.objects.specs.Present.{present_of, with_block, filled, without_pending}
use Rattle.objects.specs.declared.present.Present.{Present}
use Rattle.objects.proofs.ArePreserved.{with_absent}
use Rattle.objects.proofs.Wanted.{filter_all, all_both}
use Rattle.txn_law.specs.Holds.{with_hold, released}
use Rattle.txn_law.specs.WellFormed.{AreApart}
use Rattle.txn_law.specs.Window.{Footprint}
use Rattle.txn_law.specs.declared.hold.Hold.{Hold}
use Rattle.txn.specs.Consistent.{IsAsLogged, IsToInstall, IsConsistent}
use Rattle.txn.specs.Pinned.{AreFew, total, objects_in, own_in, newly_in}
use Rattle.txn.proofs.Counted.{counted_with, counted_released, counted_past, counted_recorded}
use Rattle.txn.proofs.Logged.{IsQuiet, logged_with, logged_on, logged_filled}

-- nor does an installation that hasn't come further
pub past_same : (place : ℕ) (log : Log) (records : List Footprint) → place ≤ installed_place log
    → All (IsToInstall log) records → past place records ≡ records
past_same place log records le kept =
    filter_all (λ commit. nat_lt place commit.place) records
    (All-weaker (IsToInstall log) (λ commit. nat_lt place commit.place ≡ true)
    (λ commit to. lt-ltb place commit.place (omega (arith, le, to.0))) records kept)

-- the commits past what is installed are still to be installed
pub preserved_past : (old new : Log) (records : List Footprint) → new.places ≡ old.places
    → All (IsToInstall old) records → All (IsToInstall new) (past (installed_place new) records)
preserved_past old new records places kept =
    all_both (λ commit. nat_lt (installed_place new) commit.place ≡ true) (IsToInstall old) (IsToInstall new)
    (λ commit e to. (ltb-true (installed_place new) commit.place e, omega (arith, places, to.1)))
    (past (installed_place new) records)
    (filter_passes (λ commit. nat_lt (installed_place new) commit.place) records)
    (All-filter (λ commit. nat_lt (installed_place new) commit.place) (IsToInstall old) records kept)

-- a log that has installed no more
pub preserved_on : (old new : Log) (records : List Footprint) → installed_place new ≤ installed_place old
    → old.places ≤ new.places → All (IsToInstall old) records → All (IsToInstall new) records
preserved_on old new records installed places kept =
    All-weaker (IsToInstall old) (IsToInstall new)
    (λ commit to. (omega (arith, installed, to.0), omega (arith, places, to.1))) records kept

-- the lists stay consistent where nothing comes or goes
pub consistent_stay : (log : Log) (holds : List Hold) (records : List Footprint) (old new : Residents)
    → PinsStay old new → new.blocks ≡ old.blocks → IsConsistent log holds records old → IsConsistent log holds records new
consistent_stay log holds records old new stay same consistent = record {
  counted = λ at. stay at ∙ consistent.counted at;
  logged = subst (λ (blocks : List Present). All (IsAsLogged log) blocks) (sym same) consistent.logged;
  kept = consistent.kept;
  few = consistent.few;
}

-- where an address is taken
pub consistent_taken : (log : Log) (holds : List Hold) (hold : Hold) (records : List Footprint) (old new : Residents)
    → AreApart holds → Pins old (newly_in holds hold) new → IsConsistent log holds records old
    → IsConsistent log (with_hold holds hold) records new
consistent_taken log holds hold records old new apart pins consistent = record {
  counted = λ at. let c = counted_with holds hold at apart in let n = consistent.counted at in let p = pins.0 at in
      omega (arith, c, n, p);
  logged = subst (λ (blocks : List Present). All (IsAsLogged log) blocks) (sym pins.1) consistent.logged;
  kept = consistent.kept;
  few = consistent.few;
}

-- where it is taken, or there was no room
pub consistent_took : {T E : Type 0} (log : Log) (holds : List Hold) (hold : Hold) (records : List Footprint)
    (old : Residents) (answer : Result T E) (left : List Hold) (new : Residents) → AreApart holds
    → OnOk answer (left ≡ with_hold holds hold) → OnOk answer (Pins old (newly_in holds hold) new)
    → OnErr answer (left ≡ holds) → OnErr answer (PinsStay old new) → new.blocks ≡ old.blocks
    → IsConsistent log holds records old → IsConsistent log left records new
consistent_took log holds hold records old (Ok done) left new apart taken pins refused stay same consistent =
    subst (λ (hs : List Hold). IsConsistent log hs records new) (sym taken)
    (consistent_taken log holds hold records old new apart pins consistent)
consistent_took log holds hold records old (Err none) left new apart taken pins refused stay same consistent =
    subst (λ (hs : List Hold). IsConsistent log hs records new) (sym refused)
    (consistent_stay log holds records old new stay same consistent)

-- where a block that nobody had comes into memory with what is taken of it
pub consistent_brought : (log : Log) (holds : List Hold) (hold : Hold) (records : List Footprint)
    (old new : Residents) (content : Option Content) → AreApart holds
    → present_of old.blocks hold.addr.block ≡ None
    → IsAsLogged log (record { block = hold.addr.block; content = content })
    → ((at : BlockNo) → pins_of new at ≡ pins_of old at + newly_in holds hold at)
    → new.blocks ≡ with_block old.blocks hold.addr.block content → IsConsistent log holds records old
    → IsConsistent log (with_hold holds hold) records new
consistent_brought log holds hold records old new content apart absent fits pins is consistent = record {
  counted = λ at. let c = counted_with holds hold at apart in let n = consistent.counted at in let p = pins at in
      omega (arith, c, n, p);
  logged = subst (λ (blocks : List Present). All (IsAsLogged log) blocks)
      (sym (is ∙ with_absent old.blocks hold.addr.block content absent))
      (All-append (IsAsLogged log) old.blocks (record { block = hold.addr.block; content = content } ∷ [])
      consistent.logged
      (All-cons (IsAsLogged log) (record { block = hold.addr.block; content = content }) [] fits
      (All-nil (IsAsLogged log))));
  kept = consistent.kept;
  few = consistent.few;
}

-- where a fetch has failed
pub consistent_failed : (log : Log) (holds : List Hold) (records : List Footprint) (old : Residents) (block : BlockNo)
    → IsConsistent log holds records old
    → IsConsistent log holds records (record old { blocks = without_pending old.blocks block })
consistent_failed log holds records old block consistent = record {
  counted = consistent.counted;
  logged = All-filter (λ (resident : Present). not (nat_eq resident.block.0 block.0) || is_some resident.content)
      (IsAsLogged log) old.blocks consistent.logged;
  kept = consistent.kept;
  few = consistent.few;
}

-- where a block was fetched
pub consistent_fetched : (spare : Present → Bool) (log : Log) (holds : List Hold) (records : List Footprint) (old : Residents)
    (block : BlockNo) (content : Content) → IsConsistent log holds records old
    → IsConsistent log holds records
    (record old { blocks = spared spare (pins_of old) (filled old.blocks block content) })
consistent_fetched spare log holds records old block content consistent = record {
  counted = consistent.counted;
  logged = All-filter (λ resident. spare resident || is_wanted (pins_of old) resident) (IsAsLogged log) (filled old.blocks block content)
      (logged_filled log block content old.blocks consistent.logged);
  kept = consistent.kept;
  few = consistent.few;
}

-- what is left of what the log has is what it has
logged_left : (log : Log) (old new : Residents) (less : BlockNo → ℕ) → Unpins old less new
    → All (IsAsLogged log) old.blocks → All (IsAsLogged log) new.blocks
logged_left log old new less unpins h =
    subst (λ (blocks : List Present). All (IsAsLogged log) blocks) (sym unpins.1.1)
    (All-filter (λ resident. unpins.1.0 resident || is_wanted (pins_of new) resident) (IsAsLogged log) old.blocks h)

-- where a transaction has ended
pub consistent_ended : (log : Log) (holds : List Hold) (tx : ℕ) (records : List Footprint) (old new : Residents)
    → Unpins old (own_in tx holds) new → IsConsistent log holds records old
    → IsConsistent log (released holds tx) records new
consistent_ended log holds tx records old new unpins consistent = record {
  counted = λ at. let c = counted_released holds tx at in let n = consistent.counted at in let u = unpins.0 at in
      omega (arith, c, n, u);
  logged = logged_left log old new (own_in tx holds) unpins consistent.logged;
  kept = consistent.kept;
  few = consistent.few;
}

-- where the installer has come further
pub consistent_installed : (before after : Log) (holds : List Hold) (records : List Footprint) (old new : Residents)
    → HasGoneOn before after
    → Unpins old (λ at. total (λ kept. if nat_lt (installed_place after) kept.place then 0
    else objects_in kept.read at) records) new
    → IsConsistent before holds records old
    → IsConsistent after holds (past (installed_place after) records) new
consistent_installed before after holds records old new on unpins consistent = record {
  counted = λ at. let c = counted_past records (installed_place after) at in let n = consistent.counted at in
      let u = unpins.0 at in omega (arith, c, n, u);
  logged = logged_left after old new (λ at. total (λ kept. if nat_lt (installed_place after) kept.place then 0
      else objects_in kept.read at) records) unpins
      (logged_on before after on old.blocks consistent.logged);
  kept = preserved_past before after records on.places consistent.kept;
  few = All-filter (λ commit. nat_lt (installed_place after) commit.place) (λ commit. length commit.read < 2 ^ 64) records
      consistent.few;
}

none_home : (changes : List LogChange) (places : ℕ) → nat_eq (length changes) 0 ≡ true
    → place_before changes places ≡ places
none_home [] places e = refl
none_home (change ∷ later) places e =
    absurd (let none : length (change ∷ later) ≡ 0 = eqb-true (length (change ∷ later)) 0 e in
    omega (arith, none))

and_first : (a b : Bool) → (a && b) ≡ true → a ≡ true
and_first true b e = refl
and_first false b e = e

module _ (old new : Log) (group : List (BlockNo × Content)) (plan : Planned) (records : List Footprint)
    (seen : HasAppended old group new) where
  preserved_before : All (IsToInstall old) records → All (IsToInstall new) records
  preserved_before kept = go (is_all_home old && nat_eq (length group) 0) refl seen.installed
    where
      go : (t : Bool) → (is_all_home old && nat_eq (length group) 0) ≡ t
          → installed_place new ≡ (if t then new.places else installed_place old)
          → All (IsToInstall new) records
      go true e at =
          let home : installed_place old ≡ old.places = none_home old.changes old.places
          (and_first (is_all_home old) (nat_eq (length group) 0) e) in
          All-weaker (IsToInstall old) (IsToInstall new)
          (λ commit to. absurd (omega (arith, home, to.0, to.1))) records kept
      go false e at =
          preserved_on old new records (omega (arith, at)) (omega (arith, seen.places)) kept

  pub preserved_with : All (IsToInstall old) records
      → All (IsToInstall new) (with_record new new.places plan records)
  preserved_with kept = go (nat_lt (installed_place new) new.places) refl
    where
      go : (t : Bool) → nat_lt (installed_place new) new.places ≡ t
          → All (IsToInstall new) (if t then records ++ footprint new.places plan ∷ [] else records)
      go true e =
          All-append (IsToInstall new) records (footprint new.places plan ∷ []) (preserved_before kept)
          (All-cons (IsToInstall new) (footprint new.places plan) []
          (ltb-true (installed_place new) new.places e, omega arith) (All-nil (IsToInstall new)))
      go false e = preserved_before kept

  few_with : length plan.read < 2 ^ 64 → AreFew records → AreFew (with_record new new.places plan records)
  few_with one all = go (nat_lt (installed_place new) new.places)
    where
      go : (t : Bool) → AreFew (if t then records ++ footprint new.places plan ∷ [] else records)
      go true = All-append (λ commit. length commit.read < 2 ^ 64) records (footprint new.places plan ∷ []) all
          (All-cons (λ commit. length commit.read < 2 ^ 64) (footprint new.places plan) [] one
          (All-nil (λ (commit : Footprint). length commit.read < 2 ^ 64)))
      go false = all

  -- the lists stay consistent where a commit is recorded
  pub consistent_with : (holds : List Hold) (present there : Residents) → All (IsQuiet group) present.blocks
      → length plan.read < 2 ^ 64
      → ((at : BlockNo) → pins_of there at ≡ pins_of present at
      + (if nat_lt (installed_place new) new.places then objects_in plan.read at else 0))
      → there.blocks ≡ refreshed new present.blocks → IsConsistent old holds records present
      → IsConsistent new holds (with_record new new.places plan records) there
  consistent_with holds present there quiet few pins is consistent = record {
    counted = λ at. let c = counted_recorded new plan records at in let n = consistent.counted at in
        let p = pins at in omega (arith, c, n, p);
    logged = subst (λ (blocks : List Present). All (IsAsLogged new) blocks) (sym is)
        (logged_with old new group seen present.blocks quiet consistent.logged);
    kept = preserved_with consistent.kept;
    few = few_with few consistent.few;
  }

-- where the logger or the installer has gone on, and nothing more is installed
pub consistent_on : (old new : Log) (holds : List Hold) (records : List Footprint) (residents : Residents)
    → HasGoneOn old new → installed_place new ≤ installed_place old → IsConsistent old holds records residents
    → IsConsistent new holds records residents
consistent_on old new holds records residents on installed consistent = record {
  counted = consistent.counted;
  logged = logged_on old new on residents.blocks consistent.logged;
  kept = preserved_on old new records installed (omega (arith, on.places)) consistent.kept;
  few = consistent.few;
}

-- Lemmas: what is true of every log stays true.
use Rattle.std.proofs.Common.{◌≡◌, ℕ, ◌+◌, ◌-◌, ◌<◌, ◌≤◌, ◌^◌, true, false, not, List, [], ◌∷◌, ◌++◌, length}
use Rattle.std.proofs.Common.{take, drop, map, All, refl, sym, ap, subst, ◌∙◌, arith, length-append, append_assoc}
use Rattle.std.proofs.lemmas.List.{length-map, map-append, drop-append-le, drop_all, drop-drop, length-drop}
use Rattle.std.proofs.lemmas.List.{drop-take, take-append-drop}
use Rattle.std.proofs.lemmas.List.Elements.{All-append, All-nil, All-cons, All-head, All-tail, All-drop}
use Rattle.std.proofs.lemmas.List.Elements.{All-push, All-filter, All-map, All-take}
use Rattle.base.specs.declared.TheConstants.{LOG_SLOTS, FIRST_HOME_BLOCK}
use Rattle.disk.specs.Device.{Content}
use Rattle.disk.specs.declared.block.BlockNo.{BlockNo}
use Rattle.circ.specs.declared.log.change.LogChange.{LogChange}
use Rattle.circ.proofs.LogLemmas.Places.{rising-append, rising-group, rising-drop, committed-group}
use Rattle.circ.specs.Log.Log.{Log, AreOnce, IsCommitted, IsLawful, IsHomeOn, IsRising, blocks_of}
use Rattle.circ.specs.Log.Log.{changed_blocks, changes_of, is_among, opened, tail_after, tail_blocks}
use Rattle.circ.specs.Log.Room.{HasPlaces, absorbed, fresh, tail_with, with_group}
use Rattle.circ.proofs.LogLemmas.Absorption.{blocks-fresh, committed_tail, count_is, leading_length, once-with_new}
use Rattle.circ.proofs.LogLemmas.Absorption.{tail_is}

pub length-changes_of : (place : ℕ) (group : List (BlockNo × Content))
    → length (changes_of place group) ≡ length group
length-changes_of place group =
    length-map group (λ (change : BlockNo × Content). record {
      place = place;
      block = change.0;
      content = change.1;
    })

pub length-blocks_of : (group : List (BlockNo × Content)) → length (blocks_of group) ≡ length group
length-blocks_of group = length-map group (λ (change : BlockNo × Content). change.0)

pub homes_of_group : (blocks place : ℕ) (group : List (BlockNo × Content))
    → All (IsHomeOn blocks) (blocks_of group)
    → All (λ (change : LogChange). IsHomeOn blocks change.block) (changes_of place group)
homes_of_group blocks place [] h = All-nil (λ (change : LogChange). IsHomeOn blocks change.block)
homes_of_group blocks place (change ∷ group) h =
    All-cons (λ (change : LogChange). IsHomeOn blocks change.block) (record {
      place = place;
      block = change.0;
      content = change.1;
    }) (changes_of place group)
    (All-head (IsHomeOn blocks) change.0 (blocks_of group) h)
    (homes_of_group blocks place group (All-tail (IsHomeOn blocks) change.0 (blocks_of group) h))

-- what is taken in stands at the places where it was
rising-absorbed : (leading tail : List LogChange) (places : ℕ) (group : List (BlockNo × Content))
    → IsRising (leading ++ tail) places → IsRising (leading ++ map (absorbed group) tail) places
rising-absorbed [] [] places group h = h
rising-absorbed [] (x ∷ []) places group h = h
rising-absorbed [] (x ∷ y ∷ tail) places group h = (h.0, rising-absorbed [] (y ∷ tail) places group h.1)
rising-absorbed (x ∷ []) [] places group h = h
rising-absorbed (x ∷ []) (y ∷ tail) places group h = (h.0, rising-absorbed [] (y ∷ tail) places group h.1)
rising-absorbed (x ∷ y ∷ leading) tail places group h =
    (h.0, rising-absorbed (y ∷ leading) tail places group h.1)

homes_of_fresh : (blocks place : ℕ) (tail : List BlockNo) (group : List (BlockNo × Content))
    → All (IsHomeOn blocks) (blocks_of group)
    → All (λ (change : LogChange). IsHomeOn blocks change.block) (changes_of place (fresh tail group))
homes_of_fresh blocks place tail group h =
    homes_of_group blocks place (fresh tail group) (subst (All (IsHomeOn blocks)) (sym (blocks-fresh tail group))
    (All-filter (λ block. not (is_among block tail)) (IsHomeOn blocks) (blocks_of group) h))

module _ (log : Log) (group : List (BlockNo × Content)) (h : IsLawful log) where
  abbrev leading : List LogChange
  leading = take (log.logged + log.taken) log.changes

  abbrev tail : List LogChange
  tail = drop (log.logged + log.taken) log.changes

  abbrev OnDisk : LogChange → Type 0
  OnDisk change = IsHomeOn log.blocks change.block

  pub lawful_with_group : HasPlaces log (blocks_of group) → tail_after log (blocks_of group) ≤ LOG_SLOTS
      → All (IsHomeOn log.blocks) (blocks_of group) → AreOnce (blocks_of group)
      → IsLawful (with_group log group)
  lawful_with_group room fits homes once =
      let n = count_is log group h in
      let m = leading_length log group h in
      let more : List LogChange = changes_of (log.places + 1) (fresh (changed_blocks tail) group) in
      let within : log.logged ≤ length leading = omega (arith, m) in
      let all : length (leading ++ tail_with tail (log.places + 1) group)
      ≡ length leading + length (tail_with tail (log.places + 1) group) =
      length-append leading (tail_with tail (log.places + 1) group) in
      record {
        disk = h.disk;
        taken_within = omega (arith, m, all);
        slots = h.slots;
        tail = omega (arith, n, h.taken_within, fits);
        positions = omega (arith, n, room.positions, h.taken_within);
        log_step = h.log_step;
        log_idle = h.log_idle;
        installing = h.installing;
        inst_step = h.inst_step;
        inst_idle = h.inst_idle;
        log_begun = h.log_begun;
        inst_begun = h.inst_begun;
        places = room.place;
        homes = All-append OnDisk leading (tail_with tail (log.places + 1) group)
            (All-take OnDisk (log.logged + log.taken) log.changes h.homes)
            (All-append OnDisk (map (absorbed group) tail) more
            (All-map OnDisk (absorbed group) tail (All-drop OnDisk (log.logged + log.taken) log.changes h.homes))
            (homes_of_fresh log.blocks (log.places + 1) (changed_blocks tail) group homes));
        rising = subst (λ xs. IsRising xs (log.places + 1)) (append_assoc leading (map (absorbed group) tail) more)
            (rising-append (leading ++ map (absorbed group) tail) log.places (fresh (changed_blocks tail) group)
            (rising-absorbed leading tail log.places group (subst (λ xs. IsRising xs log.places)
            (sym (take-append-drop (log.logged + log.taken) log.changes)) h.rising)));
        committed = subst (All IsCommitted) (sym (drop-append-le log.logged leading
            (tail_with tail (log.places + 1) group) within))
            (All-append IsCommitted (drop log.logged leading) (tail_with tail (log.places + 1) group)
            (subst (All IsCommitted) (sym (drop-take log.logged log.taken log.changes))
            (All-take IsCommitted log.taken (drop log.logged log.changes) h.committed))
            (All-append IsCommitted (map (absorbed group) tail) more
            (All-map IsCommitted (absorbed group) tail (committed_tail log group h))
            (committed-group (log.places + 1) (fresh (changed_blocks tail) group) (omega arith))));
        once = subst AreOnce (sym (tail_is log group h))
            (once-with_new (tail_blocks log) (blocks_of group) h.once once);
      }

pub lawful_opened : (blocks start : ℕ) (logged : List (BlockNo × Content)) → FIRST_HOME_BLOCK ≤ blocks
    → length logged ≤ LOG_SLOTS
    → start + length logged < 2 ^ 64 → All (IsHomeOn blocks) (blocks_of logged)
    → IsLawful (opened blocks start logged)
lawful_opened blocks start logged disk slots positions homes =
    let n = length-changes_of 0 logged in
    record {
      disk = disk;
      taken_within = omega (arith, n);
      slots = omega arith;
      tail = omega (arith, n);
      positions = omega (arith, n);
      log_step = omega arith;
      log_idle = λ _. (refl, refl);
      installing = omega arith;
      inst_step = omega arith;
      inst_idle = λ _. (refl, refl);
      log_begun = λ _ _ some. omega (arith, some);
      inst_begun = λ _ _ some. omega (arith, some);
      places = omega arith;
      homes = homes_of_group blocks 0 logged homes;
      rising = rising-group 0 logged;
      committed = rw (drop_all (length logged) (changes_of 0 logged) (omega (arith, n)))
          (All-nil IsCommitted);
      once = subst AreOnce (sym (ap changed_blocks (drop_all (length logged + 0) (changes_of 0 logged)
          (omega (arith, n))))) tt;
    }

pub lawful_group_settled : (log : Log) → IsLawful log
    → IsLawful (record log { logged = log.logged + log.taken; taken = 0; log_step = 0; log_out = false })
lawful_group_settled log h =
    record {
      disk = h.disk;
      taken_within = omega (arith, h.taken_within);
      slots = omega (arith, h.slots);
      tail = omega (arith, h.tail);
      positions = h.positions;
      log_step = omega arith;
      log_idle = λ _. (refl, refl);
      installing = omega (arith, h.installing);
      inst_step = h.inst_step;
      inst_idle = h.inst_idle;
      log_begun = λ _ _ some. omega (arith, some);
      inst_begun = h.inst_begun;
      places = h.places;
      homes = h.homes;
      rising = h.rising;
      committed = rw (← drop-drop log.taken log.logged log.changes)
          (All-drop IsCommitted log.taken (drop log.logged log.changes) h.committed);
      once = let same : log.logged + log.taken + 0 ≡ log.logged + log.taken = omega arith in
          subst (λ n. AreOnce (changed_blocks (drop n log.changes))) (sym same) h.once;
    }

-- the logger has taken the whole tail
pub lawful_taken : (log : Log) → IsLawful log → log.taken ≡ 0 → log.logged < length log.changes
    → length log.changes ≤ LOG_SLOTS
    → IsLawful (record log { taken = length log.changes - log.logged; log_out = true })
lawful_taken log h none some fits =
    record {
      disk = h.disk;
      taken_within = omega (arith, some);
      slots = omega (arith, some, fits);
      tail = omega (arith, some);
      positions = h.positions;
      log_step = omega (arith, (h.log_idle none).0);
      log_idle = λ is. absurd (omega (arith, is, some));
      installing = h.installing;
      inst_step = h.inst_step;
      inst_idle = h.inst_idle;
      log_begun = λ _ out. absurd (let no : true ≡ false = out in cc);
      inst_begun = h.inst_begun;
      places = h.places;
      homes = h.homes;
      rising = h.rising;
      committed = h.committed;
      once = subst AreOnce (sym (ap changed_blocks (drop_all (log.logged + (length log.changes - log.logged))
          log.changes (omega arith)))) tt;
    }

pub lawful_installed : (log : Log) → IsLawful log → log.inst_out ≡ false
    → IsLawful (record log {
      start = log.start + log.installing;
      changes = drop log.installing log.changes;
      logged = log.logged - log.installing;
      installing = 0;
      inst_step = 0;
    })
lawful_installed log h out =
    let n : length (drop log.installing log.changes) ≡ length log.changes - log.installing =
    length-drop log.installing log.changes in
    let m : log.installing + (log.logged - log.installing) ≡ log.logged = omega (arith, h.installing) in
    record {
      disk = h.disk;
      taken_within = omega (arith, n, h.taken_within, h.installing);
      slots = omega (arith, h.slots);
      tail = omega (arith, n, h.tail, h.installing);
      positions = omega (arith, n, h.positions, h.taken_within, h.installing);
      log_step = h.log_step;
      log_idle = h.log_idle;
      installing = omega arith;
      inst_step = omega arith;
      inst_idle = λ _. (refl, out);
      log_begun = h.log_begun;
      inst_begun = λ _ _ some. omega (arith, some);
      places = h.places;
      homes = All-drop (λ (change : LogChange). IsHomeOn log.blocks change.block) log.installing log.changes
          h.homes;
      rising = rising-drop log.changes log.places log.installing h.rising;
      committed = rw (drop-drop (log.logged - log.installing) log.installing log.changes, m) h.committed;
      once = let k : log.installing + (log.logged - log.installing + log.taken) ≡ log.logged + log.taken =
          omega (arith, h.installing) in
          subst (λ xs. AreOnce (changed_blocks xs))
          (sym (drop-drop (log.logged - log.installing + log.taken) log.installing log.changes
          ∙ ap (λ n. drop n log.changes) k)) h.once;
    }

-- one change more of a group
pub home_more : (blocks : ℕ) (logged new : List (BlockNo × Content)) (home : BlockNo) (content : Content)
    → new ≡ logged ++ (home, content) ∷ []
    → All (IsHomeOn blocks) (blocks_of logged) → IsHomeOn blocks home → All (IsHomeOn blocks) (blocks_of new)
home_more blocks logged new home content e h one =
    rw (e, map-append (λ (change : BlockNo × Content). change.0) logged ((home, content) ∷ []))
    (All-push (IsHomeOn blocks) (blocks_of logged) home h one)

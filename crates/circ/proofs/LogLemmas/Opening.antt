-- Lemmas: a disk at rest agrees with the log that an opening finds on it.
use Rattle.std.proofs.Common.{◌≡◌, ℕ, zero, suc, ◌+◌, ◌-◌, ◌<◌, ◌≤◌, ◌⊎◌, inl, inr, List, [], ◌∷◌, ◌++◌}
use Rattle.std.proofs.Common.{length, get_or, slice_get, Some, None, refl, sym, ap, subst, ◌∙◌, arith, Result}
use Rattle.std.proofs.Common.{Ok, Err}
use Rattle.std.specs.Prelude.{Contains, Vec}
use Rattle.std.specs.declared.alloc.Global.{Global}
use Rattle.std.proofs.lemmas.List.{length-append, map-append, get_or_default}
use Rattle.std.proofs.lemmas.Bool.{cases_lt}
use Rattle.std.proofs.lemmas.Option.{slice_get_within, get_or_from_slice_get}
use Rattle.std.proofs.Math.Seq.{get_or-append_seam}
use Rattle.base.specs.declared.TheConstants.{LOG_HEADER_BLOCK, START_BLOCK, FIRST_HOME_BLOCK}
use Rattle.disk.specs.Device.{Content, Device, current, newest}
use Rattle.disk.specs.Crash.{Image, IsAtRest}
use Rattle.disk.specs.declared.block.BlockNo.{BlockNo}
use Rattle.circ.specs.declared.log.change.LogChange.{LogChange}
use Rattle.circ.specs.declared.log.recovery.LogFault.{LogFault}
use Rattle.circ.specs.declared.log.recovery.LogFault.TheVariants.{Range, Address, Device as DeviceFails}
use Rattle.circ.specs.declared.log.recovery.LogFault.TheVariants.{NoMemory}
use Rattle.circ.specs.declared.log.recovery.Recovered.{Recovered}
use Rattle.circ.specs.Log.Recovery.{image_of, IsRecovered, IsLog}
use Rattle.circ.specs.Log.Log.{Log, opened, changes_of}
use Rattle.circ.specs.Log.Logger.{slot_block}
use Rattle.circ.specs.Log.EightBytes.{number_at}
use Rattle.circ.specs.Log.Overlay.{start_in, count_in, logged_in, home_at, positions, IsInRange}
use Rattle.circ.specs.Log.Law.{IsHeaderOf, LogAgrees, HomeAgrees, ShowsLog, IsBoundary}
use Rattle.circ.specs.Log.Calls.{AgreesWithPending, idle}
use Rattle.circ.specs.Log.ReadBack.{IsReadBack, IsLogReadBack}
use Rattle.circ.proofs.LogLemmas.Lists.{slice_get-leading}
use Rattle.circ.proofs.LogLemmas.Lawful.{length-changes_of}

-- the one content is the newest
one_newest : (contents : List Content) (content : Content) → length contents ≡ 1 → Contains contents content
    → content ≡ newest contents
one_newest contents content one (i, h, e) =
    let at : i ≡ length contents - 1 = omega arith in
    let there : length contents - 1 < length contents = omega arith in
    sym e ∙ ap (λ n. get_or contents n content) at
    ∙ get_or_default contents (length contents - 1) content [] there

pub length-positions : (header : Content) (image : Image) (start n : ℕ)
    → length (positions header image start n) ≡ n
length-positions header image start zero = refl
length-positions header image start (suc n) =
    let h = length-positions header image start n in
    let a = length-append (positions header image start n)
    ((home_at header (start + n), image (slot_block (start + n))) ∷ []) in
    omega (arith, h, a)

-- the change that is found at a position
abbrev IsAt : Content → Image → ℕ → LogChange → Type 0
IsAt header image position change = (change.block ≡ home_at header position)
    × (change.content ≡ image (slot_block position))

position_at : (header : Content) (image : Image) (start n k : ℕ) (change : LogChange)
    → slice_get (changes_of 0 (positions header image start n)) k ≡ Some change
    → IsAt header image (start + k) change
position_at header image start zero k change is = absurd (cc)
position_at header image start (suc n) k change is =
    go (cases_lt k n) (position_at header image start n k change)
  where
    first : List LogChange
    first = changes_of 0 (positions header image start n)

    it : LogChange
    it = record { place = 0; block = home_at header (start + n); content = image (slot_block (start + n)) }

    parts : changes_of 0 (positions header image start (suc n))
        ≡ changes_of 0 (positions header image start n) ++ it ∷ []
    parts = map-append (λ (x : BlockNo × Content). record { place = 0; block = x.0; content = x.1 })
        (positions header image start n) ((home_at header (start + n), image (slot_block (start + n))) ∷ [])

    count : length (changes_of 0 (positions header image start n)) ≡ n
    count = length-changes_of 0 (positions header image start n) ∙ length-positions header image start n

    there : slice_get (changes_of 0 (positions header image start n) ++ it ∷ []) k ≡ Some change
    there = subst (λ (xs : List LogChange). slice_get xs k ≡ Some change) parts is

    go : (k < n) ⊎ (n ≤ k)
        → (slice_get (changes_of 0 (positions header image start n)) k ≡ Some change
        → IsAt header image (start + k) change)
        → IsAt header image (start + k) change
    go (inl lt) ih =
        ih (slice_get-leading (changes_of 0 (positions header image start n)) (it ∷ []) k change
        (omega (arith, count)) there)
    go (inr le) ih =
        let within = slice_get_within (changes_of 0 (positions header image start n) ++ it ∷ []) k change
        there in
        let more = length-append (changes_of 0 (positions header image start n)) (it ∷ []) in
        let at : k ≡ length (changes_of 0 (positions header image start n)) =
        omega (arith, within, more, count, le) in
        let last : k ≡ n = at ∙ count in
        let same : it ≡ change =
        sym (get_or-append_seam (changes_of 0 (positions header image start n)) it [] change)
        ∙ ap (λ j. get_or (changes_of 0 (positions header image start n) ++ it ∷ []) j change) (sym at)
        ∙ get_or_from_slice_get (changes_of 0 (positions header image start n) ++ it ∷ []) k change change
        there in
        subst (λ (x : LogChange). IsAt header image (start + k) x) same
        (ap (λ j. home_at header (start + j)) (sym last), ap (λ j. image (slot_block (start + j))) (sym last))

-- the log that an opening begins with
abbrev log_found : Device → Log
log_found d = opened d.size (start_in (image_of d)) (logged_in (image_of d))

module _ (d : Device) (large : FIRST_HOME_BLOCK ≤ d.size) (rest : IsAtRest d) (range : IsInRange (image_of d))
  where
    newest_at : (block : ℕ) → block < d.size → (content : Content) → Contains (current d block) content
        → content ≡ image_of d block
    newest_at block within content there = one_newest (current d block) content (rest.one block within) there

    found_at : (k : ℕ) (change : LogChange) → slice_get (log_found d).changes k ≡ Some change
        → IsAt (image_of d LOG_HEADER_BLOCK) (image_of d) (start_in (image_of d) + k) change
    found_at k change is =
        position_at (image_of d LOG_HEADER_BLOCK) (image_of d) (start_in (image_of d)) (count_in (image_of d)) k
        change is

    header_found : IsHeaderOf (log_found d) (log_found d).logged (image_of d LOG_HEADER_BLOCK)
    header_found =
        let n = length-positions (image_of d LOG_HEADER_BLOCK) (image_of d) (start_in (image_of d))
        (count_in (image_of d)) in (
          omega (arith, n, range.order),
          λ k lt change is. ap (λ (b : BlockNo). b.0) (sym (found_at k change is).0),
        )

    own_found : LogAgrees d (log_found d)
    own_found = record {
      slots = λ k lt change is content there. newest_at (slot_block (start_in (image_of d) + k)) (omega arith)
          content there ∙ sym (found_at k change is).1;
      written = λ k lt. absurd (omega (arith, lt));
      group_slots = λ later. absurd (omega (arith, later));
      header = λ before content there. subst (IsHeaderOf (log_found d) (log_found d).logged)
          (sym (newest_at LOG_HEADER_BLOCK (omega arith) content there)) header_found;
      group_header = λ later. absurd (omega (arith, later));
      newest_header = λ end. absurd (omega (arith, end));
    }

    homes_found : HomeAgrees d (image_of d) (log_found d)
    homes_found = record {
      chosen = λ lt. absurd (omega (arith, lt));
      home = λ before block outside content there. inl (newest_at block outside.0 content there);
      written = λ before block outside past content it. absurd (let no : None ≡ Some content = it in cc);
      start = λ before content there. ap (λ c. number_at c 0)
          (newest_at START_BLOCK (omega arith) content there) ∙ (omega arith);
      brought = λ later. absurd (omega (arith, later));
      advanced_start = λ later. absurd (omega (arith, later));
      newest_start = λ end. absurd (omega (arith, end));
    }

    pub stands_found : AgreesWithPending d (image_of d) (log_found d) idle idle
    stands_found = record {
      agrees = record { size = refl; own = own_found; homes = homes_found };
      logger = refl;
      installer = refl;
    }

-- an opening after a crash answers the log
pub read_back : (base : Image) (log : Log) (image : Image) (result : Result Recovered LogFault)
    → IsBoundary base log image → IsRecovered log.blocks image result → IsReadBack log result
read_back base log image (Ok found) b h =
    subst (λ (start : ℕ). ShowsLog log start found.logged.items) (sym h.0)
    (subst (λ (logged : List (BlockNo × Content)). ShowsLog log (start_in image) logged) (sym h.1)
    b.positions)
read_back base log image (Err Range) b h = h b.range
read_back base log image (Err Address) b h = h.1 b.homes
read_back base log image (Err DeviceFails) b h = tt
read_back base log image (Err (NoMemory error)) b h = tt

pub log_read_back : (base : Image) (log : Log) (image : Image)
    (result : Result (Vec (BlockNo × Content) Global) LogFault)
    → IsBoundary base log image → IsLog log.blocks image result → IsLogReadBack log result
log_read_back base log image (Ok logged) b h = (
  start_in image,
  subst (λ (items : List (BlockNo × Content)). ShowsLog log (start_in image) items)
      (sym h.0) b.positions,
)
log_read_back base log image (Err Range) b h = h b.range
log_read_back base log image (Err Address) b h = h.1 b.homes
log_read_back base log image (Err DeviceFails) b h = tt
log_read_back base log image (Err (NoMemory error)) b h = tt

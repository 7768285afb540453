-- Lemmas: what the memory log does keeps the log's own blocks in agreement.
use Rattle.std.proofs.Common.{◌≡◌, ℕ, ◌+◌, ◌-◌, ◌*◌, ◌%◌, ◌<◌, ◌≤◌, ◌⊎◌, inl, inr, Bool, true, false, List}
use Rattle.std.proofs.Common.{length, take, slice_get, Some, refl, sym, ap, subst, ◌∙◌, arith, nat_eq}
use Rattle.std.proofs.Common.{if◌then◌else◌}
use Rattle.std.specs.Prelude.{nat_lt}
use Rattle.std.proofs.lemmas.List.{length-take, length-drop}
use Rattle.std.proofs.lemmas.Bool.{cases_lt, eqb-true, eqb-false, ltb-false}
use Rattle.base.specs.declared.TheConstants.{LOG_SLOTS, LOG_HEADER_BLOCK}
use Rattle.disk.specs.Device.{Content, Device, current, newest}
use Rattle.circ.specs.declared.log.change.LogChange.{LogChange}
use Rattle.circ.specs.Log.Io.{Io}
use Rattle.circ.specs.Log.Log.{Log, IsLawful, log_end}
use Rattle.circ.specs.Log.Logger.{slot_block, IsHeader, IsNextLogCall, with_log_out, with_log_made}
use Rattle.circ.specs.Log.Installer.{with_installed}
use Rattle.circ.specs.Log.Law.{LeavesOnly, HoldsSlots, IsHeaderOf, LogAgrees}
use Rattle.circ.specs.Log.Calls.{HasMadeLogCall}
use Rattle.circ.specs.Log.EightBytes.{number_at}
use Rattle.circ.specs.declared.log.calls.IoCall.TheVariants.{Write}
use Rattle.circ.proofs.LogLemmas.Lists.{slice_get-drop, slice_get-take, within-take}
use Rattle.circ.proofs.LogLemmas.Lists.{slice_get-into_take}

-- what the installer does beside it
abbrev pub with_installer_progress : Log → ℕ → ℕ → Bool → Bool → Bool → Log
with_installer_progress log installing inst_step log_out inst_out broken = record log {
  installing = installing;
  inst_step = inst_step;
  log_out = log_out;
  inst_out = inst_out;
  broken = broken;
}

pub own_unaffected : (d : Device) (log : Log) (installing inst_step : ℕ) (log_out inst_out broken : Bool)
    → LogAgrees d log → LogAgrees d (with_installer_progress log installing inst_step log_out inst_out broken)
own_unaffected d log installing inst_step log_out inst_out broken h =
    record {
      slots = h.slots;
      written = h.written;
      group_slots = h.group_slots;
      header = h.header;
      group_header = h.group_header;
      newest_header = h.newest_header;
    }

pub log_made_unaffected : (d : Device) (log : Log) (installing inst_step : ℕ) (log_out inst_out broken : Bool)
    → HasMadeLogCall d log → HasMadeLogCall d (with_installer_progress log installing inst_step log_out inst_out broken)
log_made_unaffected d log installing inst_step log_out inst_out broken h = record {
  body = h.body;
  body_barrier = h.body_barrier;
  header = h.header;
  header_barrier = h.header_barrier;
}

pub next_log_unaffected : (io : Io) (log : Log) (installing inst_step : ℕ) (log_out inst_out broken : Bool)
    → IsNextLogCall log io → IsNextLogCall (with_installer_progress log installing inst_step log_out inst_out broken) io
next_log_unaffected io log installing inst_step log_out inst_out broken h =
    record {
      beginning = h.beginning;
      step = h.step;
      body = h.body;
      body_barrier = h.body_barrier;
      header = h.header;
      header_barrier = h.header_barrier;
    }

-- a group that is taken
own_taken : (d : Device) (log : Log) (taken : ℕ) → log.log_step ≡ 0 → LogAgrees d log
    → LogAgrees d (record log { taken = taken; log_out = true })
own_taken d log taken first h = record {
  slots = h.slots;
  written = λ k lt within change is. absurd (omega arith);
  group_slots = λ later. absurd (omega arith);
  header = λ before. h.header (omega arith);
  group_header = λ later. absurd (omega arith);
  newest_header = λ end. absurd (omega arith);
}

pub own_out : (d : Device) (log : Log) → IsLawful log → LogAgrees d log → LogAgrees d (with_log_out log)
own_out d log lawful h = go (nat_lt 0 log.taken) refl
  where
    go : (has : Bool) → nat_lt 0 log.taken ≡ has
        → LogAgrees d (record log {
          taken = (if has then log.taken else length log.changes - log.logged);
          log_out = true;
        })
    go true e = own_unaffected d log log.installing log.inst_step true log.inst_out log.broken h
    go false e = own_taken d log (length log.changes - log.logged)
        (lawful.log_idle (let le : log.taken ≤ 0 = ltb-false 0 log.taken e in omega arith)).0 h

-- the last of a group's calls was made: it's settled
group_settled : (d : Device) (log : Log) → log.log_step ≡ log.taken + 2 → LogAgrees d log
    → HasMadeLogCall d log
    → LogAgrees d (record log { logged = log.logged + log.taken; taken = 0; log_step = 0; log_out = false })
group_settled d log end h made = record {
  slots = h.group_slots (omega arith);
  written = λ k lt within change is. absurd (omega (arith, lt));
  group_slots = λ later. absurd (omega (arith, later));
  header = λ before. made.header_barrier end;
  group_header = λ later. absurd (omega (arith, later));
  newest_header = λ other. absurd (omega (arith, other));
}

-- another was made
one_more : (d : Device) (log : Log) → IsLawful log → (log.log_step ≡ log.taken + 2 → ⊥) → LogAgrees d log
    → HasMadeLogCall d log → LogAgrees d (record log { log_step = log.log_step + 1; log_out = false })
one_more d log lawful more h made = record {
  slots = h.slots;
  written = written;
  group_slots = group_slots;
  header = λ before. h.header (omega arith);
  group_header = group_header;
  newest_header = λ end. made.header (omega arith);
}
  where
    written : (k : ℕ) → k < log.log_step + 1 → k < log.taken → (change : LogChange)
        → slice_get log.changes (log.logged + k) ≡ Some change
        → newest (current d (slot_block (log.start + (log.logged + k)))) ≡ change.content
    written k lt within change is =
        elim (cases_lt k log.log_step) as (λ _. newest (current d (slot_block (log.start + (log.logged + k))))
        ≡ change.content) [
          | inl before ↦ h.written k before within change is
          | inr last ↦
              let e : log.log_step ≡ k = omega arith in
              ap (λ n. newest (current d (slot_block (log.start + (log.logged + n))))) (sym e)
              ∙ made.body (omega arith) change (ap (λ n. slice_get log.changes (log.logged + n)) e ∙ is)
        ]

    group_slots : log.taken < log.log_step + 1 → HoldsSlots d log (log.logged + log.taken)
    group_slots later =
        elim (cases_lt log.taken log.log_step) as (λ _. HoldsSlots d log (log.logged + log.taken))
        [ inl past ↦ h.group_slots past | inr now ↦ made.body_barrier (omega arith) ]

    group_header : log.taken < log.log_step + 1
        → LeavesOnly d LOG_HEADER_BLOCK (λ content. IsHeaderOf log log.logged content
        ⊎ IsHeaderOf log (log.logged + log.taken) content)
    group_header later content there =
        elim (cases_lt log.taken log.log_step) as (λ _. IsHeaderOf log log.logged content
        ⊎ IsHeaderOf log (log.logged + log.taken) content) [
          | inl past ↦ h.group_header past content there
          | inr now ↦ inl (h.header now content there)
        ]

pub own_made : (d : Device) (log : Log) → IsLawful log → LogAgrees d log → HasMadeLogCall d log
    → LogAgrees d (with_log_made log)
own_made d log lawful h made = go (nat_eq log.log_step (log.taken + 2)) refl
  where
    go : (end : Bool) → nat_eq log.log_step (log.taken + 2) ≡ end → LogAgrees d (if end
        then record log { logged = log.logged + log.taken; taken = 0; log_step = 0; log_out = false }
        else record log { log_step = log.log_step + 1; log_out = false })
    go true e = group_settled d log (eqb-true log.log_step (log.taken + 2) e) h made
    go false e = one_more d log lawful (eqb-false log.log_step (log.taken + 2) e) h made

-- the log with another open tail, and so many places
abbrev pub with_tail : Log → ℕ → List LogChange → Log
with_tail log places changes = record log { places = places; changes = changes }

-- other changes behind the logger's group
module _ (d : Device) (log : Log) (places : ℕ) (changes : List LogChange) (lawful : IsLawful log)
    (same : take (log.logged + log.taken) changes ≡ take (log.logged + log.taken) log.changes) where
  leading : (k : ℕ) (change : LogChange) → k < log.logged + log.taken → slice_get changes k ≡ Some change
      → slice_get log.changes k ≡ Some change
  leading k change lt is =
      slice_get-take log.changes (log.logged + log.taken) k change
      (ap (λ (xs : List LogChange). slice_get xs k) (sym same)
      ∙ slice_get-into_take changes (log.logged + log.taken) k change lt is)

  holds_leading : (count : ℕ) → count ≤ log.logged + log.taken → HoldsSlots d log count
      → HoldsSlots d (with_tail log places changes) count
  holds_leading count le h k lt change is = h k lt change (leading k change (omega arith) is)

  header_leading : (count : ℕ) (content : Content) → count ≤ log.logged + log.taken
      → IsHeaderOf log count content → IsHeaderOf (with_tail log places changes) count content
  header_leading count content le h = (h.0, λ k lt change is. h.1 k lt change (leading k change (omega arith) is))

  either_leading : (content : Content)
      → IsHeaderOf log log.logged content ⊎ IsHeaderOf log (log.logged + log.taken) content
      → IsHeaderOf (with_tail log places changes) log.logged content
      ⊎ IsHeaderOf (with_tail log places changes) (log.logged + log.taken) content
  either_leading content (inl h) = inl (header_leading log.logged content (omega arith) h)
  either_leading content (inr h) = inr (header_leading (log.logged + log.taken) content (omega arith) h)

  pub own_appended : LogAgrees d log → LogAgrees d (with_tail log places changes)
  own_appended h = record {
    slots = holds_leading log.logged (omega arith) h.slots;
    written = λ k lt within change is. h.written k lt within change
        (leading (log.logged + k) change (omega arith) is);
    group_slots = λ later. holds_leading (log.logged + log.taken) (omega arith) (h.group_slots later);
    header = λ before content there. header_leading log.logged content (omega arith)
        (h.header before content there);
    group_header = λ later content there. either_leading content (h.group_header later content there);
    newest_header =
        λ end. header_leading (log.logged + log.taken) (newest (current d LOG_HEADER_BLOCK)) (omega arith)
        (h.newest_header end);
  }

  pub log_made_appended : HasMadeLogCall d log → HasMadeLogCall d (with_tail log places changes)
  log_made_appended h = record {
    body = λ lt change is. h.body lt change (leading (log.logged + log.log_step) change (omega arith) is);
    body_barrier = λ at. holds_leading (log.logged + log.taken) (omega arith) (h.body_barrier at);
    header = λ at. header_leading (log.logged + log.taken) (newest (current d LOG_HEADER_BLOCK)) (omega arith)
        (h.header at);
    header_barrier =
        λ at content there. header_leading (log.logged + log.taken) content (omega arith)
        (h.header_barrier at content there);
  }

  pub next_log_appended : (io : Io) → IsNextLogCall log io → IsNextLogCall (with_tail log places changes) io
  next_log_appended io h =
      record {
        beginning = h.beginning;
        step = h.step;
        body = λ lt change is. h.body lt change (leading (log.logged + log.log_step) change (omega arith) is);
        body_barrier = h.body_barrier;
        header = λ at. (
          (h.header at).0,
          subst (λ (changes : List LogChange). IsHeader io.content log.start changes) (sym same)
              (h.header at).1,
        );
        header_barrier = h.header_barrier;
      }

-- fewer changes at the front
module _ (d : Device) (log : Log) (lawful : IsLawful log) where
  abbrev gone : Log
  gone = with_installed log

  behind : (k : ℕ) (change : LogChange) → slice_get gone.changes k ≡ Some change
      → slice_get log.changes (log.installing + k) ≡ Some change
  behind k change is = slice_get-drop log.changes log.installing k change is

  holds_behind : (count fewer : ℕ) → log.installing + fewer ≡ count → HoldsSlots d log count
      → HoldsSlots d gone fewer
  holds_behind count fewer e h k lt change is =
      let at : (log.start + log.installing) + k ≡ log.start + (log.installing + k) = omega arith in
      subst (λ n. LeavesOnly d (slot_block n) (λ content. content ≡ change.content)) (sym at)
      (h (log.installing + k) (omega arith) change (behind k change is))

  header_behind : (count fewer : ℕ) (content : Content) → log.installing + fewer ≡ count
      → IsHeaderOf log count content → IsHeaderOf gone fewer content
  header_behind count fewer content e h = (
    h.0 ∙ (omega arith),
    λ k lt change is.
        let at : (log.start + log.installing) + k ≡ log.start + (log.installing + k) = omega arith in
        ap (λ n. number_at content (8 + 8 * (n % LOG_SLOTS))) at
        ∙ h.1 (log.installing + k) (omega arith) change (behind k change is),
  )

  few : log.installing + (log.logged - log.installing) ≡ log.logged
  few = omega (arith, lawful.installing)

  group : log.installing + ((log.logged - log.installing) + log.taken) ≡ log.logged + log.taken
  group = omega (arith, lawful.installing)

  either_behind : (content : Content)
      → IsHeaderOf log log.logged content ⊎ IsHeaderOf log (log.logged + log.taken) content
      → IsHeaderOf gone (log.logged - log.installing) content
      ⊎ IsHeaderOf gone ((log.logged - log.installing) + log.taken) content
  either_behind content (inl h) = inl (header_behind log.logged (log.logged - log.installing) content few h)
  either_behind content (inr h) =
      inr (header_behind (log.logged + log.taken) ((log.logged - log.installing) + log.taken) content group h)

  slot_behind : (k : ℕ) (change : LogChange)
      → (slice_get log.changes (log.logged + k) ≡ Some change
      → newest (current d (slot_block (log.start + (log.logged + k)))) ≡ change.content)
      → slice_get gone.changes ((log.logged - log.installing) + k) ≡ Some change
      → newest (current d (slot_block (gone.start + ((log.logged - log.installing) + k)))) ≡ change.content
  slot_behind k change h is =
      let at : (log.start + log.installing) + ((log.logged - log.installing) + k)
      ≡ log.start + (log.logged + k) = omega (arith, lawful.installing) in
      let index : log.installing + ((log.logged - log.installing) + k) ≡ log.logged + k =
      omega (arith, lawful.installing) in
      ap (λ n. newest (current d (slot_block n))) at
      ∙ h (ap (slice_get log.changes) (sym index) ∙ behind ((log.logged - log.installing) + k) change is)

  pub own_installed : LogAgrees d log → LogAgrees d (with_installed log)
  own_installed h = record {
    slots = holds_behind log.logged (log.logged - log.installing) few h.slots;
    written = λ k lt within change is. slot_behind k change (h.written k lt within change) is;
    group_slots =
        λ later. holds_behind (log.logged + log.taken) ((log.logged - log.installing) + log.taken) group
        (h.group_slots later);
    header = λ before content there. header_behind log.logged (log.logged - log.installing) content few
        (h.header before content there);
    group_header = λ later content there. either_behind content (h.group_header later content there);
    newest_header =
        λ end. header_behind (log.logged + log.taken) ((log.logged - log.installing) + log.taken)
        (newest (current d LOG_HEADER_BLOCK)) group (h.newest_header end);
  }

  pub log_made_installed : HasMadeLogCall d log → HasMadeLogCall d (with_installed log)
  log_made_installed h = record {
    body = λ lt change is. slot_behind log.log_step change (h.body lt change) is;
    body_barrier =
        λ at. holds_behind (log.logged + log.taken) ((log.logged - log.installing) + log.taken) group
        (h.body_barrier at);
    header = λ at. header_behind (log.logged + log.taken) ((log.logged - log.installing) + log.taken)
        (newest (current d LOG_HEADER_BLOCK)) group (h.header at);
    header_barrier =
        λ at content there. header_behind (log.logged + log.taken) ((log.logged - log.installing) + log.taken)
        content group (h.header_barrier at content there);
  }

  header_written_behind : (content : Content)
      → IsHeader content log.start (take (log.logged + log.taken) log.changes)
      → IsHeader content gone.start (take ((log.logged - log.installing) + log.taken) gone.changes)
  header_written_behind content h =
      let n = length-take (log.logged + log.taken) log.changes in
      let m = length-take ((log.logged - log.installing) + log.taken) gone.changes in
      let l = length-drop log.installing log.changes in
      record {
        bytes = h.bytes;
        end = h.end ∙ (omega (arith, n, m, l, lawful.installing, lawful.taken_within));
        homes = λ k change is.
            let at : (log.start + log.installing) + k ≡ log.start + (log.installing + k) = omega arith in
            let lt = within-take gone.changes ((log.logged - log.installing) + log.taken) k change is in
            let old = behind k change
            (slice_get-take gone.changes ((log.logged - log.installing) + log.taken) k change is) in
            ap (λ n. number_at content (8 + 8 * (n % LOG_SLOTS))) at
            ∙ h.homes (log.installing + k) change
            (slice_get-into_take log.changes (log.logged + log.taken) (log.installing + k) change
            (omega (arith, lawful.installing, lt)) old);
      }

  pub next_log_installed : (io : Io) → IsNextLogCall log io → IsNextLogCall (with_installed log) io
  next_log_installed io h =
      let e : log_end gone ≡ log_end log = omega (arith, lawful.installing) in
      let index : log.installing + ((log.logged - log.installing) + log.log_step)
      ≡ log.logged + log.log_step = omega (arith, lawful.installing) in
      record {
        beginning = h.beginning ∙ sym e;
        step = h.step;
        body = λ lt change is.
            let call = h.body lt change (ap (slice_get log.changes) (sym index)
            ∙ behind ((log.logged - log.installing) + log.log_step) change is) in
            (call.0 ∙ ap (λ n. Write (record { 0 = slot_block (n + log.log_step) })) (sym e), call.1);
        body_barrier = h.body_barrier;
        header = λ at. ((h.header at).0, header_written_behind io.content (h.header at).1);
        header_barrier = h.header_barrier;
      }

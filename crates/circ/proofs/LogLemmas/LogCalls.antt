-- Lemmas: a call of the device keeps the log's own blocks in agreement.
use Rattle.std.proofs.Common.{◌≡◌, ◌≢◌, ℕ, ◌+◌, ◌-◌, ◌<◌, ◌≤◌, ◌⊎◌, inl, inr, true, take, slice_get, Some}
use Rattle.std.proofs.Common.{refl, sym, ap, subst, ◌∙◌, arith, Result, Ok}
use Rattle.std.proofs.lemmas.List.{length-take-le}
use Rattle.std.proofs.lemmas.Bool.{cases_lt, le-leb, lt-ltb, and_from}
use Rattle.std.specs.Prelude.{nat_le, nat_lt}
use Rattle.base.specs.declared.TheConstants.{LOG_HEADER_BLOCK, START_BLOCK}
use Rattle.disk.specs.Device.{Content, Device, current, newest, is_on, HasWritten}
use Rattle.disk.specs.declared.device.Failed.{Failed}
use Rattle.disk.specs.declared.block.BlockNo.{BlockNo}
use Rattle.disk.specs.declared.block.Side.{Side}
use Rattle.disk.specs.declared.block.Side.TheVariants.{Log as OnLog}
use Rattle.circ.specs.declared.log.change.LogChange.{LogChange}
use Rattle.circ.specs.declared.log.calls.IoCall.TheVariants.{Write, Barrier}
use Rattle.circ.specs.Log.Io.{Io, HasMade}
use Rattle.circ.specs.Log.Log.{Log, IsLawful, log_end}
use Rattle.circ.specs.Log.Logger.{slot_block, IsHeader, IsNextLogCall}
use Rattle.circ.specs.Log.Law.{LeavesOnly, HoldsSlots, IsHeaderOf, LogAgrees}
use Rattle.circ.specs.Log.Calls.{HasMadeLogCall}
use Rattle.circ.proofs.LogLemmas.Contents.{PreservesContent, preserves_same, preserves_settled, leaves_preserved, leaves_newest}
use Rattle.circ.proofs.LogLemmas.Contents.{leaves_written, newest_written}
use Rattle.circ.proofs.LogLemmas.Lists.{slice_get-into_take}
use Rattle.circ.proofs.LogLemmas.Steps.{Step, writes, settles, tells, ends, step_of, made_write, made_barrier}
use Rattle.circ.proofs.LogLemmas.Steps.{slots_differ, change_at}

-- the log's own blocks are kept
abbrev pub PreservesOwn : Device → Device → Type 0
PreservesOwn old new = (block : ℕ) → LOG_HEADER_BLOCK ≤ block → block < START_BLOCK → PreservesContent old new block

slot_preserved : (old new : Device) (position : ℕ) → PreservesOwn old new → PreservesContent old new (slot_block position)
slot_preserved old new position preserves = preserves (slot_block position) (omega arith) (omega arith)

header_preserved : (old new : Device) → PreservesOwn old new → PreservesContent old new LOG_HEADER_BLOCK
header_preserved old new preserves = preserves LOG_HEADER_BLOCK (omega arith) (omega arith)

holds_preserved : (old new : Device) (log : Log) (count : ℕ) → PreservesOwn old new → HoldsSlots old log count
    → HoldsSlots new log count
holds_preserved old new log count preserves h k lt change is =
    leaves_preserved old new (slot_block (log.start + k)) (λ content. content ≡ change.content)
    (slot_preserved old new (log.start + k) preserves) (h k lt change is)

pub own_preserved : (old new : Device) (log : Log) → PreservesOwn old new → LogAgrees old log → LogAgrees new log
own_preserved old new log preserves h =
    let head = header_preserved old new preserves in
    record {
      slots = holds_preserved old new log log.logged preserves h.slots;
      written = λ k lt within change is. (slot_preserved old new (log.start + (log.logged + k)) preserves).newest
          ∙ h.written k lt within change is;
      group_slots = λ at. holds_preserved old new log (log.logged + log.taken) preserves (h.group_slots at);
      header = λ at. leaves_preserved old new LOG_HEADER_BLOCK (IsHeaderOf log log.logged) head (h.header at);
      group_header = λ at. leaves_preserved old new LOG_HEADER_BLOCK (λ content. IsHeaderOf log log.logged content
          ⊎ IsHeaderOf log (log.logged + log.taken) content) head (h.group_header at);
      newest_header =
          λ at. subst (IsHeaderOf log (log.logged + log.taken)) (sym head.newest) (h.newest_header at);
    }

pub log_made_preserved : (old new : Device) (log : Log) → PreservesOwn old new → HasMadeLogCall old log
    → HasMadeLogCall new log
log_made_preserved old new log preserves h =
    let head = header_preserved old new preserves in
    record {
      body = λ lt change is. (slot_preserved old new (log.start + (log.logged + log.log_step)) preserves).newest
          ∙ h.body lt change is;
      body_barrier = λ at. holds_preserved old new log (log.logged + log.taken) preserves (h.body_barrier at);
      header = λ at. subst (IsHeaderOf log (log.logged + log.taken)) (sym head.newest) (h.header at);
      header_barrier =
          λ at. leaves_preserved old new LOG_HEADER_BLOCK (IsHeaderOf log (log.logged + log.taken)) head
          (h.header_barrier at);
    }

-- a write of a slot of the group
slot_written : (old new : Device) (log : Log) (wrote : Content) (r : Result Unit Failed) → IsLawful log
    → log.log_step < log.taken
    → HasWritten old (slot_block (log.start + (log.logged + log.log_step))) wrote r new → LogAgrees old log
    → LogAgrees new log
slot_written old new log wrote r lawful lt made h =
    let other : (k : ℕ) → k < log.logged + log.log_step → PreservesContent old new (slot_block (log.start + k)) =
    λ k less. preserves_same old new (slot_block (log.start + k))
    (made.others (slot_block (log.start + k))
    (slots_differ log.start k (log.logged + log.log_step) less (omega (arith, lawful.slots)))) in
    let head : PreservesContent old new LOG_HEADER_BLOCK =
    preserves_same old new LOG_HEADER_BLOCK (made.others LOG_HEADER_BLOCK (λ e. omega (arith, e))) in
    record {
      slots = λ k less change is. leaves_preserved old new (slot_block (log.start + k)) (λ content. content
          ≡ change.content) (other k (omega arith)) (h.slots k less change is);
      written = λ k less within change is. (other (log.logged + k) (omega arith)).newest
          ∙ h.written k less within change is;
      group_slots = λ at. absurd (omega arith);
      header = λ at. leaves_preserved old new LOG_HEADER_BLOCK (IsHeaderOf log log.logged) head (h.header at);
      group_header = λ at. absurd (omega arith);
      newest_header = λ at. absurd (omega arith);
    }

-- the write of the group's header
header_written : (old new : Device) (log : Log) (wrote : Content) (r : Result Unit Failed)
    → log.log_step ≡ log.taken + 1
    → HasWritten old LOG_HEADER_BLOCK wrote r new → IsHeaderOf log (log.logged + log.taken) wrote
    → LogAgrees old log → LogAgrees new log
header_written old new log wrote r at made header h =
    let other : (position : ℕ) → PreservesContent old new (slot_block position) =
    λ position. preserves_same old new (slot_block position)
    (made.others (slot_block position) (λ e. omega (arith, e))) in
    let holds : (count : ℕ) → HoldsSlots old log count → HoldsSlots new log count =
    λ count held k less change is. leaves_preserved old new (slot_block (log.start + k)) (λ content. content
    ≡ change.content) (other (log.start + k)) (held k less change is) in
    record {
      slots = holds log.logged h.slots;
      written = λ k less within change is. (other (log.start + (log.logged + k))).newest
          ∙ h.written k less within change is;
      group_slots = λ later. holds (log.logged + log.taken) (h.group_slots later);
      header = λ before. absurd (omega arith);
      group_header =
          λ later. leaves_written old new LOG_HEADER_BLOCK wrote r
          (λ content. IsHeaderOf log log.logged content ⊎ IsHeaderOf log (log.logged + log.taken) content)
          made (inr header) (h.group_header later);
      newest_header = λ end. absurd (omega arith);
    }

-- the header that is written is one of the group
header_of : (log : Log) (content : Content) → IsLawful log
    → IsHeader content log.start (take (log.logged + log.taken) log.changes)
    → IsHeaderOf log (log.logged + log.taken) content
header_of log content lawful h = (
  h.end ∙ ap (λ n. log.start + n) (length-take-le (log.logged + log.taken) log.changes lawful.taken_within),
  λ k lt change is. h.homes k change
      (slice_get-into_take log.changes (log.logged + log.taken) k change lt is),
)

-- the body's call, with its change
record Body (log : Log) (io : Io) : Type 0 where
  change : LogChange
  is : slice_get log.changes (log.logged + log.log_step) ≡ Some change
  call : io.call ≡ Write (record { 0 = slot_block (log.start + (log.logged + log.log_step)) })
  content : io.content ≡ change.content

body_of : (log : Log) (io : Io) → IsLawful log → IsNextLogCall log io → log.log_step < log.taken → Body log io
body_of log io lawful next lt =
    let (change, is, home) =
    change_at log (log.logged + log.log_step) lawful (omega (arith, lawful.taken_within)) in
    let call = next.body lt change is in
    let e : log_end log + log.log_step ≡ log.start + (log.logged + log.log_step) = omega arith in
    let write = λ (position : ℕ). Write (record { 0 = slot_block position }) in
    record { change = change; is = is; call = call.0 ∙ ap write e; content = call.1 }

-- a barrier of a side keeps each block
pub preserves_barrier : (old new : Device) (io : Io) (side : Side) (r : Result Unit Failed)
    → io.call ≡ Barrier side → HasMade old io r new → (block : ℕ) → PreservesContent old new block
preserves_barrier old new io side r e made block =
    preserves_settled old new side r block (made_barrier old new io side r e made)

-- a call of the logger, made or failed
pub own_called : (old new : Device) (log : Log) (io : Io) (r : Result Unit Failed) → IsLawful log
    → IsNextLogCall log io → HasMade old io r new → LogAgrees old log → LogAgrees new log
own_called old new log io r lawful next made h = go (step_of log.log_step log.taken lawful.log_step)
  where
    settled : io.call ≡ Barrier OnLog → LogAgrees new log
    settled e = own_preserved old new log (λ block low high. preserves_barrier old new io OnLog r e made block) h

    go : Step log.log_step log.taken → LogAgrees new log
    go (writes lt) =
        let body = body_of log io lawful next lt in
        slot_written old new log io.content r lawful lt
        (made_write old new io (record { 0 = slot_block (log.start + (log.logged + log.log_step)) }) r
        body.call made) h
    go (settles at) = settled (next.body_barrier at)
    go (tells at) =
        let call = next.header at in
        header_written old new log io.content r at
        (made_write old new io (record { 0 = LOG_HEADER_BLOCK }) r call.0 made)
        (header_of log io.content lawful call.1) h
    go (ends at) = settled (next.header_barrier at)

-- the other blocks are kept by it
pub homes_spared : (old new : Device) (log : Log) (io : Io) (r : Result Unit Failed) → IsLawful log
    → IsNextLogCall log io → HasMade old io r new
    → (block : ℕ) → (block < LOG_HEADER_BLOCK) ⊎ (START_BLOCK ≤ block) → PreservesContent old new block
homes_spared old new log io r lawful next made at outside =
    go (step_of log.log_step log.taken lawful.log_step)
  where
    same : (other : ℕ) → at ≢ other → HasWritten old other io.content r new → PreservesContent old new at
    same other differs written = preserves_same old new at (written.others at differs)

    apart : (other : ℕ) → LOG_HEADER_BLOCK ≤ other → other < START_BLOCK → at ≢ other
    apart other low high e =
        elim outside as (λ _. ⊥) [ inl below ↦ omega (arith, e) | inr above ↦ omega (arith, e) ]

    go : Step log.log_step log.taken → PreservesContent old new at
    go (writes lt) =
        let body = body_of log io lawful next lt in
        let slot : ℕ = slot_block (log.start + (log.logged + log.log_step)) in
        same slot (apart slot (omega arith) (omega arith))
        (made_write old new io (record { 0 = slot }) r body.call made)
    go (settles step) = preserves_barrier old new io OnLog r (next.body_barrier step) made at
    go (tells step) =
        same LOG_HEADER_BLOCK (apart LOG_HEADER_BLOCK (omega arith) (omega arith))
        (made_write old new io (record { 0 = LOG_HEADER_BLOCK }) r (next.header step).0 made)
    go (ends step) = preserves_barrier old new io OnLog r (next.header_barrier step) made at

-- what the disk shows once it was made
pub log_made : (old new : Device) (log : Log) (io : Io) → IsLawful log → IsNextLogCall log io
    → HasMade old io (Ok tt) new → LogAgrees old log → HasMadeLogCall new log
log_made old new log io lawful next made h = record {
  body = body;
  body_barrier = body_barrier;
  header = header;
  header_barrier = header_barrier;
}
  where
    body : log.log_step < log.taken → (change : LogChange)
        → slice_get log.changes (log.logged + log.log_step) ≡ Some change
        → newest (current new (slot_block (log.start + (log.logged + log.log_step)))) ≡ change.content
    body lt change is =
        let call = next.body lt change is in
        let e : log_end log + log.log_step ≡ log.start + (log.logged + log.log_step) = omega arith in
        let write = λ (position : ℕ). Write (record { 0 = slot_block position }) in
        let slot : BlockNo = record { 0 = slot_block (log.start + (log.logged + log.log_step)) } in
        newest_written old new slot.0 io.content (made_write old new io slot (Ok tt) (call.0
        ∙ ap write e) made) ∙ call.1

    on : (position : ℕ) → is_on OnLog (slot_block position) ≡ true
    on position =
        and_from (nat_le LOG_HEADER_BLOCK (slot_block position)) (nat_lt (slot_block position) START_BLOCK)
        (le-leb LOG_HEADER_BLOCK (slot_block position) (omega arith))
        (lt-ltb (slot_block position) START_BLOCK (omega arith))

    -- each slot of the group has its newest content, settled or not
    newest_of_slot : log.log_step ≡ log.taken → (k : ℕ) → k < log.logged + log.taken → (change : LogChange)
        → slice_get log.changes k ≡ Some change
        → (k < log.logged) ⊎ (newest (current old (slot_block (log.start + k))) ≡ change.content)
    newest_of_slot at k lt change is =
        elim (cases_lt k log.logged) as (λ _. (k < log.logged)
        ⊎ (newest (current old (slot_block (log.start + k))) ≡ change.content)) [
          | inl before ↦ inl before
          | inr later ↦
              let j : ℕ = k - log.logged in
              let e : log.logged + j ≡ k = omega arith in
              inr (ap (λ n. newest (current old (slot_block (log.start + n)))) (sym e)
              ∙ h.written j (omega arith) (omega arith) change (ap (slice_get log.changes) e ∙ is))
        ]

    body_barrier : log.log_step ≡ log.taken → HoldsSlots new log (log.logged + log.taken)
    body_barrier at k lt change is =
        let slot : ℕ = slot_block (log.start + k) in
        let P = λ (content : Content). content ≡ change.content in
        let settled = made_barrier old new io OnLog (Ok tt) (next.body_barrier at) made in
        elim (newest_of_slot at k lt change is) as (λ _. LeavesOnly new slot P) [
          | inl before ↦ leaves_preserved old new slot P (preserves_settled old new OnLog (Ok tt) slot settled)
              (h.slots k before change is)
          | inr written ↦ leaves_newest old new OnLog slot P settled (on (log.start + k)) written
        ]

    header : log.log_step ≡ log.taken + 1
        → IsHeaderOf log (log.logged + log.taken) (newest (current new LOG_HEADER_BLOCK))
    header at =
        let call = next.header at in
        let written =
        newest_written old new LOG_HEADER_BLOCK io.content
        (made_write old new io (record { 0 = LOG_HEADER_BLOCK }) (Ok tt) call.0 made) in
        subst (IsHeaderOf log (log.logged + log.taken)) (sym written) (header_of log io.content lawful call.1)

    header_barrier : log.log_step ≡ log.taken + 2
        → LeavesOnly new LOG_HEADER_BLOCK (IsHeaderOf log (log.logged + log.taken))
    header_barrier at =
        leaves_newest old new OnLog LOG_HEADER_BLOCK (IsHeaderOf log (log.logged + log.taken))
        (made_barrier old new io OnLog (Ok tt) (next.header_barrier at) made) refl (h.newest_header at)

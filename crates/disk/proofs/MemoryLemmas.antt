-- What one more call makes of a device in memory.
use Rattle.std.proofs.Common.{◌≡◌, ◌≢◌, ℕ, zero, suc, ◌+◌, ◌≤◌, Bool, true, false, ◌||◌, ◌&&◌, List, [], ◌∷◌}
use Rattle.std.proofs.Common.{◌++◌, length, get_or, refl, sym, subst, ◌∙◌, ap, arith, inl, inr, Result, Ok}
use Rattle.std.proofs.Common.{Err, is_ok, is_err, if◌then◌else◌, cond}
use Rattle.std.proofs.lemmas.List.{length-append}
use Rattle.std.proofs.lemmas.List.Folds.{list_any-append}
use Rattle.std.proofs.lemmas.List.Sums.{sum_by-append}
use Rattle.std.proofs.Math.Bool.{or-false}
use Rattle.std.proofs.lemmas.Bool.{true≢false, false≢true}
use Rattle.disk.specs.Device.{is_on, newest_only}
use Rattle.std.specs.Prelude.{count_by}
use Rattle.std.specs.List.{list_any}
use Rattle.disk.specs.declared.device.Failed.{Failed}
use Rattle.disk.specs.declared.block.BlockNo.{BlockNo}
use Rattle.disk.specs.declared.block.Side.{Side}
use Rattle.disk.specs.declared.call_record.Call.{Call}
use Rattle.disk.specs.declared.call_record.Call.TheVariants.{Read, Write, Barrier}
use Rattle.disk.specs.declared.call_record.CallRecord.{CallRecord}
use Rattle.disk.specs.Device.{Content, Device, current, OneLater, CountsFailure, HasRead, HasWritten}
use Rattle.disk.specs.Device.{HasSettled, Appends, Settles}
use Rattle.disk.specs.CallRecord.{is_failure, is_lost, makes_uncertain}
use Rattle.disk.specs.Memory.{Blocks, Past, held_at, device_of}
use Rattle.disk.proofs.Failures.{earlier_answers_stay, last_answer_stays}

held_before : (now new : Blocks) (past : Past) (n : CallRecord) (clock : ℕ) → clock ≤ length past
    → held_at new (past ++ (now, n) ∷ []) clock ≡ held_at now past clock
held_before now new [] n zero h = refl
held_before now new [] n (suc m) h = absurd (omega (arith, h))
held_before now new (e ∷ past) n zero h = refl
held_before now new (e ∷ past) n (suc m) h = held_before now new past n m (omega (arith, h))

held_now : (now : Blocks) (past : Past) → held_at now past (length past) ≡ now
held_now now [] = refl
held_now now (e ∷ past) = held_now now past

held_after : (now new : Blocks) (past : Past) (n : CallRecord)
    → held_at new (past ++ (now, n) ∷ []) (length (past ++ (now, n) ∷ [])) ≡ new
held_after now new past n = held_now new (past ++ (now, n) ∷ [])

counted : (p : Blocks × CallRecord → Bool) (past : Past) (e : Blocks × CallRecord)
    → count_by p (past ++ e ∷ []) ≡ count_by p past + cond (p e) 1 0
counted p past e = grind (arith, sum_by-append (λ x. cond (p x) 1 0) past (e ∷ []))

later : (now new : Blocks) (past : Past) (n : CallRecord) → length new ≡ length now
    → OneLater (device_of now past) (device_of new (past ++ (now, n) ∷ []))
later now new past n same = record {
  size = same;
  clock = length-append past ((now, n) ∷ []);
  past = λ clock block h. ap (λ (bs : Blocks). get_or bs block []) (held_before now new past n clock h);
  failed = λ call h. earlier_answers_stay (λ e. is_failure e.1) past (now, n) call h;
  lost = λ call h. earlier_answers_stay (λ e. is_lost e.1.call e.1.result) past (now, n) call h;
  counted = counted (λ e. is_failure e.1) past (now, n)
      ∙ ap (λ (b : Bool). count_by (λ e. is_failure e.1) past + cond b 1 0)
      (sym (last_answer_stays (λ e. is_failure e.1) past (now, n)));
}

-- the contents after one more call are the new ones
pub current_after : (now new : Blocks) (past : Past) (n : CallRecord) (block : ℕ)
    → current (device_of new (past ++ (now, n) ∷ [])) block ≡ get_or new block []
current_after now new past n block = ap (λ (bs : Blocks). get_or bs block []) (held_after now new past n)

pub current_now : (now : Blocks) (past : Past) (block : ℕ)
    → current (device_of now past) block ≡ get_or now block []
current_now now past block = ap (λ (bs : Blocks). get_or bs block []) (held_now now past)

pub counts : (now new : Blocks) (past : Past) (c : Call) (r : Result Unit Failed)
    → CountsFailure (device_of now past) (device_of new (past ++ (now, record { call = c; result = r }) ∷ []))
    r
counts now new past c (Ok x) =
    let h = counted (λ e. is_failure e.1) past (now, record { call = c; result = Ok x }) in omega (arith, h)
counts now new past c (Err x) = counted (λ e. is_failure e.1) past (now, record { call = c; result = Err x })

any_after : (p : Blocks × CallRecord → Bool) (past : Past) (e : Blocks × CallRecord)
    → list_any p (past ++ e ∷ []) ≡ (list_any p past || p e)
any_after p past e = list_any-append p past (e ∷ [])
    ∙ ap (λ (b : Bool). list_any p past || b) (or-false (p e))

-- a fact of the device, where it is made of equal parts
pub moved : (P : Device → Type 0) (now now' : Blocks) (past past' : Past) → now' ≡ now → past' ≡ past
    → P (device_of now past) → P (device_of now' past')
moved P now now' past past' e f h =
    subst (λ (b : Blocks). P (device_of b past')) (sym e)
    (subst (λ (q : Past). P (device_of now q)) (sym f) h)

no_write : (x : Bool) (r : Result Unit Failed) → (x || (is_err r && false)) ≡ x
no_write x (Ok u) = or-false x
no_write x (Err u) = or-false x

pub has_read : (now : Blocks) (past : Past) (b : BlockNo) (r : Result Unit Failed)
    → HasRead (device_of now past) (device_of now (past ++ (now, record { call = Read b; result = r }) ∷ []))
has_read now past b r =
    let n : CallRecord = record { call = Read b; result = r } in
    record {
      later = later now now past n refl;
      lost = last_answer_stays (λ e. is_lost e.1.call e.1.result) past (now, n);
      contents = λ block. current_after now now past n block ∙ sym (current_now now past block);
      uncertain = λ block. any_after (λ e. makes_uncertain block e.1) past (now, n)
          ∙ no_write (list_any (λ e. makes_uncertain block e.1) past) r;
    }

appends : (old old' new new' : List Content) (content : Content) (r : Result Unit Failed) → old' ≡ old
    → new' ≡ new → Appends old content r new → Appends old' content r new'
appends old old' new new' content (Ok u) e f h = f ∙ h ∙ ap (λ (l : List Content). l ++ content ∷ []) (sym e)
appends old old' new new' content (Err u) e f (inl h) = inl (f ∙ h ∙ sym e)
appends old old' new new' content (Err u) e f (inr h) =
    inr (f ∙ h ∙ ap (λ (l : List Content). l ++ content ∷ []) (sym e))

pub has_written : (now new : Blocks) (past : Past) (b : BlockNo) (content : Content) (r : Result Unit Failed)
    → length new ≡ length now → Appends (get_or now b.0 []) content r (get_or new b.0 [])
    → ((other : ℕ) → other ≢ b.0 → get_or new other [] ≡ get_or now other [])
    → HasWritten (device_of now past) b.0 content r
    (device_of new (past ++ (now, record { call = Write b; result = r }) ∷ []))
has_written now new past b content r same h others =
    let n : CallRecord = record { call = Write b; result = r } in
    record {
      later = later now new past n same;
      lost = last_answer_stays (λ e. is_lost e.1.call e.1.result) past (now, n);
      written = appends (get_or now b.0 []) (current (device_of now past) b.0) (get_or new b.0 [])
          (current (device_of new (past ++ (now, n) ∷ [])) b.0) content r (current_now now past b.0)
          (current_after now new past n b.0) h;
      others = λ other ne. current_after now new past n other ∙ others other ne
          ∙ sym (current_now now past other);
      uncertain = λ block. any_after (λ e. makes_uncertain block e.1) past (now, n);
    }

settles : (side : Side) (block : ℕ) (old old' new new' : List Content) (r : Result Unit Failed) → old' ≡ old
    → new' ≡ new → Settles side block old r new → Settles side block old' r new'
settles side block old old' new new' (Ok u) e f h = f ∙ h
    ∙ ap (λ (l : List Content). if is_on side block then newest_only l else l) (sym e)
settles side block old old' new new' (Err u) e f h = f ∙ h ∙ sym e

pub has_settled : (now new : Blocks) (past : Past) (side : Side) (r : Result Unit Failed)
    → length new ≡ length now
    → ((block : ℕ) → Settles side block (get_or now block []) r (get_or new block []))
    → HasSettled (device_of now past) side r
    (device_of new (past ++ (now, record { call = Barrier side; result = r }) ∷ []))
has_settled now new past side r same h =
    let n : CallRecord = record { call = Barrier side; result = r } in
    record {
      later = later now new past n same;
      lost = last_answer_stays (λ e. is_lost e.1.call e.1.result) past (now, n);
      contents = λ block. settles side block (get_or now block []) (current (device_of now past) block)
          (get_or new block []) (current (device_of new (past ++ (now, n) ∷ [])) block) r
          (current_now now past block) (current_after now new past n block) (h block);
      uncertain = λ block. any_after (λ e. makes_uncertain block e.1) past (now, n)
          ∙ no_write (list_any (λ e. makes_uncertain block e.1) past) r;
    }

pub settles_if_ok : (side : Side) (block : ℕ) (old new : List Content) (r : Result Unit Failed)
    → is_ok r ≡ true → new ≡ (if is_on side block then newest_only old else old)
    → Settles side block old r new
settles_if_ok side block old new (Ok u) h e = e
settles_if_ok side block old new (Err u) h e = absurd (false≢true h)

pub settles_if_err : (side : Side) (block : ℕ) (old new : List Content) (r : Result Unit Failed)
    → is_ok r ≡ false → new ≡ old → Settles side block old r new
settles_if_err side block old new (Ok u) h e = absurd (true≢false h)
settles_if_err side block old new (Err u) h e = e

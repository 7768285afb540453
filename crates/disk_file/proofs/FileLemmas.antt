-- What one more call makes of a device over a file.
use Rattle.std.proofs.Common.{◌≡◌, ℕ, ◌+◌, ◌*◌, Bool, false, ◌||◌, ◌&&◌, List, [], ◌∷◌, ◌++◌}
use Rattle.std.proofs.Common.{length, take, refl, sym, subst, ◌∙◌, ap, arith, inl, inr, Result, Ok, Err}
use Rattle.std.proofs.Common.{is_err, if◌then◌else◌, cond}
use Rattle.std.proofs.lemmas.List.{length-append, take_all, take-append-le, append_assoc}
use Rattle.std.proofs.lemmas.List.Folds.{list_any-append}
use Rattle.std.proofs.lemmas.List.Sums.{sum_by-append}
use Rattle.std.proofs.lemmas.Bool.{cases_Bool, eq-eqb, ne_eqb, eqb-true, eqb-false}
use Rattle.std.proofs.Math.Bool.{or-false}
use Rattle.std.specs.Prelude.{nat_eq, count_by, OnOk}
use Rattle.std.specs.declared.snapshot.Snapshot.{Snapshot}
use Rattle.base.specs.declared.TheConstants.{BLOCK_BYTES}
use Rattle.disk.specs.declared.device.Failed.{Failed}
use Rattle.disk.specs.declared.block.Side.{Side}
use Rattle.disk_file.specs.declared.file.FileCall.{FileCall}
use Rattle.disk_file.specs.declared.file.FileCall.TheVariants.{Read, Write, Sync}
use Rattle.disk.specs.Device.{Content, Device, current, newest, OneLater, HasRead, HasWritten, HasSettled}
use Rattle.disk.specs.Device.{Appends, Settles, CountsFailure}
use Rattle.disk_file.specs.File.{Calls, is_at, effect, contents_after, makes_block_uncertain, is_uncertain, file_device, is_lost}
use Rattle.disk_file.specs.File.{KeepsModel}
use Rattle.disk.proofs.Failures.{earlier_answers_stay, last_answer_stays}

-- a block is at another's offset just where it is that one
pub same_block : (one other : ℕ) → is_at one (other * BLOCK_BYTES) ≡ nat_eq one other
same_block one other = elim (cases_Bool (nat_eq one other)) [
  | inl t ↦ eq-eqb (one * BLOCK_BYTES) (other * BLOCK_BYTES)
      (ap (λ n. n * BLOCK_BYTES) (eqb-true one other t)) ∙ sym t
  | inr f ↦ ne_eqb (one * BLOCK_BYTES) (other * BLOCK_BYTES)
      (λ e. eqb-false one other f (omega (arith, e))) ∙ sym f
]

after_more : (block : ℕ) (contents : List Content) (calls : Calls) (call : FileCall) (r : Result Unit Failed)
    → contents_after block contents (calls ++ (call, r) ∷ [])
    ≡ effect block call r (contents_after block contents calls)
after_more block contents [] call r = refl
after_more block contents (e ∷ calls) call r = after_more block (effect block e.0 e.1 contents) calls call r

whole : (block : ℕ) (contents : List Content) (calls : Calls)
    → contents_after block contents (take (length calls) calls) ≡ contents_after block contents calls
whole block contents calls =
    ap (λ (es : Calls). contents_after block contents es) (take_all (length calls) calls (omega arith))

module _ (first : ℕ → Content) (size : ℕ) (calls : Calls) where
  abbrev now : Device
  now = file_device first size calls

  abbrev next : FileCall → Result Unit Failed → Device
  next call r = file_device first size (calls ++ (call, r) ∷ [])

  current_more : (call : FileCall) (r : Result Unit Failed) (block : ℕ)
      → current (next call r) block ≡ effect block call r (current now block)
  current_more call r block =
      whole block (first block ∷ []) (calls ++ (call, r) ∷ [])
      ∙ after_more block (first block ∷ []) calls call r
      ∙ ap (λ (contents : List Content). effect block call r contents)
      (sym (whole block (first block ∷ []) calls))

  counted_more : (call : FileCall) (r : Result Unit Failed)
      → count_by (λ e. is_err e.1) (calls ++ (call, r) ∷ [])
      ≡ count_by (λ e. is_err e.1) calls + cond (is_err r) 1 0
  counted_more call r = grind (arith, sum_by-append (λ e. cond (is_err e.1) 1 0) calls ((call, r) ∷ []))

  later : (call : FileCall) (r : Result Unit Failed) → OneLater now (next call r)
  later call r = record {
    size = refl;
    clock = length-append calls ((call, r) ∷ []);
    past = λ clock block h. ap (λ (es : Calls). contents_after block (first block ∷ []) es)
        (take-append-le clock calls ((call, r) ∷ []) h);
    failed = λ made h. earlier_answers_stay (λ e. is_err e.1) calls (call, r) made h;
    lost = λ made h. earlier_answers_stay (λ e. is_lost e.0 e.1) calls (call, r) made h;
    counted = counted_more call r
        ∙ ap (λ (b : Bool). count_by (λ e. is_err e.1) calls + cond b 1 0)
        (sym (last_answer_stays (λ e. is_err e.1) calls (call, r)));
  }

  uncertain_more : (block : ℕ) (call : FileCall) (r : Result Unit Failed)
      → is_uncertain block (calls ++ (call, r) ∷ []) ≡ (is_uncertain block calls || makes_block_uncertain block call r)
  uncertain_more block call r =
      list_any-append (λ e. makes_block_uncertain block e.0 e.1) calls ((call, r) ∷ [])
      ∙ ap (λ (b : Bool). is_uncertain block calls || b) (or-false (makes_block_uncertain block call r))

  -- an answer is counted just where it is a failure
  pub counts : (call : FileCall) (r : Result Unit Failed) → CountsFailure now (next call r) r
  counts call (Ok u) = sum_by-append (λ e. cond (is_err e.1) 1 0) calls ((call, Ok u) ∷ [])
      ∙ omega arith
  counts call (Err u) = sum_by-append (λ e. cond (is_err e.1) 1 0) calls ((call, Err u) ∷ [])

  -- what kept the model with more calls kept it before
  pub preserves_before : (more : Calls) → KeepsModel first size (calls ++ more) → KeepsModel first size calls
  preserves_before more preserves = record {
    blocks = preserves.blocks;
    explained = λ earlier later call h. preserves.explained earlier (later ++ more) call
        (ap (λ (es : Calls). es ++ more) h ∙ append_assoc earlier ((call, Ok tt) ∷ later) more);
  }

  pub has_read : (at : ℕ) (bytes : Snapshot Content) (r : Result Unit Failed)
      → HasRead now (next (Read at bytes) r)
  has_read at bytes r = record {
    later = later (Read at bytes) r;
    lost = last_answer_stays (λ e. is_lost e.0 e.1) calls (Read at bytes, r);
    contents = λ block. current_more (Read at bytes) r block;
    uncertain = λ block. uncertain_more block (Read at bytes) r ∙ or-false (is_uncertain block calls);
  }

  appends : (b : ℕ) (contents new : List Content) (content : Content) (r : Result Unit Failed)
      → new ≡ (if is_at b (b * BLOCK_BYTES) then contents ++ content ∷ [] else contents)
      → Appends contents content r new
  appends b contents new content (Ok u) e = e
      ∙ ap (λ (t : Bool). if t then contents ++ content ∷ [] else contents)
      (eq-eqb (b * BLOCK_BYTES) (b * BLOCK_BYTES) refl)
  appends b contents new content (Err u) e =
      inr (e ∙ ap (λ (t : Bool). if t then contents ++ content ∷ [] else contents)
      (eq-eqb (b * BLOCK_BYTES) (b * BLOCK_BYTES) refl))

  pub has_written : (b : ℕ) (bytes : Snapshot Content) (r : Result Unit Failed)
      → HasWritten now b bytes.value r (next (Write (b * BLOCK_BYTES) bytes) r)
  has_written b bytes r =
      let call : FileCall = Write (b * BLOCK_BYTES) bytes in
      record {
        later = later call r;
        lost = last_answer_stays (λ e. is_lost e.0 e.1) calls (call, r);
        written = appends b (current now b) (current (next call r) b) bytes.value r (current_more call r b);
        others = λ other ne. current_more call r other
            ∙ ap (λ (t : Bool). if t then current now other ++ bytes.value ∷ [] else current now other)
            (same_block other b ∙ ne_eqb other b ne);
        uncertain = λ block. uncertain_more block call r
            ∙ ap (λ (t : Bool). is_uncertain block calls || (is_err r && t)) (same_block block b);
      }

  -- the same of what is equal to it
  pub written : (after : Calls) (b at : ℕ) (content : Content) (bytes : Snapshot Content)
      (r : Result Unit Failed)
      → bytes.value ≡ content → at ≡ b * BLOCK_BYTES → after ≡ calls ++ (Write at bytes, r) ∷ []
      → HasWritten now b content r (file_device first size after)
  written after b at content bytes r same is traced =
      subst (λ (es : Calls). HasWritten now b content r (file_device first size es)) (sym traced)
      (subst (λ (n : ℕ). HasWritten now b content r (next (Write n bytes) r)) (sym is)
      (subst (λ (c : Content). HasWritten now b c r (next (Write (b * BLOCK_BYTES) bytes) r)) same
      (has_written b bytes r)))

  settles : (side : Side) (block : ℕ) (old new : List Content) (r : Result Unit Failed)
      → new ≡ effect block (Sync side) r old → Settles side block old r new
  settles side block old new (Ok u) e = e
  settles side block old new (Err u) e = e

  pub has_settled : (side : Side) (r : Result Unit Failed) → HasSettled now side r (next (Sync side) r)
  has_settled side r = record {
    later = later (Sync side) r;
    lost = last_answer_stays (λ e. is_lost e.0 e.1) calls (Sync side, r);
    contents = λ block. settles side block (current now block) (current (next (Sync side) r) block) r
        (current_more (Sync side) r block);
    uncertain = λ block. uncertain_more block (Sync side) r ∙ or-false (is_uncertain block calls);
  }

  -- a read that is explained brought the newest content
  pub explained : (b : ℕ) (bytes : Snapshot Content) (r : Result Unit Failed)
      → KeepsModel first size (calls ++ (Read (b * BLOCK_BYTES) bytes, r) ∷ []) → is_uncertain b calls ≡ false
      → OnOk r (bytes.value ≡ newest (current now b))
  explained b bytes (Ok u) preserves clean =
      preserves.explained calls [] (Read (b * BLOCK_BYTES) bytes) refl b
      (eq-eqb (b * BLOCK_BYTES) (b * BLOCK_BYTES) refl) clean
      ∙ ap newest (sym (whole b (first b ∷ []) calls))
  explained b bytes (Err u) preserves clean = tt

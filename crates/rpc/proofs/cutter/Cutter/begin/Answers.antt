use Rattle.std.proofs.Common.{◌≡◌, ◌++◌, length, take, drop, refl, sym, ap, subst, arith, ◌∙◌, List, ℕ}
use Rattle.std.proofs.lemmas.List.{take-append-drop}
use Rattle.rpc.specs.Cutting.{taken_text}
use Rattle.rpc.specs.Records.{mark, IsTooLong}
use Rattle.rpc.proofs.Stages.{outside, before_mark, too_long}
use Rattle.rpc.proofs.cutter.Cutter.begin.Goals as goal

pub returns-then-pending-lt-MARK_BYTES : goal.returns-then-pending-lt-MARK_BYTES
returns-then-pending-lt-MARK_BYTES c =
    let old = c.args.self.now in
    let taken = taken_text old.taken.items in
    let at = outside old.stage taken old.content.items c.requires.outside c.requires.cut in
    record {
      cut = c.requires.cut;
      text = refl;
      tells_stage = before_mark taken old.content.items old.pending.items at
          (omega (arith, c.if-pending-lt-MARK_BYTES.true, ap length c.as_slice-pending.ensures));
    }

pub returns-then-length-len : goal.returns-then-length-len
returns-then-length-len c =
    let old = c.args.self.now in
    let taken = taken_text old.taken.items in
    let at = outside old.stage taken old.content.items c.requires.outside c.requires.cut in
    let leading : take 4 old.pending.items ≡ mark c.announced-last.result.0 c.announced-last.result.1 =
    ap (take 4) (sym c.as_slice-pending.ensures) ∙ c.announced-last.ensures.mark in
    let text = ap (λ (t : List ℕ). taken ++ t) (take-append-drop 4 old.pending.items) in
    record {
      cut = c.requires.cut;
      text = refl;
      tells_stage = subst IsTooLong text
          (too_long taken old.content.items (take 4 old.pending.items) (drop 4 old.pending.items)
          c.announced-last.result.0 c.announced-last.result.1 at leading c.announced-last.ensures.bound
          (omega (arith, at.bounded, c.len.ensures.value, c.if-length-len.true)));
    }

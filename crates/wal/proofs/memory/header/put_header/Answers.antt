use Rattle.std.proofs.Common.{◌≡◌, ℕ, ◌+◌, ◌*◌, ◌%◌, ◌<◌, ◌≤◌, List, length, replicate, slice_get, Some, sym}
use Rattle.std.proofs.Common.{ap, ◌∙◌, arith, below_more}
use Rattle.std.proofs.lemmas.List.{length-replicate, length-take-le}
use Rattle.std.proofs.lemmas.Option.{get_or_from_slice_get}
use Rattle.base.specs.declared.TheConstants.{LOG_SLOTS, BLOCK_BYTES}
use Rattle.circ.specs.declared.log.change.LogChange.{LogChange}
use Rattle.circ.specs.Log.EightBytes.{number_at, with_number}
use Rattle.circ.proofs.LogLemmas.Lists.{within-take, slice_get-take}
use Rattle.circ.proofs.LogLemmas.EightBytes.{length-with_number, number_at-same, number_at-before, address_at-other}
use Rattle.wal.proofs.memory.header.put_header.Goals as goal

pub loop-i-init : goal.loop-i-init
loop-i-init c =
    let zeros : List ℕ = replicate BLOCK_BYTES 0 in
    let n : length zeros ≡ BLOCK_BYTES = length-replicate {A = ℕ} BLOCK_BYTES 0 in
    record {
      bytes = ap length c.put_end.ensures
          ∙ length-with_number zeros 0 (c.args.start + c.args.count) (omega arith) ∙ n;
      end = rw c.put_end.ensures
          (number_at-same zeros 0 (c.args.start + c.args.count) (omega arith) (omega arith));
      homes = λ k h change is. absurd (omega arith);
    }

pub loop-i-preserved : goal.loop-i-preserved
loop-i-preserved c =
    let content : List ℕ = c.loop-i.content in
    let inv = c.loop-i.invariant in
    let offset : ℕ = 8 + 8 * ((c.args.start + c.loop-i.i) % LOG_SLOTS) in
    let home : ℕ = c.index.result.now.block.0 in
    let within : offset + 8 ≤ length content = omega arith in
    let whole : length content ≡ 8 + 8 * LOG_SLOTS = omega arith in
    let P : ℕ → Type 0 = λ k. (change : LogChange) → slice_get c.args.changes.now.items k ≡ Some change
    → number_at (with_number content offset home) (8 + 8 * ((c.args.start + k) % LOG_SLOTS))
    ≡ change.block.0 in
    let before : (k : ℕ) → k < c.loop-i.i → P k = λ k h change is.
    address_at-other content c.args.start k c.loop-i.i home whole h (omega arith) ∙ inv.homes k h change is in
    let here : P c.loop-i.i = λ change is.
    number_at-same content offset home within (omega arith)
    ∙ ap (λ (x : LogChange). x.block.0) (c.index.ensures
    ∙ get_or_from_slice_get c.args.changes.now.items c.loop-i.i change c.index.result.now is) in
    record {
      bytes = ap length c.put_address.ensures.header ∙ length-with_number content offset home within
          ∙ inv.bytes;
      end = rw c.put_address.ensures.header (number_at-before content offset home 0 within (omega arith)
          ∙ inv.end);
      homes = rw c.put_address.ensures.header (below_more P c.loop-i.i before here);
    }

pub returns : goal.returns
returns c =
    let items = c.args.changes.now.items in
    record {
      bytes = c.loop-i.invariant.bytes;
      end = c.loop-i.invariant.end
          ∙ ap (λ n. c.args.start + n) (sym (length-take-le c.args.count items c.requires.count));
      homes = λ k change is. c.loop-i.invariant.homes k
          (omega (arith, within-take items c.args.count k change is)) change
          (slice_get-take items c.args.count k change is);
    }

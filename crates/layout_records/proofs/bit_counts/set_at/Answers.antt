use Rattle.std.proofs.Common.{◌∙◌, add-zero, arith, drop, ◌+◌}
use Rattle.std.proofs.lemmas.List.{get_or-drop, length-drop}
use Rattle.layout_records.proofs.Words.{in_word}
use Rattle.layout_records.proofs.bit_counts.set_at.Goals as goal

pub returns : goal.returns
returns c =
    let bytes = c.args.bytes.now in
    let offset = c.args.offset in
    let long = length-drop offset bytes in
    let less = c.requires in
    record {
      is = in_word (drop offset bytes) c.from_le_bytes-word.result (omega (arith, long, less))
          (λ i. let at = get_or-drop offset bytes i 0 in let fits = c.type_inv.bytes (offset + i) in omega (arith, at, fits))
          (c.from_le_bytes-word.ensures ∙ simp (get_or-drop, add-zero));
    }

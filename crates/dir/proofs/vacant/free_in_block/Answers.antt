use Rattle.std.proofs.Common.{rules, ◌≡◌, ◌+◌, ◌<◌, ◌≤◌, inl, inr, sym, ap, ◌∙◌, true, false, arith}
use Rattle.std.proofs.lemmas.Bool.{cases_lt}
use Rattle.base.specs.declared.TheConstants.{SLOTS_PER_BLOCK}
use Rattle.layout.specs.SlotForm.{read_slot}
use Rattle.dir.specs.Slots.{block_slot}
use Rattle.dir.specs.Vacant.{is_free}
use Rattle.dir.proofs.VacantIn.{zeros_free}
use Rattle.dir.proofs.vacant.free_in_block.Goals as goal

pub returns-then-is_free : goal.returns-then-is_free
returns-then-is_free c = λ inodes.
    let low : c.args.first ≤ c.slots.slot = search rules in
    let less : c.slots.slot < c.args.first + SLOTS_PER_BLOCK = search rules in
    let zeros : c.is_free.result ≡ true = (let h = c.if-is_free.true in search rules) in (
      low,
      less,
      ap (λ b. is_free (read_slot inodes b)) (sym c.bytes_in.ensures.bytes)
          ∙ zeros_free inodes c.bytes_in.result.now c.bytes_in.ensures.len true (sym c.is_free.ensures ∙ zeros),
      c.slots.invariant inodes,
    )

pub slots-preserved : goal.slots-preserved
slots-preserved c = λ inodes slot low less.
    let zeros : c.is_free.result ≡ false = (let h = c.if-is_free.false in search rules) in
    elim (cases_lt slot c.slots.slot) [
      | inl before ↦ c.slots.invariant inodes slot low before
      | inr past ↦
          let same : slot ≡ c.slots.slot = omega (arith, past, less) in
          ap (λ k. is_free (block_slot inodes c.args.first c.args.block.now k)) same
          ∙ ap (λ b. is_free (read_slot inodes b)) (sym c.bytes_in.ensures.bytes)
          ∙ zeros_free inodes c.bytes_in.result.now c.bytes_in.ensures.len false (sym c.is_free.ensures ∙ zeros)
    ]

use Rattle.std.proofs.Common.{◌∙◌, ℕ, List, ap, length, subst, sym}
use Rattle.objects.specs.Counted.{IsCountedIn}
use Rattle.objects.proofs.Splices.{whole_part}
use Rattle.objects.proofs.present_block.part_of.Goals as goal

pub with_count-requires : goal.with_count-requires
with_count-requires c =
    subst (λ (bytes : List ℕ). IsCountedIn bytes c.count.result)
    (sym (c.in_ok-bytes.ensures.bytes
    ∙ whole_part c.args.shared.now c.args.addr.offset c.args.addr.len
    (ap length (sym c.as_slice.ensures.bytes) ∙ c.as_slice.ensures.len) c.args.addr.within
    c.if-addr-lt-BLOCK_BYTES.false)) c.count.ensures.counted

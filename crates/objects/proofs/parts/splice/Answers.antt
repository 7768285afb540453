use Rattle.std.proofs.Common.{◌≡◌, ◌∙◌, ◌⊎◌, ◌+◌, ◌≤◌, ap, length, subst, sym, arith}
use Rattle.base.specs.declared.TheConstants.{BLOCK_BYTES}
use Rattle.objects.specs.Spliced.{extracted}
use Rattle.objects.specs.declared.addr.Addr.{Addr}
use Rattle.objects.proofs.Splices.{elsewhere}
use Rattle.objects.proofs.parts.splice.Goals as goal

pub returns-clause-elsewhere : goal.returns-clause-elsewhere
returns-clause-elsewhere c = λ from len lies.
    let long : length c.args.content.now ≡ BLOCK_BYTES =
    ap length (sym c.as_slice.ensures.bytes) ∙ c.as_slice.ensures.len in
    let many : length c.bytes.result.now ≡ c.addr-addr.result.len =
    c.bytes.ensures.len ∙ ap (λ (addr : Addr). addr.len) (sym c.addr-addr.ensures) in
    ap (λ content. extracted content from len) c.put.ensures.bytes
    ∙ elsewhere c.args.content.now c.bytes.result.now c.addr-addr.result.offset
    (omega (arith, long, many, c.addr-addr.result.within)) c.addr-addr.result.len many from len
    (subst (λ (addr : Addr). (from + len ≤ addr.offset) ⊎ (addr.offset + addr.len ≤ from))
    (sym c.addr-addr.ensures) lies)

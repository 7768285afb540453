use Rattle.std.proofs.Common.{arith, ap, length, vec_len, refl, ◌∙◌, ◌≡◌, ◌++◌, ◌≤◌, ℕ, List}
use Rattle.std.proofs.lemmas.List.{take_all}
use Rattle.base.specs.declared.TheConstants.{BLOCK_BYTES}
use Rattle.layout.specs.SuperForm.{super_header}
use Rattle.layout.proofs.super_block.Super.write.Goals as goal

pub returns-clause-bytes : goal.returns-clause-bytes
returns-clause-bytes c =
    let n : length c.put_header_fields.new.bytes.items ≡ 32 =
    omega (arith, c.in_ok-put_header_fields.ensures.len, ap length c.in_ok-bytes.ensures.items) in
    let b : c.put_header_fields.new.bytes.items ≡ super_header c.args.self.now =
    c.in_ok-put_header_fields.ensures.bytes
    ∙ ap (λ (l : List ℕ). l ++ super_header c.args.self.now) c.in_ok-bytes.ensures.items in
    let few : length c.put_header_fields.new.bytes.items ≤ BLOCK_BYTES = omega (arith, n) in
    let m : vec_len c.put_header_fields.new.bytes ≡ 32 = omega (arith, n) in
    c.in_ok-resize.ensures.items ∙ rw (take_all BLOCK_BYTES c.put_header_fields.new.bytes.items few, m, b) refl

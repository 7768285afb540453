use Rattle.std.proofs.Common.{◌≡◌, ◌∙◌, sym, ap, arith, List, length, get_or}
use Rattle.std.proofs.lemmas.List.{get_or_default}
use Rattle.std.specs.Prelude.{Contains}
use Rattle.disk.specs.Device.{Content, current}
use Rattle.disk.proofs.device_laws.one_image_at_rest.Goals as goal

-- a list of one member contains one thing
only : (xs : List Content) (one other : Content) → length xs ≡ 1 → Contains xs one → Contains xs other
    → one ≡ other
only xs one other e (i, h, p) (j, k, q) =
    let at : i ≡ j = omega arith in
    sym p ∙ get_or_default xs i one other h ∙ ap (λ n. get_or xs n other) at ∙ q

pub returns : goal.returns
returns c d one other rest left right block h =
    only (current d block) (one block) (other block) (rest.one block h) (left block h) (right block h)

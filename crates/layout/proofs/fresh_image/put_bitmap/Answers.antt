use Rattle.std.proofs.Common.{◌*◌, arith, refl}
use Rattle.base.specs.declared.TheConstants.{BITS_PER_BLOCK}
use Rattle.layout.specs.Fresh.{is_outside}
use Rattle.layout.proofs.BitmapBytes.{one_more, whole}
use Rattle.layout.proofs.fresh_image.put_bitmap.Goals as goal

pub bytes-init : goal.bytes-init
bytes-init c = (refl, c.put_zeros.ensures.len)

pub bytes-preserved : goal.bytes-preserved
bytes-preserved c = (
  one_more (is_outside c.args.below c.args.past) (BITS_PER_BLOCK * c.args.part) c.bytes.index
      c.byte_of-byte.result
      c.bytes.block c.put.new.self
      (omega (arith, c.bytes-test.true, c.bytes.invariant.1)) c.put.ensures.bytes c.byte_of-byte.ensures
      c.bytes.invariant.0,
  c.put.ensures.len,
)

pub returns : goal.returns
returns c =
    whole (is_outside c.args.below c.args.past) (BITS_PER_BLOCK * c.args.part) c.bytes.index c.bytes.block
    (omega (arith, c.bytes-test.false, c.bytes.auto.index-end)) c.bytes.invariant.1 c.bytes.invariant.0

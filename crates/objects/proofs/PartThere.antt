-- What the bytes of a block in memory tell of its content.
use Rattle.std.proofs.Common.{◌≡◌, ℕ, List, Option, Some, None, refl}
use Rattle.disk.specs.Device.{Content}
use Rattle.objects.specs.Present.{bytes_in}
use Rattle.objects.specs.Spliced.{extracted}

-- bytes are those of a content that is there
pub record IsPart (there : Option Content) (offset len : ℕ) (bytes : List ℕ) : Type 0 where
  pub content : Content
  pub is : there ≡ Some content
  pub part : bytes ≡ extracted content offset len

pub part_there : (there : Option Content) (offset len : ℕ) (bytes : List ℕ)
    → Some bytes ≡ bytes_in there offset len → IsPart there offset len bytes
part_there None offset len bytes e = absurd (cc)
part_there (Some content) offset len bytes e = record { content = content; is = refl; part = cc }

pub part_absent : (there : Option Content) (offset len : ℕ) → None ≡ bytes_in there offset len → there ≡ None
part_absent None offset len e = refl
part_absent (Some content) offset len e = absurd (cc)

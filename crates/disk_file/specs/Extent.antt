-- Bytes that wait to be written by one call of a file.
use Rattle.std.specs.Prelude.{◌≡◌, ℕ, ◌+◌, List, ◌++◌, length}
use Rattle.disk.specs.Device.{Content}

-- Bytes that are to be written from an offset on end with a content, whose place is this offset.
pub record EndWith (first : ℕ) (bytes : List ℕ) (offset : ℕ) (content : Content) : Type 0 where
  pub before : List ℕ
  pub whole : bytes ≡ before ++ content
  pub is_contiguous : offset ≡ first + length before

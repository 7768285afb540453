-- The numbers in a pointer block that was read.
use Rattle.std.proofs.Common.{◌≡◌, ℕ, sym, ap, ◌∙◌, Bool, true, false, List, [], nat_eq, replicate}
use Rattle.std.specs.List.{list_all}
use Rattle.base.specs.declared.TheConstants.{INDIRECT_INDEXES}
use Rattle.disk.specs.Crash.{Image}
use Rattle.layout.specs.Decode.{numbers_in}
use Rattle.layout.specs.Fields.{numbers_at}
use Rattle.layout.proofs.NumbersIn.{in_length, none_in, none_pass, some_in}

-- zeros, where there is none
pub zeros_in : (content : Image) (pointer : ℕ) (zeros : List ℕ) → nat_eq pointer 0 ≡ true
    → zeros ≡ replicate INDIRECT_INDEXES 0 → zeros ≡ numbers_in content pointer
zeros_in content pointer zeros none are =
    are ∙ sym (none_in content pointer none ∙ ap (λ n. replicate n 0) (in_length content pointer))

-- they pass what zero passes
pub zeros_pass : (pointer : ℕ) (zeros : List ℕ) (test : ℕ → Bool) → nat_eq pointer 0 ≡ true
    → zeros ≡ replicate INDIRECT_INDEXES 0 → test 0 ≡ true → list_all test zeros ≡ true
zeros_pass pointer zeros test none are is =
    ap (list_all test) (zeros_in no_blocks pointer zeros none are) ∙ none_pass no_blocks pointer none test is
  where
    no_blocks : Image
    no_blocks number = []

-- what its bytes spell, where there is one
pub spelled_in : (content : Image) (pointer : ℕ) (bytes numbers : List ℕ) → nat_eq pointer 0 ≡ false
    → bytes ≡ content pointer → numbers ≡ numbers_at INDIRECT_INDEXES 0 bytes → numbers ≡ numbers_in content pointer
spelled_in content pointer bytes numbers some is are =
    are ∙ ap (numbers_at INDIRECT_INDEXES 0) is ∙ sym (some_in content pointer some)

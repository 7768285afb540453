-- Numbers and bytes as words.
use Rattle.std.specs.Prelude.{ℕ, ◌+◌, ◌*◌, ◌-◌, ◌^◌, ◌==◌, Bool, true, ◌&&◌, nat_lt, List, [], ◌∷◌, length}
use Rattle.std.specs.Prelude.{Option, Some, None, if◌then◌else◌}
use Rattle.std.specs.Char.{is_ascii_digit, is_ascii_uppercase}
use Rattle.std.specs.List.{list_any}
use Rattle.std.specs.Result.{result_ok}
use Rattle.hex.specs.Hex.{decode_of}

-- the number that decimal digits write when they follow those of another, 48 being '0'
abbrev pub value_after : ℕ → List ℕ → ℕ
value_after number [] = number
value_after number (digit ∷ digits) = value_after (number * 10 + (digit - 48)) digits

abbrev pub are_digits : List ℕ → Bool
are_digits [] = true
are_digits (digit ∷ digits) = is_ascii_digit digit && are_digits digits

abbrev pub fits : ℕ → Option ℕ
fits number = if nat_lt number (2 ^ 32) then Some number else None

-- the number of 32 bits that these digits write when they follow those of another
abbrev pub number_after : ℕ → List ℕ → Option ℕ
number_after number digits = if are_digits digits then fits (value_after number digits) else None

-- one decimal digit or more
abbrev pub number_of : List ℕ → Option ℕ
number_of word = if length word == 0 then None else number_after 0 word

-- a number with one digit more
abbrev pub with_digit : ℕ → ℕ → Option ℕ
with_digit number digit = if is_ascii_digit digit then fits (number * 10 + (digit - 48)) else None

abbrev pub has_upper_case : List ℕ → Bool
has_upper_case word = list_any is_ascii_uppercase word

-- two hexadecimal digits a byte, in lower case
abbrev pub bytes_of : List ℕ → Option (List ℕ)
bytes_of word = if has_upper_case word then None else result_ok (decode_of word)

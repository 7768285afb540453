-- How a stream of bytes is cut into records (RFC 5531, section 11).
use Rattle.std.specs.Prelude.{◌≡◌, ℕ, ◌+◌, ◌<◌, ◌≤◌, ◌^◌, ◌⊎◌, Bool, true, false, List, [], ◌∷◌, ◌++◌, length}
use Rattle.std.specs.Prelude.{flat_map}
use Rattle.std.specs.List.{AllByRecursion}
use Rattle.base.specs.declared.TheConstants.{RECORD_BYTES}
use Rattle.xdr.specs.Items.{word}

-- the mark of a fragment: its length, with the highest bit set in the last fragment of a record
abbrev pub mark : Bool → ℕ → List ℕ
mark false n = word n
mark true n = word (2 ^ 31 + n)

abbrev pub fragment : Bool → List ℕ → List ℕ
fragment last bytes = mark last (length bytes) ++ bytes

-- the parts in a row
abbrev pub joined : List (List ℕ) → List ℕ
joined parts = flat_map (λ part. part) parts

-- the bytes are one record of this content, in any fragments
pub record IsRecord (bytes content : List ℕ) : Type 0 where
  pub parts : List (List ℕ)
  pub last : List ℕ
  pub cut : bytes ≡ flat_map (fragment false) parts ++ fragment true last
  pub content_is : content ≡ joined parts ++ last
  pub bounded : length content ≤ RECORD_BYTES

abbrev pub BeginsWithRecord : List ℕ → Type 0
BeginsWithRecord bytes = (text : List ℕ) × (content : List ℕ) × (more : List ℕ) × (bytes ≡ text ++ more)
    × IsRecord text content

-- the bytes are whole records of these contents, and a rest that doesn't begin with one
abbrev pub records : List ℕ → List (List ℕ) → List ℕ → Type 0
records bytes [] rest = (bytes ≡ rest) × (BeginsWithRecord rest → ⊥)
records bytes (first ∷ others) rest = (text : List ℕ) × (more : List ℕ) × (bytes ≡ text ++ more)
    × IsRecord text first × records more others rest

-- the bytes are whole records of these contents, and then what is left, whatever that is
abbrev pub CutsOff : List ℕ → List (List ℕ) → List ℕ → Type 0
CutsOff bytes [] left = bytes ≡ left
CutsOff bytes (first ∷ others) left = (text : List ℕ) × (more : List ℕ) × (bytes ≡ text ++ more)
    × IsRecord text first × CutsOff more others left

-- the marks of the first record announce more than a record may have
pub record IsTooLong (rest : List ℕ) : Type 0 where
  pub parts : List (List ℕ)
  pub last : Bool
  pub announced : ℕ
  pub more : List ℕ
  pub parts_marked : AllByRecursion (λ part. length part < 2 ^ 31) parts
  pub marked : announced < 2 ^ 31
  pub cut : rest ≡ flat_map (fragment false) parts ++ mark last announced ++ more
  pub long : RECORD_BYTES < length (joined parts) + announced

-- A record has begun and isn't whole: fewer bytes are there than the next mark has, or fewer than the last mark
-- announces; the marks so far announce no more than a record may have.
pub data IsPart (rest : List ℕ) : Type 0 where
  BeforeMark : (parts : List (List ℕ)) (some : List ℕ) → length (joined parts) ≤ RECORD_BYTES → length some < 4
      → rest ≡ flat_map (fragment false) parts ++ some → IsPart rest
  InFragment : (parts : List (List ℕ)) (last : Bool) (announced : ℕ) (some : List ℕ)
      → length (joined parts) + announced ≤ RECORD_BYTES → length some < announced
      → rest ≡ flat_map (fragment false) parts ++ mark last announced ++ some → IsPart rest

-- how many bytes of it are content: all that came, without the marks that are whole
unfoldable pub held_of : {rest : List ℕ} → IsPart rest → ℕ
held_of (BeforeMark parts some _ _ _) = length (joined parts) + length some
held_of (InFragment parts last announced some _ _ _) = length (joined parts) + length some

pub record HasBegun (rest : List ℕ) : Type 0 where
  pub some : 0 < length rest
  pub part : IsPart rest

-- what may be left of a stream, once all whole records are cut out
abbrev pub IsRest : List ℕ → Type 0
IsRest rest = (rest ≡ []) ⊎ HasBegun rest ⊎ IsTooLong rest

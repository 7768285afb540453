-- How a stream is cut into records (RFC 5531, section 11).
use Rattle.std.specs.Prelude.{◌≡◌, ℕ, ◌+◌, ◌<◌, ◌≤◌, ◌^◌, ◌⊎◌, Bool, true, false, List, ◌++◌, length, take}
use Rattle.std.specs.Prelude.{flat_map}
use Rattle.base.specs.declared.TheConstants.{RECORD_BYTES}
use Rattle.plain_once.specs.declared.session.records.Cut.{Cut}
use Rattle.plain_once.specs.declared.session.records.Cut.TheVariants as cuts
use Rattle.xdr.specs.Items.{word}

-- the mark of a fragment: its length, with the highest bit in the last fragment of a record
abbrev pub mark : Bool → ℕ → List ℕ
mark false count = word count
mark true count = word (2 ^ 31 + count)

-- a fragment stands behind its mark
abbrev pub fragment : Bool → List ℕ → List ℕ
fragment last bytes = mark last (length bytes) ++ bytes

-- parts of a record: as the fragments before the last one, and what they hold
abbrev pub fragments : List (List ℕ) → List ℕ
fragments parts = flat_map (fragment false) parts

abbrev pub joined : List (List ℕ) → List ℕ
joined parts = flat_map (λ part. part) parts

-- fragments that aren't the last one, of no more bytes than a record may have, and what stands behind them
pub record Begins (stream : List ℕ) (parts : List (List ℕ)) (behind : List ℕ) : Type 0 where
  pub cut : stream ≡ fragments parts ++ behind
  pub bounded : length (joined parts) ≤ RECORD_BYTES

-- a mark with what stands behind it
pub record IsMarked (bytes : List ℕ) (last : Bool) (count : ℕ) (behind : List ℕ) : Type 0 where
  pub cut : bytes ≡ mark last count ++ behind
  pub marked : count < 2 ^ 31

-- the bytes are one record of this content
pub record IsRecord (bytes content : List ℕ) : Type 0 where
  pub parts : List (List ℕ)
  pub last : List ℕ
  pub begins : Begins bytes parts (fragment true last)
  pub is : content ≡ joined parts ++ last
  pub bounded : length content ≤ RECORD_BYTES

-- the next mark announces more than a record may have
pub record IsTooLong (stream : List ℕ) : Type 0 where
  pub parts : List (List ℕ)
  pub last : Bool
  pub count : ℕ
  pub next : List ℕ
  pub behind : List ℕ
  pub begins : Begins stream parts next
  pub announced : IsMarked next last count behind
  pub long : RECORD_BYTES < length (joined parts) + count

-- the next mark isn't whole
pub record EndsInMark (stream : List ℕ) : Type 0 where
  pub parts : List (List ℕ)
  pub next : List ℕ
  pub begins : Begins stream parts next
  pub part : length next < 4

-- the next fragment isn't whole, and may be part of a record
pub record EndsInFragment (stream : List ℕ) : Type 0 where
  pub parts : List (List ℕ)
  pub last : Bool
  pub count : ℕ
  pub next : List ℕ
  pub behind : List ℕ
  pub begins : Begins stream parts next
  pub announced : IsMarked next last count behind
  pub bounded : length (joined parts) + count ≤ RECORD_BYTES
  pub part : length behind < count

-- no record is whole yet: nothing is there, or one has begun
abbrev pub NeedsMore : List ℕ → Type 0
NeedsMore stream = EndsInMark stream ⊎ EndsInFragment stream

-- what stands at the beginning of a stream
abbrev pub Cuts : List ℕ → Cut → Type 0
Cuts stream cuts.NeedsMore = NeedsMore stream
Cuts stream cuts.TooLong = IsTooLong stream
Cuts stream (cuts.Record content taken) =
    (taken ≤ length stream) × IsRecord (take taken stream) content.items

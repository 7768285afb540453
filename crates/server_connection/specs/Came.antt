-- What a read of a connection brings.
use Rattle.std.specs.Prelude.{ℕ, ◌<◌, List, [], take, Option}
use Rattle.std.specs.Io.KnownBytes.{Consumes}
use Rattle.server_connection.specs.declared.piece.Piece as pieces
use Rattle.server_connection.specs.declared.piece.read.Came.{Came}
use Rattle.server_connection.specs.declared.piece.read.Came.TheVariants.{Piece, Again, Nothing, Gone}

abbrev pub bytes_of : pieces.Piece → List ℕ
bytes_of piece = take piece.count piece.bytes.items

-- A piece has the bytes that were taken off what the reader had left, and at least one; otherwise none was taken.
abbrev pub Takes : Option (List ℕ) → Came → Option (List ℕ) → Type 0
Takes old (Piece piece) new = (0 < piece.count) × Consumes old new (bytes_of piece)
Takes old (Again buffer) new = Consumes old new []
Takes old Nothing new = Consumes old new []
Takes old Gone new = Consumes old new []

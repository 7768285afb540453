-- A record of one fragment: its mark, and its message behind that.
use Rattle.std.proofs.Common.{◌≡◌, ◌∙◌, ◌+◌, ◌-◌, ◌≤◌, ◌^◌, ℕ, List, true, arith, drop, take, length, length-append}
use Rattle.std.proofs.lemmas.List.{drop_at, length-drop, take_all}
use Rattle.rpc.proofs.Lengths.{word-length}
use Rattle.rpc.specs.Records.{fragment}
use Rattle.xdr.specs.Items.{word}

pub mark_there : (text message : List ℕ) → text ≡ fragment true message → 4 ≤ length text
mark_there text message is =
    let long = length-append (word (2 ^ 31 + length message)) message in
    let mark = word-length (2 ^ 31 + length message) in
    rw is (omega arith)

pub behind_mark : (text message : List ℕ) → text ≡ fragment true message → drop 4 text ≡ message
behind_mark text message is =
    rw is (drop_at (word (2 ^ 31 + length message)) message 4 (word-length (2 ^ 31 + length message)))

-- all that is behind the mark is the message
pub message_behind : (text message : List ℕ) → text ≡ fragment true message
    → take (length text - 4) (drop 4 text) ≡ message
message_behind text message is =
    let behind = length-drop 4 text in
    take_all (length text - 4) (drop 4 text) (omega (arith, behind)) ∙ behind_mark text message is

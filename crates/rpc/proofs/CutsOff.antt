-- A stream that is cut into records, as it goes on: one piece more, and one record more.
use Rattle.std.proofs.Common.{◌≡◌, ℕ, List, [], ◌∷◌, ◌++◌, refl, ap, ◌∙◌, append_assoc}
use Rattle.rpc.specs.Records.{CutsOff, IsRecord}

pub cut_feed : (read left piece : List ℕ) (messages : List (List ℕ)) → CutsOff read messages left
    → CutsOff (read ++ piece) messages (left ++ piece)
cut_feed read left piece [] cut = ap (λ (t : List ℕ). t ++ piece) cut
cut_feed read left piece (m ∷ ms) cut = (
  cut.0,
  cut.1 ++ piece,
  ap (λ (t : List ℕ). t ++ piece) cut.2 ∙ append_assoc cut.0 cut.1 piece,
  cut.3,
  cut_feed cut.1 left piece ms cut.4,
)

pub cut_next : (read left text m more : List ℕ) (messages : List (List ℕ)) → CutsOff read messages left
    → left ≡ text ++ more → IsRecord text m → CutsOff read (messages ++ m ∷ []) more
cut_next read left text m more [] cut e is = (text, more, cut ∙ e, is, refl)
cut_next read left text m more (n ∷ ns) cut e is =
    (cut.0, cut.1, cut.2, cut.3, cut_next cut.1 left text m more ns cut.4 e is)

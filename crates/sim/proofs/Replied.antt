-- The lines of answers, one behind another.
use Rattle.std.proofs.Common.{Option, ◌≡◌, ◌∙◌, ◌+◌, ◌<◌, ◌≤◌, ℕ, List, [], ◌∷◌, ◌++◌, ap, sym, take, length, flat_map, append-nil, subst}
use Rattle.std.specs.Io.KnownBytes.{Appends}
use Rattle.std.proofs.KnownBytes.{Appends-nil}
use Rattle.std.proofs.Math.ListN.{get_or}
use Rattle.std.proofs.lemmas.List.{take_all, take_more}
use Rattle.std.proofs.lemmas.Grind.{flat_map-append}
use Rattle.http_server.proofs.KnownLemmas.{Appends-then}
use Rattle.store_promise.specs.declared.events.Step.{Step}
use Rattle.store_promise.specs.declared.transcript.Answer.{Answer}
use Rattle.sim.specs.Replies.{answer_line, number_of, reply_lines}
use Rattle.sim.specs.declared.handed.Handed.{Handed}

-- the bytes of one more
pub flat_map_more : {X : Type 0} (f : X → List ℕ) (xs : List X) (index : ℕ) (d : X) → index < length xs
    → flat_map f (take (index + 1) xs) ≡ flat_map f (take index xs) ++ f (get_or xs index d)
flat_map_more f xs index d there = ap (flat_map f) (take_more xs index d there)
    ∙ flat_map-append f (take index xs) (get_or xs index d ∷ [])
    ∙ ap (λ (more : List ℕ). flat_map f (take index xs) ++ more) (append-nil (f (get_or xs index d)))

-- the lines of no answer are printed at first
pub lines_begin : (written : Option (List ℕ)) (handed : List Handed) (steps : List (Option Step)) (answers : List Answer)
    → Appends written written (reply_lines handed steps (take 0 answers))
lines_begin written handed steps answers = Appends-nil written

-- and then one more
pub lines_more : (written now then : Option (List ℕ)) (handed : List Handed) (steps : List (Option Step))
    (answers : List Answer) (index : ℕ) (d : Answer) → index < length answers
    → Appends written now (reply_lines handed steps (take index answers))
    → Appends now then (answer_line (number_of handed steps (get_or answers index d)) (get_or answers index d))
    → Appends written then (reply_lines handed steps (take (index + 1) answers))
lines_more written now then handed steps answers index d there before line =
    subst (λ (bytes : List ℕ). Appends written then bytes)
    (sym (flat_map_more (λ answer. answer_line (number_of handed steps answer) answer) answers index d there))
    (Appends-then written now then (reply_lines handed steps (take index answers))
    (answer_line (number_of handed steps (get_or answers index d)) (get_or answers index d)) before line)

-- up to the last
pub lines_end : (written now : Option (List ℕ)) (handed : List Handed) (steps : List (Option Step))
    (answers : List Answer) (index : ℕ) → length answers ≤ index
    → Appends written now (reply_lines handed steps (take index answers))
    → Appends written now (reply_lines handed steps answers)
lines_end written now handed steps answers index all printed =
    subst (λ (some : List Answer). Appends written now (reply_lines handed steps some))
    (take_all index answers all) printed

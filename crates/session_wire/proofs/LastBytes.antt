-- What a header leaves are the last bytes of its message.
use Rattle.std.proofs.Common.{◌≡◌, ◌+◌, ◌-◌, ◌∙◌, ℕ, List, ◌++◌, length, take, drop, Ok, ap, sym, subst, arith}
use Rattle.std.proofs.Common.{append_assoc, length-append}
use Rattle.std.proofs.lemmas.List.{drop_at, take-append-drop}
use Rattle.rpc.specs.Headers.{Heading, header_at, opening_at}
use Rattle.rpc.specs.declared.header.Opening.{Opening}
use Rattle.session_wire.specs.Judging.{AreLast}
use Rattle.session_wire.proofs.CodedHeaders.{heading_bytes, headings, opening_bytes, openings}
use Rattle.xdr.proofs.Coded.{IsBytes, IsBytes-drop}

ends : (bytes reply_header rest : List ℕ) → bytes ≡ reply_header ++ rest → AreLast bytes rest
ends bytes reply_header rest are =
    let counted : length bytes ≡ length reply_header + length rest = ap length are ∙ length-append reply_header rest in (
      omega (arith, counted),
      ap (λ (all : List ℕ). drop (length bytes - length rest) all) are
          ∙ drop_at reply_header rest (length bytes - length rest) (omega (arith, counted)),
    )

-- the first part of a header leaves the last bytes
pub opened : (message : List ℕ) (opening : Opening) (rest : List ℕ) → IsBytes message
    → opening_at message ≡ Ok (opening, rest) → AreLast message rest
opened message opening rest bytes read =
    ends message (opening_bytes opening) rest (openings.takes message opening rest bytes read).0.parts

-- so does the second, of what the first left
pub headed : (message left : List ℕ) (heading : Heading) (rest : List ℕ) → IsBytes message → AreLast message left
    → header_at left ≡ Ok (heading, rest) → AreLast message rest
headed message left heading rest bytes last read =
    let at : ℕ = length message - length left in
    let each : IsBytes left = subst IsBytes last.1 (IsBytes-drop at message bytes) in
    let parts = (headings.takes left heading rest each read).0.parts in
    ends message (take at message ++ heading_bytes heading) rest (sym (take-append-drop at message)
    ∙ ap (λ (more : List ℕ). take at message ++ more) (last.1 ∙ parts)
    ∙ sym (append_assoc (take at message) (heading_bytes heading) rest))

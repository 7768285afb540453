-- Reading numbers one after another, as a loop does.
use Rattle.std.proofs.Common.{◌≡◌, ℕ, suc, ◌-◌, ◌+◌, ◌≤◌, ◌<◌, List, [], ◌∷◌, ◌++◌, Result, Ok, Err, refl}
use Rattle.std.proofs.Common.{sym, ap, ◌∙◌, append_assoc, arith}
use Rattle.std.specs.Int.{w32}
use Rattle.std.proofs.lemmas.List.{append-nil}
use Rattle.xdr.specs.declared.fault.XdrFault.{XdrFault}
use Rattle.xdr.specs.Reading.{◌>>=◌, number_at}
use Rattle.rpc.specs.Credentials.{numbers_at}

-- what was read before, and what is still read
abbrev pub with_leading : List ℕ → Result (List ℕ × List ℕ) XdrFault → Result (List ℕ × List ℕ) XdrFault
with_leading leading read = read >>= λ x. Ok (leading ++ x.0, x.1)

regroup : (leading : List ℕ) (n : ℕ) (read : Result (List ℕ × List ℕ) XdrFault)
    → with_leading leading (read >>= λ x. Ok (n ∷ x.0, x.1)) ≡ with_leading (leading ++ n ∷ []) read
regroup leading n (Ok x) = ap (λ (ns : List ℕ). Ok (ns, x.1)) (simp append_assoc)
regroup leading n (Err f) = refl

pub begins : (total : Result (List ℕ × List ℕ) XdrFault) → with_leading [] total ≡ total
begins (Ok x) = refl
begins (Err e) = refl

pub goes_on : (leading : List ℕ) (count i : ℕ) (bytes : List ℕ) (n : ℕ) (after : List ℕ)
    (total : Result (List ℕ × List ℕ) XdrFault) → i < count → number_at w32 bytes ≡ Ok (n, after)
    → with_leading leading (numbers_at (count - i) bytes) ≡ total
    → with_leading (leading ++ n ∷ []) (numbers_at (count - (i + 1)) after) ≡ total
unfolding numbers_at
goes_on leading count i bytes n after total lt h so_far =
    let k : count - i ≡ suc (count - (i + 1)) = omega arith in
    let one : with_leading leading (numbers_at (count - i) bytes)
    ≡ with_leading (leading ++ n ∷ []) (numbers_at (count - (i + 1)) after) =
    rw (k, h) (regroup leading n (numbers_at (count - (i + 1)) after)) in
    sym one ∙ so_far

pub ends : (e : XdrFault) (leading : List ℕ) (count i : ℕ) (bytes : List ℕ)
    (total : Result (List ℕ × List ℕ) XdrFault) → i < count → number_at w32 bytes ≡ Err e
    → with_leading leading (numbers_at (count - i) bytes) ≡ total → total ≡ Err e
unfolding numbers_at
ends e leading count i bytes total lt h so_far =
    let k : count - i ≡ suc (count - (i + 1)) = omega arith in
    let one : with_leading leading (numbers_at (count - i) bytes) ≡ Err e = rw (k, h) refl in
    sym so_far ∙ one

pub is_done : (leading : List ℕ) (count i : ℕ) (bytes : List ℕ) (total : Result (List ℕ × List ℕ) XdrFault)
    → count ≤ i → with_leading leading (numbers_at (count - i) bytes) ≡ total → total ≡ Ok (leading, bytes)
unfolding numbers_at
is_done leading count i bytes total le so_far =
    let k : count - i ≡ 0 = omega arith in
    let one : with_leading leading (numbers_at (count - i) bytes) ≡ Ok (leading, bytes) =
    rw k (ap (λ (ns : List ℕ). Ok (ns, bytes)) (append-nil leading)) in
    sym so_far ∙ one

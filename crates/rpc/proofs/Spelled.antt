-- The bytes of groups are read as the numbers that they spell.
use Rattle.std.proofs.Common.{◌≡◌, ◌≢◌, ℕ, zero, suc, ◌*◌, ◌/◌, ◌<◌, ◌≤◌, false, List, [], ◌∷◌}
use Rattle.std.proofs.Common.{◌++◌, length, Ok, Err, refl, sym, ap, subst, ◌∙◌, arith}
use Rattle.std.proofs.lemmas.Bool.{le-ltb}
use Rattle.std.proofs.lemmas.List.{append-nil}
use Rattle.std.specs.Prelude.{nat_lt}
use Rattle.std.specs.Int.{w32, from_be_bytes}
use Rattle.base.specs.declared.TheConstants.{MOST_GIDS}
use Rattle.xdr.specs.declared.fault.XdrFault.{XdrFault}
use Rattle.xdr.specs.declared.fault.XdrFault.TheVariants.{Short}
use Rattle.xdr.specs.Reading.{number_at}
use Rattle.xdr.proofs.Coded.{ok_is}
use Rattle.rpc.specs.Credentials.{numbers_at, gids_at}
use Rattle.rpc.specs.Groups.{AreGroups, numbers_in}

pub no_groups : AreGroups []
unfolding numbers_in
no_groups = record { whole = refl; few = omega arith }

pub nothing_spelled : numbers_in [] ≡ []
unfolding numbers_in
nothing_spelled = refl

-- four bytes are a number
four_read : (a b c d : ℕ) (rest : List ℕ) → number_at w32 (a ∷ b ∷ c ∷ d ∷ rest)
    ≡ Ok (from_be_bytes w32 (a ∷ b ∷ c ∷ d ∷ []), rest)
four_read a b c d rest =
    let long : nat_lt (length (a ∷ b ∷ c ∷ d ∷ rest)) 4 ≡ false = le-ltb _ _ (omega arith) in
    rw long refl

-- so many whole numbers, and what is behind them
pub read_split : (n : ℕ) (leading rest : List ℕ) → length leading ≡ 4 * n
    → (numbers_at n (leading ++ rest) ≡ Ok (numbers_in leading, rest)) × (length (numbers_in leading) ≡ n)
unfolding numbers_at numbers_in
read_split zero [] rest is = (refl, refl)
read_split zero (a ∷ leading) rest is = absurd (omega (arith, is))
read_split (suc n) [] rest is = absurd (omega (arith, is))
read_split (suc n) (a ∷ []) rest is = absurd (omega (arith, is))
read_split (suc n) (a ∷ b ∷ []) rest is = absurd (omega (arith, is))
read_split (suc n) (a ∷ b ∷ c ∷ []) rest is = absurd (omega (arith, is))
read_split (suc n) (a ∷ b ∷ c ∷ d ∷ leading) rest is =
    let others = read_split n leading rest (omega (arith, is)) in
    (rw (four_read a b c d (leading ++ rest), others.0) refl, ap suc others.1)

-- with fewer bytes the first number that lacks some is refused
pub read_short : (n : ℕ) (bytes : List ℕ) → length bytes < 4 * n → numbers_at n bytes ≡ Err Short
unfolding numbers_at
read_short zero bytes lt = absurd (omega (arith, lt))
read_short (suc n) [] lt = refl
read_short (suc n) (a ∷ []) lt = refl
read_short (suc n) (a ∷ b ∷ []) lt = refl
read_short (suc n) (a ∷ b ∷ c ∷ []) lt = refl
read_short (suc n) (a ∷ b ∷ c ∷ d ∷ bytes) lt =
    rw (four_read a b c d bytes, read_short n bytes (omega (arith, lt))) refl

-- ---- a counted list

pub are_groups : (count : ℕ) (bytes : List ℕ) → length bytes ≡ 4 * count → count ≤ MOST_GIDS
    → AreGroups bytes
are_groups count bytes long few =
    let many = (read_split count bytes [] long).1 in
    record { whole = omega (arith, long, many); few = omega (arith, few, many) }

-- the groups behind their count, in a front of what is there
pub gids_are : (count : ℕ) (bytes rest leading behind : List ℕ) → number_at w32 bytes ≡ Ok (count, rest)
    → count ≤ MOST_GIDS → rest ≡ leading ++ behind → length leading ≡ 4 * count
    → gids_at bytes ≡ Ok (numbers_in leading, behind)
unfolding gids_at
gids_are count bytes rest leading behind read few cut long =
    let lawful : nat_lt MOST_GIDS count ≡ false = le-ltb _ _ few in
    rw (read, lawful, cut) ((read_split count leading behind long).0)

pub gids_short : (count : ℕ) (bytes rest : List ℕ) → number_at w32 bytes ≡ Ok (count, rest)
    → count ≤ MOST_GIDS → length rest < 4 * count → gids_at bytes ≡ Err Short
unfolding gids_at
gids_short count bytes rest read few lt =
    let lawful : nat_lt MOST_GIDS count ≡ false = le-ltb _ _ few in
    rw (read, lawful) (read_short count rest lt)

-- ---- the numbers of such bytes

pub count_is : (bytes : List ℕ) → AreGroups bytes → length bytes / 4 ≡ length (numbers_in bytes)
count_is bytes are = let whole = are.whole in omega (arith, whole)

pub read_whole : (bytes : List ℕ) → AreGroups bytes
    → numbers_at (length bytes / 4) bytes ≡ Ok (numbers_in bytes, [])
read_whole bytes are =
    let all : numbers_at (length (numbers_in bytes)) (bytes ++ []) ≡ Ok (numbers_in bytes, []) =
    (read_split (length (numbers_in bytes)) bytes [] are.whole).0 in
    rw (count_is bytes are) (subst (λ (text : List ℕ). numbers_at (length (numbers_in bytes)) text
    ≡ Ok (numbers_in bytes, [])) (append-nil bytes) all)

-- what was read is what they spell
pub same_read : (bytes ns rest : List ℕ) → AreGroups bytes
    → numbers_at (length bytes / 4) bytes ≡ Ok (ns, rest) → ns ≡ numbers_in bytes
same_read bytes ns rest are read =
    ap (λ (x : List ℕ × List ℕ). x.0)
    (ok_is (ns, rest) (numbers_in bytes, []) (sym read ∙ read_whole bytes are))

pub never_refused : (bytes : List ℕ) (e : XdrFault) → AreGroups bytes
    → numbers_at (length bytes / 4) bytes ≢ Err e
never_refused bytes e are read = let h = sym (read_whole bytes are) ∙ read in cc

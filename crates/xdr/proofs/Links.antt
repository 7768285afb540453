-- Reading a chain as a loop does: what was read so far stands in front of what is still read.
use Rattle.std.specs.Prelude.{Bool, ◌||◌}
use Rattle.std.proofs.Common.{◌≡◌, ℕ, zero, suc, ◌<◌, true, false, List, [], ◌∷◌, ◌++◌, length, drop, get_or}
use Rattle.std.proofs.Common.{◌+◌, ◌-◌, ◌≤◌, Result, Ok, Err, refl, sym, ap, ◌∙◌, append_assoc, arith, inl}
use Rattle.std.proofs.Common.{inr}
use Rattle.std.proofs.lemmas.List.{append-nil, at_drop_more, length-append}
use Rattle.std.proofs.Math.ListN.{drop_of_length-le}
use Rattle.xdr.specs.declared.fault.XdrFault.{XdrFault}
use Rattle.xdr.specs.Items as items
use Rattle.xdr.specs.Reading.{◌>>=◌, flag_at}
use Rattle.xdr.specs.Codes.{Code, chain_bytes, chain_at, chain, items_bytes, items_at, some_too_long}
use Rattle.xdr.specs.Writing.{RefusesToWrite, WriterState}
use Rattle.xdr.proofs.Lawful.{IsCode, flag_shrinks}

abbrev pub behind : {A : Type 0} → List A → Result (List A × List ℕ) XdrFault
    → Result (List A × List ℕ) XdrFault
behind leading read = read >>= λ x. Ok (leading ++ x.0, x.1)

-- so many links are enough for what is left
pub record Links {A : Type 0} (F : Code A) (leading : List A) (bytes : List ℕ)
    (total : Result (List A × List ℕ) XdrFault) : Type 0 where
  pub links : ℕ
  pub enough : length bytes < suc links
  pub so_far : behind leading (chain_at F (suc links) bytes) ≡ total

pub same_read : {A : Type 0} (read : Result (List A × List ℕ) XdrFault) → behind [] read ≡ read
same_read (Ok x) = refl
same_read (Err e) = refl

pub begins : {A : Type 0} (F : Code A) (bytes : List ℕ) → Links F [] bytes ((chain F).read bytes)
begins F bytes = record {
  links = length bytes;
  enough = omega arith;
  so_far = same_read (chain_at F (suc (length bytes)) bytes);
}

regroup : {A : Type 0} (leading : List A) (x : A) (read : Result (List A × List ℕ) XdrFault)
    → behind leading (read >>= λ xs. Ok (x ∷ xs.0, xs.1)) ≡ behind (leading ++ x ∷ []) read
regroup leading x (Ok xs) = ap (λ (ys : List _). Ok (ys, xs.1)) (simp append_assoc)
regroup leading x (Err f) = refl

more_links : {A : Type 0} (F : Code A) (leading : List A) (bytes middle after : List ℕ) (x : A)
    (total : Result (List A × List ℕ) XdrFault)
    → flag_at bytes ≡ Ok (true, middle) → F.read middle ≡ Ok (x, after) → (links : ℕ) → length after < links
    → behind leading (chain_at F (suc links) bytes) ≡ total → Links F (leading ++ x ∷ []) after total
more_links F leading bytes middle after x total more there zero lt so_far = absurd (omega arith)
more_links F leading bytes middle after x total more there (suc links) lt so_far =
    let one : behind leading (chain_at F (suc (suc links)) bytes) ≡ behind (leading ++ x ∷ [])
    (chain_at F (suc links) after) = rw (more, there) (regroup leading x (chain_at F (suc links) after)) in
    record { links = links; enough = lt; so_far = sym one ∙ so_far }

pub goes_on : {A : Type 0} (F : Code A) → IsCode F
    → (leading : List A) (bytes middle after : List ℕ) (x : A) (total : Result (List A × List ℕ) XdrFault)
    → flag_at bytes ≡ Ok (true, middle) → F.read middle ≡ Ok (x, after) → Links F leading bytes total
    → Links F (leading ++ x ∷ []) after total
goes_on F f leading bytes middle after x total more there l =
    let less = flag_shrinks bytes true middle more in
    let fewer = f.shrinks middle x after there in
    more_links F leading bytes middle after x total more there l.links
    (omega (arith, less, fewer, l.enough)) l.so_far

pub is_done : {A : Type 0} (F : Code A) (leading : List A) (bytes middle : List ℕ)
    (total : Result (List A × List ℕ) XdrFault)
    → flag_at bytes ≡ Ok (false, middle) → Links F leading bytes total → total ≡ Ok (leading, middle)
is_done F leading bytes middle total e l =
    let one : behind leading (chain_at F (suc l.links) bytes) ≡ Ok (leading, middle) =
    rw e (ap (λ (ys : List _). Ok (ys, middle)) (append-nil leading)) in
    sym l.so_far ∙ one

pub no_flag : {A : Type 0} (F : Code A) (leading : List A) (bytes : List ℕ)
    (total : Result (List A × List ℕ) XdrFault) (d : XdrFault)
    → flag_at bytes ≡ Err d → Links F leading bytes total → total ≡ Err d
no_flag F leading bytes total d e l =
    let one : behind leading (chain_at F (suc l.links) bytes) ≡ Err d = rw e refl in
    sym l.so_far ∙ one

pub no_item : {A : Type 0} (F : Code A) (leading : List A) (bytes middle : List ℕ)
    (total : Result (List A × List ℕ) XdrFault) (d : XdrFault)
    → flag_at bytes ≡ Ok (true, middle) → F.read middle ≡ Err d → Links F leading bytes total → total ≡ Err d
no_item F leading bytes middle total d more e l =
    let one : behind leading (chain_at F (suc l.links) bytes) ≡ Err d = rw (more, e) refl in
    sym l.so_far ∙ one

-- ---- writing a chain as a loop does

pub put_end : {A : Type 0} (F : Code A) (xs : List A) (i : ℕ) (out whole : List ℕ) → length xs ≤ i
    → out ++ chain_bytes F (drop i xs) ≡ whole → out ++ items.flag false ≡ whole
put_end F xs i out whole le so_far =
    let none : drop i xs ≡ [] = drop_of_length-le xs le in
    ap (λ (y : List _). out ++ chain_bytes F y) (sym none) ∙ so_far

-- ---- writing counted items as a loop does

pub put_last : {A : Type 0} (F : Code A) (xs : List A) (i : ℕ) (out whole : List ℕ) → length xs ≤ i
    → out ++ items_bytes F (drop i xs) ≡ whole → out ≡ whole
put_last F xs i out whole le so_far =
    let none : drop i xs ≡ [] = drop_of_length-le xs le in
    sym (append-nil out) ∙ ap (λ (y : List _). out ++ items_bytes F y) (sym none) ∙ so_far

-- ---- reading counted items as a loop does

pub more_items : {A : Type 0} (F : Code A) (leading : List A) (count i : ℕ) (bytes : List ℕ) (x : A)
    (after : List ℕ) (total : Result (List A × List ℕ) XdrFault) → i < count → F.read bytes ≡ Ok (x, after)
    → behind leading (items_at F (count - i) bytes) ≡ total
    → behind (leading ++ x ∷ []) (items_at F (count - (i + 1)) after) ≡ total
more_items F leading count i bytes x after total lt there so_far =
    let k : count - i ≡ suc (count - (i + 1)) = omega arith in
    let one : behind leading (items_at F (count - i) bytes)
    ≡ behind (leading ++ x ∷ []) (items_at F (count - (i + 1)) after) =
    rw (k, there) (regroup leading x (items_at F (count - (i + 1)) after)) in
    sym one ∙ so_far

pub items_refused : {A : Type 0} (F : Code A) (leading : List A) (count i : ℕ) (bytes : List ℕ)
    (total : Result (List A × List ℕ) XdrFault) (d : XdrFault) → i < count → F.read bytes ≡ Err d
    → behind leading (items_at F (count - i) bytes) ≡ total → total ≡ Err d
items_refused F leading count i bytes total d lt e so_far =
    let k : count - i ≡ suc (count - (i + 1)) = omega arith in
    let one : behind leading (items_at F (count - i) bytes) ≡ Err d = rw (k, e) refl in
    sym so_far ∙ one

pub items_done : {A : Type 0} (F : Code A) (leading : List A) (count i : ℕ) (bytes : List ℕ)
    (total : Result (List A × List ℕ) XdrFault) → count ≤ i
    → behind leading (items_at F (count - i) bytes) ≡ total → total ≡ Ok (leading, bytes)
items_done F leading count i bytes total le so_far =
    let k : count - i ≡ 0 = omega arith in
    let one : behind leading (items_at F (count - i) bytes) ≡ Ok (leading, bytes) =
    rw k (ap (λ (xs : List _). Ok (xs, bytes)) (append-nil leading)) in
    sym so_far ∙ one

-- ---- which of a list has a length that four bytes can't tell, as a loop finds it

more_left : {A : Type 0} (F : Code A) (xs : List A) (i : ℕ) (x : A) → i < length xs → x ≡ get_or xs i x
    → some_too_long F (drop i xs) ≡ (F.too_long x || some_too_long F (drop (i + 1) xs))
more_left F xs i x lt is =
    at_drop_more (some_too_long F) xs i x lt
    ∙ ap (λ (y : _). some_too_long F (y ∷ drop (i + 1) xs)) (sym is)

pub short_end : {A : Type 0} (F : Code A) (xs : List A) (i : ℕ) (whole : Bool) → length xs ≤ i
    → some_too_long F (drop i xs) ≡ whole → whole ≡ false
short_end F xs i whole le so_far =
    sym so_far ∙ ap (some_too_long F) (drop_of_length-le xs le)

link_is : {A : Type 0} (F : Code A) (xs : List A) (i : ℕ) (x : A) → i < length xs → x ≡ get_or xs i x
    → chain_bytes F (drop i xs) ≡ items.flag true ++ (F.spell x ++ chain_bytes F (drop (i + 1) xs))
link_is F xs i x lt is =
    at_drop_more (chain_bytes F) xs i x lt
    ∙ ap (λ (y : _). chain_bytes F (y ∷ drop (i + 1) xs)) (sym is)

-- a link that isn't written yet lies within the whole
pub link_within : {A : Type 0} (F : Code A) (xs : List A) (i : ℕ) (x : A) (out whole : List ℕ)
    → i < length xs → x ≡ get_or xs i x → out ++ chain_bytes F (drop i xs) ≡ whole
    → length out + (length (items.flag true) + length (F.spell x)) ≤ length whole
link_within F xs i x out whole lt is so_far =
    let rest : List ℕ = chain_bytes F (drop (i + 1) xs) in
    let same : out ++ (items.flag true ++ (F.spell x ++ rest)) ≡ whole =
    ap (λ (ys : List ℕ). out ++ ys) (sym (link_is F xs i x lt is)) ∙ so_far in
    omega (
      arith,
      ap length same,
      length-append out (items.flag true ++ (F.spell x ++ rest)),
      length-append (items.flag true) (F.spell x ++ rest),
      length-append (F.spell x) rest,
    )

-- so is the end
pub end_within : {A : Type 0} (F : Code A) (xs : List A) (i : ℕ) (out whole : List ℕ) → length xs ≤ i
    → out ++ chain_bytes F (drop i xs) ≡ whole → length out + length (items.flag false) ≤ length whole
end_within F xs i out whole le so_far =
    omega (arith, ap length (put_end F xs i out whole le so_far), length-append out (items.flag false))

pub refused_on : {A : Type 0} (F : Code A) (xs : List A) (i : ℕ) (x : A) (whole : Bool) (e : XdrFault)
    (old : WriterState) (some all : ℕ) → i < length xs → x ≡ get_or xs i x
    → some_too_long F (drop i xs) ≡ whole → some ≤ all
    → RefusesToWrite e (F.too_long x) old some → RefusesToWrite e whole old all
refused_on F xs i x whole e old some all lt is so_far le (inl long) =
    inl (
      long.0,
      sym so_far ∙ more_left F xs i x lt is
          ∙ ap (λ (b : Bool). b || some_too_long F (drop (i + 1) xs)) long.1,
    )
refused_on F xs i x whole e old some all lt is so_far le (inr memory) =
    inr (memory.0, omega (arith, memory.1, le), memory.2)

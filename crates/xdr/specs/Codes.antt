-- Codes: how a value is spelled, which values have a spelling, what reading gives, why bytes are refused, and
-- which values have a length that four bytes can't tell (RFC 4506). Why bytes are refused is said of the
-- bytes alone: each refusal is that of the first item from the left without a spelling.
use Rattle.std.specs.Prelude.{get_or, ◌≡◌, ◌<◌, ◌≤◌, ◌^◌, ◌⊎◌, ℕ, zero, suc, Bool, true, false, ◌==◌, ◌||◌}
use Rattle.std.specs.Prelude.{if◌then◌else◌, nat_lt, List, [], ◌∷◌, ◌++◌, length, take, drop, ◌+◌, Option}
use Rattle.std.specs.Prelude.{Some, None, IfSome, Result, Ok, Err}
use Rattle.std.proofs.Common.{inl, inr}
use Rattle.std.specs.Int.{w32, w64}
use Rattle.std.specs.List.{AllByRecursion, list_all}
use Rattle.xdr.specs.declared.fault.XdrFault.{XdrFault}
use Rattle.xdr.specs.declared.fault.XdrFault.TheVariants.{Short, Padding, Value, Length, Left}
use Rattle.xdr.specs.Items as items
use Rattle.xdr.specs.Items.{is_uncounted, padding}
use Rattle.xdr.specs.Reading.{◌>>=◌, number_at, flag_at, opaque_at, eight_at, optional_at, end_at}

pub record Code (A : Type 0) : Type 1 where
  pub spell : A → List ℕ
  pub Fits : A → Type 0
  pub read : List ℕ → Result (A × List ℕ) XdrFault
  pub too_long : A → Bool
  pub Refuses : List ℕ → XdrFault → Type 0

-- a value stands in front, and of it and what is behind it this holds
pub record Behind {A : Type 0} (F : Code A) (Holds : A → List ℕ → Type 0) (bytes : List ℕ) : Type 0 where
  pub value : A
  pub rest : List ℕ
  pub fits : F.Fits value
  pub parts : bytes ≡ F.spell value ++ rest
  pub holds : Holds value rest

-- no value stands in front, or what is behind one is refused
abbrev pub here_or_behind : {A : Type 0} → Code A → (A → List ℕ → Type 0) → List ℕ → XdrFault → Type 0
here_or_behind F Holds bytes e = F.Refuses bytes e ⊎ Behind F Holds bytes

-- ---- items

abbrev pub fewer_than : ℕ → List ℕ → XdrFault → Type 0
fewer_than n bytes e = (length bytes < n) × (e ≡ Short)

abbrev pub word : Code ℕ
word = record {
  spell = items.word;
  Fits = λ n. n < 2 ^ 32;
  read = number_at w32;
  too_long = λ n. false;
  Refuses = fewer_than 4;
}

abbrev pub double : Code ℕ
double = record {
  spell = items.double;
  Fits = λ n. n < 2 ^ 64;
  read = number_at w64;
  too_long = λ n. false;
  Refuses = fewer_than 8;
}

abbrev pub flag : Code Bool
flag = record {
  spell = items.flag;
  Fits = λ b. Unit {0};
  read = flag_at;
  too_long = λ b. false;
  Refuses = λ bytes e. here_or_behind word (λ n rest. (1 < n) × (e ≡ Value)) bytes e;
}

-- each item is a byte
abbrev pub AreBytes : List ℕ → Type 0
AreBytes bytes = (index : ℕ) → get_or bytes index 0 < 256

-- behind its length: the length comes before the bytes, and these before the padding
abbrev pub string_refused : ℕ → ℕ → List ℕ → XdrFault → Type 0
string_refused bound n rest e = ((bound < n) × (e ≡ Length))
    ⊎ (((n ≤ bound) × (length rest < n + padding n) × (e ≡ Short))
    ⊎ ((n ≤ bound) × (n + padding n ≤ length rest)
    × (list_all (λ b. b == 0) (take (padding n) (drop n rest)) ≡ false) × (e ≡ Padding)))

-- a string of at most so many bytes
abbrev pub opaque : ℕ → Code (List ℕ)
opaque bound = record {
  spell = items.opaque;
  Fits = λ bytes. (length bytes ≤ bound) × AreBytes bytes;
  read = opaque_at bound;
  too_long = is_uncounted;
  Refuses = λ bytes e. here_or_behind word (λ n rest. string_refused bound n rest e) bytes e;
}

-- eight bytes as they came (section 4.9)
abbrev pub eight : Code (List ℕ)
eight = record {
  spell = λ bytes. bytes;
  Fits = λ bytes. (length bytes ≡ 8) × AreBytes bytes;
  read = eight_at;
  too_long = λ bytes. false;
  Refuses = fewer_than 8;
}

abbrev pub nothing : Code (Unit {0})
nothing = record {
  spell = λ x. [];
  Fits = λ x. Unit {0};
  read = λ bytes. Ok (tt, bytes);
  too_long = λ x. false;
  Refuses = λ bytes e. ⊥;
}

-- ---- one after another, a view, what may be absent, a chain

infixr 6 ◌then◌
abbrev pub ◌then◌ : {A B : Type 0} → Code A → Code B → Code (A × B)
F then G = record {
  spell = λ x. F.spell x.0 ++ G.spell x.1;
  Fits = λ x. F.Fits x.0 × G.Fits x.1;
  read = λ bytes. F.read bytes >>= λ x. G.read x.1 >>= λ y. Ok ((x.0, y.0), y.1);
  too_long = λ x. F.too_long x.0 || G.too_long x.1;
  Refuses = λ bytes e. here_or_behind F (λ x rest. G.Refuses rest e) bytes e;
}

abbrev pub made_of : {A B : Type 0} → (A → B) → A × List ℕ → Result (B × List ℕ) XdrFault
made_of f x = Ok (f x.0, x.1)

-- the values of A are those of B, under other names
abbrev pub viewed : {A B : Type 0} → (B → A) → (A → B) → Code B → Code A
viewed make parts F = record {
  spell = λ a. F.spell (parts a);
  Fits = λ a. F.Fits (parts a);
  read = λ bytes. F.read bytes >>= λ x. Ok (make x.0, x.1);
  too_long = λ a. F.too_long (parts a);
  Refuses = F.Refuses;
}

-- which values fit, in other words
abbrev pub fitting : {A : Type 0} → (A → Type 0) → Code A → Code A
fitting Fits F = record {
  spell = F.spell;
  Fits = Fits;
  read = F.read;
  too_long = F.too_long;
  Refuses = F.Refuses;
}

abbrev pub in_some : {A : Type 0} → (A → Bool) → Option A → Bool
in_some test None = false
in_some test (Some x) = test x

abbrev pub optional : {A : Type 0} → Code A → Code (Option A)
optional F = record {
  spell = items.optional F.spell;
  Fits = λ o. IfSome o F.Fits;
  read = optional_at F.read;
  too_long = in_some F.too_long;
  Refuses = λ bytes e. here_or_behind flag (λ b rest. (b ≡ true) × F.Refuses rest e) bytes e;
}

-- each with true before it, and false behind the last
abbrev pub chain_bytes : {A : Type 0} → Code A → List A → List ℕ
chain_bytes F [] = items.flag false
chain_bytes F (x ∷ xs) = items.flag true ++ (F.spell x ++ chain_bytes F xs)

-- at most so many links
abbrev pub chain_at : {A : Type 0} → Code A → ℕ → List ℕ → Result (List A × List ℕ) XdrFault
chain_at F zero bytes = Err Short
chain_at F (suc links) bytes = flag_at bytes >>= λ more.
    if more.0 then (F.read more.1 >>= λ x. chain_at F links x.1 >>= λ xs. Ok (x.0 ∷ xs.0, xs.1))
    else Ok ([], more.1)

-- whether one of these is
abbrev pub some_too_long : {A : Type 0} → Code A → List A → Bool
some_too_long F [] = false
some_too_long F (x ∷ xs) = F.too_long x || some_too_long F xs

-- behind so many whole links
abbrev pub link_refused : {A : Type 0} → Code A → ℕ → List ℕ → XdrFault → Type 0
link_refused F zero bytes e = here_or_behind flag (λ b rest. (b ≡ true) × F.Refuses rest e) bytes e
link_refused F (suc links) bytes e = Behind flag (λ b rest. (b ≡ true)
    × Behind F (λ x after. link_refused F links after e) rest) bytes

abbrev pub chain : {A : Type 0} → Code A → Code (List A)
chain F = record {
  spell = chain_bytes F;
  Fits = AllByRecursion F.Fits;
  read = λ bytes. chain_at F (suc (length bytes)) bytes;
  too_long = some_too_long F;
  Refuses = λ bytes e. (links : ℕ) × link_refused F links bytes e;
}

-- so many, one after another
abbrev pub items_bytes : {A : Type 0} → Code A → List A → List ℕ
items_bytes F [] = []
items_bytes F (x ∷ xs) = F.spell x ++ items_bytes F xs

abbrev pub items_at : {A : Type 0} → Code A → ℕ → List ℕ → Result (List A × List ℕ) XdrFault
items_at F zero bytes = Ok ([], bytes)
items_at F (suc n) bytes = F.read bytes >>= λ x. items_at F n x.1 >>= λ xs. Ok (x.0 ∷ xs.0, xs.1)

-- one of so many
abbrev pub item_refused : {A : Type 0} → Code A → ℕ → List ℕ → XdrFault → Type 0
item_refused F zero bytes e = ⊥
item_refused F (suc n) bytes e = here_or_behind F (λ x rest. item_refused F n rest e) bytes e

-- how many, at most so many, and these
abbrev pub counted : {A : Type 0} → ℕ → Code A → Code (List A)
counted bound F = record {
  spell = λ xs. items.word (length xs) ++ items_bytes F xs;
  Fits = λ xs. (length xs ≤ bound) × AllByRecursion F.Fits xs;
  read = λ bytes. number_at w32 bytes >>= λ n. if nat_lt bound n.0 then Err Length else items_at F n.0 n.1;
  too_long = λ xs. is_uncounted xs || some_too_long F xs;
  Refuses = λ bytes e. here_or_behind word
      (λ n rest. ((bound < n) × (e ≡ Length)) ⊎ ((n ≤ bound) × item_refused F n rest e)) bytes e;
}

-- ---- unions: a number says what follows

pub record Arms (A : Type 0) : Type 1 where
  pub number : A → ℕ
  pub has : ℕ → Bool
  pub spell : A → List ℕ
  pub Fits : A → Type 0
  pub read : ℕ → List ℕ → Result (A × List ℕ) XdrFault
  pub too_long : A → Bool
  pub Refuses : ℕ → List ℕ → XdrFault → Type 0

abbrev pub arm : {A : Type 0} → ℕ → Code A → Arms A
arm k F = record {
  number = λ x. k;
  has = λ n. n == k;
  spell = F.spell;
  Fits = F.Fits;
  read = λ n bytes. if n == k then F.read bytes else Err Value;
  too_long = F.too_long;
  Refuses = λ n bytes e. (((n == k) ≡ true) × F.Refuses bytes e) ⊎ (((n == k) ≡ false) × (e ≡ Value));
}

abbrev pub on_either {ℓ} : {A B : Type 0} {C : Type ℓ} → (A → C) → (B → C) → A ⊎ B → C
on_either f g (inl x) = f x
on_either f g (inr y) = g y

-- behind this number that, else one of the others
abbrev pub arm_or : {A B : Type 0} → ℕ → Code A → Arms B → Arms (A ⊎ B)
arm_or k F G = record {
  number = on_either (λ x. k) G.number;
  has = λ n. n == k || G.has n;
  spell = on_either F.spell G.spell;
  Fits = on_either F.Fits G.Fits;
  read = λ n bytes. if n == k then (F.read bytes >>= λ x. Ok (inl x.0, x.1))
      else (G.read n bytes >>= λ y. Ok (inr y.0, y.1));
  too_long = on_either F.too_long G.too_long;
  Refuses = λ n bytes e. (((n == k) ≡ true) × F.Refuses bytes e) ⊎ (((n == k) ≡ false) × G.Refuses n bytes e);
}

-- the first of these whose number it is
abbrev pub numbered : {S : Type 0} → (S → ℕ) → List S → ℕ → Option S
numbered number [] n = None
numbered number (s ∷ ss) n = if n == number s then Some s else numbered number ss n

abbrev pub is_some : {S : Type 0} → Option S → Bool
is_some (Some s) = true
is_some None = false

abbrev pub on_listed : {S B : Type 0} → Option S → Result (B × List ℕ) XdrFault
    → Result ((S × B) × List ℕ) XdrFault
on_listed (Some s) read = read >>= λ x. Ok ((s, x.0), x.1)
on_listed None read = Err Value

-- behind the number of each of these that
abbrev pub arms : {S B : Type 0} → (S → ℕ) → List S → Code B → Arms (S × B)
arms number all F = record {
  number = λ x. number x.0;
  has = λ n. is_some (numbered number all n);
  spell = λ x. F.spell x.1;
  Fits = λ x. F.Fits x.1;
  read = λ n bytes. on_listed (numbered number all n) (F.read bytes);
  too_long = λ x. F.too_long x.1;
  Refuses = λ n bytes e. ((is_some (numbered number all n) ≡ true) × F.Refuses bytes e)
      ⊎ ((is_some (numbered number all n) ≡ false) × (e ≡ Value));
}

abbrev pub union : {A : Type 0} → Arms A → Code A
union G = record {
  spell = λ x. items.word (G.number x) ++ G.spell x;
  Fits = G.Fits;
  read = λ bytes. number_at w32 bytes >>= λ n. G.read n.0 n.1;
  too_long = G.too_long;
  Refuses = λ bytes e. here_or_behind word (λ n rest. G.Refuses n rest e) bytes e;
}

-- one of these
abbrev pub one_of : {S : Type 0} → (S → ℕ) → List S → Code S
one_of number all = viewed (λ x. x.0) (λ s. (s, tt)) (union (arms number all nothing))

-- ---- all of the bytes

-- no value, or something is left behind one
abbrev pub refused_whole : {A : Type 0} → Code A → List ℕ → XdrFault → Type 0
refused_whole F bytes e = here_or_behind F (λ x rest. (0 < length rest) × (e ≡ Left)) bytes e

-- what was read, where nothing is left behind it
abbrev pub whole : {A : Type 0} → Result (A × List ℕ) XdrFault → Result A XdrFault
whole read = do
  x ← read
  end ← end_at x.1
  Ok x.0

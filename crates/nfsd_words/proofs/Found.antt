-- What the getters of a parse give, as the rows that it found say.
use Rattle.std.proofs.Common.{◌≡◌, ◌∙◌, ℕ, ◌^◌, ◌<◌, List, [], ◌∷◌, Option, Some, None, Result, ap, sym, subst, refl, T, nat_eq, Bool, true, false}
use Rattle.std.specs.Prelude.{IfNone, codes, option_map}
use Rattle.std.specs.Borrow.{Bor}
use Rattle.std.specs.Str.Parse.{ExplainsUnsignedError, HasUnsignedDigitsIfOk, ParsesUnsigned}
use Rattle.std.specs.declared.num.ParseIntError.{ParseIntError}
use Rattle.clap.specs.Words.{IsAmong, Kinds, ReadsOne, Row, Text, first_of, first_value, found_of, one_of}
use Rattle.clap.specs.Words.{one_text, rows_of}
use Rattle.clap.proofs.WalkLemmas.{first_value-rows, one_text-rows}
use Rattle.clap.specs.declared.ArgMatches.{ArgMatches}
use Rattle.clap.specs.declared.error.kind.ErrorKind.{ErrorKind}
use Rattle.nfsd_words.specs.declared.Args.{Args}
use Rattle.nfsd_words.specs.declared.Args.TheVariants.{Check, Format, Once, Serve, Show, Sim}
use Rattle.nfsd_words.specs.Words.{Asks, IsFlag, IsNumber, IsNumberOrNone}

-- a text that `get_str` gave stands first in its row
pub text_found : (m : ArgMatches) (id : Text) (r : Option (Bor Text)) (x : Bor Text)
    → option_map (λ s. s.now) r ≡ first_value (found_of m) id
    → r ≡ Some x → first_of id (rows_of (found_of m)) ≡ Some x.now
text_found m id r x gives is = sym (first_value-rows (found_of m) id) ∙ sym gives
    ∙ ap (option_map (λ s. s.now)) is

-- what reading a number of 32 bits gives
abbrev pub u32_gives : List ℕ → Result ℕ ParseIntError → Type 0
u32_gives text r = ParsesUnsigned 32 10 text r × ExplainsUnsignedError 10 text r
    × HasUnsignedDigitsIfOk text r

-- a number that `get_one` gave is spelled by its row
pub number_found : (m : ArgMatches) (id : Text) (r : Option ℕ) (n : ℕ)
    → (one_text (found_of m) id ≡ None → r ≡ None)
    → ((t : List ℕ) → one_text (found_of m) id ≡ Some t → ReadsOne u32_gives t r)
    → r ≡ Some n → IsNumber (rows_of (found_of m)) id n
number_found m id r n none value is = go (one_text (found_of m) id) refl
  where
    spelled : (t : List ℕ) → one_text (found_of m) id ≡ Some t → ReadsOne u32_gives t (Some n)
        → IsNumber (rows_of (found_of m)) id n
    spelled t e read =
        let parsed = read.0 in
        let row : one_of id (rows_of (found_of m)) ≡ Some t = sym (one_text-rows (found_of m) id) ∙ e in
        rw row (parsed.0.0, parsed.1, subst (λ k. k < 2 ^ 32) (sym parsed.1) parsed.0.1)

    go : (o : Option Text) → one_text (found_of m) id ≡ o → IsNumber (rows_of (found_of m)) id n
    go None e =
        let bad : None ≡ Some n = sym (none e) ∙ is in
        cc
    go (Some t) e = spelled t e (subst (ReadsOne u32_gives t) is (value t e))

-- where `get_str` gave none, its row has no first text
pub no_text_found : (m : ArgMatches) (id : Text) (r : Option (Bor Text)) (x : Text)
    → option_map (λ s. s.now) r ≡ first_value (found_of m) id
    → r ≡ None → first_of id (rows_of (found_of m)) ≡ Some x → ⊥
no_text_found m id r x gives none some =
    let bad : None ≡ Some x = sym (ap (option_map (λ (s : Bor Text). s.now)) none) ∙ gives
    ∙ first_value-rows (found_of m) id ∙ some in
    cc

-- where `get_one` gave none, its row spells no number of 32 bits
pub no_number_found : (m : ArgMatches) (id : Text) (r : Option ℕ) (n : ℕ)
    → ((t : List ℕ) → one_text (found_of m) id ≡ Some t → ReadsOne u32_gives t r)
    → r ≡ None → IsNumber (rows_of (found_of m)) id n → ⊥
no_number_found m id r n value is number = go (one_of id (rows_of (found_of m))) refl
  where
    go : (o : Option Text) → one_of id (rows_of (found_of m)) ≡ o → ⊥
    go None e = rw e at number
    go (Some t) e =
        let read : ReadsOne u32_gives t None =
        subst (ReadsOne u32_gives t) is (value t (one_text-rows (found_of m) id ∙ e)) in
        let spelled = rw e at number in
        read.1.0 (spelled.0, subst (λ k. k < 2 ^ 32) spelled.1 spelled.2)

-- what `get_one` gave is the number that its row spells, or none where it spells none
pub number_or_none_found : (m : ArgMatches) (id : Text) (r : Option ℕ)
    → (one_text (found_of m) id ≡ None → r ≡ None)
    → ((t : List ℕ) → one_text (found_of m) id ≡ Some t → ReadsOne u32_gives t r)
    → IsNumberOrNone (rows_of (found_of m)) id r
number_or_none_found m id None none value = λ n. no_number_found m id None n value refl
number_or_none_found m id (Some n) none value = number_found m id (Some n) n none value refl

-- a word begins with this character
abbrev pub BeginsWith : ℕ → List ℕ → Type 0
BeginsWith c [] = ⊥
BeginsWith c (first ∷ rest) = T (nat_eq first c)

-- the commands have names of their own
pub once_is_no_show : ¬ (codes "once" ≡ codes "show")
once_is_no_show same = subst (BeginsWith 111) same tt

pub serve_is_no_check : ¬ (codes "serve" ≡ codes "check")
serve_is_no_check same = subst (BeginsWith 115) same tt

pub format_is_no_sim : ¬ (codes "format" ≡ codes "sim")
format_is_no_sim same = let other : codes "format" ≡ codes "sim" = same in cc

pub once_is_no_sim : ¬ (codes "once" ≡ codes "sim")
once_is_no_sim same = let other : codes "once" ≡ codes "sim" = same in cc

pub serve_is_no_sim : ¬ (codes "serve" ≡ codes "sim")
serve_is_no_sim same = let other : codes "serve" ≡ codes "sim" = same in cc

pub check_is_no_sim : ¬ (codes "check" ≡ codes "sim")
check_is_no_sim same = let other : codes "check" ≡ codes "sim" = same in cc

pub show_is_no_sim : ¬ (codes "show" ≡ codes "sim")
show_is_no_sim same = let other : codes "show" ≡ codes "sim" = same in cc

-- without a text of its image a command asks for nothing, but for one that takes a script
pub no_image : (name : Text) (found : List Row) → ¬ (name ≡ codes "sim") → ((x : Text) → first_of (codes "IMAGE") found ≡ Some x → ⊥)
    → (args : Args) → ¬ Asks name found args
no_image name found no_sim none (Format image blocks inodes time) asks = none image.now asks.1
no_image name found no_sim none (Once image time) asks = none image.now asks.1
no_image name found no_sim none (Serve image listen workers connections) asks = none image.now asks.1
no_image name found no_sim none (Check image) asks = none image.now asks.1
no_image name found no_sim none (Show image) asks = none image.now asks.1
no_image name found no_sim none (Sim script stops) asks = no_sim asks.0

-- `format` asks for nothing without a number of its time
pub no_time_made : (found : List Row) → ((n : ℕ) → IsNumber found (codes "time") n → ⊥)
    → (args : Args) → ¬ Asks (codes "format") found args
no_time_made found none (Format image blocks inodes time) asks = none time asks.4
no_time_made found none (Once image time) asks = let other : codes "format" ≡ codes "once" = asks.0 in cc
no_time_made found none (Serve image listen workers connections) asks =
    let other : codes "format" ≡ codes "serve" = asks.0 in cc
no_time_made found none (Check image) asks = let other : codes "format" ≡ codes "check" = asks.0 in cc
no_time_made found none (Show image) asks = let other : codes "format" ≡ codes "show" = asks.0 in cc
no_time_made found none (Sim script stops) asks = absurd (format_is_no_sim asks.0)

-- `once` asks for nothing without a number of its time
pub no_time_of_calls : (found : List Row) → ((n : ℕ) → IsNumber found (codes "time") n → ⊥)
    → (args : Args) → ¬ Asks (codes "once") found args
no_time_of_calls found none (Format image blocks inodes time) asks =
    let other : codes "once" ≡ codes "format" = asks.0 in cc
no_time_of_calls found none (Once image time) asks = none time asks.2
no_time_of_calls found none (Serve image listen workers connections) asks =
    let other : codes "once" ≡ codes "serve" = asks.0 in cc
no_time_of_calls found none (Check image) asks = let other : codes "once" ≡ codes "check" = asks.0 in cc
no_time_of_calls found none (Show image) asks = absurd (once_is_no_show asks.0)
no_time_of_calls found none (Sim script stops) asks = absurd (once_is_no_sim asks.0)

-- `format` asks for nothing without a number of its inodes
pub no_inodes : (found : List Row) → ((n : ℕ) → IsNumber found (codes "inodes") n → ⊥)
    → (args : Args) → ¬ Asks (codes "format") found args
no_inodes found none (Format image blocks inodes time) asks = none inodes asks.3
no_inodes found none (Once image time) asks = let other : codes "format" ≡ codes "once" = asks.0 in cc
no_inodes found none (Serve image listen workers connections) asks =
    let other : codes "format" ≡ codes "serve" = asks.0 in cc
no_inodes found none (Check image) asks = let other : codes "format" ≡ codes "check" = asks.0 in cc
no_inodes found none (Show image) asks = let other : codes "format" ≡ codes "show" = asks.0 in cc
no_inodes found none (Sim script stops) asks = absurd (format_is_no_sim asks.0)

-- `serve` asks for nothing without a text of its address
pub no_listen : (found : List Row) → ((x : Text) → first_of (codes "listen") found ≡ Some x → ⊥)
    → (args : Args) → ¬ Asks (codes "serve") found args
no_listen found none (Format image blocks inodes time) asks =
    let other : codes "serve" ≡ codes "format" = asks.0 in cc
no_listen found none (Once image time) asks = let other : codes "serve" ≡ codes "once" = asks.0 in cc
no_listen found none (Serve image listen workers connections) asks = none listen.now asks.2
no_listen found none (Check image) asks = absurd (serve_is_no_check asks.0)
no_listen found none (Show image) asks = let other : codes "serve" ≡ codes "show" = asks.0 in cc
no_listen found none (Sim script stops) asks = absurd (serve_is_no_sim asks.0)

-- `serve` asks for nothing without a number of its workers
pub no_workers : (found : List Row) → ((n : ℕ) → IsNumber found (codes "workers") n → ⊥)
    → (args : Args) → ¬ Asks (codes "serve") found args
no_workers found none (Format image blocks inodes time) asks =
    let other : codes "serve" ≡ codes "format" = asks.0 in cc
no_workers found none (Once image time) asks = let other : codes "serve" ≡ codes "once" = asks.0 in cc
no_workers found none (Serve image listen workers connections) asks = none workers asks.3
no_workers found none (Check image) asks = absurd (serve_is_no_check asks.0)
no_workers found none (Show image) asks = let other : codes "serve" ≡ codes "show" = asks.0 in cc
no_workers found none (Sim script stops) asks = absurd (serve_is_no_sim asks.0)

-- `serve` asks for nothing without a number of its connections
pub no_connections : (found : List Row) → ((n : ℕ) → IsNumber found (codes "connections") n → ⊥)
    → (args : Args) → ¬ Asks (codes "serve") found args
no_connections found none (Format image blocks inodes time) asks =
    let other : codes "serve" ≡ codes "format" = asks.0 in cc
no_connections found none (Once image time) asks = let other : codes "serve" ≡ codes "once" = asks.0 in cc
no_connections found none (Serve image listen workers connections) asks = none connections asks.4
no_connections found none (Check image) asks = absurd (serve_is_no_check asks.0)
no_connections found none (Show image) asks = let other : codes "serve" ≡ codes "show" = asks.0 in cc
no_connections found none (Sim script stops) asks = absurd (serve_is_no_sim asks.0)

-- `sim` asks for nothing without a text of its script
pub no_script : (found : List Row) → ((x : Text) → first_of (codes "SCRIPT") found ≡ Some x → ⊥)
    → (args : Args) → ¬ Asks (codes "sim") found args
no_script found none (Format image blocks inodes time) asks = absurd (format_is_no_sim (sym asks.0))
no_script found none (Once image time) asks = absurd (once_is_no_sim (sym asks.0))
no_script found none (Serve image listen workers connections) asks = absurd (serve_is_no_sim (sym asks.0))
no_script found none (Check image) asks = absurd (check_is_no_sim (sym asks.0))
no_script found none (Show image) asks = absurd (show_is_no_sim (sym asks.0))
no_script found none (Sim script stops) asks = none script.now asks.1

-- what `get_flag` gave is what its row says
pub flag_found : (m : ArgMatches) (id : Text) (r : Bool) → (one_text (found_of m) id ≡ None → r ≡ false)
    → (one_text (found_of m) id ≡ Some (codes "true") → r ≡ true)
    → (one_text (found_of m) id ≡ Some (codes "false") → r ≡ false)
    → IsFlag (one_of id (rows_of (found_of m))) r
flag_found m id r absent given denied = record {
  none = λ e. absent (one_text-rows (found_of m) id ∙ e);
  yes = λ e. given (one_text-rows (found_of m) id ∙ e);
  no = λ e. denied (one_text-rows (found_of m) id ∙ e);
}

-- a fact stands where there is no value
pub if_none : {A : Type 0} {P : Type 0} (r : Option A) → P → IfNone r P
if_none None fact = fact
if_none (Some x) fact = tt

-- a kind is among those of a fault
pub has_fault : (kind : ErrorKind) (kinds : Kinds) → IsAmong kind kinds → kinds ≡ [] → ⊥
has_fault kind kinds among none = subst (IsAmong kind) none among

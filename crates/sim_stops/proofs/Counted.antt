-- Lists that grow by one at the end, by definitions that go from the front.
use Rattle.std.proofs.Common.{◌≡◌, ◌∙◌, ℕ, ◌+◌, ◌*◌, ◌/◌, ◌%◌, ◌<◌, ◌≤◌, ◌^◌, ◌-◌, Bool, ◌||◌, true, false, if◌then◌else◌, List, [], ◌∷◌, ◌++◌, ap, sym, take, drop, length, min, max}
use Rattle.std.proofs.Common.{nat_eq, nat_lt, append_assoc, append-nil, lt-ltb, le-ltb, refl}
use Rattle.std.proofs.Math.ListN.{get_or}
use Rattle.std.proofs.lemmas.List.{drop_all, drop_more, take_all, take_more}
use Rattle.disk.specs.Memory.{Blocks, Past, held_at}
use Rattle.store_promise.specs.declared.transcript.Answer.{Answer}
use Rattle.store_promise.specs.declared.transcript.Committed.{Committed}
use Rattle.sim_stops.specs.Promised.{promised_by, promised_from}
use Rattle.sim_stops.specs.CrashChoices.{single_choice, counts_in, each_choice, product_from}

-- what a device holds now is what it holds behind all of its calls
pub held_now : (now : Blocks) (past : Past) → held_at now past (length past) ≡ now
held_now now [] = refl
held_now now (call ∷ past) = held_now now past

-- the counts of blocks behind others
pub counts_behind : (some more : Blocks) → counts_in (some ++ more) ≡ counts_in some ++ counts_in more
counts_behind [] more = refl
counts_behind (contents ∷ some) more = go (nat_lt 1 (length contents)) refl (counts_behind some more)
  where
    go : (several : Bool) → nat_lt 1 (length contents) ≡ several
        → counts_in (some ++ more) ≡ counts_in some ++ counts_in more
        → counts_in (contents ∷ some ++ more) ≡ counts_in (contents ∷ some) ++ counts_in more
    go true is others = rw is (ap (λ (counts : List ℕ). min (length contents) (2 ^ 32 - 1) ∷ counts) others)
    go false is others = rw is others

-- one that has several is counted
pub counts_more : (blocks : Blocks) (block : ℕ) (d : List (List ℕ)) → block < length blocks
    → 1 < length (get_or blocks block d)
    → counts_in (take (block + 1) blocks)
    ≡ counts_in (take block blocks) ++ min (length (get_or blocks block d)) (2 ^ 32 - 1) ∷ []
counts_more blocks block d there several =
    let is : nat_lt 1 (length (get_or blocks block d)) ≡ true = lt-ltb _ _ several in
    ap counts_in (take_more blocks block d there)
    ∙ counts_behind (take block blocks) (get_or blocks block d ∷ []) ∙ rw is refl

pub counts_same : (blocks : Blocks) (block : ℕ) (d : List (List ℕ)) → block < length blocks
    → length (get_or blocks block d) ≤ 1
    → counts_in (take (block + 1) blocks) ≡ counts_in (take block blocks)
counts_same blocks block d there one =
    let is : nat_lt 1 (length (get_or blocks block d)) ≡ false = le-ltb _ _ one in
    ap counts_in (take_more blocks block d there)
    ∙ counts_behind (take block blocks) (get_or blocks block d ∷ []) ∙ rw is (append-nil (counts_in (take block blocks)))

pub counts_all : (blocks : Blocks) (block : ℕ) → length blocks ≤ block
    → counts_in (take block blocks) ≡ counts_in blocks
counts_all blocks block all = ap counts_in (take_all block blocks all)

-- a product goes on by one count, and ends
pub product_more : (all : ℕ) (counts : List ℕ) (index d : ℕ) → index < length counts
    → product_from all (drop index counts)
    ≡ product_from (min (all * get_or counts index d) (2 ^ 64 - 1)) (drop (index + 1) counts)
product_more all counts index d there = ap (product_from all) (drop_more counts index d there)

pub product_end : (all : ℕ) (counts : List ℕ) (index : ℕ) → length counts ≤ index
    → product_from all (drop index counts) ≡ all
product_end all counts index past = ap (product_from all) (drop_all index counts past)

-- so does the last place that was answered as stable
pub promised_more : (least : ℕ) (history : List Committed) (answers : List Answer) (index : ℕ) (d : Answer)
    → index < length answers
    → promised_from least history (drop index answers)
    ≡ promised_from (max least (promised_by history (get_or answers index d).place)) history (drop (index + 1) answers)
promised_more least history answers index d there = ap (promised_from least history) (drop_more answers index d there)

pub promised_end : (least : ℕ) (history : List Committed) (answers : List Answer) (index : ℕ) → length answers ≤ index
    → promised_from least history (drop index answers) ≡ least
promised_end least history answers index past = ap (promised_from least history) (drop_all index answers past)

-- so does a choice of each content
pub each_more : (done : List ℕ) (number : ℕ) (counts : List ℕ) (index d : ℕ) → index < length counts
    → done ++ each_choice number (drop index counts)
    ≡ (done ++ (number % max (get_or counts index d) 1) ∷ [])
    ++ each_choice (number / max (get_or counts index d) 1) (drop (index + 1) counts)
each_more done number counts index d there =
    ap (λ (left : List ℕ). done ++ each_choice number left) (drop_more counts index d there)
    ∙ sym (append_assoc done ((number % max (get_or counts index d) 1) ∷ [])
    (each_choice (number / max (get_or counts index d) 1) (drop (index + 1) counts)))

pub each_end : (done : List ℕ) (number : ℕ) (counts : List ℕ) (index : ℕ) → length counts ≤ index
    → done ++ each_choice number (drop index counts) ≡ done
each_end done number counts index past =
    ap (λ (left : List ℕ). done ++ each_choice number left) (drop_all index counts past) ∙ append-nil done

-- and one of a block alone
pub single_more : (done : List ℕ) (number : ℕ) (counts : List ℕ) (at d : ℕ) → at < length counts
    → done ++ single_choice number at (drop at counts)
    ≡ (done ++ (if nat_eq number 1 || nat_eq number (at + 2) then max (get_or counts at d) 1 - 1 else 0) ∷ [])
    ++ single_choice number (at + 1) (drop (at + 1) counts)
single_more done number counts at d there =
    ap (λ (left : List ℕ). done ++ single_choice number at left) (drop_more counts at d there)
    ∙ sym (append_assoc done
    ((if nat_eq number 1 || nat_eq number (at + 2) then max (get_or counts at d) 1 - 1 else 0) ∷ [])
    (single_choice number (at + 1) (drop (at + 1) counts)))

pub single_end : (done : List ℕ) (number : ℕ) (counts : List ℕ) (at : ℕ) → length counts ≤ at
    → done ++ single_choice number at (drop at counts) ≡ done
single_end done number counts at past =
    ap (λ (left : List ℕ). done ++ single_choice number at left) (drop_all at counts past) ∙ append-nil done

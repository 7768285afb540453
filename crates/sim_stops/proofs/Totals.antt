-- What was tried so far, and one more.
use Rattle.std.proofs.Common.{◌≡◌, ◌∙◌, ℕ, ◌+◌, ◌-◌, ◌<◌, ◌≤◌, ◌^◌, List, [], ◌∷◌, ◌++◌, All, Vec, ap, sym, subst, length, min, arith, refl}
use Rattle.std.proofs.Common.{Bool, true, false, length-append, ltb-false, ltb-true, nat_lt}
use Rattle.std.proofs.lemmas.List.Elements.{All-nil, All-push}
use Rattle.std.specs.declared.alloc.Global.{Global}
use Rattle.image_contents.specs.declared.lines.line.Line.{Line}
use Rattle.sim_stops.specs.Tried.{AreTriedStops, IsTriedStop, total_from}
use Rattle.sim_stops.specs.declared.script.Asked.{Asked}

-- the total of one more
pub total_more : (sum : ℕ) (each : List ℕ) (images : ℕ)
    → total_from sum (each ++ images ∷ []) ≡ min (total_from sum each + images) (2 ^ 64 - 1)
total_more sum [] images = refl
total_more sum (first ∷ each) images = total_more (min (sum + first) (2 ^ 64 - 1)) each images

-- no stop is tried at first
pub stops_begin : (asked : Asked) (files : List (Vec Line Global)) → AreTriedStops asked files 0 0
stops_begin asked files = record { each = []; are = All-nil (IsTriedStop asked files); stops_are = refl; images_are = refl }

-- and then one more
pub stops_more : (asked : Asked) (files : List (Vec Line Global)) (stops sum images : ℕ) → AreTriedStops asked files stops sum
    → IsTriedStop asked files images → AreTriedStops asked files (stops + 1) (min (sum + images) (2 ^ 64 - 1))
stops_more asked files stops sum images tried more = record {
  each = tried.each ++ images ∷ [];
  are = All-push (IsTriedStop asked files) tried.each images tried.are more;
  stops_are = ap (λ n. n + 1) tried.stops_are ∙ sym (length-append tried.each (images ∷ []));
  images_are = ap (λ n. min (n + images) (2 ^ 64 - 1)) tried.images_are ∙ sym (total_more 0 tried.each images);
}

-- what holds of each number below one holds below the next, where it holds of that
pub below_more : (P : ℕ → Type 0) (number : ℕ) → ((n : ℕ) → n < number → P n) → P number
    → (n : ℕ) → n < number + 1 → P n
below_more P number before here n there = go (nat_lt n number) refl
  where
    go : (below : Bool) → nat_lt n number ≡ below → P n
    go true is = before n (ltb-true n number is)
    go false is =
        let past : number ≤ n = ltb-false n number is in
        let same : number ≡ n = omega (arith, there, past) in
        subst P same here

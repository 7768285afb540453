-- Lemmas: where one of the workers is set, it alone has moved.
use Rattle.std.proofs.Common.{◌≡◌, ◌<◌, refl, sym, ap, ℕ, zero, suc, All, List, [], ◌∷◌, Some, arith, get_or}
use Rattle.std.proofs.Common.{length, set, slice_get, subst}
use Rattle.std.proofs.lemmas.List.Elements.{All-cons, All-head, All-tail}
use Rattle.store.specs.Runs.Running.{MovesOne, states_of}
use Rattle.store_workers.specs.declared.workers.Worker.{Worker}

get_state : (workers : List Worker) (number : ℕ) (one : Worker) → number < length workers
    → one ≡ get_or workers number one → slice_get (states_of workers) number ≡ Some one.state
get_state [] number one inside is = absurd (omega (arith, inside))
get_state (first ∷ later) zero one inside is = ap (λ (w : Worker). Some w.state) (sym is)
get_state (first ∷ later) (suc number) one inside is =
    get_state later number one (omega (arith, inside)) is

set_state : (workers : List Worker) (number : ℕ) (one : Worker) → number < length workers
    → slice_get (states_of (set workers number one)) number ≡ Some one.state
set_state [] number one inside = absurd (omega (arith, inside))
set_state (first ∷ later) zero one inside = refl
set_state (first ∷ later) (suc number) one inside = set_state later number one (omega (arith, inside))

other_state : (workers : List Worker) (number other : ℕ) (one : Worker) → (other ≡ number → ⊥)
    → slice_get (states_of (set workers number one)) other ≡ slice_get (states_of workers) other
other_state [] number other one differs = refl
other_state (first ∷ later) zero zero one differs = absurd (differs refl)
other_state (first ∷ later) zero (suc other) one differs = refl
other_state (first ∷ later) (suc number) zero one differs = refl
other_state (first ∷ later) (suc number) (suc other) one differs =
    other_state later number other one (λ same. differs (ap suc same))

set_count : (workers : List Worker) (number : ℕ) (one : Worker)
    → length (states_of (set workers number one)) ≡ length (states_of workers)
set_count [] number one = refl
set_count (first ∷ later) zero one = refl
set_count (first ∷ later) (suc number) one = ap suc (set_count later number one)

pub moves_one : (workers : List Worker) (number : ℕ) (Does : Worker → Worker → Type 0) (old new : Worker)
    → number < length workers → old ≡ get_or workers number old → Does old new
    → MovesOne workers number Does (set workers number new)
moves_one workers number Does old new inside is does = record {
  old = old;
  new = new;
  list = record {
    was = get_state workers number old inside is;
    now = set_state workers number new inside;
    others = λ other differs. other_state workers number other new differs;
    count = set_count workers number new;
  };
  does = does;
}

-- what holds of all, and of the one that is set, holds of all then
pub all_set : (P : Worker → Type 0) (workers : List Worker) (number : ℕ) (one : Worker) → All P workers → P one
    → All P (set workers number one)
all_set P [] number one all so = all
all_set P (first ∷ later) zero one all so = All-cons P one later so (All-tail P first later all)
all_set P (first ∷ later) (suc number) one all so = All-cons P first (set later number one)
    (All-head P first later all) (all_set P later number one (All-tail P first later all) so)

-- and of the one that is there
pub all_get : (P : Worker → Type 0) (workers : List Worker) (number : ℕ) (one : Worker) → All P workers
    → number < length workers → one ≡ get_or workers number one → P one
all_get P [] number one all inside is = absurd (omega (arith, inside))
all_get P (first ∷ later) zero one all inside is =
    subst P (sym is) (All-head P first later all)
all_get P (first ∷ later) (suc number) one all inside is =
    all_get P later number one (All-tail P first later all) (omega (arith, inside)) is

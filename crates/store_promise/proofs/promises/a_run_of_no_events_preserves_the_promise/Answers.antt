-- With nothing in the lists each promise is of nothing, and the prefix is the opening's tree.
use Rattle.std.proofs.Common.{arith, ◌≡◌, ◌+◌, ◌<◌, ◌≤◌, ◌⊎◌, inl, inr, ℕ, zero, suc, Some, None, []}
use Rattle.std.proofs.Common.{refl, subst, ap, sym, take}
use Rattle.std.proofs.lemmas.Bool.{cases_lt}
use Rattle.disk.specs.Crash.{Image, IsCrashImage}
use Rattle.disk.specs.Device.{Device}
use Rattle.nfs_spec.specs.Procedures.After.{after}
use Rattle.nfs_spec.specs.Model.Tree.{Tree}
use Rattle.layout.specs.Homes.{homes_of}
use Rattle.layout.specs.Newest.{newest}
use Rattle.layout.specs.Stands.{Stands}
use Rattle.layout.proofs.NewestVersion.{newest_stands}
use Rattle.circ.specs.Log.Overlay.{over}
use Rattle.nfs_spec.specs.Model.Tree as model
use Rattle.store_promise.specs.Headline.{IsGeometryOf, LeavesFiles, WasPromised, by_answer, by_commit, by_steps}
use Rattle.store_promise.specs.GoodImage.{IsGoodImage}
use Rattle.store_promise.specs.Openings.{IsOpened}
use Rattle.store_promise.specs.LogState.{state_settled}
use Rattle.store_promise.specs.Schedule.{state_before}
use Rattle.store_promise.specs.Transcript.{Transcript}
use Rattle.store_promise.proofs.Later.{past_none}
use Rattle.store_promise.proofs.promises.a_run_of_no_events_preserves_the_promise.Goals as goal

no-some : {A : Type 0} (x : A) → None ≡ Some x → ⊥
no-some x same = cc

no-less : (k : ℕ) → k < 0 → ⊥
no-less k less = omega arith

abbrev nothing : ℕ → Transcript
nothing first = record { boot = first + 1; history = []; answers = []; steps = [] }

-- nothing was promised to last, and the empty log tells place 0 alone as settled
lasts : (start clock first place : ℕ) → WasPromised [] start (nothing first) clock place → place ≤ 0
lasts start clock first place (by_answer a given by proven) = absurd (no-less given.0 given.1)
lasts start clock first place (by_commit a given by proven) = absurd (no-less given.0 given.1)
lasts start clock first place (by_steps index from by proven) = none_settled index from proven
  where
    none_settled : (index : ℕ) → index ≤ 0 → place ≤ state_settled (state_before [] [] index).log → place ≤ 0
    none_settled zero from proven = proven
    none_settled (suc index) from proven = absurd (no-less index (omega (arith, from)))

-- whatever a stop now leaves has these homes
abbrev HasHomes : Device → Image → Type 0
HasHomes later blocks = (image : Image) → IsCrashImage later later.clock image
    → homes_of later.size (over image) ≡ blocks

-- a stop before the opening's end
before_end : (before later : Device) (tree : Tree) (first position clock : ℕ) (image blocks : Image)
    → IsOpened before later tree first position
    → before.clock ≤ clock → clock < later.clock → IsCrashImage later clock image
    → LeavesFiles later.size first tree [] later.clock (nothing first) (λ place. blocks) clock image
before_end before later tree first position clock image blocks opened from less crash =
    let found = opened.preserves clock image from (omega (arith, less)) crash in
    record {
      prefix = record {
        boot = found.boot;
        boot_is = record {
          either = found.boot_is;
          boot_incremented = λ reached. absurd (no-less 0 (omega (arith, reached, less)));
        };
        left = tree;
        good = found.good;
        count = 0;
        few = omega arith;
        prefix = refl;
        lasts = lasts later.clock clock first;
      };
      homes = λ reached. absurd (no-less 0 (omega (arith, reached, less)));
    }

-- a stop at its end
at_end : (before later : Device) (tree : Tree) (first position clock : ℕ) (image blocks : Image)
    → IsOpened before later tree first position → HasHomes later blocks
    → clock ≡ later.clock → IsCrashImage later clock image
    → LeavesFiles later.size first tree [] later.clock (nothing first) (λ place. blocks) clock image
at_end before later tree first position clock image blocks opened whole same crash =
    let now = subst (λ m. IsCrashImage later m image) same crash in
    record {
      prefix = record {
        boot = first + 1;
        boot_is = record { either = inr refl; boot_incremented = λ _. refl };
        left = tree;
        good = opened.settled image now;
        count = 0;
        few = omega arith;
        prefix = refl;
        lasts = lasts later.clock clock first;
      };
      homes = λ _. whole image now;
    }

either : (before later : Device) (tree : Tree) (first position clock : ℕ) (image blocks : Image)
    → IsOpened before later tree first position → HasHomes later blocks
    → before.clock ≤ clock → clock ≤ later.clock → IsCrashImage later clock image → (clock < later.clock)
    ⊎ (later.clock ≤ clock)
    → LeavesFiles later.size first tree [] later.clock (nothing first) (λ place. blocks) clock image
either before later tree first position clock image blocks opened whole from to crash (inl less) =
    before_end before later tree first position clock image blocks opened from less crash
either before later tree first position clock image blocks opened whole from to crash (inr reached) =
    at_end before later tree first position clock image blocks opened whole (omega (arith, to, reached)) crash

geometry_of_image : (size boot : ℕ) (tree : Tree) (image : Image) (good : IsGoodImage size image tree boot)
    → IsGeometryOf size tree (newest good.super.geometry)
geometry_of_image size boot tree image good = record {
  blocks = good.size_is;
  inodes = ap (λ (g : model.Geometry). g.inodes) (sym good.stands.parts.geometry);
  newest = refl;
}

no_entry_after : (tree : Tree) (place : ℕ) → after tree (take place []) tree
no_entry_after tree zero = refl
no_entry_after tree (suc place) = refl

pub returns : goal.returns
returns c = λ before later tree first position workers blocks opened whole.
    let there = opened.left later.clock opened.past.clock (omega arith) in
    let good = opened.settled there.0 there.1 in
    record {
      opened = later;
      setting = record {
        geometry = newest good.super.geometry;
        position = position;
        blocks = λ place. blocks;
      };
      opens = record {
        is = opened;
        geometry = geometry_of_image later.size (first + 1) tree there.0 good;
        past = past_none later;
      };
      calls = record {
        clock = omega arith;
        failures = omega arith;
        failures_match = tt;
        did = λ index made same. absurd (no-some made same);
      };
      stops = record {
        some = opened.left;
        each = λ clock image from to crash. either before later tree first position clock image blocks
            opened whole from to crash (cases_lt clock later.clock);
      };
      replies = record {
        last = tree;
        leads = refl;
        boot = refl;
        history = record {
          each = λ index entry same. absurd (no-some entry same);
          whole = λ at place tail same. absurd (no-some _ same);
          ordered = λ one other a b same _ _. absurd (no-some a same);
          numbers = λ one other a b same _ _. absurd (no-some a same);
        };
        answers = record {
          each = λ index a same. absurd (no-some a same);
          placed_once = λ one other place a b same _ _ _. absurd (no-some a same);
          ordered = λ one other a b same _ _. absurd (no-some a same);
          whole = λ index worker event same _ _ _ _. absurd (no-some event same);
        };
        taken = record {
          fewer = omega arith;
          each = λ index event made same _. absurd (no-some event same);
        };
        changes = λ index c same. absurd (no-some c same);
        files = λ place. record {
          left = tree;
          leads = no_entry_after tree place;
          stands = subst (λ (image : Image). Stands (newest good.super.geometry) image tree)
              (whole there.0 there.1)
              (newest_stands good.super.geometry (homes_of later.size (over there.0)) tree good.stands);
        };
      };
    }

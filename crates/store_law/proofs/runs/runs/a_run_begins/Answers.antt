-- Nothing is told yet, and each stop so far has left the tree.
use Rattle.std.proofs.Common.{◌≡◌, ℕ, zero, suc, ◌+◌, refl, sym, ap, ◌∙◌, arith, [], Some, None, take}
use Rattle.disk.specs.Crash.{Image}
use Rattle.nfs_spec.specs.Procedures.After.{after}
use Rattle.nfs_spec.specs.Model.Tree.{Tree}
use Rattle.nfs_spec.specs.Model.Tree as model
use Rattle.store_promise.specs.OpenSince.{file_blocks}
use Rattle.store_promise.specs.Openings.{IsOpened}
use Rattle.store_promise.specs.Schedule.{Setting}
use Rattle.store_promise.specs.Transcript.{Transcript}
use Rattle.store_law.specs.Runs.Past.{HasLeft}
use Rattle.store_law.specs.Runs.Run.{Beginning}
use Rattle.store_law.proofs.runs.runs.a_run_begins.Goals as goal

no_some : {A : Type 0} (x : A) → None ≡ Some x → ⊥
no_some x same = cc

abbrev nothing : Beginning → Transcript
nothing b = record { boot = b.first + 1; history = []; answers = []; steps = [] }

no_entry_after : (tree : Tree) (place : ℕ) → after tree (take place []) tree
no_entry_after tree zero = refl
no_entry_after tree (suc place) = refl

-- a stop while it is opened
module _ (b : Beginning) (position : ℕ) (opens : IsOpened b.before b.opened b.tree b.first position)
    (blocks : ℕ → Image) where
  pub past : HasLeft b.before b.opened.size b.first b.tree b.events b.opened.clock (nothing b) blocks b.opened
  past clock image from early crash =
      let found = opens.preserves clock image from (omega (arith, early)) crash in
      record {
        prefix = record {
          boot = found.boot;
          boot_is = record {
            either = found.boot_is;
            boot_incremented = λ reached. absurd (omega (arith, reached, early));
          };
          left = b.tree;
          good = found.good;
          count = 0;
          few = omega arith;
          prefix = refl;
          lasts = λ place settled_then. (let by = settled_then.by in absurd (omega (arith, by, early)));
        };
        homes = λ reached. absurd (omega (arith, reached, early));
      }

pub returns : goal.returns
returns c = λ b base core position opens new.
    let since = c.an_opening_leaves_an_open_store.ensures b.before b.opened base core b.tree b.first
    position opens new in
    let has = c.what_is_held_is_what_the_files_are.ensures.stands base b.opened core _ _ (b.first + 1)
    b.tree b.tree [] since in
    let o : Setting = record {
      geometry = has.geometry;
      position = position;
      blocks = λ place. file_blocks base core;
    } in
    let size = new.agrees.agrees.size in (
      has.geometry,
      record {
        opens = opens;
        geometry = record {
          blocks = has.blocks ∙ sym size;
          inodes = ap (λ (g : model.Geometry). g.inodes) (sym has.stands.parts.geometry);
          newest = has.newest;
        };
        running = c.an_opening_begins_a_run.ensures.runs b.before b.opened base core b.tree b.first o opens new
            has.newest (has.blocks ∙ sym size) has.inodes (λ place. refl);
        is_run_state = c.an_opening_begins_a_run.ensures.is_run_state b.before b.opened base core b.tree b.first o opens new;
        moved = c.a_device_counts_the_calls_of_its_steps.ensures.first b.opened;
        did = λ index made same. absurd (no_some made same);
        boot = refl;
        leads = refl;
        files = λ place. record { left = b.tree; leads = no_entry_after b.tree place; stands = has.stands };
        changes = λ index entry same. absurd (no_some entry same);
        well = record {
          taken = record {
            fewer = omega arith;
            each = λ index event made same none. absurd (no_some made none);
          };
          history = record {
            each = λ index entry same. absurd (no_some entry same);
            whole = λ at place tail same. absurd (no_some _ same);
            ordered = λ one other a b same _ _. absurd (no_some a same);
            numbers = λ one other a b same _ _. absurd (no_some a same);
          };
          answers = record {
            each = λ index a same. absurd (no_some a same);
            placed_once = λ one other place a b same _ _ _. absurd (no_some a same);
            ordered = λ one other a b same _ _. absurd (no_some a same);
            whole = λ index worker event same less _ _ _. absurd (omega (arith, less));
          };
          ledger = record {
            places = refl;
            numbers = record {
              begun = λ worker number some. absurd (no_some number some);
              unique = λ worker other number some _. absurd (no_some number some);
              unused = λ worker number index entry some _ _. absurd (no_some number some);
              used = λ index entry same. absurd (no_some entry same);
            };
            waits = record {
              taken = λ worker place some. absurd (no_some place some);
              unique = λ worker other place some _. absurd (no_some place some);
              unanswered = λ worker place index a some _ _. absurd (no_some place some);
              answered = λ index place a same _. absurd (no_some a same);
            };
          };
        };
        past = past b position opens (λ place. file_blocks base core);
      },
    )

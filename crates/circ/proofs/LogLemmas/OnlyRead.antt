-- Lemmas on reads one after another.
use Rattle.std.proofs.Common.{◌≡◌, ℕ, ◌+◌, inl, inr, List, [], ◌∷◌, ◌++◌, refl, ap, ◌∙◌, arith, add-one}
use Rattle.std.proofs.lemmas.Bool.{cases_lt}
use Rattle.disk.specs.Device.{Content, Device, HasRead, current, newest}
use Rattle.disk.specs.Crash.{Image}
use Rattle.disk.specs.declared.block.BlockNo.{BlockNo}
use Rattle.disk.proofs.Failures.{counts_none, counts_one, counts_then}
use Rattle.circ.specs.Log.Logger.{slot_block}
use Rattle.circ.specs.Log.Overlay.{home_at, positions}
use Rattle.circ.specs.Log.Recovery.{HasOnlyRead, IsCertain, image_of}

-- one read alone
pub single_read : (before later : Device) → HasRead before later → HasOnlyRead before later
single_read before later read = record {
  size = read.later.size;
  clock = omega (arith, read.later.clock);
  past = λ clock block below. read.later.past clock block below;
  during = λ clock block from to. elim (cases_lt before.clock clock) [
    | inl after ↦ ap (λ n. later.contents n block) (omega (arith, after, to, read.later.clock))
        ∙ read.contents block
    | inr at ↦ read.later.past clock block at ∙ ap (λ n. before.contents n block) (omega (arith, at, from))
  ];
  uncertain = λ block. read.uncertain block;
  failed = read.later.failed;
  lost = read.later.lost;
  counted = counts_one before later read.later;
}

pub no_read : (before : Device) → HasOnlyRead before before
no_read before = record {
  size = refl;
  clock = omega arith;
  past = λ clock block below. refl;
  during = λ clock block from to. ap (λ n. before.contents n block) (omega (arith, from, to));
  uncertain = λ block. refl;
  failed = λ call below. refl;
  lost = λ call below. refl;
  counted = counts_none before;
}

pub reads_then : (a b c : Device) → HasOnlyRead a b → HasOnlyRead b c → HasOnlyRead a c
reads_then a b c first second =
    record {
      size = second.size ∙ first.size;
      clock = omega (arith, first.clock, second.clock);
      past = λ clock block h. second.past clock block (omega (arith, first.clock)) ∙ first.past clock block h;
      during = λ clock block from to. elim (cases_lt b.clock clock) as (λ _. c.contents clock block
          ≡ current a block) [
            | inl later ↦ second.during clock block (omega arith) to
                ∙ first.during b.clock block first.clock (omega arith)
            | inr sooner ↦ second.past clock block sooner ∙ first.during clock block from sooner
          ];
      uncertain = λ block. second.uncertain block ∙ first.uncertain block;
      failed = λ call below. second.failed call (omega (arith, below, first.clock)) ∙ first.failed call below;
      lost = λ call below. second.lost call (omega (arith, below, first.clock)) ∙ first.lost call below;
      counted = counts_then a b c first.clock second.clock second.failed first.counted second.counted;
    }

pub image_then : (a b : Device) → HasOnlyRead a b → (block : ℕ) → image_of b block ≡ image_of a block
image_then a b reads block = ap newest (reads.during b.clock block reads.clock (omega arith))

pub certain_then : (a b : Device) → HasOnlyRead a b → IsCertain a → IsCertain b
certain_then a b reads h = λ block. reads.uncertain block ∙ h block

-- one position more
pub positions_more : (header : Content) (image : Image) (start n : ℕ) (items new : List (BlockNo × Content))
    (home : BlockNo) (content : Content)
    → items ≡ positions header image start n → new ≡ items ++ (home, content) ∷ []
    → home ≡ home_at header (start + n) → content ≡ image (slot_block (start + n))
    → new ≡ positions header image start (n + 1)
positions_more header image start n items new home content e m h k = m ∙ rw (e, h, k, add-one) refl

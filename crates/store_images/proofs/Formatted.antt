-- What the device calls of a format leave.
use Rattle.std.proofs.Common.{◌≡◌, ◌∙◌, ℕ, ◌+◌, ◌-◌, ◌≤◌, ◌<◌, Bool, true, false, List, [], ◌∷◌, ◌++◌, Ok}
use Rattle.std.proofs.Common.{Err, Result, ◌||◌}
use Rattle.std.proofs.Common.{ap, sym, subst, arith, length, drop, refl, below_more}
use Rattle.std.specs.Prelude.{if◌then◌else◌}
use Rattle.std.proofs.Common.{inl, inr, length-append}
use Rattle.std.proofs.lemmas.Bool.{cases_order, false≢true}
use Rattle.std.proofs.lemmas.Bool.Decides.{nat_tests}
use Rattle.std.proofs.Math.Seq.{drop-append_seam}
use Rattle.base.specs.declared.TheConstants.{FIRST_HOME_BLOCK, LOG_HEADER_BLOCK, START_BLOCK, SUPER_BLOCK}
use Rattle.nfs_types.specs.declared.ctx.Moment.{Moment}
use Rattle.disk.specs.declared.block.Side.{Side}
use Rattle.disk.specs.declared.block.Side.TheVariants.{Log, Home}
use Rattle.disk.specs.declared.device.Failed.{Failed}
use Rattle.disk.specs.Device.{Content, Device, HasSettled, HasWritten, current, is_on, newest_only}
use Rattle.layout.specs.declared.geometry.Geometry.{Geometry}
use Rattle.layout.specs.Fresh.{fresh}
use Rattle.layout.specs.Geometry.{data_at}
use Rattle.store_images.specs.Formatting.{HasWrittenUpTo, IsMade, IsMadeBehind, IsNewest, is_slot}

abbrev done : Result Unit Failed
done = Ok tt

or_false : (b : Bool) → (b || false) ≡ b
or_false true = refl
or_false false = refl

-- one more block is written
pub one_more : (old mid new : Device) (g : Geometry) (moment : Moment) (end : ℕ)
    → HasWrittenUpTo old g moment end mid → FIRST_HOME_BLOCK ≤ end
    → HasWritten mid end (fresh g moment end) done new → HasWrittenUpTo old g moment (end + 1) new
one_more old mid new g moment end upto home write = record {
  size = write.later.size ∙ upto.size;
  written = λ number above below. all number below above;
  before = λ number low. write.others number (λ (e : number ≡ end). omega arith) ∙ upto.before number low;
  behind = λ number high. write.others number (λ (e : number ≡ end). omega arith)
      ∙ upto.behind number (omega arith);
  uncertain = λ number. write.uncertain number ∙ or_false (mid.uncertain number) ∙ upto.uncertain number;
}
  where
    is_preserved : (number : ℕ) → number < end → FIRST_HOME_BLOCK ≤ number → IsNewest new number (fresh g moment number)
    is_preserved number below above =
        let earlier = upto.written number above below in
        (earlier.0, write.others number (λ (e : number ≡ end). omega arith) ∙ earlier.1)

    all : (number : ℕ) → number < end + 1 → FIRST_HOME_BLOCK ≤ number
        → IsNewest new number (fresh g moment number)
    all = below_more (λ number. FIRST_HOME_BLOCK ≤ number
        → IsNewest new number (fresh g moment number)) end is_preserved (λ above. (current mid end, write.written))

-- the newest of contents that end in one is that one
newest_is_last : (earlier : List Content) (content : Content)
    → newest_only (earlier ++ content ∷ []) ≡ content ∷ []
newest_is_last earlier content =
    let e : length (earlier ++ content ∷ []) - 1 ≡ length earlier =
    omega (arith, length-append {A = Content}) in
    ap (λ n. drop n (earlier ++ content ∷ [])) e ∙ drop-append_seam earlier (content ∷ [])

-- a barrier of its side leaves of a block what is newest alone
pub settles : (old new : Device) (side : Side) (number : ℕ) (content : Content) → HasSettled old side done new
    → is_on side number ≡ true → IsNewest old number content → current new number ≡ content ∷ []
settles old new side number content settled on newest =
    settled.contents number ∙ ap (λ (t : Bool). if t then newest_only (current old number) else current
    old number) on
    ∙ ap newest_only newest.1 ∙ newest_is_last newest.0 content

-- a barrier of the other side leaves the block
pub passes : (old new : Device) (side : Side) (number : ℕ) → HasSettled old side done new
    → is_on side number ≡ false → current new number ≡ current old number
passes old new side number settled off =
    settled.contents number ∙ ap (λ (t : Bool). if t then newest_only (current old number) else current
    old number) off

-- one content is the newest
only : (device : Device) (number : ℕ) (content : Content) → current device number ≡ content ∷ []
    → IsNewest device number content
only device number content e = ([], e)

-- a block behind the log is on the home side, and has no slot
is_home : (number : ℕ) → START_BLOCK ≤ number → is_on Home number ≡ true
is_home number above = grind (arith, nat_tests)

not_log : (number : ℕ) → START_BLOCK ≤ number → is_on Log number ≡ false
not_log number above = grind (arith, nat_tests)

has_slot : (number : ℕ) → LOG_HEADER_BLOCK < number → number < START_BLOCK → is_slot number ≡ true
has_slot number above below = grind (arith, nat_tests)

-- after all blocks but the first were written and settled
pub made_behind : (a b c d e f : Device) (g : Geometry) (moment : Moment)
    → HasWritten a LOG_HEADER_BLOCK (fresh g moment LOG_HEADER_BLOCK) done b
    → HasWritten b START_BLOCK (fresh g moment START_BLOCK) done c
    → HasWrittenUpTo c g moment (data_at g.blocks g.inodes) d
    → HasSettled d Log done e → HasSettled e Home done f → IsMadeBehind f g moment
made_behind a b c d e f g moment header start parts log home number above below free =
    elim (cases_order number LOG_HEADER_BLOCK) [
      | inl one ↦ subst At (sym one) at_header
      | inr (inl zero) ↦ absurd (omega arith)
      | inr (inr above) ↦ elim (cases_order number START_BLOCK) [
        | inl at ↦ subst At (sym at) at_start
        | inr (inl slot) ↦ absurd (false≢true (sym free ∙ has_slot number above slot))
        | inr (inr behind) ↦ settled_home number (omega arith) (parts.written number (omega arith) below)
      ]
    ]
  where
    At : ℕ → Type 0
    At n = current f n ≡ fresh g moment n ∷ []

    settled_home : (n : ℕ) → START_BLOCK ≤ n → IsNewest d n (fresh g moment n) → At n
    settled_home n above newest =
        let passed = passes d e Log n log (not_log n above) in
        settles e f Home n _ home (is_home n above) (newest.0, passed ∙ newest.1)

    at_start : At START_BLOCK
    at_start = settled_home START_BLOCK (omega arith) (
      current b START_BLOCK,
      parts.before START_BLOCK (omega arith) ∙ start.written,
    )

    at_header : At LOG_HEADER_BLOCK
    at_header =
        let written : current d LOG_HEADER_BLOCK ≡ current a LOG_HEADER_BLOCK
        ++ fresh g moment LOG_HEADER_BLOCK ∷ [] =
        parts.before LOG_HEADER_BLOCK (omega arith)
        ∙ start.others LOG_HEADER_BLOCK (λ (at : LOG_HEADER_BLOCK ≡ START_BLOCK). omega arith)
        ∙ header.written in
        let settled = settles d e Log LOG_HEADER_BLOCK _ log refl (current a LOG_HEADER_BLOCK, written) in
        passes e f Home LOG_HEADER_BLOCK home refl ∙ settled

-- they stay so, whatever comes of the first block's write
pub made_on : (f h : Device) (g : Geometry) (moment : Moment) (content : Content) (answer : Result Unit Failed)
    → IsMadeBehind f g moment → HasWritten f SUPER_BLOCK content answer h → IsMadeBehind h g moment
made_on f h g moment content answer made write number above below free =
    write.others number (λ (at : number ≡ SUPER_BLOCK). omega arith) ∙ made number above below free

pub made_still : (h i : Device) (g : Geometry) (moment : Moment) (answer : Result Unit Failed)
    → IsMadeBehind h g moment → HasSettled h Home answer i → IsMadeBehind i g moment
made_still h i g moment (Err e) made settled number above below free =
    settled.contents number ∙ made number above below free
made_still h i g moment (Ok u) made settled number above below free =
    by_side (is_on Home number) (settled.contents number) (made number above below free)
  where
    by_side : (on : Bool) → current i number
        ≡ (if on then newest_only (current h number) else current h number)
        → current h number ≡ fresh g moment number ∷ [] → current i number ≡ fresh g moment number ∷ []
    by_side true now before = now ∙ ap newest_only before
    by_side false now before = now ∙ before

-- and then the first is
pub made : (f h i : Device) (g : Geometry) (moment : Moment) → IsMadeBehind f g moment
    → HasWritten f SUPER_BLOCK (fresh g moment SUPER_BLOCK) done h → HasSettled h Home done i
    → IsMade i g moment
made f h i g moment behind super last number below free =
    elim (cases_order number SUPER_BLOCK) [
      | inl first ↦ subst (λ n. current i n ≡ fresh g moment n ∷ []) (sym first)
          (settles h i Home SUPER_BLOCK _ last refl (current f SUPER_BLOCK, super.written))
      | inr (inl none) ↦ absurd (omega arith)
      | inr (inr above) ↦ made_still h i g moment done
          (made_on f h g moment (fresh g moment SUPER_BLOCK) done behind super) last number above below free
    ]

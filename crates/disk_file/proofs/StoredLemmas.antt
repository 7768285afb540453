-- The newest content of a block is what an honest file has stored.
use Rattle.std.proofs.Common.{◌≡◌, ℕ, ◌-◌, ◌<◌, sym, Bool, true, false, List, [], ◌∷◌, ◌++◌, length, get_or, refl}
use Rattle.std.proofs.Common.{◌∙◌, ap, arith, Result, Ok, Err, if◌then◌else◌}
use Rattle.std.proofs.lemmas.List.{length-append}
use Rattle.std.proofs.Math.Seq.{get_or-append_seam}
use Rattle.disk.specs.declared.device.Failed.{Failed}
use Rattle.disk_file.specs.declared.file.FileCall.{FileCall}
use Rattle.disk_file.specs.declared.file.FileCall.TheVariants.{Read, Write, Sync}
use Rattle.disk.specs.Device.{Content, newest, newest_only, is_on}
use Rattle.disk.specs.Blocks.{IsBlock}
use Rattle.disk_file.specs.File.{Calls, EachFits, IsExplainedCall, IsHonest, KeepsModel, contents_after, effect, is_at}
use Rattle.disk_file.specs.File.{put, stored}
use Rattle.disk.proofs.OverlapLemmas.{newest_settled}

newest_appended : (contents : List Content) (content : Content) → newest (contents ++ content ∷ []) ≡ content
newest_appended contents content =
    let at : length (contents ++ content ∷ []) - 1 ≡ length contents =
    (let l = length-append contents (content ∷ []) in omega (arith, l)) in
    ap (λ (i : ℕ). get_or (contents ++ content ∷ []) i []) at
    ∙ get_or-append_seam contents content [] []

either_written : (b : Bool) (contents : List Content) (content : Content)
    → newest (if b then contents ++ content ∷ [] else contents) ≡ (if b then content else newest contents)
either_written true contents content = newest_appended contents content
either_written false contents content = refl

either_settled : (b : Bool) (contents : List Content)
    → newest (if b then newest_only contents else contents) ≡ newest contents
either_settled true contents = newest_settled contents
either_settled false contents = refl

after_one : (block : ℕ) (call : FileCall) (result : Result Unit Failed) (contents : List Content)
    → newest (effect block call result contents) ≡ put block call (newest contents)
after_one block (Read at bytes) result contents = refl
after_one block (Write at bytes) result contents = either_written (is_at block at) contents bytes.value
after_one block (Sync side) (Ok u) contents = either_settled (is_on side block) contents
after_one block (Sync side) (Err u) contents = refl

after_all : (block : ℕ) (contents : List Content) (calls : Calls)
    → newest (contents_after block contents calls) ≡ stored block (newest contents) calls
after_all block contents [] = refl
after_all block contents (e ∷ calls) = after_all block (effect block e.0 e.1 contents) calls
    ∙ ap (λ (content : Content). stored block content calls) (after_one block e.0 e.1 contents)

pub newest_is_stored : (block : ℕ) (content : Content) (calls : Calls)
    → newest (contents_after block (content ∷ []) calls) ≡ stored block content calls
newest_is_stored block content calls = after_all block (content ∷ []) calls

explained : (first : ℕ → Content) (earlier : Calls) (call : FileCall) → IsHonest first earlier call
    → IsExplainedCall first earlier call
explained first earlier (Read at bytes) honest =
    λ block here clean. honest block here clean ∙ sym (newest_is_stored block (first block) earlier)
explained first earlier (Write at bytes) honest = tt
explained first earlier (Sync side) honest = tt

-- what answers honestly keeps the model
pub honest_preserves : (first : ℕ → Content) (size : ℕ) (calls : Calls)
    → ((block : ℕ) → block < size → IsBlock (first block)) → EachFits (IsHonest first) calls
    → KeepsModel first size calls
honest_preserves first size calls blocks honest = record {
  blocks = blocks;
  explained = λ earlier later call h. explained first earlier call (honest earlier later call h);
}

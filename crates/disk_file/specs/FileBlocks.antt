-- What a device over a file tells of are blocks: a proof, for the law of every device.
use Rattle.std.specs.Prelude.{ℕ, ◌-◌, ◌<◌, Bool, true, false, List, [], ◌∷◌, ◌++◌, length, take}
use Rattle.std.specs.Prelude.{if◌then◌else◌, Result, Ok, Err}
use Rattle.std.proofs.Common.{arith}
use Rattle.std.proofs.lemmas.List.{length-append, length-drop}
use Rattle.std.proofs.lemmas.List.Elements.{All-append, All-nil, All-cons, All-head, All-tail, All-take}
use Rattle.std.proofs.lemmas.List.Elements.{All-drop}
use Rattle.disk.specs.declared.device.Failed.{Failed}
use Rattle.disk_file.specs.declared.file.FileCall.{FileCall}
use Rattle.disk_file.specs.declared.file.FileCall.TheVariants.{Read, Write, Sync}
use Rattle.disk.specs.Device.{Content, newest_only, is_on}
use Rattle.disk.specs.Blocks.{IsBlock, AreContents, AreBlocks}
use Rattle.disk_file.specs.File.{Calls, bytes_of, is_at, effect, contents_after, file_device, AreOfBlocks}
use Rattle.disk_file.specs.File.{KeepsModel}

one_more : (old : List Content) (content : Content) → AreContents old → IsBlock content
    → AreContents (old ++ content ∷ [])
one_more old content are is = (
  (let l = length-append old (content ∷ []) in omega (arith, l)),
  All-append IsBlock old (content ∷ []) are.1 (All-cons IsBlock content [] is (All-nil IsBlock)),
)

one_left : (old : List Content) → AreContents old → AreContents (newest_only old)
one_left old are = (
  (let some = are.0 in let l = length-drop (length old - 1) old in omega (arith, l, some)),
  All-drop IsBlock (length old - 1) old are.1,
)

either : (b : Bool) (one other : List Content) → AreContents one → AreContents other
    → AreContents (if b then one else other)
either true one other p q = p
either false one other p q = q

after_one : (block : ℕ) (call : FileCall) (result : Result Unit Failed) (contents : List Content)
    → IsBlock (bytes_of call) → AreContents contents → AreContents (effect block call result contents)
after_one block (Read at bytes) result contents is are = are
after_one block (Write at bytes) result contents is are =
    either (is_at block at) (contents ++ bytes.value ∷ []) contents (one_more contents bytes.value are is) are
after_one block (Sync side) (Ok u) contents is are =
    either (is_on side block) (newest_only contents) contents (one_left contents are) are
after_one block (Sync side) (Err u) contents is are = are

after_all : (block : ℕ) (contents : List Content) (calls : Calls) → AreOfBlocks calls → AreContents contents
    → AreContents (contents_after block contents calls)
after_all block contents [] of are = are
after_all block contents (e ∷ calls) of are =
    after_all block (effect block e.0 e.1 contents) calls
    (All-tail (λ call. IsBlock (bytes_of call.0)) e calls of)
    (after_one block e.0 e.1 contents (All-head (λ call. IsBlock (bytes_of call.0)) e calls of) are)

pub file_blocks : (first : ℕ → Content) (size : ℕ) (calls : Calls) → KeepsModel first size calls
    → AreOfBlocks calls → AreBlocks (file_device first size calls)
file_blocks first size calls preserves of =
    let each : (clock block : ℕ) → block < size
    → AreContents (contents_after block (first block ∷ []) (take clock calls)) = λ clock block h.
    after_all block (first block ∷ []) (take clock calls)
    (All-take (λ call. IsBlock (bytes_of call.0)) clock calls of)
    (omega arith, All-cons IsBlock (first block) [] (preserves.blocks block h) (All-nil IsBlock)) in
    record {
      some = λ clock block before h. (each clock block h).0;
      blocks = λ clock block before h. (each clock block h).1;
    }

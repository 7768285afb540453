use Rattle.std.proofs.Common.{◌≡◌, ℕ, ◌<◌, [], ◌∷◌, map, length, get_or, ap, ◌∙◌, sym, subst, All}
use Rattle.std.proofs.lemmas.List.{with_items_is}
use Rattle.std.specs.Vec.{with_items}
use Rattle.disk.specs.Device.{Device, current, newest}
use Rattle.disk.specs.Choice.{chosen}
use Rattle.disk.specs.Crash.{IsCrashImage, IsAtRest}
use Rattle.disk.specs.Memory.{Blocks, blocks_of, past_of, memory_device}
use Rattle.disk.specs.Blocks.{AreContents}
use Rattle.disk.proofs.MemoryLemmas.{moved}
use Rattle.disk.proofs.BlockLemmas.{chosen_whole}
use Rattle.disk.proofs.CrashLemmas.{chosen_image, single_content_at_rest}
use Rattle.disk.proofs.mem_disk.MemDisk.crash.Goals as goal

pub invariant_of-result-clause-whole : goal.invariant_of-result-clause-whole
invariant_of-result-clause-whole c =
    let now : Blocks = blocks_of c.args.self in
    let new : Blocks = map (λ x. x ∷ []) (chosen c.args.digits.now now) in
    let is_preserved : (with_items c.args.self.blocks c.choose.new.blocks).items ≡ new =
    with_items_is c.args.self.blocks c.choose.new.blocks (c.choose.ensures.len ∙ c.deref_mut.ensures.len)
    ∙ (rw c.deref_mut.ensures.value at c.choose.ensures.chosen) in
    subst (λ (blocks : Blocks). All AreContents blocks) (sym is_preserved)
    (chosen_whole c.args.digits.now now c.args.self.whole)

pub returns-clause-image : goal.returns-clause-image
returns-clause-image c =
    let now : Blocks = blocks_of c.args.self in
    let new : Blocks = map (λ x. x ∷ []) (chosen c.args.digits.now now) in
    let is_preserved : (with_items c.args.self.blocks c.choose.new.blocks).items ≡ new =
    with_items_is c.args.self.blocks c.choose.new.blocks (c.choose.ensures.len ∙ c.deref_mut.ensures.len)
    ∙ (rw c.deref_mut.ensures.value at c.choose.ensures.chosen) in
    let filled : (block : ℕ) → block < length now → 0 < length (get_or now block []) =
    rw c.deref_mut.ensures.value at c.choose.ensures.filled in
    moved (λ (d : Device). IsCrashImage (memory_device c.args.self) (length (past_of c.args.self))
    (λ block. newest (current d block)))
    new (with_items c.args.self.blocks c.choose.new.blocks).items []
    (map (λ e. (e.0.value.items, e.1)) c.new.result.past.items)
    is_preserved (ap (λ es. map (λ e. (e.0.value.items, e.1)) es) c.new.ensures)
    (chosen_image c.args.digits.now now (past_of c.args.self) filled)

pub returns-clause-rest : goal.returns-clause-rest
returns-clause-rest c =
    let now : Blocks = blocks_of c.args.self in
    let new : Blocks = map (λ x. x ∷ []) (chosen c.args.digits.now now) in
    let is_preserved : (with_items c.args.self.blocks c.choose.new.blocks).items ≡ new =
    with_items_is c.args.self.blocks c.choose.new.blocks (c.choose.ensures.len ∙ c.deref_mut.ensures.len)
    ∙ (rw c.deref_mut.ensures.value at c.choose.ensures.chosen) in
    moved IsAtRest
    new (with_items c.args.self.blocks c.choose.new.blocks).items []
    (map (λ e. (e.0.value.items, e.1)) c.new.result.past.items)
    is_preserved (ap (λ es. map (λ e. (e.0.value.items, e.1)) es) c.new.ensures)
    (single_content_at_rest (chosen c.args.digits.now now))

use Rattle.std.proofs.Common.{◌≡◌, ◌∙◌, ◌++◌, ◌∷◌, [], ℕ, List, length, None, Option, ap, subst, sym, arith}
use Rattle.std.specs.Prelude.{slice_set}
use Rattle.std.proofs.lemmas.List.{length-map}
use Rattle.disk.specs.Device.{Content}
use Rattle.objects.specs.Indexed.{IsIndex, numbers}
use Rattle.objects.specs.Present.{IsOnce, present_of}
use Rattle.objects.specs.declared.present.Present.{Present}
use Rattle.objects.proofs.Indexed.{absent_at, numbers-push, pushed, reached}
use Rattle.objects.proofs.ArePreserved.{none_of}
use Rattle.objects.proofs.Residents.{once_push}
use Rattle.objects.proofs.blocks.Blocks.bring.Goals as goal

pub invariant_of-self-2 : goal.invariant_of-self-2
invariant_of-self-2 c =
    let list : List Present = c.self.inside.list.items in
    let resident : Present = record { block = c.args.block; content = c.args.content } in
    let none : present_of list c.args.block ≡ None =
    subst (λ (xs : List Present). present_of xs c.args.block ≡ None) (sym c.self.view_is)
    (none_of (present_of c.args.self.now c.args.block) (sym c.has.ensures ∙ c.if-has.false)) in
    let more : c.push.new.self.items ≡ list ++ resident ∷ [] =
    c.in_ok-push.ensures.items
    ∙ ap (λ (content : Option Content). list ++ record { block = c.args.block; content = content } ∷ [])
    c.with_content.ensures in
    let size : length (numbers list) ≡ length list = length-map list (λ (one : Present). one.block.0) in
    let at : c.len-i.result ≡ length (numbers list) = omega (arith, size) in
    let same : IsIndex (numbers list) c.reach.new.indices.items =
    reached (numbers list) c.self.inside.indices.items c.reach.new.indices.items c.self.invariant.index
    c.in_ok-reach.ensures.same c.in_ok-reach.ensures.more in
    record {
      once = subst IsOnce (sym more) (once_push list resident none c.self.invariant.once);
      index = subst (λ (xs : List Present). IsIndex (numbers xs)
          (slice_set c.reach.new.indices.items c.args.block.0 c.len-i.result)) (sym more)
          (subst (λ (ns : List ℕ). IsIndex ns
          (slice_set c.reach.new.indices.items c.args.block.0 c.len-i.result)) (sym (numbers-push list resident))
          (subst (λ (n : ℕ). IsIndex (numbers list ++ c.args.block.0 ∷ [])
          (slice_set c.reach.new.indices.items c.args.block.0 n)) (sym at)
          (pushed (numbers list) c.reach.new.indices.items c.args.block.0 same
          (λ k lt e. absent_at list c.args.block k none (omega (arith, lt, size)) e)
          c.in_ok-reach.ensures.long)));
    }

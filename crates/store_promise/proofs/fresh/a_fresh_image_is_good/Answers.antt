-- Its log is empty, so that nothing lies over its blocks, and its one file was made in no boot.
use Rattle.std.proofs.Common.{◌≡◌, ℕ, ◌≤◌, Some, refl, sym, ap, ◌∙◌, subst, arith}
use Rattle.disk.specs.Crash.{Image}
use Rattle.layout.specs.declared.geometry.Geometry.{Geometry}
use Rattle.layout.specs.Fresh.{IsFresh}
use Rattle.layout.specs.Homes.{homes_of}
use Rattle.layout.specs.Stands.{Stands, geometry_of}
use Rattle.layout.specs.SuperForm.{IsSuper}
use Rattle.base.specs.declared.TheConstants.{ROOT}
use Rattle.nfs_spec.specs.Model.Format.{format_tree, format_root}
use Rattle.nfs_spec.specs.Model.Node.{Node}
use Rattle.nfs_spec.specs.Model.Tree.{node_at}
use Rattle.nfs_spec.proofs.ModelLemmas.Maps.{only_one}
use Rattle.nfs_types.specs.declared.ctx.Moment.{Moment}
use Rattle.circ.specs.Log.EightBytes.{number_at}
use Rattle.circ.specs.Log.Overlay.{start_in, end_in, over}
use Rattle.store_promise.proofs.fresh.a_fresh_image_is_good.Goals as goal

module _ (g : Geometry) (moment : Moment) (image : Image) (fresh : IsFresh g moment image) where
  starts : start_in image ≡ 0
  unfolding number_at
  starts = ap (λ content. number_at content 0) fresh.start

  ends : end_in image ≡ 0
  unfolding number_at
  ends = ap (λ content. number_at content 0) fresh.header

  made_before : (number : ℕ) (node : Node) → node_at (format_tree (geometry_of g) moment) number ≡ Some node
      → node.stamp.boot ≤ 0
  made_before number node is =
      let root : node ≡ format_root moment = (only_one ROOT number (format_root moment) node is).1 in
      let boot : node.stamp.boot ≡ 0 = ap (λ (one : Node). one.stamp.boot) root in
      omega (arith, boot)

pub returns : goal.returns
returns c = λ g moment image lawful now fresh.
    let starts_at : start_in image ≡ 0 = starts g moment image fresh in
    let ends_at : end_in image ≡ 0 = ends g moment image fresh in
    let empty : (block : ℕ) → over image block ≡ image block =
    λ block. c.an_empty_log_hides_nothing.ensures image block (starts_at ∙ sym ends_at) in
    record {
      super = record { geometry = g; boot = 0 };
      is_super = subst (λ bytes. IsSuper bytes (record { geometry = g; boot = 0 })) (sym fresh.super)
          (c.a_super_block_is_its_bytes.ensures (record { geometry = g; boot = 0 }) lawful (omega arith));
      size_is = refl;
      boot_is = refl;
      range = record { order = omega (arith, starts_at, ends_at); slots = omega (arith, starts_at, ends_at) };
      homes = λ k less. absurd (omega (arith, less, starts_at, ends_at));
      stands = subst (λ (blocks : Image). Stands g (homes_of g.blocks blocks)
          (format_tree (geometry_of g) moment)) (λ i block. sym (empty block) i)
          (c.a_fresh_image_stands_for_the_format_tree.ensures g moment image lawful now fresh.homes);
      stamps = made_before g moment image fresh;
    }

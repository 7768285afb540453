-- Its homes under the log are those after a beginning of the commits, its super block is the one at home.
use Rattle.std.proofs.Common.{◌≡◌, ℕ, ◌-◌, ◌≤◌, inl, sym, refl, subst, arith, List, length, take}
use Rattle.std.proofs.Common.{drop}
use Rattle.base.specs.declared.TheConstants.{SUPER_BLOCK}
use Rattle.disk.specs.Crash.{Image}
use Rattle.nfs_spec.specs.Model.Entry.{Entry}
use Rattle.nfs_spec.specs.Procedures.After.{after}
use Rattle.nfs_spec.specs.Model.Tree.{Tree}
use Rattle.layout.specs.Homes.{homes_of}
use Rattle.layout.specs.Stands.{Stands}
use Rattle.layout.specs.SuperForm.{IsSuper}
use Rattle.circ.specs.Log.Law.{IsBoundary, IsOutside}
use Rattle.circ.specs.Log.Log.{IsLawful, installed_place, settled_place}
use Rattle.circ.specs.Log.Overlay.{over}
use Rattle.txn_law.specs.Core.{CoreState}
use Rattle.txn_law.specs.CoreWindow.{held_of}
use Rattle.txn_law.specs.Window.{after_commits, opening}
use Rattle.store_promise.specs.GoodImage.{IsGoodImage}
use Rattle.store_promise.specs.OpenSince.{blocks_after}
use Rattle.store_promise.specs.OpenStore.{HasFilesOver, IsBoot, IsSettledOf}
use Rattle.store_promise.specs.Prefix.{HasPrefix}
use Rattle.store_promise.proofs.HomesAfter.{homes_after}
use Rattle.store_promise.proofs.Stopped.{as_at_home, chain_long, chain_to}
use Rattle.store_promise.proofs.open_store.whole_groups_are_a_good_image.Goals as goal

module _ (base : Image) (core : CoreState) (boot : ℕ) (tree last : Tree) (entries : List Entry)
    (image : Image) (lawful : IsLawful core.log) (files : HasFilesOver base core boot tree entries last)
    (boundary : IsBoundary base core.log image) where
  abbrev size : ℕ
  size = core.log.blocks

  super_is : image SUPER_BLOCK ≡ base SUPER_BLOCK
  super_is = let some = lawful.disk in
      as_at_home core.log base image SUPER_BLOCK (λ from _. omega (arith, from))
      (omega (arith, some), inl (omega arith)) lawful boundary

  -- ---- so it is good

  module _ (k : ℕ) (settled : settled_place core.log - installed_place core.log ≤ k)
      (few : k ≤ length core.records) (there : (block : ℕ) → IsOutside size block
      → over image block ≡ after_commits (opening base core.log) (take k core.records) block) where
    found : (left : Tree) × after tree (take k entries) left
        × Stands files.super.geometry (after_commits (homes_of size (opening base core.log))
        (take k core.records)) left
        × after left (drop k entries) last
    found = chain_to files.super.geometry (homes_of size (opening base core.log)) tree core.records entries
        last k files.chain few

    good : IsGoodImage size image found.0 boot
    good = record {
      super = files.super;
      is_super = subst (λ bytes. IsSuper bytes files.super) (sym super_is) files.is_super;
      size_is = files.blocks_are;
      boot_is = files.boot_is;
      range = boundary.range;
      homes = boundary.homes;
      stands = subst (λ (blocks : Image). Stands files.super.geometry blocks found.0)
          (sym (homes_after base core lawful files.home k (over image) there)) found.2;
      stamps = files.stamps k found.0 found.1;
    }

    pub left : (left : HasPrefix size (IsBoot boot) tree entries (length entries) (IsSettledOf core.log) image)
        × (homes_of size (over image) ≡ blocks_after base core left.count)
        × after left.left (drop left.count entries) last
    left =
        let long = chain_long files.super.geometry (homes_of size (opening base core.log)) tree core.records
        entries last files.chain in (
          record {
            boot = boot;
            boot_is = refl;
            left = found.0;
            good = good;
            count = k;
            few = omega (arith, few, long);
            prefix = found.1;
            lasts = λ place held. omega (arith, held, settled);
          },
          homes_after base core lawful files.home k (over image) there,
          found.3,
        )

pub returns : goal.returns
returns c = λ base core boot tree last entries image lawful files boundary.
    let prefix = c.a_crash_leaves_a_prefix.ensures base core.log core.records
    (held_of core.present) image lawful
    files.home.window boundary in
    left base core boot tree last entries image lawful files boundary prefix.0 prefix.1 prefix.2 prefix.3

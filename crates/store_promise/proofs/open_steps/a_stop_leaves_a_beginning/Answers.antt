-- Those that are home come first, and then those of the commits that it has.
use Rattle.std.proofs.Common.{◌≡◌, ℕ, ◌+◌, ◌-◌, ◌≤◌, ap, sym, ◌∙◌, subst, arith, List, length, drop}
use Rattle.std.proofs.lemmas.List.{drop_all, length-drop}
use Rattle.disk.specs.Crash.{Image}
use Rattle.disk.specs.Device.{Device}
use Rattle.layout.specs.Homes.{homes_of}
use Rattle.nfs_spec.specs.Model.Entry.{Entry}
use Rattle.nfs_spec.specs.Model.Tree.{Tree}
use Rattle.txn_law.specs.Core.{CoreState}
use Rattle.circ.specs.Log.Calls.{Pending}
use Rattle.circ.specs.Log.Log.{installed_place, settled_place}
use Rattle.circ.specs.Log.Overlay.{over}
use Rattle.circ.proofs.LogLemmas.Ends.{place_le}
use Rattle.nfs_spec.specs.Procedures.After.{after}
use Rattle.store_promise.specs.GoodImage.{IsGoodImage}
use Rattle.store_promise.specs.OpenSince.{IsOpenSince, LeavesBeginning, LeavesBlocks, blocks_after}
use Rattle.store_promise.specs.OpenStore.{IsBoot, IsSettledOf}
use Rattle.store_promise.specs.Prefix.{HasPrefix}
use Rattle.store_promise.proofs.Chains.{after_both}
use Rattle.store_promise.proofs.open_steps.a_stop_leaves_a_beginning.Goals as goal

module _ (base : Image) (d : Device) (core : CoreState) (logging installing : Pending) (boot : ℕ)
    (first last : Tree) (entries : List Entry) (image : Image)
    (since : IsOpenSince base d core logging installing boot first entries last) where
  abbrev n : ℕ
  n = installed_place core.log

  abbrev rest : List Entry
  rest = drop n entries

  module _ (left : HasPrefix core.log.blocks (IsBoot boot) since.home rest (length rest)
      (IsSettledOf core.log) image) (homes : homes_of core.log.blocks (over image) ≡ blocks_after base core
      left.count) where
    abbrev beginning : LeavesBeginning core.log.blocks boot first entries (settled_place core.log) image
    beginning =
        let few = left.few in
        let long = length-drop n entries in
        let within = place_le core.log.changes core.log.places 0 since.over.lawful.rising in
        let counted = since.counted in
        record {
          boot = left.boot;
          boot_is = left.boot_is;
          left = left.left;
          good = left.good;
          count = n + left.count;
          few = omega (arith, few, long, within, counted);
          prefix = after_both first since.home left.left n left.count entries since.leads left.prefix;
          lasts = λ place settled. (let there = left.lasts (place - n) (omega (arith, settled)) in
              omega (arith, there));
        }

    has_blocks : LeavesBlocks base core boot first entries image
    has_blocks =
        let same : left.count ≡ n + left.count - n = omega arith in
        record {
          files = beginning;
          behind = omega arith;
          homes = homes ∙ ap (λ (k : ℕ). blocks_after base core k) same;
        }

    -- where all are settled none is left out, and so it has the last files
    whole : after left.left (drop left.count rest) last → settled_place core.log ≡ core.log.places
        → IsGoodImage core.log.blocks image last boot
    whole leads settled =
        let long = length-drop n entries in
        let counted = since.counted in
        let there = left.lasts (core.log.places - n) (omega (arith, settled)) in
        let all : length rest ≤ left.count = omega (arith, long, counted, there) in
        let same : last ≡ left.left = subst (λ (es : List Entry). after left.left es last)
        (drop_all left.count rest all) leads in
        subst (λ (tree : Tree). IsGoodImage core.log.blocks image tree boot) (sym same)
        (subst (λ (b : ℕ). IsGoodImage core.log.blocks image left.left b) left.boot_is left.good)

pub returns-clause-whole : goal.returns-clause-whole
returns-clause-whole c = λ base d core logging installing boot first last entries image since crash settled.
    let left = c.a_stop_leaves_a_good_image.ensures d base core logging installing boot since.home last _ image
    since.over crash in
    subst (λ (size : ℕ). IsGoodImage size image last boot) (sym since.over.agrees.agrees.size)
    (whole base d core logging installing boot first last entries image since left.0 left.1 left.2 settled)

pub returns-clause-blocks : goal.returns-clause-blocks
returns-clause-blocks c = λ base d core logging installing boot first last entries image since crash.
    let left = c.a_stop_leaves_a_good_image.ensures d base core logging installing boot since.home last _ image
    since.over crash in
    has_blocks base d core logging installing boot first last entries image since left.0 left.1

pub returns-clause-files : goal.returns-clause-files
returns-clause-files c = λ base d core logging installing boot first last entries image since crash.
    let left = c.a_stop_leaves_a_good_image.ensures d base core logging installing boot since.home last _ image
    since.over crash in
    subst (λ (size : ℕ). LeavesBeginning size boot first entries (settled_place core.log) image)
    (sym since.over.agrees.agrees.size)
    (beginning base d core logging installing boot first last entries image since left.0 left.1)

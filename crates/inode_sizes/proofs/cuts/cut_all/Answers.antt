use Rattle.std.proofs.Common.{◌≡◌, ℕ, ◌++◌, sym, ap, ◌∙◌, refl, subst, true, List, length, drop, filter, arith}
use Rattle.base.specs.declared.TheConstants.{DIRECT_INDEXES}
use Rattle.layout.specs.InodeForm.{is_data_block_or_none}
use Rattle.layout.specs.Parts.{content_in}
use Rattle.inode.proofs.InodeThere.{maps}
use Rattle.inode_sizes.specs.Cut.{IsRowCut, is_some}
use Rattle.inode_sizes.specs.Doubles.{IsDoubleCut}
use Rattle.inode_sizes.proofs.ReadBack.{left_over_passes}
use Rattle.inode_sizes.proofs.cuts.cut_all.Goals as goal

pub returns-then-not-is_placed-clause-resumable : goal.returns-then-not-is_placed-clause-resumable
returns-then-not-is_placed-clause-resumable c = λ blocks tree file has.
    let maps = maps c.args.snap.now.geometry blocks tree file c.args.inode.now has.over.holds has.less has.there in
    let placed : c.is_placed.result ≡ true = c.is_placed.ensures ∙ maps.1 in
    let no = c.if-not-is_placed.true in cc

pub returns-then-not-is_placed-2-clause-resumable : goal.returns-then-not-is_placed-2-clause-resumable
returns-then-not-is_placed-2-clause-resumable c = λ blocks tree file has.
    let maps = maps c.args.snap.now.geometry blocks tree file c.args.inode.now has.over.holds has.less has.there in
    let placed : c.is_placed-2.result ≡ true = c.is_placed-2.ensures ∙ maps.2 in
    let no = c.if-not-is_placed-2.true in cc

pub cut_double-requires : goal.cut_double-requires
cut_double-requires c = sym c.is_placed-2.ensures ∙ (let no = c.if-not-is_placed-2.false in cc)

pub returns-clause-fits : goal.returns-clause-fits
returns-clause-fits c =
    let eight : length c.args.inode.now.direct ≡ DIRECT_INDEXES = omega arith in
    let few = c.in_ok-direct_part.ensures.few in
    record {
      direct_part = (c.in_ok-direct_part.ensures.len ∙ eight, omega (arith, few, eight));
      indirect_part = (c.in_ok-indirect_part.ensures.len, c.in_ok-indirect_part.ensures.few);
      indirect_part_placed = left_over_passes (is_data_block_or_none c.args.snap.now.geometry) c.args.inode.now.indirect
          c.in_ok-indirect_part.indirect_part.pointer c.in_ok-indirect_part.indirect_part.numbers.items refl c.in_ok-indirect_part.ensures.is.pointer_is
          (sym c.is_placed.ensures ∙ (let no = c.if-not-is_placed.false in cc));
      double = c.in_ok-double.ensures.fits;
    }

pub returns-clause-ok : goal.returns-clause-ok
returns-clause-ok c = λ blocks tree file has.
    let inode = c.args.inode.now in
    let content = content_in c.args.snap.now.geometry blocks in
    let indirect_is = c.deref.ensures.value ∙ c.in_ok-indirect.ensures.ok blocks tree file has in
    let before = c.in_ok-direct_part.ensures.gone
    ∙ ap (λ (l : List ℕ). l ++ filter is_some (drop c.args.count inode.direct)) c.new-gone.ensures.items in
    record {
      direct_part = c.in_ok-direct_part.ensures.numbers;
      direct_part_count = c.in_ok-direct_part.ensures.count;
      between = c.cut_row.new.gone.items;
      indirect_part = subst (λ (t : List ℕ × ℕ × List ℕ). IsRowCut inode.indirect t.0 t.1 t.2 c.in_ok-indirect_part.indirect_part.pointer
          c.in_ok-indirect_part.indirect_part.numbers.items c.in_ok-indirect_part.indirect_part.used c.cut_row.new.gone.items)
          (λ i. (indirect_is i, c.saturating_sub-behind.ensures i, before i)) c.in_ok-indirect_part.ensures.is;
      further = subst (λ (m : ℕ). IsDoubleCut content inode.double m c.cut_row.new.gone.items c.in_ok-double.double
          c.cut_double.new.gone.items) c.saturating_sub-further.ensures
          (c.in_ok-double.ensures.ok blocks tree file has);
    }

use Rattle.std.proofs.Common.{rules, ℕ, ◌+◌, sym, ap, ◌∙◌, refl, subst, cond, nat_eq, ◌++◌, ◌∷◌, [], List}
use Rattle.std.proofs.Common.{filter, count_by, arith}
use Rattle.std.specs.List.{list_all}
use Rattle.layout.specs.Decode.{numbers_in}
use Rattle.layout.specs.InodeForm.{is_data_block_or_none}
use Rattle.layout.specs.Parts.{content_in}
use Rattle.layout.proofs.NumbersIn.{doubled_pass}
use Rattle.inode.proofs.Stops.{at_err}
use Rattle.inode_sizes.specs.Cut.{is_some}
use Rattle.inode_sizes.specs.Doubles.{AreInnersCut}
use Rattle.inode_sizes.proofs.FirstOnes.{left_over_is, lost_is}
use Rattle.inode_sizes.proofs.ReadBack.{left_over_passes}
use Rattle.inode_sizes.proofs.WhatLiesThere.{doubled_named}
use Rattle.inode_sizes.proofs.doubles.cut_double.Goals as goal

pub returns-in_err-inners-clause-resumable : goal.returns-in_err-inners-clause-resumable
returns-in_err-inners-clause-resumable c =
    at_err c.from_residual-in_err-inners.result c.in_err-inners.field-0.0 _ (search rules)
    (λ blocks tree file has.
    let g = c.args.snap.now.geometry in
    let inode = c.args.inode.now in
    let content = content_in g blocks in
    let test = is_data_block_or_none g in
    let pointers = c.deref.ensures.value ∙ c.in_ok-pointers.ensures.ok blocks tree file has in
    c.in_err-inners.ensures.resumable blocks tree has.over
    (ap (list_all (λ pointer. list_all test (numbers_in content pointer))) pointers
    ∙ sym (doubled_pass content inode.double test)
    ∙ doubled_named g blocks tree file inode has.over.holds has.less has.there))

pub returns-clause-fits : goal.returns-clause-fits
returns-clause-fits c =
    let inners = c.in_ok-inners.inners in
    let few = c.in_ok-inners.ensures.fits.few in
    let long = c.in_ok-inners.ensures.len in
    let one = c.one_of.ensures.few in
    let count = c.count_some.ensures.count ∙ ap (λ (l : List ℕ). count_by is_some l) c.deref-2.ensures.value in
    record {
      placed = left_over_passes (is_data_block_or_none c.args.snap.now.geometry) c.args.inode.now.double
          c.in_ok-pointer.pointer inners.numbers.items refl
          (c.in_ok-pointer.ensures.is ∙ ap (λ n. cond (nat_eq n 0) 0 c.args.inode.now.double) count
          ∙ left_over_is c.args.inode.now.double inners.numbers.items) c.requires;
      inners = c.in_ok-inners.ensures.fits;
      count = long;
      few = omega (arith, few, long, one);
    }

pub returns-clause-ok : goal.returns-clause-ok
returns-clause-ok c = λ blocks tree file has.
    let inners = c.in_ok-inners.inners in
    let double = c.args.inode.now.double in
    let count = c.count_some.ensures.count ∙ ap (λ (l : List ℕ). count_by is_some l) c.deref-2.ensures.value in
    let pointers = c.deref.ensures.value ∙ c.in_ok-pointers.ensures.ok blocks tree file has in
    record {
      between = c.cut_inners.new.gone.items;
      inners = subst (λ l. AreInnersCut (numbers_in (content_in c.args.snap.now.geometry blocks)) l c.args.count
          c.args.gone.now.items inners.numbers.items inners.part inners.part_numbers.items inners.used
          c.cut_inners.new.gone.items) pointers (c.in_ok-inners.ensures.ok blocks tree has.over);
      pointer_is = c.in_ok-pointer.ensures.is ∙ ap (λ n. cond (nat_eq n 0) 0 double) count
          ∙ left_over_is double inners.numbers.items;
      used_is = ap (λ n. n + inners.used) c.one_of.ensures.is;
      gone_are = c.in_ok-pointer.ensures.gone
          ∙ (λ i. c.cut_inners.new.gone.items ++ filter is_some ((ap (λ n. cond (nat_eq n 0) double 0) count
          ∙ lost_is double inners.numbers.items) i ∷ []));
    }

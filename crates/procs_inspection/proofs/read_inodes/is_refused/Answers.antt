use Rattle.std.proofs.Common.{◌≡◌, ℕ, ◌∙◌, [], inl, inr, sym, ap, subst, slice_index_or, Contains, length, arith}
use Rattle.std.proofs.lemmas.Bool.{cases_lt}
use Rattle.layout_records.specs.OnGrid.{IsInodeAt}
use Rattle.objects.specs.Object.{ObjectBytes}
use Rattle.txn_law.specs.Window.{IsAsRead}
use Rattle.procs_inspection.proofs.Seen.{inode_same, one_item, same, same_self, seen_of, seen_there}
use Rattle.procs_inspection.proofs.read_inodes.is_refused.Goals as goal

pub returns-then-is_refused_object-clause-some : goal.returns-then-is_refused_object-clause-some
returns-then-is_refused_object-clause-some c = λ is blocks are.
    let item = c.object-item.result in
    let items = c.args.snap.now.objects.items in
    let there : Contains items item =
    subst (λ l. Contains l item) c.deref-object-items.ensures.value
    (c.loop-object.object-index, c.loop-object-test.true, sym c.object-item.is) in
    let found = c.is_refused_object.ensures.some c.if-is_refused_object.true blocks are (are.saw item there) in record {
      number = found.0;
      addr = item.addr;
      at = found.1;
      read = seen_of item.addr item items there (same_self item.addr);
      file = found.2;
    }

pub loop-object-preserved : goal.loop-object-preserved
loop-object-preserved c = λ blocks k number d are less read at refused. elim (cases_lt k c.loop-object.object-index) [
  | inl before ↦ c.loop-object.invariant blocks k number d are before read at refused
  | inr past ↦
      let items = c.deref-object-items.result.now in
      let indexes_agree : k ≡ c.loop-object.object-index = omega (arith, past, less) in
      let is : slice_index_or items k d ≡ c.object-item.result =
      ap (λ n. slice_index_or items n d) indexes_agree
      ∙ one_item items c.loop-object.object-index d c.object-item.result c.loop-object-test.true
      ∙ sym c.object-item.is in
      c.is_refused_object.ensures.none c.if-is_refused_object.false blocks number are
      (subst (IsAsRead blocks) is read)
      (subst (λ (o : ObjectBytes). IsInodeAt c.args.snap.now.geometry number o.addr) is at) refused
]

pub returns-clause-none : goal.returns-clause-none
returns-clause-none c = λ is blocks saw refused.
    let none : ObjectBytes = record { addr = refused.addr; bytes = [] } in
    let value = c.deref-object-items.ensures.value in
    let items = c.args.snap.now.objects.items in
    let found = seen_there refused.addr items refused.read in
    let less = found.1 in
    let k = found.0 in
    let count : length c.deref-object-items.result.now ≡ length items = ap {B = ℕ} length value in
    let past = c.loop-object-test.false in
    let item : slice_index_or items k none ≡ slice_index_or c.deref-object-items.result.now k none =
    ap (λ l. slice_index_or l k none) (sym value) in
    c.loop-object.invariant blocks k refused.number none saw (omega (arith, less, count, past))
    (subst (IsAsRead blocks) item
    (saw (slice_index_or items k none)
    (k, less, one_item items k (slice_index_or items k none) none less)))
    (subst (λ (o : ObjectBytes). IsInodeAt c.args.snap.now.geometry refused.number o.addr) item
    (inode_same c.args.snap.now.geometry refused.number refused.addr (slice_index_or items k none).addr
    (same refused.addr (slice_index_or items k none).addr (found.2 none)) refused.at)) refused.file

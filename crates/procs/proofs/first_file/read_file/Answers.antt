use Rattle.std.proofs.Common.{rules, ◌≡◌, sym, ap, ◌∙◌, arith, subst, Err, IfErr}
use Rattle.disk.specs.declared.block.BlockNo.{BlockNo}
use Rattle.procs.specs.Asks.{IsAsked}
use Rattle.procs.proofs.AskedFor.{asks_inode}
use Rattle.procs.proofs.RefusedThere.{indirect_refused, inside, names_no_data, no_data_none, not_free, not_stale, stamps_differ}
use Rattle.procs.proofs.first_file.read_file.Goals as goal
use Rattle.procs.proofs.first_file.read_file.Goals.{then-number-eq0-via-then-number-eq0}
use Rattle.procs.proofs.first_file.read_file.Goals.{then-number-eq0-via-else-number-eq0+then-number-snap}

pub returns-in_err-inode-clause-asks : goal.returns-in_err-inode-clause-asks
returns-in_err-inode-clause-asks c =
    let same : c.from_residual.result ≡ Err c.in_err-inode.field-0.0 = search rules in
    let asks : IsAsked c.args.snap.now c.in_err-inode.field-0.0 =
    asks_inode c.args.snap.now c.in-Some.number (omega (arith, c.if-number-snap.false))
    c.in_err-inode.field-0.0 c.in_err-inode.ensures.asks in
    subst (λ r. IfErr r (λ why. IsAsked c.args.snap.now why)) (sym same) asks

pub returns-in_default-clause-sound : goal.returns-in_default-clause-sound
returns-in_default-clause-sound c = λ nothing blocks saw refused. c.in_default.ensures.none refused.long

pub returns-then-number-eq0-clause-sound : goal.returns-then-number-eq0-clause-sound
returns-then-number-eq0-clause-sound c = λ nothing blocks saw refused.
    let lies = inside c.args.snap.now.geometry blocks c.args.handle.now.bytes c.in-Some.number c.in-Some.stamp
    c.in-Some.ensures.some (search rules) (search rules) (search rules) refused in
    let least = lies.0 in
    let most = lies.1 in
    elim c.then-number-eq0.branch [
      | then-number-eq0-via-then-number-eq0 w ↦ (let none = w.if-number-eq0.true in omega (arith, least, none))
      | then-number-eq0-via-else-number-eq0+then-number-snap w ↦
          (let past = w.if-number-snap.true in omega (arith, most, past))
    ]

pub returns-in_default-2-clause-sound : goal.returns-in_default-2-clause-sound
returns-in_default-2-clause-sound c = λ nothing blocks saw refused.
    not_free c.args.snap.now.geometry blocks c.args.handle.now.bytes c.in-Some.number c.in-Some.stamp
    c.in-Some.ensures.some (search rules) (search rules) (search rules) refused
    (rw c.in_default-2.is at (c.in_ok-inode.ensures.there blocks saw))

pub returns-then-ne-clause-sound : goal.returns-then-ne-clause-sound
returns-then-ne-clause-sound c = λ nothing blocks saw refused.
    not_stale c.args.snap.now.geometry blocks c.args.handle.now.bytes c.in-Some.number c.in-Some.stamp
    c.in-Some.ensures.some (search rules) (search rules) (search rules) refused c.in-Some-2.inode
    (rw c.in-Some-2.is at (c.in_ok-inode.ensures.there blocks saw))
    (stamps_differ c.in-Some-2.inode.stamp c.in-Some.stamp (sym c.ne.ensures ∙ c.if-ne.true))

pub returns-in_ok-bytes_at-clause-sound : goal.returns-in_ok-bytes_at-clause-sound
returns-in_ok-bytes_at-clause-sound c = λ nothing blocks saw refused.
    let snap = c.args.snap.now in
    let inode = c.in-Some-2.inode in
    let read = rw c.in-Some-2.is at (c.in_ok-inode.ensures.there blocks saw) in
    let seen = rw c.in-Some-2.is at c.in_ok-inode.ensures.read in
    names_no_data snap.geometry blocks c.args.handle.now.bytes c.in-Some.number c.in-Some.stamp
    c.in-Some.ensures.some (search rules) (search rules) (search rules) refused inode read (λ names.
    nothing blocks saw (indirect_refused snap blocks c.in-Some.number inode c.whole.result c.in_ok-bytes_at.field-0.now
    (omega (arith, c.if-number-snap.false)) seen read (sym c.is_data.ensures ∙ c.if-is_data.true)
    (ap (λ (b : BlockNo). b.0) c.whole.ensures.value.0) c.whole.ensures.value.1 c.whole.ensures.value.2
    c.in_ok-bytes_at.ensures.read names))

pub returns-else-is_data-clause-sound : goal.returns-else-is_data-clause-sound
returns-else-is_data-clause-sound c = λ nothing blocks saw refused.
    let snap = c.args.snap.now in
    let read = rw c.in-Some-2.is at (c.in_ok-inode.ensures.there blocks saw) in
    let seen = rw c.in-Some-2.is at c.in_ok-inode.ensures.read in
    names_no_data snap.geometry blocks c.args.handle.now.bytes c.in-Some.number c.in-Some.stamp
    c.in-Some.ensures.some (search rules) (search rules) (search rules) refused c.in-Some-2.inode read (λ names.
    no_data_none snap blocks c.in-Some.number c.in-Some-2.inode seen (sym c.is_data.ensures ∙ c.if-is_data.false)
    names)

use Rattle.std.proofs.Common.{◌≡◌, ◌∙◌, true, ap, subst, ℕ, get_or}
use Rattle.objects.specs.Object.{ObjectBytes}
use Rattle.inode.specs.Indexed.{is_under, key_of}
use Rattle.inode.proofs.KnownPositions.{ok_both, one_more}
use Rattle.inode.proofs.lookup.track.Goals as goal

pub returns : goal.returns
returns c =
    let d = c.index-objects-at.result in
    let key : c.key_of-key.result ≡ key_of (get_or c.args.objects.now c.args.at d).addr =
    c.key_of-key.ensures ∙ ap key_of (c.addr.ensures ∙ ap (λ (o : ObjectBytes). o.addr) c.index-objects-at.is) in
    ok_both c.track.result (λ is stay known.
    one_more c.args.index.now c.track.new.self c.args.objects.now c.args.at d c.requires known stay
    (subst (λ (k : ℕ). is_under c.args.at k c.track.new.self ≡ true) key is)) c.track.ensures.there c.track.ensures.stays

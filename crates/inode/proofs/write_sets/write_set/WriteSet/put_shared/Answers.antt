use Rattle.std.proofs.Common.{rules, refl, ◌≡◌, sym, All, ap, ◌∙◌, subst, false, List, [], ◌∷◌, ◌++◌}
use Rattle.std.proofs.lemmas.List.Elements.{All-push}
use Rattle.layout.specs.Objects.{IsObject}
use Rattle.inode.specs.Snap.{MayWrite, is_had}
use Rattle.objects.specs.declared.mode.Mode.TheVariants as modes
use Rattle.objects.specs.declared.addr.Addr.{Addr}
use Rattle.layout.specs.Parts.{with_bytes}
use Rattle.objects.specs.Object.{ObjectBytes}
use Rattle.txn_law.specs.Window.{with_objects}
use Rattle.inode.specs.Snap.{is_seen}
use Rattle.inode.specs.WriteSets.WriteSetContents.{WriteSetContents, image_of}
use Rattle.inode.specs.WriteSets.Upserted.{upserted}
use Rattle.layout.specs.declared.geometry.Geometry.{Geometry}
use Rattle.inode.proofs.WriteSetsLemmas.ArePreserved.{preserved_with}
use Rattle.inode.proofs.WriteSetsLemmas.UpsertedObjects.{seen_upserted}
use Rattle.inode.proofs.WriteSetsLemmas.DirtyCounts.{more_fresh, more_once, more_dirty, same_fresh, same_once}
use Rattle.inode.proofs.WriteSetsLemmas.Written.{behind_others, shows_upserted}
use Rattle.inode.proofs.write_sets.write_set.WriteSet.put_shared.Goals as goal

pub invariant_of-self-2 : goal.invariant_of-self-2
invariant_of-self-2 c =
    let geometry : c.upsert_there.new.there.geometry ≡ c.self.inside.there.geometry =
    c.upsert_there.ensures.geometry ∙ c.reserve_next.ensures.geometry in
    record {
      after = record {
        geometry = geometry ∙ c.self.invariant.after.geometry;
        claims = c.upsert_there.ensures.claims ∙ c.reserve_next.ensures.claims ∙ c.self.invariant.after.claims;
        exclusives = c.upsert_there.ensures.exclusives ∙ c.reserve_next.ensures.exclusives ∙ c.self.invariant.after.exclusives;
        all = λ addr is none. c.self.invariant.after.all addr (subst (λ (g : Geometry). IsObject g addr) geometry is)
            (seen_upserted addr c.self.inside.there.objects.items c.in_ok-copy.copy
            (subst (λ l. is_seen addr l ≡ false)
            (c.upsert_there.ensures.objects
            ∙ ap (λ (l : List ObjectBytes). upserted l c.in_ok-copy.copy) c.reserve_next.ensures.objects) none));
      };
      grid =
          subst (λ (g : Geometry). All (λ (one : ObjectBytes). IsObject g one.addr) c.push.new.self.items) (sym geometry)
          (subst (All (λ (one : ObjectBytes). IsObject c.self.inside.there.geometry one.addr))
          (sym c.in-Ok.ensures.items)
          (All-push (λ (one : ObjectBytes). IsObject c.self.inside.there.geometry one.addr)
          c.self.inside.written.items c.new-object.result c.self.invariant.grid
          (subst (IsObject c.self.inside.there.geometry) (sym c.new-object.ensures.addr)
          (subst (λ (d : WriteSetContents). IsObject d.there.geometry c.args.addr) (sym c.self.view_is) c.requires.object))));
      given =
          subst (All (λ (one : ObjectBytes). MayWrite c.self.inside.seen.now one.addr)) (sym c.in-Ok.ensures.items)
          (All-push (λ (one : ObjectBytes). MayWrite c.self.inside.seen.now one.addr)
          c.self.inside.written.items c.new-object.result c.self.invariant.given
          (subst (MayWrite c.self.inside.seen.now) (sym c.new-object.ensures.addr)
          (c.is_given.ensures.given (search rules))));
    }

pub returns-then-not-is_given-clause-err : goal.returns-then-not-is_given-clause-err
returns-then-not-is_given-clause-err c = (
  subst (λ (d : WriteSetContents). is_had c.args.addr modes.Exclusive d.seen.objects.items d.seen.exclusives.items ≡ false)
      c.self.view_is
      (c.is_given.ensures.none (search rules)),
  subst (λ (d : WriteSetContents). IsObject d.seen.geometry c.args.addr) c.self.view_is
      (subst (λ (g : Geometry). IsObject g c.args.addr) c.self.invariant.after.geometry
      (subst (λ (d : WriteSetContents). IsObject d.there.geometry c.args.addr) (sym c.self.view_is) c.requires.object)),
)

pub invariant_of-self : goal.invariant_of-self
invariant_of-self c =
    preserved_with c.self.inside.seen.now c.self.inside.there _ c.reserve_next.ensures.geometry c.reserve_next.ensures.claims
    c.reserve_next.ensures.exclusives c.reserve_next.ensures.objects
    c.self.inside.written.items c.self.inside.written.items refl c.self.invariant

pub invariant_of-self-in-Err : goal.invariant_of-self-in-Err
invariant_of-self-in-Err c =
    preserved_with c.self.inside.seen.now c.self.inside.there _ c.reserve_next.ensures.geometry c.reserve_next.ensures.claims
    c.reserve_next.ensures.exclusives c.reserve_next.ensures.objects
    c.self.inside.written.items c.push.new.self.items c.in-Err.ensures.items c.self.invariant

pub returns-clause-shows : goal.returns-clause-shows
returns-clause-shows c = λ image shows.
    shows_upserted c.args.self.now _ c.args.addr c.args.bytes image
    (c.upsert_there.ensures.geometry ∙ c.reserve_next.ensures.geometry
    ∙ ap (λ (d : WriteSetContents). d.there.geometry) c.self.view_is)
    (c.upsert_there.ensures.objects
    ∙ ap (λ (l : List ObjectBytes). upserted l c.in_ok-copy.copy) c.reserve_next.ensures.objects
    ∙ ap (upserted c.self.inside.there.objects.items) (c.in_ok-copy.ensures.cases
    ∙ (λ i. record { addr = c.new-object.ensures.addr i; bytes = c.new-object.ensures.bytes i }))
    ∙ ap (λ (d : WriteSetContents). upserted d.there.objects.items
    (record { addr = c.args.addr; bytes = c.args.bytes }))
    c.self.view_is)
    c.requires.len shows c.requires.object

pub returns-clause-image : goal.returns-clause-image
returns-clause-image c = λ blocks.
    ap (with_objects blocks) c.in-Ok.ensures.items
    ∙ behind_others blocks c.self.inside.written.items c.new-object.result
    ∙ (λ i. with_bytes (with_objects blocks c.self.inside.written.items) (block i)
    (c.new-object.ensures.addr i).offset
    (c.new-object.ensures.bytes i))
    ∙ ap (λ (d : WriteSetContents). with_bytes
    (image_of blocks d) c.args.addr.block.0 c.args.addr.offset c.args.bytes)
    c.self.view_is
  where
    block : c.new-object.result.addr.block.0 ≡ c.args.addr.block.0
    block = ap (λ (a : Addr). a.block.0) c.new-object.ensures.addr

pub returns-clause-dirty_count : goal.returns-clause-dirty_count
returns-clause-dirty_count c =
    more_dirty c.args.self.now.written c.push.new.self.items c.new-object.result c.args.addr c.new-object.ensures.addr
    (c.in-Ok.ensures.items ∙ ap (λ (d : WriteSetContents). d.written ++ c.new-object.result ∷ []) c.self.view_is)

pub returns-clause-once : goal.returns-clause-once
returns-clause-once c =
    more_once c.args.self.now _ c.new-object.result c.args.addr c.new-object.ensures.addr
    (c.in-Ok.ensures.items ∙ ap (λ (d : WriteSetContents). d.written ++ c.new-object.result ∷ []) c.self.view_is)

pub returns-clause-stays : goal.returns-clause-stays
returns-clause-stays c =
    more_fresh c.args.self.now _ c.new-object.result c.args.addr c.new-object.ensures.addr
    (c.in-Ok.ensures.items ∙ ap (λ (d : WriteSetContents). d.written ++ c.new-object.result ∷ []) c.self.view_is)

pub returns-in_err-reserve_next-clause-once : goal.returns-in_err-reserve_next-clause-once
returns-in_err-reserve_next-clause-once c =
    same_once c.args.self.now _ c.args.addr.block.0 c.args.addr.offset c.args.addr.len
    (ap (λ (d : WriteSetContents). d.written) c.self.view_is)

pub returns-in_err-reserve_next-clause-stays : goal.returns-in_err-reserve_next-clause-stays
returns-in_err-reserve_next-clause-stays c = λ block offset len.
    same_fresh c.args.self.now _ block offset len (ap (λ (d : WriteSetContents). d.written) c.self.view_is)

pub returns-in-Err-clause-once : goal.returns-in-Err-clause-once
returns-in-Err-clause-once c =
    same_once c.args.self.now _ c.args.addr.block.0 c.args.addr.offset c.args.addr.len
    (c.in-Err.ensures.items ∙ ap (λ (d : WriteSetContents). d.written) c.self.view_is)

pub returns-in-Err-clause-stays : goal.returns-in-Err-clause-stays
returns-in-Err-clause-stays c = λ block offset len.
    same_fresh c.args.self.now _ block offset len
    (c.in-Err.ensures.items ∙ ap (λ (d : WriteSetContents). d.written) c.self.view_is)

-- What the stream came to, and what was settled behind it.
use Rattle.std.proofs.Common.{rules, ◌≡◌, ◌∙◌, Err, ap, refl, subst, sym}
use Rattle.store_images.proofs.Staying.{prefixes_preserved, still_open}
use Rattle.store_images.proofs.StillOpen.{same_open}
use Rattle.store_images.specs.Opening.{store_of}
use Rattle.store_images.specs.Settling.{IsIdle}
use Rattle.session.specs.Serving.{IsEnded, client_of, has_served}
use Rattle.session.specs.Filing.{IsSettledBehind}
use Rattle.session.specs.declared.stream.SessionFault.{SessionFault}
use Rattle.session.specs.declared.stream.SessionFault.TheVariants as faults
use Rattle.session.specs.Writing.{output_state_of}
use Rattle.session.proofs.Courses.{failed_behind}
use Rattle.session.proofs.Filed.{served_behind, settled_after}
use Rattle.session.proofs.Traced.{behind}
use Rattle.session.proofs.stream.serve.Goals as goal

pub returns-in-Err-Output-clause-stream : goal.returns-in-Err-Output-clause-stream
returns-in-Err-Output-clause-stream g c =
    let was = c.args.store.now in
    let served = c.serve_all-served.new.store in
    let device = g.D.CrashDisk.device in
    let preserves = g.D.CrashDisk.keeps_model served.disk in
    let output : c.serve_all-served.result ≡ Err faults.Output = search rules in
    let d = device served.disk in
    served_behind c.a_stop_leaves_a_beginning.ensures.files
    c.a_stop_leaves_a_beginning.ensures.whole
    c.an_open_store_preserves_its_files.ensures.longer preserves preserves
    (λ is_preserved. is_preserved) c.args.moment (store_of (device was.disk) was.core was.boot)
    (g.R.Read.remaining c.args.reader.now.reader) (output_state_of g.W.Write.contents c.args.writer.now) c.serve_all-served.result
    (g.R.Read.remaining c.serve_all-served.new.reader.reader) (output_state_of g.W.Write.contents c.serve_all-served.new.writer)
    (store_of (device served.disk) served.core served.boot) (device served.disk) served.core served.boot
    (same_open d served.core) refl (λ later is. is)
    (λ is_preserved. prefixes_preserved d d served.core served.core (g.met.D.CrashDisk.whole served.disk is_preserved)
    c.an_open_store_preserves_its_files.ensures.now c.a_stop_leaves_a_beginning.ensures.files
    (still_open d served.core))
    (λ is_preserved. g.met.D.CrashDisk.whole served.disk is_preserved) c.serve_all-served.ensures.stream
    (subst (λ r. IsSettledBehind r served.core) (sym output) tt)

pub returns-in-Err : goal.returns-in-Err
returns-in-Err g c =
    let was = c.args.store.now in
    let now = c.settle.new.store in
    let device = g.D.CrashDisk.device in
    let idle : IsIdle now.core = search rules in
    record {
      idle = idle;
      boot = c.settle.ensures.boot ∙ c.serve_all-served.ensures.boot;
      reads = c.serve_all-served.ensures.reads;
      model = λ is_preserved. c.serve_all-served.ensures.model (c.settle.ensures.model is_preserved);
      served = has_served (store_of (device was.disk) was.core was.boot)
          (client_of (g.R.Read.remaining c.args.reader.now.reader) (g.W.Write.contents c.args.writer.now.writer)) c.args.moment
          c.serve_all-served.result (store_of (device now.disk) now.core now.boot)
          (client_of (g.R.Read.remaining c.serve_all-served.new.reader.reader) (g.W.Write.contents c.serve_all-served.new.writer.writer))
          (record {
            idle = idle;
            ended = subst (λ r. IsEnded r (store_of (device now.disk) now.core now.boot)
                (client_of (g.R.Read.remaining c.serve_all-served.new.reader.reader) (g.W.Write.contents c.serve_all-served.new.writer.writer))) (sym c.in-Err.is) tt;
          });
      stream =
          let served = c.serve_all-served.new.store in
          let preserves = g.D.CrashDisk.keeps_model in
          let fault = c.in-Err.field-0 in
          served_behind c.a_stop_leaves_a_beginning.ensures.files
          c.a_stop_leaves_a_beginning.ensures.whole c.an_open_store_preserves_its_files.ensures.longer
          (preserves served.disk) (preserves now.disk) c.settle.ensures.model c.args.moment
          (store_of (device was.disk) was.core was.boot) (g.R.Read.remaining c.args.reader.now.reader)
          (output_state_of g.W.Write.contents c.args.writer.now) c.serve_all-served.result
          (g.R.Read.remaining c.serve_all-served.new.reader.reader) (output_state_of g.W.Write.contents c.serve_all-served.new.writer)
          (store_of (device served.disk) served.core served.boot) (device now.disk) now.core now.boot
          c.settle.ensures.open c.settle.ensures.boot
          (λ later is. c.a_settled_store_stays_open.ensures
          (store_of (device served.disk) served.core served.boot)
          (device now.disk) now.core later.first later.last later.entries c.settle.ensures.open is)
          c.settle.ensures.preserves (λ is_preserved. g.met.D.CrashDisk.whole now.disk is_preserved)
          c.serve_all-served.ensures.stream
          (subst (λ r. IsSettledBehind r now.core) (sym c.in-Err.is)
          (settled_after fault now.core c.settle.result
          (λ is. c.serve_all-served.ensures.device (c.in-Err.is ∙ ap (λ (f : SessionFault). Err f) is))
          c.settle.ensures.settled c.settle.ensures.broken));
    }

pub returns-in-Ok-settle-clause-stream : goal.returns-in-Ok-settle-clause-stream
returns-in-Ok-settle-clause-stream g c =
    let was = c.args.store.now in
    let served = c.serve_all-served.new.store in
    let now = c.settle-in-Ok.new.store in
    let device = g.D.CrashDisk.device in
    let preserves = g.D.CrashDisk.keeps_model in
    served_behind c.a_stop_leaves_a_beginning.ensures.files
    c.a_stop_leaves_a_beginning.ensures.whole c.an_open_store_preserves_its_files.ensures.longer
    (preserves served.disk) (preserves now.disk) c.settle-in-Ok.ensures.model c.args.moment
    (store_of (device was.disk) was.core was.boot) (g.R.Read.remaining c.args.reader.now.reader)
    (output_state_of g.W.Write.contents c.args.writer.now) c.serve_all-served.result
    (g.R.Read.remaining c.serve_all-served.new.reader.reader) (output_state_of g.W.Write.contents c.serve_all-served.new.writer)
    (store_of (device served.disk) served.core served.boot) (device now.disk) now.core now.boot
    c.settle-in-Ok.ensures.open c.settle-in-Ok.ensures.boot
    (λ later is. c.a_settled_store_stays_open.ensures (store_of (device served.disk) served.core served.boot)
    (device now.disk) now.core later.first later.last later.entries c.settle-in-Ok.ensures.open is)
    c.settle-in-Ok.ensures.preserves (λ is_preserved. g.met.D.CrashDisk.whole now.disk is_preserved)
    c.serve_all-served.ensures.stream
    (subst (λ r. IsSettledBehind r now.core) (sym c.in-Ok.is) c.in-Ok-settle.ensures.settled)

pub returns-in-Err-settle-clause-stream : goal.returns-in-Err-settle-clause-stream
returns-in-Err-settle-clause-stream g c =
    let was = c.args.store.now in
    let served = c.serve_all-served.new.store in
    let now = c.settle-in-Ok.new.store in
    let device = g.D.CrashDisk.device in
    let preserves = g.D.CrashDisk.keeps_model in
    let old = store_of (device was.disk) was.core was.boot in
    let mid = store_of (device served.disk) served.core served.boot in
    let unread = g.R.Read.remaining c.args.reader.now.reader in
    let first = output_state_of g.W.Write.contents c.args.writer.now in
    let rest = g.R.Read.remaining c.serve_all-served.new.reader.reader in
    let written = output_state_of g.W.Write.contents c.serve_all-served.new.writer in
    served_behind c.a_stop_leaves_a_beginning.ensures.files
    c.a_stop_leaves_a_beginning.ensures.whole c.an_open_store_preserves_its_files.ensures.longer
    (preserves served.disk) (preserves now.disk) c.settle-in-Ok.ensures.model c.args.moment old unread first
    (Err faults.Device) rest written mid (device now.disk) now.core now.boot c.settle-in-Ok.ensures.open
    c.settle-in-Ok.ensures.boot
    (λ later is. c.a_settled_store_stays_open.ensures mid (device now.disk) now.core later.first
    later.last later.entries
    c.settle-in-Ok.ensures.open is)
    c.settle-in-Ok.ensures.preserves (λ is_preserved. g.met.D.CrashDisk.whole now.disk is_preserved)
    (failed_behind (preserves served.disk) c.args.moment old unread first c.in-Ok.field-0 rest written mid
    c.in-Ok.ensures.stream) c.in-Err-settle.ensures.broken

pub returns-in-Err-settle-clause-reads : goal.returns-in-Err-settle-clause-reads
returns-in-Err-settle-clause-reads g c =
    behind c.in-Ok.field-0 c.args.reader.now.answers.items c.serve_all-served.new.reader.answers.items
    c.in-Ok.ensures.reads

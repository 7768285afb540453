use Rattle.std.proofs.Common.{◌++◌, Bool, refl, inl}
use Rattle.plain_once.specs.Session.Answering.{Files, files_of}
use Rattle.plain_once.specs.Session.Serving.{None}
use Rattle.plain_once.proofs.SessionLemmas.Lost.{on_err}
use Rattle.plain_once.proofs.session.session.PlainSession.feed.Goals as goal

-- the piece wasn't taken: no record more is answered
pub returns-in_err-extend_from_slice-clause-err : goal.returns-in_err-extend_from_slice-clause-err
returns-in_err-extend_from_slice-clause-err c =
    on_err c.from_residual.result (
      refl {A = Bool},
      record {
        left = c.args.self.now.unread.items ++ c.args.piece.now;
        middle = files_of c.args.self.now.files;
        answered = None;
        cut = inl (refl {A = Files});
      },
    )

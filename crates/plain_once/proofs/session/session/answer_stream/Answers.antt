use Rattle.plain_once.specs.Session.Serving.{session_of}
use Rattle.plain_once.proofs.SessionLemmas.Streams.{ends_closed, ends_open, fresh_is_open, fresh_of, stream}
use Rattle.plain_once.proofs.session.session.answer_stream.Goals as goal

pub returns-in-Open-clause-answered : goal.returns-in-Open-clause-answered
returns-in-Open-clause-answered c =
    let is = fresh_of c.args.blocks c.args.inodes c.args.made c.args.fake_clock _ _ c.in-Some.is
    c.in_ok-session.ensures in
    let fed = c.in_ok-_progress.ensures.ok (fresh_is_open _ _ _ _ (session_of c.in-Some.session) is) in
    let ends = ends_open (session_of c.feed.new.self) c.in-Open.ensures in
    stream _ _ _ _ _ _ _ _ _ _ _ is c.new-replies.ensures.items fed ends

pub returns-clause-answered : goal.returns-clause-answered
returns-clause-answered c =
    let is = fresh_of c.args.blocks c.args.inodes c.args.made c.args.fake_clock _ _ c.in-Some.is
    c.in_ok-session.ensures in
    let fed = c.in_ok-_progress.ensures.ok (fresh_is_open _ _ _ _ (session_of c.in-Some.session) is) in
    let ends = ends_closed _ (session_of c.feed.new.self) _ _ _ _ fed c.in-Closed.ensures in
    stream _ _ _ _ _ _ _ _ _ _ _ is c.new-replies.ensures.items fed ends

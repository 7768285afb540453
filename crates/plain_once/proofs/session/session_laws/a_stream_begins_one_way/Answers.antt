use Rattle.plain_once.proofs.SessionLemmas.OneCut.{more_or_long, one_record, whole_or_long, whole_or_more}
use Rattle.plain_once.proofs.session.session_laws.a_stream_begins_one_way.Goals as goal

pub returns-clause-single_record : goal.returns-clause-single_record
returns-clause-single_record c = one_record

pub returns-clause-whole_or_more : goal.returns-clause-whole_or_more
returns-clause-whole_or_more c = whole_or_more

pub returns-clause-whole_or_long : goal.returns-clause-whole_or_long
returns-clause-whole_or_long c = whole_or_long

pub returns-clause-more_or_long : goal.returns-clause-more_or_long
returns-clause-more_or_long c = more_or_long

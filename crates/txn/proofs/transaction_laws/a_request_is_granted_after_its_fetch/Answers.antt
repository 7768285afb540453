use Rattle.txn.proofs.FetchedRequest.{met}
use Rattle.txn.proofs.transaction_laws.a_request_is_granted_after_its_fetch.Goals as goal

pub returns : goal.returns
returns c = met

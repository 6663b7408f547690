use Rattle.cv_client.specs.Fetch.{served, absent, other}
use Rattle.cv_client.proofs.fetching.file_in.Goals as goal

pub returns-then-reply-eq-OK : goal.returns-then-reply-eq-OK
returns-then-reply-eq-OK c = served c.if-reply-eq-OK.true

pub returns-then-reply-eq-NOT_FOUND : goal.returns-then-reply-eq-NOT_FOUND
returns-then-reply-eq-NOT_FOUND c = absent c.if-reply-eq-NOT_FOUND.true

pub returns : goal.returns
returns c = other c.if-reply-eq-OK.false c.if-reply-eq-NOT_FOUND.false

use Rattle.cv_client.proofs.Urls.{one_url}
use Rattle.cv_client.proofs.laws.one_url.Goals as goal

pub returns : goal.returns
returns c = one_url

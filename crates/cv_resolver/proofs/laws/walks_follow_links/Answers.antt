use Rattle.cv_resolver.proofs.Steps.{link_stays, link, link_nowhere, no_more_links}
use Rattle.cv_resolver.proofs.laws.walks_follow_links.Goals as goal

pub returns-clause-stays : goal.returns-clause-stays
returns-clause-stays c = link_stays

pub returns-clause-leads : goal.returns-clause-leads
returns-clause-leads c = link

pub returns-clause-too_many : goal.returns-clause-too_many
returns-clause-too_many c = no_more_links

pub returns-clause-nowhere : goal.returns-clause-nowhere
returns-clause-nowhere c = link_nowhere

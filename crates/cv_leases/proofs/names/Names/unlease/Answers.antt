use Rattle.std.proofs.Common.{false, refl}
use Rattle.cv_links.specs.Lends.{with_value}
use Rattle.cv_leases.proofs.Needed.{pruned_ends}
use Rattle.cv_leases.proofs.Rooted.{relabel, whole_labelled, ends}
use Rattle.cv_leases.proofs.names.Names.unlease.Goals as goal

pub returns-clause-whole : goal.returns-clause-whole
returns-clause-whole c =
    whole_labelled c.args.self.now (record c.args.self.now { places = with_value c.args.self.now.places c.args.id (record c.get_mut.result.now { leased = false }) }) c.args.id c.get_mut.result.now false c.requires.whole refl
    (relabel c.args.self.now.places c.args.id c.get_mut.result.now false c.get_mut.ensures.value c.get_mut.ensures.lists)

pub returns-clause-leases : goal.returns-clause-leases
returns-clause-leases c =
    ends c.args.self.now (record c.args.self.now { places = with_value c.args.self.now.places c.args.id (record c.get_mut.result.now { leased = false }) }) c.args.id c.get_mut.result.now c.requires.whole refl
    (relabel c.args.self.now.places c.args.id c.get_mut.result.now false c.get_mut.ensures.value c.get_mut.ensures.lists)

pub returns-clause-pruned : goal.returns-clause-pruned
returns-clause-pruned c =
    pruned_ends c.args.self.now (record c.args.self.now { places = with_value c.args.self.now.places c.args.id (record c.get_mut.result.now { leased = false }) }) c.args.id c.get_mut.result.now c.requires.whole refl
    (relabel c.args.self.now.places c.args.id c.get_mut.result.now false c.get_mut.ensures.value c.get_mut.ensures.lists) c.requires.pruned

use Rattle.std.proofs.Common.{inr, refl}
use Rattle.cv_folder.proofs.Preparing.{leads_at, on_way, prepares_none, prepares_one, stops_at}
use Rattle.cv_folder.specs.Writes.{IsAbove}
use Rattle.cv_folder.proofs.Notes.{notes_wider}
use Rattle.cv_folder.proofs.making.make_folder_at.Goals as goal

pub returns-in-Some-clause-calls : goal.returns-in-Some-clause-calls
returns-in-Some-clause-calls g c = prepares_one _ _ _ _ _ _ c.requires c.in-Some.ensures.folder.0 c.in-Some.ensures.folder.1 c.make_folder.ensures.calls

pub returns-in-None-clause-calls : goal.returns-in-None-clause-calls
returns-in-None-clause-calls g c = prepares_none _ _ _ _ _ refl

pub returns-in-Some-clause-leads : goal.returns-in-Some-clause-leads
returns-in-Some-clause-leads g c = leads_at _ _ _ _ _ _ c.in-Some.ensures.folder.1 c.in-Some.ensures.folder.0 c.make_folder.ensures.leads

pub returns-in-Some-clause-only : goal.returns-in-Some-clause-only
returns-in-Some-clause-only g c =
    notes_wider _ (IsAbove c.args.end c.args.path.now) _ _ (λ folder is. inr (_, on_way _ _ _ c.requires c.in-Some.ensures.folder.0 c.in-Some.ensures.folder.1, is)) c.make_folder.ensures.only

pub returns-in-Some-clause-stops : goal.returns-in-Some-clause-stops
returns-in-Some-clause-stops g c = stops_at _ _ _ _ _ _ c.in-Some.ensures.folder.1 c.in-Some.ensures.folder.0 c.make_folder.ensures.stops

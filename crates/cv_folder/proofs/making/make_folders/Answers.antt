use Rattle.std.proofs.Common.{refl, [], arith, subst, List, ℕ, inl, inr}
use Rattle.cv_base.proofs.Laws.{on_err_only}
use Rattle.cv_system.specs.Looks.{folders_at}
use Rattle.cv_folder.specs.Writes.{Leads}
use Rattle.cv_folder.proofs.Acts.{on_ok}
use Rattle.cv_folder.proofs.Preparing.{above_wider, leads_then, prepares_none, prepares_on, prepares_wider, stops_here}
use Rattle.cv_folder.proofs.Notes.{notes_none, notes_then, notes_wider}
use Rattle.cv_system.proofs.Laws.{all_seen, one_place_more, steps_then}
use Rattle.std.proofs.lemmas.Result.{err_from_is_err_and, IfErr-weaker}
use Rattle.cv_folder.proofs.Growing.{prepares_grow}
use Rattle.cv_folder.proofs.Reasons.{way_then}
use Rattle.cv_folder.proofs.Well.{leads_well}
use Rattle.cv_folder.proofs.making.make_folders.Goals as goal

pub loop-end-init : goal.loop-end-init
loop-end-init g c = record { kept = λ folder noted. noted; only = notes_none _ _ _ refl; prepared = prepares_none _ _ _ _ _ refl; through = ([], refl, refl) }

pub returns-in_err-make_folder_at-clause-calls : goal.returns-in_err-make_folder_at-clause-calls
returns-in_err-make_folder_at-clause-calls g c = prepares_on _ _ _ _ _ _ _ _ c.loop-end.auto.end c.make_folder_at.ensures.kept c.loop-end.invariant.prepared c.make_folder_at.ensures.calls

pub loop-end-preserved : goal.loop-end-preserved
loop-end-preserved g c =
    let so_far = c.loop-end.invariant.through in
    record {
      kept = λ folder noted. c.make_folder_at.ensures.kept folder (c.loop-end.invariant.kept folder noted);
      only = notes_then _ _ _ _ c.loop-end.invariant.only (notes_wider _ _ _ _ (above_wider c.args.path.now c.args.from c.loop-end.end c.loop-end.auto.end) c.make_folder_at.ensures.only);
      prepared = prepares_on _ _ _ _ _ _ _ _ c.loop-end.auto.end c.make_folder_at.ensures.kept c.loop-end.invariant.prepared c.make_folder_at.ensures.calls;
      through = (
        _,
        one_place_more c.args.path.now c.args.from c.loop-end.end so_far.0 c.loop-end-test.true so_far.1,
        leads_then so_far.0 (folders_at c.args.path.now c.loop-end.end) _ _ _ so_far.2 c.in_ok-make_folder_at.ensures.leads,
      );
    }

pub returns-clause-leads : goal.returns-clause-leads
returns-clause-leads g c =
    let so_far = c.loop-end.invariant.through in
    on_ok c.note.result (subst (λ (folders : List (List ℕ)). Leads folders (g.S.System.log c.args.system.now) (g.S.System.log c.loop-end.system))
    (all_seen c.args.path.now c.args.from c.loop-end.end so_far.0 c.loop-end-test.false so_far.1) so_far.2)

pub returns-in_err-make_folder_at-clause-only : goal.returns-in_err-make_folder_at-clause-only
returns-in_err-make_folder_at-clause-only g c =
    notes_then _ _ _ _ c.loop-end.invariant.only (notes_wider _ _ _ _ (above_wider c.args.path.now c.args.from c.loop-end.end c.loop-end.auto.end) c.make_folder_at.ensures.only)

pub returns-clause-calls : goal.returns-clause-calls
returns-clause-calls g c = prepares_wider c.args.path.now c.args.from c.args.from _ _ (omega arith) c.note.ensures.kept _ _ c.loop-end.invariant.prepared

pub returns-in_err-make_folder_at-clause-why : goal.returns-in_err-make_folder_at-clause-why
returns-in_err-make_folder_at-clause-why g c =
    let p = err_from_is_err_and c.from_residual.result c.from_residual.ensures.1 in
    rw (p.1, p.2) (elim c.in_err-make_folder_at.ensures.why [
      | inl memory ↦ inl (memory.0, steps_then (leads_well _ _ _ c.loop-end.invariant.through.2) memory.1)
      | inr fails ↦ inr (way_then _ _ _ _ (prepares_grow _ _ _ _ _ c.loop-end.invariant.prepared) fails)
    ])

pub returns-clause-why : goal.returns-clause-why
returns-clause-why g c = IfErr-weaker c.note.result _ _ (λ error want. inl (want, leads_well _ _ _ c.loop-end.invariant.through.2)) c.note.ensures.memory

pub returns-in_err-make_folder_at-clause-stops : goal.returns-in_err-make_folder_at-clause-stops
returns-in_err-make_folder_at-clause-stops g c =
    let so_far = c.loop-end.invariant.through in
    on_err_only c.from_residual.result
    (inl (stops_here c.args.path.now c.args.from c.loop-end.end so_far.0 c.loop-end-test.true so_far.1 _ _ _ so_far.2 c.in_err-make_folder_at.ensures.stops))

pub returns-clause-stops : goal.returns-clause-stops
returns-clause-stops g c =
    let so_far = c.loop-end.invariant.through in
    on_err_only c.note.result
    (inr (subst (λ (folders : List (List ℕ)). Leads folders (g.S.System.log c.args.system.now) (g.S.System.log c.loop-end.system))
    (all_seen c.args.path.now c.args.from c.loop-end.end so_far.0 c.loop-end-test.false so_far.1) so_far.2))

use Rattle.cv_base.proofs.Laws.{left_by}
use Rattle.cv_graft.specs.MakesInner.{Rejoins}
use Rattle.cv_graft.proofs.Makes.{kept_behind}
use Rattle.cv_graft.proofs.rebuilding.rejoined.Goals as goal

pub returns-in_err-joined-clause-rejoins : goal.returns-in_err-joined-clause-rejoins
returns-in_err-joined-clause-rejoins g c =
    left_by (Rejoins (g.C.Coming.outcomes c.args.coming.now c.args.path.now) c.args.catalogue (g.C.Coming.own c.args.coming.now) c.args.added.now.items c.join.new.added.items) _ _ c.from_residual.ensures.1 c.in_err-joined.ensures.joins

pub returns-clause-rejoins : goal.returns-clause-rejoins
returns-clause-rejoins g c = record {
  is = c.in_ok-joined.joined;
  joined = c.in_ok-joined.ensures.joins;
  kept = kept_behind c.in_ok-joined.joined (g.C.Coming.own c.args.coming.now) c.args.added.now.items c.join.new.added.items c.keep.new.added.items c.in_ok-keep.field-0 c.in_ok-joined.ensures.added
      (record { hash = c.in_ok-keep.ensures.hash; size = c.in_ok-keep.ensures.size; added = c.in_ok-keep.ensures.added });
}

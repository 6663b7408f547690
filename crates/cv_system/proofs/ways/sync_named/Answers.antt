use Rattle.std.proofs.Common.{◌∙◌, take}
use Rattle.std.proofs.lemmas.Result.{err_from_is_err_and}
use Rattle.cv_system.specs.Calls.{Named}
use Rattle.cv_system.specs.Ways.{NoWayRead}
use Rattle.cv_system.proofs.Trying.{call_at, told_before}
use Rattle.cv_system.proofs.WaySyncs.{all_ways_read, makes_told, more_ways_read, no_more_ways, read_way_fails, ways_make}
use Rattle.cv_system.proofs.ways.sync_named.Goals as goal

pub loop-init : goal.loop-init
loop-init g c = record { entered = c.requires; reads = NoWayRead }

pub returns-in_default : goal.returns-in_default
returns-in_default g c =
    no_more_ways _ _ _ _ c.loop.invariant.reads _ _ (call_at Named _ _ c.args.folder.now _ _ c.loop.invariant.entered c.in_default.ensures.call)

pub returns-then-count-eq0 : goal.returns-then-count-eq0
returns-then-count-eq0 g c =
    all_ways_read _ _ _ _ c.loop.invariant.reads _ c.in-Ok.count c.read_names.new.buffer (call_at Named _ _ c.args.folder.now _ _ c.loop.invariant.entered c.in-Ok.ensures.call) c.if-count-eq0.true

pub returns-in_err-sync_among : goal.returns-in_err-sync_among
returns-in_err-sync_among g c =
    let p = err_from_is_err_and c.from_residual.result c.from_residual.ensures.1 in
    rw (p.1, p.2) (read_way_fails _ _ _ _ c.loop.invariant.reads _ (take c.in-Ok.count c.read_names.new.buffer)
    (call_at Named _ _ c.args.folder.now _ _ c.loop.invariant.entered c.in-Ok.ensures.call) _ _ c.in_err-sync_among.ensures)

pub loop-preserved : goal.loop-preserved
loop-preserved g c = record {
  entered = λ some. c.read_names.ensures.folder
      ∙ c.loop.invariant.entered (told_before _ _ _ c.read_names.ensures.call
      (makes_told (ways_make (λ _. Unit {0}) (λ _ _. tt) (λ _ _. tt) (λ _ _. tt) (λ _ _. tt) _ _ _ _ _ c.in_ok-sync_among.ensures) some));
  reads = more_ways_read _ _ _ _ c.loop.invariant.reads _ (take c.in-Ok.count c.read_names.new.buffer)
      (call_at Named _ _ c.args.folder.now _ _ c.loop.invariant.entered c.in-Ok.ensures.call) _ c.in_ok-sync_among.ensures;
}

use Rattle.std.proofs.Common.{◌≡◌, ◌∙◌, ap, arith, refl, take}
use Rattle.std.proofs.lemmas.Result.{err_from_is_err_and}
use Rattle.cv_system.specs.Calls.{Named}
use Rattle.cv_system.specs.Walks.{NoneRead}
use Rattle.cv_system.proofs.Looking.{names_told}
use Rattle.cv_system.proofs.Rounds.{front_of, fails_among, reads_all, reads_more, reads_no_more}
use Rattle.cv_system.proofs.Trying.{call_at, told_before}
use Rattle.cv_system.proofs.walk.Walk.read_all.Goals as goal

pub loop-init : goal.loop-init
loop-init g c = record { folder = refl; last = refl; entered = c.requires; reads = NoneRead }

pub returns-in_default-clause-fails : goal.returns-in_default-clause-fails
returns-in_default-clause-fails g c =
    reads_no_more _ _ _ _ _ _ _ c.loop.invariant.reads _ _ (call_at Named _ _ c.args.self.now.place.folder _ _ c.loop.invariant.entered c.in_default.ensures.call)

pub returns-then-count-eq0-clause-reads : goal.returns-then-count-eq0-clause-reads
returns-then-count-eq0-clause-reads g c =
    reads_all _ _ _ _ _ _ _ c.loop.invariant.reads _ c.in-Ok.count c.read_names.new.buffer (call_at Named _ _ c.args.self.now.place.folder _ _ c.loop.invariant.entered c.in-Ok.ensures.call) c.if-count-eq0.true

pub returns-in_err-look_at-clause-fails : goal.returns-in_err-look_at-clause-fails
returns-in_err-look_at-clause-fails g c =
    let p = err_from_is_err_and c.from_residual.result c.from_residual.ensures.1 in
    let front : take c.in-Ok.count c.deref.result.now ≡ take c.in-Ok.count c.read_names.new.buffer = ap (take c.in-Ok.count) c.deref.ensures.value
    ∙ front_of c.in-Ok.count _ c.read_names.new.buffer _ c.in-Ok.ensures.within (omega (arith, c.in-Ok.ensures.within, c.read_names.auto.buffer, c.deref_mut.ensures.len)) in
    rw p.1 (fails_among _ _ _ _ _ _ _ c.loop.invariant.reads _ (take c.in-Ok.count c.read_names.new.buffer) _ _ c.loop.invariant.folder c.loop.invariant.last
    (call_at Named _ _ c.args.self.now.place.folder _ _ c.loop.invariant.entered c.in-Ok.ensures.call) _ (rw front at c.in_err-look_at.ensures.fails))

pub loop-preserved : goal.loop-preserved
loop-preserved g c =
    let front : take c.in-Ok.count c.deref.result.now ≡ take c.in-Ok.count c.read_names.new.buffer = ap (take c.in-Ok.count) c.deref.ensures.value
    ∙ front_of c.in-Ok.count _ c.read_names.new.buffer _ c.in-Ok.ensures.within (omega (arith, c.in-Ok.ensures.within, c.read_names.auto.buffer, c.deref_mut.ensures.len)) in
    record {
      folder = c.look_at.ensures.folder ∙ c.loop.invariant.folder;
      last = c.look_at.ensures.last ∙ c.loop.invariant.last;
      entered = λ some. c.read_names.ensures.folder
          ∙ c.loop.invariant.entered (told_before _ _ _ c.read_names.ensures.call (names_told _ _ _ _ _ _ _ c.in_ok-look_at.ensures.looks some));
      reads = reads_more _ _ _ _ _ _ _ c.loop.invariant.reads _ (take c.in-Ok.count c.read_names.new.buffer) _ _ c.loop.invariant.folder c.loop.invariant.last
          (call_at Named _ _ c.args.self.now.place.folder _ _ c.loop.invariant.entered c.in-Ok.ensures.call) _ _ (rw front at c.in_ok-look_at.ensures.looks);
    }

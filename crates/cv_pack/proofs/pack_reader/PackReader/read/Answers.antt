use Rattle.std.proofs.Common.{◌≡◌, List, ℕ, Err, Ok, ◌++◌, ◌∙◌, sym, ap, subst, refl, rules}
use Rattle.std.proofs.lemmas.List.{append-nil}
use Rattle.std.proofs.lemmas.Result.{err_from_is_err_and}
use Rattle.cv_base.proofs.Laws.{ok_is}
use Rattle.cv_pack.specs.declared.entry.Entry.{Entry}
use Rattle.cv_pack.specs.declared.field.Field.TheVariants as fields
use Rattle.cv_pack.specs.ContentsState.{IsOpen}
use Rattle.cv_pack.specs.ContentsStateInner.{Reads}
use Rattle.cv_pack.specs.HeaderState.{Faults}
use Rattle.cv_pack.specs.Reading.{reading}
use Rattle.cv_pack.proofs.Feeding.{ends_taken, fault_of_header, header_taken, parts_taken, contents_taken, fault_of_contents, nothing_after}
use Rattle.cv_pack.proofs.pack_reader.PackReader.read.Goals as goal

pub returns-in_err-used-clause-feeds : goal.returns-in_err-used-clause-feeds
returns-in_err-used-clause-feeds c =
    let p = err_from_is_err_and c.from_residual.result c.from_residual.ensures.1 in
    rw (p.1, p.2) (λ bytes fed text. subst (λ (x : List ℕ). Faults c.in_err-used.field-0.0 (reading ((x ++ c.args.piece.now) ++ text))) (sym fed.parts)
    (fault_of_header fed.header fed.contents c.args.piece.now text c.args.self.now.header_hash c.args.self.now.header c.read.new.self c.args.self.now.contents c.read.result c.in_err-used.field-0.0
    fed.taken c.read.ensures.whole c.in_err-used.was c.in_err-used.ensures.takes))

pub returns-in_err-read-clause-feeds : goal.returns-in_err-read-clause-feeds
returns-in_err-read-clause-feeds c =
    let p = err_from_is_err_and c.from_residual-in_err-read.result c.from_residual-in_err-read.ensures.1 in
    let whole : c.read.new.self.field ≡ fields.Whole = search rules in
    let reads = subst (λ (es : List Entry). IsOpen c.args.self.now.contents es → Reads c.args.self.now.contents c.read-then-is_whole.new.self es c.split_at.result.1.now (Err c.in_err-read.field-0.0)) c.entries.ensures.entries c.in_err-read.ensures in
    rw (p.1, p.2) (λ bytes fed text.
    let mid = header_taken fed.header fed.contents c.args.piece.now c.split_at.result.0.now _ c.update.new.self c.args.self.now.header c.read.new.self c.args.self.now.contents c.in_ok-used.used fed.taken (λ w. (c.in_ok-used.ensures.whole w).1) c.in_ok-used.ensures.takes c.split_at.ensures.front c.in_ok-used.ensures.at c.update.ensures in
    let parts = parts_taken bytes fed.header fed.contents c.args.piece.now c.split_at.result.0.now c.split_at.result.1.now _ c.args.self.now.header c.args.self.now.contents c.in_ok-used.used fed.taken (λ w. ok_is _ _ (c.in_ok-used.ensures.whole w).0) fed.parts c.split_at.ensures.front c.split_at.ensures.back in
    fault_of_contents _ _ fed.contents c.split_at.result.1.now text _ c.read.new.self c.args.self.now.contents c.in_err-read.field-0.0 mid whole parts (reads (mid.is_open c.read.new.self.entries (λ w. refl)) text))

pub returns-in_ok-read-clause-feeds : goal.returns-in_ok-read-clause-feeds
returns-in_ok-read-clause-feeds c = λ bytes fed.
    let whole : c.read.new.self.field ≡ fields.Whole = search rules in
    let reads = subst (λ (es : List Entry). IsOpen c.args.self.now.contents es → Reads c.args.self.now.contents c.read-then-is_whole.new.self es c.split_at.result.1.now (Ok c.in_ok-read.field-0)) c.entries.ensures.entries c.in_ok-read.ensures in
    let mid = header_taken fed.header fed.contents c.args.piece.now c.split_at.result.0.now _ c.update.new.self c.args.self.now.header c.read.new.self c.args.self.now.contents c.in_ok-used.used fed.taken (λ w. (c.in_ok-used.ensures.whole w).1) c.in_ok-used.ensures.takes c.split_at.ensures.front c.in_ok-used.ensures.at c.update.ensures in
    let parts = parts_taken bytes fed.header fed.contents c.args.piece.now c.split_at.result.0.now c.split_at.result.1.now _ c.args.self.now.header c.args.self.now.contents c.in_ok-used.used fed.taken (λ w. ok_is _ _ (c.in_ok-used.ensures.whole w).0) fed.parts c.split_at.ensures.front c.split_at.ensures.back in
    let done = reads (mid.is_open c.read.new.self.entries (λ w. refl)) in
    let taken = contents_taken _ fed.contents c.split_at.result.1.now _ c.read.new.self c.args.self.now.contents c.read-then-is_whole.new.self mid whole done.0 in
    let ends = ends_taken _ _ _ c.read.new.self c.read-then-is_whole.new.self taken whole done.1 in
    record {
      header = fed.header ++ c.split_at.result.0.now;
      contents = fed.contents ++ c.split_at.result.1.now;
      parts = parts;
      taken = record { hash = taken.hash; at = taken.at; header_reads = taken.header_reads; nothing = taken.nothing; is_open = taken.is_open; reads = taken.reads };
      ends = λ w. ap reading parts ∙ ends;
    }

pub returns-else-is_whole-clause-feeds : goal.returns-else-is_whole-clause-feeds
returns-else-is_whole-clause-feeds c = λ bytes fed.
    let other : c.read.new.self.field ≡ fields.Whole → ⊥ = search rules in
    let nothing = nothing_after c.args.self.now.header c.read.new.self c.args.piece.now c.split_at.result.1.now c.in_ok-used.used c.in_ok-used.ensures.takes other c.split_at.ensures.back in
    let taken = header_taken fed.header fed.contents c.args.piece.now c.split_at.result.0.now _ c.update.new.self c.args.self.now.header c.read.new.self c.args.self.now.contents c.in_ok-used.used fed.taken (λ w. (c.in_ok-used.ensures.whole w).1) c.in_ok-used.ensures.takes c.split_at.ensures.front c.in_ok-used.ensures.at c.update.ensures in
    let parts = parts_taken bytes fed.header fed.contents c.args.piece.now c.split_at.result.0.now c.split_at.result.1.now _ c.args.self.now.header c.args.self.now.contents c.in_ok-used.used fed.taken (λ w. ok_is _ _ (c.in_ok-used.ensures.whole w).0) fed.parts c.split_at.ensures.front c.split_at.ensures.back in
    let all : bytes ++ c.args.piece.now ≡ (fed.header ++ c.split_at.result.0.now) ++ fed.contents = parts ∙ ap (λ (x : List ℕ). (fed.header ++ c.split_at.result.0.now) ++ (fed.contents ++ x)) nothing ∙ ap (λ (x : List ℕ). (fed.header ++ c.split_at.result.0.now) ++ x) (append-nil fed.contents) in
    record {
      header = fed.header ++ c.split_at.result.0.now;
      contents = fed.contents;
      parts = all;
      taken = record { hash = taken.hash; at = taken.at; header_reads = taken.header_reads; nothing = taken.nothing; is_open = taken.is_open; reads = taken.reads };
      ends = λ w. absurd (other w);
    }

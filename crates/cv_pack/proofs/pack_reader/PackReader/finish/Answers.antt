use Rattle.std.proofs.Common.{◌≡◌, ◌<◌, ◌≤◌, Err, Ok, length, ap, subst, arith, rules}
use Rattle.std.specs.Prelude.{Option}
use Rattle.cv_pack.specs.declared.field.Field.TheVariants as fields
use Rattle.cv_pack.specs.declared.pack_fault.PackFault.{PackFault}
use Rattle.cv_pack.specs.declared.pack_fault.PackFault.TheVariants.{Short}
use Rattle.cv_pack.specs.Pack.{pack_bytes}
use Rattle.cv_pack.specs.PackReader.{FedWith}
use Rattle.cv_pack.proofs.Feeding.{fault_ends, short_fed, short_contents, whole_pack, finish_found, finish_only}
use Rattle.cv_pack.proofs.pack_reader.PackReader.finish.Goals as goal

pub returns-in-Some-clause-reads : goal.returns-in-Some-clause-reads
returns-in-Some-clause-reads c = λ bytes fed. fault_ends bytes c.in-Some.fault (subst (λ (o : Option PackFault). FedWith o c.args.self bytes) c.in-Some.is fed)

pub returns-in-Some-clause-only : goal.returns-in-Some-clause-only
returns-in-Some-clause-only c = λ os is fed. finish_only os (Err c.in-Some.fault) is (returns-in-Some-clause-reads c (pack_bytes os) fed)

pub returns-then-not-is_whole-clause-reads : goal.returns-then-not-is_whole-clause-reads
returns-then-not-is_whole-clause-reads c = λ bytes fed.
    let other : c.args.self.header.field ≡ fields.Whole → ⊥ = search rules in
    short_fed c.args.self bytes (subst (λ (o : Option PackFault). FedWith o c.args.self bytes) c.in_default.is fed) other

pub returns-then-not-is_whole-clause-only : goal.returns-then-not-is_whole-clause-only
returns-then-not-is_whole-clause-only c = λ os is fed. finish_only os (Err Short) is (returns-then-not-is_whole-clause-reads c (pack_bytes os) fed)

pub returns-then-len-entries-clause-reads : goal.returns-then-len-entries-clause-reads
returns-then-len-entries-clause-reads c = λ bytes fed.
    let whole : c.args.self.header.field ≡ fields.Whole = search rules in
    let short : length c.args.self.contents.objects.items < length c.args.self.header.entries = omega (arith, ap length c.entries.ensures.entries) in
    short_contents c.args.self bytes (subst (λ (o : Option PackFault). FedWith o c.args.self bytes) c.in_default.is fed) whole short

pub returns-then-len-entries-clause-only : goal.returns-then-len-entries-clause-only
returns-then-len-entries-clause-only c = λ os is fed. finish_only os (Err Short) is (returns-then-len-entries-clause-reads c (pack_bytes os) fed)

pub returns-clause-reads : goal.returns-clause-reads
returns-clause-reads c = λ bytes fed.
    let whole : c.args.self.header.field ≡ fields.Whole = search rules in
    let long : length c.args.self.header.entries ≤ length c.args.self.contents.objects.items = omega (arith, ap length c.entries.ensures.entries) in
    rw c.length.ensures (whole_pack c.args.self bytes c.finalize.result c.new.result (subst (λ (o : Option PackFault). FedWith o c.args.self bytes) c.in_default.is fed) whole long c.new.ensures c.finalize.ensures)

pub returns-clause-found : goal.returns-clause-found
returns-clause-found c = λ bytes fed. finish_found bytes _ (returns-clause-reads c bytes fed)

pub returns-clause-only : goal.returns-clause-only
returns-clause-only c = λ os is fed. finish_only os (Ok (record { objects = c.new.result; header = c.length.result; digest = c.finalize.result })) is (returns-clause-reads c (pack_bytes os) fed)

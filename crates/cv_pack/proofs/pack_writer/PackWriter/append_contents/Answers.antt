use Rattle.std.proofs.Common.{◌≡◌, ◌++◌, ◌∙◌, List, ℕ, ap, subst}
use Rattle.std.specs.Prelude.{OnOk, Result, Ok, Err}
use Rattle.cv_base.specs.declared.object.Object.{Object}
use Rattle.cv_pack.specs.Pack.{IsPack, contents, header_bytes}
use Rattle.cv_pack.specs.PackInner.{lent}
use Rattle.cv_pack.specs.Reading.{reading}
use Rattle.cv_pack.proofs.Packs.{pack_again}
use Rattle.cv_pack.proofs.pack_writer.PackWriter.append_contents.Goals as goal

-- a header and the contents behind it are read back
read_back : {T E : Type 0} (r : Result T E) (os : List Object) (old new : List ℕ) → IsPack os → OnOk r (new ≡ old ++ contents os)
    → OnOk r (old ≡ header_bytes os → reading new ≡ Ok os)
read_back (Ok x) os old new is added = λ front. ap reading added ∙ ap (λ (h : List ℕ). reading (h ++ contents os)) front ∙ pack_again os is
read_back (Err e) os old new is added = tt

pub returns-clause-reads_back : goal.returns-clause-reads_back
returns-clause-reads_back c =
    let old = c.args.out.now.items in
    let new = c.push_contents.new.out.items in
    let added = subst (λ (os : List Object). OnOk c.push_contents.result (new ≡ old ++ contents os)) (ap lent c.as_slice.ensures.value ∙ c.self.view_is) c.push_contents.ensures in
    read_back c.push_contents.result c.args.self.now old new (subst IsPack c.self.view_is c.self.invariant.0) added

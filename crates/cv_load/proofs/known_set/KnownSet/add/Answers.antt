use Rattle.std.proofs.Common.{None, Some, subst, rules}
use Rattle.std.specs.BTreeMap as tree
use Rattle.cv_base.specs.Path.{Path, path_cmp}
use Rattle.cv_base.proofs.Laws.{OnOk-map}
use Rattle.cv_load.proofs.Knowing.{Paths, on_err, first_hash, pair_added, pair_kept}
use Rattle.cv_load.proofs.known_set.KnownSet.add.Goals as goal

pub returns-in-Some-clause-added : goal.returns-in-Some-clause-added
returns-in-Some-clause-added c = OnOk-map c.add_hash.result
    (pair_added c.args.self.now.paths (c.get_mut.follows.lender c.add_hash.new.hashes) c.args.path.now (Some c.in-Some.hashes.now) c.add_hash.new.hashes c.in-Some.ensures.value ((c.get_mut.follows.holds c.add_hash.new.hashes).3 (search rules)) c.args.hash)
    c.add_hash.ensures.added

pub returns-in-Some-clause-kept : goal.returns-in-Some-clause-kept
returns-in-Some-clause-kept c = on_err c.add_hash.result
    (pair_kept c.args.self.now.paths (c.get_mut.follows.lender c.add_hash.new.hashes) c.args.path.now (Some c.in-Some.hashes.now) c.add_hash.new.hashes c.in-Some.ensures.value ((c.get_mut.follows.holds c.add_hash.new.hashes).3 (search rules)))
    c.add_hash.ensures.kept

pub returns-clause-added : goal.returns-clause-added
returns-clause-added c =
    let more = c.add_hash-2.new.hashes in
    let at_copy : tree.Updates path_cmp c.args.self.now.paths c.insert.new.self c.in_ok-copy.copy (Some more) =
    subst (λ (m : Paths). tree.Updates path_cmp m c.insert.new.self c.in_ok-copy.copy (Some more)) c.get_mut.follows.holds-at-none c.in_ok-insert.ensures.updates in
    let at_path : tree.Updates path_cmp c.args.self.now.paths c.insert.new.self c.args.path.now (Some more) =
    subst (λ (x : Path). tree.Updates path_cmp c.args.self.now.paths c.insert.new.self x (Some more)) c.in_ok-copy.ensures at_copy in
    pair_added c.args.self.now.paths c.insert.new.self c.args.path.now None more c.in_default.ensures.value at_path c.args.hash (first_hash c.args.hash c.new-hashes.result more c.new-hashes.ensures.empty c.in_ok-add_hash.ensures.added)

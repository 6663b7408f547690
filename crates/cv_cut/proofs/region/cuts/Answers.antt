use Rattle.std.proofs.Common.{◌≡◌, ◌∙◌, Some, map, reverse, take, sym, ap, subst}
use Rattle.std.specs.List.{filter}
use Rattle.std.specs.FinMap.{get, entries}
use Rattle.std.proofs.lemmas.List.{take_all}
use Rattle.std.proofs.lemmas.List.Elements.{All-get_or}
use Rattle.cv_base.specs.Path.{Path}
use Rattle.cv_tree.specs.declared.node.Node.{Node}
use Rattle.cv_cut.specs.Cuts.{is_cut}
use Rattle.cv_cut.proofs.RegionLists.{filter_keys}
use Rattle.cv_cut.proofs.Standing.{entries_stand}
use Rattle.cv_cut.proofs.region.cuts.Goals as goal

pub is_cut-requires-clause-node : goal.is_cut-requires-clause-node
is_cut-requires-clause-node c =
    let all = entries_stand c.args.tree.now c.args.entries.now c.requires.entries in
    let item = All-get_or (λ (e : Path × Node). get c.args.tree.now e.0 ≡ Some e.1) c.args.entries.now c.loop-entry.entry-index _ c.loop-entry-test.true all in
    subst (λ (e : Path × Node). get c.args.tree.now e.0 ≡ Some e.1) (sym c.entry-item.is) item

pub returns : goal.returns
returns c =
    let all : take c.loop-entry.entry-index c.args.entries.now ≡ entries c.args.tree.now = take_all _ _ c.loop-entry-test.false ∙ c.requires.entries in
    let found = c.loop-entry.invariant ∙ ap (λ es. map (λ e. e.0) (filter (λ e. is_cut c.args.tree.now e.0) es)) all in
    c.reverse.ensures.items ∙ ap reverse (found ∙ sym (filter_keys (is_cut c.args.tree.now) (entries c.args.tree.now)))

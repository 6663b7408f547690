use Rattle.std.proofs.Common.{◌∙◌, List, filter, refl, ap, subst}
use Rattle.cv_base.specs.Path.{Path, covers}
use Rattle.cv_tree.specs.declared.node.Node.{Node}
use Rattle.cv_rows.specs.Made.{AreApart}
use Rattle.cv_cut.specs.Cut.{keys_at, region_at}
use Rattle.cv_cut.specs.Cuts.{cuts_of}
use Rattle.cv_cut.specs.Piece.{IsPiece, IsSharedWithin}
use Rattle.cv_cut.proofs.Collisions.{handed_on}
use Rattle.cv_cut.proofs.PieceLaws.{region_shares, among_shares, each_within, filter_reverse}
use Rattle.cv_cut.proofs.pieces.piece_at.Goals as goal

pub check_keys-requires-clause-cuts : goal.check_keys-requires-clause-cuts
check_keys-requires-clause-cuts c = record {
  path = c.args.path.now;
  is = c.deref-6.ensures.value ∙ c.in_ok-cuts.ensures ∙ ap (filter (λ x. covers c.args.path.now x)) (c.deref-2.ensures.value ∙ c.in_ok-all.ensures) ∙ filter_reverse (λ x. covers c.args.path.now x) (cuts_of c.args.tree);
}

pub returns-in_err-check_keys-clause-fault : goal.returns-in_err-check_keys-clause-fault
returns-in_err-check_keys-clause-fault c =
    let is = c.deref-6.ensures.value ∙ c.in_ok-cuts.ensures ∙ ap (filter (λ x. covers c.args.path.now x)) (c.deref-2.ensures.value ∙ c.in_ok-all.ensures) ∙ filter_reverse (λ x. covers c.args.path.now x) (cuts_of c.args.tree) in
    handed_on (IsSharedWithin c.args.tree c.args.path.now) _ _ c.from_residual-in_err-check_keys.ensures.1
    (among_shares c.args.tree c.args.path.now c.deref-6.result.now c.in_err-check_keys.field-0.0 is c.in_err-check_keys.ensures.err)

pub returns-in_err-check_region-clause-fault : goal.returns-in_err-check_region-clause-fault
returns-in_err-check_region-clause-fault c =
    let is = c.deref-7.ensures.value ∙ c.in_ok-region.ensures ∙ ap (filter (λ (e : Path × Node). covers c.args.path.now e.0)) (c.deref-4.ensures.value ∙ c.in_ok-whole.ensures ∙ ap (region_at c.args.tree) c.root-root.ensures) in
    handed_on (IsSharedWithin c.args.tree c.args.path.now) _ _ c.from_residual-in_err-check_region.ensures.1
    (region_shares c.args.tree c.args.path.now c.deref-7.result.now c.in_err-check_region.field-0.0 is c.in_err-check_region.ensures.err)

pub returns : goal.returns
returns c =
    let cuts = c.in_ok-cuts.ensures ∙ ap (filter (λ x. covers c.args.path.now x)) (c.deref-2.ensures.value ∙ c.in_ok-all.ensures) ∙ filter_reverse (λ x. covers c.args.path.now x) (cuts_of c.args.tree) in
    let region = c.in_ok-region.ensures ∙ ap (filter (λ (e : Path × Node). covers c.args.path.now e.0)) (c.deref-4.ensures.value ∙ c.in_ok-whole.ensures ∙ ap (region_at c.args.tree) c.root-root.ensures) in
    let is : IsPiece (record { tree = c.args.tree; entries = c.new.result; cuts = c.new-2.result; region = c.new-3.result }) c.args.tree c.args.path.now = record {
      tree = refl;
      whole = c.in_ok-entries.ensures.tree;
      entries_are = c.new.ensures ∙ c.in_ok-entries.ensures.entries;
      cuts_are = c.new-2.ensures ∙ cuts;
      region_is = c.new-3.ensures ∙ region;
      apart = each_within c.args.tree c.args.path.now c.deref-6.result.now c.in_ok-entries.ensures.tree (c.deref-6.ensures.value ∙ cuts) c.in_ok-check_keys.ensures.ok;
      keys = subst (λ (es : List (Path × Node)). AreApart (keys_at es)) (c.deref-7.ensures.value ∙ region) c.in_ok-check_region.ensures.ok;
    } in
    record {
      whole = c.in_ok-entries.ensures.tree;
      piece = is;
      ready = λ part only. record { path = c.args.path.now; is = is; only = only.only };
      fault = tt;
    }

use Rattle.std.specs.Option.{option_copied}
use Rattle.cv_tree.specs.Changes.{nodes_of}
use Rattle.cv_overlay.proofs.Bases.{assembled, is_part, is_over}
use Rattle.cv_overlay.proofs.overlaying.overlaid.Goals as goal

pub of_entries-requires : goal.of_entries-requires
of_entries-requires c =
    is_part (nodes_of (option_copied c.args.base)) c.args.changes.now c.args.now _ c.in_ok-entries_of.ensures.base c.entries.ensures.tree c.ranges.now.fits c.requires
    (assembled (nodes_of (option_copied c.args.base)) c.args.changes.now c.args.now _ _ _ _ _ _ _ _ c.new-entries.ensures.items c.root.ensures c.new_root.ensures
    c.in_ok-entries.ensures.entries c.in_ok-entries_of.ensures.entries c.in_ok-push.ensures.items c.in_ok-push_named.ensures c.in_ok-push_kept.ensures)

pub returns : goal.returns
returns c =
    is_over (nodes_of (option_copied c.args.base)) c.args.changes.now c.args.now _ _
    (assembled (nodes_of (option_copied c.args.base)) c.args.changes.now c.args.now _ _ _ _ _ _ _ _ c.new-entries.ensures.items c.root.ensures c.new_root.ensures
    c.in_ok-entries.ensures.entries c.in_ok-entries_of.ensures.entries c.in_ok-push.ensures.items c.in_ok-push_named.ensures c.in_ok-push_kept.ensures)
    c.of_entries.ensures

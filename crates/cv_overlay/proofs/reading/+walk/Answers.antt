use Rattle.std.proofs.Common.{ℕ, ◌+◌, List, [], ◌∷◌, ◌++◌, Result, Ok, Err, ap, sym, subst, ◌∙◌, arith}
use Rattle.cv_base.specs.Path.{Path}
use Rattle.cv_base.proofs.Laws.{left_by}
use Rattle.cv_ports.specs.declared.folder.FolderItem.{FolderItem}
use Rattle.cv_tree.specs.Changes.{FitsUnder}
use Rattle.cv_overlay.specs.declared.event.Event.{Event}
use Rattle.cv_overlay.specs.EventsInner.{placed_all, visits_of, visits_deep}
use Rattle.cv_overlay.specs.Walk.{takes}
use Rattle.cv_overlay.specs.FoundInner.{FoundView, run, Ends}
use Rattle.cv_overlay.specs.declared.read_fault.ReadFault.{ReadFault}
use Rattle.cv_overlay.proofs.Walks.{listed, item_visited, fits_more, below_walked, below_refused, as_deeper, place_below, some_left, takes_so}
use Rattle.cv_overlay.proofs.reading.+walk.Goals as goal

pub events-init : goal.events-init
events-init g t c = record {
  told = λ holds told at place.
      ap (run holds at (visits_of (visits_deep c.args.left holds at) at c.args.above.now c.in_ok-events.events.items)) c.found.view_is
      ∙ listed c.args.left holds at c.args.above.now c.in_ok-items.items c.in_ok-events.events.items c.args.found (c.in_ok-items.ensures.told holds told)
      (c.in_ok-events.ensures ∙ ap (λ (l : List FolderItem). placed_all l []) c.into_vec.ensures);
  ordered = c.in_ok-items.ensures.ordered;
  unchanged = c.in_ok-items.ensures.unchanged;
  stays = c.in_ok-items.ensures.stays;
  lasts = c.in_ok-items.ensures.lasts;
  later = c.in_ok-items.ensures.cause.later;
  fits = λ at place fits. subst (λ (v : FoundView). FitsUnder at v.nodes) (sym c.found.view_is) fits;
}

pub events-preserved-in-Item : goal.events-preserved-in-Item
events-preserved-in-Item g t c = record {
  told = λ holds told at place.
      item_visited (visits_deep c.args.left holds at) holds at c.args.above.now c.events.events.items c.pop_front.new.self.items c.in-Item.item c.events.found c.in_ok-found-in-Item.found _
      (c.in-Some.ensures.items ∙ ap (λ (e : Event). e ∷ c.pop_front.new.self.items) c.in-Item.is)
      (c.in_ok-found-in-Item.ensures.told holds (c.events.invariant.unchanged ∙ told) at place) (c.events.invariant.told holds told at place);
  ordered = c.events.invariant.ordered;
  unchanged = c.in_ok-found-in-Item.ensures.unchanged ∙ c.events.invariant.unchanged;
  stays = c.in_ok-found-in-Item.ensures.stays ∙ c.events.invariant.stays;
  lasts = c.in_ok-found-in-Item.ensures.lasts ∙ c.events.invariant.lasts;
  later = omega (arith, c.events.invariant.later, c.in_ok-found-in-Item.ensures.cause.later);
  fits = λ at place fits.
      fits_more c.args.published.now at c.args.above.now c.in-Item.item.name c.events.found c.in_ok-found-in-Item.found place c.in_ok-found-in-Item.ensures.taken.1 c.in_ok-found-in-Item.ensures.taken.0
      c.in_ok-found-in-Item.ensures.within (c.events.invariant.fits at place fits);
}

pub events-preserved : goal.events-preserved
events-preserved g t c =
    let taken = takes_so c.args.published.now c.as_str.result.now c.in-Below.name c.takes.result c.takes.ensures.value c.as_str.ensures c.if-not-takes.false in
    let next = c.in_ok-next-in-Below.ensures ∙ ap (λ (n : List ℕ). c.args.published.now ++ n ∷ []) c.as_str-in-Below.ensures in
    let deeper = c.in_ok-deeper-in-Below.ensures ∙ ap (λ (n : List ℕ). c.args.above.now ++ n ∷ []) c.as_str-in-Below-2.ensures in
    record {
      told = λ holds told at place.
          below_walked (visits_deep c.args.left holds at) holds at c.args.above.now c.events.events.items c.pop_front.new.self.items c.in-Below.name c.events.found c.in_ok-found-in-Below.found _
          (c.in-Some.ensures.items ∙ ap (λ (e : Event). e ∷ c.pop_front.new.self.items) c.in-Below.is) (ap (λ (w : Path). takes w c.in-Below.name) (sym place) ∙ taken)
          (as_deeper c.args.left holds at c.args.above.now c.in_ok-deeper-in-Below.deeper c.in-Below.name c.events.found (Ok c.in_ok-found-in-Below.found) (some_left c.args.published.now c.in-Below.name c.args.left c.requires taken) deeper
          (c.in_ok-found-in-Below.ensures.told holds (c.events.invariant.unchanged ∙ told) at (place_below c.args.published.now at c.args.above.now _ _ c.in-Below.name place next deeper)))
          (c.events.invariant.told holds told at place);
      ordered = c.events.invariant.ordered;
      unchanged = c.in_ok-found-in-Below.ensures.unchanged ∙ c.events.invariant.unchanged;
      stays = c.in_ok-found-in-Below.ensures.stays ∙ c.events.invariant.stays;
      lasts = c.in_ok-found-in-Below.ensures.lasts ∙ c.events.invariant.lasts;
      later = omega (arith, c.events.invariant.later, c.in_ok-found-in-Below.ensures.cause.later);
      fits = λ at place fits. c.in_ok-found-in-Below.ensures.fits at (place_below c.args.published.now at c.args.above.now _ _ c.in-Below.name place next deeper) (c.events.invariant.fits at place fits);
    }

pub returns-in_err-found-in-Below-clause-told : goal.returns-in_err-found-in-Below-clause-told
returns-in_err-found-in-Below-clause-told g t c = λ holds told at place.
    let taken = takes_so c.args.published.now c.as_str.result.now c.in-Below.name c.takes.result c.takes.ensures.value c.as_str.ensures c.if-not-takes.false in
    let next = c.in_ok-next-in-Below.ensures ∙ ap (λ (n : List ℕ). c.args.published.now ++ n ∷ []) c.as_str-in-Below.ensures in
    let deeper = c.in_ok-deeper-in-Below.ensures ∙ ap (λ (n : List ℕ). c.args.above.now ++ n ∷ []) c.as_str-in-Below-2.ensures in
    left_by (λ (r : Result FoundView ReadFault). Ends r (run holds at (visits_deep (c.args.left + 1) holds at c.args.above.now) c.args.found)) _ _ c.from_residual-in_err-found-in-Below.ensures.1
    (below_refused (visits_deep c.args.left holds at) holds at c.args.above.now c.events.events.items c.pop_front.new.self.items c.in-Below.name c.events.found _ _
    (c.in-Some.ensures.items ∙ ap (λ (e : Event). e ∷ c.pop_front.new.self.items) c.in-Below.is) (ap (λ (w : Path). takes w c.in-Below.name) (sym place) ∙ taken)
    (as_deeper c.args.left holds at c.args.above.now c.in_ok-deeper-in-Below.deeper c.in-Below.name c.events.found (Err _) (some_left c.args.published.now c.in-Below.name c.args.left c.requires taken) deeper
    (c.in_err-found-in-Below.ensures.told holds (c.events.invariant.unchanged ∙ told) at (place_below c.args.published.now at c.args.above.now _ _ c.in-Below.name place next deeper)))
    (c.events.invariant.told holds told at place))

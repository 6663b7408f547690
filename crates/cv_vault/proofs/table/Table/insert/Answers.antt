use Rattle.std.proofs.Common.{◌≡◌, [], ◌∷◌, ◌++◌, length, cond, refl, sym, ap, subst, ◌∙◌, arith}
use Rattle.std.specs.BTreeMap.{get_by_text}
use Rattle.std.specs.Str.{bytes_eq}
use Rattle.std.specs.String.{string_bytes}
use Rattle.std.specs.declared.option.Option.TheVariants.{Some}
use Rattle.std.proofs.lemmas.Map.Text.{btree_map_updates_text}
use Rattle.std.proofs.lemmas.List.{append-nil}
use Rattle.cv_vault.specs.Names.{Name}
use Rattle.cv_vault.specs.Table.{Rows}
use Rattle.cv_vault.specs.TableInner.{Lacks, names_in}
use Rattle.cv_vault.specs.declared.table.Table.TheInside.{Inside}
use Rattle.cv_vault.proofs.Growing.{table_grown, stays_grown}
use Rattle.cv_vault.proofs.Changing.{Pushes, new_entry, table_pushed, stays_pushed}
use Rattle.cv_vault.proofs.table.Table.insert.Goals as goal

pub invariant_of-self-in_err-push : goal.invariant_of-self-in_err-push
invariant_of-self-in_err-push c =
    let after : Inside = record c.self.inside { names = c.push.new.self } in
    table_grown c.self.inside after c.self.invariant (record { names_more = []; names = c.in_err-push.ensures.items ∙ sym (append-nil _); entries = refl; numbers = refl; unsettled = refl; room = omega arith; contents_more = []; contents = sym (append-nil _); changes = refl })

pub returns-in_err-push-clause-stays : goal.returns-in_err-push-clause-stays
returns-in_err-push-clause-stays c =
    let after : Inside = record c.self.inside { names = c.push.new.self } in
    rw (← c.self.view_is) (stays_grown c.self.inside after c.self.invariant (record { names_more = []; names = c.in_err-push.ensures.items ∙ sym (append-nil _); entries = refl; numbers = refl; unsettled = refl; room = omega arith; contents_more = []; contents = sym (append-nil _); changes = refl }))

pub invariant_of-self-in_err-reserve : goal.invariant_of-self-in_err-reserve
invariant_of-self-in_err-reserve c =
    let after : Inside = record c.self.inside { names = c.push.new.self; entries = c.reserve.new.self } in
    table_grown c.self.inside after c.self.invariant (record { names_more = _; names = c.in_ok-push.ensures.items; entries = c.in_err-reserve.ensures.items; numbers = refl; unsettled = refl; room = omega arith; contents_more = []; contents = sym (append-nil _); changes = refl })

pub returns-in_err-reserve-clause-stays : goal.returns-in_err-reserve-clause-stays
returns-in_err-reserve-clause-stays c =
    let after : Inside = record c.self.inside { names = c.push.new.self; entries = c.reserve.new.self } in
    rw (← c.self.view_is) (stays_grown c.self.inside after c.self.invariant (record { names_more = _; names = c.in_ok-push.ensures.items; entries = c.in_err-reserve.ensures.items; numbers = refl; unsettled = refl; room = omega arith; contents_more = []; contents = sym (append-nil _); changes = refl }))

pub invariant_of-self-in_err-reserve-2 : goal.invariant_of-self-in_err-reserve-2
invariant_of-self-in_err-reserve-2 c =
    let after : Inside = record c.self.inside { names = c.push.new.self; entries = c.reserve.new.self; unsettled = c.reserve-2.new.self } in
    table_grown c.self.inside after c.self.invariant (record { names_more = _; names = c.in_ok-push.ensures.items; entries = c.in_ok-reserve.ensures.items; numbers = refl; unsettled = c.in_err-reserve-2.ensures.items; room = c.in_err-reserve-2.ensures.capacity; contents_more = []; contents = sym (append-nil _); changes = refl })

pub returns-in_err-reserve-2-clause-stays : goal.returns-in_err-reserve-2-clause-stays
returns-in_err-reserve-2-clause-stays c =
    let after : Inside = record c.self.inside { names = c.push.new.self; entries = c.reserve.new.self; unsettled = c.reserve-2.new.self } in
    rw (← c.self.view_is) (stays_grown c.self.inside after c.self.invariant (record { names_more = _; names = c.in_ok-push.ensures.items; entries = c.in_ok-reserve.ensures.items; numbers = refl; unsettled = c.in_err-reserve-2.ensures.items; room = c.in_err-reserve-2.ensures.capacity; contents_more = []; contents = sym (append-nil _); changes = refl }))

pub invariant_of-self-in_err-key : goal.invariant_of-self-in_err-key
invariant_of-self-in_err-key c =
    let after : Inside = record c.self.inside { names = c.push.new.self; entries = c.reserve.new.self; unsettled = c.reserve-2.new.self } in
    table_grown c.self.inside after c.self.invariant (record { names_more = _; names = c.in_ok-push.ensures.items; entries = c.in_ok-reserve.ensures.items; numbers = refl; unsettled = c.in_ok-reserve-2.ensures.items; room = c.in_ok-reserve-2.ensures.capacity; contents_more = []; contents = sym (append-nil _); changes = refl })

pub returns-in_err-key-clause-stays : goal.returns-in_err-key-clause-stays
returns-in_err-key-clause-stays c =
    let after : Inside = record c.self.inside { names = c.push.new.self; entries = c.reserve.new.self; unsettled = c.reserve-2.new.self } in
    rw (← c.self.view_is) (stays_grown c.self.inside after c.self.invariant (record { names_more = _; names = c.in_ok-push.ensures.items; entries = c.in_ok-reserve.ensures.items; numbers = refl; unsettled = c.in_ok-reserve-2.ensures.items; room = c.in_ok-reserve-2.ensures.capacity; contents_more = []; contents = sym (append-nil _); changes = refl }))

pub invariant_of-self-in_err-set_number : goal.invariant_of-self-in_err-set_number
invariant_of-self-in_err-set_number c =
    let after : Inside = record c.self.inside { names = c.push.new.self; entries = c.reserve.new.self; unsettled = c.reserve-2.new.self; numbers = c.set_number.new.numbers } in
    table_grown c.self.inside after c.self.invariant (record { names_more = _; names = c.in_ok-push.ensures.items; entries = c.in_ok-reserve.ensures.items; numbers = c.in_err-set_number.ensures.err; unsettled = c.in_ok-reserve-2.ensures.items; room = c.in_ok-reserve-2.ensures.capacity; contents_more = []; contents = sym (append-nil _); changes = refl })

pub returns-in_err-set_number-clause-stays : goal.returns-in_err-set_number-clause-stays
returns-in_err-set_number-clause-stays c =
    let after : Inside = record c.self.inside { names = c.push.new.self; entries = c.reserve.new.self; unsettled = c.reserve-2.new.self; numbers = c.set_number.new.numbers } in
    rw (← c.self.view_is) (stays_grown c.self.inside after c.self.invariant (record { names_more = _; names = c.in_ok-push.ensures.items; entries = c.in_ok-reserve.ensures.items; numbers = c.in_err-set_number.ensures.err; unsettled = c.in_ok-reserve-2.ensures.items; room = c.in_ok-reserve-2.ensures.capacity; contents_more = []; contents = sym (append-nil _); changes = refl }))

pushed : goal.After-push_reserved → Inside
pushed c = record c.self.inside { names = c.push.new.self; entries = c.push_reserved.new.self; numbers = c.set_number.new.numbers; unsettled = c.reserve-2.new.self }

pushes : (c : goal.After-push_reserved) → Pushes c.self.inside (pushed c) c.args.name.now
unfolding pushed
pushes c =
    let t = c.self.inside in
    let at = c.len-at.ensures ∙ t.entries.ok.0 in
    record {
      lacks = subst (λ (t : Rows). Lacks c.args.name.now (names_in t.names t.entries)) (sym c.self.view_is) c.requires.absent;
      names = c.in_ok-push.ensures.items ∙ ap (λ (x : Name). t.names.items ++ x ∷ []) (c.new.ensures ∙ c.in_ok-from_str.ensures.ok);
      contents = refl;
      entries = c.push_reserved.ensures.items ∙ ap (λ es. es ++ new_entry c.len-number.result ∷ []) c.in_ok-reserve.ensures.items ∙ ap (λ k. t.entries.items ++ new_entry k ∷ []) (c.len-number.ensures ∙ t.names.ok.0);
      ordered = c.in_ok-set_number.ensures.ordered;
      numbers = λ q. (subst (λ bs. get_by_text c.set_number.new.numbers q ≡ cond (bytes_eq bs q) (Some (length t.entries.items)) (get_by_text t.numbers q)) c.in_ok-key.ensures.ok
          (subst (λ k. get_by_text c.set_number.new.numbers q ≡ cond (bytes_eq (string_bytes c.in_ok-key.key) q) (Some k) (get_by_text t.numbers q)) at
          (btree_map_updates_text (string_bytes c.in_ok-key.key) t.numbers c.set_number.new.numbers (Some c.len-at.result) c.in_ok-set_number.ensures.ok q)));
      unsettled = c.in_ok-reserve-2.ensures.items;
      room = let r = c.in_ok-reserve-2.ensures.ok in let a = at in omega arith;
      changes = refl;
    }

pub invariant_of-self-2 : goal.invariant_of-self-2
unfolding pushed
invariant_of-self-2 c = table_pushed c.self.inside (pushed c) c.args.name.now c.self.invariant (pushes c)

pub returns-clause-stays : goal.returns-clause-stays
unfolding pushed
returns-clause-stays c = rw (← c.self.view_is) (stays_pushed c.self.inside (pushed c) c.args.name.now c.self.invariant (pushes c))

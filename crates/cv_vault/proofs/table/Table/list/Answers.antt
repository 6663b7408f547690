use Rattle.std.proofs.Common.{◌≡◌, ◌++◌, Bool, true, false, nat_eq, List, [], refl, sym, subst, ◌∙◌}
use Rattle.std.specs.Bool.{MatchBool}
use Rattle.std.specs.List.{filter, starts_with}
use Rattle.std.specs.Str.Pattern.{HasPrefixMatch, FindsTextPrefix}
use Rattle.std.specs.declared.option.Option.TheVariants.{None}
use Rattle.std.specs.String.{string_bytes}
use Rattle.std.proofs.lemmas.List.Elements.{All-head}
use Rattle.std.proofs.lemmas.Str.Pattern.{starts_text}
use Rattle.cv_vault.specs.Disk.{IsListing}
use Rattle.cv_vault.specs.Names.{Name}
use Rattle.cv_vault.specs.Table.{Rows}
use Rattle.cv_vault.specs.TableInner.{is_listed, table_disk, IsEntryOf}
use Rattle.cv_vault.proofs.Ordered.{names_of}
use Rattle.cv_vault.proofs.Listing.{AreLeft, left_first, all_left, left_next, left_past, listed_by, listing, complete, kept_step, skipped_step}
use Rattle.cv_vault.proofs.table.Table.list.Goals as goal
use Rattle.cv_vault.proofs.table.Table.list.Goals.{in-None, in-Some+then-not-starts_with}

pub loop-name-init : goal.loop-name-init
loop-name-init c =
    let t = c.self.inside in
    let prefix = c.args.prefix.now in
    let from = c.into_iter-name-iterator.ensures.into_iter_gives ∙ c.range-name-items.ensures.between tt in
    let all = all_left t c.self.invariant c.in_ok-first.first prefix c.in_ok-first.ensures.ok c.into_iter-name-iterator.result from in
    rw (← c.self.view_is) (record {
      so_far = rw (c.new-listed.ensures.items, all) (listing t c.self.invariant prefix);
      left = left_first t c.self.invariant c.in_ok-first.first prefix c.in_ok-first.ensures.ok c.into_iter-name-iterator.result from;
    })

pub place_at-requires : goal.place_at-requires
place_at-requires c =
    let left = subst (λ ps. AreLeft c.args.self.now c.args.prefix.now ps) c.in-Some.ensures.steps c.loop-name.invariant.left in
    (All-head (λ q. IsEntryOf c.args.self.now (string_bytes q.0) q.1) (c.in-Some.name.now, c.in-Some.number.now) c.next.new.self left.placed).0

-- a name begins with the prefix or doesn't, as a test on its text told
begins : (prefix text name : Name) (r b : Bool) → MatchBool r (HasPrefixMatch (FindsTextPrefix prefix) text) (FindsTextPrefix prefix text None) → r ≡ b → text ≡ name → starts_with nat_eq name prefix ≡ b
begins prefix text name r b told is same = subst (λ (n : Name). starts_with nat_eq n prefix ≡ b) same (sym (starts_text r prefix text told) ∙ is)

pub loop-name-preserved-in_ok-push : goal.loop-name-preserved-in_ok-push
loop-name-preserved-in_ok-push c =
    let t : Rows = c.args.self.now in
    let f = is_listed (table_disk t) c.args.prefix.now in
    let n = string_bytes c.in-Some.name.now in
    let left = subst (λ ps. AreLeft t c.args.prefix.now ps) c.in-Some.ensures.steps c.loop-name.invariant.left in
    let before = subst (λ ps. IsListing (table_disk t) c.args.prefix.now (c.loop-name.listed.items ++ filter f (names_of string_bytes ps))) c.in-Some.ensures.steps c.loop-name.invariant.so_far in
    let so = begins c.args.prefix.now c.as_str.result.now n c.starts_with.result true c.starts_with.ensures.cases c.if-not-starts_with.false c.as_str.ensures.value in
    let at = All-head (λ q. IsEntryOf t (string_bytes q.0) q.1) (c.in-Some.name.now, c.in-Some.number.now) c.next.new.self left.placed in
    let name : c.new.result ≡ n = c.new.ensures ∙ c.in_ok-from_str.ensures.ok ∙ c.as_str-then-is_some.ensures.value in
    let there = rw c.place_at.ensures.place at (sym c.is_some.ensures ∙ c.if-is_some.true) in
    let step = kept_step f c.loop-name.listed.items n (names_of string_bytes c.next.new.self) (listed_by t c.place_at.ensures.table c.args.prefix.now n c.in-Some.number.now true at so there) in
    record {
      so_far = rw (c.in_ok-push.ensures.items, name) (subst (λ (ns : List Name). IsListing (table_disk t) c.args.prefix.now ns) (sym step) before);
      left = left_next t c.args.prefix.now (c.in-Some.name.now, c.in-Some.number.now) c.next.new.self left;
    }

pub loop-name-preserved : goal.loop-name-preserved
loop-name-preserved c =
    let t : Rows = c.args.self.now in
    let f = is_listed (table_disk t) c.args.prefix.now in
    let n = string_bytes c.in-Some.name.now in
    let left = subst (λ ps. AreLeft t c.args.prefix.now ps) c.in-Some.ensures.steps c.loop-name.invariant.left in
    let before = subst (λ ps. IsListing (table_disk t) c.args.prefix.now (c.loop-name.listed.items ++ filter f (names_of string_bytes ps))) c.in-Some.ensures.steps c.loop-name.invariant.so_far in
    let so = begins c.args.prefix.now c.as_str.result.now n c.starts_with.result true c.starts_with.ensures.cases c.if-not-starts_with.false c.as_str.ensures.value in
    let at = All-head (λ q. IsEntryOf t (string_bytes q.0) q.1) (c.in-Some.name.now, c.in-Some.number.now) c.next.new.self left.placed in
    let none = rw c.place_at.ensures.place at (sym c.is_some.ensures ∙ c.if-is_some.false) in
    let step = skipped_step f c.loop-name.listed.items n (names_of string_bytes c.next.new.self) (listed_by t c.place_at.ensures.table c.args.prefix.now n c.in-Some.number.now false at so none) in
    record {
      so_far = subst (λ (ns : List Name). IsListing (table_disk t) c.args.prefix.now ns) (sym step) before;
      left = left_next t c.args.prefix.now (c.in-Some.name.now, c.in-Some.number.now) c.next.new.self left;
    }

pub returns-clause-listing : goal.returns-clause-listing
returns-clause-listing c =
    let t : Rows = c.args.self.now in
    let f = is_listed (table_disk t) c.args.prefix.now in
    let rest = names_of string_bytes c.loop-name.name-iterator in
    let all = λ (none : filter f rest ≡ []).
    subst (λ (ns : List Name). IsListing (table_disk t) c.args.prefix.now ns) (complete f c.loop-name.listed.items rest none) c.loop-name.invariant.so_far in
    elim c.match-next.branch [
      | in-None w ↦ all (rw w.in-None.ensures.steps.0 refl)
      | in-Some+then-not-starts_with w ↦
          let left = subst (λ ps. AreLeft t c.args.prefix.now ps) w.in-Some.ensures.steps c.loop-name.invariant.left in
          let other = begins c.args.prefix.now w.as_str.result.now (string_bytes w.in-Some.name.now) w.starts_with.result false w.starts_with.ensures.cases w.if-not-starts_with.true w.as_str.ensures.value in
          all (rw w.in-Some.ensures.steps (left_past t c.args.prefix.now (w.in-Some.name.now, w.in-Some.number.now) c.next.new.self left other))
    ]

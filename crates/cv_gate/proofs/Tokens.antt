-- Tokens are numbered one after another.
use Rattle.std.proofs.Common.{ℕ, ◌≡◌, ◌+◌, List, [], ◌∷◌, length, refl, sym, ap, ◌∙◌, inl, inr, arith}
use Rattle.std.specs.declared.option.Option.TheVariants.{None, Some}
use Rattle.std.specs.List.{cons_option}
use Rattle.cv_base.specs.declared.token.Token.{Token}
use Rattle.cv_base.specs.Path.{Path}
use Rattle.cv_base.specs.declared.object.Object.{Object}
use Rattle.cv_gate.specs.State.{State, aged, Settled, certain, unmade, published}
use Rattle.cv_swap.specs.Kept.{Revision}
use Rattle.cv_gate.specs.Step.{Step, Run}
use Rattle.cv_gate.specs.Laws.{token_given, tokens_given, tokens_from, Numbers}
use Rattle.cv_gate.specs.declared.op.Op.{Op}
use Rattle.cv_gate.specs.declared.reply.Reply.{Reply}
use Rattle.cv_gate.specs.declared.entry.Entry.{Entry}
use Rattle.cv_gate.proofs.Effects.{Effect, nothing, gains, stores, grants, cancels, publishes, wavers, of_act, quiet_fault}

-- a reply gives no token, or the next one
data Gives (st : State) (r : Reply) (st' : State) : Type 0 where
  none : token_given r ≡ None → st'.epoch ≡ st.epoch → st'.next ≡ st.next → Gives st r st'
  one : token_given r ≡ Some (record { epoch = st.epoch; number = st.next }) → st'.epoch ≡ st.epoch → st'.next ≡ st.next + 1 → Gives st r st'

by_effect : {Asked : Revision → Type 0} {Wants : List ℕ → Path → Type 0} {Sends : List Object → Type 0} (st : State) (r : Reply) (st' : State) → Effect Asked Wants Sends st r st' → Gives st r st'
by_effect st r st' (nothing q e) = none q.no_token (ap (λ (s : State). s.epoch) e) (ap (λ (s : State). s.next) e)
by_effect st r st' (gains objects hashed q g) = none q.no_token (ap (λ (s : State). s.epoch) g.others) (ap (λ (s : State). s.next) g.others)
by_effect st r st' (stores objects hashed q g) = none q.no_token (ap (λ (s : State). s.epoch) g.others) (ap (λ (s : State). s.next) g.others)
by_effect st r st' (grants key p head w g held e s) = one (ap token_given e) (ap (λ (x : State). x.epoch) s) (ap (λ (x : State). x.next) s)
by_effect st r st' (cancels token e s) = none (ap token_given e) (ap (λ (x : State). x.epoch) s) (ap (λ (x : State). x.next) s)
by_effect st r st' (publishes new asked sent e stored g s) = none (ap token_given e) (ap (λ (x : State). x.epoch) s ∙ ap (λ (x : State). x.epoch) g.others) (ap (λ (x : State). x.next) s ∙ ap (λ (x : State). x.next) g.others)
by_effect st r st' (wavers new asked sent e stored g s) = none (ap token_given e) (ap (λ (x : State). x.epoch) s ∙ ap (λ (x : State). x.epoch) g.others) (ap (λ (x : State). x.next) s ∙ ap (λ (x : State). x.next) g.others)

pub record IsSame (st st' : State) : Type 0 where
  pub epoch : st'.epoch ≡ st.epoch
  pub next : st'.next ≡ st.next

pub by_settling : (st settled : State) → Settled st settled → IsSame st settled
by_settling st settled (certain calm e) = record { epoch = ap (λ (x : State). x.epoch) e; next = ap (λ (x : State). x.next) e }
by_settling st settled (unmade new is e) = record { epoch = ap (λ (x : State). x.epoch) e; next = ap (λ (x : State). x.next) e }
by_settling st settled (published new is e) = record { epoch = ap (λ (x : State). x.epoch) e; next = ap (λ (x : State). x.next) e }

by_step : (st : State) (o : Op) (e : Entry) (st' : State) → Step st o e st' → Gives st e.reply st'
by_step st o e st' s = elim s.does [
  | inl w ↦ none (quiet_fault e.reply w.fault).no_token (ap (λ (x : State). x.epoch) w.same) (ap (λ (x : State). x.next) w.same)
  | inr g ↦
      let same : IsSame st g.settled = by_settling st g.settled g.settles in
      elim (by_effect (aged g.settled e.now) e.reply st' (of_act (aged g.settled e.now) o e st' s.op s.records g.acts)) [
        | none t epoch next ↦ none t (epoch ∙ same.epoch) (next ∙ same.next)
        | one t epoch next ↦ one (t ∙ (λ i. Some (record { epoch = same.epoch i; number = same.next i }))) (epoch ∙ same.epoch) (next ∙ ap (λ n. n + 1) same.next)
      ]
]

then : (st : State) (e : Entry) (mid : State) (entries : List Entry) (st' : State) → Gives st e.reply mid → Numbers mid entries st' → Numbers st (e ∷ entries) st'
then st e mid entries st' (none t epoch next) n =
    let ts : List Token = tokens_given entries in
    let same : tokens_given (e ∷ entries) ≡ ts = ap (λ o. cons_option o ts) t in
    record {
      tokens = same ∙ n.tokens ∙ (λ i. tokens_from (epoch i) (next i) (sym same i));
      epoch = n.epoch ∙ epoch;
      next = n.next ∙ (λ i. next i + length (sym same i));
    }
then st e mid entries st' (one t epoch next) n =
    let ts : List Token = tokens_given entries in
    let token : Token = record { epoch = st.epoch; number = st.next } in
    let more : tokens_given (e ∷ entries) ≡ token ∷ ts = ap (λ o. cons_option o ts) t in
    let after = n.next in
    let count : st'.next ≡ st.next + length (token ∷ ts) = omega (arith, after, next) in
    record {
      tokens = more ∙ ap (λ x. token ∷ x) (n.tokens ∙ (λ i. tokens_from (epoch i) (next i) ts)) ∙ (λ i. tokens_from st.epoch st.next (sym more i));
      epoch = n.epoch ∙ epoch;
      next = count ∙ (λ i. st.next + length (sym more i));
    }

pub by_run : (st : State) (entries : List Entry) (st' : State) → Run st entries st' → Numbers st entries st'
by_run st [] st' r = record { tokens = refl; epoch = ap (λ (x : State). x.epoch) r; next = (let is : st'.next ≡ st.next = ap (λ (x : State). x.next) r in omega (arith, is)) }
by_run st (e ∷ entries) st' r = then st e r.1 entries st' (by_step st r.0 e r.1 r.2) (by_run r.1 entries st' r.3)

-- What holds of all runs.
use Rattle.std.specs.Prelude.{◌≡◌, ℕ, ◌+◌, Bool, true, false, List, [], ◌∷◌, ◌++◌, length, Option, None, Some}
use Rattle.std.specs.List.{filter_map}
use Rattle.cv_base.specs.declared.token.Token.{Token}
use Rattle.cv_gate.specs.State.{State, Settled}
use Rattle.cv_swap.specs.Kept.{Revision}
use Rattle.cv_gate.specs.declared.entry.Entry.{Entry}
use Rattle.cv_gate.specs.declared.act.Act.TheVariants as act
use Rattle.cv_gate.specs.declared.reply.Reply.{Reply}
use Rattle.cv_gate.specs.declared.reply.Reply.TheVariants as reply

-- ---- revisions

abbrev pub is_committed : Reply → Bool
is_committed (reply.Committed revision root) = true
is_committed other = false

-- the revision is the one for which the entry asked
pub record IsAsked (e : Entry) (new : Revision) : Type 0 where
  pub key : e.key ≡ new.record_.key
  pub old_root : List ℕ
  pub is : e.act ≡ act.Commit new.record_.token old_root new.record_.offered new.record_.tag

-- The revisions that entries made, in their order. Each commit that was told Committed made the revision that it was told,
-- one that was answered StoreFailed may have made one, and no other entry did.
pub data Makes : List Entry → List Revision → Type 0 where
  nothing : Makes [] []
  told : {e : Entry} {entries : List Entry} {new : Revision} {news : List Revision} → e.reply ≡ reply.Committed new.record_.revision new.record_.root
      → IsAsked e new → Makes entries news → Makes (e ∷ entries) (new ∷ news)
  doubted : {e : Entry} {entries : List Entry} {new : Revision} {news : List Revision} → e.reply ≡ reply.StoreFailed
      → IsAsked e new → Makes entries news → Makes (e ∷ entries) (new ∷ news)
  skips : {e : Entry} {entries : List Entry} {news : List Revision} → is_committed e.reply ≡ false → Makes entries news → Makes (e ∷ entries) news

-- over a run, however its end is settled, the history grows from a settlement of its start by the revisions that its entries
-- made
pub record GrowsBy (st : State) (entries : List Entry) (end : State) : Type 0 where
  pub start : State
  pub settles : Settled st start
  pub news : List Revision
  pub history : end.history ≡ start.history ++ news
  pub makes : Makes entries news

-- ---- tokens

abbrev pub token_given : Reply → Option Token
token_given (reply.Granted token revision root) = Some token
token_given other = None

-- the tokens that were granted, in their order
abbrev pub tokens_given : List Entry → List Token
tokens_given entries = filter_map (λ e. token_given e.reply) entries

-- the tokens of an epoch with the numbers from one on, as many as there are in the list
abbrev pub tokens_from : ℕ → ℕ → List Token → List Token
tokens_from epoch next [] = []
tokens_from epoch next (t ∷ ts) = record { epoch = epoch; number = next } ∷ tokens_from epoch (next + 1) ts

-- the tokens that a run grants have the epoch of its start and the numbers from its next one on, one after another
pub record Numbers (st : State) (entries : List Entry) (st' : State) : Type 0 where
  pub tokens : tokens_given entries ≡ tokens_from st.epoch st.next (tokens_given entries)
  pub epoch : st'.epoch ≡ st.epoch
  pub next : st'.next ≡ st.next + length (tokens_given entries)

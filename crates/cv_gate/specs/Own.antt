-- The entries that a desk's own calls made.
use Rattle.std.specs.Prelude.{◌≡◌, ◌++◌, ◌∷◌, ℕ, List, []}
use Rattle.cv_gate.specs.Step.{Records}
use Rattle.cv_gate.specs.declared.entry.Entry.{Entry}
use Rattle.cv_gate.specs.declared.op.Op.{Op}
use Rattle.cv_gate.specs.declared.reply.Reply.TheVariants.{JournalFull}
use Rattle.cv_gate.specs.Heads.{IsFront}
use Rattle.cv_gate.specs.Desk.{DeskView, Call, asked, listed, fetched, told, own}

-- The entries are those of the ops that were asked, in order: each has its op, its moment and its reply. Only an op that was
-- answered JournalFull has none.
pub data AreOf : List Call → List Entry → Type 0 where
  nothing : AreOf [] []
  entered : {calls : List Call} {entries : List Entry} (o : Op) (e : Entry) → Records e o → AreOf calls entries → AreOf (asked o e.now e.reply ∷ calls) (e ∷ entries)
  full : {calls : List Call} {entries : List Entry} (o : Op) (now : ℕ) → AreOf calls entries → AreOf (asked o now JournalFull ∷ calls) entries
  listing : {calls : List Call} {entries : List Entry} (now : ℕ) (lines : _) → AreOf calls entries → AreOf (listed now lines ∷ calls) entries
  fetching : {calls : List Call} {entries : List Entry} (id : _) (r : _) → AreOf calls entries → AreOf (fetched id r ∷ calls) entries
  telling : {calls : List Call} {entries : List Entry} (head : _) → AreOf calls entries → AreOf (told head ∷ calls) entries

-- what the calls of any desk made of its seat's entries
pub record Adds (v : DeskView) (calls : List Call) (v' : DeskView) : Type 0 where
  pub entries : List Entry
  pub are : AreOf calls entries
  pub own_ : own v' ≡ own v ++ entries
  pub seen : IsFront v.seen v'.seen
  pub heads : IsFront v.heads v'.heads
  pub seat : v'.seat ≡ v.seat

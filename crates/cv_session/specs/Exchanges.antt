-- One request and its reply.
use Rattle.std.specs.Prelude.{◌||◌, ◌==◌, ℕ, Bool, true, false}
use Rattle.cv_gate.specs.declared.reply.Reply.TheVariants.{JournalFull as full}
use Rattle.cv_session.specs.declared.exchange.TheConstants.{REQUEST_LIMIT}
use Rattle.cv_session.specs.declared.response.Response.{Response}
use Rattle.cv_session.specs.declared.response.Response.TheVariants.{Reply}

-- ---- answering

-- the n-th request is to be the last: it asks so, or a connection may have no more
abbrev pub ends : Bool → ℕ → Bool
ends last n = last || n == REQUEST_LIMIT

-- the reply says that the gate's journal is full
abbrev pub is_full : Response → Bool
is_full (Reply full) = true
is_full other = false

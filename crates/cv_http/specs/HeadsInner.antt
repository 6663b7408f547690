-- The head of a request: what httparse accepts, of at most 16,384 bytes, and what it says. What only this crate's own functions say.
use Rattle.std.specs.Prelude.{ℕ, List}
use Rattle.cv_http.specs.Forms.{UnfinishedAs}
use Rattle.cv_http.specs.Heads.{request_form}

-- the first 16,384 bytes don't begin with a head, and may become one
abbrev pub Unfinished : List ℕ → Type 0
Unfinished = UnfinishedAs request_form

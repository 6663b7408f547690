-- Texts that are JSON objects (RFC 8259).
use Rattle.std.specs.Prelude.{ℕ, List, Option, None, option_and_then, option_map, if◌then◌else◌}
use Rattle.std.specs.Str.{is_utf8}
use Rattle.serde_json.specs.Data.{Data, object}
use Rattle.serde_json.specs.Find.{as_object}
use Rattle.serde_json.specs.Read.{read}

-- a value that is an object
abbrev pub only_object : Data → Option Data
only_object d = option_map object (as_object d)

-- the object that a text is, if it is one that nests no deeper than 127
abbrev pub object_in : List ℕ → Option Data
object_in text = if is_utf8 text then option_and_then only_object (read text) else None

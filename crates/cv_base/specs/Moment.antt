-- Moments, in seconds since 1970: those that every format holds.
use Rattle.std.specs.Prelude.{◌<◌, ◌^◌, ℕ}

abbrev pub IsMoment : ℕ → Type 0
IsMoment moment = moment < 2 ^ 62

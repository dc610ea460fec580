-- Numbers on a command line.
use Rattle.std.specs.Prelude.{ℕ, ◌&&◌, if◌then◌else◌, List, Option, Some, None, length, nat_le}
use Rattle.std.specs.List.{list_all}
use Rattle.std.specs.Str.Parse.{digits_value}
use Rattle.cash_amounts.specs.Names.{is_digit}

-- the number of one to seven digits; zeros may stand in front
abbrev pub number_of : List ℕ → Option ℕ
number_of text = if nat_le 1 (length text) && nat_le (length text) 7 && list_all is_digit text then Some (digits_value 10 text) else None

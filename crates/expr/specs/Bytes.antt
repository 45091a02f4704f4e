-- Character classes of the lexer.
use Rattle.std.specs.Prelude.{ℕ, Bool, ◌||◌, ◌==◌}
use Rattle.std.specs.Char.{is_ascii_digit}

-- space, tab, CR or LF
abbrev pub is_space : ℕ → Bool
is_space b = b == 32 || b == 9 || b == 13 || b == 10

-- a digit or a point
abbrev pub begins_number : ℕ → Bool
begins_number b = is_ascii_digit b || b == 46

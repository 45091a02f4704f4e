-- The form of type names.
use Rattle.std.specs.Prelude.{ℕ, Bool, ◌&&◌, List, length, nat_le}
use Rattle.std.specs.List.{list_all}

-- whether the byte is printable and not a space: 33 to 126
abbrev pub is_graphic : ℕ → Bool
is_graphic b = nat_le 33 b && nat_le b 126

-- whether the text is a type name: one to five bytes from 33 to 126
unfoldable pub is_type_name : List ℕ → Bool
is_type_name text = (nat_le 1 (length text) && nat_le (length text) 5) && list_all is_graphic text

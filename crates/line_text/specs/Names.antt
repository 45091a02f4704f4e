-- Names as their bytes.
use Rattle.std.specs.Prelude.{ℕ, List, take}
use Rattle.line_text.specs.declared.name.Name.{Name}

-- the text of a name
abbrev pub name_text : Name → List ℕ
name_text n = take n.len n.bytes

-- A short list in a table.
use Rattle.std.specs.Prelude.{ℕ, List, take}
use Rattle.values.specs.declared.few.Few.{Few}

-- The items: the front of the table.
abbrev pub items : {T : Type 0} {N : ℕ} → Few T N → List T
items f = take f.count f.table

-- What a script host stands for.
use Rattle.std.specs.Prelude.{is_some}
use Rattle.values.specs.Few.{items}
use Rattle.host.specs.Meaning.{Meaning}
use Rattle.sheet.specs.Decode.{sheet_at}
use Rattle.script.specs.Program.{script_meaning, row_at}
use Rattle.script.specs.declared.player.ScriptHost.{ScriptHost}

-- The sheet is decoded from its bytes.
abbrev pub meaning_of : ScriptHost → Meaning
meaning_of h =
    script_meaning (sheet_at h.sheet.bytes.now) (items h.slots) h.index (is_some h.last)
    (row_at h.sheet.heading.columns h.last) h.byte_limit h.code

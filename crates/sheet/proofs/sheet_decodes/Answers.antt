use Rattle.sheet.proofs.Decoded.{sheet_at_lem}
use Rattle.sheet.proofs.sheet_decodes.Goals as goal

pub returns : goal.returns
returns c = sheet_at_lem

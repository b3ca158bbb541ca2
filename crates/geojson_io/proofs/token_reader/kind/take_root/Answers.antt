use Rattle.std.proofs.Common.{sym}
use Rattle.geojson_io.proofs.token_reader.kind.take_root.Goals as goal

pub returns-in-Ok-clause-read : goal.returns-in-Ok-clause-read
returns-in-Ok-clause-read c = (c.in_ok-text.text.now, c.in_ok-text.ensures.read, sym c.in-Ok.ensures)

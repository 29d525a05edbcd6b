use Rattle.verify_types.proofs.TableCodecs.{tables_are_spelled}
use Rattle.verify_types.proofs.reading.tables_are_spelled.Goals as goal

pub returns : goal.returns
returns c = tables_are_spelled c.args.bytes.now (rw c.new.ensures at c.are_bytes.ensures)

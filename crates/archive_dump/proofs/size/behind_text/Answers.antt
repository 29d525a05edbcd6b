use Rattle.std.proofs.Common.{length, ◌∙◌, arith}
use Rattle.jsa_base.specs.LowFirst.{low_text}
use Rattle.archive_dump.proofs.Room.{none_of, some_of}
use Rattle.archive_dump.proofs.size.behind_text.Goals as goal

pub returns-in_default : goal.returns-in_default
returns-in_default c = none_of c.args.room (4) (length c.args.text.now) (length (low_text c.args.text.now)) c.in_default.ensures (omega arith)

pub returns : goal.returns
returns c = c.behind-2.ensures ∙ some_of c.args.room (4) (length c.args.text.now) (length (low_text c.args.text.now)) c.in-Some.room c.in-Some.ensures (omega arith)

use Rattle.verify_types.proofs.TableCodecs.{few_frames}
use Rattle.verify_types.proofs.reading.table_of.Goals as goal

pub returns-clause-few : goal.returns-clause-few
returns-clause-few c = few_frames c.new-cursor.result c.in_ok-frames.frames c.counted_frames.new.cursor c.are_bytes.ensures c.in_ok-frames.ensures

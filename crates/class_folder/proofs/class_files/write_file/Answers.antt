use Rattle.class_folder.proofs.ClassFiles.{fails_first}
use Rattle.class_folder.proofs.class_files.write_file.Goals as goal

pub returns-in-Err-Failed-clause-writes : goal.returns-in-Err-Failed-clause-writes
returns-in-Err-Failed-clause-writes g c =
    let told = rw c.in-Err-Failed.field-0-is at c.in-Err-Failed.ensures.store in
    let cause = rw c.in-Err-Failed.field-0-is at c.in-Err-Failed.ensures.cause in
    (fails_first (g.F.Files.store c.args.files.now) (g.F.Files.store c.write.new.self) c.args.path.now c.args.bytes.now told, cause.1)

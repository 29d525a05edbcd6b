use Rattle.archive_header.proofs.Headers.{read_again}
use Rattle.archive_header.proofs.header.headers_are_read_again.Goals as goal

pub returns : goal.returns
returns c = read_again

use Rattle.archive_header.proofs.Headers.{joined}
use Rattle.archive_header.proofs.header.push_numbers.Goals as goal

pub returns : goal.returns
returns c =
    rw (c.push-9.ensures.bytes, c.push-8.ensures.bytes, c.push-7.ensures.bytes, c.push-6.ensures.bytes, c.push-5.ensures.bytes, c.push-4.ensures.bytes, c.push-3.ensures.bytes, c.push-2.ensures.bytes, c.push.ensures.bytes, c.low_u8-7.ensures, c.low_u8-6.ensures, c.low_u8-5.ensures, c.low_u8-4.ensures, c.low_u8-3.ensures, c.low_u8-2.ensures, c.low_u8.ensures, c.low_u4-2.ensures, c.low_u4.ensures)
    (joined c.args.block.now _ _ _ _ _ _ _ _ _)

use Rattle.std.proofs.Common.{ℕ, length, ◌-◌, ◌%◌, ap, ◌∙◌, arith}
use Rattle.archive_header.specs.ManifestBytes.{unpadded, manifest_bytes}
use Rattle.archive_dump.specs.Room.{left_of}
use Rattle.archive_dump.proofs.Room.{none_of, some_of, sum_is, left_is, manifest_size}
use Rattle.archive_dump.proofs.size.behind_manifest.Goals as goal

pub returns-in_default : goal.returns-in_default
returns-in_default c = none_of c.args.room (length (unpadded c.args.folders.now)) ((8 - length (unpadded c.args.folders.now) % 8) % 8) (length (manifest_bytes c.args.folders.now)) c.in_default.ensures (manifest_size c.args.folders.now)

pub overflow_sub-room : goal.overflow_sub-room
overflow_sub-room c = let s = sum_is c.args.room (length (unpadded c.args.folders.now)) c.in-Some.left c.in-Some.ensures in omega (arith, s)

pub returns : goal.returns
returns c =
    let behind = left_is c.args.room (length (unpadded c.args.folders.now)) c.in-Some.left c.in-Some.ensures in
    c.behind.ensures ∙ ap (λ (n : ℕ). left_of c.in-Some.left ((8 - n % 8) % 8)) behind
    ∙ some_of c.args.room (length (unpadded c.args.folders.now)) ((8 - length (unpadded c.args.folders.now) % 8) % 8) (length (manifest_bytes c.args.folders.now)) c.in-Some.left c.in-Some.ensures (manifest_size c.args.folders.now)

use Rattle.std.proofs.Common.{◌≡◌, List, Some, slice_get, sym, ap, ◌∙◌}
use Rattle.std.specs.Option.{option_copied}
use Rattle.archive_header.specs.declared.folders.ListedFile.{ListedFile}
use Rattle.archive_header.proofs.Places.{name_is_text}
use Rattle.archive_header.proofs.manifest_type.Manifest.file.Goals as goal

pub as_text-requires : goal.as_text-requires
as_text-requires c =
    let found : slice_get c.in-Some.folder.now.files c.args.entry ≡ Some c.in-Some-at.file.now =
    ap (λ (l : List ListedFile). slice_get l c.args.entry) (sym c.as_slice.ensures) ∙ sym c.at.ensures ∙ ap option_copied c.in-Some-at.is in
    rw c.as_slice-in-Some-at.ensures (name_is_text c.in-Some.folder.now c.args.entry c.in-Some-at.file.now c.in-Some.ensures.listed found)

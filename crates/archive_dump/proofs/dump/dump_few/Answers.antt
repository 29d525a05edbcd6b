use Rattle.std.proofs.Common.{true, false, List, ℕ, length, sym, ap, subst}
use Rattle.archive_header.specs.declared.folders.Folders.{Folders}
use Rattle.archive_header.specs.ManifestBytes.{manifest_bytes, SpellsManifest}
use Rattle.plain_classes.specs.Records.{classes_text, SpellsClasses}
use Rattle.archive_dump.proofs.Dumps.{is_large, is_dump, tested}
use Rattle.archive_dump.proofs.dump.dump_few.Goals as goal

pub returns-then-is_too_large : goal.returns-then-is_too_large
returns-then-is_too_large c =
    let classes = c.args.classes.now in
    let size = ap (λ (m : Folders). length (manifest_bytes m)) c.folders.ensures.folders in
    let above = tested c.classes_size.result (length (manifest_bytes c.folders.result.now)) (length (classes_text classes)) (length (manifest_bytes c.args.manifest.now)) c.is_too_large.result true c.classes_size.ensures size c.is_too_large.ensures c.if-is_too_large.true in
    (c.requires.few, is_large classes c.args.manifest.now above)

pub returns : goal.returns
returns c =
    let classes = c.args.classes.now in
    let folders = c.args.manifest.now in
    let ro = c.deref.result.now in
    let manifest = c.deref-2.result.now in
    let size = ap (λ (m : Folders). length (manifest_bytes m)) c.folders.ensures.folders in
    let within = tested c.classes_size.result (length (manifest_bytes c.folders.result.now)) (length (classes_text classes)) (length (manifest_bytes folders)) c.is_too_large.result false c.classes_size.ensures size c.is_too_large.ensures c.if-is_too_large.false in
    let spells = subst (λ (m : List ℕ). SpellsManifest m folders) (sym c.deref-2.ensures.value) c.in_ok-manifest.ensures in
    let spelled = subst (λ (r : List ℕ). SpellsClasses r (length classes) classes) (sym c.deref.ensures.value) c.in_ok-ro.ensures in
    is_dump c.in_ok-laid_out.field-0.items classes folders ro manifest c.requires.few spells spelled within c.in_ok-laid_out.ensures.fits c.in_ok-laid_out.ensures.bytes

use Rattle.std.proofs.Common.{◌≡◌, ◌∙◌, sym, ap, arith, Some, None}
use Rattle.jsa_base.specs.Reading.{IsBytes}
use Rattle.jsa_base.proofs.Bytes.{each_byte}
use Rattle.jsa_base.proofs.Codecs.{some_is}
use Rattle.archive_header.specs.declared.folders.Folders.{Folders}
use Rattle.archive_header.specs.ManifestBytes.{manifest_of}
use Rattle.archive_header.proofs.Manifests.{takes, again}
use Rattle.archive_header.proofs.manifest_type.read_manifest.Goals as goal

pub new-requires : goal.new-requires
new-requires c =
    let fits : IsBytes c.args.bytes.now = each_byte c.args.bytes.now (λ i. omega (arith, c.type_inv.bytes i)) in
    (takes c.args.bytes.now c.in-Ok.folders fits c.in-Ok.ensures).listed

pub returns-in-Ok-clause-found : goal.returns-in-Ok-clause-found
returns-in-Ok-clause-found c =
    let fits : IsBytes c.args.bytes.now = each_byte c.args.bytes.now (λ i. omega (arith, c.type_inv.bytes i)) in
    rw c.new.ensures (takes c.args.bytes.now c.in-Ok.folders fits c.in-Ok.ensures)

pub returns-in-Ok-clause-only : goal.returns-in-Ok-clause-only
returns-in-Ok-clause-only c = λ folders s. ap (λ (m : Folders). Some m) (c.new.ensures ∙ some_is c.in-Ok.folders folders (sym c.in-Ok.ensures ∙ again c.args.bytes.now folders s))

pub returns-in-Err-NotManifest-clause-only : goal.returns-in-Err-NotManifest-clause-only
returns-in-Err-NotManifest-clause-only c =
    let nothing : manifest_of c.args.bytes.now ≡ None = rw c.in-Err-NotManifest.field-0-is at c.in-Err-NotManifest.ensures in
    λ folders s. let e : None ≡ Some folders = sym nothing ∙ again c.args.bytes.now folders s in absurd cc

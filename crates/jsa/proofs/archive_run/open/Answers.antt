use Rattle.std.proofs.Common.{◌∙◌, sym, subst, ap, refl, Option, Ok, Err}
use Rattle.std.specs.Option.{option_map}
use Rattle.jsa_files.specs.Store.{Store, Contents}
use Rattle.jsa.specs.declared.ended.Ended.{Ended}
use Rattle.jsa_files.specs.Told.{contents_told, reads_told, ReadsBy}
use Rattle.jsa.specs.Archived.{lists_of, MakesOf, archive_reads, OpensNot}
use Rattle.jsa.proofs.Growth.{read_keeps, fault_reads, read_reads}
use Rattle.jsa.proofs.Archives.{found_told, found_small, read_fails, manifest_fails}
use Rattle.jsa.proofs.archive_run.open.Goals as goal

pub returns-in-Err-clause-opens : goal.returns-in-Err-clause-opens
returns-in-Err-clause-opens g c =
    let store = g.F.Files.store c.args.files.now in
    let new = reads_told (g.F.Files.store c.read.new.self) in
    let e = ap reads_told c.in-Err.ensures.store ∙ fault_reads store c.args.archive.now c.in-Err.fault in
    subst (λ (x : Ended). OpensNot (contents_told store) (reads_told store) new c.args.folder.now c.args.archive.now x) (sym c.end_of.ensures)
    (read_fails store new c.args.folder.now c.args.archive.now c.in-Err.fault c.in-Err.ensures.answer c.in-Err.ensures.size e)

pub returns-in-Ok-folder_manifest-clause-opens : goal.returns-in-Ok-folder_manifest-clause-opens
returns-in-Ok-folder_manifest-clause-opens g c =
    let store = g.F.Files.store c.args.files.now in
    let found = option_map (λ bytes. bytes.items) c.in-Ok.found in
    let keeps = ap contents_told c.in-Ok.ensures.store ∙ read_keeps store c.args.archive.now (Ok c.in-Ok.found) in
    let reads = subst (λ (s : Option Store). ReadsBy (reads_told store) (reads_told s) (archive_reads c.args.archive.now found)) (sym c.in-Ok.ensures.store) (read_reads store c.args.archive.now c.in-Ok.found) in (
      record {
        read = record { found = found; at = found_told store c.args.archive.now c.in-Ok.found c.in-Ok.ensures.answer; small = found_small c.in-Ok.found c.in-Ok.ensures.size };
        now = c.in-Ok-folder_manifest.manifest;
        made = subst (λ (o : Option Contents). MakesOf o (lists_of c.args.folder.now) (Ok c.in-Ok-folder_manifest.manifest)) keeps c.in-Ok-folder_manifest.ensures.answer;
      },
      sym c.archive_bytes.ensures,
      refl,
      subst (λ (s : Option Store). ReadsBy (reads_told store) (reads_told s) (archive_reads c.args.archive.now found)) (sym c.in-Ok-folder_manifest.ensures.store) reads,
    )

pub returns-in-Err-folder_manifest-clause-opens : goal.returns-in-Err-folder_manifest-clause-opens
returns-in-Err-folder_manifest-clause-opens g c =
    let store = g.F.Files.store c.args.files.now in
    let new = reads_told (g.F.Files.store c.folder_manifest.new.files) in
    let found = option_map (λ bytes. bytes.items) c.in-Ok.found in
    let keeps = ap contents_told c.in-Ok.ensures.store ∙ read_keeps store c.args.archive.now (Ok c.in-Ok.found) in
    let reads = subst (λ (s : Option Store). ReadsBy (reads_told store) (reads_told s) (archive_reads c.args.archive.now found)) (sym c.in-Ok.ensures.store) (read_reads store c.args.archive.now c.in-Ok.found) in
    let fault = c.in-Err-folder_manifest.fault in
    subst (λ (x : Ended). OpensNot (contents_told store) (reads_told store) new c.args.folder.now c.args.archive.now x) (sym c.end_of-in-Err-folder_manifest.ensures)
    (manifest_fails (contents_told store) (reads_told store) new c.args.folder.now c.args.archive.now
    (record { found = found; at = found_told store c.args.archive.now c.in-Ok.found c.in-Ok.ensures.answer; small = found_small c.in-Ok.found c.in-Ok.ensures.size })
    fault (subst (λ (o : Option Contents). MakesOf o (lists_of c.args.folder.now) (Err fault)) keeps c.in-Err-folder_manifest.ensures.answer) c.in-Err-folder_manifest.ensures.small
    (subst (λ (s : Option Store). ReadsBy (reads_told store) (reads_told s) (archive_reads c.args.archive.now found)) (sym c.in-Err-folder_manifest.ensures.store) reads))

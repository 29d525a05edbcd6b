use Rattle.std.proofs.Common.{◌≡◌, true, sym, ◌∙◌}
use Rattle.archive_mapper.specs.Fronts.{is_plain}
use Rattle.archive_mapper.proofs.Fronts.{front_long}
use Rattle.archive_mapper.proofs.Regions.{region_fits, split_regions}
use Rattle.archive_mapper.proofs.Archives.{not_plain, no_classes, no_manifest, parts_are, has_changed, is_unchanged}
use Rattle.archive_mapper.proofs.mapping.map_parts.Goals as goal

pub is_plain-requires : goal.is_plain-requires
is_plain-requires c = front_long c.args.bytes.now c.args.header.now c.requires

pub returns-then-not-is_plain : goal.returns-then-not-is_plain
returns-then-not-is_plain c = not_plain c.args.bytes.now c.args.header.now c.requires (sym c.is_plain.ensures.plain ∙ c.if-not-is_plain.true)

pub body-requires : goal.body-requires
body-requires c = front_long c.args.bytes.now c.args.header.now c.requires

pub split_at-requires : goal.split_at-requires
split_at-requires c = rw c.body.ensures (region_fits c.args.bytes.now c.args.header.now (sym c.is_plain.ensures.plain ∙ c.if-not-is_plain.false))

pub returns-in_default-classes : goal.returns-in_default-classes
returns-in_default-classes c =
    let regions = split_regions c.args.bytes.now c.args.header.now c.body.result.now c.split_at.result.0.now c.split_at.result.1.now c.body.ensures c.split_at.ensures.front c.split_at.ensures.back in
    no_classes c.args.bytes.now c.args.header.now c.split_at.result.0.now c.split_at.result.1.now c.requires regions (λ classes good. sym c.in_default-classes.is ∙ c.in-Ok.ensures.only classes good)

pub returns-in_default-kept : goal.returns-in_default-kept
returns-in_default-kept c =
    let regions = split_regions c.args.bytes.now c.args.header.now c.body.result.now c.split_at.result.0.now c.split_at.result.1.now c.body.ensures c.split_at.ensures.front c.split_at.ensures.back in
    no_manifest c.args.bytes.now c.args.header.now c.split_at.result.0.now c.split_at.result.1.now c.requires regions (λ kept good. sym c.in_default-kept.is ∙ c.in-Ok-manifest_in.ensures.only kept good)

pub returns-in-Some-change_from : goal.returns-in-Some-change_from
returns-in-Some-change_from c =
    let plain : is_plain c.args.bytes.now c.args.header.now ≡ true = sym c.is_plain.ensures.plain ∙ c.if-not-is_plain.false in
    let regions = split_regions c.args.bytes.now c.args.header.now c.body.result.now c.split_at.result.0.now c.split_at.result.1.now c.body.ensures c.split_at.ensures.front c.split_at.ensures.back in
    let classes = rw c.in-Some.is at c.in-Ok.ensures.found in
    let kept = rw c.in-Some-kept.is at c.in-Ok-manifest_in.ensures.found in
    has_changed c.args.bytes.now _ c.in-Some.classes c.in-Some-kept.kept c.in-Some-change_from.number
    (parts_are c.args.bytes.now c.args.header.now c.split_at.result.0.now c.split_at.result.1.now c.in-Some.classes c.in-Some-kept.kept c.requires plain c.is_plain.ensures.fits regions classes kept)
    c.in-Some-change_from.ensures

pub returns-in-None : goal.returns-in-None
returns-in-None c =
    let plain : is_plain c.args.bytes.now c.args.header.now ≡ true = sym c.is_plain.ensures.plain ∙ c.if-not-is_plain.false in
    let regions = split_regions c.args.bytes.now c.args.header.now c.body.result.now c.split_at.result.0.now c.split_at.result.1.now c.body.ensures c.split_at.ensures.front c.split_at.ensures.back in
    let classes = rw c.in-Some.is at c.in-Ok.ensures.found in
    let kept = rw c.in-Some-kept.is at c.in-Ok-manifest_in.ensures.found in
    record {
      kept = c.in-Some-kept.kept;
      archive = parts_are c.args.bytes.now c.args.header.now c.split_at.result.0.now c.split_at.result.1.now c.in-Some.classes c.in-Some-kept.kept c.requires plain c.is_plain.ensures.fits regions classes kept;
      unchanged = is_unchanged c.in-Some-kept.kept _ c.in-None.ensures;
    }
